-- Laws of lists that are made from their elements' places. Assumes nothing.
use Prim.Native.Nat.{ℕ, zero, suc, ◌+◌, ◌-◌, ◌≤◌, ◌<◌}
use mathlib.Core.Path.{◌≡◌, refl, sym, ap, ◌∙◌}
use mathlib.Core.Logic.{⊎_elim}
use mathlib.Core.List.Memᴰ
use mathlib.Core.List.{[], ◌∷◌, Memᴰ}
use native.Mathlib.Omega.{arith}
use native.Mathlib.Nat.{add-zero, zero-add}
use lib.ListN.{length, get_or}
use Rattle.records.specs.Lists.{tabulate_from, tabulate}

-- ---- places

shift : (i j : ℕ) → i + 1 + j ≡ i + suc j
shift i j = omega arith

none : (j : ℕ) → j < 0 → ⊥
none j h = omega arith

first : (n : ℕ) → 0 < suc n
first n = omega arith

later : (j n : ℕ) → j < n → suc j < suc n
later j n h = omega arith

earlier : (j n : ℕ) → suc j < suc n → j < n
earlier j n h = omega arith

-- ---- from any place on

from_length {ℓ} : {A : Type ℓ} (f : ℕ → A) (i n : ℕ) → length (tabulate_from f i n) ≡ n
unfolding tabulate_from
from_length f i zero = refl
from_length f i (suc n) = ap suc (from_length f (i + 1) n)

from_at {ℓ} : {A : Type ℓ} (f : ℕ → A) (i n j : ℕ) (d : A) → j < n → get_or (tabulate_from f i n) j d ≡ f (i + j)
unfolding tabulate_from
from_at f i zero j d h = absurd (none j h)
from_at f i (suc n) zero d h = ap f (sym (add-zero i))
from_at f i (suc n) (suc j) d h = from_at f (i + 1) n j d (earlier j n h) ∙ ap f (shift i j)

from_in {ℓ} : {A : Type ℓ} (f : ℕ → A) (i n : ℕ) (x : A) → Memᴰ x (tabulate_from f i n) → (j : ℕ) × (j < n) × (x ≡ f (i + j))
unfolding tabulate_from
from_in f i zero x m = absurd (Memᴰ.not-nil m)
from_in f i (suc n) x m =
    ⊎_elim
    (λ (e : x ≡ f i). (0, first n, e ∙ ap f (sym (add-zero i))))
    (λ (k : Memᴰ x (tabulate_from f (i + 1) n)).
    let r = from_in f (i + 1) n x k in
    (suc r.0, later r.0 n r.1, r.2 ∙ ap f (shift i r.0)))
    (Memᴰ.cases_cons m)

in_from {ℓ} : {A : Type ℓ} (f : ℕ → A) (i n j : ℕ) → j < n → Memᴰ (f (i + j)) (tabulate_from f i n)
unfolding tabulate_from
in_from f i zero j h = absurd (none j h)
in_from f i (suc n) zero h = Memᴰ.head (ap f (add-zero i))
in_from f i (suc n) (suc j) h = Memᴰ.tail (Memᴰ.cast (ap f (sym (shift i j))) (in_from f (i + 1) n j (earlier j n h)))

from_alike {ℓ} : {A : Type ℓ} (f g : ℕ → A) (i n : ℕ) → ((j : ℕ) → j < n → f (i + j) ≡ g (i + j)) → tabulate_from f i n ≡ tabulate_from g i n
unfolding tabulate_from
from_alike f g i zero h = refl
from_alike f g i (suc n) h =
    let here = ap f (sym (add-zero i)) ∙ h 0 (first n) ∙ ap g (add-zero i) in
    let rest = from_alike f g (i + 1) n (λ (j : ℕ) (l : j < n). ap f (shift i j) ∙ h (suc j) (later j n l) ∙ ap g (sym (shift i j))) in
    λ k. here k ∷ rest k

-- ---- the whole list

pub tabulate_length {ℓ} : {A : Type ℓ} (f : ℕ → A) (n : ℕ) → length (tabulate f n) ≡ n
tabulate_length f n = from_length f 0 n

pub tabulate_at {ℓ} : {A : Type ℓ} (f : ℕ → A) (n i : ℕ) (d : A) → i < n → get_or (tabulate f n) i d ≡ f i
tabulate_at f n i d h = from_at f 0 n i d h ∙ ap f (zero-add i)

pub tabulate_in {ℓ} : {A : Type ℓ} (f : ℕ → A) (n : ℕ) (x : A) → Memᴰ x (tabulate f n) → (i : ℕ) × (i < n) × (x ≡ f i)
tabulate_in f n x m =
    let r = from_in f 0 n x m in
    (r.0, r.1, r.2 ∙ ap f (zero-add r.0))

pub tabulate_alike {ℓ} : {A : Type ℓ} (f g : ℕ → A) (n : ℕ) → ((i : ℕ) → i < n → f i ≡ g i) → tabulate f n ≡ tabulate g n
tabulate_alike f g n h = from_alike f g 0 n (λ (j : ℕ) (l : j < n). ap f (zero-add j) ∙ h j l ∙ ap g (sym (zero-add j)))

-- ---- what is left of n elements behind the first i

pub tabulate_step {ℓ} : {A : Type ℓ} (f : ℕ → A) (i n : ℕ) → i < n → tabulate_from f i (n - i) ≡ f i ∷ tabulate_from f (i + 1) (n - (i + 1))
unfolding tabulate_from
tabulate_step f i n h = ap (tabulate_from f i) (one_more i n h)
  where
    one_more : (i n : ℕ) → i < n → n - i ≡ suc (n - (i + 1))
    one_more i n h = omega arith

pub tabulate_end {ℓ} : {A : Type ℓ} (f : ℕ → A) (i n : ℕ) → n ≤ i → tabulate_from f i (n - i) ≡ []
unfolding tabulate_from
tabulate_end f i n h = ap (tabulate_from f i) (no_more i n h)
  where
    no_more : (i n : ℕ) → n ≤ i → n - i ≡ 0
    no_more i n h = omega arith
