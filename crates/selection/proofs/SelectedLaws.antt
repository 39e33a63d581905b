-- Laws of the numbers that pass a test: which they are, that they rise, and where each stands. Assumes nothing.
use Prim.Native.Nat.{ℕ, zero, suc, ◌+◌, ◌-◌, ◌<◌, ◌≤◌}
use mathlib.Core.Path.{◌≡◌, refl, sym, ap, ◌∙◌}
use mathlib.Core.Logic.{◌≢◌, ⊎_elim}
use mathlib.Core.Bool.{Bool, true, false, cond, false≢true}
use mathlib.Core.List.Memᴰ
use mathlib.Core.List.{List, [], ◌∷◌, ◌++◌, Memᴰ}
use native.Mathlib.Omega.{arith}
use native.Mathlib.Decide.{ℕ_discrete}
use native.Mathlib.Nat.{le_of_suc-le-suc}
use lib.ListN.{length, get_or}
use Rattle.std.specs.List.{filter, range_with_len}
use Rattle.selection.specs.Selected.{selected}

-- ---- which they are

pub selected_in : (test : ℕ → Bool) (i n c : ℕ) → Memᴰ c (selected test i n) → (i ≤ c) × (c < i + n) × (test c ≡ true)
unfolding selected
selected_in test i zero c m = absurd (Memᴰ.not-nil m)
selected_in test i (suc n) c m = go (test i) refl (selected_in test (i + 1) n c) m
  where
    later : (i + 1 ≤ c) × (c < i + 1 + n) × (test c ≡ true) → (i ≤ c) × (c < i + suc n) × (test c ≡ true)
    later (p, q, r) = (omega arith, omega arith, r)

    go : (b : Bool) → test i ≡ b → (Memᴰ c (selected test (i + 1) n) → (i + 1 ≤ c) × (c < i + 1 + n) × (test c ≡ true)) → Memᴰ c (cond b (i ∷ selected test (i + 1) n) (selected test (i + 1) n))
        → (i ≤ c) × (c < i + suc n) × (test c ≡ true)
    go true e rest k = ⊎_elim (λ (q : c ≡ i). (omega arith, omega arith, ap test q ∙ e)) (λ (l : Memᴰ c (selected test (i + 1) n)). later (rest l)) (Memᴰ.cases_cons k)
    go false e rest k = later (rest k)

pub in_selected : (test : ℕ → Bool) (i n c : ℕ) → i ≤ c → c < i + n → test c ≡ true → Memᴰ c (selected test i n)
unfolding selected
in_selected test i zero c p q r = absurd (none i c p q)
  where
    none : (i c : ℕ) → i ≤ c → c < i + 0 → ⊥
    none i c p q = omega arith
in_selected test i (suc n) c p q r = decided (ℕ_discrete c i) (λ (lo : i + 1 ≤ c) (hi : c < i + 1 + n). in_selected test (i + 1) n c lo hi r)
  where
    here : (b : Bool) → test i ≡ b → c ≡ i → Memᴰ c (cond b (i ∷ selected test (i + 1) n) (selected test (i + 1) n))
    here true e k = Memᴰ.head k
    here false e k = absurd (false≢true (sym e ∙ (ap test (sym k) ∙ r)))

    later : (b : Bool) → Memᴰ c (selected test (i + 1) n) → Memᴰ c (cond b (i ∷ selected test (i + 1) n) (selected test (i + 1) n))
    later true k = Memᴰ.tail k
    later false k = k

    decided : Dec (c ≡ i) → (i + 1 ≤ c → c < i + 1 + n → Memᴰ c (selected test (i + 1) n)) → Memᴰ c (cond (test i) (i ∷ selected test (i + 1) n) (selected test (i + 1) n))
    decided (yes e) rest = here (test i) refl e
    decided (no k) rest = later (test i) (rest (omega arith) (omega arith))

pub selected_length : (test : ℕ → Bool) (i n : ℕ) → length (selected test i n) ≤ n
unfolding selected
selected_length test i zero = omega arith
selected_length test i (suc n) = go (test i) (length (selected test (i + 1) n)) refl (selected_length test (i + 1) n)
  where
    go : (b : Bool) (m : ℕ) → length (selected test (i + 1) n) ≡ m → m ≤ n → length (cond b (i ∷ selected test (i + 1) n) (selected test (i + 1) n)) ≤ suc n
    go true m e h = omega arith
    go false m e h = omega arith

-- those that a filter takes from a range
pub selected_filter : (test : ℕ → Bool) (i n : ℕ) → filter test (range_with_len i n) ≡ selected test i n
unfolding selected
selected_filter test i zero = refl
selected_filter test i (suc n) = rw (selected_filter test (i + 1) n) refl

-- tests that agree select the same
pub selected_alike : (test other : ℕ → Bool) (i n : ℕ) → ((c : ℕ) → i ≤ c → c < i + n → test c ≡ other c) → selected test i n ≡ selected other i n
unfolding selected
selected_alike test other i zero h = refl
selected_alike test other i (suc n) h =
    rw (h i (omega arith) (omega arith), selected_alike test other (i + 1) n (λ (c : ℕ) (lo : i + 1 ≤ c) (hi : c < i + 1 + n). h c (omega arith) (omega arith))) refl

-- ---- what is left of the numbers below n behind the first i

-- the number i alone
abbrev pub one_selected : (ℕ → Bool) → ℕ → List ℕ
one_selected test i = cond (test i) (i ∷ []) []

module _ (test : ℕ → Bool) (i n : ℕ) where
  more : i < n → n - i ≡ suc (n - (i + 1))
  more h = omega arith

  pub selected_step : i < n → selected test i (n - i) ≡ one_selected test i ++ selected test (i + 1) (n - (i + 1))
  unfolding selected
  selected_step h = ap (selected test i) (more h) ∙ go (test i)
    where
      go : (b : Bool) → cond b (i ∷ selected test (i + 1) (n - (i + 1))) (selected test (i + 1) (n - (i + 1))) ≡ cond b (i ∷ []) [] ++ selected test (i + 1) (n - (i + 1))
      go true = refl
      go false = refl

  pub selected_end : n ≤ i → selected test i (n - i) ≡ []
  unfolding selected
  selected_end h = ap (selected test i) (none h)
    where
      none : n ≤ i → n - i ≡ 0
      none h = omega arith

-- ---- that they rise

-- each is at least i, and each above the one before it
pub data Rising : ℕ → List ℕ → Type 0 where
  none : {i : ℕ} → Rising i []
  next : {i x : ℕ} {l : List ℕ} → i ≤ x → Rising (suc x) l → Rising i (x ∷ l)

lower : {i j : ℕ} {l : List ℕ} → i ≤ j → Rising j l → Rising i l
lower h none = none
lower {i} {j} h (next {x = x} p r) = let q : i ≤ x = omega arith in next q r

pub selected_rising : (test : ℕ → Bool) (i n : ℕ) → Rising i (selected test i n)
unfolding selected
selected_rising test i zero = none
selected_rising test i (suc n) = go (test i) (selected_rising test (i + 1) n)
  where
    go : (b : Bool) → Rising (i + 1) (selected test (i + 1) n) → Rising i (cond b (i ∷ selected test (i + 1) n) (selected test (i + 1) n))
    go true r =
        let p : i ≤ i = omega arith in
        let q : suc i ≤ i + 1 = omega arith in
        next p (lower q r)
    go false r = let p : i ≤ i + 1 = omega arith in lower p r

rising_in : {i : ℕ} {l : List ℕ} → Rising i l → (c : ℕ) → Memᴰ c l → i ≤ c
rising_in none c m = absurd (Memᴰ.not-nil m)
rising_in {i} (next {x = x} {l = l} p r) c m = ⊎_elim (λ (e : c ≡ x). first e) (λ (k : Memᴰ c l). second (rising_in r c k)) (Memᴰ.cases_cons m)
  where
    first : c ≡ x → i ≤ c
    first e = omega arith

    second : suc x ≤ c → i ≤ c
    second e = omega arith

pub at_in : (l : List ℕ) (j : ℕ) → j < length l → Memᴰ (get_or l j 0) l
at_in [] j h = absurd (nothing j h)
  where
    nothing : (j : ℕ) → j < 0 → ⊥
    nothing j h = omega arith
at_in (x ∷ l) zero h = Memᴰ.head refl
at_in (x ∷ l) (suc j) h = Memᴰ.tail (at_in l j (le_of_suc-le-suc h))

-- no number stands at two places
pub rising_once : {i : ℕ} {l : List ℕ} → Rising i l → (j k : ℕ) → j < length l → k < length l → get_or l j 0 ≡ get_or l k 0 → j ≡ k
rising_once none j k hj hk e = absurd (nothing j hj)
  where
    nothing : (j : ℕ) → j < 0 → ⊥
    nothing j h = omega arith
rising_once (next p r) zero zero hj hk e = refl
rising_once (next {x = x} {l = l} p r) zero (suc k) hj hk e = absurd (above (rising_in r (get_or l k 0) (at_in l k (le_of_suc-le-suc hk))))
  where
    above : suc x ≤ get_or l k 0 → ⊥
    above h = omega arith
rising_once (next {x = x} {l = l} p r) (suc j) zero hj hk e = absurd (above (rising_in r (get_or l j 0) (at_in l j (le_of_suc-le-suc hj))))
  where
    above : suc x ≤ get_or l j 0 → ⊥
    above h = omega arith
rising_once (next p r) (suc j) (suc k) hj hk e = ap suc (rising_once r j k (le_of_suc-le-suc hj) (le_of_suc-le-suc hk) e)

-- ---- two or more

pub rising_two : {i : ℕ} (l : List ℕ) → Rising i l → 2 ≤ length l → (a : ℕ) × (b : ℕ) × Memᴰ a l × Memᴰ b l × (a ≢ b)
rising_two [] r h = absurd (no_two h)
  where
    no_two : 2 ≤ 0 → ⊥
    no_two h = omega arith
rising_two (x ∷ []) r h = absurd (no_two h)
  where
    no_two : 2 ≤ 1 → ⊥
    no_two h = omega arith
rising_two (x ∷ y ∷ l) (next p (next q r)) h = (x, y, Memᴰ.head refl, Memᴰ.tail (Memᴰ.head refl), λ (e : x ≡ y). differ e)
  where
    differ : x ≡ y → ⊥
    differ e = omega arith

pub two_members : (l : List ℕ) (a b : ℕ) → Memᴰ a l → Memᴰ b l → a ≢ b → 2 ≤ length l
two_members [] a b p q n = absurd (Memᴰ.not-nil p)
two_members (x ∷ []) a b p q n = absurd (n (Memᴰ.eq_of_singleton p ∙ sym (Memᴰ.eq_of_singleton q)))
two_members (x ∷ y ∷ l) a b p q n = two (length l)
  where
    two : (k : ℕ) → 2 ≤ suc (suc k)
    two k = omega arith
