-- Prefixes: those that a filter counts are those that `differing_below` counts; and one that is there has its length.
-- Assumes nothing.
use Prim.Native.Nat.{ℕ, zero, suc, ◌+◌, ◌≤◌}
use mathlib.Core.Path.{◌≡◌, refl, sym, ap, ◌∙◌}
use mathlib.Core.Bool.{Bool, true, false, not, cond}
use mathlib.Core.List.{List, ◌∷◌}
use native.Mathlib.Omega.{arith}
use lib.ListN.{length, take, length-take}
use Rattle.std.specs.List.{filter, range_with_len}
use Rattle.std.proofs.lemmas.List.{take-take}
use Rattle.float.specs.Integers.{bit}
use Rattle.sheet_claims.specs.Claims.{is_refused, differing_below}

module _ (p : ℕ → Bool) where
  abbrev passing : ℕ → ℕ → ℕ
  passing a n = length (filter p (range_with_len a n))

  passing_first : (a n : ℕ) → passing a (suc n) ≡ bit (p a) + passing (a + 1) n
  passing_first a n = go (p a)
    where
      go : (b : Bool) → length (cond b (a ∷ filter p (range_with_len (a + 1) n)) (filter p (range_with_len (a + 1) n))) ≡ bit b + length (filter p (range_with_len (a + 1) n))
      go true = omega arith
      go false = omega arith

  passing_last : (a n : ℕ) → passing a (suc n) ≡ passing a n + bit (p (a + n))
  passing_last a zero = let e = passing_first a 0 in rw (plus_none a) (omega arith)
    where
      plus_none : (a : ℕ) → a + 0 ≡ a
      plus_none a = omega arith
  passing_last a (suc n) =
      let e = passing_first a (suc n) in
      let f = passing_first a n in
      let g = passing_last (a + 1) n in
      let k : bit (p (a + 1 + n)) ≡ bit (p (a + suc n)) = ap (λ (c : ℕ). bit (p c)) (shift a n) in
      omega arith
    where
      shift : (a n : ℕ) → a + 1 + n ≡ a + suc n
      shift a n = omega arith

-- whether a prefix is not refused with the number
abbrev pub differs : List ℕ → ℕ → ℕ → Bool
differs s number i = not (is_refused (take i s) number)

pub differing_filter : (s : List ℕ) (number n : ℕ) → length (filter (differs s number) (range_with_len 0 n)) ≡ differing_below s number n
unfolding differing_below
differing_filter s number zero = refl
differing_filter s number (suc n) =
    let e = passing_last (differs s number) 0 n in
    let k : bit (differs s number (0 + n)) ≡ bit (not (is_refused (take n s) number)) = ap (λ (i : ℕ). bit (differs s number i)) (omega arith) in
    let f = differing_filter s number n in
    omega arith

-- a prefix that is there has its length
pub whole_prefix : (n : ℕ) (s : List ℕ) → n ≤ length s → n ≡ length (take n s)
whole_prefix n s h = let e = length-take n s in omega arith

-- the shorter prefixes of one are those of the whole
differing_up_to : (s : List ℕ) (number n m : ℕ) → m ≤ n → differing_below (take n s) number m ≡ differing_below s number m
unfolding differing_below
differing_up_to s number n zero h = refl
differing_up_to s number n (suc m) h = rw (take-take m n s (omega arith), differing_up_to s number n m (omega arith)) refl

pub differing_prefix : (s : List ℕ) (number n : ℕ) → n ≤ length s → differing_below (take n s) number (length (take n s)) ≡ differing_below s number n
differing_prefix s number n h = ap (differing_below (take n s) number) (sym (whole_prefix n s h)) ∙ differing_up_to s number n n (omega arith)
