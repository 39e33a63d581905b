-- The first record with a number, where it stands in the bytes, is the first in the list. Assumes nothing.
use Prim.Native.Nat.{ℕ, zero, suc, ◌+◌, ◌*◌, ◌^◌, ◌<◌, ◌≤◌}
use mathlib.Core.Path.{◌≡◌, refl, sym, ap, ◌∙◌, subst}
use mathlib.Core.Bool.{Bool, true, false, cond}
use mathlib.Core.List.{List}
use native.Mathlib.Omega.{arith}
use lib.Dec.{eqb}
use Rattle.std.proofs.Math.Nat.{mul-le-mul_right}
use Rattle.std.specs.Prelude.{Option, None, Some, IfSome, is_some, option_map}
use Rattle.std.specs.List.{find, range_with_len}
use Rattle.le.specs.Fields.{u16_at}
use Rattle.records.specs.Lists.{tabulate_from}
use Rattle.sheet.specs.Order.{record_at}
use Rattle.sheet.specs.Sheet.{record_in, records_in}
use Rattle.sheet.specs.declared.order.Kind.{Kind}
use Rattle.sheet.proofs.PlaceLaws.{Fixed, record_next}
use Rattle.scan.specs.Scan.{first_with, is_numbered, place_from, first_place}

-- ---- the search, of `n` records from the i-th on, the first of all of which stands at `first`

module _ (s : List ℕ) (size number first : ℕ) where
  abbrev here : ℕ → ℕ
  here i = first + size * i

  abbrev pub is_here : ℕ → Bool
  is_here i = eqb (u16_at s (here i)) number

  from_here : (n i : ℕ) → option_map here (find is_here (range_with_len i n)) ≡ place_from s size number (here i) n
  unfolding place_from
  from_here zero i = refl
  from_here (suc n) i =
      one (is_here i) (find is_here (range_with_len (i + 1) n))
      ∙ ap (cond (is_here i) (Some (here i))) (from_here n (i + 1) ∙ ap (λ (at : ℕ). place_from s size number at n) (next first size i))
    where
      one : (b : Bool) (o : Option ℕ) → option_map here (cond b (Some i) o) ≡ cond b (Some (here i)) (option_map here o)
      one true o = refl
      one false o = refl

      next : (first size i : ℕ) → first + size * (i + 1) ≡ first + size * i + size
      next first size i = grind arith

  -- what a search over all their numbers finds
  pub found_place : (count : ℕ) (r : Option ℕ) → r ≡ find is_here (range_with_len 0 count) → option_map here r ≡ place_from s size number first count
  found_place count r is = ap (option_map here) is ∙ from_here count 0 ∙ ap (λ (at : ℕ). place_from s size number at count) (at_first first size)
    where
      at_first : (first size : ℕ) → first + size * 0 ≡ first
      at_first first size = omega arith

  within : (n i : ℕ) → IfSome (find is_here (range_with_len i n)) (λ k. k < i + n)
  within zero i = tt
  within (suc n) i = go (is_here i) (find is_here (range_with_len (i + 1) n)) (within n (i + 1))
    where
      go : (b : Bool) (o : Option ℕ) → IfSome o (λ k. k < i + 1 + n) → IfSome (cond b (Some i) o) (λ k. k < i + suc n)
      go true o h = omega arith
      go false None h = tt
      go false (Some k) h = omega arith

  pub found_below : (count i : ℕ) → Some i ≡ find is_here (range_with_len 0 count) → i < count
  found_below count i is = subst (λ (o : Option ℕ). IfSome o (λ k. k < count)) (sym is) (go (find is_here (range_with_len 0 count)) (within count 0))
    where
      go : (o : Option ℕ) → IfSome o (λ k. k < 0 + count) → IfSome o (λ k. k < count)
      go None h = tt
      go (Some k) h = omega arith

-- a place among 2 ^ 16 short records
pub place_small : (size i : ℕ) → size ≤ 255 → i < 2 ^ 16 → size * i < 2 ^ 24
place_small size i h k =
    let m : size * i ≤ 255 * i = mul-le-mul_right i h in
    omega arith

-- ---- the record that stands there

module _ {A B : Type 0} (kind : Kind) (read : List ℕ → ℕ → A) (size : ℕ) (fixed : Fixed kind size) (number_of : A → ℕ) (front : (s : List ℕ) (at : ℕ) → number_of (read s at) ≡ u16_at s at) (absent : B) (present : A → B) (s : List ℕ) where
  abbrev pub placed : Option ℕ → B
  placed None = absent
  placed (Some at) = present (read s at)

  module _ (start number : ℕ) where
    abbrev whole : B
    whole = first_with number_of absent present number (records_in kind read s start)

    from_is : (n i : ℕ) → placed (place_from s size number (record_at kind s start i) n) ≡ first_with number_of absent present number (tabulate_from (record_in kind read s start) i n)
    unfolding place_from first_with tabulate_from
    from_is zero i = refl
    from_is (suc n) i =
        let at = record_at kind s start i in
        let next = sym (fixed s at) ∙ record_next kind s start i in
        let rest = first_with number_of absent present number (tabulate_from (record_in kind read s start) (i + 1) n) in
        one (eqb (u16_at s at) number) (place_from s size number (at + size) n)
        ∙ ap (cond (eqb (u16_at s at) number) (present (read s at))) (ap (λ (p : ℕ). placed (place_from s size number p n)) next ∙ from_is n (i + 1))
        ∙ ap (λ (m : ℕ). cond (eqb m number) (present (read s at)) rest) (sym (front s at))
      where
        one : (b : Bool) (other : Option ℕ) → placed (cond b (Some (record_at kind s start i)) other) ≡ cond b (present (record_in kind read s start i)) (placed other)
        one true other = refl
        one false other = refl

    pub placed_is : placed (first_place s start size number) ≡ whole
    unfolding records_in record_at
    placed_is = from_is (u16_at s start) 0

    pub present_is : (at : ℕ) → Some at ≡ first_place s start size number → present (read s at) ≡ whole
    present_is at is = ap placed is ∙ placed_is

    pub absent_is : None ≡ first_place s start size number → absent ≡ whole
    absent_is is = ap placed is ∙ placed_is

-- whether there is one
module _ {A : Type 0} (kind : Kind) (read : List ℕ → ℕ → A) (size : ℕ) (fixed : Fixed kind size) (number_of : A → ℕ) (front : (s : List ℕ) (at : ℕ) → number_of (read s at) ≡ u16_at s at) (s : List ℕ) (start number : ℕ) (place : Option ℕ) where
  pub numbered_is : place ≡ first_place s start size number → is_some place ≡ is_numbered number_of number (records_in kind read s start)
  numbered_is is = flip place ∙ ap (placed kind read size fixed number_of front false (λ (x : A). true) s) is ∙ placed_is kind read size fixed number_of front false (λ (x : A). true) s start number
    where
      flip : (o : Option ℕ) → is_some o ≡ placed kind read size fixed number_of front false (λ (x : A). true) s o
      flip None = refl
      flip (Some at) = refl
