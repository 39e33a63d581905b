-- The part of a column's distinct values that another column shares: where the two distincts and the number shared are such as `DistinctWithin` says, it is 2 ^ 64 at most, and 1 at most where the first distinct is 1 at least. Assumes nothing.
use Prim.Native.Nat.{ℕ, ◌*◌, ◌≤◌}
use mathlib.Core.Path.{◌≡◌, refl, sym, ap, subst, ◌∙◌}
use mathlib.Core.Bool.{Bool, true, false, cond}
use native.Mathlib.Nat as Nat
use native.Mathlib.Nat.{le_of_eq, mul_comm, mul-pos}
use lib.Dec.{T, lit≤}
use lib.Ieee.{Float, binary64, round, mul, div, lt, le}
use lib.Ieee.Positive.{num, den, den_pos}
use Rattle.float.specs.Order.{f64_one, f64_max, f64_min, nonneg, Unit01}
use Rattle.float.proofs.NonNegLaws.{le_cross, le_trans, mul_is, div_is, mul_shrinks}
use Rattle.float.proofs.OrderLaws.{lt_le}
use Rattle.estimate.specs.Bytes.{LawfulFigure}
use Rattle.units.specs.Sizes.{UpTo, AtLeast}
use Rattle.units.proofs.ScalarLaws.{holds}
use Rattle.units.proofs.SizeLaws.{round_up_to, le_up_to, up_to_more, unit_up_to, up_to_unit, mul_up_to, div_up_to, at_least_num, at_least_positive, one_at_least, max_at_least}
use Rattle.units.proofs.FigureLaws.{figure_up_to}
use Rattle.units.proofs.UnitOperations.{le_own}
use Rattle.predicate_range.proofs.NumberRange.{either}
use Rattle.fraction_range.specs.Distinct.{DistinctWithin}
use Rattle.fraction_range.proofs.DistinctLaws.{max_left, max_right, max_le}

-- ---- the order
min_left : (x y : Float) → T (nonneg x) → T (le (f64_min x y) x)
min_left x y p = go (lt y x) (λ e. lt_le y x (holds (lt y x) e))
  where
    go : (b : Bool) → (b ≡ true → T (le y x)) → T (le (cond b y x) x)
    go true k = k refl
    go false k = le_own x p

mul_exchanged : (x y : Float) → T (nonneg x) → T (nonneg y) → mul binary64 x y ≡ mul binary64 y x
mul_exchanged x y p q =
    mul_is binary64 x y p q ∙ ap (λ (z : ℕ). round binary64 false z (den x * den y)) (mul_comm (num x) (num y)) ∙ ap (λ (z : ℕ). round binary64 false (num y * num x) z) (mul_comm (den x) (den y)) ∙ sym (mul_is binary64 y x q p)

-- ---- a quotient by no less
one_times : (n : ℕ) → n ≤ 1 * n
one_times n = le_of_eq (sym (Nat.one-mul n))

ratio_unit : (l : ℕ) (x y : Float) → T (nonneg x) → AtLeast l y → T (le x y) → Unit01 (div binary64 x y)
ratio_unit l x y p a k =
    up_to_unit (div binary64 x y)
    (subst (UpTo 0) (sym (div_is binary64 x y p (at_least_positive l y a)))
    (round_up_to 0 (num x * den y) (num y * den x) (lit≤ tt) (mul-pos (at_least_num l y a) (den_pos x)) (Nat.le_trans (le_cross x y p a.low k) (one_times (num y * den x)))))

-- ---- of the distincts, the first above 0
module _ (left right shared : Float) (fl : LawfulFigure left) (fr : LawfulFigure right) (w : DistinctWithin left right shared) where
  abbrev least : Float
  least = f64_min left right

  left_low : T (nonneg left)
  left_low = (figure_up_to left fl).low

  least_low : T (nonneg least)
  least_low = either (λ (z : Float). T (nonneg z)) (lt right left) right left (figure_up_to right fr).low left_low

  pub shared_up_to : UpTo 64 shared
  shared_up_to = le_up_to 64 shared w.held w.low w.top

  -- no larger than what neither the first distinct nor 1 exceeds
  below : (m : Float) → T (nonneg m) → T (le left m) → T (le f64_one m) → T (le shared m)
  below m p k o =
      let most = f64_max least f64_one in
      le_trans shared most m w.low (max_at_least 0 least f64_one least_low one_at_least).low p w.high (max_le least f64_one m (le_trans least left m least_low left_low p (min_left left right left_low) k) o)

  pub shared_below : T (le shared (f64_max left f64_one))
  shared_below = below (f64_max left f64_one) (max_at_least 0 left f64_one left_low one_at_least).low (max_left left f64_one left_low) (max_right left f64_one left_low tt)

  -- ---- a part of the rows, times the shared values, over the first distinct
  module _ (part : Float) (u : Unit01 part) (a : AtLeast 64 left) where
    abbrev rows : Float
    rows = mul binary64 part shared

    rows_up_to : UpTo 64 rows
    rows_up_to = mul_up_to 0 64 part shared (lit≤ tt) (unit_up_to part u) shared_up_to

    rows_below : (m : Float) → T (nonneg m) → T (le shared m) → T (le rows m)
    rows_below m p k =
        le_trans rows shared m rows_up_to.low w.low p
        (subst (λ (z : Float). T (le z shared)) (mul_exchanged shared part w.low u.low) (mul_shrinks shared part w.held w.low u.low u.high)) k

    part_unit : T (le shared left) → Unit01 (div binary64 rows left)
    part_unit k = ratio_unit 64 rows left rows_up_to.low a (rows_below left left_low k)

    pub share_in_unit : T (le f64_one left) → Unit01 (div binary64 rows left)
    share_in_unit k = part_unit (below left left_low (le_own left left_low) k)

    pub share_up_to : UpTo 64 (div binary64 rows left)
    share_up_to = go (lt left f64_one) shared_below
      where
        go : (b : Bool) → T (le shared (cond b f64_one left)) → UpTo 64 (div binary64 rows left)
        go true k = div_up_to 0 64 rows left (lit≤ tt) (unit_up_to rows (record { held = rows_up_to.held; low = rows_up_to.low; high = rows_below f64_one tt k })) a
        go false k = up_to_more 0 64 (div binary64 rows left) (lit≤ tt) (unit_up_to (div binary64 rows left) (part_unit k))
