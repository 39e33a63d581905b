-- A scalar's bytes compared with a value where they stand: the tag, and behind it the numbers. Assumes nothing.
use Rattle.std.proofs.Common.{◌≡◌, ℕ, suc, ◌+◌, ◌^◌, ◌<◌, Bool, true, false, cond, ◌&&◌, eqb, ◌⊎◌, List, ℤ, pos, sym, refl, ap, ◌∙◌, inl, inr, ⊎_elim, arith, SFits, to_z, of_z, eq-eqb, eqb-true}
use Rattle.std.proofs.lemmas.Bool.{eqb-false}
use mathlib.Core.Bool.{beq, false≢true}
use lib.Ieee.{Float, eq}
use mir.Syntax.{Width}
use mir.Val.{hbits}
use mir.ValLaws.{to_z-of_z}
use lib.Signed.{mag}
use Rattle.float.specs.Integers.{bit}
use Rattle.le.specs.Fields.{byte_at}
use Rattle.le.specs.Integers.{i32_at, i64_at}
use Rattle.le.specs.Floats.{f64_at}
use Rattle.std.specs.Prelude.{Option, Some, None, option_and_then}
use Rattle.std.specs.Ordering.{float_partial_cmp, partial_ordering_then}
use Rattle.std.specs.Bool.{Decides}
use Rattle.std.specs.declared.cmp.Ordering.{Ordering}
use Rattle.std.specs.declared.cmp.Ordering.TheVariants.{Less, Equal, Greater}
use Rattle.std.proofs.lemmas.Float.{floats_po}
use Rattle.scalar.specs.Order.{integer_order, scalar_order, is_equal}
use Rattle.scalar.specs.declared.Scalar.{Scalar}
use Rattle.scalar.specs.declared.Scalar.TheVariants.{Null, Boolean, Int32, Int64, Float64, Decimal128, Date32, IntervalMonthDayNano, IntervalDayTime}
use Rattle.scalar.proofs.TypeLaws.{scalar_tag}
use Rattle.scalar.proofs.OrderCases.{boolean_order, int32_order, int64_order, float64_order, date32_order, month_day_nano_order_law, day_time_order_law, unlike_types, null_right}
use Rattle.scalar_bytes.specs.Reading.{scalar_at}
use Rattle.sketch.proofs.EqualLaws.{integer_own, integer_same}

-- ---- whole numbers: the machine's test, which is one of their bits

pub integer_test : (w : Width) (a b : ℤ) → SFits w a → SFits w b → eqb (of_z w a) (of_z w b) ≡ is_equal (integer_order a b)
integer_test w a b f g = go (eqb (of_z w a) (of_z w b)) refl (is_equal (integer_order a b)) refl
  where
    same : eqb (of_z w a) (of_z w b) ≡ true → a ≡ b
    same e = sym (to_z-of_z w a f) ∙ ap (to_z w) (eqb-true (of_z w a) (of_z w b) e) ∙ to_z-of_z w b g

    go : (t : Bool) → eqb (of_z w a) (of_z w b) ≡ t → (u : Bool) → is_equal (integer_order a b) ≡ u → t ≡ u
    go true e true h = refl
    go true e false h = absurd (false≢true (sym h ∙ ap (λ (x : ℤ). is_equal (integer_order a x)) (sym (same e)) ∙ ap is_equal (integer_own a)))
    go false e true h = absurd (false≢true (sym e ∙ eq-eqb (of_z w a) (of_z w b) (ap (of_z w) (integer_same a b h))))
    go false e false h = refl

-- one that is read, with one that is given
pub read_test : (w : Width) (a b : ℤ) → mag a < 2 ^ hbits w → SFits w b → eqb (of_z w a) (of_z w b) ≡ is_equal (integer_order a b)
read_test w a b f g = integer_test w a b (record { sfits = f }) g

-- ---- floats: the machine's test

pub float_test : (x y : Float) → eq x y ≡ is_equal (float_partial_cmp x y)
float_test x y = go (eq x y) (float_partial_cmp x y) (floats_po.matches_eq x y)
  where
    go : (t : Bool) (o : Option Ordering) → Decides t (o ≡ Some Equal) → t ≡ is_equal o
    go true o d = sym (ap is_equal (d.0 refl))
    go false None d = refl
    go false (Some Less) d = refl
    go false (Some Equal) d = d.1 refl
    go false (Some Greater) d = refl

-- ---- the tag

abbrev Tagged : ℕ → Scalar → Type 0
Tagged tag x = (scalar_tag x ≡ tag) ⊎ (scalar_tag x ≡ 0)

or_tagged : (tag k : ℕ) (x y : Scalar) → scalar_tag x ≡ k → Tagged tag y → Tagged tag (cond (eqb tag k) x y)
or_tagged tag k x y e rest = go (eqb tag k) (eqb-true tag k)
  where
    go : (t : Bool) → (t ≡ true → tag ≡ k) → Tagged tag (cond t x y)
    go true h = inl (e ∙ sym (h refl))
    go false h = rest

scalar_tagged : (s : List ℕ) (at : ℕ) → Tagged (byte_at s at) (scalar_at s at)
unfolding scalar_at
scalar_tagged s at =
    let tag = byte_at s at in
    or_tagged tag 1 _ _ refl (or_tagged tag 2 _ _ refl (or_tagged tag 3 _ _ refl (or_tagged tag 4 _ _ refl (or_tagged tag 5 _ _ refl (or_tagged tag 6 _ _ refl (or_tagged tag 8 _ _ refl (or_tagged tag 9 _ _ refl (inr refl))))))))

-- another tag than the value's, which is not 0
other_tag : (s : List ℕ) (at k : ℕ) (value : Scalar) → scalar_tag value ≡ suc k → (byte_at s at ≡ suc k → ⊥) → is_equal (scalar_order (scalar_at s at) value) ≡ false
other_tag s at k value e n = ap is_equal (unlike_types (scalar_at s at) value apart)
  where
    apart : scalar_tag (scalar_at s at) ≡ scalar_tag value → ⊥
    apart q = ⊎_elim (λ (h : scalar_tag (scalar_at s at) ≡ byte_at s at). n (sym h ∙ q ∙ e)) (λ (h : scalar_tag (scalar_at s at) ≡ 0). let z : 0 ≡ suc k = sym h ∙ q ∙ e in omega arith) (scalar_tagged s at)

-- equal where the tag is the value's, and the numbers behind it are
tagged : (s : List ℕ) (at k : ℕ) (value : Scalar) (same : Bool) → scalar_tag value ≡ suc k → (byte_at s at ≡ suc k → is_equal (scalar_order (scalar_at s at) value) ≡ same) → is_equal (scalar_order (scalar_at s at) value) ≡ (eqb (byte_at s at) (suc k) && same)
tagged s at k value same e there = go (eqb (byte_at s at) (suc k)) (eqb-true (byte_at s at) (suc k)) (eqb-false (byte_at s at) (suc k))
  where
    go : (t : Bool) → (t ≡ true → byte_at s at ≡ suc k) → (t ≡ false → byte_at s at ≡ suc k → ⊥) → is_equal (scalar_order (scalar_at s at) value) ≡ (t && same)
    go true h n = there (h refl)
    go false h n = other_tag s at k value e (n refl)

-- ---- the value's tag

pub boolean_test : (a b : Bool) → beq a b ≡ is_equal (integer_order (pos (bit a)) (pos (bit b)))
boolean_test true true = refl
boolean_test true false = refl
boolean_test false true = refl
boolean_test false false = refl

both_orders : (o p : Option Ordering) → is_equal (partial_ordering_then o p) ≡ (is_equal o && is_equal p)
both_orders None p = refl
both_orders (Some Less) p = refl
both_orders (Some Equal) p = refl
both_orders (Some Greater) p = refl

decimals_equal : (a b : ℤ) (p q k l : ℕ) → is_equal (scalar_order (Decimal128 a p k) (Decimal128 b q l)) ≡ ((eqb p q && eqb k l) && is_equal (integer_order a b))
unfolding scalar_order
decimals_equal a b p q k l = go (eqb p q && eqb k l)
  where
    go : (t : Bool) → is_equal (option_and_then (integer_order a) (cond t (Some b) None)) ≡ (t && is_equal (integer_order a b))
    go true = refl
    go false = refl

one_by_one : (a b c : Bool) → (a && (b && c)) ≡ ((a && b) && c)
one_by_one true b c = refl
one_by_one false b c = refl

module _ (s : List ℕ) (at : ℕ) where
  pub null_value : is_equal (scalar_order (scalar_at s at) Null) ≡ false
  null_value = ap is_equal (null_right (scalar_at s at))

  pub boolean_value : (x : Bool) → is_equal (scalar_order (scalar_at s at) (Boolean x)) ≡ (eqb (byte_at s at) 1 && is_equal (integer_order (pos (bit (eqb (byte_at s (at + 1)) 1))) (pos (bit x))))
  unfolding scalar_at
  boolean_value x = tagged s at 0 (Boolean x) _ refl (λ e. rw e (ap is_equal (boolean_order (eqb (byte_at s (at + 1)) 1) x)))

  pub int32_value : (x : ℤ) → is_equal (scalar_order (scalar_at s at) (Int32 x)) ≡ (eqb (byte_at s at) 2 && is_equal (integer_order (i32_at s (at + 1)) x))
  unfolding scalar_at
  int32_value x = tagged s at 1 (Int32 x) _ refl (λ e. rw e (ap is_equal (int32_order (i32_at s (at + 1)) x)))

  pub int64_value : (x : ℤ) → is_equal (scalar_order (scalar_at s at) (Int64 x)) ≡ (eqb (byte_at s at) 3 && is_equal (integer_order (i64_at s (at + 1)) x))
  unfolding scalar_at
  int64_value x = tagged s at 2 (Int64 x) _ refl (λ e. rw e (ap is_equal (int64_order (i64_at s (at + 1)) x)))

  pub float64_value : (x : Float) → is_equal (scalar_order (scalar_at s at) (Float64 x)) ≡ (eqb (byte_at s at) 4 && is_equal (float_partial_cmp (f64_at s (at + 1)) x))
  unfolding scalar_at
  float64_value x = tagged s at 3 (Float64 x) _ refl (λ e. rw e (ap is_equal (float64_order (f64_at s (at + 1)) x)))

  pub decimal128_value : (x : ℤ) (p k : ℕ) → is_equal (scalar_order (scalar_at s at) (Decimal128 x p k))
      ≡ (eqb (byte_at s at) 5 && ((eqb (byte_at s (at + 1)) p && eqb (byte_at s (at + 2)) k) && is_equal (integer_order (i64_at s (at + 3)) x)))
  unfolding scalar_at
  decimal128_value x p k = tagged s at 4 (Decimal128 x p k) _ refl (λ e. rw e (decimals_equal (i64_at s (at + 3)) x (byte_at s (at + 1)) p (byte_at s (at + 2)) k))

  pub date32_value : (x : ℤ) → is_equal (scalar_order (scalar_at s at) (Date32 x)) ≡ (eqb (byte_at s at) 6 && is_equal (integer_order (i32_at s (at + 1)) x))
  unfolding scalar_at
  date32_value x = tagged s at 5 (Date32 x) _ refl (λ e. rw e (ap is_equal (date32_order (i32_at s (at + 1)) x)))

  pub month_day_nano_value : (m d n : ℤ) → is_equal (scalar_order (scalar_at s at) (IntervalMonthDayNano m d n))
      ≡ (eqb (byte_at s at) 8 && ((is_equal (integer_order (i32_at s (at + 1)) m) && is_equal (integer_order (i32_at s (at + 5)) d)) && is_equal (integer_order (i64_at s (at + 9)) n)))
  unfolding scalar_at
  month_day_nano_value m d n =
      tagged s at 7 (IntervalMonthDayNano m d n) _ refl (λ e. rw e
      (ap is_equal (month_day_nano_order_law (i32_at s (at + 1)) (i32_at s (at + 5)) (i64_at s (at + 9)) m d n)
      ∙ both_orders (integer_order (i32_at s (at + 1)) m) _
      ∙ ap (λ (t : Bool). is_equal (integer_order (i32_at s (at + 1)) m) && t) (both_orders (integer_order (i32_at s (at + 5)) d) (integer_order (i64_at s (at + 9)) n))
      ∙ one_by_one (is_equal (integer_order (i32_at s (at + 1)) m)) _ _))

  pub day_time_value : (d t : ℤ) → is_equal (scalar_order (scalar_at s at) (IntervalDayTime d t))
      ≡ (eqb (byte_at s at) 9 && (is_equal (integer_order (i32_at s (at + 1)) d) && is_equal (integer_order (i32_at s (at + 5)) t)))
  unfolding scalar_at
  day_time_value d t =
      tagged s at 8 (IntervalDayTime d t) _ refl (λ e. rw e (ap is_equal (day_time_order_law (i32_at s (at + 1)) (i32_at s (at + 5)) d t) ∙ both_orders (integer_order (i32_at s (at + 1)) d) (integer_order (i32_at s (at + 5)) t)))

pub ruleset values = (null_value, boolean_value, int32_value, int64_value, float64_value, decimal128_value, date32_value, month_day_nano_value, day_time_value, to_z-of_z)
