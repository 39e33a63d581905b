-- Numbers of scalars and bounds by their bytes. Assumes nothing.
use Rattle.std.specs.Prelude.{None, Some}
use Prim.Native.Nat.{ℕ, ◌+◌}
use mathlib.Core.Path.{◌≡◌, refl}
use mathlib.Core.Bool.{Bool, true, false, cond}
use mathlib.Core.List.{List}
use borrow.Author.Tests.{eqb-true, ne_eqb}
use lib.Dec.{eqb}
use Rattle.le.specs.Fields.{byte_at}
use Rattle.le.specs.Integers.{i32_at, i64_at}
use Rattle.scalar.specs.Number.{scalar_to_f64}
use Rattle.scalar.specs.declared.Scalar.TheVariants.{Null, Boolean, IntervalMonthDayNano, IntervalDayTime}
use Rattle.scalar_bytes.specs.Reading.{scalar_at, bound_at}
use Rattle.range.specs.Range.{bound_number}

-- truth values, intervals and Null have none
pub no_number : (s : List ℕ) (at : ℕ) → (byte_at s at ≡ 2 → ⊥) → (byte_at s at ≡ 3 → ⊥) → (byte_at s at ≡ 4 → ⊥) → (byte_at s at ≡ 5 → ⊥) → (byte_at s at ≡ 6 → ⊥)
    → None ≡ scalar_to_f64 (scalar_at s at)
unfolding scalar_at scalar_to_f64
no_number s at e2 e3 e4 e5 e6 =
    rw (ne_eqb (byte_at s at) 2 e2, ne_eqb (byte_at s at) 3 e3, ne_eqb (byte_at s at) 4 e4, ne_eqb (byte_at s at) 5 e5, ne_eqb (byte_at s at) 6 e6) (go (eqb (byte_at s at) 1) (eqb (byte_at s at) 8) (eqb (byte_at s at) 9))
  where
    go : (a b c : Bool) → None ≡ scalar_to_f64 (cond a (Boolean (eqb (byte_at s (at + 1)) 1)) (cond b (IntervalMonthDayNano (i32_at s (at + 1)) (i32_at s (at + 5)) (i64_at s (at + 9))) (cond c (IntervalDayTime (i32_at s (at + 1)) (i32_at s (at + 5))) Null)))
    go true b c = refl
    go false true c = refl
    go false false true = refl
    go false false false = refl

-- the tag of a bound that is absent is no number's
pub bound_number_law : (s : List ℕ) (at : ℕ) → scalar_to_f64 (scalar_at s at) ≡ bound_number (bound_at s at)
unfolding bound_at scalar_at scalar_to_f64
bound_number_law s at = go (eqb (byte_at s at) 255) refl
  where
    go : (b : Bool) → eqb (byte_at s at) 255 ≡ b → scalar_to_f64 (scalar_at s at) ≡ bound_number (cond b None (Some (scalar_at s at)))
    go true e = rw (eqb-true (byte_at s at) 255 e) refl
    go false e = refl
