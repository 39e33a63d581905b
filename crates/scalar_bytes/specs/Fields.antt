-- Scalars as fields of a record: their order (document 02, 2.13) goes by the tag and then by the parts of the value. Definitions only.
use Rattle.std.specs.Prelude.{ℕ, List, ℤ, pos, Float}
use Rattle.float.specs.Integers.{bit}
use Rattle.float.specs.Order.{f64_zero}
use Rattle.scalar.specs.declared.Scalar.{Scalar}
use Rattle.scalar.specs.declared.Scalar.TheVariants.{Null, Boolean, Int32, Int64, Float64, Decimal128, Date32, IntervalMonthDayNano, IntervalDayTime}
use Rattle.std.specs.Prelude.{Option, Some, None}
use Rattle.layout.specs.Places.{scalar_size}
use Rattle.layout.specs.Fields.{Order, order_then, number_order, integer_order, float_order, Field}
use Rattle.scalar_bytes.specs.Encoding.{bound_bytes}

-- ---- parts

-- the whole numbers stand in byte order; a part that a value does not have is 0
pub record Parts : Type 0 where
  pub tag : ℕ
  pub precision : ℕ
  pub scale : ℕ
  pub first : ℤ
  pub second : ℤ
  pub third : ℤ
  pub float : Float

abbrev pub whole_parts : ℕ → ℤ → ℤ → ℤ → Parts
whole_parts tag first second third = record { tag = tag; precision = 0; scale = 0; first = first; second = second; third = third; float = f64_zero }

unfoldable pub scalar_parts : Scalar → Parts
scalar_parts Null = whole_parts 0 (pos 0) (pos 0) (pos 0)
scalar_parts (Boolean b) = whole_parts 1 (pos (bit b)) (pos 0) (pos 0)
scalar_parts (Int32 x) = whole_parts 2 x (pos 0) (pos 0)
scalar_parts (Int64 x) = whole_parts 3 x (pos 0) (pos 0)
scalar_parts (Float64 x) = record { tag = 4; precision = 0; scale = 0; first = pos 0; second = pos 0; third = pos 0; float = x }
scalar_parts (Decimal128 value precision scale) = record { tag = 5; precision = precision; scale = scale; first = value; second = pos 0; third = pos 0; float = f64_zero }
scalar_parts (Date32 x) = whole_parts 6 x (pos 0) (pos 0)
scalar_parts (IntervalMonthDayNano months days nanoseconds) = whole_parts 8 months days nanoseconds
scalar_parts (IntervalDayTime days milliseconds) = whole_parts 9 days milliseconds (pos 0)

unfoldable pub bound_parts : Option Scalar → Parts
unfolding scalar_parts
bound_parts None = whole_parts 255 (pos 0) (pos 0) (pos 0)
bound_parts (Some x) = scalar_parts x

-- ---- the order

abbrev pub parts_order : Parts → Parts → Order
parts_order x y =
    order_then (number_order x.tag y.tag)
    (order_then (number_order x.precision y.precision)
    (order_then (number_order x.scale y.scale)
    (order_then (integer_order x.first y.first)
    (order_then (integer_order x.second y.second)
    (order_then (integer_order x.third y.third)
    (float_order x.float y.float))))))

unfoldable pub bound_order : Option Scalar → Option Scalar → Order
unfolding bound_parts
bound_order x y = parts_order (bound_parts x) (bound_parts y)

-- ---- fields

-- a scalar, or none
abbrev pub bound : {C A : Type 0} → (A → Option Scalar) → (C → List ℕ → ℕ → ℕ) → Field C A
bound get rule = record {
  width = scalar_size;
  refusal = rule;
  bytes = λ x. bound_bytes (get x);
  order = λ x y. bound_order (get x) (get y);
}

abbrev pub scalar : {C A : Type 0} → (A → Scalar) → (C → List ℕ → ℕ → ℕ) → Field C A
scalar get = bound (λ x. Some (get x))
