-- Scalars that keep their rules, where none may be absent. Assumes nothing.
use Prim.Native.Nat.{ℕ}
use mathlib.Core.Path.{◌≡◌, refl, sym, ◌∙◌}
use mathlib.Core.Bool.{Bool, true, false, cond, false≢true}
use mathlib.Core.List.{List}
use lib.Dec.{eqb}
use Rattle.le.specs.Fields.{byte_at}
use Rattle.le.proofs.FieldLaws.{Bytes}
use Rattle.scalar.specs.Types.{is_null}
use Rattle.scalar.specs.declared.Scalar.{Scalar}
use Rattle.scalar.specs.declared.Scalar.TheVariants.{Null, Boolean, Int32, Int64, Float64, Decimal128, Date32, IntervalMonthDayNano, IntervalDayTime}
use Rattle.std.specs.Prelude.{Some, None}
use Rattle.scalar_bytes.specs.Reading.{is_bound, scalar_refusal, scalar_at, bound_at}
use Rattle.scalar_bytes.specs.Encoding.{lawful_scalar, lawful_bound, place_allows}
use Rattle.scalar_bytes.specs.declared.reads.ScalarPlace.{ScalarPlace}
use Rattle.scalar_bytes.specs.declared.reads.ScalarPlace.TheVariants.{Sketch}
use Rattle.scalar_bytes.proofs.EncodingLaws.{accepted_allowed, accepted_lawful}

given : (place : ScalarPlace) (t : Bool) (x : Scalar) → is_bound place ≡ false → place_allows place (cond t None (Some x)) ≡ true → lawful_bound (cond t None (Some x)) ≡ true
    → (place_allows place (Some x) ≡ true) × (lawful_scalar x ≡ true)
unfolding place_allows lawful_bound
given place true x b a l = absurd (false≢true (sym b ∙ a))
given place false x b a l = (a, l)

both_lawful : (place : ScalarPlace) (s : List ℕ) (at : ℕ) → is_bound place ≡ false → Bytes s → scalar_refusal place s at ≡ 0
    → (place_allows place (Some (scalar_at s at)) ≡ true) × (lawful_scalar (scalar_at s at) ≡ true)
unfolding bound_at
both_lawful place s at b k e = given place (eqb (byte_at s at) 255) (scalar_at s at) b (accepted_allowed place s at e) (accepted_lawful place s at k e)

pub scalar_lawful : (place : ScalarPlace) (s : List ℕ) (at : ℕ) → is_bound place ≡ false → Bytes s → scalar_refusal place s at ≡ 0 → lawful_scalar (scalar_at s at) ≡ true
scalar_lawful place s at b k e = (both_lawful place s at b k e).1

no_null : (x : Scalar) → place_allows Sketch (Some x) ≡ true → is_null x ≡ false
unfolding place_allows
no_null Null e = absurd (false≢true e)
no_null (Boolean b) e = refl
no_null (Int32 x) e = refl
no_null (Int64 x) e = refl
no_null (Float64 x) e = refl
no_null (Decimal128 value precision scale) e = refl
no_null (Date32 x) e = refl
no_null (IntervalMonthDayNano months days nanoseconds) e = refl
no_null (IntervalDayTime days milliseconds) e = refl

pub sketch_no_null : (s : List ℕ) (at : ℕ) → Bytes s → scalar_refusal Sketch s at ≡ 0 → is_null (scalar_at s at) ≡ false
sketch_no_null s at k e = no_null (scalar_at s at) (both_lawful Sketch s at refl k e).0
