-- The bytes of an estimate (document 01, "The join sheet"): a byte for the source, a byte of flags, then three floats, of which the bounds are all zeros where their flag is clear. Definitions only.
use Rattle.std.specs.Prelude.{ℕ, ◌+◌, ◌*◌, ◌/◌, ◌%◌, ◌≡◌, Bool, true, false, cond, List, [], ◌∷◌, Option, None, Some, T, leb, eqb, pos, negsuc, Float}
use Rattle.std.specs.Bool.{then_some}
use Rattle.std.specs.Float.{fin, binary64}
use Rattle.std.specs.Float.Ieee.{to_bits, fits}
use Rattle.float.specs.Integers.{bit}
use Rattle.float.specs.Ranges.{zero_or_between}
use Rattle.float.specs.Order.{f64_zero}
use Rattle.le.specs.Fields.{byte_at, u64_at}
use Rattle.le.specs.Floats.{f64_at}
use Rattle.rules.specs.Rules.{ask}
use Rattle.layout.specs.Places.{estimate_flags_offset, estimate_value_offset, estimate_lower_offset, estimate_upper_offset}
use Rattle.layout.specs.Fields.{Field, byte, pattern, float, group, refusal_from, bytes_of}
use Rattle.estimate.specs.Estimates.{estimate_of}
use Rattle.estimate.specs.declared.Estimate.{Estimate}
use Rattle.estimate.specs.declared.EstimateSource.{EstimateSource}
use Rattle.estimate.specs.declared.EstimateSource.TheVariants.{Exact, Catalog, Sketch, Derived, Default}

-- ---- fields

-- the order of `EstimateSource`
abbrev pub source_number : EstimateSource → ℕ
source_number Exact = 0
source_number Catalog = 1
source_number Sketch = 2
source_number Derived = 3
source_number Default = 4

-- a number that stands for none gives Default
abbrev pub source_of : ℕ → EstimateSource
source_of n = cond (eqb n 0) Exact (cond (eqb n 1) Catalog (cond (eqb n 2) Sketch (cond (eqb n 3) Derived Default)))

abbrev pub lower_flag : ℕ → Bool
lower_flag flags = eqb (flags % 2) 1

abbrev pub upper_flag : ℕ → Bool
upper_flag flags = eqb (flags / 2 % 2) 1

abbrev pub flags_number : Estimate → ℕ
flags_number e = bit e.has_lower + 2 * bit e.has_upper

-- ---- read

abbrev pub option_at : Bool → List ℕ → ℕ → Option Float
option_at present s at = then_some present (f64_at s at)

unfoldable pub estimate_at : List ℕ → ℕ → Estimate
estimate_at s at =
    estimate_of
    (f64_at s (at + estimate_value_offset))
    (option_at (lower_flag (byte_at s (at + estimate_flags_offset))) s (at + estimate_lower_offset))
    (option_at (upper_flag (byte_at s (at + estimate_flags_offset))) s (at + estimate_upper_offset))
    (source_of (byte_at s at))

-- ---- the fields

-- +0, or from 2 ^ -64 to 2 ^ 64
abbrev pub figure_lawful : Float → Bool
figure_lawful x = zero_or_between (fin false 1 (negsuc 63)) (fin false 1 (pos 64)) x

abbrev pub bound_refusal : Bool → List ℕ → ℕ → ℕ
bound_refusal present s at = cond present (ask (figure_lawful (f64_at s at)) 4) (ask (eqb (u64_at s at) 0) 6)

-- zeros where it is absent
abbrev pub option_bits : Option Float → ℕ
option_bits None = 0
option_bits (Some x) = to_bits binary64 x

-- by its flag and its number
abbrev pub option : {C A : Type 0} → (A → Bool) → (A → Float) → (C → List ℕ → ℕ → ℕ) → Field C A
option present number = pattern number (λ x. option_bits (then_some (present x) (number x)))

-- by the flags
abbrev pub estimate_fields : List (Field ℕ Estimate)
estimate_fields =
    byte (λ x. source_number x.source) (λ flags s at. ask (leb (byte_at s at) 4) 6)
    ∷ byte flags_number (λ flags s at. ask (leb (byte_at s at) 3) 6)
    ∷ float (λ x. x.value) (λ flags s at. ask (figure_lawful (f64_at s at)) 4)
    ∷ option (λ x. x.has_lower) (λ x. x.lower) (λ flags. bound_refusal (lower_flag flags))
    ∷ option (λ x. x.has_upper) (λ x. x.upper) (λ flags. bound_refusal (upper_flag flags))
    ∷ []

unfoldable pub estimate_refusal : List ℕ → ℕ → ℕ
estimate_refusal s at = refusal_from estimate_fields (byte_at s (at + estimate_flags_offset)) s at 0

unfoldable pub estimate_bytes : Estimate → List ℕ
estimate_bytes = bytes_of estimate_fields

-- an estimate in another record
abbrev pub estimate : {C A : Type 0} → (A → Estimate) → Field C A
estimate get = group get (λ c. estimate_refusal) estimate_fields

-- ---- what a sheet may hold

pub record LawfulFigure (x : Float) : Type 0 where
  pub held : T (fits binary64 x)
  pub lawful : T (figure_lawful x)

-- +0 where the flag is clear
abbrev pub LawfulBound : Bool → Float → Type 0
LawfulBound true x = LawfulFigure x
LawfulBound false x = x ≡ f64_zero

pub record LawfulEstimate (e : Estimate) : Type 0 where
  pub value : LawfulFigure e.value
  pub lower : LawfulBound e.has_lower e.lower
  pub upper : LawfulBound e.has_upper e.upper
