-- Worked estimates. The bytes of the first are those that document 01 prints twice in its empty case, and those of the second are that case's left rows. Assumes nothing.
use Rattle.std.specs.Prelude.{◌≡◌, refl, ℕ, false, List, [], ◌∷◌, None, Some, pos}
use Rattle.std.specs.Float.{fin}
use Rattle.std.specs.Float.Ieee.{of_bits, to_bits, lt, le}
use Rattle.float.specs.Order.{f64_zero, f64_one}
use Rattle.le.specs.Fields.{field_at, field_bytes}
use Rattle.estimate.specs.Estimates.{estimate_of, clamp_to_bounds, derived}
use Rattle.estimate.specs.Bytes.{estimate_at, estimate_refusal, estimate_bytes}
use Rattle.estimate.specs.declared.EstimateSource.TheVariants.{Catalog}

abbrev certain : List ℕ
certain = 3 ∷ 3 ∷ 0 ∷ 0 ∷ 0 ∷ 0 ∷ 0 ∷ 0 ∷ 0xf0 ∷ 0x3f ∷ 0 ∷ 0 ∷ 0 ∷ 0 ∷ 0 ∷ 0 ∷ 0 ∷ 0 ∷ 0 ∷ 0 ∷ 0 ∷ 0 ∷ 0 ∷ 0 ∷ 0xf0 ∷ 0x3f ∷ []

abbrev hundred : List ℕ
hundred = 1 ∷ 0 ∷ 0 ∷ 0 ∷ 0 ∷ 0 ∷ 0 ∷ 0 ∷ 0x59 ∷ 0x40 ∷ 0 ∷ 0 ∷ 0 ∷ 0 ∷ 0 ∷ 0 ∷ 0 ∷ 0 ∷ 0 ∷ 0 ∷ 0 ∷ 0 ∷ 0 ∷ 0 ∷ 0 ∷ 0 ∷ []

certain_written : estimate_bytes (derived f64_one (Some f64_zero) (Some f64_one)) ≡ certain
unfolding estimate_bytes derived clamp_to_bounds field_bytes to_bits lt
certain_written = refl

certain_read : estimate_at certain 0 ≡ derived f64_one (Some f64_zero) (Some f64_one)
unfolding estimate_at derived clamp_to_bounds field_at of_bits lt
certain_read = refl

certain_kept : estimate_refusal certain 0 ≡ 0
unfolding estimate_refusal field_at of_bits le
certain_kept = refl

hundred_read : estimate_at hundred 0 ≡ estimate_of (fin false 25 (pos 2)) None None Catalog
unfolding estimate_at field_at of_bits
hundred_read = refl

hundred_kept : estimate_refusal hundred 0 ≡ 0
unfolding estimate_refusal field_at of_bits le
hundred_kept = refl

-- ---- the rules, one broken at a time, and two

-- a source of 5
unknown_source : estimate_refusal (5 ∷ 3 ∷ 0 ∷ 0 ∷ 0 ∷ 0 ∷ 0 ∷ 0 ∷ 0xf0 ∷ 0x3f ∷ 0 ∷ 0 ∷ 0 ∷ 0 ∷ 0 ∷ 0 ∷ 0 ∷ 0 ∷ 0 ∷ 0 ∷ 0 ∷ 0 ∷ 0 ∷ 0 ∷ 0xf0 ∷ 0x3f ∷ []) 0 ≡ 6
unfolding estimate_refusal field_at of_bits le
unknown_source = refl

-- flags of 4
unknown_flags : estimate_refusal (3 ∷ 4 ∷ 0 ∷ 0 ∷ 0 ∷ 0 ∷ 0 ∷ 0 ∷ 0xf0 ∷ 0x3f ∷ 0 ∷ 0 ∷ 0 ∷ 0 ∷ 0 ∷ 0 ∷ 0 ∷ 0 ∷ 0 ∷ 0 ∷ 0 ∷ 0 ∷ 0 ∷ 0 ∷ 0xf0 ∷ 0x3f ∷ []) 0 ≡ 6
unfolding estimate_refusal field_at of_bits le
unknown_flags = refl

-- a NaN as the value
nan_value : estimate_refusal (3 ∷ 3 ∷ 1 ∷ 0 ∷ 0 ∷ 0 ∷ 0 ∷ 0 ∷ 0xf0 ∷ 0x7f ∷ 0 ∷ 0 ∷ 0 ∷ 0 ∷ 0 ∷ 0 ∷ 0 ∷ 0 ∷ 0 ∷ 0 ∷ 0 ∷ 0 ∷ 0 ∷ 0 ∷ 0xf0 ∷ 0x3f ∷ []) 0 ≡ 4
unfolding estimate_refusal field_at of_bits le
nan_value = refl

-- -0 as the lower bound
minus_zero_law : estimate_refusal (3 ∷ 3 ∷ 0 ∷ 0 ∷ 0 ∷ 0 ∷ 0 ∷ 0 ∷ 0xf0 ∷ 0x3f ∷ 0 ∷ 0 ∷ 0 ∷ 0 ∷ 0 ∷ 0 ∷ 0 ∷ 0x80 ∷ 0 ∷ 0 ∷ 0 ∷ 0 ∷ 0 ∷ 0 ∷ 0xf0 ∷ 0x3f ∷ []) 0 ≡ 4
unfolding estimate_refusal field_at of_bits le
minus_zero_law = refl

-- the upper bound next above 2 ^ 64
above : estimate_refusal (3 ∷ 3 ∷ 0 ∷ 0 ∷ 0 ∷ 0 ∷ 0 ∷ 0 ∷ 0xf0 ∷ 0x3f ∷ 0 ∷ 0 ∷ 0 ∷ 0 ∷ 0 ∷ 0 ∷ 0 ∷ 0 ∷ 1 ∷ 0 ∷ 0 ∷ 0 ∷ 0 ∷ 0 ∷ 0xf0 ∷ 0x43 ∷ []) 0 ≡ 4
unfolding estimate_refusal field_at of_bits le
above = refl

-- 2 ^ 64 itself
at_limit : estimate_refusal (3 ∷ 3 ∷ 0 ∷ 0 ∷ 0 ∷ 0 ∷ 0 ∷ 0 ∷ 0xf0 ∷ 0x3f ∷ 0 ∷ 0 ∷ 0 ∷ 0 ∷ 0 ∷ 0 ∷ 0 ∷ 0 ∷ 0 ∷ 0 ∷ 0 ∷ 0 ∷ 0 ∷ 0 ∷ 0xf0 ∷ 0x43 ∷ []) 0 ≡ 0
unfolding estimate_refusal field_at of_bits le
at_limit = refl

-- an absent lower bound whose bytes are -0's
absent_not_zero : estimate_refusal (1 ∷ 0 ∷ 0 ∷ 0 ∷ 0 ∷ 0 ∷ 0 ∷ 0 ∷ 0x59 ∷ 0x40 ∷ 0 ∷ 0 ∷ 0 ∷ 0 ∷ 0 ∷ 0 ∷ 0 ∷ 0x80 ∷ 0 ∷ 0 ∷ 0 ∷ 0 ∷ 0 ∷ 0 ∷ 0 ∷ 0 ∷ []) 0 ≡ 6
unfolding estimate_refusal field_at of_bits le
absent_not_zero = refl

-- flags and value broken: the flags stand first
flags_before_value : estimate_refusal (3 ∷ 4 ∷ 1 ∷ 0 ∷ 0 ∷ 0 ∷ 0 ∷ 0 ∷ 0xf0 ∷ 0x7f ∷ 0 ∷ 0 ∷ 0 ∷ 0 ∷ 0 ∷ 0 ∷ 0 ∷ 0 ∷ 0 ∷ 0 ∷ 0 ∷ 0 ∷ 0 ∷ 0 ∷ 0xf0 ∷ 0x3f ∷ []) 0 ≡ 6
unfolding estimate_refusal field_at of_bits le
flags_before_value = refl

-- value and absent bound broken: the value stands first
value_before_bounds : estimate_refusal (1 ∷ 0 ∷ 0 ∷ 0 ∷ 0 ∷ 0 ∷ 0 ∷ 0 ∷ 0 ∷ 0x80 ∷ 1 ∷ 0 ∷ 0 ∷ 0 ∷ 0 ∷ 0 ∷ 0 ∷ 0 ∷ 0 ∷ 0 ∷ 0 ∷ 0 ∷ 0 ∷ 0 ∷ 0 ∷ 0 ∷ []) 0 ≡ 4
unfolding estimate_refusal field_at of_bits le
value_before_bounds = refl
