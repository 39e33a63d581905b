-- Refusal numbers, put together in the order of the checks. 0 is no refusal. Definitions only.
use Rattle.std.specs.Prelude.{ℕ, zero, suc, ◌+◌, Bool, true, false, Result, Ok, Err}
use Rattle.rules.specs.declared.Refusal.{Refusal}
use Rattle.rules.specs.declared.Refusal.TheVariants.{Length, Truncated, Count, Figure, Scalar, Code, Order, Reference, OperandRun, Trailing, Expression, Output}

-- n where the rule is broken
abbrev pub ask : Bool → ℕ → ℕ
ask true n = 0
ask false n = n

-- the first that is not 0
abbrev pub or_else : ℕ → ℕ → ℕ
or_else zero b = b
or_else (suc a) b = suc a

-- the first that is not 0 among n numbers, f i and those behind it
unfoldable pub first_refusal : (ℕ → ℕ) → ℕ → ℕ → ℕ
first_refusal f i zero = 0
first_refusal f i (suc n) = or_else (f i) (first_refusal f (i + 1) n)

-- ---- refusals by their numbers (document 01, "Where a sheet is turned back")

abbrev pub refusal_number : Refusal → ℕ
refusal_number Length = 1
refusal_number Truncated = 2
refusal_number Count = 3
refusal_number Figure = 4
refusal_number Scalar = 5
refusal_number Code = 6
refusal_number Order = 7
refusal_number Reference = 8
refusal_number OperandRun = 9
refusal_number Trailing = 10
refusal_number Expression = 11
refusal_number Output = 12

-- what a check comes to: 0 where nothing is refused
abbrev pub outcome_number : {A : Type 0} → Result A Refusal → ℕ
outcome_number (Ok x) = 0
outcome_number (Err r) = refusal_number r
