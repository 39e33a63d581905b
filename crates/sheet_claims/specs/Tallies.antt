-- Counting on a line of the report. Definitions only.
use Rattle.std.specs.Prelude.{ℕ, ◌+◌, ◌-◌, ◌^◌, min, List, get_or, set}
use Rattle.rules.specs.Rules.{refusal_number}
use Rattle.sheet_claims.specs.declared.Line.{Line}
use Rattle.sheet_claims.specs.declared.Line.TheVariants.{Unknown, Refused, Accepted, Prefixes, Stores, Joins, Predicates, Splits}
use Rattle.sheet_claims.specs.declared.Verdict.{Verdict}
use Rattle.sheet_claims.specs.declared.tallies.Tally.{Tally}

abbrev pub place : Line → ℕ
place Unknown = 0
place (Refused refusal) = refusal_number refusal
place Accepted = 11
place Prefixes = 12
place Stores = 13
place Joins = 14
place Predicates = 15
place Splits = 16

-- a line that is not there
abbrev pub no_tally : Tally
no_tally = record { cases = 0; differ = 0 }

abbrev pub tally_of : List Tally → Line → Tally
tally_of tallies line = get_or tallies (place line) no_tally

-- a count stays at the largest number of 64 bits
abbrev pub plus : ℕ → ℕ → ℕ
plus a b = min (a + b) (2 ^ 64 - 1)

-- nothing is counted on a line that is not there
unfoldable pub raised : List Tally → Verdict → List Tally
raised tallies v = set tallies (place v.line) (record { cases = plus (tally_of tallies v.line).cases v.cases; differ = plus (tally_of tallies v.line).differ v.differ })
