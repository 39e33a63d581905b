-- What a walk over a section's records carries along. Definitions only.
use Rattle.std.specs.Prelude.{ℕ, zero, suc, ◌+◌, ◌≤◌, ◌≡◌, List, Result, Ok, Err}
use Rattle.le.specs.Fields.{u16_at}
use Rattle.layout.specs.Places.{sketch_count_offset}
use Rattle.rules.specs.Rules.{refusal_number}
use Rattle.rules.specs.declared.Refusal.{Refusal}
use Rattle.expression_rules.specs.Operands.{run_length, first_holding, nary_from, RunsFollow}
use Rattle.sheet.specs.Table.{section_of}
use Rattle.sheet.specs.Order.{record_at}
use Rattle.sheet.specs.declared.order.Kind.{Kind}
use Rattle.sheet.specs.declared.table.Tally.{Tally}
use Rattle.sheet.specs.declared.table.Tally.TheVariants.{Nothing, Items, Runs, Owner}

-- where operands are judged, the expressions have been: their runs follow each other
abbrev pub RunsKnown : Kind → List ℕ → ℕ → Type 0
RunsKnown kind s expressions = (section_of kind).tally ≡ Owner → RunsFollow s expressions

-- an owner is one of the expressions, or their number
abbrev pub OwnerWithin : Tally → List ℕ → ℕ → ℕ → Type 0
OwnerWithin tally s expressions n = tally ≡ Owner → n ≤ u16_at s expressions

-- n is the tally before record i, which stands at `at`; this is the one behind it: the items of the sketches, the operands of the expressions, the operand's owner
unfoldable pub next_tally : Tally → List ℕ → ℕ → ℕ → ℕ → ℕ → ℕ
unfolding first_holding
next_tally Nothing s expressions n i at = 0
next_tally Items s expressions n i at = n + u16_at s (at + sketch_count_offset)
next_tally Runs s expressions n i at = n + run_length s at
next_tally Owner s expressions n i at = nary_from s expressions i n

-- what record i needs of those before it
unfoldable pub tally_before : Kind → List ℕ → ℕ → ℕ → ℕ → ℕ
unfolding next_tally record_at
tally_before kind s expressions start zero = 0
tally_before kind s expressions start (suc i) = next_tally (section_of kind).tally s expressions (tally_before kind s expressions start i) i (record_at kind s start i)

-- a refusal's number, or the place that a walk reached
pub data Reached : Type 0 where
  Refused : ℕ → Reached
  At : ℕ → Reached

-- what a walk answers
abbrev pub reached_of : Result ℕ Refusal → Reached
reached_of (Ok at) = At at
reached_of (Err refusal) = Refused (refusal_number refusal)

-- the refusal, or the place where there is none
abbrev pub reached : ℕ → ℕ → Reached
reached zero at = At at
reached (suc n) at = Refused (suc n)
