-- Calls of the entries are calls of the claim, and every accepted sheet has one. Assumes nothing.
use Prim.Native.Nat.{ℕ, ◌<◌, ◌≤◌, ◌^◌}
use mathlib.Core.Path.{◌≡◌, refl, sym, ap}
use mathlib.Core.List.{List}
use native.Mathlib.Omega.{arith}
use lib.ListN.{length}
use Rattle.le.specs.Fields.{onto}
use Rattle.sheet.specs.Check.{Checked, sheet_refusal}
use Rattle.sheet.specs.Sheet.{sheet_in, conjuncts_in}
use Rattle.sheet.proofs.AcceptedLaws.{accepted_back}
use Rattle.join.specs.Join.{join_selectivity_from_conjuncts}
use Rattle.answers.specs.Answers.{Answer, Refused, Written, bytes, answer_number, sheet_result}
use Rattle.answers.proofs.AnswerLaws.{fitting, comes_as}
use Rattle.join_answer.specs.Join.{join_bytes, join_result}
use Rattle.demand.specs.Demand.{AcceptedJoin}

-- a number below 2 ^ 32 is a length
pub number_written : (answer : Answer) (n : ℕ) → n ≡ answer_number answer → n < 2 ^ 32 → answer ≡ Written n
number_written (Written k) n e h = ap Written (sym e)
number_written (Refused k) n e h = absurd (omega arith)

-- a sheet that breaks no rule, with any output that has room
pub every_sheet : (s out : List ℕ) → sheet_refusal s ≡ 0 → length (join_bytes (join_selectivity_from_conjuncts (sheet_in s) (conjuncts_in s))) ≤ length out → (X : AcceptedJoin) × (X.sheet ≡ s) × (X.lent ≡ out)
unfolding join_result
every_sheet s out kept room =
    let bs = join_bytes (join_selectivity_from_conjuncts (sheet_in s) (conjuncts_in s)) in
    let e : bytes bs ≡ join_result s = ap (λ (c : Checked). sheet_result c (bytes bs)) (sym (accepted_back s kept)) in
    (record { sheet = s; lent = out; after = onto bs out; comes = comes_as (bytes bs) (join_result s) out _ _ e (fitting bs out _ _ refl room refl); size = length bs }, refl, refl)
