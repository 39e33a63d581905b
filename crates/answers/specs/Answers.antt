-- What a call answers and what it leaves in the output that it was lent (document 01, "Where a sheet is turned back"). Definitions only.
use Rattle.std.specs.Prelude.{ℕ, ◌+◌, ◌^◌, ◌≡◌, cond, List, leb, ltb, length, Ok, Err}
use Rattle.std.specs.Prelude.{Result as Outcome}
use Rattle.rules.specs.Rules.{refusal_number}
use Rattle.rules.specs.declared.Refusal.{Refusal}
use Rattle.le.specs.Fields.{onto}
use Rattle.sheet.specs.Check.{Checked, Refused as SheetRefused, Accepted, check}
use Rattle.sheet.specs.Sheet.{Sheet, sheet_in}

-- what an entry answers: the number of the rule that refuses the call, or how many bytes were written
pub data Answer : Type 0 where
  Refused : ℕ → Answer
  Written : ℕ → Answer

-- by document 01's numbers
abbrev pub answer_of : Outcome ℕ Refusal → Answer
answer_of (Ok n) = Written n
answer_of (Err r) = Refused (refusal_number r)

-- what a call comes to before the output is looked at: a refusal's number, or the answer's bytes
pub data Result : Type 0 where
  refusal : ℕ → Result
  bytes : List ℕ → Result

-- an output that is too short is refused by 12
unfoldable pub answered : Result → List ℕ → Answer
answered (refusal n) out = Refused n
answered (bytes bs) out = cond (leb (length bs) (length out)) (Written (length bs)) (Refused 12)

-- the bytes, then what stood there; all of it as it was where the call is refused
unfoldable pub leaves : Result → List ℕ → List ℕ
unfolding onto
leaves (refusal n) out = out
leaves (bytes bs) out = cond (leb (length bs) (length out)) (onto bs out) out

-- what an entry promises: a call that was lent `out` gives this answer and leaves `after` in its place
abbrev pub Comes : Result → List ℕ → Answer → List ℕ → Type 0
Comes result out answer after = (answer ≡ answered result out) × (after ≡ leaves result out)

-- one number for programs in other languages
abbrev pub answer_number : Answer → ℕ
answer_number (Written n) = n
answer_number (Refused n) = 2 ^ 32 + n

-- ---- calls that name an expression

-- the expression is in the sheet, or 11
unfoldable pub named_result : Sheet → ℕ → List ℕ → Result
named_result sheet e bs = cond (ltb e (length sheet.expressions)) (bytes bs) (refusal 11)

-- the sheet's refusals come first
abbrev pub sheet_result : Checked → Result → Result
sheet_result (SheetRefused n) result = refusal n
sheet_result (Accepted q) result = result

unfoldable pub expression_result : List ℕ → ℕ → (Sheet → ℕ → List ℕ) → Result
unfolding check sheet_in named_result
expression_result s e answer = sheet_result (check s) (named_result (sheet_in s) e (answer (sheet_in s) e))
