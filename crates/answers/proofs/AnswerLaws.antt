-- Laws of answers: what a refusal and what bytes come to, and which of them a call has. Assumes nothing.
use Prim.Native.Nat.{ℕ, ◌≤◌, ◌<◌}
use mathlib.Core.Path.{◌≡◌, refl, sym, ap, ◌∙◌}
use mathlib.Core.List.{List}
use native.Mathlib.Omega.{arith}
use borrow.Author.Tests.{le-leb, lt-leb, lt-ltb, le-ltb}
use lib.ListN.{length}
use Rattle.le.specs.Fields.{onto}
use Rattle.sheet.specs.Check.{Checked, Refused as SheetRefused, Accepted, check}
use Rattle.sheet.specs.Sheet.{Sheet, sheet_of, sheet_in}
use Rattle.sheet.specs.declared.Sections.{Sections}
use Rattle.sheet.proofs.AcceptedLaws.{accepted}
use Rattle.answers.specs.Answers.{Answer, Refused, Written, Result, refusal, bytes, answered, leaves, Comes, named_result, sheet_result, expression_result}

-- ---- a result

pub refused : (n : ℕ) (out : List ℕ) → Comes (refusal n) out (Refused n) out
unfolding answered leaves
refused n out = (refl, refl)

pub fitting : (bs out after : List ℕ) (n : ℕ) → n ≡ length bs → n ≤ length out → after ≡ onto bs out → Comes (bytes bs) out (Written n) after
unfolding answered leaves
fitting bs out after n e h f =
    let l : length bs ≤ length out = omega arith in
    rw (le-leb _ _ l) (ap Written e, f)

pub too_short : (bs out : List ℕ) → length out < length bs → Comes (bytes bs) out (Refused 12) out
unfolding answered leaves
too_short bs out h = rw (lt-leb _ _ h) (refl, refl)

-- ---- which result a call has

pub comes_as : (a b : Result) (out : List ℕ) (answer : Answer) (after : List ℕ) → a ≡ b → Comes a out answer after → Comes b out answer after
comes_as a b out answer after e c = (c.0 ∙ ap (λ (r : Result). answered r out) e, c.1 ∙ ap (λ (r : Result). leaves r out) e)

pub named_in : (sheet : Sheet) (e : ℕ) (bs : List ℕ) → e < length sheet.expressions → bytes bs ≡ named_result sheet e bs
unfolding named_result
named_in sheet e bs h = rw (lt-ltb _ _ h) refl

pub named_out : (sheet : Sheet) (e : ℕ) (bs : List ℕ) → length sheet.expressions ≤ e → refusal 11 ≡ named_result sheet e bs
unfolding named_result
named_out sheet e bs h = rw (le-ltb _ _ h) refl

-- the result of an accepted sheet, and the sheet's own refusal before it
module _ (s : List ℕ) (result : Sheet → Result) (c : Checked) (f : c ≡ check s) where
  pub sheet_refused : (n : ℕ) → c ≡ SheetRefused n → refusal n ≡ sheet_result (check s) (result (sheet_in s))
  sheet_refused n g = ap (λ (d : Checked). sheet_result d (result (sheet_in s))) (sym g ∙ f)

  pub sheet_accepted : (q : Sections) → c ≡ Accepted q → result (sheet_of s q) ≡ sheet_result (check s) (result (sheet_in s))
  unfolding sheet_in
  sheet_accepted q g =
      ap (λ (x : Sections). result (sheet_of s x)) (sym (accepted s q (sym f ∙ g)).1)
      ∙ ap (λ (d : Checked). sheet_result d (result (sheet_in s))) (sym g ∙ f)

-- the same for a call that names an expression
module _ (s : List ℕ) (e : ℕ) (answer : Sheet → ℕ → List ℕ) where
  pub refused_result : (n : ℕ) → SheetRefused n ≡ check s → refusal n ≡ expression_result s e answer
  unfolding expression_result
  refused_result n h = sheet_refused s (λ (sheet : Sheet). named_result sheet e (answer sheet e)) (SheetRefused n) h n refl

  pub accepted_result : (q : Sections) → Accepted q ≡ check s → named_result (sheet_of s q) e (answer (sheet_of s q) e) ≡ expression_result s e answer
  unfolding expression_result
  accepted_result q h = sheet_accepted s (λ (sheet : Sheet). named_result sheet e (answer sheet e)) (Accepted q) h q refl
