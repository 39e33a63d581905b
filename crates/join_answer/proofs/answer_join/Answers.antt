-- The sheet's own refusal comes first, and then the answer of an accepted sheet. Assumes nothing.
use mathlib.Core.Path.{◌≡◌, refl, ap, ◌∙◌}
use mathlib.Core.List.{List}
use Prim.Native.Nat.{ℕ}
use Rattle.std.proofs.Common.{rules, Err}
use Rattle.sheet.specs.Sheet.{Sheet, sheet_of, conjuncts_in}
use Rattle.join.specs.Join.{join_selectivity_from_conjuncts}
use Rattle.answers.specs.Answers.{bytes, answer_of}
use Rattle.join_answer.specs.Join.{join_bytes, join_result}
use Rattle.join_parts.proofs.ConjunctLaws.{own_conjuncts, accepted_conjuncts}
use Rattle.answers.proofs.AnswerLaws.{refused, sheet_refused, sheet_accepted, comes_as}
use Rattle.join_answer.proofs.answer_join.Goals as goal

pub write_own-requires : goal.write_own-requires
write_own-requires c = accepted_conjuncts c.args.s.now _ _ c.in_ok-sections.ensures refl

pub returns-in_err-sections : goal.returns-in_err-sections
unfolding join_result
returns-in_err-sections c =
    let s = c.args.s.now in
    let e : c.from_residual.result ≡ Err c.in_err-sections.field-0.0 = search rules in
    let k = comes_as _ _ _ _ _ (sheet_refused s (λ (sheet : Sheet). bytes (join_bytes (join_selectivity_from_conjuncts sheet (conjuncts_in s)))) _ c.in_err-sections.ensures _ refl) (refused _ c.args.out.now) in
    record { value = ap answer_of e ∙ k.0; out_after = k.1 }

pub returns : goal.returns
unfolding join_result
returns c =
    let s = c.args.s.now in
    let q = c.in_ok-sections.sections in
    let w = c.write_own.ensures in
    let k = comes_as _ _ _ _ _
    (ap (λ (cs : List ℕ). bytes (join_bytes (join_selectivity_from_conjuncts (sheet_of s q) cs))) (own_conjuncts s _ q c.in_ok-sections.ensures refl)
    ∙ sheet_accepted s (λ (sheet : Sheet). bytes (join_bytes (join_selectivity_from_conjuncts sheet (conjuncts_in s)))) _ c.in_ok-sections.ensures q refl)
    (w.value, w.out_after) in
    record { value = k.0; out_after = k.1 }
