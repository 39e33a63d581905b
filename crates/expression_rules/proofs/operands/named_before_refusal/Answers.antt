use Rattle.std.proofs.Common.{◌≡◌, ℕ, ◌+◌, ◌*◌, Bool, not, eqb, refl, ap, ◌∙◌, arith, rules, tests}
use Rattle.std.specs.List.{list_any, range_with_len}
use Rattle.std.proofs.lemmas.Iterator.{YieldsList-from_range}
use Rattle.std.proofs.lemmas.Iterator.Search.{any_from_yields_List}
use Rattle.le.specs.Fields.{u16_at}
use Rattle.rules.specs.Rules.{ask}
use Rattle.rules.proofs.LoopLaws.{first_any}
use Rattle.expression_rules.specs.Operands.{same_operand_refusal}
use Rattle.expression_rules.proofs.operands.named_before_refusal.Goals as goal

pub returns : goal.returns
unfolding same_operand_refusal
returns c =
    let test : ℕ → Bool = λ j. eqb (u16_at c.args.s.now (c.args.first + 2 * j)) c.args.o in
    let found : c.any.result ≡ list_any test (range_with_len 0 c.args.i) =
    any_from_yields_List test _ _ c.any.result c.any.ensures.ran (YieldsList-from_range 0 c.args.i c.args.i refl (omega arith)) (λ x b q k. search (rules, tests)) in
    c.ask.ensures ∙ (ap (λ (b : Bool). ask (not b) 9) found ∙ first_any test 8 0 c.args.i)
