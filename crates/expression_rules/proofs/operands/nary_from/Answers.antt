use Rattle.std.proofs.Common.{◌≡◌, ℕ, ◌-◌, ◌≤◌, true, false, sym, ap, ◌∙◌, subst, arith, rules, tests}
use Rattle.std.proofs.lemmas.Iterator.{first_from_Range}
use Rattle.le.specs.Fields.{u16_at}
use Rattle.expression_rules.specs.Operands.{run_holds, first_holding, nary_from}
use Rattle.expression_rules.proofs.RunLaws.{nary_within, holding_search}
use Rattle.expression_rules.proofs.operands.nary_from.Goals as goal

pub returns : goal.returns
returns c =
    let found = first_from_Range _ _ _ c.find.result (λ f. run_holds c.args.expressions.now.s.now c.args.expressions.now.start c.args.i f ≡ true) (λ f. run_holds c.args.expressions.now.s.now c.args.expressions.now.start c.args.i f ≡ false) c.find.ensures.ran (λ x q k. search (rules, tests)) (λ x q k. search (rules, tests)) in
    let is : c.unwrap_or.result ≡ nary_from c.args.expressions.now.s.now c.args.expressions.now.start c.args.i c.args.e =
    c.unwrap_or.ensures
    ∙ (holding_search _ _ _ _ _ c.find.result (omega (arith, c.from-n.ensures, c.u16_at.ensures, c.requires)) found
    ∙ ap (λ (n : ℕ). first_holding c.args.expressions.now.s.now c.args.expressions.now.start c.args.i c.args.e (n - c.args.e)) (c.from-n.ensures ∙ c.u16_at.ensures)) in
    let within : c.unwrap_or.result ≤ u16_at c.args.expressions.now.s.now c.args.expressions.now.start = subst (λ (n : ℕ). n ≤ u16_at c.args.expressions.now.s.now c.args.expressions.now.start) (sym is) (nary_within _ _ _ _ c.requires) in
    (is, (within, omega (arith, within, c.u16_at.ensures, c.u16_at.type_inv)))
