use Rattle.std.proofs.Common.{ℕ, ◌*◌, ◌≤◌, ◌<◌, ◌^◌, sym, ◌∙◌, subst, arith, rules}
use Rattle.std.specs.List.{range_with_len}
use Rattle.std.proofs.lemmas.Iterator.{YieldsList-from_range, YieldsList-from_map}
use Rattle.std.proofs.lemmas.Iterator.Consumers.{fits_by_from_yields_list, sum_by_from_yields_List}
use Rattle.expression_rules.specs.Operands.{runs_before}
use Rattle.expression_rules.proofs.RunLaws.{run_of, runs_sum, runs_few}
use Rattle.expression_rules.proofs.operands.runs_before.Goals as goal

pub sum-requires-clause-fits : goal.sum-requires-clause-fits
sum-requires-clause-fits c =
    let run : ℕ → ℕ = run_of c.args.s.now c.args.start in
    let few : runs_before c.args.s.now c.args.start c.args.n ≤ 65535 * c.args.n = runs_few _ _ (λ k. (c.type_inv.s k).fits) _ in
    fits_by_from_yields_list run (range_with_len 0 c.args.n) _ (2 ^ 64)
    (YieldsList-from_map _ run (YieldsList-from_range 0 c.args.n c.args.n c.map.ensures.source (omega arith)) c.map.ensures.closure (λ x r q k. search rules))
    (subst (λ (m : ℕ). m < 2 ^ 64) (sym (runs_sum _ _ c.args.n)) (omega arith))

pub returns : goal.returns
returns c =
    let run : ℕ → ℕ = run_of c.args.s.now c.args.start in
    sum_by_from_yields_List run (range_with_len 0 c.args.n) _ c.sum.result c.sum.ensures.ran
    (YieldsList-from_map _ run (YieldsList-from_range 0 c.args.n c.args.n c.map.ensures.source (omega arith)) c.map.ensures.closure (λ x r q k. search rules))
    ∙ runs_sum _ _ c.args.n
