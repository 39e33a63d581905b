use Rattle.std.proofs.Common.{length, ℕ, Bool, refl, arith, ◌∙◌, rules, tests}
use Rattle.std.proofs.lemmas.Iterator.{YieldsList-from_range}
use Rattle.std.proofs.lemmas.Iterator.Consumers.{YieldsList-from_filter, YieldsList-at, count_from_yields_List}
use Rattle.sheet_claims.proofs.PrefixLaws.{differs, differing_filter}
use Rattle.sheet_claims.proofs.differing_below.Goals as goal

pub returns : goal.returns
returns c =
    let n = length c.args.s.now in
    let test : ℕ → Bool = λ i. differs c.args.s.now c.args.number i in
    let numbers = YieldsList-at c.filter.ensures.source (YieldsList-from_range 0 n n refl (omega arith)) in
    count_from_yields_List c.filter.result _ c.count.ensures.ran (YieldsList-from_filter _ test numbers c.filter.ensures.closure (λ x b q k. search (rules, tests)))
    ∙ differing_filter c.args.s.now c.args.number n
