use Rattle.std.proofs.Common.{rules, ◌≡◌, ℕ, ◌∙◌, arith, tests}
use Rattle.std.proofs.iter.runs.Sources.{sums}
use Rattle.std.proofs.lemmas.Iterator.{YieldsList-from_slice}
use Rattle.std.proofs.lemmas.Iterator.Adapters.{fits_from_length, at_most_from_yields_List}
use Rattle.std.specs.List.{sum_by}
use Rattle.class_state.specs.Sizes.{returned_size}
use Rattle.class_state.proofs.CountLaws.{sum_is, counts_size_below}
use Rattle.class_state.proofs.returned.counts_size.Goals as goal

pub sum-size-requires-clause-fits : goal.sum-size-requires-clause-fits
sum-size-requires-clause-fits c = fits_from_length _ _ 128 _ (at_most_from_yields_List (YieldsList-from_slice c.args.counts.now (cc)) (grind arith)) c.map.ensures.closure (omega arith) (λ x r q k. search (rules, tests))

pub returns-clause-value : goal.returns-clause-value
returns-clause-value c =
    let e : c.sum-size.result ≡ sum_by returned_size c.args.counts.now = search (rules, sums) in
    e ∙ sum_is returned_size c.args.counts.now

pub returns-clause-upper_bound : goal.returns-clause-upper_bound
returns-clause-upper_bound c =
    let e : c.sum-size.result ≡ sum_by returned_size c.args.counts.now = search (rules, sums) in
    let s = sum_is returned_size c.args.counts.now in
    let b = counts_size_below c.args.counts.now (λ (i : ℕ). omega (arith, (c.type_inv.counts i).fits)) in
    omega arith
