use Rattle.std.proofs.Common.{T, sym, ◌∙◌, subst}
use lib.Ieee.{of_bits}
use Rattle.power.proofs.Fractions.{weighed}
use Rattle.power.proofs.fraction_digits.Goals as goal

pub truncating_f64_to_u64-requires-clause-lower_bound : goal.truncating_f64_to_u64-requires-clause-lower_bound
unfolding of_bits
truncating_f64_to_u64-requires-clause-lower_bound c =
    let w = weighed c.args.f (subst T (sym c.well_formed.0.1) tt) c.requires.at_least_one c.requires.below_limit in
    rw c.fract.ensures w.low

pub truncating_f64_to_u64-requires-clause-upper_bound : goal.truncating_f64_to_u64-requires-clause-upper_bound
unfolding of_bits
truncating_f64_to_u64-requires-clause-upper_bound c =
    let w = weighed c.args.f (subst T (sym c.well_formed.0.1) tt) c.requires.at_least_one c.requires.below_limit in
    rw c.fract.ensures w.high

pub returns : goal.returns
unfolding of_bits
returns c =
    let w = weighed c.args.f (subst T (sym c.well_formed.0.1) tt) c.requires.at_least_one c.requires.below_limit in
    rw c.fract.ensures at c.truncating_f64_to_u64.ensures ∙ w.gives
