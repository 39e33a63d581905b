use Rattle.std.proofs.Common.{rules}
use lib.Ieee.{of_bits}
use Rattle.interval.specs.Fraction.{discrete}
use Rattle.interval.proofs.fraction.discrete.Goals as goal

pub returns : goal.returns
unfolding discrete of_bits
returns c = search rules
