use mathlib.Core.Path.{ap}
use native.Mathlib.Omega.{arith}
use lib.ListN.{length}
use Rattle.equality_pairs.proofs.PaddedLaws.{pushed}
use Rattle.equality_pairs.proofs.pairs.EqualityPairs.push.Goals as goal

pub invariant_of-self : goal.invariant_of-self
invariant_of-self c =
    let v = ap length c.self.view_is in
    pushed c.self.inside.pairs c.self.inside.count c.args.pair c.self.invariant.1 c.self.invariant.2 (omega (arith, c.requires))
