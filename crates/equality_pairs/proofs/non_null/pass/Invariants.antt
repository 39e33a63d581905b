use mathlib.Core.Path.{◌≡◌}
use mathlib.Core.Bool.{◌||◌}
use lib.ListN.{drop}
use Rattle.equality_pairs.specs.NonNull.{pass, pass_extends}
use Rattle.equality_pairs.proofs.non_null.pass.Given as goal

abbrev pub invariant-loop-pair : goal.invariant-loop-pair
invariant-loop-pair l = (pass l.marks (drop l.pair-index l.pairs) ≡ pass l.initial.marks l.pairs) × ((l.changed || pass_extends l.marks (drop l.pair-index l.pairs)) ≡ pass_extends l.initial.marks l.pairs)
