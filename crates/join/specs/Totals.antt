-- What the edges of a join come to, as the code has it: the figures, and how many coverages there are. Definitions only.
use Rattle.std.specs.Prelude.{length}
use Rattle.edge_fold.specs.Fold.{Folded}
use Rattle.join.specs.declared.fold.EqualityTotals.{EqualityTotals}

abbrev pub equality_totals : Folded → EqualityTotals
equality_totals state = record { figures = state.figures; coverages = length state.coverages }
