use Prim.Native.Nat.{◌+◌}
use mathlib.Core.Path.{ap, ◌∙◌}
use mathlib.Core.Bool.{Bool}
use mathlib.Core.List.{List}
use Rattle.layout.specs.Places.{column_limit}
use Rattle.equality_pairs.specs.NonNull.{passes, non_null_marks}
use Rattle.equality_pairs.proofs.non_null.non_null_marks.Goals as goal

pub returns : goal.returns
unfolding non_null_marks
returns c = c.passes.ensures ∙ ap (λ (m : List Bool). passes (column_limit + 1) m c.args.pairs.now) c.mark_ordinary.ensures
