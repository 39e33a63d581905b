use mathlib.Core.Path.{◌≡◌}
use lib.ListN.{length}
use Rattle.class_state.proofs.CountLaws.{Counted}
use Rattle.class_state.proofs.members.member_counts.Given as goal

abbrev pub invariant-loop-column : goal.invariant-loop-column
invariant-loop-column l = (length l.counts ≡ 128) × Counted l.roots l.counts l.column
