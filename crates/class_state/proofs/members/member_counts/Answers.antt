use Prim.Native.Nat.{ℕ, ◌+◌}
use mathlib.Core.Path.{refl, sym, subst}
use mathlib.Core.List.{List}
use native.Mathlib.Omega.{arith}
use borrow.Author.Rules.{rules}
use Rattle.class_state.proofs.CountLaws.{Counted, counted_first, counted_next, counted_room, counted_all}
use Rattle.class_state.proofs.members.member_counts.Goals as goal

pub loop-column-init : goal.loop-column-init
loop-column-init c = (refl, counted_first _)

pub raise-requires : goal.raise-requires
raise-requires c = counted_room c.args.roots.now c.loop-column.counts c.loop-column.column c.loop-column.invariant.0 c.loop-column.invariant.1 _

pub loop-column-preserved : goal.loop-column-preserved
loop-column-preserved c = (search rules, subst (λ (o : List ℕ). Counted c.args.roots.now o (c.loop-column.column + 1)) (sym c.raise.ensures) (counted_next c.args.roots.now c.loop-column.counts c.loop-column.column _ c.loop-column.invariant.0 c.loop-column-test.true c.root_of.ensures c.loop-column.invariant.1))

pub returns : goal.returns
returns c = counted_all _ c.loop-column.counts c.loop-column.column c.loop-column.invariant.0 (omega arith) c.loop-column.invariant.1
