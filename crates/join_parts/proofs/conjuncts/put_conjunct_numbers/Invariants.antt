use mathlib.Core.Path.{◌≡◌}
use lib.ListN.{take}
use Rattle.le.specs.Fields.{u16_at, onto}
use Rattle.join_parts.proofs.ConjunctLaws.{conjuncts_at}
use Rattle.join_parts.proofs.conjuncts.put_conjunct_numbers.Given as goal

abbrev pub invariant-loop-i : goal.invariant-loop-i
invariant-loop-i l = (l.n ≡ u16_at l.sheet.bytes.now l.start) × (l.number-items ≡ onto (take l.i (conjuncts_at l.sheet.bytes.now l.start)) l.initial.number-items)
