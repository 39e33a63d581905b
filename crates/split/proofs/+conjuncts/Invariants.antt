use Rattle.std.proofs.Common.{◌≡◌, ◌≤◌, length, ◌+◌, ◌*◌}
use Rattle.split.proofs.ConjunctLaws.{Put}
use Rattle.split.proofs.+conjuncts.Given as goal

-- an expression's operands come before the expression, and behind every smaller one
abbrev pub decreases-put_conjuncts : goal.decreases-put_conjuncts
decreases-put_conjuncts l = 2 * l.e + 1

abbrev pub decreases-put_operands : goal.decreases-put_operands
decreases-put_operands l = 2 * l.limit

abbrev pub invariant-put_operands-loop-i : goal.invariant-put_operands-loop-i
invariant-put_operands-loop-i l =
    (length l.numbers ≡ length l.initial.numbers)
    × (l.at ≤ length l.numbers)
    × Put l.sheet.bytes.now l.sheet.sections l.fn.run.first l.fn.run.count l.limit l.initial.numbers l.numbers l.at l.i l.i-end
