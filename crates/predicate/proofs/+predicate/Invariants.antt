use Rattle.std.proofs.Common.{◌+◌, ◌*◌}
use Rattle.sheet.specs.Sheet.{sheet_of}
use Rattle.predicate.proofs.PredicateLaws.{estimates_below, ProductRest}
use Rattle.predicate.proofs.+predicate.Given as goal

-- an expression's product comes before the expression, and behind every smaller one
abbrev pub decreases-filter_selectivity_for_predicate : goal.decreases-filter_selectivity_for_predicate
decreases-filter_selectivity_for_predicate l = 2 * l.e + 1

abbrev pub decreases-operand_product : goal.decreases-operand_product
decreases-operand_product l = 2 * l.limit

abbrev pub invariant-operand_product-loop-i : goal.invariant-operand_product-loop-i
invariant-operand_product-loop-i l = ProductRest l.sheet.bytes.now l.sheet.sections l.op l.fn.run.first l.fn.run.count (estimates_below (sheet_of l.sheet.bytes.now l.sheet.sections) l.limit) l.product l.i l.i-end
