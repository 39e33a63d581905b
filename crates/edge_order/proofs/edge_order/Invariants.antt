use Rattle.std.proofs.Common.{◌≡◌, length}
use Rattle.edge_order.specs.Order.{number_before}
use Rattle.edge_order.proofs.OrderLaws.{ordered_from}
use Rattle.edge_order.proofs.edge_order.Given as goal

abbrev pub invariant-loop-k : goal.invariant-loop-k
invariant-loop-k l = l.order ≡ ordered_from (number_before l.keys) (length l.initial.order) l.initial.order l.k
