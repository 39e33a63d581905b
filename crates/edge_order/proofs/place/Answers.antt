use Rattle.edge_order.proofs.OrderLaws.{number_placed}
use Rattle.edge_order.proofs.place.Goals as goal

pub returns : goal.returns
returns c = number_placed c.args.keys.now c.args.order.now _ _ _ _ c.requires c.key_of.ensures c.before_count-n.ensures.value c.copy_within.ensures.after
