use Rattle.std.proofs.Common.{rules}
use Rattle.scalar.specs.Order.{scalar_order}
use Rattle.scalar.proofs.order.scalar_order.Goals as goal

pub returns-in-IntervalMonthDayNano : goal.returns-in-IntervalMonthDayNano
unfolding scalar_order
returns-in-IntervalMonthDayNano c = search rules
