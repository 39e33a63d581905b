use Rattle.std.proofs.Common.{rules}
use lib.IntN.{+ℤ_idr}
use Rattle.interval.specs.Fraction.{decimal}
use Rattle.interval.proofs.WidthLaws.{unlike_ends}
use Rattle.interval.proofs.fraction.decimal.Goals as goal

pub returns : goal.returns
unfolding decimal
returns c = let range = c.args.ends.interval in search (rules, +ℤ_idr, unlike_ends range.upper range.lower c.if-ends.false)
