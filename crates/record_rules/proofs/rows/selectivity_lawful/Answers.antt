use lib.Ieee.{of_bits}
use Rattle.record_rules.proofs.rows.selectivity_lawful.Goals as goal

pub returns : goal.returns
unfolding of_bits
returns c = c.zero_or_between.ensures
