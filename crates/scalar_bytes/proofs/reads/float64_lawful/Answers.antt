use lib.Ieee.{of_bits}
use mathlib.Core.Path.{sym, ◌∙◌}
use Rattle.scalar_bytes.proofs.reads.float64_lawful.Goals as goal

pub returns-then-zero_or_between : goal.returns-then-zero_or_between
unfolding of_bits
returns-then-zero_or_between c = rw (sym c.zero_or_between.ensures ∙ c.if-zero_or_between.true) c.if-zero_or_between.true

pub returns-else-zero_or_between : goal.returns-else-zero_or_between
unfolding of_bits
returns-else-zero_or_between c = rw (sym c.zero_or_between.ensures ∙ c.if-zero_or_between.false) c.between.ensures
