use Rattle.std.proofs.Common.{rules}
use Rattle.root.proofs.Quick.{attempt_or}
use Rattle.root.proofs.Roots.{digits_fixed}
use Rattle.root.proofs.digits.root_digits.Goals as goal

pub returns-clause-root_digits : goal.returns-clause-root_digits
returns-clause-root_digits c = attempt_or _ _ _ _ c.corrected.ensures (λ p. search rules) c.unwrap_or_else.ensures

pub returns-clause-value : goal.returns-clause-value
returns-clause-value c = digits_fixed _ _ (attempt_or _ _ _ _ c.corrected.ensures (λ p. search rules) c.unwrap_or_else.ensures)
