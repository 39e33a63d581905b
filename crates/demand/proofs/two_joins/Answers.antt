use Rattle.std.proofs.Common.{sym, ap, ◌∙◌}
use Rattle.answers.specs.Answers.{answer_of}
use Rattle.demand.proofs.Demand3.{demand3}
use Rattle.demand.proofs.two_joins.Goals as goal

pub returns-clause-two_joins : goal.returns-clause-two_joins
returns-clause-two_joins c =
    λ m n e f.
    demand3
    (record { sheet = _; lent = _; size = m; after = _; comes = (ap answer_of (sym e) ∙ c.join-first.ensures.0, c.join-first.ensures.1) })
    (record { sheet = _; lent = _; size = n; after = _; comes = (ap answer_of (sym f) ∙ c.join-second.ensures.0, c.join-second.ensures.1) })
