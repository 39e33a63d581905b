use Rattle.std.proofs.Common.{sym}
use Rattle.demand.proofs.CallLaws.{number_written}
use Rattle.demand.proofs.Demand3.{demand3}
use Rattle.demand.proofs.two_numbers.Goals as goal

pub returns-clause-two_joins : goal.returns-clause-two_joins
returns-clause-two_joins c =
    let u = c.estimates_join-first.ensures in
    let v = c.estimates_join-second.ensures in
    λ h k.
    demand3
    (record { sheet = _; lent = _; size = _; after = _; comes = (sym (number_written _ _ u.value h), u.out_after) })
    (record { sheet = _; lent = _; size = _; after = _; comes = (sym (number_written _ _ v.value k), v.out_after) })
