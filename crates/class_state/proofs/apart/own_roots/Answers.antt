use Rattle.std.proofs.Common.{rules, ℕ, ◌<◌, arith}
use Rattle.class_state.proofs.ApartLaws.{own_all}
use Rattle.class_state.proofs.apart.own_roots.Goals as goal

pub returns : goal.returns
returns c =
    let items = c.from_fn.ensures.items in
    own_all c.from_fn.result 128 items.long (omega arith) (λ (k : ℕ) (h : k < 128). let e = items.at k 0 h in search rules)
