use mathlib.Core.Path.{◌≡◌, ◌∙◌}
use Rattle.std.proofs.Common.{rules}
use Rattle.std.specs.List.{count_by}
use lib.Dec.{leb}
use Rattle.class_state.proofs.CountLaws.{count_passing}
use Rattle.class_state.proofs.returned.returned_count.Goals as goal

pub returns : goal.returns
returns c =
    let e : c.count.result ≡ count_by (leb 2) c.args.counts.now = search rules in
    e ∙ count_passing (leb 2) c.args.counts.now
