use mathlib.Core.Path.{refl, ap, ◌∙◌}
use native.Mathlib.Omega.{arith}
use Rattle.std.proofs.Common.{rules}
use Rattle.std.proofs.lemmas.Iterator.{YieldsList-from_range}
use Rattle.std.proofs.lemmas.Iterator.Consumers.{YieldsList-from_filter, YieldsList-at, count_from_yields_List}
use lib.ListN.{length}
use Rattle.selection.proofs.SelectedLaws.{selected_filter}
use Rattle.selection.proofs.selected_count.Goals as goal

pub returns : goal.returns
returns g c =
    let test = g.T.Test.test c.args.passing.now in
    let numbers = YieldsList-at c.filter.ensures.source (YieldsList-from_range 0 c.args.limit c.args.limit refl (omega arith)) in
    count_from_yields_List c.filter.result _ c.count.ensures.ran (YieldsList-from_filter _ test numbers c.filter.ensures.closure (λ x b q k. search rules))
    ∙ ap length (selected_filter test 0 c.args.limit)
