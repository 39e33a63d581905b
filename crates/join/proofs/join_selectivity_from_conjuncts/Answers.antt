use mathlib.Core.Path.{◌∙◌}
use Rattle.sheet.specs.Sheet.{viewed}
use Rattle.join.proofs.JoinLaws.{taken_pairs, pairs_few, profiles_rooted}
use Rattle.join.proofs.join_selectivity_from_conjuncts.Goals as goal

pub fold_edges-totals-requires : goal.fold_edges-totals-requires
fold_edges-totals-requires c =
    let sheet = viewed c.args.sheet.now in
    let p = c.as_slice-pairs.ensures ∙ taken_pairs sheet c.args.conjuncts.now _ c.take_conjuncts-taken.ensures in
    (pairs_few sheet c.args.conjuncts.now _ p c.requires.0, profiles_rooted sheet c.args.conjuncts.now _ p _ c.from_profiles-classes.ensures, c.requires.1)
