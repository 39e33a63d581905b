use Rattle.std.proofs.Common.{◌≡◌, ℕ, ◌+◌, ◌-◌, ◌*◌, refl, ap, ◌∙◌, arith, rules}
use Rattle.std.specs.List.{fold, range_with_len}
use Rattle.std.proofs.lemmas.Iterator.{YieldsList-from_range}
use Rattle.std.proofs.lemmas.Iterator.Consumers.{fold_from_yields_List}
use Rattle.le.specs.Fields.{u64_at}
use Rattle.sketch.proofs.ItemLaws.{rows_left}
use Rattle.sketch.proofs.items.residual_rows.Goals as goal

pub returns : goal.returns
returns c =
    let take : ℕ → ℕ → ℕ = λ rows i. rows - u64_at c.args.s.now (c.args.sketch.at + 10 + 35 * i + 19) in
    let taken : c.fold.result ≡ fold take c.population.result (range_with_len 0 c.from-n.result) =
    fold_from_yields_List _ take _ c.fold.result c.fold.ensures.ran (YieldsList-from_range 0 c.from-n.result c.from-n.result refl (omega arith)) (λ a x b q k. search rules) in
    taken ∙ ap (λ p. fold take p (range_with_len 0 c.from-n.result)) c.population.ensures ∙ rows_left _ _ _ (c.from-n.ensures ∙ c.item_count.ensures)
