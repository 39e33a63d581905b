use Rattle.std.proofs.Common.{◌≡◌, ℕ, ◌+◌, ◌*◌, Bool, not, refl, ap, ◌∙◌, arith, rules, tests}
use Rattle.std.specs.List.{list_any, range_with_len}
use Rattle.std.proofs.lemmas.Iterator.{YieldsList-from_range}
use Rattle.std.proofs.lemmas.Iterator.Search.{any_from_yields_List}
use Rattle.layout.specs.Places.{item_size}
use Rattle.rules.specs.Rules.{ask}
use Rattle.rules.proofs.LoopLaws.{first_any}
use Rattle.sketch_rules.specs.Sketches.{same_value, alike_refusal}
use Rattle.sketch_rules.proofs.twice_refusal.Goals as goal

pub returns : goal.returns
unfolding alike_refusal
returns c =
    let test : ℕ → Bool = λ i. same_value c.args.s.now (c.args.first + item_size * i) (c.args.first + item_size * c.args.j) in
    let found : c.any.result ≡ list_any test (range_with_len 0 c.args.j) =
    any_from_yields_List test _ _ c.any.result c.any.ensures.ran (YieldsList-from_range 0 c.args.j c.args.j refl (omega arith)) (λ x b q k. search (rules, tests)) in
    c.ask.ensures ∙ (ap (λ (b : Bool). ask (not b) 7) found ∙ first_any test 6 0 c.args.j)
