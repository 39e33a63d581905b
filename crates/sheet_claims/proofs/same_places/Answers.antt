use Rattle.std.proofs.Common.{◌≡◌, ap, ◌∙◌, rules, tests}
use Rattle.std.specs.List.{list_all, enumerate_from}
use Rattle.std.proofs.lemmas.Iterator.{YieldsList-from_slice}
use Rattle.std.proofs.lemmas.Iterator.Consumers.{YieldsList-from_enumerate}
use Rattle.std.proofs.lemmas.Iterator.Search.{all_from_yields_List}
use Rattle.sheet_claims.proofs.PlaceLaws.{same_place, places_from}
use Rattle.sheet_claims.proofs.same_places.Goals as goal

pub returns : goal.returns
returns c =
    let all : c.all.result ≡ list_all (same_place c.args.expected.now) (enumerate_from 0 c.args.places) =
    all_from_yields_List (same_place c.args.expected.now) _ _ c.all.result c.all.ensures.ran (YieldsList-from_enumerate (YieldsList-from_slice c.args.places (ap (λ s. s.rest.now) c.enumerate.ensures.source ∙ c.iter.ensures.rest)) c.enumerate.ensures.count) (λ x b q k. search (rules, tests)) in
    all ∙ places_from c.args.expected.now c.args.places 0
