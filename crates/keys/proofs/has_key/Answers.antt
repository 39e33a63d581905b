use Rattle.std.proofs.Common.{◌≡◌, ℕ, ◌+◌, ◌*◌, Bool, refl, arith, ◌∙◌, rules, tests}
use Rattle.std.specs.List.{list_any, range_with_len}
use Rattle.std.proofs.lemmas.Iterator.{YieldsList-from_range}
use Rattle.std.proofs.lemmas.Iterator.Search.{any_from_yields_List}
use Rattle.le.specs.Fields.{u16_at}
use Rattle.layout.specs.Places.{count_size, key_size}
use Rattle.records.specs.Catalog.{key_at}
use Rattle.keys.specs.Keys.{same_key}
use Rattle.keys.proofs.KeyLaws.{key_among}
use Rattle.keys.proofs.has_key.Goals as goal

pub returns : goal.returns
returns c =
    let test : ℕ → Bool = λ i. same_key (key_at c.args.sheet.now.bytes.now (c.from-start.result + count_size + key_size * i)) c.args.key in
    let found : c.any.result ≡ list_any test (range_with_len 0 c.from-count.result) =
    any_from_yields_List test _ _ c.any.result c.any.ensures.ran (YieldsList-from_range 0 c.from-count.result c.from-count.result refl (omega arith)) (λ x b q k. search (rules, tests)) in
    let n : c.from-count.result ≡ u16_at c.args.sheet.now.bytes.now c.args.sheet.now.sections.keys = cc in
    found ∙ rw (n, c.from-start.ensures) (key_among _ _ _)
