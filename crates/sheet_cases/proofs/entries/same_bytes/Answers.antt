use Rattle.std.proofs.Common.{◌≡◌, ℕ, Bool, refl, length, arith, ◌∙◌, rules, tests}
use Rattle.std.specs.List.{list_all, range_with_len}
use Rattle.std.proofs.lemmas.Iterator.{YieldsList-from_range}
use Rattle.std.proofs.lemmas.Iterator.Search.{all_from_yields_List}
use Rattle.sheet_cases.proofs.EntryLaws.{same_byte, same_all}
use Rattle.sheet_cases.proofs.entries.same_bytes.Goals as goal

pub returns : goal.returns
returns c =
    let n = length c.args.expected.now in
    let test : ℕ → Bool = λ i. same_byte c.args.out.now c.args.expected.now i in
    let all : c.all.result ≡ list_all test (range_with_len 0 n) =
    all_from_yields_List test _ _ c.all.result c.all.ensures.ran (YieldsList-from_range 0 n n refl (omega arith)) (λ x b q k. search (rules, tests)) in
    all ∙ same_all c.args.out.now c.args.expected.now n
