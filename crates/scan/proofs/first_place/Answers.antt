use Rattle.std.proofs.Common.{◌≡◌, ◌<◌, ◌^◌, ◌*◌, ℕ, ◌+◌, Option, None, Some, refl, sym, ap, ◌∙◌, arith, rules, tests}
use Rattle.std.specs.Prelude.{option_map}
use Rattle.std.specs.List.{find, range_with_len}
use Rattle.std.proofs.lemmas.Iterator.{YieldsList-from_range}
use Rattle.std.proofs.lemmas.Iterator.Search.{find_from_yields_List}
use Rattle.le.specs.Fields.{u16_at}
use Rattle.scan.proofs.ScanLaws.{is_here, found_place, found_below, place_small}
use Rattle.scan.proofs.first_place.Goals as goal

abbrev as_given : Option ℕ → Option ℕ
as_given = option_map (λ (x : ℕ). x)

found : (c : goal.In_ok-i) → Some c.in_ok-i.i ≡ find (is_here c.args.s.now c.args.size c.args.number (c.from.result + 2)) (range_with_len 0 c.from-count.result)
found c =
    ap as_given (sym c.in_ok-i.was)
    ∙ find_from_yields_List (is_here c.args.s.now c.args.size c.args.number (c.from.result + 2)) _ _ c.find.result c.find.ensures.ran (YieldsList-from_range 0 c.from-count.result c.from-count.result refl (omega arith)) (λ x b q k. search (rules, tests))

small : (c : goal.In_ok-i) → c.args.size * c.in_ok-i.i < 2 ^ 24
small c =
    let l = found_below c.args.s.now c.args.size c.args.number (c.from.result + 2) c.from-count.result c.in_ok-i.i (found c) in
    place_small c.args.size c.in_ok-i.i (omega arith) (omega arith)

pub overflow_mul-result : goal.overflow_mul-result
overflow_mul-result c = omega (arith, small c)

pub overflow_add-result : goal.overflow_add-result
overflow_add-result c = omega (arith, small c)

pub overflow_cast-result : goal.overflow_cast-result
overflow_cast-result c = omega (arith, small c)

pub returns-in_err-i : goal.returns-in_err-i
returns-in_err-i c =
    let none : None ≡ find (is_here c.args.s.now c.args.size c.args.number (c.from.result + 2)) (range_with_len 0 c.from-count.result) =
    ap as_given (sym c.in_err-i.was)
    ∙ find_from_yields_List (is_here c.args.s.now c.args.size c.args.number (c.from.result + 2)) _ _ c.find.result c.find.ensures.ran (YieldsList-from_range 0 c.from-count.result c.from-count.result refl (omega arith)) (λ x b q k. search (rules, tests)) in
    let n : c.from-count.result ≡ u16_at c.args.s.now c.args.start = cc in
    c.from_residual.ensures ∙ found_place c.args.s.now c.args.size c.args.number (c.from.result + 2) c.from-count.result None none ∙ rw (n, c.from.ensures) refl

pub returns : goal.returns
returns c =
    let n : c.from-count.result ≡ u16_at c.args.s.now c.args.start = cc in
    found_place c.args.s.now c.args.size c.args.number (c.from.result + 2) c.from-count.result (Some c.in_ok-i.i) (found c) ∙ rw (n, c.from.ensures) refl
