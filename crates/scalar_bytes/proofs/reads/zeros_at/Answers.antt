use Rattle.std.proofs.Common.{◌≡◌, ℕ, ◌+◌, ◌*◌, ◌/◌, ◌%◌, Bool, eqb, refl, sym, ap, ◌∙◌, arith, rules, tests, eqb-true}
use Rattle.std.proofs.lemmas.Bool.{eqb-false}
use native.Mathlib.Nat.{add-zero}
use Rattle.std.proofs.lemmas.Iterator.{YieldsList-from_range}
use Rattle.std.proofs.lemmas.Iterator.Search.{all_from_yields_List}
use Rattle.le.specs.Fields.{field_at}
use Rattle.scalar_bytes.specs.Reading.{zeros_at}
use Rattle.scalar_bytes.proofs.ReadingLaws.{all_zeros, zeros_broken, weight_law, rest_zeros}
use Rattle.scalar_bytes.proofs.reads.zeros_at.Goals as goal

pub returns-then-all : goal.returns-then-all
returns-then-all c =
    let test : ℕ → Bool = λ i. eqb (field_at 8 c.args.s.now (c.args.at + 8 * i)) 0 in
    let told : c.all.result ≡ zeros_at (8 * (c.args.n / 8)) c.args.s.now c.args.at =
    all_from_yields_List test _ _ c.all.result c.all.ensures.ran (YieldsList-from_range 0 (c.args.n / 8) (c.args.n / 8) refl (omega arith)) (λ x b q k. search (rules, tests)) ∙ all_zeros _ _ _ in
    let words : field_at (8 * (c.args.n / 8)) c.args.s.now c.args.at ≡ 0 = eqb-true _ 0 (sym told ∙ c.if-all.true) in
    let whole : 8 * (c.args.n / 8) + c.args.n % 8 ≡ c.args.n = omega arith in
    rw (weight_law (c.args.n % 8) (omega arith), c.u64_at.ensures)
    (rest_zeros (8 * (c.args.n / 8)) (c.args.n % 8) c.args.s.now c.args.at (λ k. (c.type_inv.s k).fits) (omega arith) words ∙ ap (λ (n : ℕ). zeros_at n c.args.s.now c.args.at) whole)

pub returns-else-all : goal.returns-else-all
returns-else-all c =
    let test : ℕ → Bool = λ i. eqb (field_at 8 c.args.s.now (c.args.at + 8 * i)) 0 in
    let told : c.all.result ≡ zeros_at (8 * (c.args.n / 8)) c.args.s.now c.args.at =
    all_from_yields_List test _ _ c.all.result c.all.ensures.ran (YieldsList-from_range 0 (c.args.n / 8) (c.args.n / 8) refl (omega arith)) (λ x b q k. search (rules, tests)) ∙ all_zeros _ _ _ in
    c.if-all.false ∙ zeros_broken 0 (8 * (c.args.n / 8)) c.args.n c.args.s.now c.args.at (omega arith) (λ e. eqb-false _ 0 (sym told ∙ c.if-all.false) (ap (field_at (8 * (c.args.n / 8)) c.args.s.now) (sym (add-zero c.args.at)) ∙ e))
