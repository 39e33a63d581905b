use Rattle.std.proofs.Common.{◌≡◌, ℕ, suc, ◌+◌, ◌-◌, ◌*◌, ◌/◌, ◌%◌, ◌^◌, ◌<◌, sym, ap, ◌∙◌, add_comm, arith}
use lib.Ieee.{binary64, of_bits}
use Rattle.root.specs.Root.{root, round_root}
use Rattle.float.proofs.BitLaws.{normal, subnormal}
use Rattle.root.proofs.RootValues.{root_of_odd}
use Rattle.root.proofs.positive_root.Goals as goal

low : (b : ℕ) → 0 < b → b / 0x10_0000_0000_0000 ≡ 0 → round_root binary64 (b % 0x10_0000_0000_0000 * 2 ^ 1074) ≡ root (of_bits binary64 b)
low b B e = sym (ap root (subnormal b e) ∙ root_of_odd (b % 0x10_0000_0000_0000) 0 (some b B e))
  where
    some : (b : ℕ) → 0 < b → b / 0x10_0000_0000_0000 ≡ 0 → 0 < b % 0x10_0000_0000_0000
    some b B e = omega arith

high : (b : ℕ) → b < 0x7ff0_0000_0000_0000 → (b / 0x10_0000_0000_0000 ≡ 0 → ⊥) → round_root binary64 ((b % 0x10_0000_0000_0000 + 0x10_0000_0000_0000) * 2 ^ (b / 0x10_0000_0000_0000 + 1073)) ≡ root (of_bits binary64 b)
high b h n =
    let x = b / 0x10_0000_0000_0000 - 1 in
    sym (ap root (normal b x (is b n) h)
    ∙ root_of_odd (0x10_0000_0000_0000 + b % 0x10_0000_0000_0000) x (some b)
    ∙ ap (λ (d : ℕ). round_root binary64 (d * 2 ^ (x + 1074))) (add_comm 0x10_0000_0000_0000 (b % 0x10_0000_0000_0000))
    ∙ ap (λ (k : ℕ). round_root binary64 ((b % 0x10_0000_0000_0000 + 0x10_0000_0000_0000) * 2 ^ k)) (exponent b n))
  where
    is : (b : ℕ) → (b / 0x10_0000_0000_0000 ≡ 0 → ⊥) → b / 0x10_0000_0000_0000 ≡ suc (b / 0x10_0000_0000_0000 - 1)
    is b n = omega arith

    some : (b : ℕ) → 0 < 0x10_0000_0000_0000 + b % 0x10_0000_0000_0000
    some b = omega arith

    exponent : (b : ℕ) → (b / 0x10_0000_0000_0000 ≡ 0 → ⊥) → b / 0x10_0000_0000_0000 - 1 + 1074 ≡ b / 0x10_0000_0000_0000 + 1073
    exponent b n = omega arith

pub returns-then-field-eq0 : goal.returns-then-field-eq0
returns-then-field-eq0 c = c.scaled_root.ensures ∙ low c.args.b c.requires.0 c.if-field-eq0.true

pub returns : goal.returns
returns c = c.scaled_root-2.ensures ∙ high c.args.b c.requires.1 c.if-field-eq0.false
