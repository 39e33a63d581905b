use Rattle.std.proofs.Common.{◌≡◌, ℕ, ◌<◌, ◌^◌, min, pos, refl, ap, ◌∙◌, arith}
use lib.Ieee.{binary64, of_int, of_bits}
use Rattle.float.specs.Tens.{power_of_ten}
use Rattle.float.proofs.TableLaws.{table_at}
use Rattle.float.proofs.tens.power_of_ten.Goals as goal

placed : (k m n : ℕ) → m ≡ min k 22 → n ≡ m → (n < 23) × (min n 22 ≡ min k 22)
placed k m n e f = (omega arith, omega arith)

pub returns : goal.returns
unfolding power_of_ten of_bits
returns c =
    let at = placed c.args.k _ _ c.min.ensures c.from.ensures in
    table_at _ power_of_ten 23 refl c.from.result _ at.0 ∙ ap (λ (n : ℕ). of_int binary64 (pos (10 ^ n))) at.1
