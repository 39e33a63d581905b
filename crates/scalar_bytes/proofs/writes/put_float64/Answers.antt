use Prim.Native.Nat.{ℕ}
use mathlib.Core.Path.{refl, ap, ◌∙◌}
use mathlib.Core.List.{[], ◌∷◌}
use native.Mathlib.Omega.{arith}
use Rattle.le.specs.Fields.{onto, u64_bytes}
use Rattle.le.proofs.OntoLaws.{onto_part}
use Rattle.scalar_bytes.proofs.writes.put_float64.Goals as goal

pub returns : goal.returns
returns c =
    onto_part (4 ∷ []) (u64_bytes c.encoded_bits.result) c.args.out.now _ _ 1 _ refl refl (omega arith) c.put_byte.ensures c.put_u64.ensures
    ∙ ap (λ (n : ℕ). onto (4 ∷ u64_bytes n) c.args.out.now) c.encoded_bits.ensures
