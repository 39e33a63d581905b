use Rattle.float.specs.Integers.{bit}
use Rattle.le.proofs.OntoLaws.{onto_part, onto_as}
use native.Mathlib.Omega.{arith}
use mathlib.Core.List.{[], ◌∷◌}
use mathlib.Core.Path.{refl, ap}
use Prim.Native.Nat.{ℕ}
use Rattle.scalar_bytes.proofs.writes.put_boolean.Goals as goal

pub returns : goal.returns
returns c = onto_part (1 ∷ []) (bit c.args.b ∷ []) c.args.out.now _ _ 1 _ refl refl (omega arith) c.put_byte.ensures (onto_as _ _ _ _ c.put_byte-2.ensures (ap (λ (v : ℕ). v ∷ []) c.from.ensures))
