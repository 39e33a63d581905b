use mir.Syntax.{w32}
use Rattle.signed.proofs.SignedLaws.{kept}
use Rattle.le.specs.Integers.{i32_bytes}
use Rattle.le.proofs.OntoLaws.{onto_part, onto_as}
use native.Mathlib.Omega.{arith}
use mathlib.Core.List.{[], ◌∷◌}
use mathlib.Core.Path.{refl, ap}
use Rattle.scalar_bytes.proofs.writes.put_int32.Goals as goal

pub returns : goal.returns
returns c = onto_part (c.args.tag ∷ []) (i32_bytes c.args.x) c.args.out.now _ _ 1 _ refl refl (omega arith) c.put_byte.ensures (onto_as _ _ _ _ c.put_i32.ensures (ap i32_bytes (kept w32 c.args.x c.ranges.x.sfits)))
