use mir.Syntax.{w64}
use Rattle.signed.proofs.SignedLaws.{kept}
use Rattle.le.specs.Integers.{i64_bytes}
use Rattle.le.proofs.OntoLaws.{onto_part, onto_as}
use native.Mathlib.Omega.{arith}
use mathlib.Core.List.{[], ◌∷◌}
use mathlib.Core.Path.{refl, ap}
use Rattle.scalar_bytes.proofs.writes.put_int64.Goals as goal

pub returns : goal.returns
returns c = onto_part (3 ∷ []) (i64_bytes c.args.x) c.args.out.now _ _ 1 _ refl refl (omega arith) c.put_byte.ensures (onto_as _ _ _ _ c.put_i64.ensures (ap i64_bytes (kept w64 c.args.x c.ranges.x.sfits)))
