use lib.IntN.{ℤ}
use mir.Syntax.{w32}
use Rattle.signed.proofs.SignedLaws.{kept}
use Rattle.le.specs.Integers.{i32_bytes}
use Rattle.le.specs.Fields.{field_bytes}
use Rattle.le.proofs.OntoLaws.{onto_part, onto_as}
use native.Mathlib.Omega.{arith}
use mathlib.Core.List.{◌∷◌}
use mathlib.Core.Path.{refl, ap}
use Rattle.scalar_bytes.proofs.writes.put_day_time.Goals as goal

pub returns : goal.returns
unfolding field_bytes
returns c = onto_part (9 ∷ i32_bytes c.args.days) (i32_bytes c.args.milliseconds) c.args.out.now _ _ 5 _ refl refl (omega arith) (onto_as _ _ _ _ c.put_int32.ensures (ap (λ (z : ℤ). 9 ∷ i32_bytes z) (kept w32 c.args.days c.ranges.days.sfits))) (onto_as _ _ _ _ c.put_i32.ensures (ap i32_bytes (kept w32 c.args.milliseconds c.ranges.milliseconds.sfits)))
