use Rattle.le.proofs.OntoLaws.{onto_zeros}
use native.Mathlib.Omega.{arith}
use mathlib.Core.List.{[], ◌∷◌}
use Rattle.scalar_bytes.proofs.writes.put_absent.Goals as goal

pub returns : goal.returns
returns c = onto_zeros (255 ∷ []) c.args.out.now _ _ 19 (omega arith) (omega arith) c.put_zeros.ensures c.put_byte.ensures
