use mathlib.Core.Path.{◌∙◌}
use native.Mathlib.Omega.{arith}
use Rattle.std.proofs.lemmas.Grind.{common_steps}
use Rattle.le.proofs.FieldLaws.{read_cut}
use Rattle.le.proofs.reads.cut_at.Goals as goal

pub returns : goal.returns
returns c = c.from_le_bytes.ensures ∙ read_cut 7 c.args.n _ c.args.s.now c.args.at (omega arith) (λ i h. c.padded.ensures i ∙ grind (arith, common_steps)) (λ i h k. c.padded.ensures i ∙ grind (arith, common_steps))
