use Rattle.sheet.proofs.WalkLaws.{sketches_tally, expressions_tally, operands_next, owned}
use Rattle.sheet.specs.Rules.{record_refusal}
use mathlib.Core.Path.{refl}
use Rattle.sheet.proofs.walk.record_refusal.Goals as goal

pub returns-in-Sketches : goal.returns-in-Sketches
unfolding record_refusal
returns-in-Sketches c = rw (c.sketch_refusal.ensures, sketches_tally _ _ _ _ _ _ c.requires.1.0.1 c.in-Sketches.is, c.in-Sketches.is) refl

pub returns-in-Expressions : goal.returns-in-Expressions
unfolding record_refusal
returns-in-Expressions c = rw (c.expression_refusal.ensures, expressions_tally _ _ _ _ _ _ c.requires.1.0.1 c.in-Expressions.is, c.in-Expressions.is) refl

pub returns-in-Operands : goal.returns-in-Operands
unfolding record_refusal
returns-in-Operands c = rw (c.operand_refusal.ensures, c.from.ensures, operands_next _ _ _ _ _ _ c.requires.1.0.1 c.args.walk.now.known (owned c.in-Operands.is) _ _ c.requires.1.1, c.in-Operands.is) refl
