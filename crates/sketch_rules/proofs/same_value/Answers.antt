use native.Mathlib.Omega.{arith}
use Rattle.le.proofs.FieldLaws.{field_same}
use Rattle.sketch_rules.proofs.same_value.Goals as goal

-- nineteen bytes as eight and eleven

pub returns-then-word_at-front : goal.returns-then-word_at-front
returns-then-word_at-front c = let parts = field_same 8 11 c.args.s.now c.args.a c.args.b (λ k. (c.type_inv.s k).fits) in grind arith

pub returns-else-word_at-front : goal.returns-else-word_at-front
returns-else-word_at-front c = let parts = field_same 8 11 c.args.s.now c.args.a c.args.b (λ k. (c.type_inv.s k).fits) in grind arith
