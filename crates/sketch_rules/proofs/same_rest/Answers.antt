use Prim.Native.Nat.{ℕ, ◌+◌}
use mathlib.Core.Path.{◌≡◌, refl}
use mathlib.Core.Bool.{◌&&◌}
use mathlib.Core.List.{List}
use native.Mathlib.Nat.{add_assoc}
use native.Mathlib.Omega.{arith}
use lib.Dec.{eqb}
use Rattle.le.specs.Fields.{byte_at, field_at}
use Rattle.le.proofs.FieldLaws.{Bytes, u8_sum, field_same}
use Rattle.sketch_rules.proofs.same_rest.Goals as goal

-- eleven bytes as eight, two and one
three_parts : (s : List ℕ) (a b : ℕ) → Bytes s
    → eqb (field_at 11 s (a + 8)) (field_at 11 s (b + 8)) ≡ (eqb (field_at 8 s (a + 8)) (field_at 8 s (b + 8)) && (eqb (field_at 2 s (a + 16)) (field_at 2 s (b + 16)) && eqb (byte_at s (a + 18)) (byte_at s (b + 18))))
three_parts s a b h =
    rw (field_same 8 3 s (a + 8) (b + 8) h, add_assoc a 8 8, add_assoc b 8 8, field_same 2 1 s (a + 16) (b + 16) h, add_assoc a 16 2, add_assoc b 16 2, u8_sum s (a + 18), u8_sum s (b + 18)) refl

pub returns-then-u16_at : goal.returns-then-u16_at
returns-then-u16_at c = let parts = three_parts c.args.s.now c.args.a c.args.b (λ k. (c.type_inv.s k).fits) in grind arith

pub returns-else-u16_at : goal.returns-else-u16_at
returns-else-u16_at c = let parts = three_parts c.args.s.now c.args.a c.args.b (λ k. (c.type_inv.s k).fits) in grind arith
