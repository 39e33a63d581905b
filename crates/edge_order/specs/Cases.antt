-- Worked orders: falling distincts, an ordinary edge before a null-safe one, and equal edges as they came. Assumes nothing.
use Rattle.std.specs.Prelude.{◌≡◌, refl, true, false, [], ◌∷◌, pos, Bool, Float}
use Rattle.std.specs.Float.{fin}
use Rattle.std.specs.Float.Ieee.{lt, eq}
use Rattle.float.specs.Order.{f64_one}
use Rattle.edge_order.specs.declared.EdgeKey.{EdgeKey}
use Rattle.edge_order.specs.Order.{edge_order}

abbrev two : Float
two = fin false 1 (pos 1)

abbrev key : Float → Bool → EdgeKey
key distinct null_safe = record { distinct = distinct; null_safe = null_safe }

falling : edge_order (key f64_one false ∷ key two true ∷ []) 2 ≡ 1 ∷ 0 ∷ []
unfolding edge_order lt eq
falling = refl

ordinary_first : edge_order (key two true ∷ key f64_one false ∷ key two false ∷ []) 3 ≡ 2 ∷ 0 ∷ 1 ∷ []
unfolding edge_order lt eq
ordinary_first = refl

as_they_came : edge_order (key two false ∷ key two true ∷ key two false ∷ []) 3 ≡ 0 ∷ 2 ∷ 1 ∷ []
unfolding edge_order lt eq
as_they_came = refl
