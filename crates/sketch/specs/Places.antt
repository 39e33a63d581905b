-- Where the sketch with a number stands. Definitions only.
use Rattle.std.specs.Prelude.{ℕ, cond, List, nat_lt, Option, Some, None}
use Rattle.le.specs.Fields.{u16_at}
use Rattle.sheet.specs.Order.{record_at}
use Rattle.sheet.specs.declared.order.Kind.TheVariants.{Sketches}

-- where the section whose count stands at `start` holds it
abbrev pub numbered_place : List ℕ → ℕ → Option ℕ → Option ℕ
numbered_place s start None = None
numbered_place s start (Some k) = cond (nat_lt k (u16_at s start)) (Some (record_at Sketches s start k)) None
