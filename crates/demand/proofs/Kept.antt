-- What the acceptance of a sheet gives of its join, as far as demand 3 goes by it. Definitions only.
use Prim.Native.Nat.{ℕ, ◌≤◌, ◌<◌}
use mathlib.Core.Bool.{Bool}
use mathlib.Core.List.{Memᴰ}
use lib.ListN.{length}
use Rattle.records.specs.Classes.{ColumnEquivalenceClass}
use Rattle.demand.specs.Claim.{Join, Equates}

pub record Kept (join : Join) : Type 0 where
  pub left : (class : ColumnEquivalenceClass) (c : ℕ) → Memᴰ class join.sheet.left_classes → Memᴰ c class.columns → c < 128
  pub right : (class : ColumnEquivalenceClass) (c : ℕ) → Memᴰ class join.sheet.right_classes → Memᴰ c class.columns → c < 128
  pub equated : (first second : ℕ) (null_safe : Bool) → Equates join first second null_safe → (first < 128) × (second < 128)
  pub conjunct_count : length join.conjuncts ≤ 64
