-- A class: a head, then its columns. Definitions only.
use Rattle.std.specs.Prelude.{ℕ, ◌+◌, ◌*◌, List}
use Rattle.le.specs.Fields.{u16_at}
use Rattle.layout.specs.Places.{number_size, class_distinct_offset, class_head_size}
use Rattle.estimate.specs.Bytes.{estimate_at}
use Rattle.estimate.specs.declared.Estimate.{Estimate}
use Rattle.records.specs.Lists.{tabulate_from, tabulate}
use Rattle.records.specs.declared.classes.ClassHead.{ClassHead}

unfoldable pub class_head_at : List ℕ → ℕ → ClassHead
unfolding estimate_at
class_head_at s at = record { count = u16_at s at; distinct = estimate_at s (at + class_distinct_offset) }

-- the source's `ColumnEquivalenceClass`, its set of columns as a list (of a sheet that is accepted: ascending)
pub record ColumnEquivalenceClass : Type 0 where
  pub columns : List ℕ
  pub distinct : Estimate

-- column i of a class at a place
abbrev pub class_column : List ℕ → ℕ → ℕ → ℕ
class_column s at i = u16_at s (at + class_head_size + number_size * i)

unfoldable pub class_at : List ℕ → ℕ → ColumnEquivalenceClass
unfolding class_head_at tabulate_from
class_at s at = record {
  columns = tabulate (class_column s at) (class_head_at s at).count;
  distinct = (class_head_at s at).distinct;
}
