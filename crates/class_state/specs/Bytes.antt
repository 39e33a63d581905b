-- Classes in an answer: as in a sheet, without a sheet's limits. Definitions only.
use Rattle.std.specs.Prelude.{ℕ, List, [], ◌∷◌, ◌++◌, length}
use Rattle.le.specs.Fields.{field_bytes}
use Rattle.layout.specs.Fields.{bytes_of}
use Rattle.number_bytes.specs.Numbers.{numbers_bytes}
use Rattle.records.specs.Classes.{ColumnEquivalenceClass}
use Rattle.records.specs.declared.classes.ClassHead.{ClassHead}
use Rattle.record_rules.specs.Classes.{class_head_fields}

-- how many columns, and their distinct
abbrev pub class_head : ColumnEquivalenceClass → ClassHead
class_head class = record { count = length class.columns; distinct = class.distinct }

-- the head, then the columns
unfoldable pub class_bytes : ColumnEquivalenceClass → List ℕ
unfolding field_bytes numbers_bytes
class_bytes class = bytes_of class_head_fields (class_head class) ++ numbers_bytes class.columns

-- one after the other
unfoldable pub classes_bytes : List ColumnEquivalenceClass → List ℕ
unfolding class_bytes
classes_bytes [] = []
classes_bytes (class ∷ classes) = class_bytes class ++ classes_bytes classes
