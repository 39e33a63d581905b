-- The table of the sections: for each kind the least and the most of its records, whether runs of expressions fill it, how long the records are, and what is carried along from one to the next. Definitions only.
use Rattle.std.specs.Prelude.{ℕ, ◌+◌, ◌*◌, true, false, List}
use Rattle.le.specs.Fields.{u16_at}
use Rattle.layout.specs.Places.{conjunct_limit, operand_limit, number_size, float_size, estimate_size, sketch_count_offset, sketch_head_size, item_size, table_size, key_size, column_size, class_count_offset, class_head_size, expression_size}
use Rattle.layout.specs.Fields.{behind}
use Rattle.sheet.specs.declared.order.Kind.{Kind}
use Rattle.sheet.specs.declared.order.Kind.TheVariants.{Rows, Settings, Sketches, Tables, Keys, Columns, Classes, Expressions, Operands, Conjuncts}
use Rattle.sheet.specs.declared.table.Section.{Section}
use Rattle.sheet.specs.declared.table.Shape.{Shape}
use Rattle.sheet.specs.declared.table.Shape.TheVariants.{Fixed, Counted}
use Rattle.sheet.specs.declared.table.Tally.TheVariants.{Nothing, Items, Runs, Owner}

-- records of one size, of which nothing is carried along
abbrev pub fixed : ℕ → ℕ → ℕ → Section
fixed least most size = record { least = least; most = most; filled = false; shape = Fixed size; tally = Nothing }

-- records that tell how many items they have
abbrev pub counted : ℕ → ℕ → ℕ → ℕ → Section
counted most head count item = record { least = 0; most = most; filled = false; shape = Counted head count item; tally = Nothing }

abbrev pub section_of : Kind → Section
section_of Rows = record { least = 2; most = 2; filled = false; shape = Fixed estimate_size; tally = Nothing }
section_of Settings = record { least = 5; most = 5; filled = false; shape = Fixed float_size; tally = Nothing }
section_of Sketches = record { least = 0; most = 16; filled = false; shape = Counted sketch_head_size sketch_count_offset item_size; tally = Items }
section_of Tables = record { least = 0; most = 64; filled = false; shape = Fixed table_size; tally = Nothing }
section_of Keys = record { least = 0; most = 64; filled = false; shape = Fixed key_size; tally = Nothing }
section_of Columns = record { least = 0; most = 64; filled = false; shape = Fixed column_size; tally = Nothing }
section_of Classes = record { least = 0; most = 32; filled = false; shape = Counted class_head_size class_count_offset number_size; tally = Nothing }
section_of Expressions = record { least = 0; most = 256; filled = false; shape = Fixed expression_size; tally = Runs }
section_of Operands = record { least = 0; most = operand_limit; filled = true; shape = Fixed number_size; tally = Owner }
section_of Conjuncts = record { least = 0; most = conjunct_limit; filled = false; shape = Fixed number_size; tally = Nothing }

-- where a record ends that stands at a place
abbrev pub shape_end : Shape → List ℕ → ℕ → ℕ
shape_end (Fixed size) s at = at + size
shape_end (Counted head count item) s at = at + head + item * u16_at s (behind at count)
