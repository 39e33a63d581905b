-- How the blocks and the non-null columns are read from the bytes of a join's answer (document 01, "Three answers"). Definitions only.
use Rattle.std.specs.Prelude.{ℕ, zero, suc, ◌+◌, ◌*◌, List, [], ◌∷◌}
use Rattle.le.specs.Fields.{field_at, u16_at}
use Rattle.records.specs.Lists.{tabulate_from, tabulate}
use Rattle.records.specs.Classes.{class_at}

-- the figures: a count, two estimates of 26 bytes and a float
abbrev pub classes_place : ℕ
classes_place = 2 + (26 + 26 + 8)

-- a block is a class's columns without its distinct
abbrev pub block_at : List ℕ → ℕ → List ℕ
block_at answer at = (class_at answer at).columns

-- behind a class: a count, an estimate, the columns
abbrev pub behind_class : List ℕ → ℕ → ℕ
behind_class answer at = at + 28 + 2 * u16_at answer at

-- n classes, the first of them at a place
unfoldable pub blocks_from : List ℕ → ℕ → ℕ → List (List ℕ)
unfolding class_at field_at
blocks_from answer at zero = []
blocks_from answer at (suc n) = block_at answer at ∷ blocks_from answer (behind_class answer at) n

unfoldable pub behind_classes : List ℕ → ℕ → ℕ → ℕ
unfolding field_at
behind_classes answer at zero = at
behind_classes answer at (suc n) = behind_classes answer (behind_class answer at) n

unfoldable pub blocks : List ℕ → List (List ℕ)
unfolding blocks_from field_at
blocks answer = blocks_from answer (classes_place + 2) (u16_at answer classes_place)

unfoldable pub coverages_place : List ℕ → ℕ
unfolding behind_classes field_at
coverages_place answer = behind_classes answer (classes_place + 2) (u16_at answer classes_place)

-- behind the coverages: each a column, five floats and a byte
unfoldable pub non_null_place : List ℕ → ℕ
unfolding coverages_place field_at
non_null_place answer = coverages_place answer + 2 + (2 + 5 * 8 + 1) * u16_at answer (coverages_place answer)

-- number i of those whose count stands at a place
abbrev pub column_in : List ℕ → ℕ → ℕ → ℕ
column_in answer at i = u16_at answer (at + 2 + 2 * i)

unfoldable pub non_nulls : List ℕ → List ℕ
unfolding non_null_place tabulate_from field_at
non_nulls answer = tabulate (column_in answer (non_null_place answer)) (u16_at answer (non_null_place answer))
