-- The fields of classes. Definitions only.
use Rattle.std.specs.Prelude.{ℕ, ◌+◌, ◌*◌, ◌&&◌, List, [], ◌∷◌, leb}
use Rattle.le.specs.Fields.{u16_at}
use Rattle.rules.specs.Rules.{ask, or_else, first_refusal}
use Rattle.layout.specs.Places.{number_size, class_least, class_most, class_head_size}
use Rattle.layout.specs.Fields.{Field, number, fields_refusal}
use Rattle.estimate.specs.Bytes.{estimate_refusal, estimate}
use Rattle.records.specs.declared.classes.ClassHead.{ClassHead}
use Rattle.record_rules.specs.Columns.{column_number_refusal}

-- column j of a class
abbrev pub class_column_fields : List (Field ℕ ℕ)
class_column_fields = number (λ x. x) (λ j s. column_number_refusal number_size s j) ∷ []

-- the first of them at `first`
unfoldable pub class_column_refusal : List ℕ → ℕ → ℕ → ℕ
unfolding column_number_refusal
class_column_refusal s first j = fields_refusal class_column_fields j s (first + number_size * j)

-- n, and what stands before the columns
abbrev pub class_head_fields : List (Field (Unit {0}) ClassHead)
class_head_fields =
    number (λ x. x.count) (λ c s at. ask (leb class_least (u16_at s at) && leb (u16_at s at) class_most) 3)
    ∷ estimate (λ x. x.distinct)
    ∷ []

unfoldable pub class_head_refusal : List ℕ → ℕ → ℕ
unfolding estimate_refusal
class_head_refusal = fields_refusal class_head_fields tt

unfoldable pub class_refusal : List ℕ → ℕ → ℕ
unfolding class_head_refusal first_refusal class_column_refusal
class_refusal s at = or_else (class_head_refusal s at) (first_refusal (class_column_refusal s (at + class_head_size)) 0 (u16_at s at))
