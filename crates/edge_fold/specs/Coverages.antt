-- Coverages in an answer: the fields of the source's `LeftEqualityCoverage` in their order. Definitions only.
use Rattle.std.specs.Prelude.{ℕ, ◌*◌, ◌^◌, ◌<◌, ◌≡◌, List, [], ◌∷◌, ◌++◌, take, drop}
use Rattle.float.specs.Integers.{bit}
use Rattle.le.specs.Fields.{field_bytes, onto}
use Rattle.layout.specs.Places.{coverage_size}
use Rattle.layout.specs.Fields.{Field, bytes_of, number, float, byte, group, no_rule}
use Rattle.layout.specs.Lawful.{Figure}
use Rattle.edge.specs.declared.LeftEqualityCoverage.{LeftEqualityCoverage}

abbrev pub coverage_figure_fields : List (Field (Unit {0}) LeftEqualityCoverage)
coverage_figure_fields =
    float (λ c. c.input_distinct) no_rule
    ∷ float (λ c. c.input_non_null_fraction) no_rule
    ∷ float (λ c. c.intersection_distinct) no_rule
    ∷ float (λ c. c.non_null_match_probability) no_rule
    ∷ float (λ c. c.null_match_probability) no_rule
    ∷ []

abbrev pub coverage_fields : List (Field (Unit {0}) LeftEqualityCoverage)
coverage_fields =
    number (λ c. c.column) no_rule
    ∷ group (λ c. c) no_rule coverage_figure_fields
    ∷ byte (λ c. bit c.ordinary_non_null) no_rule
    ∷ []

pub record LawfulCoverage (c : LeftEqualityCoverage) : Type 0 where
  pub column : c.column < 2 ^ 16
  pub input_distinct : Figure c.input_distinct
  pub input_non_null_fraction : Figure c.input_non_null_fraction
  pub intersection_distinct : Figure c.intersection_distinct
  pub non_null_match_probability : Figure c.non_null_match_probability
  pub null_match_probability : Figure c.null_match_probability

unfoldable pub coverage_figures : LeftEqualityCoverage → List ℕ
unfolding field_bytes
coverage_figures c = bytes_of coverage_figure_fields c

unfoldable pub coverage_bytes : LeftEqualityCoverage → List ℕ
unfolding field_bytes
coverage_bytes c = bytes_of coverage_fields c

-- one after the other
unfoldable pub coverages_bytes : List LeftEqualityCoverage → List ℕ
unfolding coverage_bytes
coverages_bytes [] = []
coverages_bytes (c ∷ cs) = coverage_bytes c ++ coverages_bytes cs

-- coverages put behind n others
abbrev pub Appended : ℕ → List LeftEqualityCoverage → List ℕ → List ℕ → Type 0
Appended n cs out after = after ≡ take (coverage_size * n) out ++ onto (coverages_bytes cs) (drop (coverage_size * n) out)
