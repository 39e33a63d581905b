-- The cases that document 01 marks with P ("Marked sums"), a line each: what the definitions give, and what document 01 says. Definitions only.
use Rattle.std.specs.Prelude.{ℕ, ◌-◌, false, List, [], ◌∷◌, pos, negsuc, Float}
use Rattle.std.specs.Float.{binary64, fin}
use Rattle.std.specs.Float.Ieee.{round}
use Rattle.float.specs.Order.{f64_zero, f64_one}
use Rattle.power.specs.Power.{power}
use Rattle.records.specs.Classes.{ColumnEquivalenceClass}
use Rattle.sheet.specs.Sheet.{Sheet}
use Rattle.interval.specs.Intersection.{estimated_distinct_intersection}
use Rattle.predicate.specs.Predicate.{filter_selectivity_for_predicate}
use Rattle.equality_pairs.specs.Pairs.{equality_pairs}
use Rattle.edge_fold.specs.Fold.{folded_pairs}
use Rattle.edge_fold.specs.declared.fold.EqualityFigures.{EqualityFigures}
use Rattle.join.specs.Join.{join_selectivity_from_conjuncts}
use Rattle.join.specs.Residual.{residual_conditional_fanout}
use Rattle.marked_cases.specs.Sheets.{plain, equality, residual, null_safe, disjoint, touching_left, touching_right, chain, self_equality, itself, logical}

pub data Value : Type 0 where
  number : Float → Value
  columns : List ℕ → Value
  classes : List ColumnEquivalenceClass → Value

pub record Case : Type 0 where
  pub given : Value
  pub stated : Value

infix 10 ◌is◌
abbrev pub ◌is◌ : Value → Value → Case
given is stated = record { given = given; stated = stated }

-- the conjunct of a join of one, and those of a join of two
abbrev pub one : List ℕ
one = 3 ∷ []

abbrev pub two : List ℕ
two = 3 ∷ 4 ∷ []

abbrev pub selectivity : Sheet → List ℕ → Value
selectivity sheet conjuncts = number (join_selectivity_from_conjuncts sheet conjuncts).selectivity.value

abbrev pub match : Sheet → List ℕ → Value
match sheet conjuncts = number (join_selectivity_from_conjuncts sheet conjuncts).match_probability.value

abbrev pub returned : Sheet → List ℕ → Value
returned sheet conjuncts = classes (join_selectivity_from_conjuncts sheet conjuncts).equivalence_classes

abbrev pub non_null : Sheet → List ℕ → Value
non_null sheet conjuncts = columns (join_selectivity_from_conjuncts sheet conjuncts).non_null_equality_columns

abbrev pub predicate : Sheet → ℕ → Value
predicate sheet e = number (filter_selectivity_for_predicate sheet e).value

-- of the right rows that a left row meets by the equalities of a join
abbrev pub fanout : Sheet → List ℕ → Value
fanout sheet conjuncts = number (residual_conditional_fanout figures.match_probability figures.selectivity sheet.right_rows.value)
  where
    figures : EqualityFigures
    figures = (folded_pairs sheet (equality_pairs sheet conjuncts)).figures

-- of the values that the touching columns share
abbrev pub intersection : Value
intersection = number (estimated_distinct_intersection touching_left touching_right touching_left.distinct.value touching_right.distinct.value).distinct

-- n over 2 to the k, n being odd and k not 0
abbrev pub part : ℕ → ℕ → Float
part n k = fin false n (negsuc (k - 1))

abbrev pub table : List Case
table =
    (number (round binary64 false 1 25) is number (part 5764607523034235 57))
    ∷ (selectivity equality one is number (part 5764607523034235 57))
    ∷ (match equality one is number f64_one)
    ∷ (returned equality one is classes (record { columns = 1 ∷ 2 ∷ []; distinct = plain 5 1 } ∷ []))
    ∷ (fanout residual two is number (fin false 1 (pos 1)))
    ∷ (match residual two is number (part 7 4))
    ∷ (selectivity null_safe one is number (part 11 6))
    ∷ (match null_safe one is number (part 5 3))
    ∷ (selectivity disjoint one is number f64_zero)
    ∷ (match disjoint one is number f64_zero)
    ∷ (intersection is number f64_one)
    ∷ (non_null chain two is columns (1 ∷ 2 ∷ 3 ∷ []))
    ∷ (returned self_equality one is classes [])
    ∷ (non_null self_equality one is columns (1 ∷ []))
    ∷ (selectivity self_equality one is number f64_one)
    ∷ (predicate itself 3 is number (part 3 2))
    ∷ (predicate itself 4 is number f64_one)
    ∷ (predicate logical 5 is number (part 7 4))
    ∷ (predicate logical 6 is number f64_one)
    ∷ (predicate logical 7 is number f64_zero)
    ∷ (number (power (part 1 2) (part 5 1)) is number (part 1 5))
    ∷ []
