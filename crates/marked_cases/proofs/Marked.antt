-- Every line of the table of marked cases holds: each is computed from the definitions. Assumes nothing.
use mathlib.Core.Path.{◌≡◌, refl}
use mathlib.Core.List.{map}
use lib.Ieee.{round, of_int, add, sub, mul, div, neg, lt, le, eq}
use Rattle.power.specs.Power.{power}
use Rattle.interval.specs.Intersection.{estimated_distinct_intersection}
use Rattle.predicate.specs.Predicate.{filter_selectivity_for_predicate}
use Rattle.equality_pairs.specs.Pairs.{equality_pairs}
use Rattle.edge_fold.specs.Fold.{folded_pairs}
use Rattle.join.specs.Join.{join_selectivity_from_conjuncts}
use Rattle.join.specs.Residual.{residual_conditional_fanout}
use Rattle.marked_cases.specs.Table.{Case, Value, table}

abbrev given_in : Case → Value
given_in c = c.given

abbrev stated_in : Case → Value
stated_in c = c.stated

pub marked : map given_in table ≡ map stated_in table
unfolding join_selectivity_from_conjuncts equality_pairs folded_pairs filter_selectivity_for_predicate estimated_distinct_intersection residual_conditional_fanout power round of_int add sub mul div neg lt le eq
marked = refl
