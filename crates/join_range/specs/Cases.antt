-- Worked values at the edges of the ranges. Assumes nothing.
use Rattle.std.specs.Prelude.{◌≡◌, refl, false, pos, negsuc, Float}
use Rattle.std.specs.Float.{inf, fin}
use Rattle.std.specs.Float.Ieee.{mul, div, lt, le}
use Rattle.float.specs.Order.{f64_zero, f64_one}
use Rattle.edge.specs.Figures.{uniform_non_null_match_probability}
use Rattle.edge.specs.declared.EdgeInputs.{EdgeInputs}
use Rattle.join.specs.Residual.{residual_conditional_fanout}

-- both columns with this distinct, and never null
abbrev with_distinct : Float → EdgeInputs
with_distinct distinct = record {
  left_column = 0;
  null_safe = false;
  left_distinct = distinct;
  right_distinct = distinct;
  left_non_null = f64_one;
  right_non_null = f64_one;
  null_pair_selectivity = f64_zero;
  null_match_probability = f64_zero;
}

-- one shared value of 2 ^ -64 distinct ones: 2 ^ 64
match_above_one : uniform_non_null_match_probability (with_distinct (fin false 1 (negsuc 63))) f64_one ≡ fin false 1 (pos 64)
unfolding uniform_non_null_match_probability mul div le
match_above_one = refl

-- 2 ^ 64 partners in all, for a part of 2 ^ -1074 of the left rows
infinite_fanout : residual_conditional_fanout (fin false 1 (negsuc 1073)) f64_one (fin false 1 (pos 64)) ≡ inf false
unfolding residual_conditional_fanout mul div lt le
infinite_fanout = refl
