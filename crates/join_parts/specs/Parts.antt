-- The figures of a join as they stand in its answer. Definitions only.
use Rattle.std.specs.Prelude.{ℕ, List, ◌++◌, Float}
use Rattle.le.specs.Fields.{field_bytes}
use Rattle.le.specs.Floats.{f64_bytes}
use Rattle.estimate.specs.Bytes.{estimate_bytes}
use Rattle.estimate.specs.declared.Estimate.{Estimate}

unfoldable pub figures_bytes : Estimate → Estimate → Float → List ℕ
unfolding estimate_bytes field_bytes
figures_bytes selectivity match_probability residual = estimate_bytes selectivity ++ (estimate_bytes match_probability ++ f64_bytes residual)
