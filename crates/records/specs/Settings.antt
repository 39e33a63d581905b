-- The five settings, in the order of the source's `CardinalityEstimationConfig` (analysis.rs). Definitions only.
use Rattle.std.specs.Prelude.{ℕ, ◌+◌, List}
use Rattle.le.specs.Floats.{f64_at}
use Rattle.layout.specs.Places.{default_predicate_selectivity_offset, range_fallback_selectivity_offset, unknown_scan_rows_offset, unknown_column_ndv_cap_offset}
use Rattle.records.specs.declared.settings.CardinalityEstimationConfig.{CardinalityEstimationConfig}

unfoldable pub settings_at : List ℕ → ℕ → CardinalityEstimationConfig
settings_at s at = record {
  like_selectivity = f64_at s at;
  default_predicate_selectivity = f64_at s (at + default_predicate_selectivity_offset);
  range_fallback_selectivity = f64_at s (at + range_fallback_selectivity_offset);
  unknown_scan_rows = f64_at s (at + unknown_scan_rows_offset);
  unknown_column_ndv_cap = f64_at s (at + unknown_column_ndv_cap_offset);
}
