-- Rows and settings that keep their rules are lawful. Assumes nothing.
use Prim.Native.Nat.{ℕ, ◌+◌, ◌*◌, ◌<◌}
use mathlib.Core.Path.{◌≡◌, refl, sym, ap, ◌∙◌, subst}
use mathlib.Core.Bool.{Bool, true, false}
use mathlib.Core.List.{List}
use native.Mathlib.Omega.{arith}
use native.Mathlib.Nat.{add-zero}
use lib.Dec.{T, ltb}
use lib.Ieee.{binary64}
use lib.Ieee.Bits.{of_bits-fits}
use Rattle.le.specs.Fields.{u64_at}
use Rattle.le.specs.Floats.{f64_at}
use Rattle.rules.proofs.RuleLaws.{ask_kept}
use Rattle.layout.specs.Places.{float_size}
use Rattle.layout.proofs.LayoutLaws.{record_kept}
use Rattle.estimate.specs.Bytes.{estimate_at, figure_lawful, LawfulFigure, LawfulEstimate}
use Rattle.estimate.proofs.EstimateLaws.{accepted_lawful}
use Rattle.records.specs.Settings.{settings_at}
use Rattle.record_rules.specs.Rows.{rows_fields, rows_refusal, selectivity_lawful, setting_lawful, setting_fields, setting_refusal}
use Rattle.lawful.specs.Lawful.{LawfulSelectivity, LawfulSettings}

pub rows_lawful : (s : List ℕ) (at : ℕ) → rows_refusal s at ≡ 0 → LawfulEstimate (estimate_at s at)
unfolding rows_refusal
rows_lawful s at e = accepted_lawful s at (record_kept rows_fields tt s at e).0

-- ---- settings

module _ (s : List ℕ) where
  setting_kept : (i at : ℕ) (t : Bool) → setting_refusal s i at ≡ 0 → setting_lawful i (f64_at s at) ≡ t → T t
  unfolding setting_refusal
  setting_kept i at t e q = subst T (sym (ask_kept (setting_lawful i (f64_at s at)) 4 (omega arith) (record_kept setting_fields i s at e).0) ∙ q) tt

  selectivity : (i at : ℕ) → ltb i 3 ≡ true → setting_refusal s i at ≡ 0 → LawfulSelectivity (f64_at s at)
  selectivity i at l e = record { held = of_bits-fits binary64 (u64_at s at); lawful = setting_kept i at (selectivity_lawful (f64_at s at)) e (rw l refl) }

  figure : (i at : ℕ) → ltb i 3 ≡ false → setting_refusal s i at ≡ 0 → LawfulFigure (f64_at s at)
  figure i at l e = record { held = of_bits-fits binary64 (u64_at s at); lawful = setting_kept i at (figure_lawful (f64_at s at)) e (rw l refl) }

  -- five of them, the first at `at`
  pub settings_lawful : (at : ℕ) → ((i : ℕ) → i < 5 → setting_refusal s i (at + float_size * i) ≡ 0) → LawfulSettings (settings_at s at)
  unfolding settings_at
  settings_lawful at e = record {
    like_selectivity = selectivity 0 at refl (ap (setting_refusal s 0) (sym (add-zero at)) ∙ e 0 (omega arith));
    default_predicate_selectivity = selectivity 1 (at + 8) refl (e 1 (omega arith));
    range_fallback_selectivity = selectivity 2 (at + 16) refl (e 2 (omega arith));
    unknown_scan_rows = figure 3 (at + 24) refl (e 3 (omega arith));
    unknown_column_ndv_cap = figure 4 (at + 32) refl (e 4 (omega arith));
  }
