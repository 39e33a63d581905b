-- The fields of rows and settings. Definitions only.
use Rattle.std.specs.Prelude.{ℕ, Bool, false, cond, List, [], ◌∷◌, ltb, negsuc, Float}
use Rattle.std.specs.Float.{fin}
use Rattle.float.specs.Order.{f64_one}
use Rattle.float.specs.Ranges.{zero_or_between}
use Rattle.le.specs.Floats.{f64_at}
use Rattle.rules.specs.Rules.{ask}
use Rattle.layout.specs.Fields.{Field, float, fields_refusal}
use Rattle.estimate.specs.Bytes.{figure_lawful, estimate_refusal, estimate}
use Rattle.estimate.specs.declared.Estimate.{Estimate}

-- ---- rows

abbrev pub rows_fields : List (Field (Unit {0}) Estimate)
rows_fields = estimate (λ x. x) ∷ []

unfoldable pub rows_refusal : List ℕ → ℕ → ℕ
unfolding estimate_refusal
rows_refusal = fields_refusal rows_fields tt

-- ---- settings

-- +0, or from 2 ^ -64 to 1
abbrev pub selectivity_lawful : Float → Bool
selectivity_lawful x = zero_or_between (fin false 1 (negsuc 63)) f64_one x

-- three selectivities, then two figures as in an estimate
abbrev pub setting_lawful : ℕ → Float → Bool
setting_lawful i x = cond (ltb i 3) (selectivity_lawful x) (figure_lawful x)

-- setting i
abbrev pub setting_fields : List (Field ℕ Float)
setting_fields = float (λ x. x) (λ i s at. ask (setting_lawful i (f64_at s at)) 4) ∷ []

unfoldable pub setting_refusal : List ℕ → ℕ → ℕ → ℕ
setting_refusal s i = fields_refusal setting_fields i s
