-- The bytes of rows, and of a setting: what is lawful is read as it was written and accepted, what is accepted is written as it stood, and both have an order. Assumes nothing.
use Prim.Native.Nat.{ℕ, ◌+◌, ◌≤◌}
use mathlib.Core.Path.{◌≡◌, refl, sym, ap, ◌∙◌, subst}
use mathlib.Core.Bool.{Bool, true, false, not, cond}
use mathlib.Core.List.{List, ◌++◌}
use native.Mathlib.Omega.{arith}
use lib.Dec.{T, ltb}
use lib.IntN.{pos, negsuc}
use lib.ListN.{length, take, drop}
use lib.Ieee.{Float, nan, inf, fin, binary64, is_nan, of_bits, to_bits}
use lib.Ieee.Bits.{is_true, of_bits-to_bits, to_bits-lt, to_bits-of_bits, of_bits-fits}
use Rattle.float.specs.Order.{f64_one, nonneg}
use Rattle.le.specs.Fields.{u64_at, u64_bytes}
use Rattle.le.specs.Floats.{f64_at}
use Rattle.le.proofs.FieldLaws.{Bytes, field_below, bytes_back, field_found}
use Rattle.rules.specs.Rules.{ask}
use Rattle.rules.proofs.RuleLaws.{ask_kept}
use Rattle.layout.specs.Places.{float_size, estimate_size}
use Rattle.layout.specs.Fields.{size_of, bytes_of}
use Rattle.layout.specs.Lawful.{LawfulField, as_field, Figure}
use Rattle.layout.proofs.LayoutLaws.{EachField, ◌and◌, sizes, record_kept, record_accepted, record_room, stands, written, record_lawful}
use Rattle.layout.proofs.FloatLaws.{pattern_lawful}
use Rattle.estimate.specs.Bytes.{figure_lawful, estimate_at, LawfulEstimate}
use Rattle.estimate.specs.declared.Estimate.{Estimate}
use Rattle.estimate.proofs.EstimateLaws.{part_lawful, range_figure, estimate_read, estimate_accepted, estimate_written}
use Rattle.record_rules.specs.Rows.{rows_fields, rows_refusal, selectivity_lawful, setting_lawful, setting_fields, setting_refusal}
use Rattle.record_rules.specs.Lawful.{LawfulSetting}

-- ---- rows

pub rows_size : size_of rows_fields ≡ estimate_size
rows_size = refl

rows_fields_law : EachField (LawfulField LawfulEstimate) rows_fields
rows_fields_law = part_lawful LawfulEstimate (λ x. x) (λ x h. h) and tt

pub rows_lawful : LawfulField LawfulEstimate (as_field rows_fields)
rows_lawful = record_lawful LawfulEstimate rows_fields rows_fields_law

pub rows_read : (x : Estimate) (s t : List ℕ) (at : ℕ) → LawfulEstimate x → drop at s ≡ bytes_of rows_fields x ++ t → estimate_at s at ≡ x
rows_read x s t at h e =
    let fields = stands rows_fields (sizes LawfulEstimate rows_fields rows_fields_law) x s t at 0 e in
    estimate_read x s fields.0.0 at h fields.0.1

pub rows_accepted : (x : Estimate) (s t : List ℕ) (at : ℕ) → LawfulEstimate x → drop at s ≡ bytes_of rows_fields x ++ t → rows_refusal s at ≡ 0
unfolding rows_refusal
rows_accepted x s t at h e =
    let fields = stands rows_fields (sizes LawfulEstimate rows_fields rows_fields_law) x s t at 0 e in
    record_accepted rows_fields (sizes LawfulEstimate rows_fields rows_fields_law) tt x s t at e (estimate_accepted x s fields.0.0 at h fields.0.1 and tt)

pub rows_written : (s : List ℕ) (at : ℕ) → Bytes s → rows_refusal s at ≡ 0 → bytes_of rows_fields (estimate_at s at) ≡ take estimate_size (drop at s)
unfolding rows_refusal
rows_written s at b e =
    let room : at + estimate_size ≤ length s = record_room rows_fields tt s at (omega arith) e in
    written rows_fields (estimate_at s at) s at 0 (estimate_written s at b room (record_kept rows_fields tt s at e).0 and tt)

-- ---- settings

setting_figure : (i : ℕ) (x : Float) → LawfulSetting i x → Figure x
setting_figure i x h = go (ltb i 3) h.lawful
  where
    go : (t : Bool) → T (cond t (selectivity_lawful x) (figure_lawful x)) → Figure x
    go true l = range_figure (fin false 1 (negsuc 63)) f64_one x tt tt h.held l
    go false l = range_figure (fin false 1 (negsuc 63)) (fin false 1 (pos 64)) x tt tt h.held l

pub setting_size : size_of setting_fields ≡ float_size
setting_size = refl

setting_fields_law : (i : ℕ) → EachField (LawfulField (LawfulSetting i)) setting_fields
setting_fields_law i = pattern_lawful (LawfulSetting i) (λ x. x) (λ x. to_bits binary64 x) _ (λ x h. (setting_figure i x h, refl)) and tt

pub setting_lawful_law : (i : ℕ) → LawfulField (LawfulSetting i) (as_field setting_fields)
setting_lawful_law i = record_lawful (LawfulSetting i) setting_fields (setting_fields_law i)

pub setting_read : (i : ℕ) (x : Float) (s t : List ℕ) (at : ℕ) → LawfulSetting i x → drop at s ≡ bytes_of setting_fields x ++ t → f64_at s at ≡ x
setting_read i x s t at h e =
    let fields = stands setting_fields (sizes (LawfulSetting i) setting_fields (setting_fields_law i)) x s t at 0 e in
    let bits : u64_at s at ≡ to_bits binary64 x = field_found 8 (to_bits binary64 x) s fields.0.0 at (to_bits-lt binary64 x h.held) fields.0.1 in
    ap (of_bits binary64) bits ∙ of_bits-to_bits binary64 x h.held

pub setting_accepted : (i : ℕ) (x : Float) (s t : List ℕ) (at : ℕ) → LawfulSetting i x → drop at s ≡ bytes_of setting_fields x ++ t → setting_refusal s i at ≡ 0
unfolding setting_refusal
setting_accepted i x s t at h e =
    record_accepted setting_fields (sizes (LawfulSetting i) setting_fields (setting_fields_law i)) i x s t at e
    (ap (λ (y : Float). ask (setting_lawful i y) 4) (setting_read i x s t at h e) ∙ ap (λ (b : Bool). ask b 4) (is_true (setting_lawful i x) h.lawful)
    and tt)

no_nan : (x : Float) → T (nonneg x) → T (not (is_nan x))
unfolding is_nan
no_nan nan h = absurd h
no_nan (inf s) h = absurd h
no_nan (fin s m e) h = tt

pub setting_written : (s : List ℕ) (i at : ℕ) → Bytes s → setting_refusal s i at ≡ 0 → bytes_of setting_fields (f64_at s at) ≡ take float_size (drop at s)
unfolding setting_refusal
setting_written s i at b e =
    let room : at + float_size ≤ length s = record_room setting_fields i s at (omega arith) e in
    let lawful : setting_lawful i (f64_at s at) ≡ true = ask_kept (setting_lawful i (f64_at s at)) 4 (omega arith) (record_kept setting_fields i s at e).0 in
    let figure = setting_figure i (f64_at s at) (record { held = of_bits-fits binary64 (u64_at s at); lawful = subst T (sym lawful) tt }) in
    let bits : to_bits binary64 (f64_at s at) ≡ u64_at s at = to_bits-of_bits binary64 (u64_at s at) (field_below 8 s at b) (no_nan (f64_at s at) figure.low) in
    written setting_fields (f64_at s at) s at 0 (ap u64_bytes bits ∙ bytes_back float_size s at b room and tt)
