-- Laws of an estimate's bytes: their length, that what a sheet may hold is written, read back and accepted, that what a sheet was accepted with is written as it stood, and the order. Assumes nothing.
use Prim.Native.Nat.{ℕ, zero, suc, ◌+◌, ◌*◌, ◌^◌, ◌≤◌, ◌<◌}
use mathlib.Core.Path.{◌≡◌, refl, sym, ap, ◌∙◌, subst}
use mathlib.Core.Logic.{◌⊎◌, inl, inr}
use mathlib.Core.Bool.{Bool, true, false, not, ◌||◌}
use mathlib.Core.List.{List, [], ◌∷◌, ◌++◌}
use Rattle.std.specs.Prelude.{Option, None, Some, is_some, unwrap_or}
use Rattle.std.specs.Bool.{then_some}
use native.Mathlib.Omega.{arith}
use borrow.Author.Tests.{ne_eqb, leb-true, le-leb, eqb-true}
use lib.Dec.{T, leb, eqb}
use lib.IntN.{pos, negsuc}
use lib.ListN.{length, take, drop}
use lib.Ieee.{Float, nan, inf, fin, binary64, fits, le, is_nan, of_bits, to_bits}
use lib.Ieee.Bits.{is_true, of_bits-to_bits, to_bits-lt, to_bits-of_bits, of_bits-fits}
use lib.Ieee.Fits.{and_l, and_r}
use lib.Ieee.Positive as Positive
use lib.Ieee.Positive.{positive}
use Rattle.float.specs.Integers.{bit}
use Rattle.float.specs.Order.{f64_zero}
use Rattle.float.specs.Ranges.{plus_zero, between, zero_or_between}
use Rattle.float.proofs.RangeLaws.{plus_zero_is}
use Rattle.le.specs.Fields.{byte_at, field_bytes, u64_at, u64_bytes}
use Rattle.le.specs.Floats.{f64_at, f64_bytes}
use Rattle.le.proofs.FieldLaws.{Bytes, field_below, bytes_back, field_found}
use Rattle.rules.specs.Rules.{ask}
use Rattle.layout.specs.Places.{estimate_size}
use Rattle.layout.specs.Fields.{size_of, bytes_of, no_rule}
use Rattle.layout.specs.Lawful.{LawfulField, as_field, Figure}
use Rattle.layout.proofs.LayoutLaws.{EachField, ◌and◌, fields_kept, kept_fields, stands, written, sizes, record_lawful, group_lawful, byte_read, byte_back, byte_lawful}
use Rattle.layout.proofs.FloatLaws.{positive_figure, zero_bits, zero_figure, pattern_lawful}
use Rattle.estimate.specs.Bytes.{source_number, source_of, lower_flag, upper_flag, flags_number, option_at, estimate_at, figure_lawful, bound_refusal, option_bits, estimate_fields, estimate_refusal, estimate_bytes, estimate, LawfulFigure, LawfulBound, LawfulEstimate}
use Rattle.estimate.specs.Estimates.{estimate_of, lower_bound, upper_bound}
use Rattle.estimate.specs.declared.Estimate.{Estimate}
use Rattle.estimate.specs.declared.EstimateSource.{EstimateSource}
use Rattle.estimate.specs.declared.EstimateSource.TheVariants.{Exact, Catalog, Sketch, Derived, Default}

-- ---- bounds as options

option_back : (x : Option Float) → then_some (is_some x) (unwrap_or x f64_zero) ≡ x
option_back None = refl
option_back (Some x) = refl

pub lower_back : (value : Float) (lower upper : Option Float) (source : EstimateSource) → lower_bound (estimate_of value lower upper source) ≡ lower
lower_back value lower upper source = option_back lower

pub upper_back : (value : Float) (lower upper : Option Float) (source : EstimateSource) → upper_bound (estimate_of value lower upper source) ≡ upper
upper_back value lower upper source = option_back upper

-- ---- the two bytes at the front

pub bit_small : (b : Bool) → bit b ≤ 1
bit_small true = omega arith
bit_small false = omega arith

flag_bits : (a b : Bool) → (lower_flag (bit a + 2 * bit b) ≡ a) × (upper_flag (bit a + 2 * bit b) ≡ b)
flag_bits true true = (refl, refl)
flag_bits true false = (refl, refl)
flag_bits false true = (refl, refl)
flag_bits false false = (refl, refl)

flags_back : (n : ℕ) → n ≤ 3 → bit (lower_flag n) + 2 * bit (upper_flag n) ≡ n
flags_back zero h = refl
flags_back (suc zero) h = refl
flags_back (suc (suc zero)) h = refl
flags_back (suc (suc (suc zero))) h = refl
flags_back (suc (suc (suc (suc n)))) h = absurd (no h)
  where
    no : suc (suc (suc (suc n))) ≤ 3 → ⊥
    no h = omega arith

pub source_rest : (n : ℕ) → 4 ≤ n → source_of n ≡ Default
source_rest n h = rw (ne_eqb n 0 (λ (e : n ≡ 0). omega arith), ne_eqb n 1 (λ (e : n ≡ 1). omega arith), ne_eqb n 2 (λ (e : n ≡ 2). omega arith), ne_eqb n 3 (λ (e : n ≡ 3). omega arith)) refl

source_back : (n : ℕ) → n ≤ 4 → source_number (source_of n) ≡ n
source_back zero h = refl
source_back (suc zero) h = refl
source_back (suc (suc zero)) h = refl
source_back (suc (suc (suc zero))) h = refl
source_back (suc (suc (suc (suc n)))) h = ap source_number (source_rest (suc (suc (suc (suc n)))) (omega arith)) ∙ omega arith

source_known : (x : EstimateSource) → (source_number x ≤ 4) × (source_of (source_number x) ≡ x)
source_known Exact = (omega arith, refl)
source_known Catalog = (omega arith, refl)
source_known Sketch = (omega arith, refl)
source_known Derived = (omega arith, refl)
source_known Default = (omega arith, refl)

-- ---- figures and bounds

lawful_no_nan : (x : Float) → T (figure_lawful x) → T (not (is_nan x))
unfolding is_nan le
lawful_no_nan nan h = absurd h
lawful_no_nan (inf s) h = tt
lawful_no_nan (fin s m e) h = tt

figure_back : (s : List ℕ) (at : ℕ) → Bytes s → T (figure_lawful (f64_at s at)) → to_bits binary64 (f64_at s at) ≡ u64_at s at
figure_back s at b h = to_bits-of_bits binary64 (u64_at s at) (field_below 8 s at b) (lawful_no_nan (f64_at s at) h)

kept : (b : Bool) (n : ℕ) → ask b (suc n) ≡ 0 → T b
kept true n e = tt
kept false n e = let z : suc n ≡ 0 = e in omega arith

bound_back : (p : Bool) (s : List ℕ) (at : ℕ) → Bytes s → bound_refusal p s at ≡ 0 → option_bits (option_at p s at) ≡ u64_at s at
bound_back true s at b e = figure_back s at b (kept (figure_lawful (f64_at s at)) 3 e)
bound_back false s at b e = sym (eqb-true (u64_at s at) 0 (is_true (eqb (u64_at s at) 0) (kept (eqb (u64_at s at) 0) 5 e)))

bound_lawful : (p : Bool) (s : List ℕ) (at : ℕ) → bound_refusal p s at ≡ 0 → LawfulBound (is_some (option_at p s at)) (unwrap_or (option_at p s at) f64_zero)
bound_lawful true s at e = record { held = of_bits-fits binary64 (u64_at s at); lawful = kept (figure_lawful (f64_at s at)) 3 e }
bound_lawful false s at e = refl

present_is : (p : Bool) (s : List ℕ) (at : ℕ) → is_some (option_at p s at) ≡ p
present_is true s at = refl
present_is false s at = refl

-- ---- what an accepted record keeps

record Accepted (s : List ℕ) (at : ℕ) : Type 0 where
  source : byte_at s at ≤ 4
  flags : byte_at s (at + 1) ≤ 3
  value : T (figure_lawful (f64_at s (at + 2)))
  lower : bound_refusal (lower_flag (byte_at s (at + 1))) s (at + 10) ≡ 0
  upper : bound_refusal (upper_flag (byte_at s (at + 1))) s (at + 18) ≡ 0

all_kept : (s : List ℕ) (at : ℕ) → estimate_refusal s at ≡ 0 → Accepted s at
unfolding estimate_refusal
all_kept s at e =
    let k = fields_kept estimate_fields (byte_at s (at + 1)) s at 0 e in
    record {
      source = leb-true (byte_at s at) 4 (is_true _ (kept (leb (byte_at s at) 4) 5 k.0));
      flags = leb-true (byte_at s (at + 1)) 3 (is_true _ (kept (leb (byte_at s (at + 1)) 3) 5 k.1.0));
      value = kept (figure_lawful (f64_at s (at + 2))) 3 k.1.1.0;
      lower = k.1.1.1.0;
      upper = k.1.1.1.1.0;
    }

-- ---- the length, and what an accepted record reads as

pub size_is : size_of estimate_fields ≡ estimate_size
size_is = refl

pub estimate_length : (e : Estimate) → length (estimate_bytes e) ≡ 26
unfolding estimate_bytes field_bytes
estimate_length e = refl

-- the five fields one after the other, as `put_estimate` puts them
pub fields_joined : (e : Estimate) (source flags lower upper : ℕ) → source ≡ source_number e.source → flags ≡ flags_number e → lower ≡ option_bits (lower_bound e) → upper ≡ option_bits (upper_bound e)
    → ((((source ∷ []) ++ (flags ∷ [])) ++ f64_bytes e.value) ++ u64_bytes lower) ++ u64_bytes upper ≡ estimate_bytes e
unfolding estimate_bytes field_bytes
fields_joined e source flags lower upper a b c d = λ i. ((((a i ∷ []) ++ (b i ∷ [])) ++ f64_bytes e.value) ++ u64_bytes (c i)) ++ u64_bytes (d i)

pub accepted_lawful : (s : List ℕ) (at : ℕ) → estimate_refusal s at ≡ 0 → LawfulEstimate (estimate_at s at)
unfolding estimate_at
accepted_lawful s at e =
    let k = all_kept s at e in
    record {
      value = record { held = of_bits-fits binary64 (u64_at s (at + 2)); lawful = k.value };
      lower = bound_lawful (lower_flag (byte_at s (at + 1))) s (at + 10) k.lower;
      upper = bound_lawful (upper_flag (byte_at s (at + 1))) s (at + 18) k.upper;
    }

-- ---- written as it stood

word_back : (v : ℕ) (s : List ℕ) (at : ℕ) → v ≡ u64_at s at → Bytes s → at + 8 ≤ length s → u64_bytes v ≡ take 8 (drop at s)
word_back v s at e b h = ap u64_bytes e ∙ bytes_back 8 s at b h

pub estimate_written : (s : List ℕ) (at : ℕ) → Bytes s → at + 26 ≤ length s → estimate_refusal s at ≡ 0 → bytes_of estimate_fields (estimate_at s at) ≡ take 26 (drop at s)
unfolding estimate_at
estimate_written s at b h e =
    let k = all_kept s at e in
    let lower = lower_flag (byte_at s (at + 1)) in
    let upper = upper_flag (byte_at s (at + 1)) in
    let flags : bit (is_some (option_at lower s (at + 10))) + 2 * bit (is_some (option_at upper s (at + 18))) ≡ byte_at s (at + 1)
    = rw (present_is lower s (at + 10), present_is upper s (at + 18)) (flags_back (byte_at s (at + 1)) k.flags) in
    written estimate_fields (estimate_at s at) s at 0
    (byte_back _ s at (source_back (byte_at s at) k.source) (omega arith)
    and byte_back _ s (at + 1) flags (omega arith)
    and word_back _ s (at + 2) (figure_back s (at + 2) b k.value) b (omega arith)
    and word_back _ s (at + 10) (ap option_bits (option_back (option_at lower s (at + 10))) ∙ bound_back lower s (at + 10) b k.lower) b (omega arith)
    and word_back _ s (at + 18) (ap option_bits (option_back (option_at upper s (at + 18))) ∙ bound_back upper s (at + 18) b k.upper) b (omega arith)
    and tt)

-- ---- the order: two are the same where their bytes are

or_split : (a b : Bool) → T (a || b) → T a ⊎ T b
or_split true b t = inl tt
or_split false b t = inr t

-- what lies between positive bounds, or is +0
pub range_figure : (low high x : Float) → T (positive low) → T (positive high) → T (fits binary64 x) → T (zero_or_between low high x) → Figure x
range_figure low high x p q h l = elim (or_split (plus_zero x) (between low high x) l) [
  | inl z ↦ subst Figure (sym (plus_zero_is x h z)) zero_figure
  | inr b ↦ positive_figure x h (Positive.between low x high p q (and_l (le low x) (le x high) b) (and_r (le low x) (le x high) b))
]

figure : (x : Float) → LawfulFigure x → Figure x
figure x f = range_figure (fin false 1 (negsuc 63)) (fin false 1 (pos 64)) x tt tt f.held f.lawful

option_figure : (p : Bool) (x : Float) → LawfulBound p x → Figure x × (to_bits binary64 x ≡ option_bits (then_some p x))
option_figure true x h = (figure x h, refl)
option_figure false x h = (subst Figure (sym h) zero_figure, ap (to_bits binary64) h ∙ zero_bits)

estimate_fields_law : EachField (LawfulField LawfulEstimate) estimate_fields
estimate_fields_law =
    (byte_lawful LawfulEstimate (λ x. source_number x.source) _
    and byte_lawful LawfulEstimate flags_number _
    and pattern_lawful LawfulEstimate (λ x. x.value) (λ x. to_bits binary64 x.value) _ (λ x h. (figure x.value h.value, refl))
    and pattern_lawful LawfulEstimate (λ x. x.lower) (λ x. option_bits (lower_bound x)) _ (λ x h. option_figure x.has_lower x.lower h.lower)
    and pattern_lawful LawfulEstimate (λ x. x.upper) (λ x. option_bits (upper_bound x)) _ (λ x h. option_figure x.has_upper x.upper h.upper)
    and tt)

pub estimate_lawful : LawfulField LawfulEstimate (as_field estimate_fields)
estimate_lawful = record_lawful LawfulEstimate estimate_fields estimate_fields_law

-- in another record
pub part_lawful : {C A : Type 0} (L : A → Type 0) (get : A → Estimate) → ((x : A) → L x → LawfulEstimate (get x)) → LawfulField {C = C} L (estimate get)
part_lawful L get h = group_lawful L LawfulEstimate get (λ c. estimate_refusal) estimate_fields h estimate_lawful

-- ---- read as it was written, and accepted

option_bits_small : (p : Bool) (x : Float) → LawfulBound p x → option_bits (then_some p x) < 256 ^ 8
option_bits_small p x h = let f = option_figure p x h in let l = to_bits-lt binary64 x f.0.held in subst (λ (n : ℕ). n < 256 ^ 8) f.1 l

-- a float read where its pattern stands
given_at : (x : Float) (s : List ℕ) (k : ℕ) → T (fits binary64 x) → u64_at s k ≡ to_bits binary64 x → f64_at s k ≡ x
given_at x s k h u = ap (of_bits binary64) u ∙ of_bits-to_bits binary64 x h

bound_read : (p : Bool) (x : Option Float) (s : List ℕ) (k : ℕ) → p ≡ is_some x → LawfulBound (is_some x) (unwrap_or x f64_zero) → u64_at s k ≡ option_bits x → option_at p s k ≡ x
bound_read p (Some x) s k e h u = ap (λ (b : Bool). option_at b s k) e ∙ ap Some (given_at x s k h.held u)
bound_read p None s k e h u = ap (λ (b : Bool). option_at b s k) e

-- its number, by the flag and the number that were written
number_read : (q p : Bool) (x : Float) (s : List ℕ) (k : ℕ) → q ≡ p → LawfulBound p x → u64_at s k ≡ option_bits (then_some p x) → unwrap_or (option_at q s k) f64_zero ≡ x
number_read q true x s k e h u = ap (λ (o : Option Float). unwrap_or o f64_zero) (bound_read q (Some x) s k e h u)
number_read q false x s k e h u = ap (λ (o : Option Float). unwrap_or o f64_zero) (bound_read q None s k e refl u) ∙ sym h

bound_kept : (q p : Bool) (x : Float) (s : List ℕ) (k : ℕ) → q ≡ p → LawfulBound p x → u64_at s k ≡ option_bits (then_some p x) → bound_refusal q s k ≡ 0
bound_kept q true x s k e h u =
    ap (λ (b : Bool). bound_refusal b s k) e
    ∙ ap (λ (y : Float). ask (figure_lawful y) 4) (given_at x s k h.held u)
    ∙ ap (λ (b : Bool). ask b 4) (is_true (figure_lawful x) h.lawful)
bound_kept q false x s k e h u = ap (λ (b : Bool). bound_refusal b s k) e ∙ ap (λ (v : ℕ). ask (eqb v 0) 6) u

record Read (x : Estimate) (s : List ℕ) (at : ℕ) : Type 0 where
  source : byte_at s at ≡ source_number x.source
  lower_flag : lower_flag (byte_at s (at + 1)) ≡ x.has_lower
  upper_flag : upper_flag (byte_at s (at + 1)) ≡ x.has_upper
  flags : byte_at s (at + 1) ≡ flags_number x
  value : f64_at s (at + 2) ≡ x.value
  lower : u64_at s (at + 10) ≡ option_bits (lower_bound x)
  upper : u64_at s (at + 18) ≡ option_bits (upper_bound x)

fields_read : (x : Estimate) (s t : List ℕ) (at : ℕ) → LawfulEstimate x → drop at s ≡ bytes_of estimate_fields x ++ t → Read x s at
fields_read x s t at h e =
    let fields = stands estimate_fields (sizes LawfulEstimate estimate_fields estimate_fields_law) x s t at 0 e in
    let flags : byte_at s (at + 1) ≡ flags_number x = byte_read {C = ℕ} flags_number no_rule x s (at + 1) fields.1.0 in
    let f = flag_bits x.has_lower x.has_upper in
    let value : u64_at s (at + 2) ≡ to_bits binary64 x.value = field_found 8 (to_bits binary64 x.value) s fields.1.1.0.0 (at + 2) (to_bits-lt binary64 x.value h.value.held) fields.1.1.0.1 in
    record {
      source = byte_read {C = ℕ} (λ y. source_number y.source) no_rule x s at fields.0;
      lower_flag = ap lower_flag flags ∙ f.0;
      upper_flag = ap upper_flag flags ∙ f.1;
      flags = flags;
      value = given_at x.value s (at + 2) h.value.held value;
      lower = field_found 8 (option_bits (lower_bound x)) s fields.1.1.1.0.0 (at + 10) (option_bits_small x.has_lower x.lower h.lower) fields.1.1.1.0.1;
      upper = field_found 8 (option_bits (upper_bound x)) s fields.1.1.1.1.0.0 (at + 18) (option_bits_small x.has_upper x.upper h.upper) fields.1.1.1.1.0.1;
    }

pub estimate_read : (x : Estimate) (s t : List ℕ) (at : ℕ) → LawfulEstimate x → drop at s ≡ bytes_of estimate_fields x ++ t → estimate_at s at ≡ x
unfolding estimate_at
estimate_read x s t at h e =
    let r = fields_read x s t at h e in
    let source = ap source_of r.source ∙ (source_known x.source).1 in
    let lower_flag = lower_flag (byte_at s (at + 1)) in
    let upper_flag = upper_flag (byte_at s (at + 1)) in
    let lower = number_read lower_flag x.has_lower x.lower s (at + 10) r.lower_flag h.lower r.lower in
    let upper = number_read upper_flag x.has_upper x.upper s (at + 18) r.upper_flag h.upper r.upper in
    let has_lower = present_is lower_flag s (at + 10) ∙ r.lower_flag in
    let has_upper = present_is upper_flag s (at + 18) ∙ r.upper_flag in
    λ i. record { value = r.value i; lower = lower i; upper = upper i; has_lower = has_lower i; has_upper = has_upper i; source = source i }

pub estimate_accepted : (x : Estimate) (s t : List ℕ) (at : ℕ) → LawfulEstimate x → drop at s ≡ bytes_of estimate_fields x ++ t → estimate_refusal s at ≡ 0
unfolding estimate_refusal
estimate_accepted x s t at h e =
    let r = fields_read x s t at h e in
    let a = bit_small x.has_lower in
    let b = bit_small x.has_upper in
    kept_fields estimate_fields (byte_at s (at + 1)) s at 0
    (ap (λ (n : ℕ). ask (leb n 4) 6) r.source ∙ ap (λ (b : Bool). ask b 6) (le-leb (source_number x.source) 4 (source_known x.source).0)
    and ap (λ (n : ℕ). ask (leb n 3) 6) r.flags ∙ ap (λ (b : Bool). ask b 6) (le-leb (flags_number x) 3 (omega arith))
    and ap (λ (y : Float). ask (figure_lawful y) 4) r.value ∙ ap (λ (b : Bool). ask b 4) (is_true (figure_lawful x.value) h.value.lawful)
    and bound_kept (lower_flag (byte_at s (at + 1))) x.has_lower x.lower s (at + 10) r.lower_flag h.lower r.lower
    and bound_kept (upper_flag (byte_at s (at + 1))) x.has_upper x.upper s (at + 18) r.upper_flag h.upper r.upper
    and tt)
