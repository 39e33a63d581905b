-- Two places hold the same 19 bytes exactly where they hold the same value. Assumes nothing.
use Prim.Native.Nat.{ℕ, ◌+◌, ◌≤◌}
use mathlib.Core.Path.{◌≡◌, sym, ap, ◌∙◌}
use mathlib.Core.Logic.{◌↔◌}
use mathlib.Core.Bool.{true}
use mathlib.Core.List.{List, [], ◌++◌}
use lib.ListN.{length}
use borrow.Author.Tests.{eq-eqb, eqb-true}
use Rattle.le.specs.Fields.{field_at, field_bytes}
use Rattle.le.proofs.FieldLaws.{Bytes, field_below, field_back, bytes_back}
use Rattle.scalar_bytes.specs.Reading.{scalar_refusal, bound_at}
use Rattle.scalar_bytes.specs.Encoding.{bound_bytes}
use Rattle.scalar_bytes.specs.declared.reads.ScalarPlace.TheVariants.{Sketch}
use Rattle.scalar_bytes.proofs.EncodingLaws.{accepted_lawful, written_back, read_back}
use Rattle.sketch_rules.specs.Sketches.{same_value}

module _ (s : List ℕ) (bytes : Bytes s) where
  -- a value's bytes are those that stand there, and they read as it
  value_back : (at : ℕ) → scalar_refusal Sketch s at ≡ 0 → bound_at (bound_bytes (bound_at s at) ++ []) 0 ≡ bound_at s at
  value_back at l = read_back (bound_at s at) [] (accepted_lawful Sketch s at bytes l)

  number_back : (at : ℕ) → field_at 19 (field_bytes 19 (field_at 19 s at) ++ []) 0 ≡ field_at 19 s at
  number_back at = field_back 19 (field_at 19 s at) [] (field_below 19 s at bytes)

  value_bytes : (at : ℕ) → at + 19 ≤ length s → scalar_refusal Sketch s at ≡ 0 → bound_bytes (bound_at s at) ≡ field_bytes 19 (field_at 19 s at)
  value_bytes at h l = written_back Sketch s at bytes h l ∙ sym (bytes_back 19 s at bytes h)

  pub same_value_law : (a b : ℕ) → a + 19 ≤ length s → b + 19 ≤ length s → scalar_refusal Sketch s a ≡ 0 → scalar_refusal Sketch s b ≡ 0
      → (same_value s a b ≡ true) ↔ (bound_at s a ≡ bound_at s b)
  same_value_law a b h k l m = (
    λ e.
        let same : bound_bytes (bound_at s a) ≡ bound_bytes (bound_at s b) = value_bytes a h l ∙ (ap (field_bytes 19) (eqb-true (field_at 19 s a) (field_at 19 s b) e) ∙ sym (value_bytes b k m)) in
        sym (value_back a l) ∙ (ap (λ (bs : List ℕ). bound_at (bs ++ []) 0) same ∙ value_back b m),
    λ e.
        let same : field_bytes 19 (field_at 19 s a) ≡ field_bytes 19 (field_at 19 s b) = sym (value_bytes a h l) ∙ (ap bound_bytes e ∙ value_bytes b k m) in
        eq-eqb (field_at 19 s a) (field_at 19 s b) (sym (number_back a) ∙ (ap (λ (bs : List ℕ). field_at 19 (bs ++ []) 0) same ∙ number_back b)),
  )
