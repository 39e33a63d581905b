-- The bytes of a predicate's answer are an estimate's. Assumes nothing.
use Prim.Native.Nat.{ℕ}
use mathlib.Core.Path.{◌≡◌, ap, ◌∙◌}
use mathlib.Core.List.{List}
use lib.ListN.{length}
use Rattle.le.specs.Fields.{onto}
use Rattle.layout.specs.Places.{estimate_size}
use Rattle.estimate.specs.Bytes.{estimate_bytes}
use Rattle.estimate.specs.declared.Estimate.{Estimate}
use Rattle.estimate.proofs.EstimateLaws.{estimate_length}
use Rattle.sheet.specs.Sheet.{Sheet}
use Rattle.predicate.specs.Predicate.{filter_selectivity_for_predicate}
use Rattle.expression_answer.specs.Predicate.{predicate_bytes}

module _ (sheet : Sheet) (e : ℕ) where
  pub predicate_length : length (predicate_bytes sheet e) ≡ estimate_size
  unfolding predicate_bytes
  predicate_length = estimate_length (filter_selectivity_for_predicate sheet e)

  pub predicate_written : (estimate : Estimate) (out after : List ℕ) → estimate ≡ filter_selectivity_for_predicate sheet e → after ≡ onto (estimate_bytes estimate) out → after ≡ onto (predicate_bytes sheet e) out
  unfolding predicate_bytes
  predicate_written estimate out after f g = g ∙ ap (λ (x : Estimate). onto (estimate_bytes x) out) f
