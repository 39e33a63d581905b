-- Laws of predicates: what an expression gives, and the operands of a run one by one. Assumes nothing.
use Prim.Native.Nat.{ℕ, ◌+◌, ◌-◌, ◌≤◌, ◌<◌, min}
use mathlib.Core.Path.{◌≡◌, sym, ap, ◌∙◌}
use mathlib.Core.List.{List}
use lib.ListN.{length}
use lib.Ieee.{Float, binary64, mul}
use Rattle.float.specs.Order.{f64_one}
use Rattle.estimate.specs.declared.Estimate.{Estimate}
use Rattle.records.specs.Lists.{tabulate_from}
use Rattle.records.specs.declared.expressions.NaryOp.{NaryOp}
use Rattle.records.specs.declared.expressions.ExpressionKind.{ExpressionKind}
use Rattle.records.specs.declared.expressions.Expression.TheVariants.{Nary}
use Rattle.records.proofs.ListLaws.{tabulate_step, tabulate_end}
use Rattle.expression_rules.specs.Operands.{expression_place}
use Rattle.sheet.specs.Sheet.{Sheet, sheet_of}
use Rattle.sheet.specs.declared.Sections.{Sections}
use Rattle.lookup.specs.Lookup.{expression_of, operand_in, operands_of, expression_kind}
use Rattle.lookup.specs.Recursion.{below, by_number}
use Rattle.lookup.proofs.LookupLaws.{operands_from, of_kind, expression_is}
use Rattle.lookup.proofs.RecursionLaws.{below_is, below_not}
use Rattle.range.specs.Selectivity.{default_estimate}
use Rattle.predicate.specs.Predicate.{operand_factor, operand_product, nary_estimate, expression_estimate, selectivity_by, default_of, filter_selectivity_for_predicate}

-- what the numbers below one stand for
abbrev pub estimates_below : Sheet → ℕ → ℕ → Estimate
estimates_below sheet = below (selectivity_by sheet) (default_of sheet)

-- ---- one expression

module _ (sheet : Sheet) (e : ℕ) where
  pub of_run_law : (op : NaryOp) (first count : ℕ) (product : Float) → expression_of sheet e ≡ Nary op first count → product ≡ operand_product op (estimates_below sheet e) f64_one (operands_of sheet first count) → nary_estimate op product ≡ filter_selectivity_for_predicate sheet e
  unfolding filter_selectivity_for_predicate by_number selectivity_by
  of_run_law op first count product h g = ap (nary_estimate op) g ∙ ap (expression_estimate sheet (estimates_below sheet e)) (sym h)

-- by its kind and its place
module _ (s : List ℕ) (q : Sections) (e : ℕ) (kind : ExpressionKind) (at : ℕ) (is : kind ≡ expression_kind s q e) (stands : at ≡ expression_place q.expressions e) where
  pub of_kind_law : (estimates : ℕ → Estimate) (told : ExpressionKind) → kind ≡ told → expression_estimate (sheet_of s q) estimates (of_kind s at told) ≡ expression_estimate (sheet_of s q) estimates (expression_of (sheet_of s q) e)
  of_kind_law estimates told h = rw stands (ap (expression_estimate (sheet_of s q) estimates) (sym (expression_is s q e told (sym is ∙ h))))

-- ---- an operand, below a limit or not

module _ (sheet : Sheet) (limit o : ℕ) where
  pub operand_below : o < limit → filter_selectivity_for_predicate sheet o ≡ estimates_below sheet limit o
  unfolding filter_selectivity_for_predicate
  operand_below h = below_is (selectivity_by sheet) (default_of sheet) limit o h

  pub operand_not_below : limit ≤ o → default_estimate sheet ≡ estimates_below sheet limit o
  operand_not_below h = below_not (selectivity_by sheet) (default_of sheet) limit o h

-- ---- the operands of a run, where a loop stands at the i-th

module _ (s : List ℕ) (q : Sections) (op : NaryOp) (first count : ℕ) (estimates : ℕ → Estimate) where
  -- those from the i-th on are still to be multiplied in
  abbrev pub ProductRest : Float → ℕ → ℕ → Type 0
  ProductRest product i end =
      operand_product op estimates product (tabulate_from (operand_in s q.operands) i (end - i)) ≡ operand_product op estimates f64_one (operands_of (sheet_of s q) first count)

  pub product_first : (end : ℕ) → end ≡ min (first + count) (length (sheet_of s q).operands) → ProductRest f64_one first end
  product_first end h = ap (operand_product op estimates f64_one) (ap (λ (m : ℕ). tabulate_from (operand_in s q.operands) first (m - first)) h ∙ sym (operands_from s q first count))

  pub product_next : (product next : Float) (i end o : ℕ) (estimate : Estimate) → i < end → o ≡ operand_in s q.operands i → estimate ≡ estimates o → next ≡ mul binary64 product (operand_factor op estimate.value)
      → ProductRest product i end → ProductRest next (i + 1) end
  unfolding operand_product
  product_next product next i end o estimate h e f g rest =
      ap (λ (x : Float). operand_product op estimates x (tabulate_from (operand_in s q.operands) (i + 1) (end - (i + 1)))) (g ∙ ap (λ (x : Estimate). mul binary64 product (operand_factor op x.value)) (f ∙ ap estimates e))
      ∙ ap (operand_product op estimates product) (sym (tabulate_step (operand_in s q.operands) i end h))
      ∙ rest

  pub product_all : (product : Float) (i end : ℕ) → end ≤ i → ProductRest product i end → product ≡ operand_product op estimates f64_one (operands_of (sheet_of s q) first count)
  unfolding operand_product
  product_all product i end h rest = ap (operand_product op estimates product) (sym (tabulate_end (operand_in s q.operands) i end h)) ∙ rest
