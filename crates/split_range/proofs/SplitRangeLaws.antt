-- An expression of an accepted sheet has at most as many conjuncts as there may be operands, since no operand's are counted twice. Assumes nothing.
use Prim.Native.Nat.{ℕ, zero, suc, ◌+◌, ◌-◌, ◌≤◌, ◌<◌, min}
use mathlib.Core.Path.{◌≡◌, refl, sym, ap, ◌∙◌, subst}
use mathlib.Core.Bool.{Bool, true, false, cond}
use mathlib.Core.List.{List}
use native.Mathlib.Omega.{arith}
use native.Mathlib.Nat.{add-zero}
use lib.Dec.{ltb}
use lib.ListN.{length, length-append}
use borrow.Author.Tests.{ltb-true, ltb-false, eq-eqb}
use Rattle.le.specs.Fields.{byte_at, u16_at}
use Rattle.layout.specs.Places.{operand_limit}
use Rattle.records.specs.Lists.{tabulate_from}
use Rattle.records.specs.Expressions.{expression_at}
use Rattle.records.specs.declared.expressions.NaryOp.{NaryOp}
use Rattle.records.specs.declared.expressions.NaryOp.TheVariants.{And, Or}
use Rattle.records.specs.declared.expressions.Expression.{Expression}
use Rattle.records.specs.declared.expressions.Expression.TheVariants.{Nary}
use Rattle.expression_rules.specs.Operands.{expression_place, is_nary, run_length, runs_before}
use Rattle.expression_rules.proofs.RunLaws.{runs_next}
use Rattle.sheet.specs.Order.{expressions_number, operands_number, section_at, sections_in}
use Rattle.sheet.specs.Check.{sheet_refusal}
use Rattle.sheet.specs.Sheet.{Sheet, sheet_in}
use Rattle.lawful.proofs.ExpressionLaws.{by_test}
use Rattle.lookup.specs.Lookup.{expression_of, operand_in}
use Rattle.lookup.specs.Recursion.{below}
use Rattle.lookup.proofs.LookupLaws.{expressions_length, expression_found, expression_missing, operands_length, operands_from}
use Rattle.split.specs.Conjuncts.{and_run, flattened, conjuncts_by, itself, conjuncts}
use Rattle.lookup.specs.declared.numbers.Run.{Run}
use Rattle.std.specs.Prelude.{Option, None, Some}
use Rattle.split.proofs.ConjunctLaws.{alone, apart, operand_below}
use Rattle.split_range.proofs.SumLaws.{sum, sum_rises, slots_most}
use Rattle.lawful.proofs.OperandLaws.{runs_rise}
use Rattle.split_range.proofs.SlotLaws.{follow, runs_within, slot_below, slot_once}

-- the conjuncts of the operands in m slots from the i-th on
flattened_sum : (c : ℕ → List ℕ) (f w : ℕ → ℕ) (i m : ℕ) → ((j : ℕ) → j < i + m → length (c (f j)) ≡ w (f j))
    → sum (λ (j : ℕ). w (f j)) i + length (flattened c (tabulate_from f i m)) ≤ sum (λ (j : ℕ). w (f j)) (i + m)
unfolding flattened tabulate_from sum
flattened_sum c f w i zero h = rw (add-zero i) (omega arith)
flattened_sum c f w i (suc m) h =
    let shift : i + suc m ≡ suc i + m = omega arith in
    let one : i + 1 ≡ suc i = omega arith in
    let rest = flattened_sum c f w (suc i) m (λ j l. h j (omega arith)) in
    let long = length-append (c (f i)) (flattened c (tabulate_from f (suc i) m)) in
    let here : length (c (f i)) ≡ w (f i) = h i (omega arith) in
    rw (shift, one) (omega arith)

module _ (s : List ℕ) (kept : sheet_refusal s ≡ 0) where
  abbrev x : ℕ
  x = section_at s expressions_number

  abbrev start : ℕ
  start = section_at s operands_number

  abbrev sheet : Sheet
  sheet = sheet_in s

  abbrev many : ℕ → ℕ
  many e = length (conjuncts sheet e)

  -- an And's conjuncts; 0 for any other expression
  abbrev of_run : Option Run → ℕ → ℕ
  of_run None n = 0
  of_run (Some run) n = n

  abbrev of_and : ℕ → ℕ
  of_and e = of_run (and_run (expression_of sheet e)) (many e)

  -- an And is one of the sheet's expressions and n-ary, with its own fields
  abbrev Fields : ℕ → Option Run → Type 0
  Fields e None = Unit {0}
  Fields e (Some run) =
      (e < u16_at s x) × ((is_nary s (expression_place x e) ≡ true) × ((run.first ≡ u16_at s (expression_place x e + 2)) × (run.count ≡ u16_at s (expression_place x e + 4))))

  fields_at : (e : ℕ) → e < u16_at s x → Fields e (and_run (expression_at s (expression_place x e)))
  unfolding expression_at
  fields_at e l =
      let at : ℕ = expression_place x e in
      let kind : ℕ = byte_at s at in
      let P : Expression → Type 0 = λ y. Fields e (and_run y) in
      by_test P kind 0 _ _ (λ h. tt)
      (by_test P kind 1 _ _ (λ h. tt)
      (by_test P kind 2 _ _ (λ h. tt)
      (by_test P kind 3 _ _ (λ h. tt)
      (by_test P kind 4 _ _ (λ h. by_test (λ (op : NaryOp). Fields e (and_run (Nary op (u16_at s (at + 2)) (u16_at s (at + 4))))) (byte_at s (at + 1)) 0 And Or (λ k. (l, (eq-eqb kind 4 h, (refl, refl)))) tt)
      (by_test P kind 5 _ _ (λ h. tt) tt)))))

  fields : (e : ℕ) → Fields e (and_run (expression_of sheet e))
  unfolding sheet_in sections_in
  fields e = go (ltb e (u16_at s x)) refl
    where
      long : u16_at s x ≡ length sheet.expressions
      long = expressions_length s (sections_in s)

      go : (t : Bool) → ltb e (u16_at s x) ≡ t → Fields e (and_run (expression_of sheet e))
      go true q =
          let l = ltb-true e (u16_at s x) q in
          subst (λ (y : Expression). Fields e (and_run y)) (expression_found s (sections_in s) e (subst (λ (n : ℕ). e < n) long l)) (fields_at e l)
      go false q = subst (λ (y : Expression). Fields e (and_run y)) (expression_missing s (sections_in s) e (subst (λ (n : ℕ). n ≤ e) long (ltb-false e (u16_at s x) q))) tt

  -- any other expression is its own one conjunct
  one : (o : ℕ) → many o ≤ suc (of_and o)
  one o = go (and_run (expression_of sheet o)) refl
    where
      go : (run : Option Run) → run ≡ and_run (expression_of sheet o) → many o ≤ suc (of_run run (many o))
      go None q =
          let a : 1 ≡ many o = ap length (alone sheet o (expression_of sheet o) None refl q refl) in
          omega arith
      go (Some run) q = omega arith

  abbrev slot : ℕ → ℕ
  slot i = operand_in s start i

  -- an And's conjuncts are those of the operands in its slots
  run_conjuncts_law : (n : ℕ) → n < u16_at s x → sum (λ (i : ℕ). many (slot i)) (runs_before s x n) + of_and n ≤ sum (λ (i : ℕ). many (slot i)) (runs_before s x (suc n))
  unfolding sheet_in sections_in
  run_conjuncts_law n l = go (and_run (expression_of sheet n)) refl (fields n)
    where
      h : ℕ → ℕ
      h i = many (slot i)

      c : ℕ → List ℕ
      c = below (conjuncts_by sheet) itself n

      go : (run : Option Run) → run ≡ and_run (expression_of sheet n) → Fields n run → sum h (runs_before s x n) + of_run run (many n) ≤ sum h (runs_before s x (suc n))
      go None q k =
          let r = sum_rises h (runs_before s x n) (runs_before s x (suc n)) (runs_rise s x n (suc n) (omega arith)) in
          omega arith
      go (Some run) q k =
          let at : ℕ = expression_place x n in
          let starts : run.first ≡ runs_before s x n = k.1.1.0 ∙ follow s kept n l k.1.0 in
          let counts : run_length s at ≡ run.count = ap (λ (t : Bool). cond t (u16_at s (at + 4)) 0) k.1.0 ∙ sym k.1.1.1 in
          let ends : run.first + run.count ≡ runs_before s x (suc n) = let r = runs_next s x n in omega arith in
          let within = (runs_within s kept n l).0 in
          let long : u16_at s start ≡ length sheet.operands = operands_length s (sections_in s) in
          let all : min (run.first + run.count) (length sheet.operands) - run.first ≡ run.count = omega arith in
          let is : flattened c (tabulate_from slot run.first run.count) ≡ conjuncts sheet n = ap (λ (m : ℕ). flattened c (tabulate_from slot run.first m)) (sym all) ∙ ap (flattened c) (sym (operands_from s (sections_in s) run.first run.count)) ∙ apart sheet n (expression_of sheet n) (Some run) refl q run refl in
          let most = flattened_sum c slot many run.first run.count (λ j m. ap length (sym (operand_below sheet n (slot j) (slot_below s kept n l j (subst (λ (r : ℕ). j < r) ends m))))) in
          let size : length (flattened c (tabulate_from slot run.first run.count)) ≡ many n = ap length is in
          let a = ap (sum h) starts in
          let b = ap (sum h) ends in
          omega arith

  conjuncts_most : (e : ℕ) → many e ≤ operand_limit
  conjuncts_most e = go (and_run (expression_of sheet e)) (fields e) (one e) most
    where
      shared : (o : ℕ) → (is_nary s (expression_place x o) ≡ true → ⊥) → (run : Option Run) → Fields o run → of_run run (many o) ≡ 0
      shared o never None k = refl
      shared o never (Some run) k = absurd (never k.1.0)

      most : e < u16_at s x → of_and e ≤ operand_limit
      most l =
          let w = (runs_within s kept e l).1 in
          let m = slots_most slot (runs_before s x) of_and many e (λ n h. run_conjuncts_law n (omega arith)) one (slot_below s kept e l) (λ i j h k q. shared (slot j) (slot_once s kept e l i j h k q) (and_run (expression_of sheet (slot j))) (fields (slot j))) in
          omega arith

      go : (run : Option Run) → Fields e run → many e ≤ suc (of_run run (many e)) → (e < u16_at s x → of_run run (many e) ≤ operand_limit) → many e ≤ operand_limit
      go None k a m = omega arith
      go (Some run) k a m = m k.0

-- So two bytes hold the number of conjuncts, and it and they, of two bytes each, fill at most 1,026.
pub accepted_split : (s : List ℕ) → sheet_refusal s ≡ 0 → (e : ℕ) → length (conjuncts (sheet_in s) e) ≤ operand_limit
accepted_split s kept e = conjuncts_most s kept e
