-- When a sheet's operands are judged, its expressions and the operands' count have been. Then operand i stands in the run of the expression that `nary_of` names, whether the sheet is accepted in the end or not. Assumes nothing.
use Prim.Native.Nat.{ℕ, ◌+◌, ◌<◌}
use mathlib.Core.Path.{◌≡◌, refl, sym, ap, ◌∙◌, subst}
use mathlib.Core.Bool.{Bool, true, false, cond, false≢true}
use mathlib.Core.List.{List}
use native.Mathlib.Omega.{arith}
use lib.Dec.{eqb}
use lib.ListN.{get_or, set}
use borrow.Author.Tests.{eqb-true}
use Rattle.le.specs.Fields.{u16_at}
use Rattle.layout.specs.Places.{count_size, expression_size}
use Rattle.rules.specs.Rules.{ask}
use Rattle.rules.proofs.RuleLaws.{ask_kept, else_second, each_kept}
use Rattle.layout.specs.Fields.{whole}
use Rattle.expression_rules.specs.Expressions.{expression_refusal}
use Rattle.expression_rules.specs.Operands.{expression_place, runs_before, nary_of, RunsFollow, fill_refusal, operand_refusal}
use Rattle.expression_rules.proofs.RunLaws.{Holds, owner_holds}
use Rattle.expression_rules.proofs.RoomLaws.{runs_follow}
use Rattle.sheet.specs.Table.{section_of}
use Rattle.sheet.specs.Order.{kind_at, rows_number, settings_number, sketches_number, tables_number, keys_number, left_columns_number, right_columns_number, left_classes_number, right_classes_number, expressions_number, operands_number, section_at}
use Rattle.sheet.specs.Check.{refusal_in, sheet_refusal}
use Rattle.sheet.specs.Rules.{count_within, count_refusal, record_refusal, records_refusal, section_refusal}
use Rattle.sheet.specs.Walk.{RunsKnown}
use Rattle.sheet.specs.declared.order.Kind.{Kind}
use Rattle.sheet.specs.declared.order.Kind.TheVariants.{Rows, Settings, Sketches, Tables, Keys, Columns, Classes, Expressions, Operands, Conjuncts}
use Rattle.sheet.specs.declared.table.Tally.{Tally}
use Rattle.sheet.specs.declared.table.Tally.TheVariants.{Nothing, Items, Runs, Owner}
use Rattle.sheet.proofs.PlaceLaws.{fixed_place, expressions_fixed, starts_before}
use Rattle.sheet.proofs.AcceptedLaws.{accepted_section, accepted_count, accepted_record}

module _ (s : List ℕ) (sketches x start : ℕ) where
  expressions_kept : section_refusal Expressions s sketches x x ≡ 0 → (e : ℕ) → e < u16_at s x → expression_refusal s (runs_before s x e) e (expression_place x e) ≡ 0
  unfolding section_refusal record_refusal
  expressions_kept k e l =
      ap (expression_refusal s (runs_before s x e) e) (sym (fixed_place Expressions expression_size expressions_fixed s x e))
      ∙ each_kept (records_refusal Expressions s sketches x x) (u16_at s x) (else_second (count_refusal Expressions s x x) _ k) e l

  runs_filled : count_refusal Operands s x start ≡ 0 → u16_at s start ≡ runs_before s x (u16_at s x)
  unfolding count_refusal fill_refusal
  runs_filled k =
      let n : ℕ = u16_at s start in
      let within = else_second (whole count_size s start) _ k in
      let fill = else_second (ask (count_within Operands n) 3) _ within in
      eqb-true n (runs_before s x (u16_at s x)) (ask_kept (eqb n (runs_before s x (u16_at s x))) 9 (omega arith) fill)

  runs_kept : section_refusal Expressions s sketches x x ≡ 0 → RunsFollow s x
  runs_kept k = runs_follow s x (expressions_kept k)

  -- the expressions' count stands at x, that of the operands at start
  pub operand_owner : section_refusal Expressions s sketches x x ≡ 0 → count_refusal Operands s x start ≡ 0 → (i : ℕ) → i < u16_at s start → Holds s x i (nary_of s x i)
  operand_owner k c i l = owner_holds s x i (runs_kept k) (subst (λ (n : ℕ). i < n) (runs_filled c) l)

-- ---- the expressions have been judged before the operands

is_owner : Tally → Bool
is_owner Nothing = false
is_owner Items = false
is_owner Runs = false
is_owner Owner = true

operands_number_law : (k : ℕ) → (section_of (kind_at k)).tally ≡ Owner → k ≡ operands_number
unfolding is_owner
operands_number_law k e =
    eqb-true k operands_number (last (eqb k operands_number)
    (past (eqb k expressions_number) Expressions _ refl
    (past (eqb k right_classes_number) Classes _ refl
    (past (eqb k left_classes_number) Classes _ refl
    (past (eqb k right_columns_number) Columns _ refl
    (past (eqb k left_columns_number) Columns _ refl
    (past (eqb k keys_number) Keys _ refl
    (past (eqb k tables_number) Tables _ refl
    (past (eqb k sketches_number) Sketches _ refl
    (past (eqb k settings_number) Settings _ refl
    (past (eqb k rows_number) Rows _ refl e)))))))))))
  where
    past : (b : Bool) (x y : Kind) → is_owner (section_of x).tally ≡ false → (section_of (cond b x y)).tally ≡ Owner → (section_of y).tally ≡ Owner
    past true x y h e = absurd (false≢true (sym h ∙ ap is_owner e))
    past false x y h e = e

    last : (b : Bool) → (section_of (cond b Operands Conjuncts)).tally ≡ Owner → b ≡ true
    last true e = refl
    last false e = absurd (false≢true (ap is_owner e))

starts_expressions : (s : List ℕ) (at : ℕ) → get_or (set (starts_before s operands_number) operands_number at) expressions_number 0 ≡ section_at s expressions_number
unfolding starts_before
starts_expressions s at = refl

follow_kept : (s : List ℕ) → refusal_in s expressions_number ≡ 0 → RunsFollow s (section_at s expressions_number)
unfolding refusal_in
follow_kept s h = runs_kept s (section_at s sketches_number) (section_at s expressions_number) (section_at s expressions_number) h

-- section k, by the starts noted so far, where those before it are kept
pub runs_known : (s starts : List ℕ) (at k : ℕ) (kind : Kind) → starts ≡ starts_before s k → kind ≡ kind_at k → ((j : ℕ) → j < k → refusal_in s j ≡ 0) → RunsKnown kind s (get_or (set starts k at) expressions_number 0)
runs_known s starts at k kind a e kept is =
    let here : k ≡ operands_number = operands_number_law k (ap (λ (x : Kind). (section_of x).tally) (sym e) ∙ is) in
    let before : refusal_in s expressions_number ≡ 0 = kept expressions_number (omega arith) in
    let there : get_or (set starts k at) expressions_number 0 ≡ section_at s expressions_number = (λ i. get_or (set ((a ∙ ap (starts_before s) here) i) (here i) at) expressions_number 0) ∙ starts_expressions s at in
    subst (λ (x : ℕ). RunsFollow s x) (sym there) (follow_kept s before)

-- ---- of an accepted sheet

module _ (s : List ℕ) (kept : sheet_refusal s ≡ 0) where
  pub accepted_expression : (e : ℕ) → e < u16_at s (section_at s expressions_number) → expression_refusal s (runs_before s (section_at s expressions_number) e) e (expression_place (section_at s expressions_number) e) ≡ 0
  unfolding refusal_in
  accepted_expression = expressions_kept s (section_at s sketches_number) (section_at s expressions_number) (section_at s operands_number) (accepted_section s kept expressions_number (omega arith))

  pub accepted_runs : u16_at s (section_at s operands_number) ≡ runs_before s (section_at s expressions_number) (u16_at s (section_at s expressions_number))
  accepted_runs = runs_filled s (section_at s sketches_number) (section_at s expressions_number) (section_at s operands_number) (accepted_count s kept operands_number (omega arith))

  pub accepted_operand : (i : ℕ) → i < u16_at s (section_at s operands_number) → operand_refusal s (section_at s expressions_number) (nary_of s (section_at s expressions_number) i) (section_at s operands_number + count_size) i ≡ 0
  unfolding record_refusal
  accepted_operand i l = accepted_record s kept operands_number (omega arith) i l
