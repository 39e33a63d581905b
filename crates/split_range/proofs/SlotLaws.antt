-- The operands of an accepted sheet as slots: how many there are, what they name, and that no two name one n-ary expression. Assumes nothing.
use Prim.Native.Nat.{ℕ, suc, ◌+◌, ◌*◌, ◌≤◌, ◌<◌}
use mathlib.Core.Path.{◌≡◌, sym, ap, ◌∙◌}
use mathlib.Core.Bool.{Bool, true, cond, not, ◌&&◌, false≢true}
use mathlib.Core.List.{List}
use native.Mathlib.Omega.{arith}
use native.Mathlib.Nat.{lt_of_not-le}
use lib.Dec.{ltb, eqb}
use borrow.Author.Tests.{eq-eqb}
use Rattle.le.specs.Fields.{u16_at}
use Rattle.rules.specs.Rules.{ask, first_refusal}
use Rattle.rules.proofs.RuleLaws.{ask_kept, else_second, each_kept}
use Rattle.layout.specs.Fields.{whole}
use Rattle.expression_rules.specs.Operands.{expression_place, is_nary, runs_before, nary_of, RunsFollow, same_operand_refusal, shared_refusal, operand_refusal}
use Rattle.expression_rules.proofs.RunLaws.{Holds, owner_holds}
use Rattle.expression_rules.proofs.RoomLaws.{operand_below, runs_follow}
use Rattle.sheet.specs.Table.{section_of}
use Rattle.sheet.specs.Order.{expressions_number, operands_number, section_at}
use Rattle.sheet.specs.Check.{sheet_refusal}
use Rattle.sheet.specs.declared.order.Kind.TheVariants.{Operands}
use Rattle.sheet.proofs.AcceptedLaws.{accepted_within}
use Rattle.sheet.proofs.OwnerLaws.{accepted_expression, accepted_runs, accepted_operand}
use Rattle.lawful.proofs.OperandLaws.{runs_rise}
use Rattle.lookup.specs.Lookup.{operand_in}

-- an n-ary expression that operand j names is named by no operand before it
operand_once : (s : List ℕ) (x owner first i j : ℕ) → operand_refusal s x owner first j ≡ 0 → i < j → u16_at s (first + 2 * i) ≡ u16_at s (first + 2 * j) → is_nary s (expression_place x (u16_at s (first + 2 * j))) ≡ true → ⊥
unfolding operand_refusal shared_refusal same_operand_refusal
operand_once s x owner first i j e l same nary =
    let o : ℕ = u16_at s (first + 2 * j) in
    let shared = else_second (ask (ltb o (u16_at s x) && ltb o owner) 8) _ (else_second (whole 2 s (first + 2 * j)) _ e) in
    let none : first_refusal (same_operand_refusal s first o) 0 j ≡ 0 = ap (λ (t : Bool). cond t (first_refusal (same_operand_refusal s first o) 0 j) 0) (sym nary) ∙ shared in
    let other = ask_kept (not (eqb (u16_at s (first + 2 * i)) o)) 9 (omega arith) (each_kept (same_operand_refusal s first o) j none i l) in
    false≢true (ap not (sym (eq-eqb (u16_at s (first + 2 * i)) o same)) ∙ other)

module _ (s : List ℕ) (kept : sheet_refusal s ≡ 0) where
  abbrev x : ℕ
  x = section_at s expressions_number

  abbrev start : ℕ
  start = section_at s operands_number

  pub follow : RunsFollow s x
  follow = runs_follow s x (accepted_expression s kept)

  most : u16_at s start ≤ (section_of Operands).most
  most = (accepted_within s kept operands_number (omega arith)).1

  module _ (e : ℕ) (l : e < u16_at s x) where
    pub runs_within : (runs_before s x (suc e) ≤ u16_at s start) × (runs_before s x (suc e) ≤ (section_of Operands).most)
    runs_within =
        let rise : runs_before s x (suc e) ≤ runs_before s x (u16_at s x) = runs_rise s x (suc e) (u16_at s x) l in
        let n = accepted_runs s kept in
        let m = most in
        (omega arith, omega arith)

    -- a slot before the end of e's run names an expression below e
    pub slot_below : (i : ℕ) → i < runs_before s x (suc e) → operand_in s start i < e
    slot_below i h =
        let o : ℕ = nary_of s x i in
        let n = accepted_runs s kept in
        let w = runs_within in
        let holds : Holds s x i o = owner_holds s x i follow (omega arith) in
        let starts : u16_at s (expression_place x o + 2) ≡ runs_before s x o = follow o holds.0 holds.1.0 in
        let not_behind : suc e ≤ o → ⊥ = λ q. let r = runs_rise s x (suc e) o q in let a = holds.1.1.0 in omega arith in
        let owner : o < suc e = lt_of_not-le not_behind in
        let below = (operand_below s x o (start + 2) i (accepted_operand s kept i (omega arith))).1 in
        omega arith

    pub slot_once : (i j : ℕ) → i < j → j < runs_before s x (suc e) → operand_in s start i ≡ operand_in s start j → is_nary s (expression_place x (operand_in s start j)) ≡ true → ⊥
    slot_once i j h k q nary =
        let w = runs_within in
        operand_once s x (nary_of s x j) (start + 2) i j (accepted_operand s kept j (omega arith)) h q nary
