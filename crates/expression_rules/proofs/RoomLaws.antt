-- What a record that breaks no rule gives: it is there whole, and the numbers in it name what there is. Assumes nothing.
use Prim.Native.Nat.{ℕ, ◌+◌, ◌*◌, ◌≤◌, ◌<◌}
use mathlib.Core.Path.{◌≡◌, subst}
use mathlib.Core.Bool.{◌&&◌}
use mathlib.Core.List.{List}
use native.Mathlib.Omega.{arith}
use lib.Dec.{leb, ltb, eqb}
use lib.ListN.{length}
use borrow.Author.Tests.{ltb-true, eqb-true}
use Rattle.le.specs.Fields.{byte_at, u16_at}
use Rattle.rules.specs.Rules.{ask}
use Rattle.rules.proofs.RuleLaws.{ask_kept, both_first, both_second, else_first, else_second}
use Rattle.layout.specs.Fields.{whole}
use Rattle.layout.proofs.LayoutLaws.{whole_room}
use Rattle.expression_rules.specs.Expressions.{last_op, first_field_refusal, expression_refusal}
use Rattle.expression_rules.specs.Operands.{expression_place, runs_before, RunsFollow, operand_refusal, conjunct_refusal}

-- ---- a record is there whole

pub expression_room : (s : List ℕ) (run i at : ℕ) → expression_refusal s run i at ≡ 0 → at + 25 ≤ length s
unfolding expression_refusal
expression_room s run i at e = whole_room 25 s at (omega arith) (else_first (whole 25 s at) _ e)

pub operand_room : (s : List ℕ) (x owner first i : ℕ) → operand_refusal s x owner first i ≡ 0 → first + 2 * i + 2 ≤ length s
unfolding operand_refusal
operand_room s x owner first i e = whole_room 2 s (first + 2 * i) (omega arith) (else_first (whole 2 s (first + 2 * i)) _ e)

pub conjunct_room : (s : List ℕ) (x at : ℕ) → conjunct_refusal s x at ≡ 0 → at + 2 ≤ length s
unfolding conjunct_refusal
conjunct_room s x at e = whole_room 2 s at (omega arith) (else_first (whole 2 s at) _ e)

-- ---- what a record names

pub operand_below : (s : List ℕ) (x owner first i : ℕ) → operand_refusal s x owner first i ≡ 0 → (u16_at s (first + 2 * i) < u16_at s x) × (u16_at s (first + 2 * i) < owner)
unfolding operand_refusal
operand_below s x owner first i e =
    let o : ℕ = u16_at s (first + 2 * i) in
    let below = else_first _ _ (else_second (whole 2 s (first + 2 * i)) _ e) in
    let both = ask_kept (ltb o (u16_at s x) && ltb o owner) 8 (omega arith) below in
    (ltb-true o (u16_at s x) (both_first (ltb o (u16_at s x)) (ltb o owner) both), ltb-true o owner (both_second (ltb o (u16_at s x)) (ltb o owner) both))

pub conjunct_below : (s : List ℕ) (x at : ℕ) → conjunct_refusal s x at ≡ 0 → u16_at s at < u16_at s x
unfolding conjunct_refusal
conjunct_below s x at e = ltb-true (u16_at s at) (u16_at s x) (ask_kept _ 8 (omega arith) (else_second (whole 2 s at) _ e))

-- field a of an expression of kind k
first_kept : (s : List ℕ) (run i at k : ℕ) → expression_refusal s run i at ≡ 0 → byte_at s at ≡ k → first_field_refusal k i run (u16_at s (at + 2)) ≡ 0
unfolding expression_refusal
first_kept s run i at k e h =
    let kind : ℕ = byte_at s at in
    let a : ℕ = u16_at s (at + 2) in
    let op = else_second (ask (leb kind 6) 6) _ (else_second (whole 25 s at) _ e) in
    let fields = else_second (ask (leb (byte_at s (at + 1)) (last_op kind)) 6) _ op in
    subst (λ (t : ℕ). first_field_refusal t i run a ≡ 0) h (else_first (first_field_refusal kind i run a) _ fields)

pub column_ref_below : (s : List ℕ) (run i at : ℕ) → expression_refusal s run i at ≡ 0 → byte_at s at ≡ 1 → u16_at s (at + 2) < 128
unfolding first_field_refusal
column_ref_below s run i at e k =
    let a : ℕ = u16_at s (at + 2) in
    ltb-true a 128 (ask_kept (ltb a 128) 7 (omega arith) (first_kept s run i at 1 e k))

pub run_start : (s : List ℕ) (run i at : ℕ) → expression_refusal s run i at ≡ 0 → byte_at s at ≡ 4 → u16_at s (at + 2) ≡ run
unfolding first_field_refusal
run_start s run i at e k =
    let a : ℕ = u16_at s (at + 2) in
    eqb-true a run (ask_kept (eqb a run) 9 (omega arith) (first_kept s run i at 4 e k))

-- Where every expression keeps the rules, the runs follow each other.
pub runs_follow : (s : List ℕ) (x : ℕ) → ((e : ℕ) → e < u16_at s x → expression_refusal s (runs_before s x e) e (expression_place x e) ≡ 0) → RunsFollow s x
runs_follow s x kept e l h =
    let at : ℕ = expression_place x e in
    run_start s (runs_before s x e) e at (kept e l) (eqb-true (byte_at s at) 4 h)
