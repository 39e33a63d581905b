-- Runs of operands whose rules are kept are lawful. Assumes nothing.
use Prim.Native.Nat.{ℕ, zero, suc, ◌+◌, ◌-◌, ◌≤◌, ◌<◌}
use mathlib.Core.Path.{◌≡◌, sym, ap, ◌∙◌, subst}
use mathlib.Core.Bool.{Bool, cond}
use mathlib.Core.List.{List}
use native.Mathlib.Omega.{arith}
use native.Mathlib.Nat.{add-zero, add-suc, lt_of_not-le}
use borrow.Author.Tests.{eq-eqb}
use Rattle.le.specs.Fields.{byte_at, u16_at}
use Rattle.records.specs.Expressions.{expression_at}
use Rattle.records.specs.declared.expressions.NaryOp.{NaryOp}
use Rattle.records.specs.declared.expressions.Expression.{Expression}
use Rattle.records.specs.declared.expressions.Expression.TheVariants.{Literal, ColumnRef, Unary, Binary, Nary, Like, Other}
use Rattle.expression_rules.specs.Expressions.{expression_refusal}
use Rattle.expression_rules.specs.Operands.{expression_place, run_length, runs_before, nary_of, operand_refusal}
use Rattle.expression_rules.proofs.RunLaws.{Holds, runs_next, owner_holds}
use Rattle.expression_rules.proofs.RoomLaws.{operand_below, run_start, runs_follow}
use Rattle.sheet.specs.Sheet.{records_in}
use Rattle.sheet.specs.declared.order.Kind.TheVariants.{Operands}
use Rattle.sheet.proofs.PlaceLaws.{operands_fixed}
use Rattle.sheet.proofs.SheetLaws.{records_length, fixed_record_at}
use Rattle.lawful.specs.Lawful.{LawfulRun}
use Rattle.lawful.proofs.ExpressionLaws.{by_test}

runs_grow : (s : List ℕ) (x m k : ℕ) → runs_before s x m ≤ runs_before s x (m + k)
runs_grow s x m zero = rw add-zero (omega arith)
runs_grow s x m (suc k) =
    let rest : runs_before s x m ≤ runs_before s x (m + k) = runs_grow s x m k in
    let next : runs_before s x (m + suc k) ≡ runs_before s x (m + k) + run_length s (expression_place x (m + k)) = ap (runs_before s x) (add-suc m k) ∙ runs_next s x (m + k) in
    omega arith

pub runs_rise : (s : List ℕ) (x m n : ℕ) → m ≤ n → runs_before s x m ≤ runs_before s x n
runs_rise s x m n l =
    let e : m + (n - m) ≡ n = omega arith in
    subst (λ (k : ℕ). runs_before s x m ≤ runs_before s x k) e (runs_grow s x m (n - m))

-- the expressions' count stands at x, that of the operands at start
module _
    (s : List ℕ)
    (x start : ℕ)
    (expressions : (e : ℕ) → e < u16_at s x → expression_refusal s (runs_before s x e) e (expression_place x e) ≡ 0)
    (filled : u16_at s start ≡ runs_before s x (u16_at s x))
    (operands : (i : ℕ) → i < u16_at s start → operand_refusal s x (nary_of s x i) (start + 2) i ≡ 0)
  where
    abbrev first : ℕ → ℕ
    first e = u16_at s (expression_place x e + 2)

    abbrev count : ℕ → ℕ
    count e = u16_at s (expression_place x e + 4)

    -- a run ends where the next starts
    run_end : (e : ℕ) → e < u16_at s x → byte_at s (expression_place x e) ≡ 4 → first e + count e ≡ runs_before s x (suc e)
    run_end e l k =
        let at : ℕ = expression_place x e in
        let a : first e ≡ runs_before s x e = run_start s (runs_before s x e) e at (expressions e l) k in
        let b : run_length s at ≡ count e = ap (λ (t : Bool). cond t (count e) 0) (eq-eqb (byte_at s at) 4 k) in
        let n = runs_next s x e in
        omega arith

    -- an operand before the end of e's run belongs to no expression behind e
    owner_before_law : (e : ℕ) → e < u16_at s x → byte_at s (expression_place x e) ≡ 4 → (i : ℕ) → i < first e + count e → i < u16_at s start → nary_of s x i ≤ e
    owner_before_law e l k i h w =
        let o : ℕ = nary_of s x i in
        let holds : Holds s x i o = owner_holds s x i (runs_follow s x expressions) (subst (λ (n : ℕ). i < n) filled w) in
        let starts : first o ≡ runs_before s x o = runs_follow s x expressions o holds.0 holds.1.0 in
        let last = run_end e l k in
        let no : suc e ≤ o → ⊥ = λ q. let r = runs_rise s x (suc e) o q in let a = holds.1.1.0 in omega arith in
        let less : o < suc e = lt_of_not-le no in
        omega arith

    run_lawful : (e : ℕ) → e < u16_at s x → byte_at s (expression_place x e) ≡ 4 → LawfulRun (records_in Operands u16_at s start) e (first e) (count e)
    run_lawful e l k =
        let last = run_end e l k in
        let rise : runs_before s x (suc e) ≤ runs_before s x (u16_at s x) = runs_rise s x (suc e) (u16_at s x) l in
        let long = records_length Operands u16_at s start in
        record {
          within = omega arith;
          below = λ i h.
              let j : ℕ = first e + i in
              let w : first e + i < u16_at s start = omega arith in
              let v = (operand_below s x (nary_of s x j) (start + 2) j (operands j w)).1 in
              let o = owner_before_law e l k j (omega arith) w in
              subst (λ (n : ℕ). n < e) (sym (fixed_record_at Operands u16_at s start 2 operands_fixed j 0 w)) (omega arith);
        }

    -- the run of an n-ary expression, and of any other nothing
    abbrev Run : ℕ → Expression → Type 0
    Run e (Literal y) = Unit {0}
    Run e (ColumnRef column) = Unit {0}
    Run e (Unary op expr) = Unit {0}
    Run e (Binary op left right) = Unit {0}
    Run e (Nary op first count) = LawfulRun (records_in Operands u16_at s start) e first count
    Run e Like = Unit {0}
    Run e Other = Unit {0}

    pub operands_lawful : (e : ℕ) → e < u16_at s x → (op : NaryOp) (first count : ℕ) → expression_at s (expression_place x e) ≡ Nary op first count → LawfulRun (records_in Operands u16_at s start) e first count
    unfolding expression_at
    operands_lawful e l op first count q =
        let kind : ℕ = byte_at s (expression_place x e) in
        subst (Run e) q
        (by_test (Run e) kind 0 _ _ (λ h. tt)
        (by_test (Run e) kind 1 _ _ (λ h. tt)
        (by_test (Run e) kind 2 _ _ (λ h. tt)
        (by_test (Run e) kind 3 _ _ (λ h. tt)
        (by_test (Run e) kind 4 _ _ (run_lawful e l)
        (by_test (Run e) kind 5 _ _ (λ h. tt) tt))))))
