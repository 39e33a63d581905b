-- That the join's equality pairs are the equating conjuncts of the claim, and that every accepted sheet is `Kept`, whatever its numbers. Assumes nothing.
use Prim.Native.Nat.{ℕ, zero, suc, ◌<◌, ◌≤◌}
use mathlib.Core.Path.{◌≡◌, refl, sym, ap, subst}
use mathlib.Core.Logic.{◌↔◌, ⊎_elim}
use mathlib.Core.Bool.{Bool, true, false}
use mathlib.Core.List.{List, [], ◌∷◌, Memᴰ}
use native.Mathlib.Omega.{arith}
use lib.ListN.{length, get_or}
use Rattle.le.specs.Fields.{byte_at}
use Rattle.records.specs.Expressions.{expression_at}
use Rattle.records.specs.declared.expressions.BinaryOp.{BinaryOp}
use Rattle.records.specs.declared.expressions.BinaryOp.TheVariants.{Eq, IsNotDistinctFrom, NotEq, Lt, LtEq, Gt, GtEq, Add, Subtract, Multiply, Divide}
use Rattle.records.specs.declared.expressions.Expression.{Expression}
use Rattle.records.specs.declared.expressions.Expression.TheVariants.{Literal, ColumnRef, Unary, Binary, Nary, Like, Other}
use Rattle.expression_rules.specs.Expressions.{expression_refusal}
use Rattle.expression_rules.proofs.RoomLaws.{column_ref_below}
use Rattle.sheet.specs.Order.{expressions_number, section_at}
use Rattle.sheet.specs.Rules.{record_refusal}
use Rattle.sheet.specs.Check.{sheet_refusal}
use Rattle.sheet.specs.Sheet.{Sheet, records_in, sheet_in, conjuncts_in}
use Rattle.sheet.specs.declared.order.Kind.TheVariants.{Expressions}
use Rattle.sheet.proofs.AcceptedLaws.{accepted_record}
use Rattle.lawful.specs.Lawful.{Each}
use Rattle.lawful.proofs.EachLaws.{each_record}
use Rattle.lawful.proofs.ExpressionLaws.{by_test}
use Rattle.lawful.proofs.LawfulLaws.{left_classes_law, right_classes_law, conjunct_count_law}
use Rattle.lookup.specs.Lookup.{expression_of}
use Rattle.parts.specs.Parts.{column_ref, is_null_safe, both_columns, column_equality_from_parts, equality_in, column_equality}
use Rattle.parts.specs.declared.equalities.EqualColumns.{EqualColumns}
use Rattle.std.specs.Prelude.{Option, None, Some, option_map, option_to_list}
use Rattle.equality_pairs.specs.Pairs.{null_safe_in, pair_of, equality_pair, equality_pairs}
use Rattle.equality_pairs.specs.declared.pairs.EqualityPair.{EqualityPair}
use Rattle.demand.specs.Claim.{op_of, Join, Equates}
use Rattle.demand.specs.Demand.{join_in}
use Rattle.demand.proofs.Kept.{Kept}

-- ---- the pairs are the equating conjuncts

-- an expression that equates the columns of a pair
record Reads (sheet : Sheet) (x : Expression) (p : EqualityPair) : Type 0 where
  left : ℕ
  right : ℕ
  binary : x ≡ Binary (op_of p.null_safe) left right
  left_column : expression_of sheet left ≡ ColumnRef p.left
  right_column : expression_of sheet right ≡ ColumnRef p.right

-- its operator and its children
abbrev Parts : BinaryOp → Expression → Expression → EqualityPair → Type 0
Parts op l r p = (op ≡ op_of p.null_safe) × (l ≡ ColumnRef p.left) × (r ≡ ColumnRef p.right)

-- one, or none
abbrev pair_list : Bool → Option EqualColumns → List EqualityPair
pair_list null_safe columns = option_to_list (option_map (pair_of null_safe) columns)

columns_read : (null_safe : Bool) (l r : Expression) (p : EqualityPair) → Memᴰ p (pair_list null_safe (both_columns (column_ref l) (column_ref r))) → Parts (op_of null_safe) l r p
columns_read null_safe (Literal value) r p m = absurd (mathlib.Core.List.Memᴰ.not-nil m)
columns_read null_safe (Unary op expr) r p m = absurd (mathlib.Core.List.Memᴰ.not-nil m)
columns_read null_safe (Binary op left right) r p m = absurd (mathlib.Core.List.Memᴰ.not-nil m)
columns_read null_safe (Nary op first count) r p m = absurd (mathlib.Core.List.Memᴰ.not-nil m)
columns_read null_safe Like r p m = absurd (mathlib.Core.List.Memᴰ.not-nil m)
columns_read null_safe Other r p m = absurd (mathlib.Core.List.Memᴰ.not-nil m)
columns_read null_safe (ColumnRef a) (Literal value) p m = absurd (mathlib.Core.List.Memᴰ.not-nil m)
columns_read null_safe (ColumnRef a) (Unary op expr) p m = absurd (mathlib.Core.List.Memᴰ.not-nil m)
columns_read null_safe (ColumnRef a) (Binary op left right) p m = absurd (mathlib.Core.List.Memᴰ.not-nil m)
columns_read null_safe (ColumnRef a) (Nary op first count) p m = absurd (mathlib.Core.List.Memᴰ.not-nil m)
columns_read null_safe (ColumnRef a) Like p m = absurd (mathlib.Core.List.Memᴰ.not-nil m)
columns_read null_safe (ColumnRef a) Other p m = absurd (mathlib.Core.List.Memᴰ.not-nil m)
columns_read null_safe (ColumnRef a) (ColumnRef b) p m =
    let e : record { left = a; right = b; null_safe = null_safe } ≡ p = sym (mathlib.Core.List.Memᴰ.eq_of_singleton m) in
    (ap (λ (q : EqualityPair). op_of q.null_safe) e, ap (λ (q : EqualityPair). ColumnRef q.left) e, ap (λ (q : EqualityPair). ColumnRef q.right) e)

parts_read : (op : BinaryOp) (l r : Expression) (p : EqualityPair) → Memᴰ p (pair_list (is_null_safe op) (column_equality_from_parts op l r)) → Parts op l r p
unfolding column_equality_from_parts
parts_read Eq l r p m = columns_read false l r p m
parts_read IsNotDistinctFrom l r p m = columns_read true l r p m
parts_read NotEq l r p m = absurd (mathlib.Core.List.Memᴰ.not-nil m)
parts_read Lt l r p m = absurd (mathlib.Core.List.Memᴰ.not-nil m)
parts_read LtEq l r p m = absurd (mathlib.Core.List.Memᴰ.not-nil m)
parts_read Gt l r p m = absurd (mathlib.Core.List.Memᴰ.not-nil m)
parts_read GtEq l r p m = absurd (mathlib.Core.List.Memᴰ.not-nil m)
parts_read Add l r p m = absurd (mathlib.Core.List.Memᴰ.not-nil m)
parts_read Subtract l r p m = absurd (mathlib.Core.List.Memᴰ.not-nil m)
parts_read Multiply l r p m = absurd (mathlib.Core.List.Memᴰ.not-nil m)
parts_read Divide l r p m = absurd (mathlib.Core.List.Memᴰ.not-nil m)

equality_read : (sheet : Sheet) (x : Expression) (p : EqualityPair) → Memᴰ p (pair_list (null_safe_in x) (equality_in sheet x)) → Reads sheet x p
equality_read sheet (Literal value) p m = absurd (mathlib.Core.List.Memᴰ.not-nil m)
equality_read sheet (ColumnRef column) p m = absurd (mathlib.Core.List.Memᴰ.not-nil m)
equality_read sheet (Unary op expr) p m = absurd (mathlib.Core.List.Memᴰ.not-nil m)
equality_read sheet (Nary op first count) p m = absurd (mathlib.Core.List.Memᴰ.not-nil m)
equality_read sheet Like p m = absurd (mathlib.Core.List.Memᴰ.not-nil m)
equality_read sheet Other p m = absurd (mathlib.Core.List.Memᴰ.not-nil m)
equality_read sheet (Binary op left right) p m =
    let h = parts_read op (expression_of sheet left) (expression_of sheet right) p m in
    record { left = left; right = right; binary = ap (λ (o : BinaryOp). Binary o left right) h.0; left_column = h.1; right_column = h.2 }

parts_given : (p : EqualityPair) (op : BinaryOp) (l r : Expression) → Parts op l r p → Memᴰ p (pair_list (is_null_safe op) (column_equality_from_parts op l r))
unfolding column_equality_from_parts
parts_given p op l r (e, f, g) = rw (e, f, g) (given p.null_safe)
  where
    given : (t : Bool) → Memᴰ (record { left = p.left; right = p.right; null_safe = t }) (pair_list (is_null_safe (op_of t)) (column_equality_from_parts (op_of t) (ColumnRef p.left) (ColumnRef p.right)))
    given true = mathlib.Core.List.Memᴰ.head refl
    given false = mathlib.Core.List.Memᴰ.head refl

equality_given : (sheet : Sheet) (x : Expression) (p : EqualityPair) → Reads sheet x p → Memᴰ p (pair_list (null_safe_in x) (equality_in sheet x))
equality_given sheet x p h =
    subst (λ (y : Expression). Memᴰ p (pair_list (null_safe_in y) (equality_in sheet y))) (sym h.binary)
    (parts_given p (op_of p.null_safe) (expression_of sheet h.left) (expression_of sheet h.right) (refl, h.left_column, h.right_column))

pair_from : (sheet : Sheet) (es : List ℕ) (p : EqualityPair) → Memᴰ p (equality_pairs sheet es) → (e : ℕ) × Memᴰ e es × Reads sheet (expression_of sheet e) p
unfolding equality_pairs equality_pair column_equality
pair_from sheet [] p m = absurd (mathlib.Core.List.Memᴰ.not-nil m)
pair_from sheet (e ∷ es) p m =
    ⊎_elim (λ (k : Memᴰ p (option_to_list (equality_pair sheet e))). (e, mathlib.Core.List.Memᴰ.head refl, equality_read sheet (expression_of sheet e) p k))
    (λ (k : Memᴰ p (equality_pairs sheet es)). let r = pair_from sheet es p k in (r.0, mathlib.Core.List.Memᴰ.tail r.1, r.2))
    (mathlib.Core.List.Memᴰ.append_cases (option_to_list (equality_pair sheet e)) m)

pair_to : (sheet : Sheet) (es : List ℕ) (p : EqualityPair) (e : ℕ) → Memᴰ e es → Reads sheet (expression_of sheet e) p → Memᴰ p (equality_pairs sheet es)
unfolding equality_pairs equality_pair column_equality
pair_to sheet [] p e m h = absurd (mathlib.Core.List.Memᴰ.not-nil m)
pair_to sheet (d ∷ es) p e m h =
    ⊎_elim (λ (q : e ≡ d). mathlib.Core.List.Memᴰ.append_left (equality_pairs sheet es) (subst (λ (c : ℕ). Memᴰ p (option_to_list (equality_pair sheet c))) q (equality_given sheet (expression_of sheet e) p h)))
    (λ (k : Memᴰ e es). mathlib.Core.List.Memᴰ.append_right (option_to_list (equality_pair sheet d)) (pair_to sheet es p e k h))
    (mathlib.Core.List.Memᴰ.cases_cons m)

pub pairs_law : (join : Join) (p : EqualityPair) → Memᴰ p (equality_pairs join.sheet join.conjuncts) ↔ Equates join p.left p.right p.null_safe
pairs_law join p = (
  λ m. let r = pair_from join.sheet join.conjuncts p m in record { conjunct = r.0; stands = r.1; left = r.2.left; right = r.2.right; binary = r.2.binary; left_column = r.2.left_column; right_column = r.2.right_column },
  λ h. pair_to join.sheet join.conjuncts p h.conjunct h.stands record { left = h.left; right = h.right; binary = h.binary; left_column = h.left_column; right_column = h.right_column },
)

-- ---- what acceptance gives

-- no column, or one below 128
abbrev NoneOrBelow : Option ℕ → Type 0
NoneOrBelow None = Unit {0}
NoneOrBelow (Some column) = column < 128

abbrev ColumnBelow : Expression → Type 0
ColumnBelow x = NoneOrBelow (column_ref x)

expression_below : (s : List ℕ) (run i at : ℕ) → expression_refusal s run i at ≡ 0 → ColumnBelow (expression_at s at)
unfolding expression_at
expression_below s run i at e =
    let kind : ℕ = byte_at s at in
    by_test ColumnBelow kind 0 _ _ (λ h. tt)
    (by_test ColumnBelow kind 1 _ _ (column_ref_below s run i at e)
    (by_test ColumnBelow kind 2 _ _ (λ h. tt)
    (by_test ColumnBelow kind 3 _ _ (λ h. tt)
    (by_test ColumnBelow kind 4 _ _ (λ h. tt)
    (by_test ColumnBelow kind 5 _ _ (λ h. tt) tt)))))

-- past the end too
each_or : {A : Type 0} (P : A → Type 0) (l : List A) (d : A) → Each P l → P d → (i : ℕ) → P (get_or l i d)
each_or P [] d h p i = p
each_or P (x ∷ xs) d h p zero = h x (mathlib.Core.List.Memᴰ.head refl)
each_or P (x ∷ xs) d h p (suc i) = each_or P xs d (λ y m. h y (mathlib.Core.List.Memᴰ.tail m)) p i

module _ (s : List ℕ) (accepted : sheet_refusal s ≡ 0) where
  expressions : Each ColumnBelow (records_in Expressions expression_at s (section_at s expressions_number))
  unfolding record_refusal
  expressions = each_record ColumnBelow Expressions expression_at s (section_at s expressions_number) (λ i l. expression_below s _ i _ (accepted_record s accepted expressions_number (omega arith) i l))

  column_below : (e column : ℕ) → expression_of (sheet_in s) e ≡ ColumnRef column → column < 128
  unfolding sheet_in
  column_below e column q = subst ColumnBelow q (each_or ColumnBelow (records_in Expressions expression_at s (section_at s expressions_number)) Other expressions tt e)

  -- of any conjuncts, at most 64
  pub kept_with : (conjuncts : List ℕ) → length conjuncts ≤ 64 → Kept (record { sheet = sheet_in s; conjuncts = conjuncts })
  unfolding sheet_in
  kept_with conjuncts few = record {
    left = λ class c m h. (left_classes_law s accepted class m).columns c h;
    right = λ class c m h. (right_classes_law s accepted class m).columns c h;
    equated = λ first second null_safe h. (column_below h.left first h.left_column, column_below h.right second h.right_column);
    conjunct_count = few;
  }

  pub kept : Kept (join_in s)
  unfolding conjuncts_in
  kept = kept_with (conjuncts_in s) (conjunct_count_law s accepted)
