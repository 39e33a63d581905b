-- Sides of an expression by their kinds. Assumes nothing.
use Prim.Native.Nat.{ℕ, ◌+◌}
use mathlib.Core.Path.{◌≡◌, refl, sym, ap, ◌∙◌}
use mathlib.Core.List.{List}
use Rattle.std.specs.Prelude.{Option, None, Some, option_map}
use Rattle.std.specs.Option.{option_or}
use Rattle.le.specs.Fields.{byte_at, u16_at}
use Rattle.records.specs.Expressions.{binary_op}
use Rattle.records.specs.declared.expressions.BinaryOp.{BinaryOp}
use Rattle.records.specs.declared.expressions.Expression.{Expression}
use Rattle.expression_rules.specs.Operands.{expression_place}
use Rattle.sheet.specs.Sheet.{sheet_of}
use Rattle.sheet.specs.declared.Sections.{Sections}
use Rattle.lookup.specs.Lookup.{expression_of, expression_kind}
use Rattle.lookup.proofs.LookupLaws.{of_kind, expression_of_kind, expression_is}
use Rattle.records.specs.declared.expressions.ExpressionKind.{ExpressionKind}
use Rattle.records.specs.declared.expressions.ExpressionKind.TheVariants.{Literal as LiteralKind, ColumnRef as ColumnRefKind, Binary as BinaryKind}
use Rattle.parts.specs.Parts.{ColumnLiteral, column_ref, literal_of, reversed, column_beside, column_literal, ColumnPlace, placed_literal, beside_place, column_beside_place, if_literal, column_literal_place, column_equality_from_parts, equality_in}

module _ (s : List ℕ) (q : Sections) (e : ℕ) where
  abbrev at : ℕ
  at = expression_place q.expressions e

  -- only a column refers to one
  pub column_not : (expression_kind s q e ≡ ColumnRefKind → ⊥) → column_ref (expression_of (sheet_of s q) e) ≡ None
  column_not h = ap column_ref (expression_of_kind s q e) ∙ go (expression_kind s q e) h
    where
      go : (kind : ExpressionKind) → (kind ≡ ColumnRefKind → ⊥) → column_ref (of_kind s at kind) ≡ None
      go ColumnRefKind h = absurd (h refl)
      go _ h = refl

  pub column_there : expression_kind s q e ≡ ColumnRefKind → Some (u16_at s (at + 2)) ≡ column_ref (expression_of (sheet_of s q) e)
  column_there h = sym (ap column_ref (expression_is s q e ColumnRefKind h))

  -- only a binary expression equates
  pub equality_not : (expression_kind s q e ≡ BinaryKind → ⊥) → equality_in (sheet_of s q) (expression_of (sheet_of s q) e) ≡ None
  equality_not h = ap (equality_in (sheet_of s q)) (expression_of_kind s q e) ∙ go (expression_kind s q e) h
    where
      go : (kind : ExpressionKind) → (kind ≡ BinaryKind → ⊥) → equality_in (sheet_of s q) (of_kind s at kind) ≡ None
      go BinaryKind h = absurd (h refl)
      go _ h = refl

  pub equality_there : expression_kind s q e ≡ BinaryKind
      → column_equality_from_parts (binary_op (byte_at s (at + 1))) (expression_of (sheet_of s q) (u16_at s (at + 2))) (expression_of (sheet_of s q) (u16_at s (at + 4))) ≡ equality_in (sheet_of s q) (expression_of (sheet_of s q) e)
  equality_there h = sym (ap (equality_in (sheet_of s q)) (expression_is s q e BinaryKind h))

-- where the left side is no literal, the column can only stand there
no_second : (op : BinaryOp) (first : Option ColumnLiteral) (column : Option ℕ) → first ≡ option_or first (column_beside op column None)
no_second op None None = refl
no_second op None (Some c) = refl
no_second op (Some pair) column = refl

-- ---- what a place stands for

-- a column that is read beside a literal that is placed
abbrev by_ref : Option ℕ → ExpressionKind → ℕ → BinaryOp → Option ColumnPlace
by_ref (Some column) LiteralKind place op = Some (column, place, op)
by_ref _ _ place op = None

not_literal : {A : Type 0} (kind : ExpressionKind) (x y : A) → (kind ≡ LiteralKind → ⊥) → y ≡ if_literal kind x y
not_literal LiteralKind x y h = absurd (h refl)
not_literal _ x y h = refl

module _ (s : List ℕ) (q : Sections) where
  placed_beside : (op : BinaryOp) (column literal : ℕ) → option_map (placed_literal s) (column_beside_place s q op column literal) ≡ column_beside op (column_ref (expression_of (sheet_of s q) column)) (literal_of (expression_of (sheet_of s q) literal))
  unfolding column_beside_place
  placed_beside op column literal =
      go (expression_kind s q column) (expression_kind s q literal)
      ∙ λ k. column_beside op (column_ref (sym (expression_of_kind s q column) k)) (literal_of (sym (expression_of_kind s q literal) k))
    where
      pair : ColumnPlace
      pair = (u16_at s (expression_place q.expressions column + 2), expression_place q.expressions literal + 6, op)

      go : (a b : ExpressionKind) → option_map (placed_literal s) (beside_place a b pair) ≡ column_beside op (column_ref (of_kind s (expression_place q.expressions column) a)) (literal_of (of_kind s (expression_place q.expressions literal) b))
      go ColumnRefKind LiteralKind = refl
      go ColumnRefKind _ = refl
      go _ _ = refl

  -- by what the column's expression refers to
  module _ (op : BinaryOp) (column literal : ℕ) (r : Option ℕ) (kind : ExpressionKind) (is : r ≡ column_ref (expression_of (sheet_of s q) column)) (it : kind ≡ expression_kind s q literal) where
    abbrev there : ℕ
    there = expression_place q.expressions literal + 6

    beside_ref : by_ref r kind there op ≡ column_beside_place s q op column literal
    unfolding column_beside_place
    beside_ref =
        (λ k. by_ref (is k) (it k) there op)
        ∙ ap (λ (x : Expression). by_ref (column_ref x) (expression_kind s q literal) there op) (expression_of_kind s q column)
        ∙ go (expression_kind s q column) (expression_kind s q literal)
      where
        pair : ColumnPlace
        pair = (u16_at s (expression_place q.expressions column + 2), there, op)

        go : (a b : ExpressionKind) → by_ref (column_ref (of_kind s (expression_place q.expressions column) a)) b there op ≡ beside_place a b pair
        go ColumnRefKind LiteralKind = refl
        go ColumnRefKind _ = refl
        go _ _ = refl

    pub no_column : r ≡ None → None ≡ column_beside_place s q op column literal
    no_column e = (λ k. by_ref (sym e k) kind there op) ∙ beside_ref

    pub no_literal : (kind ≡ LiteralKind → ⊥) → None ≡ column_beside_place s q op column literal
    no_literal h = go r kind h ∙ beside_ref
      where
        go : (o : Option ℕ) (kind : ExpressionKind) → (kind ≡ LiteralKind → ⊥) → None ≡ by_ref o kind there op
        go (Some c) LiteralKind h = absurd (h refl)
        go (Some c) _ h = refl
        go None _ h = refl

    pub both_there : (c : ℕ) → r ≡ Some c → kind ≡ LiteralKind → Some (c, there, op) ≡ column_beside_place s q op column literal
    both_there c e l = (λ k. by_ref (sym e k) (sym l k) there op) ∙ beside_ref

  pub place_turned : (op turned : BinaryOp) (left right : ℕ) → turned ≡ reversed op → expression_kind s q left ≡ LiteralKind → column_beside_place s q turned right left ≡ column_literal_place s q op left right
  unfolding column_literal_place
  place_turned op turned left right e h =
      ap (λ (o : BinaryOp). column_beside_place s q o right left) e
      ∙ ap (λ (kind : ExpressionKind). if_literal kind (column_beside_place s q (reversed op) right left) (column_beside_place s q op left right)) (sym h)

  pub place_as_is : (op : BinaryOp) (left right : ℕ) → (expression_kind s q left ≡ LiteralKind → ⊥) → column_beside_place s q op left right ≡ column_literal_place s q op left right
  unfolding column_literal_place
  place_as_is op left right h = not_literal (expression_kind s q left) _ _ h

  pub placed_literal_law : (op : BinaryOp) (left right : ℕ) (place : Option ColumnPlace) → place ≡ column_literal_place s q op left right → option_map (placed_literal s) place ≡ column_literal op (expression_of (sheet_of s q) left) (expression_of (sheet_of s q) right)
  unfolding column_literal_place column_literal
  placed_literal_law op left right place is = ap (option_map (placed_literal s)) is ∙ go (expression_kind s q left) refl
    where
      go : (kind : ExpressionKind) → expression_kind s q left ≡ kind
          → option_map (placed_literal s) (if_literal kind (column_beside_place s q (reversed op) right left) (column_beside_place s q op left right)) ≡ column_literal op (expression_of (sheet_of s q) left) (expression_of (sheet_of s q) right)
      go LiteralKind e = placed_beside (reversed op) right left ∙ rw (expression_is s q left LiteralKind e) refl
      go kind e =
          let none : literal_of (expression_of (sheet_of s q) left) ≡ None = ap literal_of (expression_is s q left kind e) in
          placed_beside op left right ∙ rw none (no_second (reversed op) _ (column_ref (expression_of (sheet_of s q) right)))
