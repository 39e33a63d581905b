-- Expressions and keys by their kinds. Assumes nothing.
use Prim.Native.Nat.{ℕ, zero, suc, ◌+◌, ◌≤◌}
use mathlib.Core.Path.{◌≡◌, refl, sym, ap, ◌∙◌}
use mathlib.Core.Bool.{Bool, true, false, cond, ◌||◌}
use mathlib.Core.List.{List}
use native.Mathlib.Omega.{arith}
use lib.Dec.{eqb}
use borrow.Author.Tests.{eqb-true}
use Rattle.le.specs.Fields.{byte_at, u16_at}
use Rattle.layout.specs.Places.{expression_op_offset, expression_first_offset, expression_second_offset, expression_scalar_offset}
use Rattle.scalar_bytes.specs.Reading.{scalar_at}
use Rattle.std.specs.Prelude.{Ok, Err}
use Rattle.records.specs.Catalog.{key_kind_of, key_code, unknown_key_kind}
use Rattle.records.specs.declared.catalog.KeyKind.{KeyKind}
use Rattle.records.specs.declared.catalog.KeyKind.TheVariants.{Unique as UniqueKind, Foreign as ForeignKind}
use Rattle.records.specs.Expressions.{kind_of, kind_code, unary_op, binary_op, nary_op, expression_at}
use Rattle.records.specs.declared.expressions.ExpressionKind.{ExpressionKind}
use Rattle.records.specs.declared.expressions.ExpressionKind.TheVariants.{Literal as LiteralKind, ColumnRef as ColumnRefKind, Unary as UnaryKind, Binary as BinaryKind, Nary as NaryKind, Like as LikeKind, Other as OtherKind}
use Rattle.records.specs.declared.expressions.Expression.{Expression}
use Rattle.records.specs.declared.expressions.Expression.TheVariants.{Literal, ColumnRef, Unary, Binary, Nary, Like, Other}

-- what stands at a place, if this is its kind
abbrev pub of_kind : List ℕ → ℕ → ExpressionKind → Expression
of_kind s at LiteralKind = Literal (scalar_at s (at + expression_scalar_offset))
of_kind s at ColumnRefKind = ColumnRef (u16_at s (at + expression_first_offset))
of_kind s at UnaryKind = Unary (unary_op (byte_at s (at + expression_op_offset))) (u16_at s (at + expression_first_offset))
of_kind s at BinaryKind = Binary (binary_op (byte_at s (at + expression_op_offset))) (u16_at s (at + expression_first_offset)) (u16_at s (at + expression_second_offset))
of_kind s at NaryKind = Nary (nary_op (byte_at s (at + expression_op_offset))) (u16_at s (at + expression_first_offset)) (u16_at s (at + expression_second_offset))
of_kind s at LikeKind = Like
of_kind s at OtherKind = Other

pub kind_read : (s : List ℕ) (at : ℕ) → expression_at s at ≡ of_kind s at (kind_of (byte_at s at))
unfolding expression_at
kind_read s at = go (eqb (byte_at s at) 0) (eqb (byte_at s at) 1) (eqb (byte_at s at) 2) (eqb (byte_at s at) 3) (eqb (byte_at s at) 4) (eqb (byte_at s at) 5)
  where
    x : ExpressionKind → Expression
    x kind = of_kind s at kind

    go : (a b c d e f : Bool)
        → cond a (x LiteralKind) (cond b (x ColumnRefKind) (cond c (x UnaryKind) (cond d (x BinaryKind) (cond e (x NaryKind) (cond f Like Other)))))
        ≡ x (cond a LiteralKind (cond b ColumnRefKind (cond c UnaryKind (cond d BinaryKind (cond e NaryKind (cond f LikeKind OtherKind))))))
    go true b c d e f = refl
    go false true c d e f = refl
    go false false true d e f = refl
    go false false false true e f = refl
    go false false false false true f = refl
    go false false false false false true = refl
    go false false false false false false = refl

-- where the kind is told
pub kind_told : (s : List ℕ) (at : ℕ) (kind : ExpressionKind) → kind ≡ kind_of (byte_at s at) → of_kind s at kind ≡ expression_at s at
kind_told s at kind e = ap (of_kind s at) e ∙ sym (kind_read s at)

-- the kinds' numbers
pub kind_back : (n : ℕ) → n ≤ 6 → kind_code (kind_of n) ≡ n
kind_back zero h = refl
kind_back (suc zero) h = refl
kind_back (suc (suc zero)) h = refl
kind_back (suc (suc (suc zero))) h = refl
kind_back (suc (suc (suc (suc zero)))) h = refl
kind_back (suc (suc (suc (suc (suc zero))))) h = refl
kind_back (suc (suc (suc (suc (suc (suc zero)))))) h = refl
kind_back (suc (suc (suc (suc (suc (suc (suc n))))))) h = absurd (omega arith)

-- ---- keys: a byte that stands for a kind, and one that does not

-- it is the kind's number
pub key_known : (n : ℕ) (kind : KeyKind) → key_kind_of n ≡ Ok kind → key_code kind ≡ n
key_known n kind e = go (eqb n 1) (eqb n 2) (eqb-true n 1) (eqb-true n 2) e
  where
    go : (a b : Bool) → (a ≡ true → n ≡ 1) → (b ≡ true → n ≡ 2) → cond a (Ok UniqueKind) (cond b (Ok ForeignKind) (Err unknown_key_kind)) ≡ Ok kind → key_code kind ≡ n
    go true b p q e = let k : UniqueKind ≡ kind = cc in ap key_code (sym k) ∙ sym (p refl)
    go false true p q e = let k : ForeignKind ≡ kind = cc in ap key_code (sym k) ∙ sym (q refl)
    go false false p q e = absurd cc

pub key_named : (n : ℕ) (kind : KeyKind) → key_kind_of n ≡ Ok kind → (eqb n 1 || eqb n 2) ≡ true
key_named n kind e = go (eqb n 1) (eqb n 2) e
  where
    go : (a b : Bool) → cond a (Ok UniqueKind) (cond b (Ok ForeignKind) (Err unknown_key_kind)) ≡ Ok kind → (a || b) ≡ true
    go true b e = refl
    go false true e = refl
    go false false e = absurd cc

pub key_unnamed : (n : ℕ) → ((kind : KeyKind) → key_kind_of n ≡ Ok kind → ⊥) → (eqb n 1 || eqb n 2) ≡ false
key_unnamed n h = go (eqb n 1) (eqb n 2) h
  where
    go : (a b : Bool) → ((kind : KeyKind) → cond a (Ok UniqueKind) (cond b (Ok ForeignKind) (Err unknown_key_kind)) ≡ Ok kind → ⊥) → (a || b) ≡ false
    go true b h = absurd (h UniqueKind refl)
    go false true h = absurd (h ForeignKind refl)
    go false false h = refl

pub ruleset key_kinds = (key_known, key_named, key_unnamed)
