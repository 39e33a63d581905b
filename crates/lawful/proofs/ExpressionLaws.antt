-- Expressions that keep their rules are lawful. Assumes nothing.
use Prim.Native.Nat.{ℕ, ◌+◌, ◌<◌}
use mathlib.Core.Path.{◌≡◌, refl, subst}
use mathlib.Core.Bool.{Bool, true, false, cond}
use mathlib.Core.List.{List}
use native.Mathlib.Omega.{arith}
use lib.Dec.{ltb, eqb}
use borrow.Author.Tests.{ltb-true, eqb-true}
use Rattle.le.specs.Fields.{byte_at, u16_at}
use Rattle.le.proofs.FieldLaws.{Bytes}
use Rattle.rules.proofs.RuleLaws.{ask_kept}
use Rattle.layout.specs.Places.{expression_first_offset, expression_second_offset, expression_scalar_offset}
use Rattle.layout.proofs.LayoutLaws.{record_kept}
use Rattle.scalar_bytes.specs.Reading.{scalar_at}
use Rattle.scalar_bytes.specs.Encoding.{lawful_scalar}
use Rattle.scalar_bytes.specs.declared.reads.ScalarPlace.TheVariants.{Literal as AtLiteral}
use Rattle.records.specs.Expressions.{expression_at}
use Rattle.expression_rules.specs.Expressions.{first_field_refusal, second_field_refusal, literal_refusal, expression_fields, expression_refusal}
use Rattle.expression_rules.proofs.RoomLaws.{column_ref_below}
use Rattle.lawful.specs.Lawful.{LawfulExpression}
use Rattle.lawful.proofs.ScalarLaws.{scalar_lawful}

-- by what a number is, or is not
pub by_test : {A : Type 0} (P : A → Type 0) (k n : ℕ) (x y : A) → (k ≡ n → P x) → P y → P (cond (eqb k n) x y)
by_test {A = A} P k n x y f g = go (eqb k n) (λ e. f (eqb-true k n e))
  where
    go : (t : Bool) → (t ≡ true → P x) → P (cond t x y)
    go true h = h refl
    go false h = g

-- expression i at `at`; the fields of kind k
module _ (s : List ℕ) (run i at : ℕ) (kept : expression_refusal s run i at ≡ 0) where
  abbrev a : ℕ
  a = u16_at s (at + expression_first_offset)

  abbrev b : ℕ
  b = u16_at s (at + expression_second_offset)

  record Fields (k : ℕ) : Type 0 where
    first : first_field_refusal k i run a ≡ 0
    second : second_field_refusal k i b ≡ 0
    scalar : literal_refusal k s (at + expression_scalar_offset) ≡ 0

  fields : (k : ℕ) → byte_at s at ≡ k → Fields k
  unfolding expression_refusal
  fields k h =
      let kind = record_kept expression_fields (record { kind = byte_at s at; run = run; i = i }) s at kept in
      let first = kind.1.1 in
      subst Fields h record { first = first.0; second = first.1.0; scalar = first.1.1.0 }

  literal : Bytes s → byte_at s at ≡ 0 → lawful_scalar (scalar_at s (at + expression_scalar_offset)) ≡ true
  unfolding literal_refusal
  literal bytes h = scalar_lawful AtLiteral s (at + expression_scalar_offset) refl bytes (fields 0 h).scalar

  child : byte_at s at ≡ 2 → a < i
  unfolding first_field_refusal
  child h = ltb-true a i (ask_kept (ltb a i) 8 (omega arith) (fields 2 h).first)

  left : byte_at s at ≡ 3 → a < i
  unfolding first_field_refusal
  left h = ltb-true a i (ask_kept (ltb a i) 8 (omega arith) (fields 3 h).first)

  right : byte_at s at ≡ 3 → b < i
  unfolding second_field_refusal
  right h = ltb-true b i (ask_kept (ltb b i) 8 (omega arith) (fields 3 h).second)

  pub expression_lawful : Bytes s → LawfulExpression i (expression_at s at)
  unfolding expression_at
  expression_lawful bytes =
      let kind : ℕ = byte_at s at in
      by_test (LawfulExpression i) kind 0 _ _ (literal bytes)
      (by_test (LawfulExpression i) kind 1 _ _ (column_ref_below s run i at kept)
      (by_test (LawfulExpression i) kind 2 _ _ child
      (by_test (LawfulExpression i) kind 3 _ _ (λ h. (left h, right h))
      (by_test (LawfulExpression i) kind 4 _ _ (λ h. tt)
      (by_test (LawfulExpression i) kind 5 _ _ (λ h. tt) tt)))))
