-- The bytes of operands and conjuncts: what is lawful is read as it was written and accepted where it names what there is, what is accepted is written as it stood, and both have an order. Assumes nothing.
use Prim.Native.Nat.{ℕ, ◌+◌, ◌*◌, ◌≤◌, ◌<◌}
use mathlib.Core.Path.{◌≡◌, refl, ap, ◌∙◌}
use mathlib.Core.Bool.{Bool, ◌&&◌}
use mathlib.Core.List.{List, ◌++◌}
use native.Mathlib.Omega.{arith}
use lib.Dec.{ltb}
use lib.ListN.{length, take, drop}
use borrow.Author.Tests.{lt-ltb}
use Rattle.le.specs.Fields.{u16_at}
use Rattle.le.proofs.FieldLaws.{Bytes, bytes_back}
use Rattle.rules.specs.Rules.{ask, or_else}
use Rattle.layout.specs.Places.{number_size}
use Rattle.layout.specs.Fields.{size_of, bytes_of, no_rule}
use Rattle.layout.specs.Lawful.{LawfulField, as_field}
use Rattle.layout.proofs.LayoutLaws.{EachField, ◌and◌, sizes, record_accepted, record_room, stands, written, record_lawful, sized_lawful, sized_read}
use Rattle.expression_rules.specs.Operands.{shared_refusal, operand_fields, operand_refusal, conjunct_fields, conjunct_refusal}
use Rattle.expression_rules.specs.Lawful.{LawfulNumber}

-- ---- operands

pub operand_size : size_of operand_fields ≡ number_size
operand_size = refl

operand_fields_law : EachField (LawfulField LawfulNumber) operand_fields
operand_fields_law = sized_lawful LawfulNumber number_size (λ x. x) _ (λ x h. h) and tt

pub operand_lawful : LawfulField LawfulNumber (as_field operand_fields)
operand_lawful = record_lawful LawfulNumber operand_fields operand_fields_law

pub operand_read : (x : ℕ) (s t : List ℕ) (at : ℕ) → LawfulNumber x → drop at s ≡ bytes_of operand_fields x ++ t → u16_at s at ≡ x
operand_read x s t at h e =
    let fields = stands operand_fields (sizes LawfulNumber operand_fields operand_fields_law) x s t at 0 e in
    sized_read {C = ℕ} number_size (λ y. y) no_rule x s at h fields.0

module _ (s : List ℕ) (expressions owner first i : ℕ) where
  abbrev place : ℕ
  place = first + number_size * i

  pub operand_accepted : (x : ℕ) (t : List ℕ) → LawfulNumber x → x < u16_at s expressions → x < owner → shared_refusal s expressions first i x ≡ 0 → drop place s ≡ bytes_of operand_fields x ++ t → operand_refusal s expressions owner first i ≡ 0
  unfolding operand_refusal
  operand_accepted x t h a b c e =
      let read = operand_read x s t place h e in
      record_accepted operand_fields (sizes LawfulNumber operand_fields operand_fields_law) (record { expressions = expressions; owner = owner; first = first; i = i }) x s t place e
      ((λ j. or_else (ask (ltb (read j) (u16_at s expressions) && ltb (read j) owner) 8) (shared_refusal s expressions first i (read j)))
      ∙ (λ j. or_else (ask (lt-ltb x (u16_at s expressions) a j && lt-ltb x owner b j) 8) (c j))
      and tt)

  pub operand_written : Bytes s → operand_refusal s expressions owner first i ≡ 0 → bytes_of operand_fields (u16_at s place) ≡ take number_size (drop place s)
  unfolding operand_refusal
  operand_written b e =
      let room : place + number_size ≤ length s = record_room operand_fields (record { expressions = expressions; owner = owner; first = first; i = i }) s place (omega arith) e in
      written operand_fields (u16_at s place) s place 0 (bytes_back number_size s place b room and tt)

-- ---- conjuncts

pub conjunct_size : size_of conjunct_fields ≡ number_size
conjunct_size = refl

conjunct_fields_law : EachField (LawfulField LawfulNumber) conjunct_fields
conjunct_fields_law = sized_lawful LawfulNumber number_size (λ x. x) _ (λ x h. h) and tt

pub conjunct_lawful : LawfulField LawfulNumber (as_field conjunct_fields)
conjunct_lawful = record_lawful LawfulNumber conjunct_fields conjunct_fields_law

pub conjunct_read : (x : ℕ) (s t : List ℕ) (at : ℕ) → LawfulNumber x → drop at s ≡ bytes_of conjunct_fields x ++ t → u16_at s at ≡ x
conjunct_read x s t at h e =
    let fields = stands conjunct_fields (sizes LawfulNumber conjunct_fields conjunct_fields_law) x s t at 0 e in
    sized_read {C = ℕ} number_size (λ y. y) no_rule x s at h fields.0

pub conjunct_accepted : (x : ℕ) (s t : List ℕ) (expressions at : ℕ) → LawfulNumber x → x < u16_at s expressions → drop at s ≡ bytes_of conjunct_fields x ++ t → conjunct_refusal s expressions at ≡ 0
unfolding conjunct_refusal
conjunct_accepted x s t expressions at h a e =
    record_accepted conjunct_fields (sizes LawfulNumber conjunct_fields conjunct_fields_law) expressions x s t at e
    (ap (λ (n : ℕ). ask (ltb n (u16_at s expressions)) 8) (conjunct_read x s t at h e) ∙ ap (λ (b : Bool). ask b 8) (lt-ltb x (u16_at s expressions) a)
    and tt)

pub conjunct_written : (s : List ℕ) (expressions at : ℕ) → Bytes s → conjunct_refusal s expressions at ≡ 0 → bytes_of conjunct_fields (u16_at s at) ≡ take number_size (drop at s)
unfolding conjunct_refusal
conjunct_written s expressions at b e =
    let room : at + number_size ≤ length s = record_room conjunct_fields expressions s at (omega arith) e in
    written conjunct_fields (u16_at s at) s at 0 (bytes_back number_size s at b room and tt)
