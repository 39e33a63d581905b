-- What a walk over records carries along, one record further. Assumes nothing.
use Prim.Native.Nat.{ℕ, zero, suc, ◌+◌, ◌≤◌}
use mathlib.Core.Path.{◌≡◌, refl, sym, ap, ◌∙◌, subst}
use mathlib.Core.List.{List}
use native.Mathlib.Omega.{arith}
use native.Mathlib.Numerals.{add-one}
use Rattle.le.specs.Fields.{u16_at}
use Rattle.layout.specs.Places.{sketch_count_offset, expression_size}
use Rattle.expression_rules.specs.Operands.{runs_before, nary_from, nary_of, RunsFollow}
use Rattle.expression_rules.proofs.RunLaws.{owner_next, owner_within}
use Rattle.sheet.specs.Table.{section_of}
use Rattle.sheet.specs.Order.{record_at}
use Rattle.sheet.specs.Rules.{items_before, record_refusal, records_refusal}
use Rattle.sheet.specs.Walk.{RunsKnown, OwnerWithin, next_tally, tally_before}
use Rattle.sheet.specs.declared.order.Kind.{Kind}
use Rattle.sheet.specs.declared.order.Kind.TheVariants.{Sketches, Expressions, Operands}
use Rattle.sheet.specs.declared.table.Tally.{Tally}
use Rattle.sheet.specs.declared.table.Tally.TheVariants.{Owner}
use Rattle.sheet.proofs.PlaceLaws.{fixed_place, expressions_fixed}

pub tally_next : (kind : Kind) (s : List ℕ) (expressions start i t at : ℕ) → t ≡ tally_before kind s expressions start i → at ≡ record_at kind s start i → next_tally (section_of kind).tally s expressions t i at ≡ tally_before kind s expressions start (i + 1)
unfolding tally_before
tally_next kind s expressions start i t at e h = rw (e, h, add-one) refl

-- ---- by kind

items_tally : (s : List ℕ) (expressions start i : ℕ) → tally_before Sketches s expressions start i ≡ items_before s start i
unfolding tally_before next_tally items_before
items_tally s expressions start zero = refl
items_tally s expressions start (suc i) = ap (λ (t : ℕ). t + u16_at s (record_at Sketches s start i + sketch_count_offset)) (items_tally s expressions start i)

runs_tally : (s : List ℕ) (expressions start i : ℕ) → tally_before Expressions s expressions start i ≡ runs_before s start i
unfolding tally_before next_tally runs_before
runs_tally s expressions start zero = refl
runs_tally s expressions start (suc i) = rw (runs_tally s expressions start i, fixed_place Expressions expression_size expressions_fixed s start i) refl

-- the expression to which the operand before the i-th belongs
unfoldable owner_before : List ℕ → ℕ → ℕ → ℕ
owner_before s expressions zero = 0
owner_before s expressions (suc i) = nary_of s expressions i

-- looking on from the owner of the operand before
owner_of : (s : List ℕ) (expressions i : ℕ) → RunsFollow s expressions → nary_from s expressions i (owner_before s expressions i) ≡ nary_of s expressions i
unfolding owner_before nary_of
owner_of s expressions zero f = refl
owner_of s expressions (suc i) f = ap (λ (j : ℕ). nary_from s expressions j (nary_of s expressions i)) (sym (add-one i)) ∙ (owner_next s expressions i f ∙ ap (nary_of s expressions) (add-one i))

owner_before_within : (s : List ℕ) (expressions i : ℕ) → owner_before s expressions i ≤ u16_at s expressions
unfolding owner_before
owner_before_within s expressions zero = omega arith
owner_before_within s expressions (suc i) = owner_within s expressions i

owner_tally : (kind : Kind) (s : List ℕ) (expressions start i : ℕ) → (section_of kind).tally ≡ Owner → RunsFollow s expressions → tally_before kind s expressions start i ≡ owner_before s expressions i
unfolding tally_before next_tally owner_before
owner_tally kind s expressions start zero e f = refl
owner_tally kind s expressions start (suc i) e f = rw (e, owner_tally kind s expressions start i e f) (owner_of s expressions i f)

pub owned : {kind : Kind} → kind ≡ Operands → (section_of kind).tally ≡ Owner
owned e = ap (λ (k : Kind). (section_of k).tally) e

module _ (kind : Kind) (s : List ℕ) (expressions start i t : ℕ) (tally : t ≡ tally_before kind s expressions start i) where
  tally_of_law : {known : Kind} → kind ≡ known → t ≡ tally_before known s expressions start i
  tally_of_law e = tally ∙ ap (λ (k : Kind). tally_before k s expressions start i) e

  pub sketches_tally : kind ≡ Sketches → t ≡ items_before s start i
  sketches_tally e = tally_of_law e ∙ items_tally s expressions start i

  pub expressions_tally : kind ≡ Expressions → t ≡ runs_before s start i
  expressions_tally e = tally_of_law e ∙ runs_tally s expressions start i

  module _ (known : RunsKnown kind s expressions) where
    operands_tally : (section_of kind).tally ≡ Owner → t ≡ owner_before s expressions i
    operands_tally e = tally ∙ owner_tally kind s expressions start i e (known e)

    pub operands_within : OwnerWithin (section_of kind).tally s expressions t
    operands_within e = subst (λ (n : ℕ). n ≤ u16_at s expressions) (sym (operands_tally e)) (owner_before_within s expressions i)

    operands_owner : (section_of kind).tally ≡ Owner → nary_from s expressions i t ≡ nary_of s expressions i
    operands_owner e = ap (nary_from s expressions i) (operands_tally e) ∙ owner_of s expressions i (known e)

    pub operands_next : (section_of kind).tally ≡ Owner → (at next : ℕ) → next ≡ next_tally (section_of kind).tally s expressions t i at → next ≡ nary_of s expressions i
    unfolding next_tally
    operands_next e at next h = h ∙ (ap (λ (x : Tally). next_tally x s expressions t i at) e ∙ operands_owner e)

-- ---- a record at its place

pub record_told : (kind : Kind) (s : List ℕ) (sketches expressions start i at r : ℕ)
    → r ≡ record_refusal kind s sketches expressions start i at
    → at ≡ record_at kind s start i
    → r ≡ records_refusal kind s sketches expressions start i
record_told kind s sketches expressions start i at r e h = e ∙ ap (record_refusal kind s sketches expressions start i) h
