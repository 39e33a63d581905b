-- The sheet's conjuncts: read one by one into what is lent, and how many an accepted sheet has. Assumes nothing.
use Prim.Native.Nat.{ℕ, ◌+◌, ◌*◌, ◌≤◌, ◌<◌}
use mathlib.Core.Path.{◌≡◌, refl, sym, ap, ◌∙◌}
use mathlib.Core.List.{List, ◌++◌}
use native.Mathlib.Omega.{arith}
use lib.ListN.{length, take, drop, set}
use lib.Seq.{take_all}
use Rattle.le.specs.Fields.{onto, u16_at}
use Rattle.layout.specs.Places.{conjunct_limit, count_size, number_size}
use Rattle.sheet.specs.Order.{conjuncts_number, section_at, sections_in}
use Rattle.sheet.specs.Check.{Checked, Accepted, sheet_refusal, check}
use Rattle.sheet.specs.Sheet.{records_in, conjuncts_of, conjuncts_in}
use Rattle.sheet.specs.declared.Sections.{Sections}
use Rattle.sheet.specs.declared.order.Kind.TheVariants.{Conjuncts}
use Rattle.sheet.proofs.PlaceLaws.{conjuncts_fixed}
use Rattle.sheet.proofs.SheetLaws.{records_length, fixed_record_at}
use Rattle.sheet.proofs.AcceptedLaws.{accepted, accepted_within}
use Rattle.join_parts.proofs.CopyLaws.{copied_next, copied_front}

-- those of the section at `start`
abbrev pub conjuncts_at : List ℕ → ℕ → List ℕ
conjuncts_at s start = records_in Conjuncts u16_at s start

pub conjunct_next : (s : List ℕ) (start : ℕ) (out X : List ℕ) (i v : ℕ) → i < u16_at s start → i < length out → v ≡ u16_at s (start + count_size + number_size * i) → X ≡ onto (take i (conjuncts_at s start)) out → set X i v ≡ onto (take (i + 1) (conjuncts_at s start)) out
conjunct_next s start out X i v h k f e =
    let n = records_length Conjuncts u16_at s start in
    copied_next (conjuncts_at s start) out X i v (omega arith) k e (f ∙ sym (fixed_record_at Conjuncts u16_at s start number_size conjuncts_fixed i 0 h))

pub conjuncts_count : (s : List ℕ) (q : Sections) → u16_at s q.conjuncts ≡ length (conjuncts_of s q)
unfolding conjuncts_of
conjuncts_count s q = sym (records_length Conjuncts u16_at s q.conjuncts)

pub conjuncts_all : (s : List ℕ) (q : Sections) (out X : List ℕ) (n i : ℕ) → n ≡ u16_at s q.conjuncts → n ≤ i → X ≡ onto (take i (conjuncts_at s q.conjuncts)) (take n out)
    → X ++ drop n out ≡ onto (conjuncts_of s q) out
unfolding conjuncts_of
conjuncts_all s q out X n i f h e =
    let l = records_length Conjuncts u16_at s q.conjuncts in
    copied_front (conjuncts_at s q.conjuncts) out X n (f ∙ conjuncts_count s q) (e ∙ ap (λ (cs : List ℕ). onto cs (take n out)) (take_all i (conjuncts_at s q.conjuncts) (omega arith)))

-- those of an accepted sheet, by where its sections stand
pub own_conjuncts : (s : List ℕ) (c : Checked) (q : Sections) → c ≡ check s → c ≡ Accepted q → conjuncts_of s q ≡ conjuncts_in s
unfolding conjuncts_in
own_conjuncts s c q f g = ap (conjuncts_of s) (sym (accepted s q (sym f ∙ g)).1)

-- how many an accepted sheet has at most
pub accepted_conjuncts : (s : List ℕ) (c : Checked) (q : Sections) → c ≡ check s → c ≡ Accepted q → length (conjuncts_of s q) ≤ conjunct_limit
unfolding sections_in
accepted_conjuncts s c q f g =
    let a = accepted s q (sym f ∙ g) in
    let n : u16_at s q.conjuncts ≡ u16_at s (section_at s conjuncts_number) = ap (λ (x : Sections). u16_at s x.conjuncts) (sym a.1) ∙ noted s in
    let k = conjuncts_count s q in
    let m = within s a.0 in
    omega arith
  where
    noted : (s : List ℕ) → u16_at s (sections_in s).conjuncts ≡ u16_at s (section_at s conjuncts_number)
    noted s = refl

    within : (s : List ℕ) → sheet_refusal s ≡ 0 → u16_at s (section_at s conjuncts_number) ≤ conjunct_limit
    within s kept = (accepted_within s kept conjuncts_number (omega arith)).1
