-- What an accepted sheet keeps: every count, every record at its place, and the end. Assumes nothing.
use Prim.Native.Nat.{ℕ, ◌<◌, ◌≤◌}
use mathlib.Core.Path.{◌≡◌, refl}
use mathlib.Core.List.{List}
use native.Mathlib.Omega.{arith}
use lib.Dec.{leb, eqb}
use lib.ListN.{length}
use borrow.Author.Tests.{eqb-true, leb-true}
use Rattle.le.specs.Fields.{u16_at}
use Rattle.layout.specs.Places.{sheet_limit, count_size}
use Rattle.rules.specs.Rules.{ask, or_else, first_refusal}
use Rattle.rules.proofs.RuleLaws.{ask_kept, both_first, both_second, else_first, else_second, each_kept}
use Rattle.layout.specs.Fields.{whole}
use Rattle.sheet.specs.Table.{section_of}
use Rattle.sheet.specs.Order.{kind_at, section_count, sketches_number, expressions_number, section_at, sections_in}
use Rattle.sheet.specs.Rules.{count_within, count_refusal, records_refusal, section_refusal}
use Rattle.sheet.specs.Check.{Accepted, refusal_in, sheet_refusal, check}
use Rattle.sheet.specs.declared.Sections.{Sections}
use Rattle.sheet.proofs.VerdictLaws.{verdict_accepted}

-- the answer: no refusal, and the sections where the bytes have them
pub accepted : (s : List ℕ) (x : Sections) → check s ≡ Accepted x → (sheet_refusal s ≡ 0) × (sections_in s ≡ x)
unfolding check
accepted s x e = verdict_accepted (sheet_refusal s) (sections_in s) x e

pub accepted_back : (s : List ℕ) → sheet_refusal s ≡ 0 → check s ≡ Accepted (sections_in s)
unfolding check
accepted_back s e = rw e refl

module _ (s : List ℕ) (kept : sheet_refusal s ≡ 0) where
  rest_kept : or_else (first_refusal (refusal_in s) 0 section_count) (ask (eqb (section_at s section_count) (length s)) 10) ≡ 0
  unfolding sheet_refusal
  rest_kept = else_second (ask (leb (length s) sheet_limit) 1) _ kept

  pub accepted_end : section_at s section_count ≡ length s
  accepted_end = eqb-true (section_at s section_count) (length s) (ask_kept (eqb (section_at s section_count) (length s)) 10 (omega arith) (else_second (first_refusal (refusal_in s) 0 section_count) _ rest_kept))

  pub accepted_section : (k : ℕ) → k < section_count → refusal_in s k ≡ 0
  accepted_section k l = each_kept (refusal_in s) section_count (else_first (first_refusal (refusal_in s) 0 section_count) _ rest_kept) k l

  pub accepted_count : (k : ℕ) → k < section_count → count_refusal (kind_at k) s (section_at s expressions_number) (section_at s k) ≡ 0
  unfolding refusal_in section_refusal
  accepted_count k l = else_first (count_refusal (kind_at k) s (section_at s expressions_number) (section_at s k)) _ (accepted_section k l)

  -- as many records as the table lets a section hold
  pub accepted_within : (k : ℕ) → k < section_count → ((section_of (kind_at k)).least ≤ u16_at s (section_at s k)) × (u16_at s (section_at s k) ≤ (section_of (kind_at k)).most)
  unfolding count_refusal count_within
  accepted_within k l =
      let n : ℕ = u16_at s (section_at s k) in
      let within = ask_kept (count_within (kind_at k) n) 3 (omega arith) (else_first _ _ (else_second (whole count_size s (section_at s k)) _ (accepted_count k l))) in
      (leb-true _ n (both_first (leb (section_of (kind_at k)).least n) _ within), leb-true n _ (both_second (leb (section_of (kind_at k)).least n) _ within))

  -- record i of section k
  pub accepted_record : (k : ℕ) → k < section_count → (i : ℕ) → i < u16_at s (section_at s k) → records_refusal (kind_at k) s (section_at s sketches_number) (section_at s expressions_number) (section_at s k) i ≡ 0
  unfolding refusal_in section_refusal
  accepted_record k l i h =
      each_kept (records_refusal (kind_at k) s (section_at s sketches_number) (section_at s expressions_number) (section_at s k)) (u16_at s (section_at s k))
      (else_second (count_refusal (kind_at k) s (section_at s expressions_number) (section_at s k)) _ (accepted_section k l)) i h
