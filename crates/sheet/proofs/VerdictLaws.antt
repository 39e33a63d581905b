-- What a walk and a check answer, by the refusal. Assumes nothing.
use Prim.Native.Nat.{ℕ, zero, suc, ◌+◌, ◌≤◌, ◌<◌}
use mathlib.Core.Path.{◌≡◌, refl, sym, ap, ◌∙◌}
use mathlib.Core.Bool.{Bool, true, false}
use mathlib.Core.List.{List}
use native.Mathlib.Omega.{arith}
use lib.Dec.{leb, eqb}
use borrow.Author.Tests.{lt-leb, le-leb, leb-true, leb-false}
use lib.ListN.{length, get_or, set}
use Rattle.le.specs.Fields.{u16_at}
use Rattle.layout.specs.Places.{sheet_limit}
use Rattle.rules.specs.Rules.{ask, or_else, first_refusal, refusal_number}
use Rattle.rules.specs.declared.Refusal.{Refusal}
use Rattle.rules.proofs.RuleLaws.{ask_kept, else_broken, else_kept}
use Rattle.rules.proofs.LoopLaws.{number_not}
use Rattle.sheet.specs.Order.{kind_at, section_count, sketches_number, expressions_number, record_at, section_at, sections_in}
use Rattle.sheet.specs.Rules.{section_refusal}
use Rattle.sheet.specs.Check.{Refused, Accepted, refusal_in, sheet_refusal, verdict, check}
use Rattle.sheet.specs.Walk.{Reached, Refused as Stopped, At, reached}
use Rattle.sheet.specs.declared.Sections.{Sections}
use Rattle.sheet.specs.declared.order.Kind.{Kind}
use Rattle.sheet.proofs.PlaceLaws.{starts_before, section_next}
use Rattle.sheet.proofs.SectionLaws.{noted}

no : ◌≡◌ {A = ℕ} 0 1 → ⊥
no z = omega arith

pub verdict_refused : (n : ℕ) (x : Sections) → (n ≡ 0 → ⊥) → Refused n ≡ verdict n x
verdict_refused zero x h = absurd (h refl)
verdict_refused (suc n) x h = refl

pub verdict_accepted : (n : ℕ) (x y : Sections) → verdict n x ≡ Accepted y → (n ≡ 0) × (x ≡ y)
verdict_accepted zero x y e = (refl, cc)
verdict_accepted (suc n) x y e = let z : ◌≡◌ {A = ℕ} 0 1 = cc in absurd (no z)

-- ---- a section

pub reached_refused : (n m at : ℕ) → n ≡ m → (n ≡ 0 → ⊥) → Stopped n ≡ reached m at
reached_refused zero m at e h = absurd (h refl)
reached_refused (suc n) m at e h = ap (λ (k : ℕ). reached k at) e

pub reached_end : (n at end : ℕ) → 0 ≡ n → at ≡ end → At at ≡ reached n end
reached_end n at end e h = ap At h ∙ ap (λ (k : ℕ). reached k end) e

pub refused_back : (n m at : ℕ) → Stopped n ≡ reached m at → (n ≡ m) × (n ≡ 0 → ⊥)
refused_back n zero at e = let z : ◌≡◌ {A = ℕ} 0 1 = cc in absurd (no z)
refused_back n (suc m) at e = let h : n ≡ suc m = cc in (h, λ z. omega arith)

pub end_back : (n m at : ℕ) → At n ≡ reached m at → (m ≡ 0) × (n ≡ at)
end_back n zero at e = (refl, cc)
end_back n (suc m) at e = let z : ◌≡◌ {A = ℕ} 0 1 = cc in absurd (no z)

-- section k, by the starts noted so far
pub section_told : (s starts : List ℕ) (at k sketches : ℕ) (kind : Kind) (r : Reached) → starts ≡ starts_before s k → at ≡ section_at s k → k < section_count → kind ≡ kind_at k
    → sketches ≡ get_or (set starts k at) sketches_number 0
    → r ≡ reached (section_refusal kind s sketches (get_or (set starts k at) expressions_number 0) at) (record_at kind s at (u16_at s at))
    → r ≡ reached (refusal_in s k) (section_at s (k + 1))
unfolding starts_before
section_told s starts at k sketches kind r a b l e n h = h ∙ rw (n, e, a, b, sym (section_next s k), noted s k l) refl

-- ---- the sheet

pub sheet_long : (s : List ℕ) → sheet_limit < length s → Refused 1 ≡ check s
unfolding check sheet_refusal
sheet_long s h = rw (lt-leb _ _ h) refl

-- as it is told
pub long_refused : (s : List ℕ) (refusal : Refusal) → refusal_number refusal ≡ ask (leb (length s) sheet_limit) 1 → Refused (refusal_number refusal) ≡ check s
long_refused s refusal = go (leb (length s) sheet_limit) (leb-false (length s) sheet_limit)
  where
    go : (b : Bool) → (b ≡ false → sheet_limit < length s) → refusal_number refusal ≡ ask b 1 → Refused (refusal_number refusal) ≡ check s
    go true l e = absurd (number_not refusal 0 e refl)
    go false l e = ap Refused e ∙ sheet_long s (l refl)

pub sheet_short : (s : List ℕ) → 0 ≡ ask (leb (length s) sheet_limit) 1 → length s ≤ sheet_limit
sheet_short s few = leb-true (length s) sheet_limit (ask_kept (leb (length s) sheet_limit) 1 (omega arith) (sym few))

sheet_rest : (s : List ℕ) → length s ≤ sheet_limit → or_else (first_refusal (refusal_in s) 0 section_count) (ask (eqb (section_at s section_count) (length s)) 10) ≡ sheet_refusal s
unfolding sheet_refusal
sheet_rest s h = rw (le-leb _ sheet_limit h) refl

pub sheet_broken : (s : List ℕ) (n : ℕ) → length s ≤ sheet_limit → n ≡ first_refusal (refusal_in s) 0 section_count → (n ≡ 0 → ⊥) → Refused n ≡ check s
unfolding check
sheet_broken s n h e b =
    verdict_refused n (sections_in s) b
    ∙ ap (λ (k : ℕ). verdict k (sections_in s)) (e ∙ (sym (else_broken (first_refusal (refusal_in s) 0 section_count) (ask (eqb (section_at s section_count) (length s)) 10) (λ z. b (e ∙ z))) ∙ sheet_rest s h))

pub sheet_end : (s : List ℕ) (at : ℕ) (x : Sections) → length s ≤ sheet_limit → 0 ≡ first_refusal (refusal_in s) 0 section_count → at ≡ section_at s section_count → x ≡ sections_in s → verdict (ask (eqb at (length s)) 10) x ≡ check s
unfolding check
sheet_end s at x h e a y =
    rw (a, y) (ap (λ (k : ℕ). verdict k (sections_in s)) (sym (else_kept (first_refusal (refusal_in s) 0 section_count) (ask (eqb (section_at s section_count) (length s)) 10) (sym e)) ∙ sheet_rest s h))

-- at the end: the bytes behind the last section are refused, or the sheet is accepted
module _ (s : List ℕ) (at : ℕ) (short : length s ≤ sheet_limit) (kept : 0 ≡ first_refusal (refusal_in s) 0 section_count) (end : at ≡ section_at s section_count) where
  pub end_refused : (refusal : Refusal) → refusal_number refusal ≡ ask (eqb at (length s)) 10 → Refused (refusal_number refusal) ≡ check s
  end_refused refusal e =
      verdict_refused (refusal_number refusal) (sections_in s) (number_not refusal (refusal_number refusal) refl)
      ∙ (ap (λ (n : ℕ). verdict n (sections_in s)) e ∙ sheet_end s at (sections_in s) short kept end refl)

  pub end_accepted : (x : Sections) → 0 ≡ ask (eqb at (length s)) 10 → x ≡ sections_in s → Accepted x ≡ check s
  end_accepted x e y = ap (λ (n : ℕ). verdict n x) e ∙ sheet_end s at x short kept end y
