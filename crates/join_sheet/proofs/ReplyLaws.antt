-- A reply of the program: the answer always fits its buffer, so what it writes is the answer, or FF and the number of the sheet's own refusal. Assumes nothing.
use Prim.Native.Nat.{ℕ, ◌≤◌}
use mathlib.Core.Path.{◌≡◌, refl, ap, ◌∙◌}
use mathlib.Core.List.{List, [], ◌∷◌}
use native.Mathlib.Omega.{arith}
use borrow.Author.Tests.{le-leb}
use lib.ListN.{length, take, length-take}
use Rattle.le.specs.Fields.{onto}
use Rattle.le.proofs.OntoLaws.{onto_length}
use Rattle.sheet.specs.Check.{Checked, Refused as SheetRefused, Accepted, check}
use Rattle.sheet.specs.Sheet.{sheet_in, sheet_of, conjuncts_in, conjuncts_of}
use Rattle.sheet.specs.declared.Sections.{Sections}
use Rattle.sheet.proofs.AcceptedLaws.{accepted}
use Rattle.join.specs.Join.{join_selectivity_from_conjuncts}
use Rattle.answers.specs.Answers.{Refused, Written, Result, refusal, bytes, answered, leaves, Comes, sheet_result}
use Rattle.layout.specs.Places.{longest_join}
use Rattle.join_answer.specs.Join.{join_bytes, join_result}
use Rattle.join_parts.proofs.ConjunctLaws.{accepted_conjuncts}
use Rattle.join_answer.proofs.BoundLaws.{join_within}
use Rattle.join_sheet.specs.Reply.{reply_bytes}

-- a result whose bytes, if it has any, fit a buffer of 65,536
abbrev Small : Result → Type 0
Small result = (bs : List ℕ) → result ≡ bytes bs → length bs ≤ 65536

-- of an accepted sheet the answer does
pub reply_fits : (s : List ℕ) → Small (join_result s)
unfolding join_result sheet_in conjuncts_in
reply_fits s bs e = go (check s) refl e
  where
    within : (a b c : ℕ) → a ≡ b → a ≡ c → b ≤ longest_join → c ≤ 65536
    within a b c e f h = omega arith

    go : (c : Checked) → check s ≡ c → sheet_result c (bytes (join_bytes (join_selectivity_from_conjuncts (sheet_in s) (conjuncts_in s)))) ≡ bytes bs → length bs ≤ 65536
    go (SheetRefused n) p q = let z : ◌≡◌ {A = ℕ} 0 1 = cc in omega arith
    go (Accepted x) p q =
        let a = accepted s x p in
        let f : join_bytes (join_selectivity_from_conjuncts (sheet_in s) (conjuncts_in s)) ≡ bs = cc in
        let h = join_within (sheet_of s x) (conjuncts_of s x) (accepted_conjuncts s (check s) x refl p) in
        within _ _ _ (ap (λ (y : Sections). length (join_bytes (join_selectivity_from_conjuncts (sheet_of s y) (conjuncts_of s y)))) a.1) (ap length f) h

-- ---- what stands in the buffer

-- the reply's length, and the buffer with the reply at its front
abbrev Put : Result → List ℕ → ℕ → List ℕ → Type 0
Put result out n after = (n ≡ length (reply_bytes result)) × ((after ≡ onto (reply_bytes result) out) × ((n ≤ length after) × (length (take n after) ≡ n)))

put : (result : Result) (out : List ℕ) (n : ℕ) (after : List ℕ) → n ≡ length (reply_bytes result) → after ≡ onto (reply_bytes result) out → length (reply_bytes result) ≤ length out → Put result out n after
put result out n after e f h =
    let l = onto_length (reply_bytes result) out h in
    let m = ap length f in
    (e, (f, counts n after (omega arith)))
  where
    counts : (n : ℕ) (after : List ℕ) → n ≤ length after → (n ≤ length after) × (length (take n after) ≡ n)
    counts n after h = let t = length-take n after in (h, omega arith)

no : ◌≡◌ {A = ℕ} 0 1 → ⊥
no z = omega arith

pub refused_reply : (result : Result) (out after end : List ℕ) (n : ℕ) → Small result → 65536 ≤ length out → Comes result out (Refused n) after → end ≡ onto (0xFF ∷ n ∷ []) after
    → Put result out 2 end
unfolding answered leaves reply_bytes
refused_reply (refusal k) out after end n small room (a, b) f = let e : n ≡ k = cc in put (refusal k) out 2 end refl (f ∙ λ i. onto (0xFF ∷ e i ∷ []) (b i)) (omega arith)
refused_reply (bytes bs) out after end n small room (a, b) f =
    let h = small bs refl in
    let l : length bs ≤ length out = omega arith in
    let g : Refused n ≡ Written (length bs) = rw (le-leb _ _ l) at a in
    let z : ◌≡◌ {A = ℕ} 0 1 = cc in
    absurd (no z)

pub written_reply : (result : Result) (out after : List ℕ) (n : ℕ) → Small result → 65536 ≤ length out → Comes result out (Written n) after
    → Put result out n after
unfolding answered leaves reply_bytes
written_reply (refusal k) out after n small room (a, b) = let z : ◌≡◌ {A = ℕ} 0 1 = cc in absurd (no z)
written_reply (bytes bs) out after n small room (a, b) =
    let h = small bs refl in
    let l : length bs ≤ length out = omega arith in
    let f : Written n ≡ Written (length bs) = rw (le-leb _ _ l) at a in
    let g : n ≡ length bs = cc in
    put (bytes bs) out n after g (b ∙ rw (le-leb _ _ l) refl) l
