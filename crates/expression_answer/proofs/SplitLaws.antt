-- The bytes of a split's answer: a count, then the numbers. Assumes nothing.
use Prim.Native.Nat.{ℕ, suc, ◌+◌, ◌-◌, ◌*◌, ◌≤◌, ◌<◌}
use mathlib.Core.Path.{◌≡◌, refl, sym, ap, ◌∙◌, subst}
use mathlib.Core.List.{List, [], ◌∷◌, ◌++◌}
use native.Mathlib.Omega.{arith}
use lib.ListN.{length, take, drop, get_or}
use lib.Seq.{length-take-le, take-suc, take_all, take_at}
use Rattle.le.specs.Fields.{u16_bytes, onto}
use Rattle.le.proofs.FieldLaws.{bytes_length}
use Rattle.le.proofs.OntoLaws.{onto_part, onto_length}
use Rattle.layout.specs.Places.{operand_limit, count_size, number_size}
use Rattle.sheet.specs.Check.{Checked, Accepted, check}
use Rattle.sheet.specs.Sheet.{Sheet, sheet_of, sheet_in}
use Rattle.sheet.specs.declared.Sections.{Sections}
use Rattle.sheet.proofs.AcceptedLaws.{accepted}
use Rattle.number_bytes.specs.Numbers.{numbers_bytes}
use Rattle.number_bytes.proofs.NumberLaws.{numbers_length, numbers_append, counted_length}
use Rattle.split.specs.Conjuncts.{conjuncts}
use Rattle.split_range.proofs.SplitRangeLaws.{accepted_split}
use Rattle.expression_answer.specs.Split.{split_bytes}

-- ---- numbers, where a loop has written those before the i-th

module _ (numbers out₀ : List ℕ) where
  abbrev pub Written : List ℕ → ℕ → Type 0
  Written out i = out ≡ onto (numbers_bytes (take i numbers)) out₀

  pub written_first : Written out₀ 0
  unfolding onto numbers_bytes
  written_first = refl

  module _ (room : number_size * length numbers ≤ length out₀) where
    pub written_length : (out : List ℕ) (i : ℕ) → i ≤ length numbers → Written out i → length out ≡ length out₀
    written_length out i h w =
        let n = numbers_length (take i numbers) in
        let l = length-take-le i numbers h in
        ap length w ∙ onto_length (numbers_bytes (take i numbers)) out₀ (omega arith)

    pub written_next : (out Y : List ℕ) (i n at k : ℕ) → i < length numbers → n ≡ get_or numbers i 0 → at ≡ number_size * i → k ≡ length out - at → Written out i → Y ≡ onto (numbers_bytes (n ∷ [])) (take k (drop at out))
        → Written (take at out ++ (Y ++ drop k (drop at out))) (i + 1)
    written_next out Y i n at k h e a g w y =
        let size = numbers_length (take i numbers) in
        let l = length-take-le i numbers (omega arith) in
        let one : suc i ≡ i + 1 = omega arith in
        onto_part (numbers_bytes (take i numbers)) (numbers_bytes (n ∷ [])) out₀ out Y at k (omega arith) g (omega arith) w y
        ∙ ap (λ (bs : List ℕ). onto bs out₀) (sym (numbers_append (take i numbers) (n ∷ [])))
        ∙ ap (λ (m : ℕ). onto (numbers_bytes (take i numbers ++ (m ∷ []))) out₀) e
        ∙ ap (λ (l : List ℕ). onto (numbers_bytes l) out₀) (sym (take-suc numbers i 0 h))
        ∙ ap (λ (m : ℕ). onto (numbers_bytes (take m numbers)) out₀) one

  pub written_all : (out : List ℕ) (i : ℕ) → length numbers ≤ i → Written out i → out ≡ onto (numbers_bytes numbers) out₀
  written_all out i h w = w ∙ ap (λ (l : List ℕ). onto (numbers_bytes l) out₀) (take_all i numbers h)

-- ---- the answer

module _ (sheet : Sheet) (e : ℕ) where
  pub split_length : length (split_bytes sheet e) ≡ count_size + number_size * length (conjuncts sheet e)
  unfolding split_bytes
  split_length = counted_length (length (conjuncts sheet e)) (numbers_bytes (conjuncts sheet e)) ∙ ap (λ (n : ℕ). count_size + n) (numbers_length (conjuncts sheet e))

  -- the first n of the array that holds them
  module _ (held X : List ℕ) (n : ℕ) (f : n ≡ length (conjuncts sheet e)) (x : X ≡ onto (conjuncts sheet e) held) where
    pub split_taken : take n X ≡ conjuncts sheet e
    unfolding onto
    split_taken = ap (take n) x ∙ take_at (conjuncts sheet e) (drop (length (conjuncts sheet e)) held) n (sym f)

    pub split_count : n ≡ length (take n X)
    split_count = f ∙ ap length (sym split_taken)

  -- the count is put to the front, and the numbers to the front of the part behind it
  pub split_written : (n k : ℕ) (ns out X Y : List ℕ) → n ≡ length (conjuncts sheet e) → ns ≡ conjuncts sheet e → count_size ≤ length out → X ≡ onto (u16_bytes n) out → k ≡ length X - count_size → Y ≡ onto (numbers_bytes ns) (take k (drop count_size X))
      → take count_size X ++ (Y ++ drop k (drop count_size X)) ≡ onto (split_bytes sheet e) out
  unfolding split_bytes
  split_written n k ns out X Y f g h x l y =
      onto_part (u16_bytes n) (numbers_bytes ns) out X Y count_size k (bytes_length 2 n) l h x y
      ∙ ap (λ (m : ℕ). onto (u16_bytes m ++ numbers_bytes ns) out) f
      ∙ ap (λ (m : List ℕ). onto (u16_bytes (length (conjuncts sheet e)) ++ numbers_bytes m) out) g

-- an accepted sheet's
pub split_most : (s : List ℕ) (c : Checked) (q : Sections) (e : ℕ) → c ≡ check s → c ≡ Accepted q → length (conjuncts (sheet_of s q) e) ≤ operand_limit
unfolding sheet_in
split_most s c q e f g =
    let a = accepted s q (sym f ∙ g) in
    subst (λ (x : Sections). length (conjuncts (sheet_of s x) e) ≤ operand_limit) a.1 (accepted_split s a.0 e)
