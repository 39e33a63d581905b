-- Laws of conjuncts: what an expression gives, and the operands of a run one by one. Assumes nothing.
use Prim.Native.Nat.{ℕ, suc, ◌+◌, ◌-◌, ◌≤◌, ◌<◌, min}
use mathlib.Core.Path.{◌≡◌, refl, sym, ap, ◌∙◌}
use mathlib.Core.List.{List, [], ◌∷◌, ◌++◌, append_assoc}
use native.Mathlib.Omega.{arith}
use lib.ListN.{length, take, drop, get_or, set, length-append}
use lib.Seq.{drop-cons, append_snoc, set-append_seam}
use Rattle.records.specs.Lists.{tabulate_from}
use Rattle.records.specs.declared.expressions.Expression.{Expression}
use Rattle.records.proofs.ListLaws.{tabulate_step, tabulate_end}
use Rattle.sheet.specs.Sheet.{Sheet, sheet_of}
use Rattle.sheet.specs.declared.Sections.{Sections}
use Rattle.lookup.specs.Lookup.{expression_of, operand_in, operands_of}
use Rattle.lookup.specs.Recursion.{below, by_number}
use Rattle.lookup.proofs.LookupLaws.{operands_from}
use Rattle.lookup.proofs.RecursionLaws.{below_is, below_not}
use Rattle.le.specs.Fields.{onto}
use Rattle.number_bytes.proofs.FilledLaws.{Filled, filled_first, filled_within, filled_room, filled_part, filled_next, filled_length, filled_all}
use Rattle.split.specs.Conjuncts.{and_run, flattened, run_conjuncts, conjuncts_by, itself, conjuncts}
use Rattle.lookup.specs.declared.numbers.Run.{Run}
use Rattle.std.specs.Prelude.{Option, None, Some}

-- ---- one expression

module _ (sheet : Sheet) (e : ℕ) (x : Expression) (run : Option Run) (at : x ≡ expression_of sheet e) (is : run ≡ and_run x) where
  by_run : run_conjuncts sheet (below (conjuncts_by sheet) itself e) e run ≡ conjuncts sheet e
  unfolding conjuncts by_number conjuncts_by
  by_run = ap (run_conjuncts sheet (below (conjuncts_by sheet) itself e) e) (is ∙ ap and_run at)

  -- no And: itself
  pub alone : run ≡ None → e ∷ [] ≡ conjuncts sheet e
  alone a = ap (run_conjuncts sheet (below (conjuncts_by sheet) itself e) e) (sym a) ∙ by_run

  -- an And: its operands'
  pub apart : (r : Run) → run ≡ Some r → flattened (below (conjuncts_by sheet) itself e) (operands_of sheet r.first r.count) ≡ conjuncts sheet e
  apart r a = ap (run_conjuncts sheet (below (conjuncts_by sheet) itself e) e) (sym a) ∙ by_run

-- ---- an operand, below a limit or not

module _ (sheet : Sheet) (limit o : ℕ) where
  pub operand_below : o < limit → conjuncts sheet o ≡ below (conjuncts_by sheet) itself limit o
  unfolding conjuncts
  operand_below h = below_is (conjuncts_by sheet) itself limit o h

  pub operand_not_below : limit ≤ o → o ∷ [] ≡ below (conjuncts_by sheet) itself limit o
  operand_not_below h = below_not (conjuncts_by sheet) itself limit o h

-- ---- a number that is stored

pub stored_first : (l : List ℕ) (n : ℕ) → 1 ≤ length l → set l 0 n ≡ onto (n ∷ []) l
unfolding onto
stored_first [] n h = absurd (none h)
  where
    none : 1 ≤ 0 → ⊥
    none h = omega arith
stored_first (x ∷ l) n h = refl

-- behind those that are there already
stored_behind : (done out : List ℕ) (n : ℕ) → length done < length out → set (onto done out) (length done) n ≡ onto (done ++ (n ∷ [])) out
unfolding onto
stored_behind done out n h =
    let rest : List ℕ = drop (suc (length done)) out in
    let long : length (done ++ (n ∷ [])) ≡ suc (length done) = length-append done (n ∷ []) ∙ one (length done) in
    ap (λ (l : List ℕ). set (done ++ l) (length done) n) (drop-cons out (length done) 0 h)
    ∙ set-append_seam done (get_or out (length done) 0) rest n
    ∙ sym (append_snoc done n rest)
    ∙ ap (λ (m : ℕ). (done ++ (n ∷ [])) ++ drop m out) (sym long)
  where
    one : (m : ℕ) → m + 1 ≡ suc m
    one m = omega arith

-- ---- the operands of a run, where a loop stands at the i-th and has put the conjuncts of those before it

module _ (s : List ℕ) (q : Sections) (first count limit : ℕ) where
  abbrev pub operand_conjuncts : ℕ → List ℕ
  operand_conjuncts = below (conjuncts_by (sheet_of s q)) itself limit

  abbrev pub all : List ℕ
  all = flattened operand_conjuncts (operands_of (sheet_of s q) first count)

  unfoldable pub rest_from : ℕ → ℕ → List ℕ
  rest_from end i = flattened operand_conjuncts (tabulate_from (operand_in s q.operands) i (end - i))

  -- `at` numbers are put into what held numbers₀
  abbrev pub Put : List ℕ → List ℕ → ℕ → ℕ → ℕ → Type 0
  Put numbers₀ numbers at i end = Filled (rest_from end) all numbers₀ numbers at i

  module _ (numbers₀ : List ℕ) where
    pub put_first : (end : ℕ) → end ≡ min (first + count) (length (sheet_of s q).operands) → Put numbers₀ numbers₀ 0 first end
    unfolding rest_from
    put_first end h = filled_first (rest_from end) all numbers₀ first (ap (flattened operand_conjuncts) (ap (λ (m : ℕ). tabulate_from (operand_in s q.operands) first (m - first)) h ∙ sym (operands_from s q first count)))

    pub put_all : (numbers : List ℕ) (at i end : ℕ) → end ≤ i → Put numbers₀ numbers at i end → (at ≡ length all) × (numbers ≡ onto all numbers₀)
    unfolding flattened rest_from
    put_all numbers at i end h p =
        let none : rest_from end i ≡ [] = ap (flattened operand_conjuncts) (tabulate_end (operand_in s q.operands) i end h) in
        (filled_length (rest_from end) all numbers₀ numbers at i none p, filled_all (rest_from end) all numbers₀ numbers at i none p)

    module _ (room : length all ≤ length numbers₀) where
      -- what is lent keeps its length, and what was put lies within it
      pub put_within : (numbers : List ℕ) (at i end : ℕ) → Put numbers₀ numbers at i end → (length numbers ≡ length numbers₀) × (at ≤ length numbers)
      put_within numbers at i end p = filled_within (rest_from end) all numbers₀ room numbers at i p

      module _ (numbers : List ℕ) (at i end o : ℕ) (h : i < end) (e : o ≡ operand_in s q.operands i) (p : Put numbers₀ numbers at i end) where
        next : (piece : List ℕ) → piece ≡ operand_conjuncts o → rest_from end i ≡ piece ++ rest_from end (i + 1)
        unfolding flattened rest_from
        next piece g =
            ap (flattened operand_conjuncts) (tabulate_step (operand_in s q.operands) i end h)
            ∙ ap (λ (l : List ℕ). l ++ rest_from end (i + 1)) (sym (g ∙ ap operand_conjuncts e))

        -- an operand below the limit: its conjuncts, in the part that is lent for them
        module _ (l : o < limit) where
          its : rest_from end i ≡ conjuncts (sheet_of s q) o ++ rest_from end (i + 1)
          its = next (conjuncts (sheet_of s q) o) (operand_below (sheet_of s q) limit o l)

          pub put_room : at + length (conjuncts (sheet_of s q) o) ≤ length numbers
          put_room = filled_room (rest_from end) all numbers₀ room numbers (conjuncts (sheet_of s q) o) at i p its

          pub put_part : length (conjuncts (sheet_of s q) o) ≤ length (take (length numbers - at) (drop at numbers))
          put_part = filled_part (rest_from end) all numbers₀ room numbers (conjuncts (sheet_of s q) o) at i p its

          pub put_next : (X Y : List ℕ) (a k n : ℕ) → X ≡ take at numbers ++ (Y ++ drop k (drop at numbers)) → a ≡ at + n → n ≡ length (conjuncts (sheet_of s q) o) → k ≡ length numbers - at
              → Y ≡ onto (conjuncts (sheet_of s q) o) (take k (drop at numbers)) → Put numbers₀ X a (i + 1) end
          put_next X Y a k n x b f g y = rw (x, b) (filled_next (rest_from end) all numbers₀ room numbers (conjuncts (sheet_of s q) o) at i p its Y k n f g y)

        -- any other operand is its own one conjunct
        module _ (l : limit ≤ o) where
          itself_next : rest_from end i ≡ (o ∷ []) ++ rest_from end (i + 1)
          itself_next = next (o ∷ []) (operand_not_below (sheet_of s q) limit o l)

          pub one_room : at + 1 ≤ length numbers
          one_room = filled_room (rest_from end) all numbers₀ room numbers (o ∷ []) at i p itself_next

          pub one_next : (X : List ℕ) (a : ℕ) → X ≡ set numbers at o → a ≡ at + 1 → Put numbers₀ X a (i + 1) end
          one_next X a x b =
              let w = put_within numbers at i end p in
              let r = p.reached in
              let m = one_room in
              let long = length-append p.done (o ∷ []) in
              record {
                done = p.done ++ (o ∷ []);
                placed = x ∙ ap (λ (l : List ℕ). set l at o) p.placed ∙ ap (λ (n : ℕ). set (onto p.done numbers₀) n o) r ∙ stored_behind p.done numbers₀ o (omega arith);
                reached = omega arith;
                left = append_assoc p.done (o ∷ []) (rest_from end (i + 1)) ∙ ap (λ (l : List ℕ). p.done ++ l) (sym itself_next) ∙ p.left;
              }
