-- Laws of operand runs: for the loop that looks for an operand's expression, and for what it finds. Assumes nothing.
use Prim.Native.Nat.{ℕ, zero, suc, ◌+◌, ◌-◌, ◌*◌, ◌≤◌, ◌<◌}
use mathlib.Core.Path.{◌≡◌, refl, sym, ap, ◌∙◌, subst}
use mathlib.Core.Bool.{Bool, true, false, cond, ◌&&◌, false≢true}
use mathlib.Core.Logic.{inl, inr}
use mathlib.Core.List.{List}
use native.Mathlib.Omega.{arith}
use native.Mathlib.Nat.{add-zero, zero-add, eq-or-lt_of_le}
use lib.Dec.{ltb, leb}
use Rattle.std.specs.Prelude.{Option, Some, None, unwrap_or}
use Rattle.std.specs.Option.{MatchOption}
use Rattle.std.specs.List.{sum_by, range_with_len}
use Rattle.std.proofs.lemmas.List.Sums.{sum_by-cons}
use Rattle.le.proofs.FieldLaws.{Bytes, field_below}
use borrow.Author.Tests.{ltb-true, ltb-false, le-ltb, le-leb}
use Rattle.le.specs.Fields.{u16_at}
use Rattle.expression_rules.specs.Operands.{expression_place, is_nary, run_length, runs_before, run_holds, first_holding, nary_from, nary_of, RunsFollow}

-- ---- the first that holds an operand

holding_end : (s : List ℕ) (x i f n : ℕ) → n ≡ 0 → first_holding s x i f n ≡ f
unfolding first_holding
holding_end s x i f n e = rw e refl

-- ---- what a search for it finds, from the e-th of n on

module _ (s : List ℕ) (x i : ℕ) where
  abbrev Passed : ℕ → ℕ → Type 0
  Passed e f = (k : ℕ) → e ≤ k → k < f → run_holds s x i k ≡ false

  pub search_found : (e n f : ℕ) → Passed e f → e ≤ f → f < e + n → run_holds s x i f ≡ true → first_holding s x i e n ≡ f
  unfolding first_holding
  search_found e zero f p l h t = absurd (omega arith)
  search_found e (suc n) f p l h t = elim (eq-or-lt_of_le l) [
    | inl same ↦ rw (same, t) refl
    | inr less ↦ rw (p e (omega arith) less) (search_found (e + 1) n f (λ k a b. p k (omega arith) b) (omega arith) (omega arith) t)
  ]

  pub search_none : (e n : ℕ) → Passed e (e + n) → first_holding s x i e n ≡ e + n
  unfolding first_holding
  search_none e zero p = sym (add-zero e)
  search_none e (suc n) p =
      let one : e + 1 + n ≡ e + suc n = omega arith in
      rw (p e (omega arith) (omega arith)) (search_none (e + 1) n (λ k a b. p k (omega arith) (omega arith)) ∙ one)

  -- by what the search gives
  pub holding_search : (e n : ℕ) (r : Option ℕ) → e ≤ n → MatchOption r ((k : ℕ) → e ≤ k → k < n → run_holds s x i k ≡ false) (λ f. (e ≤ f) × (f < n) × (run_holds s x i f ≡ true) × ((k : ℕ) → e ≤ k → k < f → run_holds s x i k ≡ false)) → unwrap_or r n ≡ first_holding s x i e (n - e)
  holding_search e n (Some f) l m = sym (search_found e (n - e) f m.3 m.0 (omega (arith, m.1)) m.2)
  holding_search e n None l m =
      let whole : e + (n - e) ≡ n = omega arith in
      sym (search_none e (n - e) (λ k a b. m k a (omega arith)) ∙ whole)

-- ---- how many operands there are before an expression

pub runs_next : (s : List ℕ) (x i : ℕ) → runs_before s x (suc i) ≡ runs_before s x i + run_length s (expression_place x i)
unfolding runs_before
runs_next s x i = refl

pub runs_step : (s : List ℕ) (x i : ℕ) → runs_before s x (i + 1) ≡ runs_before s x i + run_length s (expression_place x i)
runs_step s x i = ap (runs_before s x) (one i) ∙ runs_next s x i
  where
    one : (i : ℕ) → i + 1 ≡ suc i
    one i = omega arith

-- as a sum, each run having fewer than 2 ^ 16 operands
module _ (s : List ℕ) (x : ℕ) where
  abbrev pub run_of : ℕ → ℕ
  run_of e = run_length s (expression_place x e)

  sum_more : (i n : ℕ) → sum_by run_of (range_with_len i (suc n)) ≡ sum_by run_of (range_with_len i n) + run_of (i + n)
  sum_more i zero = ap (λ (k : ℕ). 0 + run_of k) (sym (add-zero i))
  sum_more i (suc n) =
      let all = sum_by-cons run_of i (range_with_len (i + 1) (suc n)) in
      let rest = sum_by-cons run_of i (range_with_len (i + 1) n) in
      let more = sum_more (i + 1) n in
      let last : run_of (i + 1 + n) ≡ run_of (i + suc n) = ap run_of (omega arith) in
      all ∙ omega arith ∙ ap (λ (m : ℕ). m + run_of (i + suc n)) (sym rest)

  pub runs_sum : (n : ℕ) → sum_by run_of (range_with_len 0 n) ≡ runs_before s x n
  unfolding runs_before
  runs_sum zero = refl
  runs_sum (suc n) = sum_more 0 n ∙ (ap (λ (k : ℕ). sum_by run_of (range_with_len 0 n) + run_of k) (zero-add n) ∙ ap (λ (m : ℕ). m + run_of n) (runs_sum n))

  pub runs_few : Bytes s → (n : ℕ) → runs_before s x n ≤ 65535 * n
  unfolding runs_before
  runs_few b zero = omega arith
  runs_few b (suc n) = let few = runs_few b n in let one = run_few (is_nary s (expression_place x n)) _ (field_below 2 s (expression_place x n + 4) b) in omega arith
    where
      run_few : (t : Bool) (v : ℕ) → v < 65536 → cond t v 0 ≤ 65535
      run_few true v h = omega arith
      run_few false v h = omega arith

-- ---- where the owner of an operand is

holding_within : (s : List ℕ) (x i e n : ℕ) → first_holding s x i e n ≤ e + n
unfolding first_holding
holding_within s x i e zero = omega arith
holding_within s x i e (suc n) = either (run_holds s x i e) (first_holding s x i (e + 1) n) (holding_within s x i (e + 1) n)
  where
    either : (t : Bool) (o : ℕ) → o ≤ e + 1 + n → cond t e o ≤ e + suc n
    either true o l = omega arith
    either false o l = omega arith

pub nary_within : (s : List ℕ) (x i e : ℕ) → e ≤ u16_at s x → nary_from s x i e ≤ u16_at s x
nary_within s x i e l =
    let h : e + (u16_at s x - e) ≡ u16_at s x = omega arith in
    subst (λ (k : ℕ). nary_from s x i e ≤ k) h (holding_within s x i e (u16_at s x - e))

pub owner_within : (s : List ℕ) (x i : ℕ) → nary_of s x i ≤ u16_at s x
unfolding nary_of
owner_within s x i = nary_within s x i 0 (omega arith)

-- ---- by whether an expression is n-ary, with a and b its fields and r the operands before it, which are at most i

held : (t : Bool) (i a b r : ℕ) → (t ≡ true → a ≡ r) → r ≤ i → (t && (leb a i && ltb i (a + b))) ≡ true → (t ≡ true) × ((a ≤ i) × (i < a + b))
held false i a b r k l h = absurd (false≢true h)
held true i a b r k l h =
    let q : a ≡ r = k refl in
    let m : leb a i ≡ true = le-leb a i (omega arith) in
    (refl, (omega arith, ltb-true i (a + b) (rw m at h)))

passed : (t : Bool) (i a b r : ℕ) → (t ≡ true → a ≡ r) → r ≤ i → (t && (leb a i && ltb i (a + b))) ≡ false → r + cond t b 0 ≤ i
passed false i a b r k l h = omega arith
passed true i a b r k l h =
    let q : a ≡ r = k refl in
    let m : leb a i ≡ true = le-leb a i (omega arith) in
    let n : a + b ≤ i = ltb-false i (a + b) (rw m at h) in
    omega arith

-- a run that does not hold operand i does not hold the next one
later_not : (t : Bool) (i a b r : ℕ) → (t ≡ true → a ≡ r) → r ≤ i → (t && (leb a i && ltb i (a + b))) ≡ false → (t && (leb a (i + 1) && ltb (i + 1) (a + b))) ≡ false
later_not false i a b r k l h = refl
later_not true i a b r k l h =
    let q : a ≡ r = k refl in
    let p : r + b ≤ i = passed true i a b r k l h in
    rw (le-leb a (i + 1) (omega arith), le-ltb (i + 1) (a + b) (omega arith)) refl

-- Looked for from the owner of operand i on, operand i + 1 finds the owner that it finds from the first expression on, where runs follow each other.
onward : (s : List ℕ) (x i e n : ℕ) → RunsFollow s x → e + n ≤ u16_at s x → runs_before s x e ≤ i → first_holding s x (i + 1) (first_holding s x i e n) (e + n - first_holding s x i e n) ≡ first_holding s x (i + 1) e n
unfolding first_holding
onward s x i e zero f m l = holding_end s x (i + 1) e (e + 0 - e) (omega arith)
onward s x i e (suc n) f m l = by_flag (run_holds s x i e) refl (λ (r : runs_before s x (e + 1) ≤ i). onward s x i (e + 1) n f (omega arith) r)
  where
    o : ℕ
    o = first_holding s x i (e + 1) n

    all : ℕ
    all = first_holding s x (i + 1) (e + 1) n

    within : e < u16_at s x
    within = omega arith

    by_flag : (t : Bool) → run_holds s x i e ≡ t → (runs_before s x (e + 1) ≤ i → first_holding s x (i + 1) o (e + 1 + n - o) ≡ all) → first_holding s x (i + 1) (cond t e o) (e + suc n - cond t e o) ≡ cond (run_holds s x (i + 1) e) e all
    by_flag true h r =
        let k : e + suc n - e ≡ suc n = omega arith in
        ap (first_holding s x (i + 1) e) k
    by_flag false h r =
        let k : e + suc n - o ≡ e + 1 + n - o = omega arith in
        let p : runs_before s x e + run_length s (expression_place x e) ≤ i = passed _ i _ _ (runs_before s x e) (f e within) l h in
        let no : run_holds s x (i + 1) e ≡ false = later_not (is_nary s (expression_place x e)) i _ _ (runs_before s x e) (f e within) l h in
        rw (k, no) (r (subst (λ (k : ℕ). k ≤ i) (sym (runs_step s x e)) p))

pub owner_next : (s : List ℕ) (x i : ℕ) → RunsFollow s x → nary_from s x (i + 1) (nary_of s x i) ≡ nary_of s x (i + 1)
unfolding nary_of runs_before
owner_next s x i f =
    let n : ℕ = u16_at s x in
    let o : ℕ = first_holding s x i 0 n in
    let h : n - 0 ≡ n = omega arith in
    rw h (subst (λ (k : ℕ). first_holding s x (i + 1) o (k - o) ≡ first_holding s x (i + 1) 0 n) (zero-add n) (onward s x i 0 n f (omega arith) (omega arith)))

-- ---- the owner's run holds the operand

-- expression o is one of the sheet's and n-ary, and operand i is one of its b operands from operand a on
abbrev pub Holds : List ℕ → ℕ → ℕ → ℕ → Type 0
Holds s x i o =
    (o < u16_at s x)
    × ((is_nary s (expression_place x o) ≡ true)
    × ((u16_at s (expression_place x o + 2) ≤ i) × (i < u16_at s (expression_place x o + 2) + u16_at s (expression_place x o + 4))))

holds_from : (s : List ℕ) (x i e n : ℕ) → RunsFollow s x → e + n ≤ u16_at s x → runs_before s x e ≤ i → i < runs_before s x (e + n) → Holds s x i (first_holding s x i e n)
unfolding first_holding
holds_from s x i e zero f m l u = absurd (none (runs_before s x e) (subst (λ (k : ℕ). i < runs_before s x k) (add-zero e) u) l)
  where
    none : (r : ℕ) → i < r → r ≤ i → ⊥
    none r u l = omega arith
holds_from s x i e (suc n) f m l u =
    by_flag (run_holds s x i e) refl (λ (r : runs_before s x (e + 1) ≤ i). holds_from s x i (e + 1) n f (omega arith) r (subst (λ (k : ℕ). i < runs_before s x k) (shift e n) u))
  where
    shift : (e n : ℕ) → e + suc n ≡ e + 1 + n
    shift e n = omega arith

    within : e < u16_at s x
    within = omega arith

    by_flag : (t : Bool) → run_holds s x i e ≡ t → (runs_before s x (e + 1) ≤ i → Holds s x i (first_holding s x i (e + 1) n)) → Holds s x i (cond t e (first_holding s x i (e + 1) n))
    by_flag true h r = (within, held _ i _ _ (runs_before s x e) (f e within) l h)
    by_flag false h r =
        let p : runs_before s x e + run_length s (expression_place x e) ≤ i = passed _ i _ _ (runs_before s x e) (f e within) l h in
        r (subst (λ (k : ℕ). k ≤ i) (sym (runs_step s x e)) p)

-- On a sheet whose runs follow each other, every operand that they have room for stands in the run of the expression that is found for it.
pub owner_holds : (s : List ℕ) (x i : ℕ) → RunsFollow s x → i < runs_before s x (u16_at s x) → Holds s x i (nary_of s x i)
unfolding nary_of runs_before
owner_holds s x i f u =
    let h : u16_at s x - 0 ≡ u16_at s x = omega arith in
    rw h (holds_from s x i 0 (u16_at s x) f (omega arith) (omega arith) (subst (λ (k : ℕ). i < runs_before s x k) (sym (zero-add (u16_at s x))) u))
