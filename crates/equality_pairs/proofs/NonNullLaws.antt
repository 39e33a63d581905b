-- Laws of the marks: what a pass does to them, and that one which adds no column leaves them as they are. Assumes nothing.
use Prim.Native.Nat.{ℕ, zero, suc, ◌+◌, ◌-◌, ◌<◌, ◌≤◌}
use mathlib.Core.Path.{◌≡◌, refl, sym, ap, ◌∙◌}
use mathlib.Core.Logic.{inl, inr, ◌⊎◌}
use mathlib.Core.Bool.{Bool, true, false, cond, not, ◌||◌, beq, false≢true, true≢false}
use mathlib.Core.List.{List, [], ◌∷◌, Memᴰ}
use native.Mathlib.Omega.{arith}
use borrow.Author.Tests.{eqb-true, eq-eqb, ne_eqb, not-false}
use lib.Dec.{eqb}
use native.Mathlib.Numerals.{add-one}
use lib.ListN.{length, get_or, set, drop, length-set, drop_of_length-le}
use lib.Seq.{drop-cons, set-get_or}
use Rattle.equality_pairs.specs.declared.pairs.EqualityPair.{EqualityPair}
use Rattle.equality_pairs.specs.NonNull.{is_marked, with_both, with_ordinary, extended, extends, pass, pass_extends, count, passes}

-- ---- a pair

-- a column that is marked already
set_marked : (marks : List Bool) (column : ℕ) → is_marked marks column ≡ true → set marks column true ≡ marks
set_marked marks column h = ap (set marks column) (sym h) ∙ set-get_or marks column false

module _ (marks : List Bool) (pair : EqualityPair) (x y : Bool) (left : x ≡ is_marked marks pair.left) (right : y ≡ is_marked marks pair.right) where
  -- both columns marked, or neither
  pub extended_even : beq x y ≡ true → marks ≡ extended marks pair
  unfolding with_both
  extended_even e = go x y left right e ∙ ap (λ (b : Bool). cond b (with_both marks pair) marks) (λ i. left i || right i)
    where
      go : (x y : Bool) → x ≡ is_marked marks pair.left → y ≡ is_marked marks pair.right → beq x y ≡ true → marks ≡ cond (x || y) (with_both marks pair) marks
      go true true l r e = rw (set_marked marks pair.left (sym l), set_marked marks pair.right (sym r)) refl
      go true false l r e = absurd (false≢true e)
      go false true l r e = absurd (false≢true e)
      go false false l r e = refl

  pub extends_even : beq x y ≡ true → false ≡ extends marks pair
  extends_even e = ap not (sym e ∙ (λ i. beq (left i) (right i)))

  pub extends_uneven : beq x y ≡ false → true ≡ extends marks pair
  extends_uneven e = ap not (sym e ∙ (λ i. beq (left i) (right i)))

  -- one of the two
  pub extended_uneven : (out : List Bool) → beq x y ≡ false → out ≡ with_both marks pair → out ≡ extended marks pair
  extended_uneven out e f =
      f
      ∙ ap (λ (b : Bool). cond b (with_both marks pair) marks) (sym (one x y e) ∙ (λ i. left i || right i))
    where
      one : (x y : Bool) → beq x y ≡ false → x || y ≡ true
      one true true e = absurd (true≢false e)
      one true false e = refl
      one false true e = refl
      one false false e = absurd (true≢false e)

-- ---- a loop over pairs that stands at the i-th

module _ (pairs : List EqualityPair) (marks : List Bool) (i : ℕ) where
  pub ordinary_end : length pairs ≤ i → marks ≡ with_ordinary marks (drop i pairs)
  unfolding with_ordinary
  ordinary_end h = ap (with_ordinary marks) (sym (drop_of_length-le pairs h))

  pub pass_end : length pairs ≤ i → marks ≡ pass marks (drop i pairs)
  unfolding pass
  pass_end h = ap (pass marks) (sym (drop_of_length-le pairs h))

  pub extends_end : (changed : Bool) → length pairs ≤ i → changed ≡ (changed || pass_extends marks (drop i pairs))
  unfolding pass_extends
  extends_end changed h = none changed ∙ ap (λ (l : List EqualityPair). changed || pass_extends marks l) (sym (drop_of_length-le pairs h))
    where
      none : (b : Bool) → b ≡ (b || false)
      none true = refl
      none false = refl

  module _ (d pair : EqualityPair) (out : List Bool) (h : i < length pairs) (is : pair ≡ get_or pairs i d) where
    next : pair ∷ drop (i + 1) pairs ≡ drop i pairs
    next = (λ j. is j ∷ drop (add-one i j) pairs) ∙ sym (drop-cons pairs i d h)

    pub ordinary_next : out ≡ cond pair.null_safe marks (with_both marks pair) → with_ordinary out (drop (i + 1) pairs) ≡ with_ordinary marks (drop i pairs)
    unfolding with_ordinary
    ordinary_next e = ap (λ (m : List Bool). with_ordinary m (drop (i + 1) pairs)) e ∙ ap (with_ordinary marks) next

    pub pass_next : out ≡ extended marks pair → pass out (drop (i + 1) pairs) ≡ pass marks (drop i pairs)
    unfolding pass
    pass_next e = ap (λ (m : List Bool). pass m (drop (i + 1) pairs)) e ∙ ap (pass marks) next

    -- what the pairs before the i-th extended, or those from it on do
    pub extends_next : (changed extending : Bool) → out ≡ extended marks pair → extending ≡ extends marks pair
        → ((changed || extending) || pass_extends out (drop (i + 1) pairs)) ≡ (changed || pass_extends marks (drop i pairs))
    unfolding pass_extends
    extends_next changed extending e f =
        (λ k. (changed || f k) || pass_extends (e k) (drop (i + 1) pairs))
        ∙ grouped changed (extends marks pair) (pass_extends (extended marks pair) (drop (i + 1) pairs))
        ∙ ap (λ (l : List EqualityPair). changed || pass_extends marks l) next
      where
        grouped : (a b c : Bool) → ((a || b) || c) ≡ (a || (b || c))
        grouped true b c = refl
        grouped false b c = refl

-- a pass that extends no marks leaves them
pub pass_same : (marks : List Bool) (pairs : List EqualityPair) → pass_extends marks pairs ≡ false → pass marks pairs ≡ marks
unfolding pass pass_extends
pass_same marks [] h = refl
pass_same marks (pair ∷ pairs) h = go (beq (is_marked marks pair.left) (is_marked marks pair.right)) (pass_same (extended marks pair) pairs) (extended_even marks pair _ _ refl refl) h
  where
    go : (b : Bool) → (pass_extends (extended marks pair) pairs ≡ false → pass (extended marks pair) pairs ≡ extended marks pair) → (b ≡ true → marks ≡ extended marks pair)
        → (not b || pass_extends (extended marks pair) pairs) ≡ false → pass (extended marks pair) pairs ≡ marks
    go true r e h = r h ∙ sym (e refl)
    go false r e h = absurd (true≢false h)

-- ---- how many are marked

-- the same marks, or more of them
abbrev More : List Bool → List Bool → Type 0
More marks out = (out ≡ marks) ⊎ (count marks < count out)

more_count : (marks out : List Bool) → More marks out → count marks ≤ count out
more_count marks out (inl e) = rw e (omega arith)
more_count marks out (inr h) = omega arith

more_then : (marks out out' : List Bool) → More marks out → More out out' → More marks out'
more_then marks out out' (inl e) (inl f) = inl (f ∙ e)
more_then marks out out' (inl e) (inr h) = inr (rw e at h)
more_then marks out out' (inr h) m = inr (let k = more_count out out' m in omega arith)

set_more : (marks : List Bool) (column : ℕ) → More marks (set marks column true)
unfolding count
set_more [] column = inl refl
set_more (true ∷ marks) zero = inl refl
set_more (false ∷ marks) zero = inr (omega arith)
set_more (x ∷ marks) (suc column) = go (set_more marks column)
  where
    go : More marks (set marks column true) → More (x ∷ marks) (x ∷ set marks column true)
    go (inl e) = inl (ap (λ (l : List Bool). x ∷ l) e)
    go (inr h) = inr (omega arith)

extended_more : (marks : List Bool) (pair : EqualityPair) → More marks (extended marks pair)
unfolding with_both
extended_more marks pair = go (is_marked marks pair.left || is_marked marks pair.right)
  where
    go : (b : Bool) → More marks (cond b (with_both marks pair) marks)
    go true =
        more_then marks (set marks pair.left true) (with_both marks pair) (set_more marks pair.left) (set_more (set marks pair.left true) pair.right)
    go false = inl refl

pass_more : (marks : List Bool) (pairs : List EqualityPair) → More marks (pass marks pairs)
unfolding pass
pass_more marks [] = inl refl
pass_more marks (pair ∷ pairs) = more_then marks (extended marks pair) (pass (extended marks pair) pairs) (extended_more marks pair) (pass_more (extended marks pair) pairs)

pass_still : (marks : List Bool) (pairs : List EqualityPair) → count (pass marks pairs) ≡ count marks → pass marks pairs ≡ marks
pass_still marks pairs e = go (pass_more marks pairs)
  where
    go : More marks (pass marks pairs) → pass marks pairs ≡ marks
    go (inl f) = f
    go (inr h) = absurd (none (count marks) (count (pass marks pairs)) e h)
      where
        none : (m n : ℕ) → n ≡ m → m < n → ⊥
        none m n e h = omega arith

-- ---- what extends marks adds a column, where the columns have marks

-- a column that is not marked yet
set_adds : (marks : List Bool) (column : ℕ) → column < length marks → is_marked marks column ≡ false → count marks < count (set marks column true)
unfolding count
set_adds [] column h e = absurd (none column h)
  where
    none : (n : ℕ) → n < 0 → ⊥
    none n h = omega arith
set_adds (true ∷ marks) zero h e = absurd (true≢false e)
set_adds (false ∷ marks) zero h e = omega arith
set_adds (x ∷ marks) (suc column) h e =
    let more = set_adds marks column (less column (length marks) h) e in
    omega arith
  where
    less : (i n : ℕ) → suc i < suc n → i < n
    less i n h = omega arith

extended_adds : (marks : List Bool) (pair : EqualityPair) → pair.left < length marks → pair.right < length marks → extends marks pair ≡ true → count marks < count (extended marks pair)
unfolding with_both
extended_adds marks pair l r = go (is_marked marks pair.left) (is_marked marks pair.right) refl refl
  where
    go : (x y : Bool) → is_marked marks pair.left ≡ x → is_marked marks pair.right ≡ y → not (beq x y) ≡ true → count marks < count (cond (x || y) (with_both marks pair) marks)
    go true true f g e = absurd (false≢true e)
    go true false f g e = rw (set_marked marks pair.left f) (set_adds marks pair.right r g)
    go false true f g e =
        let first = set_adds marks pair.left l f in
        let then = more_count (set marks pair.left true) (with_both marks pair) (set_more (set marks pair.left true) pair.right) in
        omega arith
    go false false f g e = absurd (false≢true e)

extended_length : (marks : List Bool) (pair : EqualityPair) → length (extended marks pair) ≡ length marks
unfolding with_both
extended_length marks pair = go (is_marked marks pair.left || is_marked marks pair.right)
  where
    go : (b : Bool) → length (cond b (with_both marks pair) marks) ≡ length marks
    go true = length-set (set marks pair.left true) pair.right true ∙ length-set marks pair.left true
    go false = refl

-- both columns of each pair
abbrev HaveMarks : List Bool → List EqualityPair → Type 0
HaveMarks marks pairs = (pair : EqualityPair) → Memᴰ pair pairs → (pair.left < length marks) × (pair.right < length marks)

-- a pass extends the marks exactly when it adds a column
pub pass_extends_law : (marks : List Bool) (pairs : List EqualityPair) → HaveMarks marks pairs → pass_extends marks pairs ≡ not (eqb (count (pass marks pairs)) (count marks))
unfolding pass pass_extends
pass_extends_law marks [] have = rw (eq-eqb (count marks) (count marks) refl) refl
pass_extends_law marks (pair ∷ pairs) have =
    go (extends marks pair) refl (have pair (Memᴰ.head refl)) (pass_extends_law (extended marks pair) pairs (λ (p : EqualityPair) (m : Memᴰ p pairs). rw (extended_length marks pair) (have p (Memᴰ.tail m))))
  where
    rest : List Bool
    rest = pass (extended marks pair) pairs

    apart : (m n k : ℕ) → m < n → n ≤ k → k ≡ m → ⊥
    apart m n k h l e = omega arith

    go : (b : Bool) → extends marks pair ≡ b → (pair.left < length marks) × (pair.right < length marks) → pass_extends (extended marks pair) pairs ≡ not (eqb (count rest) (count (extended marks pair)))
        → (b || pass_extends (extended marks pair) pairs) ≡ not (eqb (count rest) (count marks))
    go true e within r =
        sym (ap not (ne_eqb (count rest) (count marks) (apart _ _ _ (extended_adds marks pair within.0 within.1 e) (more_count (extended marks pair) rest (pass_more (extended marks pair) pairs)))))
    go false e within r = r ∙ ap (λ (m : List Bool). not (eqb (count rest) (count m))) (sym (extended_even marks pair _ _ refl refl (not-false _ e)))

-- ---- passes

module _ (pairs : List EqualityPair) where
  -- a pass that changes nothing is the last
  pub passes_still : (k : ℕ) (marks : List Bool) → pass marks pairs ≡ marks → passes k marks pairs ≡ marks
  unfolding passes
  passes_still zero marks e = refl
  passes_still (suc k) marks e = go (eqb (count (pass marks pairs)) (count marks)) (passes_still k marks e)
    where
      go : (b : Bool) → passes k marks pairs ≡ marks → elim b [ true ↦ pass marks pairs | false ↦ passes k (pass marks pairs) pairs ] ≡ marks
      go true r = e
      go false r = ap (λ (m : List Bool). passes k m pairs) e ∙ r

  pub passes_next : (k : ℕ) (marks : List Bool) → passes (suc k) marks pairs ≡ passes k (pass marks pairs) pairs
  unfolding passes
  passes_next k marks = go (eqb (count (pass marks pairs)) (count marks)) (eqb-true _ _)
    where
      go : (b : Bool) → (b ≡ true → count (pass marks pairs) ≡ count marks) → elim b [ true ↦ pass marks pairs | false ↦ passes k (pass marks pairs) pairs ] ≡ passes k (pass marks pairs) pairs
      go true e =
          let still = pass_still marks pairs (e refl) in
          still ∙ sym (passes_still k marks still) ∙ ap (λ (m : List Bool). passes k m pairs) (sym still)
      go false e = refl

  -- the turns of a loop with k passes to go

  pub passes_last : (k : ℕ) (marks out : List Bool) → out ≡ pass marks pairs → pass_extends marks pairs ≡ false → out ≡ passes k marks pairs
  passes_last k marks out e f = let still = pass_same marks pairs f in e ∙ still ∙ sym (passes_still k marks still)

  pub passes_turn : (i n : ℕ) (marks out : List Bool) → i < n → out ≡ pass marks pairs → passes (n - (i + 1)) out pairs ≡ passes (n - i) marks pairs
  passes_turn i n marks out h e =
      (λ k. passes (n - (i + 1)) (e k) pairs)
      ∙ sym (passes_next (n - (i + 1)) marks)
      ∙ ap (λ (k : ℕ). passes k marks pairs) (one_more i n h)
    where
      one_more : (i n : ℕ) → i < n → suc (n - (i + 1)) ≡ n - i
      one_more i n h = omega arith

  pub passes_none : (i n : ℕ) (marks : List Bool) → n ≤ i → marks ≡ passes (n - i) marks pairs
  unfolding passes
  passes_none i n marks h = ap (λ (k : ℕ). passes k marks pairs) (none i n h)
    where
      none : (i n : ℕ) → n ≤ i → 0 ≡ n - i
      none i n h = omega arith
