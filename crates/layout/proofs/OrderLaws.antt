-- Laws of orders, and of the order of numbers. Assumes nothing.
use Prim.Native.Nat.{ℕ, ◌<◌, ◌≤◌}
use mathlib.Core.Path.{◌≡◌, refl, sym, ap, ◌∙◌}
use mathlib.Core.Bool.{Bool, true, false, cond, true≢false}
use native.Mathlib.Omega.{arith}
use lib.Dec.{ltb}
use borrow.Author.Tests.{ltb-true, ltb-false, lt-ltb, le-ltb}
use Rattle.layout.specs.Fields.{Order, before, same, after, order_then, number_order}
use Rattle.layout.specs.Lawful.{reverse, Ordered}

-- ---- no two of the three are one

abbrev is_before : Order → Bool
is_before before = true
is_before same = false
is_before after = false

abbrev is_same : Order → Bool
is_same before = false
is_same same = true
is_same after = false

pub before_not_same : before ≡ same → ⊥
before_not_same e = true≢false (ap is_before e)

pub after_not_same : after ≡ same → ⊥
after_not_same e = true≢false (sym (ap is_same e))

pub after_not_before : after ≡ before → ⊥
after_not_before e = true≢false (sym (ap is_before e))

pub same_not_before : same ≡ before → ⊥
same_not_before e = true≢false (sym (ap is_before e))

pub reverse_same : (o : Order) → o ≡ reverse o → o ≡ same
reverse_same before e = absurd (after_not_before (sym e))
reverse_same same e = refl
reverse_same after e = absurd (after_not_before e)

-- ---- numbers

pub data Compared (a b : ℕ) : Type 0 where
  less : a < b → number_order a b ≡ before → Compared a b
  equal : a ≡ b → number_order a b ≡ same → Compared a b
  more : b < a → number_order a b ≡ after → Compared a b

pub compared : (a b : ℕ) → Compared a b
compared a b = go (ltb a b) (ltb b a) refl refl
  where
    go : (t u : Bool) → ltb a b ≡ t → ltb b a ≡ u → Compared a b
    go true u e f = less (ltb-true a b e) (ap (λ (v : Bool). cond v before (cond (ltb b a) after same)) e)
    go false true e f = more (ltb-true b a f) (λ i. cond (e i) before (cond (f i) after same))
    go false false e f =
        let h : b ≤ a = ltb-false a b e in
        let k : a ≤ b = ltb-false b a f in
        equal (omega arith) (λ i. cond (e i) before (cond (f i) after same))

pub less_before : (a b : ℕ) → a < b → number_order a b ≡ before
less_before a b h = ap (λ (v : Bool). cond v before (cond (ltb b a) after same)) (lt-ltb a b h)

pub equal_same : (a : ℕ) → number_order a a ≡ same
equal_same a = let h : a ≤ a = omega arith in λ i. cond (le-ltb a a h i) before (cond (le-ltb a a h i) after same)

pub more_after : (a b : ℕ) → b < a → number_order a b ≡ after
more_after a b h = let l : b ≤ a = omega arith in λ i. cond (le-ltb a b l i) before (cond (lt-ltb b a h i) after same)

pub before_less : (a b : ℕ) → number_order a b ≡ before → a < b
before_less a b e = go (compared a b)
  where
    go : Compared a b → a < b
    go (less h f) = h
    go (equal h f) = absurd (same_not_before (sym f ∙ e))
    go (more h f) = absurd (after_not_before (sym f ∙ e))

pub same_equal : (a b : ℕ) → number_order a b ≡ same → a ≡ b
same_equal a b e = go (compared a b)
  where
    go : Compared a b → a ≡ b
    go (less h f) = absurd (before_not_same (sym f ∙ e))
    go (equal h f) = h
    go (more h f) = absurd (after_not_same (sym f ∙ e))

number_converse : (a b : ℕ) → number_order b a ≡ reverse (number_order a b)
number_converse a b = go (compared a b)
  where
    go : Compared a b → number_order b a ≡ reverse (number_order a b)
    go (less h f) = more_after b a h ∙ sym (ap reverse f)
    go (equal h f) = ap (λ (n : ℕ). number_order b n) h ∙ equal_same b ∙ sym (ap reverse f)
    go (more h f) = less_before b a h ∙ sym (ap reverse f)

-- an order that is the order of a number is lawful
pub keyed : {A : Type 0} (L : A → Type 0) (o : A → A → Order) (key : A → ℕ) → ((x y : A) → L x → L y → o x y ≡ number_order (key x) (key y)) → Ordered L o
keyed L o key is = record {
  converse = λ x y h k. is y x k h ∙ number_converse (key x) (key y) ∙ sym (ap reverse (is x y h k));
  transitive = λ x y z h k l e f.
      let a = before_less (key x) (key y) (sym (is x y h k) ∙ e) in
      let b = before_less (key y) (key z) (sym (is y z k l) ∙ f) in
      is x z h l ∙ less_before (key x) (key z) (omega arith);
  congruent = λ x y z h k l e. is x z h l ∙ ap (λ (n : ℕ). number_order n (key z)) (same_equal (key x) (key y) (sym (is x y h k) ∙ e)) ∙ sym (is y z k l);
}

-- ---- one order, and then another

-- what is the same in the first, and lawful, is ordered by the second
pub then_ordered : {A : Type 0} (L : A → Type 0) (o p : A → A → Order) → Ordered L o → Ordered L p → Ordered L (λ x y. order_then (o x y) (p x y))
then_ordered L o p a b = record {
  converse = λ x y h k. (λ i. order_then (a.converse x y h k i) (b.converse x y h k i)) ∙ reverse_then (o x y) (p x y);
  transitive = λ x y z h k l. transitive (o x y) (o y z) (o x z) (p x y) (p y z) (p x z) (a.transitive x y z h k l) (a.congruent x y z h k l) (back x y z h k l) (b.transitive x y z h k l);
  congruent = λ x y z h k l e.
      let f = first (o x y) (p x y) e in
      λ i. order_then (a.congruent x y z h k l f.0 i) (b.congruent x y z h k l f.1 i);
}
  where
    reverse_then : (v w : Order) → order_then (reverse v) (reverse w) ≡ reverse (order_then v w)
    reverse_then before w = refl
    reverse_then same w = refl
    reverse_then after w = refl

    first : (v w : Order) → order_then v w ≡ same → (v ≡ same) × (w ≡ same)
    first before w e = absurd (before_not_same e)
    first same w e = (refl, e)
    first after w e = absurd (after_not_same e)

    -- the second and the third are the same
    back : (x y z : _) → L x → L y → L z → o y z ≡ same → o x z ≡ o x y
    back x y z h k l e =
        a.converse z x l h ∙ ap reverse (a.congruent z y x l k h (a.converse y z k l ∙ ap reverse e)) ∙ sym (a.converse y x k h)

    transitive : (u v w : Order) (r s t : Order) → (u ≡ before → v ≡ before → w ≡ before) → (u ≡ same → w ≡ v) → (v ≡ same → w ≡ u) → (r ≡ before → s ≡ before → t ≡ before) → order_then u r ≡ before → order_then v s ≡ before → order_then w t ≡ before
    transitive before before w r s t f g h q d e = ap (λ (y : Order). order_then y t) (f refl refl)
    transitive before same w r s t f g h q d e = ap (λ (y : Order). order_then y t) (h refl)
    transitive before after w r s t f g h q d e = absurd (after_not_before e)
    transitive same before w r s t f g h q d e = ap (λ (y : Order). order_then y t) (g refl)
    transitive same same w r s t f g h q d e = ap (λ (y : Order). order_then y t) (g refl) ∙ q d e
    transitive same after w r s t f g h q d e = absurd (after_not_before e)
    transitive after v w r s t f g h q d e = absurd (after_not_before d)
