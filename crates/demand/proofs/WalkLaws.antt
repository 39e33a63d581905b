-- The walk over the equalities marks as non-null exactly the columns from which equating conjuncts lead to a column of an ordinary one. Assumes nothing.
use Prim.Native.Nat.{ℕ, zero, suc, ◌+◌, ◌<◌, ◌≤◌}
use mathlib.Core.Path.{◌≡◌, refl, sym, ap, ◌∙◌, subst}
use mathlib.Core.Logic.{◌↔◌, ◌≢◌, ◌⊎◌, inl, inr, ⊎_elim}
use mathlib.Core.Bool.{Bool, true, false, cond, ◌||◌, false≢true}
use mathlib.Core.List.{List, [], ◌∷◌, Memᴰ}
use native.Mathlib.Omega.{arith}
use native.Mathlib.Decide.{ℕ_discrete}
use native.Mathlib.Nat.{suc_inj, suc-le-suc_iff, zero-lt-suc}
use lib.Dec.{eqb}
use lib.ListN.{length, set, replicate, length-set, length-replicate}
use lib.Seq.{get_or-set_same, get_or-set_other}
use borrow.Author.Tests.{eqb-true, eqb-false}
use Rattle.float.specs.Integers.{bit}
use Rattle.selection.proofs.SelectedLaws.{selected_in, in_selected}
use Rattle.equality_pairs.specs.Pairs.{equality_pairs}
use Rattle.equality_pairs.specs.declared.pairs.EqualityPair.{EqualityPair}
use Rattle.equality_pairs.specs.NonNull.{is_marked, with_both, with_ordinary, extended, pass, count, passes, non_null_marks, marked_columns}
use Rattle.demand.specs.Claim.{Columns, Join, Equates, Equated, equated, Linked, no_step, step, LeadsToOrdinary}
use Rattle.demand.proofs.Kept.{Kept}
use Rattle.demand.proofs.ChainLaws.{trans, one_step}
use Rattle.demand.proofs.KeptLaws.{pairs_law}

abbrev columns_of : EqualityPair → Columns
columns_of p = p.left ∷ p.right ∷ []

-- both columns of each pair are below n
abbrev Fits : ℕ → List EqualityPair → Type 0
Fits n ps = (p : EqualityPair) → Memᴰ p ps → (p.left < n) × (p.right < n)

-- ---- marks are only added

abbrev Adds : List Bool → List Bool → Type 0
Adds m n = (c : ℕ) → is_marked m c ≡ true → is_marked n c ≡ true

set_adds : (m : List Bool) (i : ℕ) → Adds m (set m i true)
set_adds [] i c h = h
set_adds (b ∷ m) zero zero h = refl
set_adds (b ∷ m) zero (suc c) h = h
set_adds (b ∷ m) (suc i) zero h = h
set_adds (b ∷ m) (suc i) (suc c) h = set_adds m i c h

set_only : (m : List Bool) (i c : ℕ) → is_marked (set m i true) c ≡ true → (c ≡ i) ⊎ (is_marked m c ≡ true)
set_only m i c h = decided (ℕ_discrete c i)
  where
    decided : Dec (c ≡ i) → (c ≡ i) ⊎ (is_marked m c ≡ true)
    decided (yes e) = inl e
    decided (no n) = inr (sym (get_or-set_other m i c true false n) ∙ h)

both_adds : (m : List Bool) (p : EqualityPair) → Adds m (with_both m p)
unfolding with_both
both_adds m p c h = set_adds (set m p.left true) p.right c (set_adds m p.left c h)

both_only : (m : List Bool) (p : EqualityPair) (c : ℕ) → is_marked (with_both m p) c ≡ true → (Memᴰ c (columns_of p)) ⊎ (is_marked m c ≡ true)
unfolding with_both
both_only m p c h =
    ⊎_elim (λ (e : c ≡ p.right). inl (mathlib.Core.List.Memᴰ.tail (mathlib.Core.List.Memᴰ.head e)))
    (λ (k : is_marked (set m p.left true) c ≡ true). ⊎_elim (λ (e : c ≡ p.left). inl (mathlib.Core.List.Memᴰ.head e)) (λ (q : is_marked m c ≡ true). inr q) (set_only m p.left c k))
    (set_only (set m p.left true) p.right c h)

both_length : (m : List Bool) (p : EqualityPair) → length (with_both m p) ≡ length m
unfolding with_both
both_length m p = length-set (set m p.left true) p.right true ∙ length-set m p.left true

both_marked : (m : List Bool) (p : EqualityPair) → (p.left < length m) × (p.right < length m) → (c : ℕ) → Memᴰ c (columns_of p) → is_marked (with_both m p) c ≡ true
unfolding with_both
both_marked m p (l, r) c h =
    let once : List Bool = set m p.left true in
    let size : length once ≡ length m = length-set m p.left true in
    ⊎_elim (λ (e : c ≡ p.left). ap (is_marked (set once p.right true)) e ∙ set_adds once p.right p.left (get_or-set_same m p.left true false l))
    (λ (k : Memᴰ c (p.right ∷ [])). ap (is_marked (set once p.right true)) (mathlib.Core.List.Memᴰ.eq_of_singleton k) ∙ get_or-set_same once p.right true false (omega arith))
    (mathlib.Core.List.Memᴰ.cases_cons h)

either_way : (P : List Bool → Type 0) (t : Bool) (m n : List Bool) → P m → P n → P (cond t m n)
either_way P true m n p q = p
either_way P false m n p q = q

-- ---- a pass

abbrev touches : List Bool → EqualityPair → Bool
touches m p = is_marked m p.left || is_marked m p.right

extended_adds : (m : List Bool) (p : EqualityPair) → Adds m (extended m p)
extended_adds m p = either_way (Adds m) (touches m p) (with_both m p) m (both_adds m p) (λ c h. h)

extended_length : (m : List Bool) (p : EqualityPair) → length (extended m p) ≡ length m
extended_length m p = either_way (λ (n : List Bool). length n ≡ length m) (touches m p) (with_both m p) m (both_length m p) refl

pass_adds : (m : List Bool) (ps : List EqualityPair) → Adds m (pass m ps)
unfolding pass
pass_adds m [] c h = h
pass_adds m (p ∷ ps) c h = pass_adds (extended m p) ps c (extended_adds m p c h)

pass_length : (m : List Bool) (ps : List EqualityPair) → length (pass m ps) ≡ length m
unfolding pass
pass_length m [] = refl
pass_length m (p ∷ ps) = pass_length (extended m p) ps ∙ extended_length m p

touched : (m : List Bool) (p : EqualityPair) (c : ℕ) → Memᴰ c (columns_of p) → is_marked m c ≡ true → touches m p ≡ true
touched m p c h k =
    ⊎_elim (λ (e : c ≡ p.left). first (is_marked m p.left) (is_marked m p.right) (ap (is_marked m) (sym e) ∙ k))
    (λ (n : Memᴰ c (p.right ∷ [])). second (is_marked m p.left) (is_marked m p.right) (ap (is_marked m) (sym (mathlib.Core.List.Memᴰ.eq_of_singleton n)) ∙ k))
    (mathlib.Core.List.Memᴰ.cases_cons h)
  where
    first : (a b : Bool) → a ≡ true → (a || b) ≡ true
    first true b e = refl
    first false b e = absurd (false≢true e)

    second : (a b : Bool) → b ≡ true → (a || b) ≡ true
    second true b e = refl
    second false b e = e

-- it goes over every pair: a mark on one column of it comes to the other
pass_over : (m : List Bool) (ps : List EqualityPair) → Fits (length m) ps → (p : EqualityPair) → Memᴰ p ps → (c d : ℕ) → Memᴰ c (columns_of p) → Memᴰ d (columns_of p) → is_marked m c ≡ true → is_marked (pass m ps) d ≡ true
unfolding pass
pass_over m [] f p n c d x y h = absurd (mathlib.Core.List.Memᴰ.not-nil n)
pass_over m (q ∷ ps) f p n c d x y h =
    ⊎_elim (λ (e : p ≡ q).
    let cq : Memᴰ c (columns_of q) = subst (λ (o : EqualityPair). Memᴰ c (columns_of o)) e x in
    let dq : Memᴰ d (columns_of q) = subst (λ (o : EqualityPair). Memᴰ d (columns_of o)) e y in
    pass_adds (extended m q) ps d (rw (touched m q c cq h) (both_marked m q (f q (mathlib.Core.List.Memᴰ.head refl)) d dq)))
    (λ (k : Memᴰ p ps). pass_over (extended m q) ps (λ o w. subst (λ (z : ℕ). (o.left < z) × (o.right < z)) (sym (extended_length m q)) (f o (mathlib.Core.List.Memᴰ.tail w))) p k c d x y (extended_adds m q c h))
    (mathlib.Core.List.Memᴰ.cases_cons n)

-- ---- counts of marks

count_bound : (m : List Bool) → count m ≤ length m
unfolding count
count_bound [] = omega arith
count_bound (b ∷ m) = more b (count m) (length m) (count_bound m)
  where
    more : (b : Bool) (k n : ℕ) → k ≤ n → bit b + k ≤ suc n
    more true k n h = omega arith
    more false k n h = omega arith

-- more marks or the same
count_adds : (m n : List Bool) → length m ≡ length n → Adds m n → (count m ≤ count n) × (count m ≡ count n → m ≡ n)
unfolding count
count_adds [] [] l h = (omega arith, λ e. refl)
count_adds [] (b ∷ n) l h = absurd (none (length n) l)
  where
    none : (k : ℕ) → 0 ≡ suc k → ⊥
    none k e = omega arith
count_adds (a ∷ m) [] l h = absurd (none (length m) l)
  where
    none : (k : ℕ) → suc k ≡ 0 → ⊥
    none k e = omega arith
count_adds (true ∷ m) (true ∷ n) l h = both (count_adds m n (suc_inj l) (λ c k. h (suc c) k))
  where
    both : (count m ≤ count n) × (count m ≡ count n → m ≡ n) → (1 + count m ≤ 1 + count n) × (1 + count m ≡ 1 + count n → true ∷ m ≡ true ∷ n)
    both (p, q) = (omega arith, λ e. ap (λ (r : List Bool). true ∷ r) (q (omega arith)))
count_adds (true ∷ m) (false ∷ n) l h = absurd (false≢true (h 0 refl))
count_adds (false ∷ m) (true ∷ n) l h = both (count_adds m n (suc_inj l) (λ c k. h (suc c) k))
  where
    never : count m ≤ count n → 0 + count m ≡ 1 + count n → ⊥
    never p e = omega arith

    both : (count m ≤ count n) × (count m ≡ count n → m ≡ n) → (0 + count m ≤ 1 + count n) × (0 + count m ≡ 1 + count n → false ∷ m ≡ true ∷ n)
    both (p, q) = (omega arith, λ e. absurd (never p e))
count_adds (false ∷ m) (false ∷ n) l h = both (count_adds m n (suc_inj l) (λ c k. h (suc c) k))
  where
    both : (count m ≤ count n) × (count m ≡ count n → m ≡ n) → (0 + count m ≤ 0 + count n) × (0 + count m ≡ 0 + count n → false ∷ m ≡ false ∷ n)
    both (p, q) = (omega arith, λ e. ap (λ (r : List Bool). false ∷ r) (q (omega arith)))

-- ---- the end: with passes enough, one more adds nothing

record Ended (m r : List Bool) (ps : List EqualityPair) : Type 0 where
  adds : Adds m r
  size : length r ≡ length m
  still : pass r ps ≡ r

ended : (n : ℕ) (m : List Bool) (ps : List EqualityPair) → length m < count m + n → Ended m (passes n m ps) ps
unfolding passes
ended zero m ps h = absurd (over (count m) (length m) (count_bound m) h)
  where
    over : (a b : ℕ) → a ≤ b → b < a + 0 → ⊥
    over a b p q = omega arith
ended (suc n) m ps h = go (eqb (count (pass m ps)) (count m)) refl (ended n (pass m ps) ps)
  where
    law : (count m ≤ count (pass m ps)) × (count m ≡ count (pass m ps) → m ≡ pass m ps)
    law = count_adds m (pass m ps) (sym (pass_length m ps)) (pass_adds m ps)

    go : (t : Bool) → eqb (count (pass m ps)) (count m) ≡ t → (length (pass m ps) < count (pass m ps) + n → Ended (pass m ps) (passes n (pass m ps) ps) ps)
        → Ended m (elim t [ true ↦ pass m ps | false ↦ passes n (pass m ps) ps ]) ps
    go true e r = record { adds = pass_adds m ps; size = pass_length m ps; still = sym (ap (λ (marks : List Bool). pass marks ps) (law.1 (sym (eqb-true _ _ e)))) }
    go false e r =
        let l : length (pass m ps) ≡ length m = pass_length m ps in
        let c : count m ≤ count (pass m ps) = law.0 in
        let ne : count (pass m ps) ≢ count m = eqb-false _ _ e in
        let d = r (omega arith) in
        record { adds = λ c k. d.adds c (pass_adds m ps c k); size = d.size ∙ l; still = d.still }

-- ---- the columns of ordinary equalities

abbrev begun : List Bool → EqualityPair → List Bool
begun m p = cond p.null_safe m (with_both m p)

begun_adds : (m : List Bool) (p : EqualityPair) → Adds m (begun m p)
begun_adds m p = either_way (Adds m) p.null_safe m (with_both m p) (λ c h. h) (both_adds m p)

begun_length : (m : List Bool) (p : EqualityPair) → length (begun m p) ≡ length m
begun_length m p = either_way (λ (n : List Bool). length n ≡ length m) p.null_safe m (with_both m p) refl (both_length m p)

ordinary_adds : (m : List Bool) (ps : List EqualityPair) → Adds m (with_ordinary m ps)
unfolding with_ordinary
ordinary_adds m [] c h = h
ordinary_adds m (p ∷ ps) c h = ordinary_adds (begun m p) ps c (begun_adds m p c h)

ordinary_length : (m : List Bool) (ps : List EqualityPair) → length (with_ordinary m ps) ≡ length m
unfolding with_ordinary
ordinary_length m [] = refl
ordinary_length m (p ∷ ps) = ordinary_length (begun m p) ps ∙ begun_length m p

ordinary_marked : (m : List Bool) (ps : List EqualityPair) → Fits (length m) ps → (p : EqualityPair) → Memᴰ p ps → p.null_safe ≡ false → (c : ℕ) → Memᴰ c (columns_of p) → is_marked (with_ordinary m ps) c ≡ true
unfolding with_ordinary
ordinary_marked m [] f p n o c x = absurd (mathlib.Core.List.Memᴰ.not-nil n)
ordinary_marked m (q ∷ ps) f p n o c x =
    ⊎_elim (λ (e : p ≡ q).
    let cq : Memᴰ c (columns_of q) = subst (λ (k : EqualityPair). Memᴰ c (columns_of k)) e x in
    let oq : false ≡ q.null_safe = sym o ∙ ap (λ (k : EqualityPair). k.null_safe) e in
    ordinary_adds (begun m q) ps c (subst (λ (t : Bool). is_marked (cond t m (with_both m q)) c ≡ true) oq (both_marked m q (f q (mathlib.Core.List.Memᴰ.head refl)) c cq)))
    (λ (k : Memᴰ p ps). ordinary_marked (begun m q) ps (λ j w. subst (λ (z : ℕ). (j.left < z) × (j.right < z)) (sym (begun_length m q)) (f j (mathlib.Core.List.Memᴰ.tail w))) p k o c x)
    (mathlib.Core.List.Memᴰ.cases_cons n)

-- ---- each mark is true

module _ (join : Join) where
  abbrev AllEquate : List EqualityPair → Type 0
  AllEquate ps = (p : EqualityPair) → Memᴰ p ps → Equates join p.left p.right p.null_safe

  abbrev AllTrue : List Bool → Type 0
  AllTrue m = (c : ℕ) → is_marked m c ≡ true → LeadsToOrdinary join c

  ordinary_true : (m : List Bool) (ps : List EqualityPair) → AllEquate ps → AllTrue m → AllTrue (with_ordinary m ps)
  unfolding with_ordinary
  ordinary_true m [] w h = h
  ordinary_true m (p ∷ ps) w h = ordinary_true (begun m p) ps (λ q n. w q (mathlib.Core.List.Memᴰ.tail n)) (go p.null_safe (w p (mathlib.Core.List.Memᴰ.head refl)))
    where
      go : (t : Bool) → Equates join p.left p.right t → AllTrue (cond t m (with_both m p))
      go true e c k = h c k
      go false e c k = ⊎_elim (λ (x : Memᴰ c (columns_of p)). (c, no_step refl, record { first = p.left; second = p.right; equates = e; stands = x })) (λ (x : is_marked m c ≡ true). h c x) (both_only m p c k)

  leads_over : (a b : ℕ) (null_safe : Bool) → Equates join a b null_safe → (c d : ℕ) → Memᴰ c (a ∷ b ∷ []) → Memᴰ d (a ∷ b ∷ []) → LeadsToOrdinary join c → LeadsToOrdinary join d
  leads_over a b null_safe e c d x y (o, l, w) = let k : Linked (Equated join) d c = one_step (a ∷ b ∷ [], equated a b null_safe e refl, y, x) in (o, trans k l, w)

  some_mark : (m : List Bool) (p : EqualityPair) → touches m p ≡ true → (c : ℕ) × (Memᴰ c (columns_of p)) × (is_marked m c ≡ true)
  some_mark m p h = go (is_marked m p.left) refl h
    where
      go : (t : Bool) → is_marked m p.left ≡ t → (t || is_marked m p.right) ≡ true → (c : ℕ) × (Memᴰ c (columns_of p)) × (is_marked m c ≡ true)
      go true q k = (p.left, mathlib.Core.List.Memᴰ.head refl, q)
      go false q k = (p.right, mathlib.Core.List.Memᴰ.tail (mathlib.Core.List.Memᴰ.head refl), k)

  pass_true : (m : List Bool) (ps : List EqualityPair) → AllEquate ps → AllTrue m → AllTrue (pass m ps)
  unfolding pass
  pass_true m [] w h = h
  pass_true m (p ∷ ps) w h = pass_true (extended m p) ps (λ q n. w q (mathlib.Core.List.Memᴰ.tail n)) (go (touches m p) refl)
    where
      go : (t : Bool) → touches m p ≡ t → AllTrue (cond t (with_both m p) m)
      go true q c k =
          let o = some_mark m p q in
          ⊎_elim (λ (x : Memᴰ c (columns_of p)). leads_over p.left p.right p.null_safe (w p (mathlib.Core.List.Memᴰ.head refl)) o.0 c o.1 x (h o.0 o.2)) (λ (x : is_marked m c ≡ true). h c x) (both_only m p c k)
      go false q c k = h c k

  passes_true : (n : ℕ) (m : List Bool) (ps : List EqualityPair) → AllEquate ps → AllTrue m → AllTrue (passes n m ps)
  unfolding passes
  passes_true zero m ps w h = h
  passes_true (suc n) m ps w h = go (eqb (count (pass m ps)) (count m)) (passes_true n (pass m ps) ps w once)
    where
      once : AllTrue (pass m ps)
      once = pass_true m ps w h

      go : (t : Bool) → AllTrue (passes n (pass m ps) ps) → AllTrue (elim t [ true ↦ pass m ps | false ↦ passes n (pass m ps) ps ])
      go true r = once
      go false r = r

-- ---- the law of the walk

no_marks : (n c : ℕ) → is_marked (replicate n false) c ≡ true → ⊥
no_marks zero c h = false≢true h
no_marks (suc n) zero h = false≢true h
no_marks (suc n) (suc c) h = no_marks n c h

marked_below : (m : List Bool) (c : ℕ) → is_marked m c ≡ true → c < length m
marked_below [] c h = absurd (false≢true h)
marked_below (b ∷ m) zero h = zero-lt-suc (length m)
marked_below (b ∷ m) (suc c) h = suc-le-suc_iff.1 (marked_below m c h)

module _ (join : Join) (kept : Kept join) where
  abbrev pairs : List EqualityPair
  pairs = equality_pairs join.sheet join.conjuncts

  fits : Fits 128 pairs
  fits p n = kept.equated p.left p.right p.null_safe ((pairs_law join p).0 n)

  -- marks to which a pass adds none are closed under chains
  along : (r : List Bool) → Fits (length r) pairs → pass r pairs ≡ r → {a b : ℕ} → Linked (Equated join) a b → is_marked r b ≡ true → is_marked r a ≡ true
  along r f s (no_step e) h = ap (is_marked r) e ∙ h
  along r f s (step {a = a} {b = b} (g, equated first second null_safe e q, x, y) l) h =
      let p : EqualityPair = record { left = first; right = second; null_safe = null_safe } in
      let ax : Memᴰ a (columns_of p) = subst (λ (k : Columns). Memᴰ a k) (sym q) x in
      let by : Memᴰ b (columns_of p) = subst (λ (k : Columns). Memᴰ b k) (sym q) y in
      ap (λ (m : List Bool). is_marked m a) (sym s) ∙ pass_over r pairs f p ((pairs_law join p).1 e) b a by ax (along r f s l h)

  abbrev start : List Bool
  start = with_ordinary (replicate 128 false) pairs

  abbrev marks : List Bool
  marks = passes 129 start pairs

  start_size : length start ≡ 128
  start_size = ordinary_length (replicate 128 false) pairs ∙ length-replicate 128 false

  done : Ended start marks pairs
  done = ended 129 start pairs (omega (arith, start_size))

  marks_size : length marks ≡ 128
  marks_size = done.size ∙ start_size

  marks_true : AllTrue join marks
  marks_true = passes_true join 129 start pairs (λ p n. (pairs_law join p).0 n) (ordinary_true join (replicate 128 false) pairs (λ p n. (pairs_law join p).0 n) (λ c h. absurd (no_marks 128 c h)))

  true_marked : (a : ℕ) → LeadsToOrdinary join a → is_marked marks a ≡ true
  true_marked a (c, l, o) =
      let p : EqualityPair = record { left = o.first; right = o.second; null_safe = false } in
      let begins : is_marked start c ≡ true = ordinary_marked (replicate 128 false) pairs fits p ((pairs_law join p).1 o.equates) refl c o.stands in
      along marks (subst (λ (n : ℕ). Fits n pairs) (sym marks_size) fits) done.still l (done.adds c begins)

  pub walk_law : (a : ℕ) → Memᴰ a (marked_columns (non_null_marks (equality_pairs join.sheet join.conjuncts))) ↔ LeadsToOrdinary join a
  unfolding marked_columns non_null_marks
  walk_law a = (
    λ m. marks_true a (selected_in (is_marked marks) 0 128 a m).2,
    λ h. let t = true_marked a h in in_selected (is_marked marks) 0 128 a (omega arith) (subst (λ (n : ℕ). a < n) marks_size (marked_below marks a t)) t,
  )
