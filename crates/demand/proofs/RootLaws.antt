-- Laws of the roots of a join's states: they are those of a list of unions, and unions of columns that facts link make roots agree only where facts link. Assumes nothing.
use Prim.Native.Nat.{ℕ, zero, suc, ◌<◌}
use mathlib.Core.Path.{◌≡◌, refl, sym, subst, ◌∙◌, ap, ap₂}
use mathlib.Core.Logic.{◌⊎◌, inl, inr, ⊎_elim}
use mathlib.Core.Bool.{Bool, true, false, cond}
use mathlib.Core.List.{List, [], ◌∷◌, ◌++◌, map, Memᴰ}
use lib.ListN.{length, get_or, length-map}
use native.Mathlib.Decide.{ℕ_discrete}
use native.Mathlib.Nat.{le_of_suc-le-suc}
use native.Mathlib.Omega.{arith}
use borrow.Author.Tests.{eq-eqb, ne_eqb, eqb-true}
use Rattle.estimate.specs.declared.Estimate.{Estimate}
use Rattle.records.specs.Classes.{ColumnEquivalenceClass}
use Rattle.sheet.specs.Sheet.{Sheet}
use Rattle.class_state.specs.State.{equivalent, moved, under, union, union_each, overwritten, with_columns, with_classes}
use Rattle.class_state.specs.declared.EquivalenceClassState.{EquivalenceClassState}
use Rattle.edge.specs.declared.EqualityEdge.{EqualityEdge}
use Rattle.edge_fold.specs.Fold.{Folded, with_edge, with_edges}
use Rattle.demand.specs.Claim.{Columns, Linked, no_step, step}
use Rattle.demand.proofs.ChainLaws.{trans, turned}

-- of a column, in a list of roots
abbrev pub root_of : List ℕ → ℕ → ℕ
root_of l c = get_or l c 0

-- ---- one root moved

moved_cases : (from to y : ℕ) → ((y ≡ from) × (moved from to y ≡ to)) ⊎ (moved from to y ≡ y)
moved_cases from to y = decided (ℕ_discrete y from)
  where
    decided : Dec (y ≡ from) → ((y ≡ from) × (moved from to y ≡ to)) ⊎ (moved from to y ≡ y)
    decided (yes e) = inl (e, rw (eq-eqb y from e) refl)
    decided (no n) = inr (rw (ne_eqb y from n) refl)

moved_hit : (from to : ℕ) → moved from to from ≡ to
moved_hit from to = rw (eq-eqb from from refl) refl

moved_stays : (from to : ℕ) → moved from to to ≡ to
moved_stays from to = ⊎_elim (λ w. w.1) (λ w. w) (moved_cases from to to)

map_at : (f : ℕ → ℕ) (l : List ℕ) (c : ℕ) → c < length l → get_or (map f l) c 0 ≡ f (get_or l c 0)
map_at f [] c h = absurd (none c h)
  where
    none : (c : ℕ) → c < 0 → ⊥
    none c h = omega arith
map_at f (x ∷ l) zero h = refl
map_at f (x ∷ l) (suc c) h = map_at f l c (le_of_suc-le-suc h)

map_same : (f : ℕ → ℕ) → ((x : ℕ) → f x ≡ x) → (l : List ℕ) → map f l ≡ l
map_same f h [] = refl
map_same f h (x ∷ l) = ap₂ (λ (y : ℕ) (r : List ℕ). y ∷ r) (h x) (map_same f h l)

-- ---- one union

-- there are 128 roots, each below 128, and columns with one root are linked by F
pub record Sound (F : Columns → Type 0) (l : List ℕ) : Type 0 where
  pub size : length l ≡ 128
  pub range : (c : ℕ) → c < 128 → root_of l c < 128
  pub linked : (a b : ℕ) → a < 128 → b < 128 → root_of l a ≡ root_of l b → Linked F a b

-- what agreed still agrees
abbrev pub Keeps : List ℕ → List ℕ → Type 0
Keeps l m = (a b : ℕ) → a < 128 → b < 128 → root_of l a ≡ root_of l b → root_of m a ≡ root_of m b

unfoldable pub joined : List ℕ → ℕ → ℕ → List ℕ
joined l a b = map (moved (root_of l b) (root_of l a)) l

module _ (F : Columns → Type 0) (l : List ℕ) (h : Sound F l) (a b : ℕ) (ha : a < 128) (hb : b < 128) where
  root : (c : ℕ) → c < 128 → root_of (joined l a b) c ≡ moved (root_of l b) (root_of l a) (root_of l c)
  unfolding joined
  root c hc =
      let s = h.size in
      map_at (moved (root_of l b) (root_of l a)) l c (omega arith)

  joined_keeps : Keeps l (joined l a b)
  joined_keeps c d hc hd e = root c hc ∙ ap (moved (root_of l b) (root_of l a)) e ∙ sym (root d hd)

  joined_joins : root_of (joined l a b) a ≡ root_of (joined l a b) b
  joined_joins = root a ha ∙ moved_stays (root_of l b) (root_of l a) ∙ sym (moved_hit (root_of l b) (root_of l a)) ∙ sym (root b hb)

  joined_range : (c : ℕ) → c < 128 → root_of (joined l a b) c < 128
  joined_range c hc =
      ⊎_elim (λ w. subst (λ (z : ℕ). z < 128) (sym (root c hc ∙ w.1)) (h.range a ha))
      (λ w. subst (λ (z : ℕ). z < 128) (sym (root c hc ∙ w)) (h.range c hc))
      (moved_cases (root_of l b) (root_of l a) (root_of l c))

  joined_linked : Linked F a b → (c d : ℕ) → c < 128 → d < 128 → root_of (joined l a b) c ≡ root_of (joined l a b) d → Linked F c d
  joined_linked ab c d hc hd e = cases (sym (root c hc) ∙ e ∙ root d hd) (moved_cases (root_of l b) (root_of l a) (root_of l c)) (moved_cases (root_of l b) (root_of l a) (root_of l d))
    where
      to : ℕ → ℕ
      to y = moved (root_of l b) (root_of l a) y

      cases : to (root_of l c) ≡ to (root_of l d) → ((root_of l c ≡ root_of l b) × (to (root_of l c) ≡ root_of l a)) ⊎ (to (root_of l c) ≡ root_of l c)
          → ((root_of l d ≡ root_of l b) × (to (root_of l d) ≡ root_of l a)) ⊎ (to (root_of l d) ≡ root_of l d) → Linked F c d
      cases m (inl (p, p')) (inl (q, q')) = h.linked c d hc hd (p ∙ sym q)
      cases m (inl (p, p')) (inr q) = trans (h.linked c b hc hb p) (trans (turned ab) (h.linked a d ha hd (sym p' ∙ m ∙ q)))
      cases m (inr p) (inl (q, q')) = trans (h.linked c a hc ha (sym p ∙ m ∙ q')) (trans ab (h.linked b d hb hd (sym q)))
      cases m (inr p) (inr q) = h.linked c d hc hd (sym p ∙ m ∙ q)

  joined_sound : Linked F a b → Sound F (joined l a b)
  unfolding joined
  joined_sound ab = record { size = length-map l (moved (root_of l b) (root_of l a)) ∙ h.size; range = joined_range; linked = joined_linked ab }

-- ---- a list of unions

abbrev pub Two : Type 0
Two = ℕ × ℕ

unfoldable pub joined_all : List ℕ → List Two → List ℕ
joined_all l [] = l
joined_all l (p ∷ ps) = joined_all (joined l p.0 p.1) ps

pub joined_append : (l : List ℕ) (ps qs : List Two) → joined_all l (ps ++ qs) ≡ joined_all (joined_all l ps) qs
unfolding joined_all
joined_append l [] qs = refl
joined_append l (p ∷ ps) qs = joined_append (joined l p.0 p.1) ps qs

-- both columns of a union have one root
abbrev pub Agree : List ℕ → Two → Type 0
Agree l p = root_of l p.0 ≡ root_of l p.1

-- columns that can be joined
abbrev pub Joins : (Columns → Type 0) → Two → Type 0
Joins F p = (p.0 < 128) × (p.1 < 128) × Linked F p.0 p.1

-- unions of linked columns keep roots sound, keep what agreed, and what was joined agrees
pub joined_all_law : (F : Columns → Type 0) (l : List ℕ) (ps : List Two) → Sound F l → ((p : Two) → Memᴰ p ps → Joins F p) → Sound F (joined_all l ps) × Keeps l (joined_all l ps) × ((p : Two) → Memᴰ p ps → Agree (joined_all l ps) p)
unfolding joined_all
joined_all_law F l [] h g = (h, λ a b ha hb e. e, λ p m. absurd (mathlib.Core.List.Memᴰ.not-nil m))
joined_all_law F l (p ∷ ps) h g =
    let w = g p (mathlib.Core.List.Memᴰ.head refl) in
    let next = joined l p.0 p.1 in
    let r = joined_all_law F next ps (joined_sound F l h p.0 p.1 w.0 w.1 w.2) (λ q m. g q (mathlib.Core.List.Memᴰ.tail m)) in (
      r.0,
      λ a b ha hb e. r.1 a b ha hb (joined_keeps F l h p.0 p.1 w.0 w.1 a b ha hb e),
      λ q m. ⊎_elim
          (λ (e : q ≡ p). subst (Agree (joined_all next ps)) (sym e) (r.1 p.0 p.1 w.0 w.1 (joined_joins F l h p.0 p.1 w.0 w.1)))
          (λ (n : Memᴰ q ps). r.2 q n) (mathlib.Core.List.Memᴰ.cases_cons m),
    )

-- ---- the roots of each state are those of such a list

-- to join what is joined changes nothing, so a union that is left out is one all the same
joined_same : (l : List ℕ) (a b : ℕ) → root_of l a ≡ root_of l b → l ≡ joined l a b
unfolding joined
joined_same l a b e = sym (map_same (moved (root_of l b) (root_of l a)) (λ x. ⊎_elim (λ w. w.1 ∙ e ∙ sym w.0) (λ w. w) (moved_cases (root_of l b) (root_of l a) x)) l)

pub union_roots : (state : EquivalenceClassState) (left right : ℕ) (distinct : Estimate) → (union state left right distinct).roots ≡ joined state.roots left right
unfolding union under joined
union_roots state left right distinct = go (equivalent state left right) (eqb-true _ _)
  where
    go : (t : Bool) → (t ≡ true → root_of state.roots left ≡ root_of state.roots right)
        → (cond t state (under state (root_of state.roots left) (root_of state.roots right) distinct)).roots ≡ joined state.roots left right
    go true e = joined_same state.roots left right (e refl)
    go false e = refl

each_roots : (state : EquivalenceClassState) (first : ℕ) (columns : List ℕ) (distinct : Estimate) → (union_each state first columns distinct).roots ≡ joined_all state.roots (map (λ (c : ℕ). (first, c)) columns)
unfolding union_each joined_all
each_roots state first [] distinct = refl
each_roots state first (column ∷ columns) distinct =
    each_roots (union state first column distinct) first columns distinct
    ∙ ap (λ (l : List ℕ). joined_all l (map (λ (c : ℕ). (first, c)) columns)) (union_roots state first column distinct)

-- a class joins its first column with each other one
unfoldable pub class_pairs : List ℕ → List Two
class_pairs [] = []
class_pairs (first ∷ columns) = map (λ (c : ℕ). (first, c)) columns

columns_roots : (state : EquivalenceClassState) (columns : List ℕ) (distinct : Estimate) → (with_columns state columns distinct).roots ≡ joined_all state.roots (class_pairs columns)
unfolding with_columns class_pairs joined_all overwritten
columns_roots state [] distinct = refl
columns_roots state (first ∷ []) distinct = refl
columns_roots state (first ∷ second ∷ columns) distinct = each_roots (overwritten state first distinct) first (second ∷ columns) distinct

unfoldable pub all_pairs : List ColumnEquivalenceClass → List Two
all_pairs [] = []
all_pairs (class ∷ classes) = class_pairs class.columns ++ all_pairs classes

pub classes_roots : (state : EquivalenceClassState) (classes : List ColumnEquivalenceClass) → (with_classes state classes).roots ≡ joined_all state.roots (all_pairs classes)
unfolding with_classes all_pairs joined_all
classes_roots state [] = refl
classes_roots state (class ∷ classes) =
    classes_roots (with_columns state class.columns class.distinct) classes
    ∙ ap (λ (l : List ℕ). joined_all l (all_pairs classes)) (columns_roots state class.columns class.distinct)
    ∙ sym (joined_append state.roots (class_pairs class.columns) (all_pairs classes))

abbrev pub ends : EqualityEdge → Two
ends edge = (edge.left, edge.right)

pub edges_roots : (sheet : Sheet) (state : Folded) (edges : List EqualityEdge) → (with_edges sheet state edges).classes.roots ≡ joined_all state.classes.roots (map ends edges)
unfolding with_edges with_edge joined_all
edges_roots sheet state [] = refl
edges_roots sheet state (edge ∷ edges) =
    edges_roots sheet (with_edge sheet state edge) edges
    ∙ ap (λ (l : List ℕ). joined_all l (map ends edges)) (union_roots state.classes edge.left edge.right edge.chosen_ndv)

-- ---- what the unions of classes join

-- both columns are joined with the first
pub class_agrees : (l columns : List ℕ) → ((p : Two) → Memᴰ p (class_pairs columns) → Agree l p) → (a b : ℕ) → Memᴰ a columns → Memᴰ b columns → root_of l a ≡ root_of l b
unfolding class_pairs
class_agrees l [] h a b m n = absurd (mathlib.Core.List.Memᴰ.not-nil m)
class_agrees l (first ∷ columns) h a b m n = sym (to a (mathlib.Core.List.Memᴰ.cases_cons m)) ∙ to b (mathlib.Core.List.Memᴰ.cases_cons n)
  where
    to : (c : ℕ) → (c ≡ first) ⊎ (Memᴰ c columns) → root_of l first ≡ root_of l c
    to c (inl e) = ap (root_of l) (sym e)
    to c (inr k) = h (first, c) (mathlib.Core.List.Memᴰ.map (λ (d : ℕ). (first, d)) k)

class_pair : (columns : List ℕ) (p : Two) → Memᴰ p (class_pairs columns) → (Memᴰ p.0 columns) × (Memᴰ p.1 columns)
unfolding class_pairs
class_pair [] p m = absurd (mathlib.Core.List.Memᴰ.not-nil m)
class_pair (first ∷ columns) p m =
    let r = mathlib.Core.List.Memᴰ.of_map (λ (c : ℕ). (first, c)) columns m in
    subst (λ (z : Two). (Memᴰ z.0 (first ∷ columns)) × (Memᴰ z.1 (first ∷ columns))) r.2 (mathlib.Core.List.Memᴰ.head refl, mathlib.Core.List.Memᴰ.tail r.1)

pub all_pair : (classes : List ColumnEquivalenceClass) (p : Two) → Memᴰ p (all_pairs classes) → (class : ColumnEquivalenceClass) × Memᴰ class classes × (Memᴰ p.0 class.columns) × (Memᴰ p.1 class.columns)
unfolding all_pairs
all_pair [] p m = absurd (mathlib.Core.List.Memᴰ.not-nil m)
all_pair (class ∷ classes) p m =
    ⊎_elim (λ (n : Memᴰ p (class_pairs class.columns)). let r = class_pair class.columns p n in (class, mathlib.Core.List.Memᴰ.head refl, r.0, r.1))
    (λ (n : Memᴰ p (all_pairs classes)). let r = all_pair classes p n in (r.0, mathlib.Core.List.Memᴰ.tail r.1, r.2, r.3))
    (mathlib.Core.List.Memᴰ.append_cases (class_pairs class.columns) m)

pub pair_all : (classes : List ColumnEquivalenceClass) (class : ColumnEquivalenceClass) → Memᴰ class classes → (p : Two) → Memᴰ p (class_pairs class.columns) → Memᴰ p (all_pairs classes)
unfolding all_pairs
pair_all [] class m p n = absurd (mathlib.Core.List.Memᴰ.not-nil m)
pair_all (other ∷ classes) class m p n =
    ⊎_elim (λ (e : class ≡ other). mathlib.Core.List.Memᴰ.append_left (all_pairs classes) (subst (λ (c : ColumnEquivalenceClass). Memᴰ p (class_pairs c.columns)) e n))
    (λ (o : Memᴰ class classes). mathlib.Core.List.Memᴰ.append_right (class_pairs other.columns) (pair_all classes class o p n))
    (mathlib.Core.List.Memᴰ.cases_cons m)

-- roots that agree in every fact agree along a chain
pub along : (F : Columns → Type 0) (l : List ℕ) → ((f : Columns) (a b : ℕ) → F f → Memᴰ a f → Memᴰ b f → root_of l a ≡ root_of l b) → {a b : ℕ} → Linked F a b → root_of l a ≡ root_of l b
along F l h (no_step e) = ap (root_of l) e
along F l h (step {a = a} {b = b} t c) = h t.0 a b t.1 t.2 t.3 ∙ along F l h c
