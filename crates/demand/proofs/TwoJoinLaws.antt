-- What holds of two joins follows from what holds of each; how a join is worked out has no part in it. Assumes nothing.
use Prim.Native.Nat.{ℕ, suc}
use mathlib.Core.Path.{◌≡◌, refl, sym, ap, ◌∙◌, subst}
use mathlib.Core.Logic.{◌≢◌, ◌⊎◌, inl, inr}
use mathlib.Core.Bool.{false}
use mathlib.Core.List.Memᴰ
use mathlib.Core.List.{List, [], ◌∷◌, Memᴰ}
use lib.ListN.{get_or}
use native.Mathlib.Decide.{ℕ_discrete}
use Rattle.demand.specs.Reader.{blocks, non_nulls}
use Rattle.demand.specs.Claim.{Columns, Join, Within, SameSet, Equates, Fact, Equated, equated, Together, Linked, AllFollow, InOrdinary, LeadsToOrdinary, EquatedIn, Block, ShareBlock, OneJoin, TwoJoins}
use Rattle.demand.proofs.ChainLaws.{one_step, carried, follow_linked, within_follow}

-- ---- blocks

place : {k : Columns} {K : List Columns} → Memᴰ k K → (i : ℕ) × (get_or K i [] ≡ k)
place (Memᴰ.head e) = (0, sym e)
place (Memᴰ.tail m) = let r = place m in (suc r.0, r.1)

-- two blocks with a common column are one
one_block : (K : List Columns) → ((i j a : ℕ) → Memᴰ a (get_or K i []) → Memᴰ a (get_or K j []) → i ≡ j) → (k g : Columns) (a : ℕ) → Memᴰ k K → Memᴰ g K → Memᴰ a k → Memᴰ a g → k ≡ g
one_block K apart k g a mk mg ak ag =
    let p = place mk in
    let q = place mg in
    let e = apart p.0 q.0 a (subst (λ (l : Columns). Memᴰ a l) (sym p.1) ak) (subst (λ (l : Columns). Memᴰ a l) (sym q.1) ag) in
    sym p.1 ∙ ap (λ (i : ℕ). get_or K i []) e ∙ q.1

module _ {s t : Join} {x y : List ℕ} (p : OneJoin s x) (q : OneJoin t y) (st : AllFollow (Fact t) (Fact s)) where
  share_over : (a b : ℕ) → a ≢ b → ShareBlock x a b → ShareBlock y a b
  share_over a b n h = (q.share a b n).1 (follow_linked st ((p.share a b n).0 h))

  -- a block's columns stand in the other join's block that has one of them
  block_over : (k g : Columns) (a : ℕ) → Block x k → Block y g → Memᴰ a k → Memᴰ a g → (d : ℕ) → Memᴰ d k → Memᴰ d g
  block_over k g a mk mg ak ag d h = decided (ℕ_discrete a d)
    where
      decided : Dec (a ≡ d) → Memᴰ d g
      decided (yes e) = Memᴰ.cast (sym e) ag
      decided (no n) =
          let r = share_over a d n (k, mk, ak, h) in
          subst (λ (l : Columns). Memᴰ d l) (one_block (blocks y) q.apart r.0 g a r.1 mg r.2 ag) r.3

blocks_within : {s t : Join} {x y : List ℕ} → OneJoin s x → OneJoin t y → AllFollow (Fact t) (Fact s) → AllFollow (Fact s) (Fact t) → Within (Block x) (Block y)
blocks_within p q st ts k mk =
    let w = p.two k mk in
    let r = share_over p q st w.0 w.1 w.4 (k, mk, w.2, w.3) in
    (r.0, r.1, λ (d : ℕ). (block_over p q st k r.0 w.0 mk r.1 w.2 r.2 d, block_over q p ts r.0 k w.0 r.1 mk r.2 w.2 d))

within_facts : {s t : Join} {x y : List ℕ} → OneJoin s x → OneJoin t y → Within (Block x) (Block y) → AllFollow (Fact t) (Fact s)
within_facts p q w f m a b ma mb n =
    let h = (p.share a b n).1 (one_step (f, m, ma, mb)) in
    let r = w h.0 h.1 in
    (q.share a b n).0 (r.0, r.1, (r.2 a).0 h.2, (r.2 b).0 h.3)

-- ---- non-null columns

swapped : {first second c : ℕ} → Memᴰ c (first ∷ second ∷ []) → Memᴰ c (second ∷ first ∷ [])
swapped (Memᴰ.head e) = Memᴰ.tail (Memᴰ.head e)
swapped (Memᴰ.tail (Memᴰ.head e)) = Memᴰ.head e
swapped (Memᴰ.tail (Memᴰ.tail m)) = elim m [ ]

module _ {s t : Join} (w : EquatedIn s t) where
  step_over : (a b : ℕ) → Together (Equated s) a b → Linked (Equated t) a b
  step_over a b (f, equated first second null_safe e q, ma, mb) = either (w first second null_safe e)
    where
      in_pair : {c : ℕ} → Memᴰ c f → Memᴰ c (first ∷ second ∷ [])
      in_pair {c} m = subst (λ (l : Columns). Memᴰ c l) (sym q) m

      either : Equates t first second null_safe ⊎ Equates t second first null_safe → Linked (Equated t) a b
      either (inl d) = one_step (first ∷ second ∷ [], equated first second null_safe d refl, in_pair ma, in_pair mb)
      either (inr d) = one_step (second ∷ first ∷ [], equated second first null_safe d refl, swapped (in_pair ma), swapped (in_pair mb))

  ordinary_over : (c : ℕ) → InOrdinary s c → InOrdinary t c
  ordinary_over c o = either (w o.first o.second false o.equates)
    where
      either : Equates t o.first o.second false ⊎ Equates t o.second o.first false → InOrdinary t c
      either (inl d) = record { first = o.first; second = o.second; equates = d; stands = o.stands }
      either (inr d) = record { first = o.second; second = o.first; equates = d; stands = swapped o.stands }

  leads_over : (a : ℕ) → LeadsToOrdinary s a → LeadsToOrdinary t a
  leads_over a (c, l, o) = (c, carried step_over l, ordinary_over c o)

non_nulls_over : {s t : Join} {x y : List ℕ} → OneJoin s x → OneJoin t y → EquatedIn s t → (a : ℕ) → Memᴰ a (non_nulls x) → Memᴰ a (non_nulls y)
non_nulls_over p q w a m = (q.non_null a).1 (leads_over w a ((p.non_null a).0 m))

-- ---- the two joins

pub two_joins : {s t : Join} {x y : List ℕ} → OneJoin s x → OneJoin t y → TwoJoins s t x y
two_joins {s} {t} {x} {y} p q = record {
  first = p;
  second = q;
  same_blocks = (λ (h : SameSet (Block x) (Block y)). (within_facts p q h.0, within_facts q p h.1), λ (h : AllFollow (Fact t) (Fact s) × AllFollow (Fact s) (Fact t)). joined h.0 h.1);
  alike_in_facts = λ (h : SameSet (Fact s) (Fact t)). joined (within_follow h.0) (within_follow h.1);
  alike_in_equating = λ (h : EquatedIn s t × EquatedIn t s) (a : ℕ). (non_nulls_over p q h.0 a, non_nulls_over q p h.1 a);
}
  where
    joined : AllFollow (Fact t) (Fact s) → AllFollow (Fact s) (Fact t) → SameSet (Block x) (Block y)
    joined st ts = (blocks_within p q st ts, blocks_within q p ts st)
