-- Laws of a record given by the list of its fields: its size, its rules one by one, its bytes where they stand, its order. Assumes nothing.
use Prim.Native.Nat.{ℕ, zero, suc, ◌+◌, ◌-◌, ◌^◌, ◌<◌, ◌≤◌}
use mathlib.Core.Path.{◌≡◌, refl, sym, ap, ◌∙◌}
use mathlib.Core.List.{List, [], ◌∷◌, ◌++◌, append_assoc}
use native.Mathlib.Omega.{arith}
use native.Mathlib.Nat.{add-zero}
use lib.Dec.{leb}
use borrow.Author.Tests.{leb-true, le-leb}
use lib.ListN.{length, take, drop, length-append, length-drop}
use lib.Seq.{get_or-drop, drop-cons, drop-drop, drop_at, take_at}
use Rattle.le.specs.Fields.{byte_at, field_at, field_bytes}
use Rattle.le.proofs.FieldLaws.{cut, bytes_length, field_back, field_found}
use Rattle.rules.specs.Rules.{ask, or_else}
use Rattle.rules.proofs.RuleLaws.{ask_kept, else_first, else_second}
use Rattle.layout.specs.Fields.{Order, same, order_then, Field, size_of, behind, refusal_from, whole, fields_refusal, bytes_of, order_of, number_order, sized, byte, group}
use Rattle.layout.specs.Lawful.{Ordered, Sized, LawfulField, as_field}
use Rattle.layout.proofs.OrderLaws.{keyed, then_ordered, same_equal, equal_same, before_not_same, after_not_same}

abbrev pub EachField : {C A : Type 0} → (Field C A → Type 0) → List (Field C A) → Type 0
EachField P [] = Unit {0}
EachField P (f ∷ fs) = P f × EachField P fs

-- one fact for each field
infixr 5 ◌and◌
abbrev pub ◌and◌ : {A B : Type 0} → A → B → A × B
◌and◌ a b = (a, b)

-- ---- the rules

-- each field's rule is kept
abbrev pub Kept : {C A : Type 0} → List (Field C A) → C → List ℕ → ℕ → ℕ → Type 0
Kept [] c s at k = Unit {0}
Kept (f ∷ fs) c s at k = (f.refusal c s (behind at k) ≡ 0) × Kept fs c s at (k + f.width)

pub fields_kept : {C A : Type 0} (fs : List (Field C A)) (c : C) (s : List ℕ) (at k : ℕ) → refusal_from fs c s at k ≡ 0 → Kept fs c s at k
fields_kept [] c s at k e = tt
fields_kept (f ∷ []) c s at k e = (e, tt)
fields_kept (f ∷ g ∷ fs) c s at k e =
    let rest = refusal_from (g ∷ fs) c s at (k + f.width) in
    (else_first (f.refusal c s (behind at k)) rest e, fields_kept (g ∷ fs) c s at (k + f.width) (else_second (f.refusal c s (behind at k)) rest e))

-- and the other way round
pub kept_fields : {C A : Type 0} (fs : List (Field C A)) (c : C) (s : List ℕ) (at k : ℕ) → Kept fs c s at k → refusal_from fs c s at k ≡ 0
kept_fields [] c s at k h = refl
kept_fields (f ∷ []) c s at k h = h.0
kept_fields (f ∷ g ∷ fs) c s at k h = λ i. or_else (h.0 i) (kept_fields (g ∷ fs) c s at (k + f.width) h.1 i)

pub whole_room : (n : ℕ) (s : List ℕ) (at : ℕ) → 0 < n → whole n s at ≡ 0 → at + n ≤ length s
whole_room n s at h e = let l : n ≤ length s - at = leb-true n (length s - at) (ask_kept (leb n (length s - at)) 2 (omega arith) e) in omega arith

-- a record that is not refused keeps each field's rule, and is there whole
pub record_kept : {C A : Type 0} (fs : List (Field C A)) (c : C) (s : List ℕ) (at : ℕ) → fields_refusal fs c s at ≡ 0 → Kept fs c s at 0
record_kept fs c s at e = fields_kept fs c s at 0 (else_second (whole (size_of fs) s at) _ e)

pub record_room : {C A : Type 0} (fs : List (Field C A)) (c : C) (s : List ℕ) (at : ℕ) → 0 < size_of fs → fields_refusal fs c s at ≡ 0 → at + size_of fs ≤ length s
record_room fs c s at h e = whole_room (size_of fs) s at h (else_first (whole (size_of fs) s at) (refusal_from fs c s at 0) e)

-- ---- the size

pub record_sized : {C A : Type 0} (fs : List (Field C A)) → EachField Sized fs → (x : A) → length (bytes_of fs x) ≡ size_of fs
record_sized [] h x = refl
record_sized (f ∷ fs) h x = length-append (f.bytes x) (bytes_of fs x) ∙ λ i. h.0 x i + record_sized fs h.1 x i

-- ---- the bytes where they stand: x's fields stand in s from k bytes behind a place on

abbrev pub Standing : {C A : Type 0} → List (Field C A) → A → List ℕ → ℕ → ℕ → Type 0
Standing [] x s at k = Unit {0}
Standing (f ∷ fs) x s at k = ((t : List ℕ) × (drop (behind at k) s ≡ f.bytes x ++ t)) × Standing fs x s at (k + f.width)

pub behind_is : (at k : ℕ) → behind at k ≡ at + k
behind_is at zero = sym (add-zero at)
behind_is at (suc k) = refl

behind_more : (at k n : ℕ) → behind at (k + n) ≡ behind at k + n
behind_more at k n = behind_is at (k + n) ∙ (let h = behind_is at k in omega arith)

pub stands : {C A : Type 0} (fs : List (Field C A)) → EachField Sized fs → (x : A) (s t : List ℕ) (at k : ℕ) → drop (behind at k) s ≡ bytes_of fs x ++ t → Standing fs x s at k
stands [] h x s t at k e = tt
stands (f ∷ fs) h x s t at k e =
    let rest : List ℕ = bytes_of fs x ++ t in
    let q : drop (behind at k) s ≡ f.bytes x ++ rest = e ∙ append_assoc (f.bytes x) (bytes_of fs x) t in
    let d : drop (behind at (k + f.width)) s ≡ rest
    = ap (λ (i : ℕ). drop i s) (behind_more at k f.width) ∙ sym (drop-drop f.width (behind at k) s) ∙ ap (drop f.width) q ∙ drop_at (f.bytes x) rest f.width (h.0 x) in
    ((rest, q), stands fs h.1 x s t at (k + f.width) d)

-- a record whose bytes stand there, and each of whose rules is kept, is accepted
pub record_accepted : {C A : Type 0} (fs : List (Field C A)) → EachField Sized fs → (c : C) (x : A) (s t : List ℕ) (at : ℕ) → drop at s ≡ bytes_of fs x ++ t → Kept fs c s at 0 → fields_refusal fs c s at ≡ 0
record_accepted fs h c x s t at e k =
    let n : length s - at ≡ length (bytes_of fs x) + length t = sym (length-drop at s) ∙ ap length e ∙ length-append (bytes_of fs x) t in
    let m = record_sized fs h x in
    λ i. or_else (ask (le-leb (size_of fs) (length s - at) (omega arith) i) 2) (kept_fields fs c s at 0 k i)

-- each field's bytes are those that stand there
abbrev pub Written : {C A : Type 0} → List (Field C A) → A → List ℕ → ℕ → ℕ → Type 0
Written [] x s at k = Unit {0}
Written (f ∷ fs) x s at k = (f.bytes x ≡ take f.width (drop (behind at k) s)) × Written fs x s at (k + f.width)

pub written : {C A : Type 0} (fs : List (Field C A)) (x : A) (s : List ℕ) (at k : ℕ) → Written fs x s at k → bytes_of fs x ≡ take (size_of fs) (drop (behind at k) s)
written [] x s at k h = refl
written (f ∷ fs) x s at k h =
    (λ i. h.0 i ++ written fs x s at (k + f.width) h.1 i)
    ∙ sym (cut f.width (size_of fs) s (behind at k) (behind at (k + f.width)) (sym (behind_more at k f.width)))

-- ---- a record of lawful fields is as lawful as they are

pub sizes : {C A : Type 0} (L : A → Type 0) (fs : List (Field C A)) → EachField (LawfulField L) fs → EachField Sized fs
sizes L [] h = tt
sizes L (f ∷ fs) h = (h.0.sized, sizes L fs h.1)

front : (a b c d : List ℕ) (n : ℕ) → length a ≡ n → length c ≡ n → a ++ b ≡ c ++ d → (a ≡ c) × (b ≡ d)
front a b c d n h k e = (sym (take_at a b n h) ∙ ap (take n) e ∙ take_at c d n k, sym (drop_at a b n h) ∙ ap (drop n) e ∙ drop_at c d n k)

pub both_same : (v w : Order) → order_then v w ≡ same → (v ≡ same) × (w ≡ same)
both_same Order.before w e = absurd (before_not_same e)
both_same Order.same w e = (refl, e)
both_same Order.after w e = absurd (after_not_same e)

pub record_lawful : {C A : Type 0} (L : A → Type 0) (fs : List (Field C A)) → EachField (LawfulField L) fs → LawfulField L (as_field fs)
record_lawful L [] h = record {
  sized = λ x. refl;
  ordered = record { converse = λ x y a b. refl; transitive = λ x y z a b c e f. e; congruent = λ x y z a b c e. refl };
  alike = λ x y a b e. refl;
  equal = λ x y a b e. refl;
}
record_lawful L (f ∷ fs) h =
    let rest = record_lawful L fs h.1 in
    record {
      sized = record_sized (f ∷ fs) (sizes L (f ∷ fs) h);
      ordered = then_ordered L f.order (order_of fs) h.0.ordered rest.ordered;
      alike = λ x y a b e. let p = both_same (f.order x y) (order_of fs x y) e in λ i. h.0.alike x y a b p.0 i ++ rest.alike x y a b p.1 i;
      equal = λ x y a b e.
          let p = front (f.bytes x) (bytes_of fs x) (f.bytes y) (bytes_of fs y) f.width (h.0.sized x) (h.0.sized y) e in
          λ i. order_then (h.0.equal x y a b p.0 i) (rest.equal x y a b p.1 i);
    }

-- a part of the record is as lawful as it is by itself
pub part_ordered : {A B : Type 0} (L : A → Type 0) (M : B → Type 0) (get : A → B) (o : B → B → Order) → ((x : A) → L x → M (get x)) → Ordered M o → Ordered L (λ x y. o (get x) (get y))
part_ordered L M get o h e = record {
  converse = λ x y a b. e.converse (get x) (get y) (h x a) (h y b);
  transitive = λ x y z a b c. e.transitive (get x) (get y) (get z) (h x a) (h y b) (h z c);
  congruent = λ x y z a b c. e.congruent (get x) (get y) (get z) (h x a) (h y b) (h z c);
}

pub group_lawful : {C D A B : Type 0} (L : A → Type 0) (M : B → Type 0) (get : A → B) (rule : C → List ℕ → ℕ → ℕ) (fs : List (Field D B)) → ((x : A) → L x → M (get x)) → LawfulField M (as_field fs)
    → LawfulField L (group get rule fs)
group_lawful L M get rule fs h e = record {
  sized = λ x. e.sized (get x);
  ordered = part_ordered L M get (order_of fs) h e.ordered;
  alike = λ x y a b p. e.alike (get x) (get y) (h x a) (h y b) p;
  equal = λ x y a b p. e.equal (get x) (get y) (h x a) (h y b) p;
}

-- ---- numbers

pub sized_read : {C A : Type 0} (n : ℕ) (get : A → ℕ) (rule : C → List ℕ → ℕ → ℕ) (x : A) (s : List ℕ) (at : ℕ) → get x < 256 ^ n
    → ((t : List ℕ) × (drop at s ≡ (sized n get rule).bytes x ++ t)) → field_at n s at ≡ get x
sized_read n get rule x s at h e = field_found n (get x) s e.0 at h e.1

pub sized_lawful : {C A : Type 0} (L : A → Type 0) (n : ℕ) (get : A → ℕ) (rule : C → List ℕ → ℕ → ℕ) → ((x : A) → L x → get x < 256 ^ n) → LawfulField {C = C} L (sized n get rule)
sized_lawful L n get rule h = record {
  sized = λ x. bytes_length n (get x);
  ordered = keyed L (λ x y. number_order (get x) (get y)) get (λ x y a b. refl);
  alike = λ x y a b e. ap (field_bytes n) (same_equal (get x) (get y) e);
  equal = λ x y a b e.
      let p : get x ≡ get y = sym (field_back n (get x) [] (h x a)) ∙ ap (λ (l : List ℕ). field_at n (l ++ []) 0) e ∙ field_back n (get y) [] (h y b) in
      ap (λ (v : ℕ). number_order v (get y)) p ∙ equal_same (get y);
}

-- ---- bytes

pub byte_read : {C A : Type 0} (get : A → ℕ) (rule : C → List ℕ → ℕ → ℕ) (x : A) (s : List ℕ) (at : ℕ) → ((t : List ℕ) × (drop at s ≡ (byte get rule).bytes x ++ t)) → byte_at s at ≡ get x
byte_read get rule x s at e = sym (get_or-drop at s 0 0 ∙ ap (byte_at s) (add-zero at)) ∙ ap (λ (l : List ℕ). byte_at l 0) e.1

pub byte_back : (v : ℕ) (s : List ℕ) (at : ℕ) → v ≡ byte_at s at → at < length s → v ∷ [] ≡ take 1 (drop at s)
byte_back v s at e h = rw (drop-cons s at 0 h, e) refl

pub byte_lawful : {C A : Type 0} (L : A → Type 0) (get : A → ℕ) (rule : C → List ℕ → ℕ → ℕ) → LawfulField {C = C} L (byte get rule)
byte_lawful L get rule = record {
  sized = λ x. refl;
  ordered = keyed L (λ x y. number_order (get x) (get y)) get (λ x y a b. refl);
  alike = λ x y a b e. ap (λ (n : ℕ). n ∷ []) (same_equal (get x) (get y) e);
  equal = λ x y a b e. ap (λ (v : ℕ). number_order v (get y)) (ap (λ (l : List ℕ). byte_at l 0) e) ∙ equal_same (get y);
}
