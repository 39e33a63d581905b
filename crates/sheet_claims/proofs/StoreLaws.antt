-- Copying goes on: the bytes that are left to copy from i on give what all of them give; and copying to a part of a
-- list is copying to the list. Which kind a command has, by its number. Assumes nothing.
use Prim.Native.Nat.{ℕ, zero, suc, ◌+◌, ◌-◌, ◌≤◌, ◌<◌}
use mathlib.Core.Path.{◌≡◌, refl, sym, ap, ◌∙◌}
use mathlib.Core.Bool.{true}
use mathlib.Core.List.{List, ◌++◌}
use borrow.Author.Tests.{leb-true}
use native.Mathlib.Omega.{arith}
use borrow.Author.Rules.{rules}
use borrow.Author.Tests.{tests}
use lib.Dec.{eqb, leb}
use Rattle.std.specs.Prelude.{Option, Some}
use Rattle.std.specs.Result.{result_ok}
use Rattle.std.specs.Option.{option_eq}
use Rattle.sheet_claims.specs.contracts.commands.KindPartialEq.TheImpl as kinds
use lib.ListN.{length, set, take, drop, length-set}
use lib.Seq.{length-take-le}
use borrow.Rule.Slice.PartMut.{put_mid}
use Rattle.std.proofs.Common.{length-drop, take-append-drop}
use Rattle.std.proofs.lemmas.List.{set-append_left, set-append_right}
use Rattle.le.specs.Fields.{byte_at, u16_at, u32_at}
use Rattle.rules.proofs.RuleLaws.{both_second}
use Rattle.sheet_claims.specs.Kinds.{kind_number, numbered_kind, kind_of}
use Rattle.sheet_claims.specs.declared.commands.Kind.{Kind}
use Rattle.sheet_claims.specs.declared.commands.Kind.TheVariants.{Store, Refused, Accepted, Prefixes, StoreAnswer, Join, Predicate, Split}
use Rattle.sheet_claims.specs.Commands.{kind_offset, store_count_offset, store_place_offset, store_limit}
use Rattle.sheet_claims.specs.Stores.{copied, store_fits}

left_all : (n : ℕ) → n - 0 ≡ n
left_all n = omega arith

left_suc : (n i : ℕ) → i < n → n - i ≡ suc (n - (i + 1))
left_suc n i h = omega arith

left_none : (n i : ℕ) → n ≤ i → n - i ≡ 0
left_none n i h = omega arith

at_first : (a : ℕ) → a + 0 ≡ a
at_first a = omega arith

at_next : (a i : ℕ) → a + (i + 1) ≡ a + i + 1
at_next a i = omega arith

pub copied_start : (s c : List ℕ) (from n : ℕ) → copied s 0 c (from + 0) (n - 0) ≡ copied s 0 c from n
copied_start s c from n = rw (at_first from, left_all n) refl

pub copied_next : (s c total : List ℕ) (from i n : ℕ) → i < n → copied s i c (from + i) (n - i) ≡ total
    → copied (set s i (byte_at c (from + i))) (i + 1) c (from + (i + 1)) (n - (i + 1)) ≡ total
unfolding copied
copied_next s c total from i n h e = let f = rw (left_suc n i h) at e in rw (at_next from i) f

pub copied_end : (s c total : List ℕ) (from i n : ℕ) → n ≤ i → copied s i c (from + i) (n - i) ≡ total → s ≡ total
unfolding copied
copied_end s c total from i n h e = rw (left_none n i h) at e

-- ---- a part of a list that takes all that is copied

set_mid : (front mid back : List ℕ) (k v : ℕ) → k < length mid → set (front ++ (mid ++ back)) (length front + k) v ≡ front ++ (set mid k v ++ back)
set_mid front mid back k v h =
    set-append_right front (mid ++ back) (length front) (length front + k) v refl (omega arith)
    ∙ ap (λ (i : ℕ). front ++ set (mid ++ back) i v) (without (length front) k)
    ∙ ap (λ (l : List ℕ). front ++ l) (set-append_left mid back k v h)
  where
    without : (a k : ℕ) → a + k - a ≡ k
    without a k = omega arith

copied_mid : (front mid back c : List ℕ) (k from n : ℕ) → k + n ≤ length mid → copied (front ++ (mid ++ back)) (length front + k) c from n ≡ front ++ (copied mid k c from n ++ back)
unfolding copied
copied_mid front mid back c k from zero h = refl
copied_mid front mid back c k from (suc n) h =
    ap (λ (l : List ℕ). copied l (length front + k + 1) c (from + 1) n) (set_mid front mid back k (byte_at c from) (omega arith))
    ∙ ap (λ (a : ℕ). copied (front ++ (set mid k (byte_at c from) ++ back)) a c (from + 1) n) (sym (at_next (length front) k))
    ∙ copied_mid front (set mid k (byte_at c from)) back c (k + 1) (from + 1) n (omega (arith, length-set mid k (byte_at c from)))

pub copied_part : (s c : List ℕ) (at from n k : ℕ) → at + n ≤ length s → k ≡ n → put_mid at k s (copied (take k (drop at s)) 0 c from n) ≡ copied s at c from n
copied_part s c at from n k h e =
    let held : length (take k (drop at s)) ≡ k = length-take-le k (drop at s) (omega (arith, length-drop at s)) in
    let whole : take at s ++ (take k (drop at s) ++ drop k (drop at s)) ≡ s = ap (λ (l : List ℕ). take at s ++ l) (take-append-drop k (drop at s)) ∙ take-append-drop at s in
    sym (copied_mid (take at s) (take k (drop at s)) (drop k (drop at s)) c 0 from n (omega arith))
    ∙ ap (λ (a : ℕ). copied (take at s ++ (take k (drop at s) ++ drop k (drop at s))) a c from n) (at_first (length (take at s)) ∙ length-take-le at s (omega arith))
    ∙ ap (λ (l : List ℕ). copied l at c from n) whole

-- what fits ends within the buffer
pub fits_room : (s c : List ℕ) → store_fits s c ≡ true → u32_at c store_place_offset + u16_at c store_count_offset ≤ length s
unfolding store_fits
fits_room s c e = leb-true _ _ (both_second (leb (u16_at c store_count_offset) store_limit) _ e)

-- ---- which kind a command has

same_kind : (n : ℕ) (kind : Kind) → option_eq kinds.eq-value.it (result_ok (numbered_kind n)) (Some kind) ≡ eqb n (kind_number kind)
same_kind n Store = search (rules, tests)
same_kind n Refused = search (rules, tests)
same_kind n Accepted = search (rules, tests)
same_kind n Prefixes = search (rules, tests)
same_kind n StoreAnswer = search (rules, tests)
same_kind n Join = search (rules, tests)
same_kind n Predicate = search (rules, tests)
same_kind n Split = search (rules, tests)

pub is_of_kind : (c : List ℕ) (o : Option Kind) (kind : Kind) → o ≡ kind_of c → option_eq kinds.eq-value.it o (Some kind) ≡ eqb (byte_at c kind_offset) (kind_number kind)
is_of_kind c o kind e = ap (λ (x : Option Kind). option_eq kinds.eq-value.it x (Some kind)) e ∙ same_kind (byte_at c kind_offset) kind
