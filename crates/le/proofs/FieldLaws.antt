-- Laws of little-endian fields, over the width n in bytes. Assumes nothing.
use Prim.Native.Nat.{ℕ, zero, suc, ◌+◌, ◌*◌, ◌/◌, ◌%◌, ◌^◌, ◌≤◌, ◌<◌}
use mathlib.Core.Path.{◌≡◌, refl, sym, ap, ◌∙◌, subst}
use mathlib.Core.Logic.{⊎_elim, inl, inr}
use mathlib.Core.Bool.{Bool, true, false, ◌&&◌}
use mathlib.Core.List.{List, [], ◌∷◌, ◌++◌, append_assoc}
use native.Mathlib.Omega.{arith}
use native.Mathlib.Nat.{mul-le-mul_right, one-le-pow, pow-suc, mul_assoc, mul_comm, add-mul, suc-mul, eq-or-lt_of_le, add-zero, zero-add, add-suc, suc-add, div-one, div-div-eq-div-mul}
use lib.Dec.{eqb, ltb}
use borrow.Author.Tests.{eq-eqb, ne_eqb, eqb-true, eqb-false, ltb-true, ltb-false}
use lib.ListN.{length, take, drop, length-append}
use lib.Seq.{get_or-drop, drop-cons, drop-drop, drop_at, take-add}
use lib.Pow.{pow-add}
use Rattle.std.specs.Int.{byte_at as byte_of, byte_worth, bytes_low_first, sum_through}
use Rattle.std.specs.List.{slice_index}
use Rattle.le.specs.Fields.{byte_at, field_at, field_bytes}

-- every byte is one
abbrev pub Bytes : List ℕ → Type 0
Bytes s = (i : ℕ) → byte_at s i < 256

-- ---- the number of a field

step_up : (f b w : ℕ) → f < w → b < 256 → f + b * w < w * 256
step_up f b w h k = let m : b * w ≤ 255 * w = mul-le-mul_right w (omega arith) in omega arith

pub field_below : (n : ℕ) (s : List ℕ) (at : ℕ) → Bytes s → field_at n s at < 256 ^ n
unfolding field_at
field_below zero s at h = omega arith
field_below (suc n) s at h =
    subst (λ (w : ℕ). field_at n s at + byte_at s (at + n) * 256 ^ n < w) (sym (pow-suc 256 n))
    (step_up (field_at n s at) (byte_at s (at + n)) (256 ^ n) (field_below n s at h) (h (at + n)))

-- the byte at the front, and the others
pub field_head : (n : ℕ) (s : List ℕ) (at : ℕ) → field_at (suc n) s at ≡ byte_at s at + 256 * field_at n s (suc at)
unfolding field_at
field_head zero s at = let b : byte_at s (at + 0) ≡ byte_at s at = ap (byte_at s) (omega arith) in omega arith
field_head (suc n) s at =
    let h : field_at (suc n) s at ≡ byte_at s at + 256 * field_at n s (suc at) = field_head n s at in
    let b : byte_at s (at + suc n) ≡ byte_at s (suc at + n) = ap (byte_at s) (omega arith) in
    let w : byte_at s (at + suc n) * 256 ^ suc n ≡ byte_at s (suc at + n) * 256 ^ n * 256
    = ap (λ (x : ℕ). byte_at s (at + suc n) * x) (pow-suc 256 n) ∙ ap (λ (x : ℕ). x * (256 ^ n * 256)) b ∙ sym (mul_assoc (byte_at s (suc at + n)) (256 ^ n) 256) in
    ap (λ (x : ℕ). x + byte_at s (at + suc n) * 256 ^ suc n) h ∙ omega arith

-- a field in two parts
pub field_split : (n m : ℕ) (s : List ℕ) (at : ℕ) → field_at (n + m) s at ≡ field_at n s at + field_at m s (at + n) * 256 ^ n
unfolding field_at
field_split n zero s at = let e : field_at (n + 0) s at ≡ field_at n s at = ap (λ (k : ℕ). field_at k s at) (add-zero n) in omega arith
field_split n (suc m) s at =
    let h : field_at (n + m) s at ≡ field_at n s at + field_at m s (at + n) * 256 ^ n = field_split n m s at in
    let b : byte_at s (at + (n + m)) ≡ byte_at s (at + n + m) = ap (byte_at s) (omega arith) in
    let p : 256 ^ (n + m) ≡ 256 ^ m * 256 ^ n = pow-add 256 n m ∙ mul_comm (256 ^ n) (256 ^ m) in
    let w : byte_at s (at + (n + m)) * 256 ^ (n + m) ≡ byte_at s (at + n + m) * 256 ^ m * 256 ^ n
    = ap (λ (x : ℕ). x * 256 ^ (n + m)) b ∙ ap (λ (x : ℕ). byte_at s (at + n + m) * x) p ∙ sym (mul_assoc (byte_at s (at + n + m)) (256 ^ m) (256 ^ n)) in
    let d : (field_at m s (at + n) + byte_at s (at + n + m) * 256 ^ m) * 256 ^ n ≡ field_at m s (at + n) * 256 ^ n + byte_at s (at + n + m) * 256 ^ m * 256 ^ n
    = add-mul (field_at m s (at + n)) (byte_at s (at + n + m) * 256 ^ m) (256 ^ n) in
    let u : field_at (n + suc m) s at ≡ field_at (n + m) s at + byte_at s (at + (n + m)) * 256 ^ (n + m) = ap (λ (k : ℕ). field_at k s at) (add-suc n m) in
    omega arith

pub field_drop : (n k : ℕ) (s : List ℕ) (at : ℕ) → field_at n (drop k s) at ≡ field_at n s (k + at)
unfolding field_at
field_drop zero k s at = refl
field_drop (suc n) k s at =
    let b : byte_at (drop k s) (at + n) ≡ byte_at s (k + at + n) = get_or-drop k s (at + n) 0 ∙ ap (byte_at s) (omega arith) in
    ap (λ (x : ℕ). x + byte_at (drop k s) (at + n) * 256 ^ n) (field_drop n k s at) ∙ ap (λ (x : ℕ). field_at n s (k + at) + x * 256 ^ n) b

-- what std's `from_le_bytes` gives of n + 1 bytes that are those from a place on
read_le : (n : ℕ) (bytes s : List ℕ) (at : ℕ) → ((i : ℕ) → i < suc n → slice_index bytes i ≡ byte_at s (at + i)) → sum_through (λ i. byte_worth i (slice_index bytes i)) n ≡ field_at (suc n) s at
unfolding field_at
read_le zero bytes s at h = omega (arith, h 0 (omega arith))
read_le (suc n) bytes s at h = omega (arith, read_le n bytes s at (λ i k. h i (omega arith)), ap (λ (b : ℕ). b * 256 ^ suc n) (h (suc n) (omega arith)))

-- the same of bytes that are those from a place on below k, and 0 from k on
pub read_cut : (n k : ℕ) (bytes s : List ℕ) (at : ℕ) → k ≤ suc n → ((i : ℕ) → i < k → slice_index bytes i ≡ byte_at s (at + i)) → ((i : ℕ) → k ≤ i → i < suc n → slice_index bytes i ≡ 0)
    → sum_through (λ i. byte_worth i (slice_index bytes i)) n ≡ field_at k s at
unfolding field_at
read_cut zero zero bytes s at p h z = z 0 (omega arith) (omega arith)
read_cut zero (suc k) bytes s at p h z = let e : k ≡ 0 = omega arith in rw e (read_le zero bytes s at (λ i q. h i (omega arith)))
read_cut (suc n) k bytes s at p h z = elim (eq-or-lt_of_le p) [
  | inl e ↦ rw e (read_le (suc n) bytes s at (λ i q. h i (omega arith)))
  | inr l ↦
      let i = read_cut n k bytes s at (omega arith) h (λ i q r. z i q (omega arith)) in
      let b = z (suc n) (omega arith) (omega arith) in
      rw b (omega arith)
]

-- ---- zeros

zero_sum : (a b w : ℕ) → 1 ≤ w → (eqb a 0 && eqb b 0) ≡ eqb (a + b * w) 0
zero_sum zero zero w h = sym (eq-eqb (0 + 0 * w) 0 (omega arith))
zero_sum zero (suc b) w h =
    let m : 1 * w ≤ suc b * w = mul-le-mul_right w (omega arith) in
    let n : 0 + suc b * w ≡ 0 → ⊥ = λ e. omega arith in
    ne_eqb (suc b) 0 (λ e. omega arith) ∙ sym (ne_eqb (0 + suc b * w) 0 n)
zero_sum (suc a) b w h =
    ap (λ (t : Bool). t && eqb b 0) (ne_eqb (suc a) 0 (λ e. omega arith)) ∙ sym (ne_eqb (suc a + b * w) 0 (λ e. omega arith))

-- a field is zeros where both its parts are
pub zeros_split : (n m : ℕ) (s : List ℕ) (at : ℕ) → (eqb (field_at n s at) 0 && eqb (field_at m s (at + n)) 0) ≡ eqb (field_at (n + m) s at) 0
zeros_split n m s at =
    zero_sum (field_at n s at) (field_at m s (at + n)) (256 ^ n) (one-le-pow n 256 (omega arith)) ∙ ap (λ (x : ℕ). eqb x 0) (sym (field_split n m s at))

-- ---- equal fields

-- two sums over w are not equal where the high part of one is less and its low part is below w
apart : (a b c d w : ℕ) → a < w → c < d → a + c * w ≡ b + d * w → ⊥
apart a b c d w h l e =
    let m : suc c * w ≤ d * w = mul-le-mul_right w l in
    let s : suc c * w ≡ c * w + w = suc-mul c w in
    omega arith

sum_same : (a b c d w : ℕ) → a < w → b < w → eqb (a + c * w) (b + d * w) ≡ (eqb a b && eqb c d)
sum_same a b c d w h k = go (eqb a b) (eqb c d) refl refl
  where
    high : (t : Bool) → ltb c d ≡ t → (c ≡ d → ⊥) → a + c * w ≡ b + d * w → ⊥
    high true l n e = apart a b c d w h (ltb-true c d l) e
    high false l n e = let g : d < c = ⊎_elim (λ q. absurd (n (sym q))) (λ q. q) (eq-or-lt_of_le (ltb-false c d l)) in apart b a d c w k g (sym e)

    low : (a ≡ b → ⊥) → c ≡ d → a + c * w ≡ b + d * w → ⊥
    low n f e = let m : c * w ≡ d * w = ap (λ (x : ℕ). x * w) f in n (omega arith)

    go : (p q : Bool) → eqb a b ≡ p → eqb c d ≡ q → eqb (a + c * w) (b + d * w) ≡ (p && q)
    go true true e f = eq-eqb (a + c * w) (b + d * w) (λ i. eqb-true a b e i + eqb-true c d f i * w)
    go true false e f = ne_eqb (a + c * w) (b + d * w) (high (ltb c d) refl (eqb-false c d f))
    go false true e f = ne_eqb (a + c * w) (b + d * w) (low (eqb-false a b e) (eqb-true c d f))
    go false false e f = ne_eqb (a + c * w) (b + d * w) (high (ltb c d) refl (eqb-false c d f))

-- two fields are equal where both their parts are
pub field_same : (n m : ℕ) (s : List ℕ) (at to : ℕ) → Bytes s → eqb (field_at (n + m) s at) (field_at (n + m) s to) ≡ (eqb (field_at n s at) (field_at n s to) && eqb (field_at m s (at + n)) (field_at m s (to + n)))
field_same n m s at to h =
    (λ i. eqb (field_split n m s at i) (field_split n m s to i))
    ∙ sum_same (field_at n s at) (field_at n s to) (field_at m s (at + n)) (field_at m s (to + n)) (256 ^ n) (field_below n s at h) (field_below n s to h)

-- ---- a field written and read back

field_tail : (n : ℕ) (x : ℕ) (s : List ℕ) (at : ℕ) → field_at n (x ∷ s) (suc at) ≡ field_at n s at
unfolding field_at
field_tail zero x s at = refl
field_tail (suc n) x s at =
    let b : byte_at (x ∷ s) (suc at + n) ≡ byte_at s (at + n) = ap (byte_at (x ∷ s)) (suc-add at n) in
    ap (λ (y : ℕ). y + byte_at (x ∷ s) (suc at + n) * 256 ^ n) (field_tail n x s at) ∙ ap (λ (y : ℕ). field_at n s at + y * 256 ^ n) b

pub bytes_length : (n v : ℕ) → length (field_bytes n v) ≡ n
unfolding field_bytes
bytes_length zero v = refl
bytes_length (suc n) v = ap suc (bytes_length n (v / 256))

-- the bytes that std's `to_le_bytes` gives, from byte i on
bytes_from : (i n v : ℕ) → bytes_low_first i n v ≡ field_bytes n (v / 256 ^ i)
unfolding field_bytes
bytes_from i zero v = refl
bytes_from i (suc n) v =
    let q : v / 256 ^ suc i ≡ v / 256 ^ i / 256 = ap (λ (x : ℕ). v / x) (pow-suc 256 i) ∙ sym (div-div-eq-div-mul v (256 ^ i) 256) in
    rw (first i, bytes_from (suc i) n v, q) refl
  where
    first : (i : ℕ) → byte_of i v ≡ v / 256 ^ i % 256
    first zero = omega arith
    first (suc i) = refl

pub bytes_le : (n v : ℕ) → field_bytes n v ≡ bytes_low_first 0 n v
bytes_le n v = ap (field_bytes n) (sym (div-one v)) ∙ sym (bytes_from 0 n v)

pub field_back : (n v : ℕ) (t : List ℕ) → v < 256 ^ n → field_at n (field_bytes n v ++ t) 0 ≡ v
unfolding field_at field_bytes
field_back zero v t h = omega arith
field_back (suc n) v t h =
    let q : v / 256 < 256 ^ n = omega arith in
    let i : field_at n (field_bytes n (v / 256) ++ t) 0 ≡ v / 256 = field_back n (v / 256) t q in
    let e : field_at n (v % 256 ∷ (field_bytes n (v / 256) ++ t)) 1 ≡ v / 256 = field_tail n (v % 256) (field_bytes n (v / 256) ++ t) 0 ∙ i in
    field_head n (v % 256 ∷ (field_bytes n (v / 256) ++ t)) 0 ∙ omega arith

pub bytes_back : (n : ℕ) (s : List ℕ) (at : ℕ) → Bytes s → at + n ≤ length s → field_bytes n (field_at n s at) ≡ take n (drop at s)
unfolding field_bytes
bytes_back zero s at h k = refl
bytes_back (suc n) s at h k =
    let b : byte_at s at < 256 = h at in
    let e : field_at (suc n) s at ≡ byte_at s at + 256 * field_at n s (suc at) = field_head n s at in
    let lo : field_at (suc n) s at % 256 ≡ byte_at s at = omega arith in
    let hi : field_at (suc n) s at / 256 ≡ field_at n s (suc at) = omega arith in
    rw (lo, hi, drop-cons s at 0 (omega arith), bytes_back n s (suc at) h (omega arith)) refl

-- ---- one byte

pub u8_sum : (s : List ℕ) (at : ℕ) → field_at 1 s at ≡ byte_at s at
unfolding field_at
u8_sum s at = let b : byte_at s (at + 0) ≡ byte_at s at = ap (byte_at s) (add-zero at) in omega arith

-- ---- a field found where its bytes stand

pub field_found : (n v : ℕ) (s t : List ℕ) (at : ℕ) → v < 256 ^ n → drop at s ≡ field_bytes n v ++ t → field_at n s at ≡ v
field_found n v s t at h e = ap (field_at n s) (sym (add-zero at)) ∙ sym (field_drop n at s 0) ∙ ap (λ (l : List ℕ). field_at n l 0) e ∙ field_back n v t h

-- the bytes of a field in two parts
pub bytes_split : (n m a b : ℕ) → a < 256 ^ n → field_bytes (n + m) (a + b * 256 ^ n) ≡ field_bytes n a ++ field_bytes m b
unfolding field_bytes
bytes_split zero m a b h = let e : a + b * 256 ^ 0 ≡ b = omega arith in rw (zero-add m, e) refl
bytes_split (suc n) m a b h =
    let p : 256 ^ suc n ≡ 256 ^ n * 256 = pow-suc 256 n in
    let w : b * 256 ^ suc n ≡ b * 256 ^ n * 256 = ap (λ (x : ℕ). b * x) p ∙ sym (mul_assoc b (256 ^ n) 256) in
    let lo : (a + b * 256 ^ suc n) % 256 ≡ a % 256 = omega arith in
    let hi : (a + b * 256 ^ suc n) / 256 ≡ a / 256 + b * 256 ^ n = omega arith in
    rw (suc-add n m, lo, hi, bytes_split n m (a / 256) b (omega arith)) refl

-- ---- fields one after the other, each a width and a number

pub cut : (n m : ℕ) (s : List ℕ) (at k : ℕ) → at + n ≡ k → take (n + m) (drop at s) ≡ take n (drop at s) ++ take m (drop k s)
cut n m s at k e = take-add n m (drop at s) ∙ ap (λ (l : List ℕ). take n (drop at s) ++ take m l) (drop-drop n at s ∙ ap (λ (i : ℕ). drop i s) e)

abbrev pub widths : List (ℕ × ℕ) → ℕ
widths [] = 0
widths (f ∷ fs) = f.0 + widths fs

abbrev pub fields_bytes : List (ℕ × ℕ) → List ℕ
fields_bytes [] = []
fields_bytes (f ∷ fs) = field_bytes f.0 f.1 ++ fields_bytes fs

-- each number has room in its width
abbrev pub FieldsFit : List (ℕ × ℕ) → Type 0
FieldsFit [] = Unit {0}
FieldsFit (f ∷ fs) = (f.1 < 256 ^ f.0) × FieldsFit fs

-- they stand in s from the place at + k on
abbrev pub FieldsAt : List (ℕ × ℕ) → List ℕ → ℕ → ℕ → Type 0
FieldsAt [] s at k = Unit {0}
FieldsAt (f ∷ fs) s at k = (field_at f.0 s (at + k) ≡ f.1) × FieldsAt fs s at (k + f.0)

pub fields_length : (fs : List (ℕ × ℕ)) → length (fields_bytes fs) ≡ widths fs
fields_length [] = refl
fields_length (f ∷ fs) = let a = length-append (field_bytes f.0 f.1) (fields_bytes fs) in let b = bytes_length f.0 f.1 in let c = fields_length fs in omega arith

pub fields_found : (fs : List (ℕ × ℕ)) (s t : List ℕ) (at k : ℕ) → FieldsFit fs → drop (at + k) s ≡ fields_bytes fs ++ t → FieldsAt fs s at k
fields_found [] s t at k h e = tt
fields_found (f ∷ fs) s t at k h e =
    let here : List ℕ = field_bytes f.0 f.1 in
    let rest : List ℕ = fields_bytes fs ++ t in
    let q : drop (at + k) s ≡ here ++ rest = e ∙ append_assoc here (fields_bytes fs) t in
    let a : at + (k + f.0) ≡ at + k + f.0 = omega arith in
    let d : drop (at + (k + f.0)) s ≡ rest = ap (λ (i : ℕ). drop i s) a ∙ sym (drop-drop f.0 (at + k) s) ∙ ap (drop f.0) q ∙ drop_at here rest f.0 (bytes_length f.0 f.1) in
    (field_found f.0 f.1 s rest (at + k) h.0 q, fields_found fs s t at (k + f.0) h.1 d)

pub fields_back : (fs : List (ℕ × ℕ)) (s : List ℕ) (at k : ℕ) → Bytes s → at + k + widths fs ≤ length s → FieldsAt fs s at k → fields_bytes fs ≡ take (widths fs) (drop (at + k) s)
fields_back [] s at k b h e = refl
fields_back (f ∷ fs) s at k b h e =
    let here : field_bytes f.0 f.1 ≡ take f.0 (drop (at + k) s) = ap (field_bytes f.0) (sym e.0) ∙ bytes_back f.0 s (at + k) b (omega arith) in
    let rest : fields_bytes fs ≡ take (widths fs) (drop (at + (k + f.0)) s) = fields_back fs s at (k + f.0) b (omega arith) e.1 in
    (λ i. here i ++ rest i) ∙ sym (cut f.0 (widths fs) s (at + k) (at + (k + f.0)) (omega arith))
