-- Laws of reading a scalar. Assumes nothing.
use Prim.Native.Nat.{ℕ, zero, suc, ◌+◌, ◌-◌, ◌*◌, ◌/◌, ◌%◌, ◌^◌, ◌≤◌, ◌<◌}
use mathlib.Core.Path.{◌≡◌, refl, sym, ap, ◌∙◌}
use mathlib.Core.Bool.{Bool, true, false, cond, ◌&&◌}
use mathlib.Core.List.{List}
use native.Mathlib.Omega.{arith}
use native.Mathlib.Nat.{suc-mul, mul-div_cancel, zero-lt-suc, mul-le-mul_left, one-le-pow, pow-le-pow_right, pow-suc, one-mul, mul-suc, mod-eq_of_lt, add-mul-mod_self_right, add-zero}
use lib.Dec.{eqb, ltb}
use lib.IntN.{pos, negsuc}
use borrow.Author.Tests.{eq-eqb, ne_eqb, lt-ltb, le-ltb, ltb-true, ltb-false, eqb-true, eqb-false}
use Rattle.std.specs.List.{list_all, range_with_len}
use Rattle.le.specs.Fields.{field_at}
use Rattle.signed.specs.Signed.{signed, unsigned}
use Rattle.le.proofs.FieldLaws.{Bytes, field_below, field_split, zeros_split}
use lib.Pow.{pow-add}
use Rattle.le.specs.Integers.{i64_at}
use Rattle.scalar_bytes.specs.Reading.{zeros_at, sign_extended}
use Rattle.scalar_bytes.specs.Encoding.{extension}

-- ---- the sign extension

same_test : (a b c d : ℕ) → (a ≡ b → c ≡ d) → (c ≡ d → a ≡ b) → eqb a b ≡ eqb c d
same_test a b c d f g = go (eqb a b) (eqb-true a b) (eqb-false a b)
  where
    go : (t : Bool) → (t ≡ true → a ≡ b) → (t ≡ false → a ≡ b → ⊥) → t ≡ eqb c d
    go true y n = sym (eq-eqb c d (f (y refl)))
    go false y n = sym (ne_eqb c d (λ e. n refl (g e)))

-- with w = v + 1: low + high * w is w * w - (w - low) exactly where high is v
module _ (v low high : ℕ) (h : low ≤ v) where
  square : suc v * suc v ≡ v * suc v + suc v
  square = suc-mul v (suc v)

  pub top_is : high ≡ v → low + high * suc v ≡ suc v * suc v - suc (suc v - suc low)
  top_is e = let q : high * suc v ≡ v * suc v = ap (λ (x : ℕ). x * suc v) e in let r = square in omega arith

  is_top : low + high * suc v ≡ suc v * suc v - suc (suc v - suc low) → high ≡ v
  is_top e =
      let r = square in
      let q : high * suc v ≡ v * suc v = omega arith in
      sym (mul-div_cancel high (zero-lt-suc v)) ∙ ap (λ (x : ℕ). x / suc v) q ∙ mul-div_cancel v (zero-lt-suc v)

module _ (s : List ℕ) (at : ℕ) where
  pub extended_low : field_at 8 s at < 2 ^ 63 → eqb (field_at 8 s (at + 8)) 0 ≡ sign_extended s at
  unfolding sign_extended signed unsigned
  extended_low h =
      let e : field_at 16 s at ≡ field_at 8 s at + field_at 8 s (at + 8) * 256 ^ 8 = field_split 8 8 s at in
      let r : eqb (field_at 8 s (at + 8)) 0 ≡ eqb (field_at 16 s at) (field_at 8 s at) = same_test (field_at 8 s (at + 8)) 0 (field_at 16 s at) (field_at 8 s at) (λ q. omega arith) (λ q. omega arith) in
      r ∙ sym (ap (λ (t : Bool). eqb (field_at 16 s at) (unsigned 16 (cond t (pos (field_at 8 s at)) (negsuc (2 ^ 64 - suc (field_at 8 s at)))))) (lt-ltb (field_at 8 s at) (2 ^ 63) h))

  pub extended_high : 2 ^ 63 ≤ field_at 8 s at → field_at 8 s at < 2 ^ 64 → eqb (field_at 8 s (at + 8)) 0xffff_ffff_ffff_ffff ≡ sign_extended s at
  unfolding sign_extended signed unsigned
  extended_high h k =
      let e : field_at 16 s at ≡ field_at 8 s at + field_at 8 s (at + 8) * 256 ^ 8 = field_split 8 8 s at in
      let m : field_at 8 s at ≤ 0xffff_ffff_ffff_ffff = omega arith in
      let r : eqb (field_at 8 s (at + 8)) 0xffff_ffff_ffff_ffff ≡ eqb (field_at 16 s at) (2 ^ 128 - suc (2 ^ 64 - suc (field_at 8 s at)))
      = same_test (field_at 8 s (at + 8)) 0xffff_ffff_ffff_ffff (field_at 16 s at) (2 ^ 128 - suc (2 ^ 64 - suc (field_at 8 s at)))
      (λ q. e ∙ top_is 0xffff_ffff_ffff_ffff (field_at 8 s at) (field_at 8 s (at + 8)) m q)
      (λ q. is_top 0xffff_ffff_ffff_ffff (field_at 8 s at) (field_at 8 s (at + 8)) m (sym e ∙ q)) in
      r ∙ sym (ap (λ (t : Bool). eqb (field_at 16 s at) (unsigned 16 (cond t (pos (field_at 8 s at)) (negsuc (2 ^ 64 - suc (field_at 8 s at)))))) (le-ltb (field_at 8 s at) (2 ^ 63) h))

  pub extension_read : field_at 8 s at < 2 ^ 64 → eqb (field_at 8 s (at + 8)) (extension (i64_at s at)) ≡ sign_extended s at
  unfolding signed
  extension_read k = go (ltb (field_at 8 s at) (2 ^ 63)) (ltb-true (field_at 8 s at) (2 ^ 63)) (ltb-false (field_at 8 s at) (2 ^ 63))
    where
      go : (b : Bool) → (b ≡ true → field_at 8 s at < 2 ^ 63) → (b ≡ false → 2 ^ 63 ≤ field_at 8 s at) → eqb (field_at 8 s (at + 8)) (extension (cond b (pos (field_at 8 s at)) (negsuc (2 ^ 64 - suc (field_at 8 s at))))) ≡ sign_extended s at
      go true y n = extended_low (y refl)
      go false y n = extended_high (n refl) k

-- ---- zeros, part by part

-- as many words from the k-th on
words_zeros : (s : List ℕ) (at k n : ℕ) → list_all (λ i. eqb (field_at 8 s (at + 8 * i)) 0) (range_with_len k n) ≡ zeros_at (8 * n) s (at + 8 * k)
unfolding field_at
words_zeros s at k zero = refl
words_zeros s at k (suc n) =
    let next : at + 8 * (k + 1) ≡ at + 8 * k + 8 = omega arith in
    let more : 8 + 8 * n ≡ 8 * suc n = omega arith in
    ap (λ (t : Bool). eqb (field_at 8 s (at + 8 * k)) 0 && t) (words_zeros s at (k + 1) n ∙ ap (zeros_at (8 * n) s) next)
    ∙ (zeros_split 8 (8 * n) s (at + 8 * k) ∙ ap (λ (m : ℕ). zeros_at m s (at + 8 * k)) more)

pub all_zeros : (s : List ℕ) (at n : ℕ) → list_all (λ i. eqb (field_at 8 s (at + 8 * i)) 0) (range_with_len 0 n) ≡ zeros_at (8 * n) s at
all_zeros s at n = words_zeros s at 0 n ∙ ap (zeros_at (8 * n) s) (add-zero at)

zeros_part : (n m k : ℕ) (s : List ℕ) (at : ℕ) → n + m ≤ k → field_at k s at ≡ 0 → field_at m s (at + n) ≡ 0
zeros_part n m k s at h e =
    let r : field_at (n + m + (k - (n + m))) s at ≡ field_at k s at = ap (λ (j : ℕ). field_at j s at) (omega arith) in
    let a = field_split (n + m) (k - (n + m)) s at in
    let b = field_split n m s at in
    let p : field_at m s (at + n) * 1 ≤ field_at m s (at + n) * 256 ^ n = mul-le-mul_left (field_at m s (at + n)) (one-le-pow n 256 (omega arith)) in
    omega arith

-- of k bytes, m behind the first n are not zeros
pub zeros_broken : (n m k : ℕ) (s : List ℕ) (at : ℕ) → n + m ≤ k → (field_at m s (at + n) ≡ 0 → ⊥) → false ≡ zeros_at k s at
zeros_broken n m k s at h b = sym (ne_eqb (field_at k s at) 0 (λ e. b (zeros_part n m k s at h e)))

-- ---- the rest of n bytes, in eight

bits_law : (r : ℕ) → 2 ^ (8 * r) ≡ 256 ^ r
bits_law zero = refl
bits_law (suc r) = ap (λ (n : ℕ). 2 ^ n) (mul-suc 8 r) ∙ pow-add 2 (8 * r) 8 ∙ ap (λ (x : ℕ). x * 256) (bits_law r) ∙ sym (pow-suc 256 r)

-- the weight of byte r
pub weight_law : (r : ℕ) → r < 8 → 1 * 2 ^ (8 * r) % 2 ^ 64 ≡ 256 ^ r
weight_law r h =
    let less : r ≤ 7 = omega arith in
    let low : 256 ^ r ≤ 256 ^ 7 = pow-le-pow_right (omega arith) less in
    let w : 1 * 2 ^ (8 * r) ≡ 256 ^ r = one-mul (2 ^ (8 * r)) ∙ bits_law r in
    ap (λ (x : ℕ). x % 2 ^ 64) w ∙ mod-eq_of_lt (omega arith)

pub rest_zeros : (m r : ℕ) (s : List ℕ) (at : ℕ) → Bytes s → r ≤ 8 → field_at m s at ≡ 0 → eqb (field_at 8 s (at + m) % 256 ^ r) 0 ≡ zeros_at (m + r) s at
rest_zeros m r s at b h e =
    let k : field_at 8 s (at + m) ≡ field_at (r + (8 - r)) s (at + m) = ap (λ (n : ℕ). field_at n s (at + m)) (omega arith) in
    let rest : field_at 8 s (at + m) % 256 ^ r ≡ field_at r s (at + m) =
    ap (λ (x : ℕ). x % 256 ^ r) (k ∙ field_split r (8 - r) s (at + m))
    ∙ add-mul-mod_self_right (field_at r s (at + m)) (field_at (8 - r) s (at + m + r)) (256 ^ r)
    ∙ mod-eq_of_lt (field_below r s (at + m) b) in
    ap (λ (x : ℕ). eqb x 0) rest
    ∙ ap (λ (t : Bool). t && eqb (field_at r s (at + m)) 0) (sym (eq-eqb (field_at m s at) 0 e))
    ∙ zeros_split m r s at
