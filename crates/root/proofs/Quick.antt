-- What the square of a number leaves of w * 4 ^ 27, worked out in parts of 27 digits, and what that of a number a little larger leaves: what the tests of a guess show. Assumes nothing.
use Rattle.std.proofs.Common.{Option, Some, None, ◌≡◌, ℕ, zero, suc, ◌+◌, ◌-◌, ◌*◌, ◌/◌, ◌%◌, ◌^◌, ◌<◌, ◌≤◌, Bool, true, false, cond, ◌&&◌, pos, sym, refl, ap, ◌∙◌, subst, le_of_lt, mul_assoc, mul_comm, mul-le-mul, mul-add, arith, ltb-true, le-ltb, lt-ltb, le-leb, leb-true}
use native.Mathlib.Nat.{mul-mul-mul_comm}
use borrow.Author.Tests.{lt-leb}
use Rattle.std.specs.Prelude.{MatchOption, SomeIff, option_and_then, nat_le, nat_lt}
use Rattle.std.specs.Bool.{then_some}
use Rattle.std.proofs.lemmas.Bool.{and_parts}
use Rattle.std.proofs.lemmas.Option.{cond_some, none-some, option_and_then_some}
use lib.Ieee.{Float, fin, binary64, of_int, to_unsigned, neg, lt}
use Rattle.float.specs.Order.{f64_one}
use Rattle.root.specs.Digits.{RootDigits, rounded_by, rounded_half}
use Rattle.root.specs.Guess.{guessed, whole_of, guess, leaves_little, remainder_of, moved_up, corrected}
use Rattle.root.specs.declared.digits.Digits.{Digits}
use Rattle.root.proofs.Squares.{sq_sum}

-- the square of a * 2 ^ 27 + b
sq_parts : (a b : ℕ) → (a * 0x800_0000 + b) * (a * 0x800_0000 + b) ≡ 18014398509481984 * (a * a) + 268435456 * (a * b) + b * b
sq_parts a b =
    let s = sq_sum (a * 0x800_0000) b in
    let p : a * 0x800_0000 * (a * 0x800_0000) ≡ a * a * 18014398509481984 = mul-mul-mul_comm a 0x800_0000 a 0x800_0000 in
    let q : a * 0x800_0000 * b ≡ 0x800_0000 * (a * b) = ap (λ (x : ℕ). x * b) (mul_comm a 0x800_0000) ∙ mul_assoc 0x800_0000 a b in
    omega arith

left_is : (w g : ℕ) → g / 0x800_0000 * (g / 0x800_0000) ≤ w → 2 * (g / 0x800_0000 * (g % 0x800_0000)) ≤ (w - g / 0x800_0000 * (g / 0x800_0000)) * 0x800_0000
    → g % 0x800_0000 * (g % 0x800_0000) ≤ ((w - g / 0x800_0000 * (g / 0x800_0000)) * 0x800_0000 - 2 * (g / 0x800_0000 * (g % 0x800_0000))) * 0x800_0000
    → g * g + (((w - g / 0x800_0000 * (g / 0x800_0000)) * 0x800_0000 - 2 * (g / 0x800_0000 * (g % 0x800_0000))) * 0x800_0000 - g % 0x800_0000 * (g % 0x800_0000)) ≡ w * 4 ^ 27
left_is w g h k l = go (g / 0x800_0000) (g % 0x800_0000) (omega arith) h k l
  where
    go : (a b : ℕ) → g ≡ a * 0x800_0000 + b → a * a ≤ w → 2 * (a * b) ≤ (w - a * a) * 0x800_0000 → b * b ≤ ((w - a * a) * 0x800_0000 - 2 * (a * b)) * 0x800_0000
        → g * g + (((w - a * a) * 0x800_0000 - 2 * (a * b)) * 0x800_0000 - b * b) ≡ w * 4 ^ 27
    go a b e h k l = rw e (let s = sq_parts a b in omega arith)

-- ---- a guess

module _ (w : ℕ) (g : Float) (is : g ≡ guessed (of_int binary64 (pos w))) where
  pub guess_whole : lt (neg f64_one) g ≡ true → lt g (fin false 1 (pos 64)) ≡ true → to_unsigned 64 g ≡ guess w
  unfolding guess
  guess_whole a b = ap (λ (t : Bool). cond t (to_unsigned 64 g) 0) (sym (λ i. a i && b i)) ∙ ap whole_of is

  pub guess_low : lt (neg f64_one) g ≡ false → 0 ≡ guess w
  unfolding guess
  guess_low a = ap (λ (t : Bool). cond (t && lt g (fin false 1 (pos 64))) (to_unsigned 64 g) 0) (sym a) ∙ ap whole_of is

  pub guess_high : lt (neg f64_one) g ≡ true → lt g (fin false 1 (pos 64)) ≡ false → 0 ≡ guess w
  unfolding guess
  guess_high a b = ap (λ (t : Bool). cond t (to_unsigned 64 g) 0) (sym (λ i. a i && b i)) ∙ ap whole_of is

-- ---- the tests of a guess

abbrev high : ℕ → ℕ
high g = g / 0x800_0000

abbrev low : ℕ → ℕ
low g = g % 0x800_0000

-- what the tests say
abbrev pub Little : ℕ → ℕ → ℕ → Type 0
Little w a b =
    (a * a ≤ w)
    × (w - a * a < 0x2000_0000)
    × (2 * (a * b) ≤ (w - a * a) * 0x800_0000)
    × ((w - a * a) * 0x800_0000 - 2 * (a * b) < 0x10_0000_0000)
    × (b * b ≤ ((w - a * a) * 0x800_0000 - 2 * (a * b)) * 0x800_0000)

little_parts : (w a b : ℕ) → leaves_little w a b ≡ true → Little w a b
little_parts w a b t =
    let p = and_parts _ _ t in
    let q = and_parts _ _ p.1 in
    let r = and_parts _ _ q.1 in
    let s = and_parts _ _ r.1 in
    (leb-true _ _ p.0, ltb-true _ _ q.0, leb-true _ _ r.0, ltb-true _ _ s.0, leb-true _ _ s.1)

module _ (w g : ℕ) where
  remainder_some : (left : ℕ) → Little w (high g) (low g) → left ≡ ((w - high g * high g) * 0x800_0000 - 2 * (high g * low g)) * 0x800_0000 - low g * low g → Some left ≡ remainder_of w g
  unfolding remainder_of
  remainder_some left (h, i, j, k, l) e = rw (le-leb _ _ h, lt-ltb _ _ i, le-leb _ _ j, lt-ltb _ _ k, le-leb _ _ l) (ap Some (let is = left_is w g h j l in omega arith))

  pub remainder_none : (Little w (high g) (low g) → ⊥) → None ≡ remainder_of w g
  unfolding remainder_of
  remainder_none n = go (leaves_little w (high g) (low g)) (λ t. n (little_parts w (high g) (low g) t))
    where
      go : (b : Bool) → (b ≡ true → ⊥) → None ≡ cond b (Some (w * 4 ^ 27 - g * g)) None
      go true n = absurd (n refl)
      go false n = refl

  -- all but the last pass
  pub remainder_end : (f : ℕ) (r : Option ℕ) → high g * high g ≤ w → w - high g * high g < 0x2000_0000 → 2 * (high g * low g) ≤ (w - high g * high g) * 0x800_0000 → f < 0x10_0000_0000
      → f ≡ (w - high g * high g) * 0x800_0000 - 2 * (high g * low g) → SomeIff r (low g * low g ≤ f * 0x800_0000) (f * 0x800_0000 - low g * low g) → r ≡ remainder_of w g
  remainder_end f None h i j k e s = remainder_none (λ l. s (let m = l.4 in omega arith))
  remainder_end f (Some left) h i j k e s = let m = s.0 in let is = s.1 in remainder_some left (h, i, j, omega arith, omega arith) (omega arith)

  remainder_left : (left : ℕ) → remainder_of w g ≡ Some left → g * g + left ≡ w * 4 ^ 27
  unfolding remainder_of
  remainder_left left e =
      let p = cond_some (leaves_little w (high g) (low g)) (w * 4 ^ 27 - g * g) left e in
      let l = little_parts w (high g) (low g) p.0 in
      let is = left_is w g l.0 l.2 l.4 in
      let i = p.1 in
      omega arith

-- q more than g
more_is : (g q rest n : ℕ) → g * g + rest ≡ n → q * (2 * g + q) ≤ rest → (g + q) * (g + q) + (rest - q * (2 * g + q)) ≡ n
more_is g q rest n e h =
    let s = sq_sum g q in
    let m : q * (2 * g + q) ≡ 2 * (g * q) + q * q = mul-add q (2 * g) q ∙ ap (λ (x : ℕ). x + q * q) (mul_comm q (2 * g) ∙ mul_assoc 2 g q) in
    omega arith

-- ---- the tests of an attempt, where g leaves `left`
abbrev step : ℕ → ℕ → ℕ
step g left = left / (2 * g + 1)

module _ (w g : ℕ) where
  pub attempt_nowhere : g < 0x3f_ffff_ffff_ff00 → None ≡ remainder_of w g → None ≡ corrected w g
  unfolding corrected
  attempt_nowhere h is = rw (lt-ltb _ _ h, sym is) refl

  module _ (left : ℕ) (h : g < 0x3f_ffff_ffff_ff00) (is : Some left ≡ remainder_of w g) where
    attempt_of : moved_up g left (step g left) ≡ corrected w g
    unfolding corrected
    attempt_of = rw (lt-ltb _ _ h, sym is) refl

    pub attempt_far : 64 ≤ step g left → None ≡ corrected w g
    attempt_far i = rw (le-ltb _ _ i) refl ∙ attempt_of

    pub attempt_short : step g left < 64 → left < step g left * (2 * g + step g left) → None ≡ corrected w g
    attempt_short i j = rw (lt-ltb _ _ i, lt-leb _ _ j) refl ∙ attempt_of

    pub attempt_made : (rest : ℕ) → step g left < 64 → step g left * (2 * g + step g left) ≤ left → rest ≡ left - step g left * (2 * g + step g left)
        → then_some (nat_le rest (2 * (g + step g left))) (record { digits = g + step g left; rest = rest }) ≡ corrected w g
    attempt_made rest i j e = rw e (go (nat_le (left - step g left * (2 * g + step g left)) (2 * (g + step g left)))) ∙ made ∙ attempt_of
      where
        found : Digits
        found = record { digits = g + step g left; rest = left - step g left * (2 * g + step g left) }

        go : (b : Bool) → then_some b found ≡ cond b (Some found) None
        go true = refl
        go false = refl

        made : cond (nat_le (left - step g left * (2 * g + step g left)) (2 * (g + step g left))) (Some found) None ≡ moved_up g left (step g left)
        made = rw (lt-ltb _ _ i, le-leb _ _ j) refl

-- an attempt that passes has all digits
pub attempt_digits : (w g : ℕ) (t : Digits) → Some t ≡ corrected w g → RootDigits w t.digits t.rest
unfolding corrected
attempt_digits w g t e = go (nat_lt g 0x3f_ffff_ffff_ff00) (ltb-true _ _) (sym e)
  where
    digits_of : (left : ℕ) → g < 0x3f_ffff_ffff_ff00 → remainder_of w g ≡ Some left → moved_up g left (step g left) ≡ Some t → RootDigits w t.digits t.rest
    digits_of left h is found =
        let p = cond_some _ _ t found in
        let q = and_parts _ _ p.0 in
        let r = and_parts _ _ q.1 in
        let i : step g left < 64 = ltb-true _ _ q.0 in
        subst (λ (t : Digits). RootDigits w t.digits t.rest) p.1 (record { whole = more_is g (step g left) left _ (remainder_left w g left is) (leb-true _ _ r.0); small = leb-true _ _ r.1; bound = omega arith })

    go : (b : Bool) → (b ≡ true → g < 0x3f_ffff_ffff_ff00) → cond b (option_and_then (λ left. moved_up g left (step g left)) (remainder_of w g)) None ≡ Some t → RootDigits w t.digits t.rest
    go true h e = option_and_then_some (λ left. moved_up g left (step g left)) (remainder_of w g) t e (λ left is found. digits_of left (h refl) is found)
    go false h e = absurd (none-some t e)

pub small : (x y : ℕ) → x < 0x800_0000 → y < 0x800_0000 → x * y ≤ 18014398509481984
small x y h k = mul-le-mul {n₂ = 0x800_0000} (le_of_lt h) (le_of_lt k)

pub bounded : (q x : ℕ) → q ≤ 64 → x ≤ 72057594037927936 → q * x ≤ 4611686018427387904
bounded q x h k = mul-le-mul {n₂ = 64} h k

-- ---- half of the digits, rounded, without a branch on the last of them
pub rounded_whole : (digits rest : ℕ) → rest ≡ 0 → (digits + digits / 2 % 2) / 2 ≡ rounded_half digits rest
rounded_whole digits rest z = subst (λ (n : ℕ). (digits + digits / 2 % 2) / 2 ≡ rounded_half digits n) (sym z) (go (digits % 2) refl)
  where
    go : (o : ℕ) → digits % 2 ≡ o → (digits + digits / 2 % 2) / 2 ≡ rounded_by o (digits / 2) 0
    go zero e = omega arith
    go (suc o) e = omega arith

pub rounded_part : (digits rest : ℕ) → (rest ≡ 0 → ⊥) → (digits + 1) / 2 ≡ rounded_half digits rest
rounded_part digits zero z = absurd (z refl)
rounded_part digits (suc rest) z = go (digits % 2) refl
  where
    go : (o : ℕ) → digits % 2 ≡ o → (digits + 1) / 2 ≡ rounded_by o (digits / 2) (suc rest)
    go zero e = omega arith
    go (suc o) e = omega arith

-- the attempt's digits, or others of the same root
pub attempt_or : {P : Type 0} (w g : ℕ) (o : Option Digits) (r : Digits) → o ≡ corrected w g → (P → RootDigits w r.digits r.rest) → MatchOption o P (λ x. r ≡ x) → RootDigits w r.digits r.rest
attempt_or w g None r e p m = p m
attempt_or w g (Some t) r e p m = subst (λ (x : Digits). RootDigits w x.digits x.rest) (sym m) (attempt_digits w g t e)
