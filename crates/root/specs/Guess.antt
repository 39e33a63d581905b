-- The digits of the root of w * 4 ^ 27 from a guess in the processor's arithmetic, and the tests that the guess has to pass. Nothing here says how near the guess is: the tests do. Definitions only.
use Rattle.std.specs.Prelude.{ℕ, ◌+◌, ◌-◌, ◌*◌, ◌/◌, ◌%◌, ◌^◌, Bool, false, cond, ◌&&◌, pos, negsuc, nat_le, nat_lt, Option, Some, None, option_and_then, Float}
use Rattle.std.specs.Float.{fin, binary64}
use Rattle.std.specs.Float.Ieee.{round, of_int, to_unsigned, add, sub, mul, neg, lt}
use Rattle.float.specs.Order.{f64_one}
use Rattle.root.specs.declared.digits.Digits.{Digits}

-- ---- the guess

-- near 1 / √s for s from 1/4 to 1, by a cubic
unfoldable pub near_reciprocal : Float → Float
near_reciprocal s =
    add binary64 (round binary64 false 30743311272572025 (10 ^ 16)) (mul binary64 s (add binary64 (neg (round binary64 false 569307942682696 (10 ^ 14)))
    (mul binary64 s (sub binary64 (round binary64 false 5861523764356084 (10 ^ 15)) (mul binary64 s (round binary64 false 2247896649133078 (10 ^ 15)))))))

-- nearer to it than y is
unfoldable pub nearer_reciprocal : Float → Float → Float
nearer_reciprocal s y =
    let e = sub binary64 f64_one (mul binary64 (mul binary64 s y) y) in
    add binary64 y (mul binary64 (mul binary64 y e) (add binary64 (fin false 1 (negsuc 0)) (mul binary64 e (add binary64 (fin false 3 (negsuc 2)) (mul binary64 e (fin false 5 (negsuc 3)))))))

-- near √s, from z near 1 / √s
unfoldable pub near_root : Float → Float → Float
near_root s z =
    let r = mul binary64 s z in
    add binary64 r (mul binary64 (sub binary64 s (mul binary64 r r)) (mul binary64 (fin false 1 (negsuc 0)) z))

-- a little below the root of w * 4 ^ 27, where x is the float nearest to w
unfoldable pub guessed : Float → Float
unfolding near_reciprocal nearer_reciprocal near_root
guessed x =
    let s = mul binary64 x (fin false 1 (negsuc 53)) in
    sub binary64 (mul binary64 (near_root s (nearer_reciprocal s (near_reciprocal s))) (fin false 1 (pos 54))) (fin false 1 (pos 2))

-- without its fraction
abbrev pub whole_of : Float → ℕ
whole_of g = cond (lt (neg f64_one) g && lt g (fin false 1 (pos 64))) (to_unsigned 64 g) 0

unfoldable pub guess : ℕ → ℕ
unfolding guessed
guess w = whole_of (guessed (of_int binary64 (pos w)))

-- ---- the tests

-- what the square of a * 2 ^ 27 + b leaves of w * 4 ^ 27 can be taken off in three parts, and little is left each time
abbrev pub leaves_little : ℕ → ℕ → ℕ → Bool
leaves_little w a b =
    nat_le (a * a) w
    && (nat_lt (w - a * a) 0x2000_0000
    && (nat_le (2 * (a * b)) ((w - a * a) * 0x800_0000)
    && (nat_lt ((w - a * a) * 0x800_0000 - 2 * (a * b)) 0x10_0000_0000
    && nat_le (b * b) (((w - a * a) * 0x800_0000 - 2 * (a * b)) * 0x800_0000))))

unfoldable pub remainder_of : ℕ → ℕ → Option ℕ
remainder_of w g = cond (leaves_little w (g / 0x800_0000) (g % 0x800_0000)) (Some (w * 4 ^ 27 - g * g)) None

-- g moved up by q, the whole part of what is left through 2 * g + 1
abbrev pub moved_up : ℕ → ℕ → ℕ → Option Digits
moved_up g left q =
    cond (nat_lt q 64 && (nat_le (q * (2 * g + q)) left && nat_le (left - q * (2 * g + q)) (2 * (g + q))))
    (Some (record { digits = g + q; rest = left - q * (2 * g + q) }))
    None

unfoldable pub corrected : ℕ → ℕ → Option Digits
unfolding remainder_of
corrected w g = cond (nat_lt g 0x3f_ffff_ffff_ff00) (option_and_then (λ left. moved_up g left (left / (2 * g + 1))) (remainder_of w g)) None
