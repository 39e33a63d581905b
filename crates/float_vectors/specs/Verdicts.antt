-- What a record claims: the bits of an answer of the crates `root`, `power` and `float`. Definitions only.
use Rattle.std.specs.Prelude.{ℕ, Bool, false, List, Option, Some, None, eqb, pos, ◌+ℤ◌, ◌-ℤ◌}
use Rattle.std.specs.Result.{result_ok}
use Rattle.std.specs.Float.{Float, binary64}
use Rattle.std.specs.Float.Ieee.{of_bits, to_bits, of_int}
use Rattle.float.specs.Tens.{power_of_ten}
use Rattle.root.specs.Root.{root}
use Rattle.power.specs.Power.{power}
use Rattle.le.specs.Fields.{byte_at, u64_at}
use Rattle.signed.specs.Signed.{signed}
use Rattle.float_vectors.specs.Kinds.{kind_of}
use Rattle.float_vectors.specs.declared.kinds.Kind.{Kind}
use Rattle.float_vectors.specs.declared.kinds.Kind.TheVariants.{Root, Power, Difference, NextDifference, Integer, Ten}
use Rattle.float_vectors.specs.declared.verdicts.Case.{Case}

-- of a difference and of an integer, a and b are signed numbers in two's complement
unfoldable pub value_of : Kind → ℕ → ℕ → Float
value_of Root a b = root (of_bits binary64 a)
value_of Power a b = power (of_bits binary64 a) (of_bits binary64 b)
value_of Difference a b = of_int binary64 (signed 8 a -ℤ signed 8 b)
value_of NextDifference a b = of_int binary64 (signed 8 a -ℤ signed 8 b +ℤ pos 1)
value_of Integer a b = of_int binary64 (signed 8 a)
value_of Ten a b = power_of_ten a

-- a record: the kind, then a, b and the expected bits of eight bytes each
unfoldable pub case_of : List ℕ → Case
case_of r = record { kind = result_ok (kind_of (byte_at r 0)); a = u64_at r 1; b = u64_at r 9; expected = u64_at r 17 }

-- a kind that is not known agrees with nothing
unfoldable pub agrees_with : Option Kind → ℕ → ℕ → ℕ → Bool
agrees_with (Some kind) a b expected = eqb (to_bits binary64 (value_of kind a b)) expected
agrees_with None a b expected = false

abbrev pub agrees : Case → Bool
agrees c = agrees_with c.kind c.a c.b c.expected
