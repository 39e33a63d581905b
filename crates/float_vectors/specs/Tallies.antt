-- How many records of a list are of a kind, and how many of them differ. Definitions only.
use Rattle.std.specs.Prelude.{ℕ, ◌/◌, Bool, not, ◌&&◌, List, Option, Some, None, eqb, length, count_by}
use Rattle.std.specs.Simd.{first_chunks}
use Rattle.float_vectors.specs.Verdicts.{case_of, agrees}
use Rattle.float_vectors.specs.declared.kinds.Kind.{Kind}
use Rattle.float_vectors.specs.declared.kinds.Kind.TheVariants.{Root, Power, Difference, NextDifference, Integer, Ten}
use Rattle.float_vectors.specs.declared.tallies.Tally.{Tally}

-- 0 stands for no kind
abbrev pub number_of : Option Kind → ℕ
number_of None = 0
number_of (Some Root) = 1
number_of (Some Power) = 2
number_of (Some Difference) = 3
number_of (Some NextDifference) = 4
number_of (Some Integer) = 5
number_of (Some Ten) = 6

abbrev pub is_of : Option Kind → List ℕ → Bool
is_of kind r = eqb (number_of (case_of r).kind) (number_of kind)

abbrev pub differs_in : Option Kind → List ℕ → Bool
differs_in kind r = is_of kind r && not (agrees (case_of r))

-- the whole records of a list, 25 bytes each
abbrev pub records_of : List ℕ → List (List ℕ)
records_of s = first_chunks 25 (length s / 25) s

unfoldable pub tally_of : List ℕ → Option Kind → Tally
tally_of s kind = record {
  cases = count_by (is_of kind) (records_of s);
  differ = count_by (differs_in kind) (records_of s);
}
