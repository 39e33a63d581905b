-- A list of pairs as an array of all that a join may have: behind the last one stands `no_pair`. Definitions only.
use Rattle.std.specs.Prelude.{◌-◌, false, List, ◌++◌, length, replicate}
use Rattle.layout.specs.Places.{conjunct_limit}
use Rattle.equality_pairs.specs.declared.pairs.EqualityPair.{EqualityPair}

abbrev pub no_pair : EqualityPair
no_pair = record { left = 0; right = 0; null_safe = false }

abbrev pub padded : List EqualityPair → List EqualityPair
padded pairs = pairs ++ replicate (conjunct_limit - length pairs) no_pair
