-- Ranges of floats. Definitions only.
use Rattle.std.specs.Prelude.{zero, suc, Bool, true, false, ◌&&◌, ◌||◌, Float}
use Rattle.std.specs.Float.{nan, inf, fin}
use Rattle.std.specs.Float.Ieee.{le}

-- +0, and not -0
abbrev pub plus_zero : Float → Bool
plus_zero nan = false
plus_zero (inf s) = false
plus_zero (fin true m e) = false
plus_zero (fin false zero e) = true
plus_zero (fin false (suc m) e) = false

abbrev pub between : Float → Float → Float → Bool
between low high x = le low x && le x high

abbrev pub zero_or_between : Float → Float → Float → Bool
zero_or_between low high x = plus_zero x || between low high x
