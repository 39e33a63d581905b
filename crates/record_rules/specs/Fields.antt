-- Rules that several records share. Definitions only.
use Rattle.std.specs.Prelude.{ℕ, ◌-◌, Bool, ◌||◌, List, leb, ltb, eqb}
use Rattle.le.specs.Fields.{u16_at}
use Rattle.layout.specs.Places.{count_limit, no_number}

-- record i begins with a number above that of the record before it, which is as long; strictly
unfoldable pub ascending : ℕ → List ℕ → ℕ → ℕ → Bool
ascending size s i at = eqb i 0 || ltb (u16_at s (at - size)) (u16_at s at)

-- populations, lower frequencies, errors, known row counts
abbrev pub count_lawful : ℕ → Bool
count_lawful n = leb n count_limit

-- FFFF, where it stands for nothing
abbrev pub is_none : ℕ → Bool
is_none n = eqb n no_number
