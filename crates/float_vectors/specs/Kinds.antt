-- The kinds of value, by the numbers that stand for them. Definitions only.
use Rattle.std.specs.Prelude.{ℕ, Result, Ok, Err, if◌then◌else◌, ◌==◌}
use Rattle.float_vectors.specs.declared.kinds.Kind.{Kind}
use Rattle.float_vectors.specs.declared.kinds.Kind.TheVariants.{Root, Power, Difference, NextDifference, Integer, Ten}
use Rattle.float_vectors.specs.declared.kinds.UnknownKind.{UnknownKind}

abbrev pub unknown_kind : UnknownKind
unknown_kind = record {}

abbrev pub kind_of : ℕ → Result Kind UnknownKind
kind_of number =
    if number == 1 then Ok Root else (
    if number == 2 then Ok Power else (
    if number == 3 then Ok Difference else (
    if number == 4 then Ok NextDifference else (
    if number == 5 then Ok Integer else (
    if number == 6 then Ok Ten else Err unknown_kind)))))
