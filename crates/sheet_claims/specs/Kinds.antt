-- What kinds of commands there are, by their numbers. Definitions only.
use Rattle.std.specs.Prelude.{ℕ, List, cond, eqb, Option, Result, Ok, Err}
use Rattle.std.specs.Result.{result_ok}
use Rattle.le.specs.Fields.{byte_at}
use Rattle.sheet_claims.specs.Commands.{kind_offset}
use Rattle.sheet_claims.specs.declared.commands.Kind.{Kind}
use Rattle.sheet_claims.specs.declared.commands.UnknownKind.{UnknownKind}
use Rattle.sheet_claims.specs.declared.commands.Kind.TheVariants.{Store, Refused, Accepted, Prefixes, StoreAnswer, Join, Predicate, Split}

abbrev pub kind_number : Kind → ℕ
kind_number Store = 1
kind_number Refused = 2
kind_number Accepted = 3
kind_number Prefixes = 4
kind_number StoreAnswer = 5
kind_number Join = 6
kind_number Predicate = 7
kind_number Split = 8

abbrev pub unknown_kind : UnknownKind
unknown_kind = record {}

abbrev pub numbered_kind : ℕ → Result Kind UnknownKind
numbered_kind kind =
    cond (eqb kind 1) (Ok Store)
    (cond (eqb kind 2) (Ok Refused)
    (cond (eqb kind 3) (Ok Accepted)
    (cond (eqb kind 4) (Ok Prefixes)
    (cond (eqb kind 5) (Ok StoreAnswer)
    (cond (eqb kind 6) (Ok Join)
    (cond (eqb kind 7) (Ok Predicate)
    (cond (eqb kind 8) (Ok Split) (Err unknown_kind))))))))

-- the kind of a command, by its first byte
abbrev pub kind_of : List ℕ → Option Kind
kind_of c = result_ok (numbered_kind (byte_at c kind_offset))
