-- What a command of the list claims: of a sheet alone, or of an answer of `estimates`. Definitions only.
use Rattle.std.specs.Prelude.{ℕ, ◌+◌, Bool, cond, ◌&&◌, List, Option, Some, None, leb, length, take, drop}
use Rattle.le.specs.Fields.{u16_at, u32_at}
use Rattle.sheet_claims.specs.Kinds.{kind_of}
use Rattle.sheet_claims.specs.declared.commands.Kind.{Kind}
use Rattle.sheet_claims.specs.declared.commands.Kind.TheVariants as kind
use Rattle.sheet_claims.specs.declared.Line.{Line}
use Rattle.sheet_claims.specs.declared.Line.TheVariants.{Unknown, Refused, Accepted, Prefixes, Stores, Joins, Predicates, Splits}
use Rattle.sheet_claims.specs.Commands.{expression_offset, length_offset, place_offset, size_offset}
use Rattle.sheet_claims.specs.Claims.{is_accepted, unknown, one_case, judge_store, judge_refused, judge_prefixes}
use Rattle.sheet_claims.specs.declared.Verdict.{Verdict}
use Rattle.sheet_cases.specs.Entries.{is_predicate, is_split, is_join}

-- the sheet lies within s, and what is to come out within a
unfoldable pub answer_fits : List ℕ → List ℕ → List ℕ → Bool
answer_fits s a c = leb (u32_at c length_offset) (length s) && leb (u32_at c place_offset + u32_at c size_offset) (length a)

-- of an accepted sheet, whose places are the answer, of a predicate and of a split; any other is of a join
abbrev pub answer_holds : Line → List ℕ → ℕ → List ℕ → Bool
answer_holds Accepted s e expected = is_accepted s expected
answer_holds Predicates s e expected = is_predicate s e expected
answer_holds Splits s e expected = is_split s e expected
answer_holds Unknown s e expected = is_join s expected
answer_holds (Refused refusal) s e expected = is_join s expected
answer_holds Prefixes s e expected = is_join s expected
answer_holds Stores s e expected = is_join s expected
answer_holds Joins s e expected = is_join s expected

unfoldable pub judge_answer : Line → List ℕ → List ℕ → List ℕ → Verdict
judge_answer line s a c =
    cond (answer_fits s a c)
    (one_case line (answer_holds line (take (u32_at c length_offset) s) (u16_at c expression_offset) (take (u32_at c size_offset) (drop (u32_at c place_offset) a))))
    unknown

abbrev pub judge_kind : Option Kind → List ℕ → List ℕ → List ℕ → Verdict
judge_kind (Some kind.Store) s a c = judge_store s c
judge_kind (Some kind.Refused) s a c = judge_refused s c
judge_kind (Some kind.Accepted) s a c = judge_answer Accepted s a c
judge_kind (Some kind.Prefixes) s a c = judge_prefixes s c
judge_kind (Some kind.StoreAnswer) s a c = judge_store a c
judge_kind (Some kind.Join) s a c = judge_answer Joins s a c
judge_kind (Some kind.Predicate) s a c = judge_answer Predicates s a c
judge_kind (Some kind.Split) s a c = judge_answer Splits s a c
judge_kind None s a c = unknown

-- by the kind, where s is the sheet's buffer and a the answer's
unfoldable pub judge : List ℕ → List ℕ → List ℕ → Verdict
judge s a c = judge_kind (kind_of c) s a c
