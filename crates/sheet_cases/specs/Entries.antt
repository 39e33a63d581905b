-- Whether an entry gives the answer that the list has for it. Definitions only.
use Rattle.std.specs.Prelude.{ℕ, zero, suc, Bool, true, false, ◌&&◌, List, eqb, length, replicate}
use Rattle.le.specs.Fields.{byte_at}
use Rattle.layout.specs.Places.{longest_join, longest_split, longest_predicate}
use Rattle.answers.specs.Answers.{Answer, Refused, Written, Result, answered, leaves}
use Rattle.expression_answer.specs.Predicate.{predicate_result}
use Rattle.expression_answer.specs.Split.{split_result}
use Rattle.join_answer.specs.Join.{join_result}

-- the first n bytes of one list are those of the other
unfoldable pub same_bytes : List ℕ → List ℕ → ℕ → Bool
same_bytes out expected zero = true
same_bytes out expected (suc n) = eqb (byte_at out n) (byte_at expected n) && same_bytes out expected n

-- the call wrote as many bytes as are expected, and these
abbrev pub is_answer : Answer → List ℕ → List ℕ → Bool
is_answer (Refused n) out expected = false
is_answer (Written n) out expected = eqb n (length expected) && same_bytes out expected (length expected)

-- of a call with this result, into zeros
abbrev pub is_result : Result → List ℕ → List ℕ → Bool
is_result result out expected = is_answer (answered result out) (leaves result out) expected

unfoldable pub is_predicate : List ℕ → ℕ → List ℕ → Bool
unfolding same_bytes
is_predicate s e expected = is_result (predicate_result s e) (replicate longest_predicate 0) expected

unfoldable pub is_split : List ℕ → ℕ → List ℕ → Bool
unfolding same_bytes
is_split s e expected = is_result (split_result s e) (replicate longest_split 0) expected

unfoldable pub is_join : List ℕ → List ℕ → Bool
unfolding same_bytes
is_join s expected = is_result (join_result s) (replicate longest_join 0) expected
