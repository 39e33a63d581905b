use lib.Ieee.{neg, of_bits}
use Rattle.std.proofs.Common.{ap, ◌∙◌, rules}
use Rattle.root.specs.Guess.{guessed}
use Rattle.root.proofs.Quick.{guess_whole, guess_low, guess_high}
use Rattle.root.proofs.digits.guess.Goals as goal
use Rattle.root.proofs.digits.guess.Goals.{else-g-via-then-g+else-g-2, else-g-via-else-g}

pub truncating_f64_to_u64-requires-clause-lower_bound : goal.truncating_f64_to_u64-requires-clause-lower_bound
unfolding of_bits neg
truncating_f64_to_u64-requires-clause-lower_bound c = search rules

pub truncating_f64_to_u64-requires-clause-upper_bound : goal.truncating_f64_to_u64-requires-clause-upper_bound
unfolding of_bits neg
truncating_f64_to_u64-requires-clause-upper_bound c = search rules

pub returns-then-g-2 : goal.returns-then-g-2
unfolding of_bits
returns-then-g-2 c = c.truncating_f64_to_u64.ensures ∙ guess_whole _ _ (c.guessed-g.ensures ∙ ap guessed c.nearest_u64_to_f64.ensures) c.if-g.true c.if-g-2.true

pub returns : goal.returns
unfolding of_bits
returns c =
    let is = c.guessed-g.ensures ∙ ap guessed c.nearest_u64_to_f64.ensures in
    elim c.else-g.branch [
      | else-g-via-then-g+else-g-2 w ↦ guess_high _ _ is w.if-g.true w.if-g-2.false
      | else-g-via-else-g w ↦ guess_low _ _ is w.if-g.false
    ]
