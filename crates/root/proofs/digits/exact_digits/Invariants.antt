use Rattle.root.proofs.Squares.{Near}
use Rattle.root.proofs.digits.exact_digits.Given as goal

abbrev pub invariant-more : goal.invariant-more
invariant-more l = Near l.w l.counter l.digits l.rest
