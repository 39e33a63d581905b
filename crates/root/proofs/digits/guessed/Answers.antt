use Rattle.std.proofs.Common.{refl}
use lib.Ieee.{of_bits, round}
use Rattle.root.specs.Guess.{guessed}
use Rattle.root.proofs.digits.guessed.Goals as goal

pub returns : goal.returns
unfolding guessed of_bits round
returns c = refl
