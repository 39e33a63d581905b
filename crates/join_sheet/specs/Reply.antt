-- What the program writes (document 01, "Three answers"). Definitions only.
use Rattle.std.specs.Prelude.{ℕ, List, [], ◌∷◌}
use Rattle.answers.specs.Answers.{Result, refusal, bytes}

unfoldable pub reply_bytes : Result → List ℕ
reply_bytes (refusal n) = 0xFF ∷ n ∷ []
reply_bytes (bytes bs) = bs
