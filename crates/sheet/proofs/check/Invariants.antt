use Rattle.sheet.proofs.PlaceLaws.{starts_before, Short}
use Rattle.sheet.specs.Check.{refusal_in}
use Rattle.sheet.specs.Order.{section_count, section_at}
use Rattle.rules.specs.Rules.{first_refusal}
use lib.ListN.{length}
use Prim.Native.Nat.{ℕ, ◌≤◌, ◌<◌, ◌-◌}
use mathlib.Core.Path.{◌≡◌}
use Rattle.sheet.proofs.check.Given as goal

abbrev pub invariant-loop-k : goal.invariant-loop-k
invariant-loop-k l = record {
  refusal : first_refusal (refusal_in l.s) l.k (section_count - l.k) ≡ first_refusal (refusal_in l.s) 0 section_count;
  kept : (j : ℕ) → j < l.k → refusal_in l.s j ≡ 0;
  starts : l.starts ≡ starts_before l.s l.k;
  short : Short l.starts;
  place : l.at ≡ section_at l.s l.k;
  within : l.at ≤ length l.s;
}
