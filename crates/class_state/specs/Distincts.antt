-- The distincts that the profiles of a section give their columns. Definitions only.
use Rattle.std.specs.Prelude.{ℕ, zero, suc, ◌+◌, ◌*◌, List, set}
use Rattle.le.specs.Fields.{u16_at}
use Rattle.estimate.specs.Bytes.{estimate_at}
use Rattle.estimate.specs.declared.Estimate.{Estimate}

-- profile i of a section of columns, whose count stands at `start`
abbrev pub record_place : ℕ → ℕ → ℕ
record_place start i = start + 2 + 98 * i

-- of n profiles from the i-th on, the first of a column over later ones
unfoldable pub stored_from : List ℕ → ℕ → ℕ → ℕ → List Estimate → List Estimate
unfolding estimate_at
stored_from s start i zero l = l
stored_from s start i (suc n) l = set (stored_from s start (i + 1) n l) (u16_at s (record_place start i)) (estimate_at s (record_place start i + 70))

-- of all of them
abbrev pub store_distincts : List ℕ → ℕ → List Estimate → List Estimate
store_distincts s start l = stored_from s start 0 (u16_at s start) l
