-- What a command stores in a buffer: the sheet's, or the answer's. Definitions only.
use Rattle.std.specs.Prelude.{ℕ, zero, suc, ◌+◌, Bool, cond, ◌&&◌, List, eqb, leb, length, set}
use Rattle.le.specs.Fields.{byte_at, u16_at, u32_at}
use Rattle.sheet_claims.specs.Kinds.{kind_number}
use Rattle.sheet_claims.specs.declared.commands.Kind.{Kind}
use Rattle.sheet_claims.specs.Commands.{kind_offset, store_count_offset, store_place_offset, store_bytes_offset, store_limit}

-- n bytes of c, the first of them at `from`, go to s from `at` on
unfoldable pub copied : List ℕ → ℕ → List ℕ → ℕ → ℕ → List ℕ
copied s at c from zero = s
copied s at c from (suc n) = copied (set s at (byte_at c from)) (at + 1) c (from + 1) n

-- the bytes stand in the command whole, and go into the buffer whole
unfoldable pub store_fits : List ℕ → List ℕ → Bool
store_fits s c = leb (u16_at c store_count_offset) store_limit && leb (u32_at c store_place_offset + u16_at c store_count_offset) (length s)

-- the buffer after a command: only one kind stores in it
unfoldable pub stored : Kind → List ℕ → List ℕ → List ℕ
stored kind s c =
    cond (eqb (byte_at c kind_offset) (kind_number kind) && store_fits s c)
    (copied s (u32_at c store_place_offset) c store_bytes_offset (u16_at c store_count_offset))
    s
