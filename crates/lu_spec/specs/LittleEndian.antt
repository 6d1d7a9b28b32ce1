-- Numbers as bytes, the lowest first.
use Rattle.std.specs.Prelude.{ℕ, List}
use Rattle.std.specs.Int.{bytes_low_first}

-- so many bytes of a number, the lowest first
unfoldable pub little_endian : ℕ → ℕ → List ℕ
little_endian count n = bytes_low_first 0 count n
