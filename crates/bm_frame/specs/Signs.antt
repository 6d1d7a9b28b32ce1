-- Numbers by direction.
use Rattle.std.specs.Prelude.{ℕ, zero, suc, Bool, true, false, ℤ, pos, negsuc}

-- so far up, or down
abbrev pub directed : Bool → ℕ → ℤ
directed false n = pos n
directed true zero = pos 0
directed true (suc n) = negsuc n
