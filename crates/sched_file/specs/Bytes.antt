-- Texts up to a byte.
use Rattle.std.specs.Prelude.{ℕ, zero, suc, List, [], ◌∷◌, Option, Some, None, nat_eq, if◌then◌else◌}
use Rattle.lu_spec.specs.Then.{then_option}

-- what stands before the first such byte, and what follows it
abbrev pub up_to : ℕ → List ℕ → Option (List ℕ × List ℕ)
up_to stop [] = None
up_to stop (b ∷ bs) = if nat_eq b stop then Some ([], bs) else then_option (up_to stop bs) (λ r. Some (b ∷ r.0, r.1))

-- how many bytes stand before the first such byte, or in all
abbrev pub length_before : ℕ → List ℕ → ℕ
length_before stop [] = zero
length_before stop (b ∷ bs) = if nat_eq b stop then zero else suc (length_before stop bs)
