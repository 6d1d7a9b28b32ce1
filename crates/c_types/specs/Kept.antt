-- What a table keeps beside its parts.
use Rattle.std.specs.Prelude.{◌≡◌, ℕ, List}
use Rattle.c_types.specs.declared.parts.Parts.{Parts}
use Rattle.c_types.specs.declared.shape.Shape.{Shape}
use Rattle.c_types.specs.Layout.{shape_of}
use Rattle.c_types.specs.Rounds.{shape_at, capped}
use Rattle.c_types.specs.Refusal.{IsBuilt}

-- the shapes with their sizes capped
abbrev pub AreCapped : Parts → List Shape → Type 0
AreCapped p shapes = (t : ℕ) → shape_at shapes t ≡ capped (shape_of p t)

-- the parts of a table, and the shapes of its types
pub record IsKept (p : Parts) (shapes : List Shape) : Type 0 where
  pub built : IsBuilt p
  pub each : (t : ℕ) → shape_at shapes t ≡ shape_of p t
