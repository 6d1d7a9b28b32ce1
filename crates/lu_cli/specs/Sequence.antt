-- What was written on the way to a whole text.
use Rattle.std.specs.Prelude.{◌≡◌, ℕ, List, ◌++◌, Option, Some, Result, Ok, Err}
use Rattle.lu_spec.specs.Prefix.{IsPrefix}

-- a front of the text was written
abbrev pub WroteFront : List ℕ → List ℕ → Option (List ℕ) → Type 0
WroteFront before whole after = (front : List ℕ) × IsPrefix front whole × (after ≡ Some (before ++ front))

-- Ok says that the whole text was written, an error that a front of it was
abbrev pub Wrote : {A E : Type 0} → List ℕ → List ℕ → Option (List ℕ) → Result A E → Type 0
Wrote before whole after (Ok _) = after ≡ Some (before ++ whole)
Wrote before whole after (Err _) = WroteFront before whole after
