-- The objects to which words go.
use Rattle.std.specs.Prelude.{◌≡◌, ℕ, ◌+◌, ◌<◌, ◌^◌, IsTrue, List, [], ◌∷◌}
use Rattle.std.specs.Option.{option_map_or}
use Rattle.src_tree.specs.declared.program.Program.{Program}
use Rattle.src_tree.specs.declared.value.Store.{Store}
use Rattle.std.specs.Prelude.{slice_get}
use Rattle.src_meaning.specs.Objects.{addresses}
use Rattle.src_meaning.specs.Store.{is_address}

-- the address of an object by its number
abbrev pub address_in : List ℕ → ℕ → ℕ
address_in a o = option_map_or (λ n. n) (slice_get a o) 0

-- the word is the address of one of the object's bytes, or of its end
abbrev pub GoesTo : Program → Store → ℕ → ℕ → Type 0
GoesTo p s w o = (k : ℕ) × IsTrue (is_address p s o k) × (w ≡ address_in (addresses p.types s) o + k)

-- each word goes to the object at its place
abbrev pub GoInTurn : Program → Store → List ℕ → List ℕ → Type 0
GoInTurn p s [] [] = Unit {0}
GoInTurn p s (w ∷ ws) (o ∷ os) = GoesTo p s w o × GoInTurn p s ws os
GoInTurn p s _ _ = ⊥

-- the addresses of a store's objects are words, and none is null
abbrev pub AreWords : Program → Store → Type 0
AreWords p s = (o k : ℕ) → IsTrue (is_address p s o k)
    → (0 < address_in (addresses p.types s) o + k) × (address_in (addresses p.types s) o + k < 2 ^ 32)
