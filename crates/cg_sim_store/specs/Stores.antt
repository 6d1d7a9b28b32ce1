-- Which stores are stores of a valid program.
use Rattle.src_tree.specs.declared.program.Program.{Program}
use Rattle.src_meaning.specs.Initial.{initial_store}
use Rattle.src_meaning.specs.Store.{IsStore}
use Rattle.src_meaning.specs.Valid.{IsValid}

-- The initial store of a valid program is a store of the program.
abbrev pub InitialIsStore : Type 0
InitialIsStore = (p : Program) → IsValid p → IsStore p (initial_store p)
