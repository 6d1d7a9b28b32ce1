-- That the words in bytes are those of the carried pointers, as a statement.
use Rattle.std.specs.Prelude.{◌≡◌, ℕ, ◌++◌, ◌<◌, true, Bool, List, length, min, take, flat_map, Option}
use Rattle.std.specs.List.{list_all}
use Rattle.c_types.specs.declared.parts.Ty.{Ty}
use Rattle.c_types.specs.Refusal.{IsBuilt}
use Rattle.src_tree.specs.declared.program.Program.{Program}
use Rattle.src_tree.specs.declared.value.Store.{Store}
use Rattle.src_tree.specs.declared.value.Value.{Value}
use Rattle.src_meaning.specs.Objects.{addresses}
use Rattle.src_meaning.specs.Store.{has_type}
use Rattle.src_meaning.specs.ValueBytes.{elements_bytes}
use Rattle.lu_image_store.specs.Versions.{Versions, old_types, old_size}
use Rattle.lu_image_store.specs.Carried.{carried_in}
use Rattle.lu_scan.specs.Scan.{words_in, items_words}
use Rattle.lu_scan.specs.Targets.{GoInTurn, AreWords}

-- Of elements of a type in a store of a program whose types are the pairing's old ones: the words that are read in the bytes
-- of the first ones go, in order, to the objects to which their carried pointers go.
abbrev pub WordsGo : Type 0
WordsGo = (m : Versions) (program : Program) (s : Store)
    → program.types ≡ old_types m → IsBuilt program.types → AreWords program s
    → (t : ℕ) → t < length program.types.types
    → (handled : Bool) (new : Option Ty) (count : ℕ) (vs : List Value) (rest : List ℕ)
    → list_all (has_type program s t) vs ≡ true
    → GoInTurn program s
    (items_words (words_in m (length program.types.types) t handled new) (old_size m t) (min count (length vs)) (elements_bytes program.types (addresses program.types s) t vs ++ rest))
    (flat_map (carried_in m t handled new) (take count vs))
