-- Temporaries of a server that stands for a store, in the terms of the text.
use Rattle.std.specs.Prelude.{◌≡◌, ℕ, Bool, true, false, [], ◌∷◌, length, Option, Some, None, Ok, slice_get}
use Rattle.src_tree.specs.declared.value.Value.{Value, Pointer}
use Rattle.src_tree.specs.declared.value.ObjectKind.TheVariants.{Temporary}
use Rattle.src_tree.specs.declared.value.Object.{Object}
use Rattle.src_tree.specs.declared.value.Store.{Store}
use Rattle.src_tree.specs.declared.program.Program.{Program}
use Rattle.src_meaning.specs.Objects.{is_live_heap, addresses, has_room, append_object, freed}
use Rattle.src_meaning.specs.Store.{has_type, is_struct}
use Rattle.src_meaning.specs.ValueBytes.{bytes_of}
use Rattle.bm_code.specs.Process.{Process}
use Rattle.cg_server.specs.State.{ServerState, with_process}
use Rattle.cg_server.specs.Temporaries.{placed, without_temporary}
use Rattle.cg_state.specs.Represents.{value_word}
use Rattle.cg_meaning.specs.Servers.{IsServerOf}

-- a temporary of a type, with that value
abbrev pub temporary : ℕ → Value → Object
temporary elem v = record { kind = Temporary; elem = elem; count = 1; elements = Some (v ∷ []) }

-- a pointer to the object that comes behind those of the store
abbrev pub next_pointer : Store → Value
next_pointer store = Pointer (length store.objects) 0

-- Where there is room for the temporary, the address is the word of a pointer to it, and the server stands for the store with it
-- behind the other objects; else there is no address, and all is as it was.
abbrev pub IsPlaced : ServerState → Store → Object → Bool → Option ℕ → Process → Type 0
IsPlaced s store x true address q =
    let after = append_object store x in
    let word = value_word (addresses s.source.program.types after) (next_pointer store) in
    (address ≡ Some word) × IsServerOf (with_process s q) after
IsPlaced s store x false address q = (address ≡ None) × (q ≡ s.process)

-- What placing a temporary does, which has the bytes of a value of a struct type.
abbrev pub PlacesTemporaries : Type 0
PlacesTemporaries = (s : ServerState) (store : Store) → IsServerOf s store
    → let p = s.source.program in
    (elem : ℕ) (v : Value) → is_struct (slice_get p.types.types elem) ≡ true → has_type p store elem v ≡ true
    → (address : Option ℕ) (q : Process)
    → (address, q) ≡ placed p s.process elem (bytes_of p.types (addresses p.types store) elem v)
    → IsPlaced s store (temporary elem v) (has_room p.types store (temporary elem v)) address q

-- object o of the store, which is live and no global, begins at the address
pub record IsHeapAt (p : Program) (store : Store) (o address : ℕ) : Type 0 where
  pub object : Object
  pub at : slice_get store.objects o ≡ Some object
  pub live : is_live_heap object ≡ true
  pub begins : slice_get (addresses p.types store) o ≡ Some address

-- Taking away what begins at the address of a live heap object leaves a server that stands for the store after a free of it.
abbrev pub FreesTemporaries : Type 0
FreesTemporaries = (s : ServerState) (store : Store) → IsServerOf s store
    → (o address : ℕ) → IsHeapAt s.source.program store o address
    → (after : Store) × (freed store (Pointer o 0) ≡ Ok after)
    × IsServerOf (with_process s (without_temporary s.process address)) after

-- It does nothing where no such object begins at the address.
abbrev pub FreesNothing : Type 0
FreesNothing = (s : ServerState) (store : Store) → IsServerOf s store
    → (address : ℕ) → ((o : ℕ) → IsHeapAt s.source.program store o address → ⊥)
    → without_temporary s.process address ≡ s.process
