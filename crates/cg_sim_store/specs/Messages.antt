-- Messages in stores, and in the bytes of the processes that stand for them.
use Rattle.std.specs.Prelude.{◌≡◌, ℕ, ◌<◌, true, ℤ, List, [], ◌∷◌, ◌++◌, length, Some, Ok, slice_get}
use Rattle.std.specs.List.{list_all}
use Rattle.std.specs.FinMap.{insert}
use Rattle.lu_spec.specs.LittleEndian.{little_endian}
use Rattle.lu_base.specs.declared.message.Message.{Message}
use Rattle.c_types.specs.declared.parts.IntKind.TheVariants as K
use Rattle.c_types.specs.declared.path.Step.TheVariants.{Index}
use Rattle.src_tree.specs.declared.value.Store.{Store}
use Rattle.src_tree.specs.declared.program.Program.{Program}
use Rattle.src_meaning.specs.Integers.{residue, is_held}
use Rattle.src_meaning.specs.Objects.{place, store_with, next_address}
use Rattle.src_meaning.specs.Sending.{message_value}
use Rattle.src_meaning.specs.Store.{IsStore}
use Rattle.src_meaning.specs.Valid.{IsValid, is_message}
use Rattle.src_meaning.specs.ValidTypes.{ty}
use Rattle.src_meaning.specs.ValueBytes.{Addresses, bytes_of}
use Rattle.bm_objects.specs.declared.row.Row.{Row}
use Rattle.bm_code.specs.Services.{message_of}
use Rattle.cg_state.specs.Represents.{content_of, rows_of}

-- its numbers are ints, and it has six arguments
pub record IsMessage (m : Message) : Type 0 where
  pub source : is_held K.Int m.source ≡ true
  pub kind : is_held K.Int m.kind ≡ true
  pub args : list_all (is_held K.Int) m.arg ≡ true
  pub six : length m.arg ≡ 6

-- the bytes of ints, of each the lowest first
abbrev pub ints_bytes : List ℤ → List ℕ
ints_bytes [] = []
ints_bytes (z ∷ zs) = little_endian 4 (residue K.Int z) ++ ints_bytes zs

-- 32 bytes: the source, the type and six arguments
abbrev pub message_bytes : Message → List ℕ
message_bytes m = ints_bytes (m.source ∷ m.kind ∷ m.arg)

-- The bytes of a message's value, of the type of `m_in` and `m_out`, are those of the message; and the machine reads it from them.
pub record HasBytes (p : Program) (a : Addresses) (u : ℕ) (m : Message) : Type 0 where
  pub bytes : bytes_of p.types a u (message_value m) ≡ message_bytes m
  pub long : length (message_bytes m) ≡ 32
  pub read : message_of (message_bytes m) ≡ m

abbrev pub MessagesHaveBytes : Type 0
MessagesHaveBytes = (p : Program) → IsValid p → (a : Addresses)
    → (u : ℕ) → is_message p (ty p.types u) ≡ true → (m : Message) → IsMessage m → HasBytes p a u m

-- A message put into global k: that leaves a store of the program, whose process has the message's bytes at the object of row k,
-- and all else of the process is as it was.
pub record PutsMessage (p : Program) (s : Store) (k : ℕ) (m : Message) : Type 0 where
  pub next : Store
  pub is : store_with s (place k (Index 0 ∷ [])) (message_value m) ≡ Ok next
  pub store : IsStore p next
  pub row : Row
  pub at : slice_get (rows_of p s) k ≡ Some row
  pub content : insert (content_of p.types s) row.addr (message_bytes m) ≡ content_of p.types next
  pub rows : rows_of p next ≡ rows_of p s
  pub last : next_address p.types next ≡ next_address p.types s

-- `m_in` and `m_out`, the globals 0 and 1, take messages
abbrev pub TakeMessages : Type 0
TakeMessages = (p : Program) → IsValid p → (s : Store) → IsStore p s
    → (k : ℕ) → k < 2 → (m : Message) → IsMessage m → PutsMessage p s k m
