-- The process that stands for a store of a program: each of its parts is a function of the store.
use Rattle.std.specs.Prelude.{◌≡◌, ℕ, ◌+◌, List, [], ◌∷◌, length, Option, Some, None, slice_get}
use Rattle.std.specs.Option.{option_map_or}
use Rattle.std.specs.Ordering.{nat_cmp}
use Rattle.std.specs.FinMap.{from_entries}
use Rattle.lu_base.specs.Addresses as by_size
use Rattle.lu_base.specs.Sending.{Sent}
use Rattle.lu_base.specs.declared.limits.TheConstants.{FIRST_ADDRESS}
use Rattle.c_types.specs.declared.parts.Parts.{Parts}
use Rattle.src_tree.specs.declared.value.Value.{Value, Int, Null, Pointer, Function}
use Rattle.src_tree.specs.declared.value.ObjectKind.{ObjectKind}
use Rattle.src_tree.specs.declared.value.ObjectKind.TheVariants.{Global, Heap, Temporary}
use Rattle.src_tree.specs.declared.value.Object.{Object}
use Rattle.src_tree.specs.declared.value.Store.{Store}
use Rattle.src_tree.specs.declared.program.Program.{Program}
use Rattle.src_meaning.specs.Objects.{Place, object_size, is_live, addresses, next_address, offset_in}
use Rattle.src_meaning.specs.ValueBytes.{Addresses, elements_bytes}
use Rattle.bm_mem.specs.Content.{Content}
use Rattle.bm_objects.specs.declared.row.Row.{Row}
use Rattle.bm_alu.specs.Words.{of_signed}
use Rattle.bm_code.specs.Process.{Activity, Idle, Process}

-- the address of an object by its number; 0 where there is no such one
abbrev pub address_in : Addresses → ℕ → ℕ
address_in a o = option_map_or (λ n. n) (slice_get a o) 0

-- the word of a scalar
abbrev pub value_word : Addresses → Value → ℕ
value_word a (Int z) = of_signed z
value_word a Null = 0
value_word a (Pointer o k) = address_in a o + k
value_word a (Function f) = f + 1
value_word a _ = 0

-- the address of a place: that of its object, and its offset there
abbrev pub place_word : Parts → Store → Place → ℕ
place_word p store at =
    let offset = λ (x : Object). option_map_or (λ k. k) (offset_in p x at.path) 0 in
    address_in (addresses p store) at.object + option_map_or offset (slice_get store.objects at.object) 0

-- the site of a row; that of a temporary is the number of the program's sites, which is none of them
abbrev pub site_of : ℕ → ObjectKind → Option ℕ
site_of sites Global = None
site_of sites (Heap site) = Some site
site_of sites Temporary = Some sites

-- the address of what comes after an object
abbrev pub address_past : Parts → ℕ → Object → ℕ
address_past p address o = by_size.address_after address (object_size p o)

abbrev pub row_of : ℕ → Parts → ℕ → Object → Row
row_of sites p address o = record {
  addr = address;
  elem = o.elem;
  count = o.count;
  size = object_size p o;
  site = site_of sites o.kind;
  live = is_live o;
}

abbrev pub rows_from : ℕ → Parts → ℕ → List Object → List Row
rows_from sites p address [] = []
rows_from sites p address (o ∷ os) = row_of sites p address o ∷ rows_from sites p (address_past p address o) os

-- the rows of a store, dead objects too
abbrev pub rows_of : Program → Store → List Row
rows_of program store = rows_from (length program.sites) program.types FIRST_ADDRESS store.objects

-- the bytes of a live object at its address, before others
abbrev pub with_entry : Parts → Addresses → ℕ → ℕ → Option (List Value) → List (ℕ × List ℕ) → List (ℕ × List ℕ)
with_entry p a address elem None rest = rest
with_entry p a address elem (Some vs) rest = (address, elements_bytes p a elem vs) ∷ rest

abbrev pub entries_from : Parts → Addresses → ℕ → List Object → List (ℕ × List ℕ)
entries_from p a address [] = []
entries_from p a address (o ∷ os) = with_entry p a address o.elem o.elements (entries_from p a (address_past p address o) os)

-- the bytes of the live objects, each at its address
abbrev pub content_of : Parts → Store → Content
content_of p store = from_entries {R = nat_cmp} (entries_from p (addresses p store) FIRST_ADDRESS store.objects)

-- with something under way, what was sent, and so many ticks to spare
abbrev pub process_of : Program → Store → List Sent → Activity → ℕ → Process
process_of program store sends activity ticks = record {
  content = content_of program.types store;
  rows = rows_of program store;
  next = next_address program.types store;
  outbox = sends;
  activity = activity;
  spare = ticks;
}

abbrev pub IsIdle : Activity → Type 0
IsIdle (Idle last) = Unit {0}
IsIdle _ = ⊥

-- a process in which no call runs stands for a store of the program
pub record Represents (process : Process) (program : Program) (store : Store) : Type 0 where
  pub idle : IsIdle process.activity
  pub is : process ≡ process_of program store process.outbox process.activity process.spare
