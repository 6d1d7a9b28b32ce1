-- Temporaries: heap objects of one element that are made and taken away from outside.
use Rattle.std.specs.Prelude.{ℕ, true, if◌then◌else◌, List, [], ◌∷◌, ◌++◌, length, Option, Some, None}
use Rattle.std.specs.FinMap as map
use Rattle.lu_base.specs.Addresses.{address_after}
use Rattle.c_types.specs.Layout.{size_of}
use Rattle.src_tree.specs.declared.program.Program.{Program}
use Rattle.bm_objects.specs.declared.row.Row.{Row}
use Rattle.bm_code.specs.Process.{Process}
use Rattle.bm_code.specs.Services.{can_allocate, is_heap_object, without_object}

-- A temporary of an element type at an address. Its site is the number of the program's sites, which is none of them.
abbrev pub temporary_row : Program → ℕ → ℕ → Row
temporary_row p address elem = record {
  addr = address;
  elem = elem;
  count = 1;
  size = size_of p.types elem;
  site = Some (length p.sites);
  live = true;
}

-- with one more object, which has these bytes
abbrev pub with_bytes_behind : Process → Row → List ℕ → Process
with_bytes_behind q r bytes = record q {
  content = map.insert q.content r.addr bytes;
  rows = q.rows ++ r ∷ [];
  next = address_after r.addr r.size;
}

-- the address of a new temporary, and the process with it; none and the same process where the heap's bound or the
-- addresses leave no room
abbrev pub placed : Program → Process → ℕ → List ℕ → Option ℕ × Process
placed p q elem bytes =
    let r = temporary_row p q.next elem in
    if can_allocate q.rows r then (Some r.addr, with_bytes_behind q r bytes) else (None, q)

-- without the live heap object that begins at the address, if there is one
abbrev pub without_temporary : Process → ℕ → Process
without_temporary q a = if is_heap_object q.rows a then without_object q a else q
