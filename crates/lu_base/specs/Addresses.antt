-- Where objects stand, and whether there is room for one more, all by their sizes in bytes.
use Rattle.std.specs.Prelude.{◌≡◌, ℕ, ◌+◌, ◌*◌, ◌/◌, ◌≤◌, Bool, ◌&&◌, nat_le, if◌then◌else◌, List, [], ◌∷◌, Some, slice_get}
use Rattle.lu_base.specs.declared.limits.TheConstants.{FIRST_ADDRESS, ADDRESS_LIMIT, GAP, HEAP_BYTES}

-- the address of the object after one: a gap behind its end, rounded up to a multiple of 16
abbrev pub address_after : ℕ → ℕ → ℕ
address_after address size = (address + size + GAP + 15) / 16 * 16

-- the addresses of objects of these sizes, where that of the first is given
abbrev pub addresses_from : ℕ → List ℕ → List ℕ
addresses_from first [] = []
addresses_from first (size ∷ sizes) = first ∷ addresses_from (address_after first size) sizes

-- the address of the object after these
abbrev pub next_from : ℕ → List ℕ → ℕ
next_from first [] = first
next_from first (size ∷ sizes) = next_from (address_after first size) sizes

-- the addresses of a process's objects, and of the next one
abbrev pub addresses_of : List ℕ → List ℕ
addresses_of sizes = addresses_from FIRST_ADDRESS sizes

abbrev pub next_address : List ℕ → ℕ
next_address sizes = next_from FIRST_ADDRESS sizes

-- what an object adds to the bytes of the live heap
abbrev pub heap_part : Bool → ℕ → ℕ
heap_part is_live_heap size = if is_live_heap then size else 0

-- so many bytes of the live heap and the next address leave room for an object of that size
abbrev pub has_room : ℕ → ℕ → ℕ → Bool
has_room used next size = nat_le (used + size) HEAP_BYTES && nat_le (address_after next size) ADDRESS_LIMIT

-- object k stands at the address and has that size
pub record StandsAt (first : ℕ) (sizes : List ℕ) (k address size : ℕ) : Type 0 where
  pub stands : slice_get (addresses_from first sizes) k ≡ Some address
  pub has : slice_get sizes k ≡ Some size

-- the address is one of the object's bytes, or its end
pub record LiesIn (first : ℕ) (sizes : List ℕ) (k address : ℕ) : Type 0 where
  pub start : ℕ
  pub size : ℕ
  pub object : StandsAt first sizes k start size
  pub low : start ≤ address
  pub high : address ≤ start + size
