-- How a vector of objects stands for memory.
use Rattle.std.specs.Prelude.{◌≡◌, ℕ, ◌+◌, ◌<◌, ◌≤◌, ◌^◌, List, [], ◌∷◌, length, slice_index_or, map}
use Rattle.bm_mem.specs.declared.vec_bytes.Object.{Object}

-- an object's address and its bytes
abbrev pub Entry : Type 0
Entry = ℕ × List ℕ

abbrev pub entry_of : Object → Entry
entry_of o = (o.addr, o.bytes.items)

abbrev pub entries : List Object → List Entry
entries objects = map entry_of objects

-- from a bound on each object begins where the one before it ends or later, and has a byte
abbrev pub IsLaidOutFrom : ℕ → List Entry → Type 0
IsLaidOutFrom bound [] = Unit {0}
IsLaidOutFrom bound (e ∷ es) =
    (bound ≤ e.0) × (0 < length e.1) × (e.0 + length e.1 < 2 ^ 32) × IsLaidOutFrom (e.0 + length e.1) es

abbrev pub IsLaidOut : List Entry → Type 0
IsLaidOut es = IsLaidOutFrom 0 es

-- so many objects begin at or below the address, and all others above it
pub record IsCountUpTo (es : List Entry) (addr count : ℕ) : Type 0 where
  pub bound : count ≤ length es
  pub up_to : (k : ℕ) (d : Entry) → k < count → (slice_index_or es k d).0 ≤ addr
  pub above : (k : ℕ) (d : Entry) → count ≤ k → k < length es → addr < (slice_index_or es k d).0

-- the object at the index is the last that begins at or below the address, which is that far from its first byte
pub record IsPlaceOf (es : List Entry) (addr index offset : ℕ) : Type 0 where
  pub inside : index < length es
  pub begins : (d : Entry) → (slice_index_or es index d).0 + offset ≡ addr
  pub above : (k : ℕ) (d : Entry) → index < k → k < length es → addr < (slice_index_or es k d).0
