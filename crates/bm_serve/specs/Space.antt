-- The objects of a process and their memory.
use Rattle.std.specs.Prelude.{◌≡◌, ℕ, ◌<◌, ◌^◌, Bool, true, MatchBool, List, [], ◌∷◌, ◌++◌, replicate, All}
use Rattle.std.specs.FinMap.{insert, remove}
use Rattle.lu_base.specs.Addresses.{address_after}
use Rattle.c_types.specs.declared.parts.Parts.{Parts}
use Rattle.bm_mem.specs.Content.{Content}
use Rattle.bm_objects.specs.declared.row.Row.{Row}
use Rattle.bm_objects.specs.Table.{end_of, killed}
use Rattle.bm_code.specs.Services.{heap_bytes, can_allocate}
use Rattle.bm_code.specs.Mapped.{IsMapped, AreKnown}

-- exactly the live objects are mapped, all of known types and below the next address; `used` counts the live heap's bytes
pub record IsSpace (types : Parts) (m : Content) (rows : List Row) (next used : ℕ) : Type 0 where
  pub mapped : IsMapped m rows
  pub known : AreKnown types rows
  pub above : All (λ r. end_of r < next) rows
  pub used_is : used ≡ heap_bytes rows
  pub used_low : used < 2 ^ 60
  pub next_low : next < 2 ^ 60

-- the object is there, or null is the answer and nothing has changed
abbrev pub IsAllocated : Row → Content → List Row → ℕ → ℕ → Content → List Row → ℕ → Type 0
IsAllocated r m rows next a m' rows' next' =
    MatchBool (can_allocate rows r) ((a ≡ r.addr) × (m' ≡ insert m r.addr (replicate r.size 0)) × (rows' ≡ rows ++ r ∷ []) × (next' ≡ address_after r.addr r.size)) ((a ≡ 0) × (m' ≡ m) × (rows' ≡ rows) × (next' ≡ next))

-- memory ran out where the object could be, and nothing has changed
abbrev pub IsRefused : Row → Content → List Row → ℕ → Content → List Row → ℕ → Type 0
IsRefused r m rows next m' rows' next' = (can_allocate rows r ≡ true) × (m' ≡ m) × (rows' ≡ rows) × (next' ≡ next)

-- the object is gone, or there was none and nothing has changed
abbrev pub IsFreed : Bool → ℕ → Content → List Row → Content → List Row → Type 0
IsFreed freed a m rows m' rows' = MatchBool freed ((m' ≡ remove m a) × (rows' ≡ killed rows a)) ((m' ≡ m) × (rows' ≡ rows))
