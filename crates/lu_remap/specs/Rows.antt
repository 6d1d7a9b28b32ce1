-- What a pointer into an old row becomes. A row is an object of a store whose values are not asked.
use Rattle.std.specs.Prelude.{◌≡◌, ℕ, ◌-◌, ◌*◌, ◌<◌, ◌^◌, Bool, true, false, if◌then◌else◌, List, [], length, Option, Some, None, Result, Ok, Err, slice_get}
use Rattle.std.specs.List.{position_from}
use Rattle.std.specs.Option.{option_map}
use Rattle.lu_spec.specs.Then.{then_option}
use Rattle.src_tree.specs.declared.value.Value.{Value, out-Value}
use Rattle.src_tree.specs.declared.value.Value.TheOpen as V
use Rattle.src_tree.specs.declared.value.ObjectKind.{ObjectKind}
use Rattle.src_tree.specs.declared.value.ObjectKind.TheVariants.{Global, Heap}
use Rattle.src_tree.specs.declared.value.Object.{Object}
use Rattle.src_meaning.specs.Paths.{Layer}
use Rattle.bm_objects.specs.declared.row.Row.{Row}
use Rattle.bm_objects.specs.Table.{reaches}
use Rattle.lu_image.specs.declared.pairing.Dangling.TheVariants.{Refuse}
use Rattle.lu_image.specs.declared.pairing.Pairing.{Pairing}
use Rattle.lu_image.specs.declared.refusal.Why.TheVariants as W
use Rattle.lu_image.specs.declared.refusal.Kept.TheVariants as K
use Rattle.lu_image_store.specs.Versions.{Extent, old_extent, new_extent, new_size}
use Rattle.lu_image_store.specs.Faults.{Gives}
use Rattle.lu_image_store.specs.Pointers.{Aim, Context, dead_image, moved_pointer, target}
use Rattle.lu_remap.specs.declared.rows.RemapFault.{RemapFault}
use Rattle.lu_remap.specs.declared.rows.Target.{Target}
use Rattle.lu_remap.specs.Descent.{versions}

-- a row without a site is a global
abbrev pub kind_of : Option ℕ → ObjectKind
kind_of None = Global
kind_of (Some site) = Heap site

abbrev pub elements_if : Bool → Option (List Value)
elements_if true = Some []
elements_if false = None

abbrev pub row_object : Row → Object
row_object r = record {
  kind = kind_of r.site;
  elem = r.elem;
  count = r.count;
  elements = elements_if r.live;
}

-- each object keeps its number
abbrev pub context_of : Pairing → Context
context_of p = record { versions = versions p; store = record { objects = [] }; number = λ k. k }

-- a pointer to an offset in old row k: a dead target is refused, then come a target without pair, and the candidates
abbrev pub row_image : Pairing → Aim → ℕ → Row → ℕ → Gives Value
row_image p aim k r offset =
    if r.live then moved_pointer (context_of p) aim k offset (row_object r) (old_extent (versions p) k (row_object r)) (new_extent (versions p) k (row_object r)) (target k offset) else dead_image Refuse (target k offset)

abbrev pub target_in : Layer → Target
target_in (V.Pointer k offset) = record { object = k; offset = offset }
target_in _ = record { object = 0; offset = 0 }

-- the same as an old object with an offset in its image, or a fault with the old object and offset
abbrev pub answer : ℕ → ℕ → Gives Value → Result Target RemapFault
answer k offset (Ok v) = Ok (target_in (out-Value v))
answer k offset (Err f) = Err (record { why = f.why; kept = f.kept; object = k; offset = offset })

-- a pointer to an old object whose global or site has no pair
abbrev pub unpaired_fault : ℕ → Option ℕ → ℕ → RemapFault
unpaired_fault k None offset = record { why = W.LostTarget; kept = target k offset; object = k; offset = offset }
unpaired_fault k (Some site) offset = record { why = W.UnpairedSite; kept = K.Site site; object = k; offset = offset }

-- the row's type is of the old table, and its new object ends at an address of 32 bits
pub record CanBeAsked (p : Pairing) (k : ℕ) (r : Row) : Type 0 where
  pub known : (e : Extent) → old_extent (versions p) k (row_object r) ≡ Some e → e.elem < length p.old.types.types
  pub fits : (d : Extent) → new_extent (versions p) k (row_object r) ≡ Some d → d.count * new_size (versions p) d.elem < 2 ^ 32

-- each row that has the address among its bytes or as its end
abbrev pub AllCanBeAsked : Pairing → List Row → ℕ → Type 0
AllCanBeAsked p rows addr =
    (k : ℕ) (r : Row) → slice_get rows k ≡ Some r → reaches addr r ≡ true → CanBeAsked p k r

abbrev pub image_at : Pairing → Aim → ℕ → ℕ → Row → Result Target RemapFault
image_at p aim addr k r = answer k (addr - r.addr) (row_image p aim k r (addr - r.addr))

-- a pointer by its address: the first row that has it says the object and the offset
abbrev pub address_image : Pairing → Aim → List Row → ℕ → Option (Result Target RemapFault)
address_image p aim rows addr =
    then_option (position_from (reaches addr) 0 rows) (λ k. option_map (image_at p aim addr k) (slice_get rows k))
