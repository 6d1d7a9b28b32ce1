-- What is one object and what is two, in a store and in its image.
use Rattle.std.specs.Prelude.{◌≡◌, ℕ, false, IsTrue, List, Option, Some, slice_get}
use Rattle.src_tree.specs.declared.value.Value.{Value, Null, Pointer}
use Rattle.src_tree.specs.declared.value.Object.{Object}
use Rattle.src_tree.specs.declared.value.Store.{Store}
use Rattle.src_meaning.specs.Objects.{is_live}
use Rattle.lu_image.specs.declared.pairing.Dangling.TheVariants as D
use Rattle.lu_image.specs.Correspondence.{pair_in}
use Rattle.lu_image_store.specs.Versions.{Versions, Extent}
use Rattle.lu_image_store.specs.Pointers.{Context}
use Rattle.lu_image_store.specs.Needed.{is_in, needed_objects}
use Rattle.lu_image_store.specs.Stores.{heap_of, new_number}

-- the new number of an old object of a store
abbrev pub image_number : Versions → Store → ℕ → ℕ
image_number m s k = new_number m s (heap_of s (needed_objects m s)) k

abbrev pub IsNeededIn : Versions → Store → ℕ → Type 0
IsNeededIn m s k = IsTrue (is_in (needed_objects m s) k)

-- no new number pairs with two old ones
abbrev pub IsOneToOne : List (Option ℕ) → Type 0
IsOneToOne pairs = (i j k : ℕ) → pair_in pairs i ≡ Some k → pair_in pairs j ≡ Some k → i ≡ j

-- an object of that extent stands at the number
abbrev pub Stands : Store → ℕ → Extent → Type 0
Stands next k d = (y : Object) × (slice_get next.objects k ≡ Some y) × (y.elem ≡ d.elem) × (y.count ≡ d.count)

-- a pointer to a dead object, which the pairing lets become null
pub record BecomesNull (c : Context) (o : ℕ) (w : Value) : Type 0 where
  pub object : Object
  pub is : slice_get c.store.objects o ≡ Some object
  pub dead : is_live object ≡ false
  pub rule : c.versions.pairing.dangling ≡ D.Null
  pub null : w ≡ Null

-- a pointer into the new object of that one
pub record GoesTo (object : ℕ) (w : Value) : Type 0 where
  pub offset : ℕ
  pub is : w ≡ Pointer object offset
