-- The image of an object's elements over those of a base.
use Rattle.std.specs.Prelude.{ℕ, List, [], ◌∷◌, Option, Some, replicate}
use Rattle.c_types.specs.declared.parts.Ty.{Ty}
use Rattle.c_types.specs.declared.parts.Ty.TheVariants as T
use Rattle.c_types.specs.declared.path.Step.TheVariants.{Index}
use Rattle.src_tree.specs.declared.value.Value.{Value, Null, Array}
use Rattle.src_meaning.specs.Paths.{zero_of}
use Rattle.src_meaning.specs.Initial.{global_elements}
use Rattle.lu_image_store.specs.Versions.{new_types, old_type, new_type}
use Rattle.lu_image_store.specs.Faults.{Gives, within, made}
use Rattle.lu_image_store.specs.Pointers.{Context}
use Rattle.lu_image_store.specs.Values.{in_place, elements_image, image_of}

-- a global's value of its declared type, from its elements
abbrev pub declared_value : Option Ty → List Value → Value
declared_value (Some (T.Array t n)) vs = Array vs
declared_value _ (v ∷ vs) = v
declared_value _ [] = Null

-- a fault in a global: its path begins with an index also where the global is no array
abbrev pub in_declared : {A : Type 0} → Option Ty → Gives A → Gives A
in_declared (Some (T.Array t n)) given = given
in_declared _ given = within (Index 0) given

-- a global of declared type t, as one of type u
abbrev pub global_image : Context → ℕ → ℕ → List Value → List Value → Gives (List Value)
global_image c t u vs base =
    made (global_elements (new_types c.versions) u) (in_declared (old_type c.versions t) (image_of c t in_place u (declared_value (old_type c.versions t) vs) (declared_value (new_type c.versions u) base)))

-- a heap object's elements of type t, as elements of type u over zero
abbrev pub heap_image : Context → ℕ → ℕ → ℕ → List Value → Gives (List Value)
heap_image c t u count vs =
    elements_image c.versions (image_of c t in_place) t u vs (replicate count (zero_of (new_types c.versions) u))
