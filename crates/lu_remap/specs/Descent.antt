-- The images of the candidates at an offset, by one descent through an old type together with the new place of each part.
use Rattle.std.specs.Prelude.{ℕ, zero, suc, ◌+◌, ◌-◌, ◌*◌, ◌/◌, ◌%◌, Bool, ◌&&◌, nat_eq, nat_lt, nat_le, if◌then◌else◌, List, [], ◌∷◌, length, Option, Some, None, Result, Ok, Err}
use Rattle.lu_spec.specs.Then.{then_option}
use Rattle.c_types.specs.declared.parts.FieldDef.{FieldDef}
use Rattle.c_types.specs.declared.parts.Ty.{Ty}
use Rattle.c_types.specs.declared.parts.Ty.TheVariants.{Struct, Array}
use Rattle.c_types.specs.declared.path.Place.{Place}
use Rattle.c_types.specs.declared.path.Step.{Step}
use Rattle.c_types.specs.declared.path.Step.TheVariants.{Field}
use Rattle.c_types.specs.Tables.{fields_of}
use Rattle.c_types.specs.Recursion.{by_fuel}
use Rattle.c_types.specs.Layout.{Shapes, shape_of, field_start, field_end}
use Rattle.c_types.specs.Place.{place, shifted, step_place}
use Rattle.lu_image.specs.declared.pairing.Pairing.{Pairing}
use Rattle.lu_image.specs.declared.refusal.Why.{Why}
use Rattle.lu_image.specs.declared.refusal.Why.TheVariants as W
use Rattle.lu_image_store.specs.Versions.{Versions, Extent, extent, old_types, new_types, new_type, old_size, new_size}
use Rattle.lu_image_store.specs.Paths.{step_image, share_paths}
use Rattle.lu_image_store.specs.Candidates.{is_wanted}
use Rattle.lu_image_store.specs.Pointers.{exactly, anything, wanted, suits}
use Rattle.lu_image_store.specs.Pointers as P
use Rattle.lu_remap.specs.declared.aim.Aim.{Aim}
use Rattle.lu_remap.specs.declared.aim.Aim.TheVariants.{Exactly, Anything}
use Rattle.lu_remap.specs.declared.descent.Extent.{Extent as Object}
use Rattle.lu_remap.specs.declared.elements.Elements.{Elements}
use Rattle.lu_remap.specs.declared.spot.Spot.{Spot}
use Rattle.lu_remap.specs.declared.spot.Spot.TheVariants.{Nowhere, Lost, Goes, Unclear}

-- versions under a pairing, of which no names of fields are asked
abbrev pub versions : Pairing → Versions
versions p = record { pairing = p; old_names = []; new_names = [] }

abbrev pub aim_of : Aim → P.Aim
aim_of (Exactly old new) = exactly old new
aim_of Anything = anything

abbrev pub extent_of : Object → Extent
extent_of e = extent e.elem e.count e.is_array

-- one more candidate, with its new offset if it has an image
abbrev pub add : Spot → Option ℕ → Spot
add Nowhere None = Lost
add Nowhere (Some x) = Goes x
add Lost None = Lost
add Lost (Some x) = Unclear
add (Goes x) None = Unclear
add (Goes x) (Some y) = if nat_eq x y then Goes x else Unclear
add Unclear image = Unclear

abbrev pub add_if : Bool → Option ℕ → Spot → Spot
add_if b image spot = if b then add spot image else spot

-- what all candidates together say
abbrev pub answer_of : Spot → Result ℕ Why
answer_of Nowhere = Err W.NoPlace
answer_of Lost = Err W.LostTarget
answer_of Unclear = Err W.Ambiguous
answer_of (Goes x) = Ok x

-- the part of a new type to which the image of a step leads
abbrev pub part_after : Versions → Option Ty → Step → Option Ty → Option Place
part_after m old s new = then_option (step_image m old new s) (step_place (new_types m) new)

-- the new place after a step from a new place
abbrev pub place_after : Versions → Option Ty → Step → Place → Option Place
place_after m old s to = then_option (part_after m old s (new_type m to.ty)) (shifted to.offset)

abbrev pub next_place : Versions → Option Ty → Step → Option Place → Option Place
next_place m old s to = then_option to (place_after m old s)

-- a part that begins there, at its new place
abbrev pub place_image : Versions → P.Aim → ℕ → Option Place → Option ℕ
place_image m aim t to = then_option to (λ to. if suits m aim t to.ty then Some to.offset else None)

-- elements of a type, from an offset on
abbrev pub elements : ℕ → ℕ → ℕ → Elements
elements ty offset count = record { ty = ty; offset = offset; count = count }

abbrev pub array_elements : ℕ → Option Ty → Option Elements
array_elements offset (Some (Array u n)) = Some (elements u offset n)
array_elements offset _ = None

-- those of the array at a new place
abbrev pub elements_at : Versions → Option Place → Option Elements
elements_at m to = then_option to (λ to. array_elements to.offset (new_type m to.ty))

abbrev pub nth_element : Versions → ℕ → Elements → Option Place
nth_element m i r = if nat_lt i r.count then Some (place r.ty (r.offset + i * new_size m r.ty)) else None

abbrev pub element_at : Versions → Option Elements → ℕ → Option Place
element_at m run i = then_option run (nth_element m i)

-- the end of so many old elements of type t, where the new ones are as many
abbrev pub end_image : Versions → P.Aim → ℕ → ℕ → Option Elements → Option ℕ
end_image m aim t n run =
    then_option run (λ r. if nat_eq n r.count && suits m aim t r.ty then Some (r.offset + r.count * new_size m r.ty) else None)

-- what is said after a part too, from its new place, the offset in it, and what was said before
abbrev pub Visit : Type 0
Visit = Option Place → ℕ → Spot → Spot

-- a part of type t where it begins at the offset
abbrev pub with_place : Versions → P.Aim → ℕ → Visit
with_place m aim t to offset spot =
    add_if (is_wanted (wanted aim) t && nat_eq offset 0) (place_image m aim t to) spot

-- the end of so many elements of type t where it is at the offset
abbrev pub with_end : Versions → P.Aim → ℕ → ℕ → Option Elements → ℕ → Spot → Spot
with_end m aim t n run offset spot =
    add_if (is_wanted (wanted aim) t && nat_eq (n * old_size m t) offset) (end_image m aim t n run) spot

-- the part itself, and what is inside
abbrev pub visit_part : Versions → P.Aim → (ℕ → Visit) → ℕ → Visit
visit_part m aim inside t to offset spot = inside t to offset (with_place m aim t to offset spot)

-- field k of type t, which begins and ends there
abbrev pub visit_field : Versions → (ℕ → Visit) → Option Ty → ℕ → ℕ → ℕ → ℕ → Visit
visit_field m part old t k start end to offset spot =
    if nat_le start offset && nat_le offset end then part t (next_place m old (Field k) to) (offset - start) spot else spot

-- the fields that come after `end`, the first of which has number k
abbrev pub visit_fields : Versions → (ℕ → Visit) → Option Ty → Shapes → ℕ → List FieldDef → ℕ → Visit
visit_fields m part old known end [] k to offset spot = spot
visit_fields m part old known end (f ∷ fs) k to offset spot =
    visit_fields m part old known (field_end known end f) fs (k + 1) to offset (visit_field m part old f.ty k (field_start known end f) (field_end known end f) to offset spot)

abbrev pub struct_spot : Versions → (ℕ → Visit) → ℕ → Visit
struct_spot m part s =
    visit_fields m part (Some (Struct s)) (shape_of (old_types m)) 0 (fields_of (old_types m) s) 0

abbrev pub visit_element : Versions → Visit → Option Elements → ℕ → ℕ → ℕ → Spot → Spot
visit_element m part run n i offset spot = if nat_lt i n then part (element_at m run i) offset spot else spot

-- the element that ends where so many elements end
abbrev pub visit_last : Versions → Visit → Option Elements → ℕ → ℕ → ℕ → Spot → Spot
visit_last m part run size n zero spot = spot
visit_last m part run size n (suc i) spot = visit_element m part run n i size spot

abbrev pub visit_before : Versions → Visit → Option Elements → ℕ → ℕ → ℕ → Spot → Spot
visit_before m part run size n offset spot =
    if nat_eq (offset % size) 0 then visit_last m part run size n (offset / size) spot else spot

-- n elements of type t with their end: the one that ends at the offset, and the one that holds it
abbrev pub visit_elements : Versions → P.Aim → (ℕ → Visit) → ℕ → ℕ → Option Elements → ℕ → Spot → Spot
visit_elements m aim part t n run offset spot =
    visit_element m (part t) run n (offset / old_size m t) (offset % old_size m t) (visit_before m (part t) run (old_size m t) n offset (with_end m aim t n run offset spot))

abbrev pub visit_step : Versions → P.Aim → (ℕ → Visit) → Ty → Visit
visit_step m aim inside (Struct s) to offset spot = struct_spot m (visit_part m aim inside) s to offset spot
visit_step m aim inside (Array t n) to offset spot =
    visit_elements m aim (visit_part m aim inside) t n (elements_at m to) offset spot
visit_step m aim inside _ to offset spot = spot

abbrev pub nothing_inside : Visit
nothing_inside to offset spot = spot

-- what is inside a part, by at most so many steps
abbrev pub visit_inside : Versions → P.Aim → ℕ → ℕ → Visit
visit_inside m aim depth = by_fuel (old_types m) (visit_step m aim) nothing_inside depth

abbrev pub visit : Versions → P.Aim → ℕ → ℕ → Visit
visit m aim depth = visit_part m aim (visit_inside m aim depth)

-- the elements of the new object, if the two objects share paths
abbrev pub object_elements : Extent → Extent → Option Elements
object_elements e d = if share_paths e d then Some (elements d.elem 0 d.count) else None

-- what the candidates at an offset of an object say
abbrev pub object_spot : Versions → P.Aim → Extent → Extent → ℕ → Spot
object_spot m aim e d offset =
    visit_elements m aim (visit m aim (length (old_types m).types)) e.elem e.count (object_elements e d) offset Nowhere
