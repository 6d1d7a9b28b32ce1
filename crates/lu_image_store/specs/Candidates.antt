-- What a pointer may point to, by its offset in an object and the type that it is a pointer to.
use Rattle.std.specs.Prelude.{◌≡◌, ℕ, zero, suc, ◌+◌, ◌-◌, ◌*◌, ◌/◌, ◌%◌, Bool, true, ◌&&◌, nat_eq, nat_lt, nat_le, if◌then◌else◌, IsTrue, List, [], ◌∷◌, ◌++◌, map, Option, Some, None, slice_get}
use Rattle.c_types.specs.declared.parts.Parts.{Parts}
use Rattle.c_types.specs.declared.parts.FieldDef.{FieldDef}
use Rattle.c_types.specs.declared.parts.Ty.{Ty}
use Rattle.c_types.specs.declared.parts.Ty.TheVariants.{Struct, Array}
use Rattle.c_types.specs.declared.path.Step.{Step}
use Rattle.c_types.specs.declared.path.Step.TheVariants.{Index, Field}
use Rattle.c_types.specs.Tables.{fields_of}
use Rattle.c_types.specs.Recursion.{by_type}
use Rattle.c_types.specs.Layout.{Shapes, shape_of, size_of, field_start, field_end}
use Rattle.c_types.specs.Place.{place, object_place, IsOutsideUnions}

-- a place, the end of an array, or the end of the whole object
pub data Candidate : Type 0 where
  at_place : (path : List Step) → Candidate
  at_end : (path : List Step) → Candidate
  at_whole : Candidate

-- the type of place that is asked for, or each type
abbrev pub is_wanted : Option ℕ → ℕ → Bool
is_wanted None t = true
is_wanted (Some want) t = nat_eq t want

-- The place of a wanted type at the offset outside unions, or an array of such elements that ends there. The whole object
-- counts as an array.
abbrev pub IsCandidate : Parts → ℕ → ℕ → Option ℕ → ℕ → Candidate → Type 0
IsCandidate p elem count want offset (at_place path) =
    (t : ℕ) × (object_place p elem count path ≡ Some (place t offset)) × IsOutsideUnions path × IsTrue (is_wanted want t)
IsCandidate p elem count want offset (at_end path) =
    (a t n start : ℕ) × (object_place p elem count path ≡ Some (place a start)) × IsOutsideUnions path × (slice_get p.types a ≡ Some (Array t n)) × (start + n * size_of p t ≡ offset) × IsTrue (is_wanted want t)
IsCandidate p elem count want offset at_whole = (count * size_of p elem ≡ offset) × IsTrue (is_wanted want elem)

-- The same as a list, by recursion on types. A part is looked into where it holds the offset or ends there.
abbrev pub Inside : Type 0
Inside = ℕ → List Candidate

abbrev pub under : Step → Candidate → Candidate
under s (at_place path) = at_place (s ∷ path)
under s (at_end path) = at_end (s ∷ path)
under s at_whole = at_whole

abbrev pub one_if : Bool → Candidate → List Candidate
one_if b c = if b then c ∷ [] else []

-- a part of type t: itself where it begins at the offset, and what is inside
abbrev pub in_part : Option ℕ → (ℕ → Inside) → ℕ → Inside
in_part want inside t offset = one_if (is_wanted want t && nat_eq offset 0) (at_place []) ++ inside t offset

abbrev pub in_field : (ℕ → Inside) → ℕ → FieldDef → ℕ → ℕ → Inside
in_field part k f start end offset =
    if nat_le start offset && nat_le offset end then map (under (Field k)) (part f.ty (offset - start)) else []

-- in fields that come after `end`, the first of which has number k
abbrev pub in_fields : Shapes → (ℕ → Inside) → ℕ → List FieldDef → ℕ → Inside
in_fields known part end [] k offset = []
in_fields known part end (f ∷ fs) k offset =
    in_field part k f (field_start known end f) (field_end known end f) offset ++ in_fields known part (field_end known end f) fs (k + 1) offset

abbrev pub in_element : Inside → ℕ → ℕ → Inside
in_element part n i offset = if nat_lt i n then map (under (Index i)) (part offset) else []

-- in the element that ends where so many elements end
abbrev pub in_last : Inside → ℕ → ℕ → ℕ → List Candidate
in_last part size n zero = []
in_last part size n (suc i) = in_element part n i size

-- in n elements: the one that ends at the offset, and the one that holds it
abbrev pub in_elements : Inside → ℕ → ℕ → Inside
in_elements part size n offset =
    (if nat_eq (offset % size) 0 then in_last part size n (offset / size) else []) ++ in_element part n (offset / size) (offset % size)

abbrev pub inside_step : Parts → Option ℕ → (ℕ → Inside) → Ty → Inside
inside_step p want inside (Struct s) offset =
    in_fields (shape_of p) (in_part want inside) 0 (fields_of p s) 0 offset
inside_step p want inside (Array t n) offset =
    one_if (is_wanted want t && nat_eq (n * size_of p t) offset) (at_end []) ++ in_elements (in_part want inside t) (size_of p t) n offset
inside_step p want inside _ offset = []

-- what is inside a value of type t; unions are not looked into
abbrev pub inside_of : Parts → Option ℕ → ℕ → Inside
inside_of p want t = by_type p (inside_step p want) (λ offset. []) t

-- all candidates in an object
abbrev pub candidates : Parts → ℕ → ℕ → Option ℕ → ℕ → List Candidate
candidates p elem count want offset =
    one_if (is_wanted want elem && nat_eq (count * size_of p elem) offset) at_whole ++ in_elements (in_part want (inside_of p want) elem) (size_of p elem) count offset
