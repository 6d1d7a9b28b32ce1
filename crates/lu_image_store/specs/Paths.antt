-- The image of a path goes through the old type and the new one together.
use Rattle.std.specs.Prelude.{ℕ, Bool, true, false, ◌&&◌, nat_lt, if◌then◌else◌, List, [], ◌∷◌, Option, Some, None}
use Rattle.std.specs.Option.{option_map}
use Rattle.lu_spec.specs.Then.{then_option}
use Rattle.c_types.specs.declared.parts.Ty.{Ty}
use Rattle.c_types.specs.declared.parts.Ty.TheVariants.{Struct, Union, Array}
use Rattle.c_types.specs.declared.path.Place.{Place}
use Rattle.c_types.specs.declared.path.Step.{Step}
use Rattle.c_types.specs.declared.path.Step.TheVariants.{Index, Field, Member}
use Rattle.c_types.specs.Place.{step_place, object_place}
use Rattle.lu_image.specs.Correspondence.{pair_in}
use Rattle.lu_image_store.specs.Versions.{Versions, Extent, old_types, new_types, old_type, new_type, structs_pair, unions_pair, field_pairs, member_pairs}

-- a field or a member becomes its pair where both types are structs, or unions, that pair; an index keeps its number
abbrev pub step_image : Versions → Option Ty → Option Ty → Step → Option Step
step_image m (Some (Struct s)) (Some (Struct r)) (Field k) =
    if structs_pair m s r then option_map (λ j. Field j) (pair_in (field_pairs m s) k) else None
step_image m (Some (Union s)) (Some (Union r)) (Member k) =
    if unions_pair m s r then option_map (λ j. Member j) (pair_in (member_pairs m s) k) else None
step_image m (Some (Array t n)) (Some (Array u l)) (Index i) = Some (Index i)
step_image m _ _ _ = None

-- the new path of an old one from type t to type u; each step stays in the bounds of its type
abbrev pub path_image : Versions → ℕ → ℕ → List Step → Option (List Step)
path_image m t u [] = Some []
path_image m t u (s ∷ path) =
    then_option (step_place (old_types m) (old_type m t) s) (λ from. then_option (step_image m (old_type m t) (new_type m u) s) (λ next. then_option (step_place (new_types m) (new_type m u) next) (λ to. option_map (λ rest. next ∷ rest) (path_image m from.ty to.ty path))))

abbrev pub same_bool : Bool → Bool → Bool
same_bool true b = b
same_bool false true = false
same_bool false false = true

-- a global that is declared as an array and one that isn't share no path
abbrev pub share_paths : Extent → Extent → Bool
share_paths e d = same_bool e.is_array d.is_array

-- the new path of a path of an object, which begins with an index
abbrev pub object_path_image : Versions → Extent → Extent → List Step → Option (List Step)
object_path_image m e d (Index i ∷ path) =
    if share_paths e d && (nat_lt i e.count && nat_lt i d.count) then option_map (λ rest. Index i ∷ rest) (path_image m e.elem d.elem path) else None
object_path_image m e d _ = None

abbrev pub old_place : Versions → Extent → List Step → Option Place
old_place m e path = object_place (old_types m) e.elem e.count path

abbrev pub new_place : Versions → Extent → List Step → Option Place
new_place m d path = object_place (new_types m) d.elem d.count path

-- the new place of an old path: its type and its offset in bytes
abbrev pub place_image : Versions → Extent → Extent → List Step → Option Place
place_image m e d path = then_option (object_path_image m e d path) (new_place m d)
