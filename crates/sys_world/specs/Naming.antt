-- How dumps and refusals name objects, places and sites of a program.
use Rattle.std.specs.Prelude.{ℕ, ◌-◌, ℤ, pos, Bool, true, false, List, [], ◌∷◌, ◌++◌, length, Option, Some, None, unwrap_or, slice_get, codes}
use Rattle.std.specs.Fmt.{decimal}
use Rattle.std.specs.Option.{option_map_or}
use Rattle.lu_spec.specs.Then.{then_option}
use Rattle.c_types.specs.declared.parts.FieldDef.{FieldDef}
use Rattle.c_types.specs.declared.parts.Ty.{Ty}
use Rattle.c_types.specs.declared.parts.Ty.TheVariants as T
use Rattle.c_types.specs.declared.path.Step.{Step}
use Rattle.c_types.specs.declared.path.Step.TheVariants.{Index, Field, Member}
use Rattle.c_types.specs.Tables.{fields_of, members_of}
use Rattle.c_types.specs.Numbering.{is_array}
use Rattle.c_types.specs.Place.{step_place, path_type}
use Rattle.src_tree.specs.declared.program.Program.{Program}
use Rattle.src_tree.specs.declared.value.Object.{Object}
use Rattle.src_tree.specs.declared.value.ObjectKind.{ObjectKind}
use Rattle.src_tree.specs.declared.value.ObjectKind.TheVariants.{Global, Heap, Temporary}
use Rattle.src_tree.specs.declared.value.Store.{Store}
use Rattle.lu_lines.specs.Line.{Text}
use Rattle.lu_lines.specs.declared.reason.Reason.{Reason}
use Rattle.lu_lines.specs.declared.reason.Reason.TheVariants as reason
use Rattle.lu_image.specs.declared.refusal.Refusal.{Refusal}
use Rattle.lu_image.specs.declared.refusal.Why.{Why}
use Rattle.lu_image.specs.declared.refusal.Why.TheVariants as W
use Rattle.lu_image.specs.declared.refusal.Kept.{Kept}
use Rattle.lu_image.specs.declared.refusal.Kept.TheVariants as K

abbrev pub name_at : Program → ℕ → Text
name_at p n = unwrap_or (slice_get p.names n) []

abbrev pub function_name : Program → ℕ → Text
function_name p f = option_map_or (λ d. name_at p d.name) (slice_get p.functions f) []

abbrev pub global_name : Program → ℕ → Text
global_name p g = option_map_or (λ d. name_at p d.name) (slice_get p.globals g) []

-- `f#k`, the k-th allocation in the text of f; `temp` where the program has no such site
abbrev pub site_name : Program → ℕ → Text
site_name p site =
    option_map_or (λ d. function_name p d.function ++ 35 ∷ decimal d.ordinal) (slice_get p.sites site) (codes "temp")

-- behind the globals, objects count from 0
abbrev pub heap_name : Program → Text → ℕ → Text
heap_name p made_at k = made_at ++ 58 ∷ decimal (k - length p.globals)

abbrev pub name_by_kind : Program → ℕ → ObjectKind → Text
name_by_kind p k Global = global_name p k
name_by_kind p k (Heap site) = heap_name p (site_name p site) k
name_by_kind p k Temporary = heap_name p (codes "temp") k

-- the name of the object of number k: that of a global, or its site and its number among the heap objects, as `f#k:o`
abbrev pub object_name : Program → Store → ℕ → Text
object_name p store k = option_map_or (λ x. name_by_kind p k x.kind) (slice_get store.objects k) []

abbrev pub field_name : Program → Option FieldDef → Text
field_name p f = option_map_or (λ d. 46 ∷ name_at p d.name) f []

abbrev pub index_text : ℕ → Text
index_text i = 91 ∷ (decimal i ++ 93 ∷ [])

-- a step in a type: `[i]` for an element, `.f` for a field or a member
abbrev pub step_text : Program → Option Ty → Step → Text
step_text p (Some (T.Struct s)) (Field k) = field_name p (slice_get (fields_of p.types s) k)
step_text p (Some (T.Union u)) (Member k) = field_name p (slice_get (members_of p.types u) k)
step_text p ty (Index i) = index_text i
step_text p ty s = []

-- a path in a value of type t
abbrev pub path_text : Program → ℕ → List Step → Text
path_text p t [] = []
path_text p t (s ∷ path) =
    step_text p (slice_get p.types.types t) s ++ option_map_or (λ to. path_text p to.ty path) (step_place p.types (slice_get p.types.types t) s) []

-- an object whose elements are shown by their index: a heap object, or a global that is declared as an array
abbrev pub is_indexed : Program → ℕ → ObjectKind → Bool
is_indexed p k Global = option_map_or (λ d. is_array (slice_get p.types.types d.ty)) (slice_get p.globals k) false
is_indexed p k kind = true

abbrev pub elements_text : Program → Bool → ℕ → List Step → Text
elements_text p true t (Index i ∷ path) = index_text i ++ path_text p t path
elements_text p false t (Index i ∷ path) = path_text p t path
elements_text p indexed t path = []

-- the place of a path in the object of number k
abbrev pub place_name : Program → Store → ℕ → List Step → Text
place_name p store k path =
    object_name p store k ++ option_map_or (λ x. elements_text p (is_indexed p k x.kind) x.elem path) (slice_get store.objects k) []

-- the type of a place of an object, whose path begins with an index
abbrev pub place_type_in : Program → Object → List Step → Option Ty
place_type_in p x (Index i ∷ path) = slice_get p.types.types (path_type p.types x.elem path)
place_type_in p x path = None

abbrev pub place_type : Program → Store → ℕ → List Step → Option Ty
place_type p store k path = then_option (slice_get store.objects k) (λ x. place_type_in p x path)

abbrev pub member_name_in : Program → Option Ty → ℕ → Text
member_name_in p (Some (T.Union u)) k = option_map_or (λ d. name_at p d.name) (slice_get (members_of p.types u) k) []
member_name_in p ty k = []

-- the name of the member that a refused union at a place keeps
abbrev pub kept_member : Program → Option Ty → Kept → Text
kept_member p ty (K.Member k) = member_name_in p ty k
kept_member p ty kept = []

abbrev pub kept_integer : Kept → ℤ
kept_integer (K.Int z) = z
kept_integer kept = pos 0

abbrev pub kept_function : Program → Kept → Text
kept_function p (K.Function f) = function_name p f
kept_function p kept = []

abbrev pub kept_site : Program → Kept → Text
kept_site p (K.Site s) = site_name p s
kept_site p kept = []

abbrev pub kept_object : Program → Store → Kept → Text
kept_object p store (K.Target object offset) = object_name p store object
kept_object p store kept = []

abbrev pub kept_offset : Kept → ℕ
kept_offset (K.Target object offset) = offset
kept_offset kept = 0

abbrev pub reason_by : Program → Store → Text → Option Ty → Kept → Why → Reason
reason_by p store path ty kept W.Shape = reason.Shape path
reason_by p store path ty kept W.HandledInUnion = reason.HandledInUnion path
reason_by p store path ty kept W.ArrayCut = reason.ArrayCut path
reason_by p store path ty kept W.HeapLimit = reason.HeapLimit path
reason_by p store path ty kept W.Narrow = reason.Narrow path (kept_integer kept)
reason_by p store path ty kept W.MemberGone = reason.MemberGone path (kept_member p ty kept)
reason_by p store path ty kept W.LostFunction = reason.LostFunction path (kept_function p kept)
reason_by p store path ty kept W.UnpairedSite = reason.UnpairedSite path (kept_site p kept)
reason_by p store path ty kept W.Dangling = reason.Dangling path (kept_object p store kept) (kept_offset kept)
reason_by p store path ty kept W.LostTarget = reason.LostTarget path (kept_object p store kept) (kept_offset kept)
reason_by p store path ty kept W.NoPlace = reason.NoPlace path (kept_object p store kept) (kept_offset kept)
reason_by p store path ty kept W.Ambiguous = reason.Ambiguous path (kept_object p store kept) (kept_offset kept)

-- the reason that a refusal gives, in the names of the old program and of its store
abbrev pub reason_of : Program → Store → Refusal → Reason
reason_of p store r =
    reason_by p store (place_name p store r.object r.path) (place_type p store r.object r.path) r.kept r.why
