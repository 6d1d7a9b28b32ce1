-- Handled places: the outermost places of structs with handlers, outside inactive members, whose path has an image.
use Rattle.std.specs.Prelude.{ℕ, ◌+◌, nat_lt, if◌then◌else◌, List, [], ◌∷◌, ◌++◌, map, Option, Some, None, slice_get}
use Rattle.std.specs.Option.{option_map_or}
use Rattle.lu_spec.specs.Then.{then_option}
use Rattle.c_types.specs.declared.parts.FieldDef.{FieldDef}
use Rattle.c_types.specs.declared.parts.Ty.{Ty}
use Rattle.c_types.specs.declared.parts.Ty.TheVariants as T
use Rattle.c_types.specs.declared.path.Step.{Step}
use Rattle.c_types.specs.declared.path.Step.TheVariants.{Index, Field, Member}
use Rattle.c_types.specs.Tables.{members_of}
use Rattle.c_types.specs.Recursion.{by_type}
use Rattle.src_tree.specs.declared.value.Value.{Value, out-Value}
use Rattle.src_tree.specs.declared.value.Value.TheOpen as V
use Rattle.src_tree.specs.declared.value.Object.{Object}
use Rattle.src_tree.specs.declared.value.Store.{Store}
use Rattle.src_meaning.specs.Paths.{Layer}
use Rattle.lu_image.specs.declared.handler.Handler.{Handler}
use Rattle.lu_image.specs.Correspondence.{pair_in}
use Rattle.lu_image_store.specs.Versions.{Versions, Extent, old_types, new_types, new_type, structs_pair, unions_pair, field_pairs, member_pairs, old_extent, new_extent}
use Rattle.lu_image_store.specs.Paths.{share_paths}
use Rattle.lu_image_store.specs.Forms.{handler_of, old_fields, new_fields}

-- a handled place by its path, with its handler and the fields that stand there
pub record HandledPlace : Type 0 where
  pub path : List Step
  pub handler : Handler
  pub fields : List Value

abbrev pub further : Step → HandledPlace → HandledPlace
further s place = record place { path = s ∷ place.path }

abbrev pub below : Step → List HandledPlace → List HandledPlace
below s places = map (further s) places

-- from the new type and the value
abbrev pub Handled : Type 0
Handled = Option Ty → Value → List HandledPlace

abbrev pub in_pair : Versions → Handled → Value → Option FieldDef → List HandledPlace
in_pair m part v None = []
in_pair m part v (Some g) = part (new_type m g.ty) v

-- in fields from field k on
abbrev pub in_fields : Versions → (ℕ → Handled) → List FieldDef → ℕ → List FieldDef → List (Option ℕ) → List Value → List HandledPlace
in_fields m rec to k (f ∷ fs) (j ∷ js) (v ∷ vs) =
    below (Field k) (in_pair m (rec f.ty) v (then_option j (slice_get to))) ++ in_fields m rec to (k + 1) fs js vs
in_fields m rec to k _ _ _ = []

-- in elements from element i on that have an image in so many new ones
abbrev pub in_items : (Value → List HandledPlace) → ℕ → List Value → ℕ → List HandledPlace
in_items item i [] count = []
in_items item i (v ∷ vs) count = if nat_lt i count then below (Index i) (item v) ++ in_items item (i + 1) vs count else []

-- a struct with a handler is the place itself, and what is inside it is none
abbrev pub in_struct : Versions → (ℕ → Handled) → Option Handler → ℕ → ℕ → List Value → List HandledPlace
in_struct m rec (Some h) s r vs = record { path = []; handler = h; fields = vs } ∷ []
in_struct m rec None s r vs = in_fields m rec (new_fields m r) 0 (old_fields m s) (field_pairs m s) vs

abbrev pub in_union : Versions → (ℕ → Handled) → ℕ → ℕ → ℕ → Value → List HandledPlace
in_union m rec s r k body =
    option_map_or (λ f. below (Member k) (in_pair m (rec f.ty) body (then_option (pair_in (member_pairs m s) k) (slice_get (members_of (new_types m) r))))) (slice_get (members_of (old_types m) s) k) []

abbrev pub in_struct_type : Versions → (ℕ → Handled) → ℕ → Option Ty → Layer → List HandledPlace
in_struct_type m rec s (Some (T.Struct r)) (V.Struct vs) =
    if structs_pair m s r then in_struct m rec (handler_of m s) s r vs else []
in_struct_type m rec s _ _ = []

abbrev pub in_union_type : Versions → (ℕ → Handled) → ℕ → Option Ty → Layer → List HandledPlace
in_union_type m rec s (Some (T.Union r)) (V.Union k body) = if unions_pair m s r then in_union m rec s r k body else []
in_union_type m rec s _ _ = []

abbrev pub in_array_type : Versions → Handled → Option Ty → Layer → List HandledPlace
in_array_type m part (Some (T.Array u l)) (V.Array vs) = in_items (part (new_type m u)) 0 vs l
in_array_type m part _ _ = []

-- by the old type
abbrev pub handled_step : Versions → (ℕ → Handled) → Ty → Option Ty → Layer → List HandledPlace
handled_step m rec (T.Struct s) new l = in_struct_type m rec s new l
handled_step m rec (T.Union s) new l = in_union_type m rec s new l
handled_step m rec (T.Array t n) new l = in_array_type m (rec t) new l
handled_step m rec _ new l = []

-- in a value of type t that has an image of some new type
abbrev pub handled_in : Versions → ℕ → Handled
handled_in m t = by_type (old_types m) (λ rec ty new v. handled_step m rec ty new (out-Value v)) (λ new v. []) t

abbrev pub in_elements : Versions → List Value → Option Extent → Option Extent → List HandledPlace
in_elements m vs (Some e) (Some d) =
    if share_paths e d then in_items (handled_in m e.elem (new_type m d.elem)) 0 vs d.count else []
in_elements m vs _ _ = []

abbrev pub handled_by : Versions → ℕ → Object → List HandledPlace
handled_by m k x = option_map_or (λ vs. in_elements m vs (old_extent m k x) (new_extent m k x)) x.elements []

-- in an old object by its number, in the order of their offsets
abbrev pub handled_places : Versions → Store → ℕ → List HandledPlace
handled_places m store k = option_map_or (handled_by m k) (slice_get store.objects k) []
