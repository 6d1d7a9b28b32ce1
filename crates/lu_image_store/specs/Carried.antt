-- The objects to which the carried pointers of an object go: those pointers whose path has an image.
use Rattle.std.specs.Prelude.{ℕ, Bool, true, false, if◌then◌else◌, List, [], ◌∷◌, ◌++◌, Option, Some, None, take, slice_get, flat_map}
use Rattle.std.specs.Option.{option_map, option_map_or}
use Rattle.lu_spec.specs.Then.{then_option}
use Rattle.c_types.specs.declared.parts.FieldDef.{FieldDef}
use Rattle.c_types.specs.declared.parts.Ty.{Ty}
use Rattle.c_types.specs.declared.parts.Ty.TheVariants as T
use Rattle.c_types.specs.Tables.{members_of}
use Rattle.c_types.specs.Recursion.{by_type}
use Rattle.src_tree.specs.declared.value.Value.{Value, out-Value}
use Rattle.src_tree.specs.declared.value.Value.TheOpen as V
use Rattle.src_tree.specs.declared.value.Object.{Object}
use Rattle.src_tree.specs.declared.value.Store.{Store}
use Rattle.src_meaning.specs.Paths.{Layer}
use Rattle.lu_image.specs.declared.handler.Handler.{Handler}
use Rattle.lu_image.specs.Correspondence.{pair_in}
use Rattle.lu_image_store.specs.Versions.{Versions, Extent, old_types, new_types, old_type, new_type, structs_pair, unions_pair, field_pairs, member_pairs, old_extent, new_extent}
use Rattle.lu_image_store.specs.Paths.{share_paths}
use Rattle.lu_image_store.specs.Forms.{handler_of, old_fields, new_fields, form_pairs}

-- from whether handlers count, the new type, and the value
abbrev pub Carried : Type 0
Carried = Bool → Option Ty → Value → List ℕ

abbrev pub target_of : Layer → List ℕ
target_of (V.Pointer o offset) = o ∷ []
target_of _ = []

-- a part whose new type comes from its pair, if it has one
abbrev pub in_pair : Versions → (Option Ty → Value → List ℕ) → Value → Option FieldDef → List ℕ
in_pair m part v None = []
in_pair m part v (Some g) = part (new_type m g.ty) v

abbrev pub in_fields : Versions → (ℕ → Option Ty → Value → List ℕ) → List FieldDef → List FieldDef → List (Option ℕ) → List Value → List ℕ
in_fields m part to (f ∷ fs) (j ∷ js) (v ∷ vs) =
    in_pair m (part f.ty) v (then_option j (slice_get to)) ++ in_fields m part to fs js vs
in_fields m part to _ _ _ = []

-- in a handled place by the fields that the old form has by equal names, and below them with no handler
abbrev pub in_struct : Versions → (ℕ → Carried) → Bool → Option Handler → ℕ → ℕ → List Value → List ℕ
in_struct m rec true (Some h) s r vs =
    in_fields m (λ t. rec t false) (new_fields m h.form) (old_fields m s) (form_pairs m s h.form) vs
in_struct m rec handled _ s r vs = in_fields m (λ t. rec t handled) (new_fields m r) (old_fields m s) (field_pairs m s) vs

-- the active member counts by its pair
abbrev pub in_union : Versions → (ℕ → Option Ty → Value → List ℕ) → ℕ → ℕ → ℕ → Value → List ℕ
in_union m part s r k body =
    option_map_or (λ f. in_pair m (part f.ty) body (then_option (pair_in (member_pairs m s) k) (slice_get (members_of (new_types m) r)))) (slice_get (members_of (old_types m) s) k) []

abbrev pub in_pointer : Option Ty → Layer → List ℕ
in_pointer (Some u) l = target_of l
in_pointer None l = []

abbrev pub in_struct_type : Versions → (ℕ → Carried) → Bool → ℕ → Option Ty → Layer → List ℕ
in_struct_type m rec handled s (Some (T.Struct r)) (V.Struct vs) =
    if structs_pair m s r then in_struct m rec handled (handler_of m s) s r vs else []
in_struct_type m rec handled s _ _ = []

abbrev pub in_union_type : Versions → (ℕ → Option Ty → Value → List ℕ) → ℕ → Option Ty → Layer → List ℕ
in_union_type m part s (Some (T.Union r)) (V.Union k body) = if unions_pair m s r then in_union m part s r k body else []
in_union_type m part s _ _ = []

abbrev pub in_array_type : Versions → (Option Ty → Value → List ℕ) → Option Ty → Layer → List ℕ
in_array_type m part (Some (T.Array u l)) (V.Array vs) = flat_map (part (new_type m u)) (take l vs)
in_array_type m part _ _ = []

-- by the old type
abbrev pub carried_step : Versions → (ℕ → Carried) → Ty → Bool → Option Ty → Layer → List ℕ
carried_step m rec (T.Int kind) handled new l = []
carried_step m rec (T.Pointer t) handled new l = in_pointer new l
carried_step m rec T.VoidPointer handled new l = in_pointer new l
carried_step m rec (T.Function g) handled new l = []
carried_step m rec (T.Struct s) handled new l = in_struct_type m rec handled s new l
carried_step m rec (T.Union s) handled new l = in_union_type m (λ t. rec t handled) s new l
carried_step m rec (T.Array t n) handled new l = in_array_type m (rec t handled) new l

-- in a value of type t that has an image of some new type
abbrev pub carried_in : Versions → ℕ → Carried
carried_in m t =
    by_type (old_types m) (λ rec ty handled new v. carried_step m rec ty handled new (out-Value v)) (λ handled new v. []) t

-- the new type at the top of an object whose site has no pair: the pair of its struct or union, and a scalar's own
abbrev pub type_at_top : Versions → Option Ty → Option Ty
type_at_top m (Some (T.Struct s)) = option_map (λ r. T.Struct r) (pair_in m.pairing.structs s)
type_at_top m (Some (T.Union s)) = option_map (λ r. T.Union r) (pair_in m.pairing.unions s)
type_at_top m ty = ty

abbrev pub in_elements : Versions → Object → List Value → Option Extent → Option Extent → List ℕ
in_elements m x vs (Some e) (Some d) =
    if share_paths e d then flat_map (carried_in m e.elem true (new_type m d.elem)) (take d.count vs) else []
in_elements m x vs (Some e) None = flat_map (carried_in m e.elem true (type_at_top m (old_type m e.elem))) vs
in_elements m x vs None d = []

-- of an old object by its number; none where it is dead
abbrev pub carried_by : Versions → ℕ → Object → List ℕ
carried_by m k x = option_map_or (λ vs. in_elements m x vs (old_extent m k x) (new_extent m k x)) x.elements []

abbrev pub carried : Versions → Store → ℕ → List ℕ
carried m store k = option_map_or (carried_by m k) (slice_get store.objects k) []
