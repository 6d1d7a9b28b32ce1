-- The image of a value over a base: a new value, or the first fault in the order of the old offsets.
use Rattle.std.specs.Prelude.{ℕ, zero, ◌+◌, Bool, true, false, ◌&&◌, if◌then◌else◌, List, [], ◌∷◌, Option, Some, None, Ok, slice_get, slice_set}
use Rattle.std.specs.List.{list_all}
use Rattle.std.specs.Option.{option_map_or}
use Rattle.lu_spec.specs.Then.{then_do}
use Rattle.c_types.specs.declared.parts.FieldDef.{FieldDef}
use Rattle.c_types.specs.declared.parts.Signature.{Signature}
use Rattle.c_types.specs.declared.parts.Parts.{Parts}
use Rattle.c_types.specs.declared.parts.Ty.{Ty}
use Rattle.c_types.specs.declared.parts.Ty.TheVariants as T
use Rattle.c_types.specs.declared.path.Step.TheVariants.{Index, Field, Member}
use Rattle.c_types.specs.Tables.{fields_of, members_of}
use Rattle.c_types.specs.Recursion.{by_type}
use Rattle.src_tree.specs.declared.value.Value.{Value, Int, Null, Function, Struct, Array, Union, out-Value}
use Rattle.src_tree.specs.declared.value.Value.TheOpen as V
use Rattle.src_meaning.specs.Integers.{is_held, is_zero}
use Rattle.src_meaning.specs.Paths.{Layer, zero_of}
use Rattle.src_tree.specs.Signatures.{same_numbers, same_result}
use Rattle.src_meaning.specs.Store.{fields_have_types}
use Rattle.lu_image.specs.declared.handler.Handler.{Handler}
use Rattle.lu_image.specs.declared.refusal.Why.TheVariants as W
use Rattle.lu_image.specs.declared.refusal.Kept.TheVariants as K
use Rattle.lu_image.specs.Correspondence.{pair_in, correspond_here}
use Rattle.lu_image_store.specs.Versions.{Versions, old_types, new_types, new_type, do_correspond, field_pairs, member_pairs}
use Rattle.lu_image_store.specs.Faults.{Gives, refused, within, made}
use Rattle.lu_image_store.specs.Forms.{handler_of, old_fields, new_fields, form_pairs, zero_fields}
use Rattle.lu_image_store.specs.Pointers.{Context, exactly, anything, pointer_image}

abbrev pub zero_layer : Parts → (ℕ → Value → Bool) → Ty → Layer → Bool
zero_layer p rec (T.Int kind) (V.Int z) = is_zero z
zero_layer p rec (T.Pointer t) V.Null = true
zero_layer p rec T.VoidPointer V.Null = true
zero_layer p rec (T.Function g) V.Null = true
zero_layer p rec (T.Struct s) (V.Struct vs) = fields_have_types rec (fields_of p s) vs
zero_layer p rec (T.Union u) (V.Union zero body) = option_map_or (λ f. rec f.ty body) (slice_get (members_of p u) 0) false
zero_layer p rec (T.Array t n) (V.Array vs) = list_all (rec t) vs
zero_layer p rec _ _ = false

-- whether a value of type t is the zero value
abbrev pub is_zero_value : Parts → ℕ → Value → Bool
is_zero_value p t = by_type p (λ rec ty v. zero_layer p rec ty (out-Value v)) (λ v. false) t

-- where a value stands: in a place of the object, in an active member of a union, or in an old form
pub data Setting : Type 0 where
  in_place : Setting
  in_union : Setting
  in_form : Setting

-- an old form stays one inside its unions
abbrev pub inside_union : Setting → Setting
inside_union in_form = in_form
inside_union _ = in_union

-- what a part becomes: from the new type, the value and the base
abbrev pub Part : Type 0
Part = ℕ → Value → Value → Gives Value

abbrev pub Image : Type 0
Image = Setting → Part

-- an integer keeps its value, which the new type must hold
abbrev pub int_image : Option Ty → Layer → Gives Value
int_image (Some (T.Int kind)) (V.Int z) = if is_held kind z then Ok (Int z) else refused W.Narrow (K.Int z)
int_image _ _ = refused W.Shape K.Nothing

abbrev pub typed_pointer_image : Context → ℕ → Option Ty → Layer → Gives Value
typed_pointer_image c t (Some (T.Pointer u)) l = pointer_image c (exactly t u) l
typed_pointer_image c t _ l = refused W.Shape K.Nothing

abbrev pub void_pointer_image : Context → Option Ty → Layer → Gives Value
void_pointer_image c (Some T.VoidPointer) l = pointer_image c anything l
void_pointer_image c _ l = refused W.Shape K.Nothing

abbrev pub same_signature : Signature → Signature → Bool
same_signature f g = same_result f.result g.result && same_numbers f.params g.params

-- the new function has exactly that signature
abbrev pub has_signature : Versions → ℕ → ℕ → Bool
has_signature m h g =
    option_map_or (λ f. option_map_or (same_signature f) (slice_get m.pairing.new.types.signatures h) false) (slice_get m.pairing.new.functions g) false

abbrev pub paired_function : Versions → ℕ → ℕ → Option ℕ → Gives Value
paired_function m h f None = refused W.LostFunction (K.Function f)
paired_function m h f (Some g) = if has_signature m h g then Ok (Function g) else refused W.LostFunction (K.Function f)

-- a function becomes its pair, which must have exactly the signature of the new pointer
abbrev pub function_image : Versions → Option Ty → Layer → Gives Value
function_image m (Some (T.Function h)) (V.Function f) = paired_function m h f (pair_in m.pairing.functions f)
function_image m (Some (T.Function h)) _ = Ok Null
function_image m _ _ = refused W.Shape K.Nothing

abbrev pub put_field : Part → ℕ → ℕ → Value → Option FieldDef → Option Value → List Value → Gives (List Value)
put_field part k j v (Some g) (Some b) done = made (λ w. slice_set done j w) (within (Field k) (part g.ty v b))
put_field part k j v _ _ done = Ok done

-- field k moves to field j of the new struct, and a field without pair is forgotten
abbrev pub field_image : Part → List FieldDef → ℕ → Option ℕ → Value → List Value → Gives (List Value)
field_image part to k None v done = Ok done
field_image part to k (Some j) v done = put_field part k j v (slice_get to j) (slice_get done j) done

-- fields in order over the base, from field k on
abbrev pub fields_image : (ℕ → Part) → List FieldDef → ℕ → List FieldDef → List (Option ℕ) → List Value → List Value → Gives (List Value)
fields_image part to k (f ∷ fs) (j ∷ js) (v ∷ vs) done =
    then_do (field_image (part f.ty) to k j v done) (fields_image part to (k + 1) fs js vs)
fields_image part to k _ _ _ done = Ok done

abbrev pub fields_in : Layer → List Value
fields_in (V.Struct fields) = fields
fields_in _ = []

abbrev pub items_in : Layer → List Value
items_in (V.Array items) = items
items_in _ = []

-- the fields of the old form of the struct s, over zero, with fields paired by equal names
abbrev pub form_image : Versions → (ℕ → Part) → ℕ → ℕ → List Value → Gives (List Value)
form_image m part s form vs =
    fields_image part (new_fields m form) 0 (old_fields m s) (form_pairs m s form) vs (zero_fields m form)

abbrev pub plain_struct : Versions → (ℕ → Part) → ℕ → ℕ → List Value → Value → Gives Value
plain_struct m part s r vs base =
    made Struct (fields_image part (new_fields m r) 0 (old_fields m s) (field_pairs m s) vs (fields_in (out-Value base)))

-- A struct with a handler keeps the base, unless its old form has a fault; in a union it is refused, and in an old form
-- it is as any other.
abbrev pub handled_struct : Versions → (Setting → ℕ → Part) → Setting → Option Handler → ℕ → ℕ → List Value → Value → Gives Value
handled_struct m part in_place (Some h) s r vs base = made (λ form. base) (form_image m (part in_form) s h.form vs)
handled_struct m part in_union (Some h) s r vs base = refused W.HandledInUnion K.Nothing
handled_struct m part at _ s r vs base = plain_struct m (part at) s r vs base

abbrev pub struct_image : Versions → (Setting → ℕ → Part) → Setting → ℕ → Option Ty → Layer → Value → Gives Value
struct_image m part at s (Some (T.Struct r)) (V.Struct vs) base = handled_struct m part at (handler_of m s) s r vs base
struct_image m part at s _ _ base = refused W.Shape K.Nothing

abbrev pub put_member : Versions → Part → ℕ → ℕ → Value → Option FieldDef → Gives Value
put_member m part k j body (Some g) = made (Union j) (within (Member k) (part g.ty body (zero_of (new_types m) g.ty)))
put_member m part k j body None = refused W.MemberGone (K.Member k)

abbrev pub member_image : Versions → Part → ℕ → ℕ → Value → Option ℕ → Gives Value
member_image m part r k body None = refused W.MemberGone (K.Member k)
member_image m part r k body (Some j) = put_member m part k j body (slice_get (members_of (new_types m) r) j)

abbrev pub active_member : Versions → (ℕ → Part) → ℕ → ℕ → ℕ → Value → Option FieldDef → Gives Value
active_member m part s r k body None = refused W.MemberGone (K.Member k)
active_member m part s r k body (Some f) = member_image m (part f.ty) r k body (pair_in (member_pairs m s) k)

-- a union keeps its active member by its pair, over a zero body
abbrev pub union_image : Versions → (ℕ → Part) → ℕ → Option Ty → Layer → Gives Value
union_image m part s (Some (T.Union r)) (V.Union k body) =
    active_member m part s r k body (slice_get (members_of (old_types m) s) k)
union_image m part s _ _ = refused W.Shape K.Nothing

-- Elements in order, from element i on. A longer array keeps the base's tail; in a shorter one each cut element must be
-- zero.
abbrev pub items_image : (Value → Value → Gives Value) → (Value → Bool) → ℕ → List Value → List Value → Gives (List Value)
items_image item zeroed i [] base = Ok base
items_image item zeroed i (v ∷ vs) [] =
    if zeroed v then items_image item zeroed (i + 1) vs [] else within (Index i) (refused W.ArrayCut K.Nothing)
items_image item zeroed i (v ∷ vs) (b ∷ bs) =
    then_do (within (Index i) (item v b)) (λ w. made (λ ws. w ∷ ws) (items_image item zeroed (i + 1) vs bs))

-- the elements of an array or of an object, of types t and u
abbrev pub elements_image : Versions → Part → ℕ → ℕ → List Value → List Value → Gives (List Value)
elements_image m part t u vs base = items_image (part u) (is_zero_value (old_types m) t) 0 vs base

abbrev pub array_image : Versions → Part → ℕ → Option Ty → Layer → Value → Gives Value
array_image m part t (Some (T.Array u l)) (V.Array vs) base =
    made Array (elements_image m part t u vs (items_in (out-Value base)))
array_image m part t _ _ base = refused W.Shape K.Nothing

-- by the old type; `rec` gives the images of the types that it holds
abbrev pub layer_image : Context → (ℕ → Image) → Ty → Setting → Option Ty → Layer → Value → Gives Value
layer_image c rec (T.Int kind) at new l base = int_image new l
layer_image c rec (T.Pointer t) at new l base = typed_pointer_image c t new l
layer_image c rec T.VoidPointer at new l base = void_pointer_image c new l
layer_image c rec (T.Function g) at new l base = function_image c.versions new l
layer_image c rec (T.Struct s) at new l base = struct_image c.versions (λ at t. rec t at) at s new l base
layer_image c rec (T.Union s) at new l base = union_image c.versions (λ t. rec t (inside_union at)) s new l
layer_image c rec (T.Array t n) at new l base = array_image c.versions (rec t at) t new l base

abbrev pub corresponds_here : Versions → Ty → Option Ty → Bool
corresponds_here m ty new = correspond_here m.pairing.structs m.pairing.unions (do_correspond m) ty new

abbrev pub image_step : Context → (ℕ → Image) → Ty → Image
image_step c rec ty at u v base =
    if corresponds_here c.versions ty (new_type c.versions u) then layer_image c rec ty at (new_type c.versions u) (out-Value v) base else refused W.Shape K.Nothing

abbrev pub no_image : Image
no_image at u v base = refused W.Shape K.Nothing

-- the image of a value of type t
abbrev pub image_of : Context → ℕ → Image
image_of c t = by_type (old_types c.versions) (image_step c) no_image t
