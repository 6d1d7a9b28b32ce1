-- The image of a store with its handlers and the last call.
use Rattle.std.specs.Prelude.{ℕ, suc, ◌+◌, ◌*◌, Bool, false, nat_eq, if◌then◌else◌, List, [], ◌∷◌, length, map, position, flat_map, is_some, Option, Some, None, unwrap_or, Result, Ok, Err, slice_get}
use Rattle.std.specs.Option.{option_map_or}
use Rattle.lu_spec.specs.Then.{then_option, then_do}
use Rattle.lu_base.specs.declared.trap.Trap.{Trap}
use Rattle.lu_base.specs.declared.trap.Trap.TheVariants.{BadCode}
use Rattle.c_types.specs.declared.parts.Parts.{Parts}
use Rattle.c_types.specs.declared.parts.Ty.{Ty}
use Rattle.c_types.specs.declared.parts.Ty.TheVariants as T
use Rattle.c_types.specs.declared.path.Step.{Step}
use Rattle.src_tree.specs.declared.value.Value.{Value, Pointer, Struct}
use Rattle.src_tree.specs.declared.value.ObjectKind.TheVariants.{Temporary}
use Rattle.src_tree.specs.declared.value.Object.{Object}
use Rattle.src_tree.specs.declared.value.Store.{Store}
use Rattle.src_tree.specs.declared.program.Program.{Program}
use Rattle.src_meaning.specs.Objects.{has_room, append_object, with_object, with_elements}
use Rattle.lu_base.specs.declared.world.World.{World}
use Rattle.lu_base.specs.declared.limits.TheConstants.{CALL_TICKS}
use Rattle.src_meaning.specs.Call.{Ending, Returned, Trapped, Starved, call}
use Rattle.src_meaning.specs.Delivery.{with_no_messages}
use Rattle.src_meaning.specs.Initial.{initial_store}
use Rattle.lu_image.specs.declared.refusal.Refusal.{Refusal}
use Rattle.lu_image.specs.declared.refusal.Why.TheVariants as W
use Rattle.lu_image.specs.declared.refusal.Kept.TheVariants as K
use Rattle.lu_image_store.specs.Versions.{Versions, old_extent, new_extent}
use Rattle.lu_image_store.specs.Paths.{place_image}
use Rattle.lu_image_store.specs.Faults.{Gives}
use Rattle.lu_image_store.specs.Pointers.{Context}
use Rattle.lu_image_store.specs.Values.{in_form, form_image, image_of}
use Rattle.lu_image_store.specs.Needed.{needed_objects}
use Rattle.lu_image_store.specs.Stores.{Makes, context_of, heap_of, image_from}
use Rattle.lu_image_store.specs.Places.{HandledPlace, handled_places}

-- why there is no handled image: a refusal, or a trap in the call of that number, from 1
pub data Stop : Type 0 where
  refuses : Refusal → Stop
  traps : (number : ℕ) → Trap → Stop

abbrev pub Handles : Type 0
Handles = Result Store Stop

-- a call of a handler: the old place, the fields of the old form and its struct, and the new place
pub record PlaceCall : Type 0 where
  pub object : ℕ
  pub path : List Step
  pub function : ℕ
  pub form : ℕ
  pub fields : List Value
  pub new_object : ℕ
  pub new_offset : ℕ

abbrev pub or_none : Gives (List Value) → List Value
or_none (Ok vs) = vs
or_none (Err f) = []

-- the fields of the old form of a handled place; there is no fault where the store has an image
abbrev pub form_fields : Context → HandledPlace → List Value
form_fields c place = or_none (form_image c.versions (λ t. image_of c t in_form) place.handler.structure place.handler.form place.fields)

abbrev pub new_offset_of : Context → ℕ → Object → List Step → ℕ
new_offset_of c k x path =
    unwrap_or (then_option (old_extent c.versions k x) (λ e. then_option (new_extent c.versions k x) (λ d. then_option (place_image c.versions e d path) (λ to. Some to.offset)))) 0

abbrev pub offset_of : Context → ℕ → List Step → ℕ
offset_of c k path = option_map_or (λ x. new_offset_of c k x path) (slice_get c.store.objects k) 0

abbrev pub call_at : Context → ℕ → HandledPlace → PlaceCall
call_at c k place = record {
  object = k;
  path = place.path;
  function = place.handler.function;
  form = place.handler.form;
  fields = form_fields c place;
  new_object = c.number k;
  new_offset = offset_of c k place.path;
}

-- the calls of all handled places of the needed objects, in order
abbrev pub calls_of : Context → List ℕ → List PlaceCall
calls_of c needed = flat_map (λ k. map (call_at c k) (handled_places c.versions c.store k)) needed

abbrev pub is_struct : ℕ → Ty → Bool
is_struct s (T.Struct r) = nat_eq r s
is_struct s _ = false

-- the number of a struct's type
abbrev pub struct_type : Parts → ℕ → ℕ
struct_type p s = unwrap_or (position (is_struct s) p.types) 0

abbrev pub temporary : Parts → ℕ → List Value → Object
temporary p form fields = record {
  kind = Temporary;
  elem = struct_type p form;
  count = 1;
  elements = Some (Struct fields ∷ []);
}

abbrev pub with_none : ℕ → Result Store Trap → Handles
with_none number (Ok next) = Ok next
with_none number (Err t) = Err (traps number t)

-- after a call the globals of messages are zero, and its sends are dropped
abbrev pub after_call : ℕ → Ending → Handles
after_call number (Returned result next sends ticks) = with_none number (with_no_messages next)
after_call number (Trapped t ticks) = Err (traps number t)
after_call number Starved = Err (traps number BadCode)

abbrev pub call_from : Program → World → ℕ → ℕ → List Value → Store → Handles
call_from p world number f args next = after_call number (call p world next f args CALL_TICKS)

-- an object is dead from now on
abbrev pub without : ℕ → Store → Store
without o next = option_map_or (λ x. with_object next o (with_elements x None)) (slice_get next.objects o) next

-- a handler's call with the temporary as last object of the store
abbrev pub call_with_form : Program → World → ℕ → PlaceCall → Store → Object → Handles
call_with_form p world number d next form =
    then_do (call_from p world number d.function (Pointer (length next.objects) 0 ∷ Pointer d.new_object d.new_offset ∷ []) (append_object next form)) (λ after. Ok (without (length next.objects) after))

abbrev pub no_room : PlaceCall → Stop
no_room d = refuses (record { why = W.HeapLimit; object = d.object; path = d.path; kept = K.Nothing })

abbrev pub call_if_room : Program → World → ℕ → PlaceCall → Store → Object → Handles
call_if_room p world number d next form =
    if has_room p.types next form then call_with_form p world number d next form else Err (no_room d)

abbrev pub handle : Program → World → ℕ → PlaceCall → Store → Handles
handle p world number d next = call_if_room p world number d next (temporary p.types d.form d.fields)

-- the function that is called last, if there is one
abbrev pub call_last : Program → World → ℕ → Option ℕ → Store → Handles
call_last p world number None next = Ok next
call_last p world number (Some f) next = call_from p world number f [] next

-- the calls in order from that number on, and the last one
abbrev pub handle_all : Program → World → Option ℕ → ℕ → List PlaceCall → Store → Handles
handle_all p world after number [] next = call_last p world number after next
handle_all p world after number (d ∷ ds) next =
    then_do (handle p world number d next) (handle_all p world after (suc number) ds)

abbrev pub or_refusal : Makes → Handles
or_refusal (Ok next) = Ok next
or_refusal (Err r) = Err (refuses r)

abbrev pub handled_from : Versions → Program → World → Store → List ℕ → Handles
handled_from m p world store needed =
    then_do (or_refusal (image_from m store (initial_store p) needed)) (handle_all p world m.pairing.after 1 (calls_of (context_of m store (heap_of store needed)) needed))

-- The image of a store, then a call for each handled place, and the last call. `p` is the new program
abbrev pub handled_image : Versions → Program → World → Store → Handles
handled_image m p world store = handled_from m p world store (needed_objects m store)

abbrev pub handler_units : Versions → Store → List ℕ → ℕ
handler_units m store needed =
    length (flat_map (handled_places m store) needed) + (if is_some m.pairing.after then 1 else 0)

abbrev pub units_from : Versions → Store → List ℕ → ℕ
units_from m store needed = 2 * length needed + handler_units m store needed + 1

-- the units of an update that is not refused: each needed object is walked and moved, each call is made, and one commits
abbrev pub units : Versions → Store → ℕ
units m store = units_from m store (needed_objects m store)
