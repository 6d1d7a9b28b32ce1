-- Calls that have no room or no end, which places are handled, and what objects of sites without pair carry.
use Rattle.std.proofs.Common.{◌≡◌, ◌∙◌, refl, ap, sym, ℕ, zero, suc, ◌<◌, pos, List, [], ◌∷◌, None, Ok, Err, arith}
use Rattle.std.specs.Prelude.{codes, length, if◌then◌else◌, Bool, true, false}
use Rattle.std.specs.Fmt.{digits}
use Rattle.lu_spec.specs.Then.{then_do}
use Rattle.c_types.specs.declared.parts.TagDef.{TagDef}
use Rattle.c_types.specs.declared.parts.Ty.TheVariants as T
use Rattle.c_types.specs.declared.path.Step.TheVariants.{Index, Field, Member}
use Rattle.lu_base.specs.declared.limits.TheConstants.{CALL_TICKS}
use Rattle.lu_base.specs.declared.trap.Trap.TheVariants as X
use Rattle.src_tree.specs.declared.value.Value.TheBlock as V
use Rattle.src_tree.specs.declared.value.Value.{Value, Int, Null, Pointer, Function, Struct, Array, Union}
use Rattle.src_tree.specs.declared.value.Object.{Object}
use Rattle.src_tree.specs.declared.value.Store.{Store}
use Rattle.src_tree.specs.declared.expr.ExprKind.TheBlock as E
use Rattle.src_tree.specs.declared.expr.ExprKind.{Number}
use Rattle.src_tree.specs.declared.stmt.TypedStmt.TheBlock as S
use Rattle.src_tree.specs.declared.stmt.TypedStmt.{TypedStmt, While, Block}
use Rattle.src_tree.specs.declared.program.Function as Text
use Rattle.src_tree.specs.declared.program.Program.{Program}
use Rattle.src_tree.specs.declared.program.Site.{Site}
use Rattle.src_meaning.specs.Call.{State, Trapped, Goes_on, Leaves, Context, go_on, test_in, turns, run_body, fall_off, context_of, call_with, call}
use Rattle.src_meaning.specs.Initial.{initial_store}
use Rattle.src_meaning.specs.Objects.{append_object, has_room}
use Rattle.lu_image.specs.declared.rename.Table.TheVariants as R
use Rattle.lu_image.specs.declared.refusal.Why.TheVariants as W
use Rattle.lu_image.specs.declared.refusal.Kept.TheVariants as K
use Rattle.lu_image_store.specs.Versions.{Versions}
use Rattle.lu_image_store.specs.Needed.{needed_objects}
use Rattle.lu_image_store.specs.Stores.{store_image, context_of as moving, heap_of, image_from}
use Rattle.lu_image_store.specs.Handled.{Handles, PlaceCall, refuses as stops, traps, temporary, calls_of, after_call, without, call_with_form, no_room, handle_all, or_refusal, handled_image, units}
use Rattle.lu_image_store.proofs.Samples.{field, tag, parts, program, global, function, site, versions, int, variable, one, heap, store, refuses, update}
use Rattle.lu_image_store.proofs.Handling.{world, with_handler, old_table, new_table, doubles, handler, single, double, table, expr}

-- so many chars on the heap, of which only the count stands here
abbrev counted : ℕ → Object
counted n = record (heap 0 3 []) { count = n }

-- int, int[6], struct message, char; struct e at 4, its array, struct o and the pointers
abbrev crowded : ℕ → Store
crowded n = store (variable 3 (double 0 0 ∷ double 0 0 ∷ double 0 0 ∷ []) ∷ counted n ∷ [])

abbrev moving_table : List TypedStmt → Versions
moving_table body = with_handler handler (versions old_table (new_table body) [])

abbrev table_calls : List TypedStmt → List PlaceCall
table_calls body = calls_of (moving (moving_table body) (store table) []) (0 ∷ 1 ∷ 2 ∷ [])

-- elements of 8 bytes: 524288 of them fill the heap, and no temporary has room
no_room_for_form : handle_all (new_table doubles) world None 1 (table_calls doubles) (crowded 524288)
    ≡ Err (stops (record { why = W.HeapLimit; object = 2; path = Index 0 ∷ []; kept = K.Nothing }))
unfolding V.shape-the_row-Value-0 V.hidden-the_row-Value-0 V.shown-the_row-Value-0 V.shape-the_row-Value-1 V.hidden-the_row-Value-1 V.shown-the_row-Value-1 denote.Hole.Carrier.hidden Rattle.src_tree.specs.declared.value.Value.TheViews.out-Value denote.Hole.Carrier.out denote.Hole.Carrier.shown E.shape-the_row-TypedExpr-1 E.hidden-the_row-TypedExpr-1 E.shape-the_row-TypedPlace-0 E.hidden-the_row-TypedPlace-0 S.shape-the_row-TypedStmt-0 S.hidden-the_row-TypedStmt-0 S.shape-the_row-TypedStmt-1 S.hidden-the_row-TypedStmt-1
no_room_for_form = refl

-- with one element less there is room for one after the other
abbrev freed_form : Object
freed_form = record { kind = Rattle.src_tree.specs.declared.value.ObjectKind.TheVariants.Temporary; elem = 5; count = 1; elements = None }

room_for_forms : handle_all (new_table doubles) world None 1 (table_calls doubles) (crowded 524287)
    ≡ Ok (store (variable 3 (double 5 10 ∷ double 0 0 ∷ double 7 14 ∷ []) ∷ counted 524287 ∷ freed_form ∷ freed_form ∷ freed_form ∷ []))
unfolding V.shape-the_row-Value-0 V.hidden-the_row-Value-0 V.shown-the_row-Value-0 V.shape-the_row-Value-1 V.hidden-the_row-Value-1 V.shown-the_row-Value-1 denote.Hole.Carrier.hidden Rattle.src_tree.specs.declared.value.Value.TheViews.out-Value denote.Hole.Carrier.out denote.Hole.Carrier.shown E.shape-the_row-TypedExpr-1 E.hidden-the_row-TypedExpr-1 E.shape-the_row-TypedPlace-0 E.hidden-the_row-TypedPlace-0 S.shape-the_row-TypedStmt-0 S.hidden-the_row-TypedStmt-0 S.shape-the_row-TypedStmt-1 S.hidden-the_row-TypedStmt-1
room_for_forms = refl

-- while (1) { } uses up what is left
abbrev endless : TypedStmt
endless = While (expr 0 (Number (pos 1))) (Block [])

forever : (c : Context) (n t : ℕ) (s : State) → t < n → turns n (test_in c (expr 0 (Number (pos 1)))) (λ s. Goes_on s) Goes_on (record s { ticks = t }) ≡ Leaves (Trapped X.Budget 0)
forever c zero t s h = absurd (omega arith)
forever c (suc n) zero s h = refl
forever c (suc n) (suc t) s h = forever c n t s (omega (arith, h))

endless_traps : (t : ℕ) (next : Store) (a b : Value) → call (new_table (endless ∷ [])) world next 0 (a ∷ b ∷ []) (suc t) ≡ Trapped X.Budget 0
unfolding V.shape-the_row-Value-0 V.hidden-the_row-Value-0 V.shown-the_row-Value-0 V.shape-the_row-Value-1 V.hidden-the_row-Value-1 V.shown-the_row-Value-1 denote.Hole.Carrier.hidden Rattle.src_tree.specs.declared.value.Value.TheViews.out-Value denote.Hole.Carrier.out denote.Hole.Carrier.shown E.shape-the_row-TypedExpr-1 E.hidden-the_row-TypedExpr-1 E.shape-the_row-TypedPlace-0 E.hidden-the_row-TypedPlace-0 S.shape-the_row-TypedStmt-0 S.hidden-the_row-TypedStmt-0 S.shape-the_row-TypedStmt-1 S.hidden-the_row-TypedStmt-1
endless_traps t next a b =
    let p = new_table (endless ∷ []) in
    let f : Text.Function = record { name = 28; params = 6 ∷ 7 ∷ []; ret = None; locals = []; body = endless ∷ [] } in
    let c = context_of p world f (call_with p world (suc t) 1) (suc (suc t)) in
    ap (λ o. fall_off p.types None (go_on o (run_body [] c))) (forever c (suc (suc t)) t (record { store = next; locals = a ∷ b ∷ []; sends = []; ticks = t }) (omega arith))

-- where the first handler's call uses up its ticks, the update stops there
form_stops : (p : Program) (base : Store) (d : PlaceCall) (form : Object) (k : ℕ) → k ≡ CALL_TICKS → call p world (append_object base form) d.function (Pointer (length base.objects) 0 ∷ Pointer d.new_object d.new_offset ∷ []) k ≡ Trapped X.Budget 0 → call_with_form p world 1 d base form ≡ Err (traps 1 X.Budget)
form_stops p base d form k all starved =
    ap (λ e. then_do (after_call 1 e) (λ after. Ok (without (length base.objects) after))) (ap (call p world (append_object base form) d.function (Pointer (length base.objects) 0 ∷ Pointer d.new_object d.new_offset ∷ [])) (sym all) ∙ starved)

first_stops : (p : Program) (base : Store) (d : PlaceCall) (form : Object) (b : Bool) (rest : Store → Handles) → b ≡ true → call_with_form p world 1 d base form ≡ Err (traps 1 X.Budget) → then_do (if b then call_with_form p world 1 d base form else Err (no_room d)) rest ≡ Err (traps 1 X.Budget)
first_stops p base d form false rest room starved = absurd (cc)
first_stops p base d form true rest room starved = ap (λ h. then_do h rest) starved

calls_stop : (m : Versions) (p : Program) (base : Store) (calls ds : List PlaceCall) (d : PlaceCall) → calls ≡ d ∷ ds → has_room p.types base (temporary p.types d.form d.fields) ≡ true → call_with_form p world 1 d base (temporary p.types d.form d.fields) ≡ Err (traps 1 X.Budget) → handle_all p world m.pairing.after 1 calls base ≡ Err (traps 1 X.Budget)
calls_stop m p base calls ds d are room starved =
    ap (λ ds. handle_all p world m.pairing.after 1 ds base) are
    ∙ first_stops p base d (temporary p.types d.form d.fields) (has_room p.types base (temporary p.types d.form d.fields)) (handle_all p world m.pairing.after 2 ds) room starved

handled_stops : (m : Versions) (p : Program) (s base : Store) → image_from m s (initial_store p) (needed_objects m s) ≡ Ok base → handle_all p world m.pairing.after 1 (calls_of (moving m s (heap_of s (needed_objects m s))) (needed_objects m s)) base ≡ Err (traps 1 X.Budget) → handled_image m p world s ≡ Err (traps 1 X.Budget)
handled_stops m p s base moves stop =
    ap (λ r. then_do (or_refusal r) (handle_all p world m.pairing.after 1 (calls_of (moving m s (heap_of s (needed_objects m s))) (needed_objects m s)))) moves
    ∙ stop

abbrev bases : Store
bases = store (variable 3 (double 0 0 ∷ double 0 0 ∷ double 0 0 ∷ []) ∷ [])

abbrev first_call : PlaceCall
first_call = record {
  object = 2;
  path = Index 0 ∷ [];
  function = 0;
  form = 2;
  fields = int 5 ∷ [];
  new_object = 2;
  new_offset = 0;
}

abbrev later_calls : List PlaceCall
later_calls =
    record first_call { path = Index 1 ∷ []; fields = int 0 ∷ []; new_offset = 8 }
    ∷ record first_call { path = Index 2 ∷ []; fields = int 7 ∷ []; new_offset = 16 }
    ∷ []

endless_handler : handled_image (moving_table (endless ∷ [])) (new_table (endless ∷ [])) world (store table) ≡ Err (traps 1 X.Budget)
unfolding V.shape-the_row-Value-0 V.hidden-the_row-Value-0 V.shown-the_row-Value-0 V.shape-the_row-Value-1 V.hidden-the_row-Value-1 V.shown-the_row-Value-1 denote.Hole.Carrier.hidden Rattle.src_tree.specs.declared.value.Value.TheViews.out-Value denote.Hole.Carrier.out denote.Hole.Carrier.shown E.shape-the_row-TypedExpr-1 E.hidden-the_row-TypedExpr-1 E.shape-the_row-TypedPlace-0 E.hidden-the_row-TypedPlace-0 S.shape-the_row-TypedStmt-0 S.hidden-the_row-TypedStmt-0 S.shape-the_row-TypedStmt-1 S.hidden-the_row-TypedStmt-1
endless_handler =
    let p = new_table (endless ∷ []) in
    let m = moving_table (endless ∷ []) in
    let form = temporary p.types 2 (int 5 ∷ []) in
    handled_stops m p (store table) bases refl (calls_stop m p bases (calls_of (moving m (store table) (heap_of (store table) (needed_objects m (store table)))) (needed_objects m (store table))) later_calls first_call refl refl (form_stops p bases first_call form (suc 999999) refl (endless_traps 999999 (append_object bases form) (Pointer 3 0) (Pointer 2 0))))

-- no struct but that of messages: both its globals are handled places
abbrev plain : List TagDef → Program
plain structs =
    program (parts (Rattle.std.specs.Prelude.map (λ k. T.Struct 1) structs) structs []) [] [] []

message_handled : units (with_handler (record { structure = 0; form = 1; function = 0 }) (versions (plain []) (plain (tag 22 (field 2 0 ∷ []) ∷ [])) [])) (store []) ≡ 7
unfolding V.shape-the_row-Value-0 V.hidden-the_row-Value-0 V.shown-the_row-Value-0 V.shape-the_row-Value-1 V.hidden-the_row-Value-1 V.shown-the_row-Value-1 denote.Hole.Carrier.hidden Rattle.src_tree.specs.declared.value.Value.TheViews.out-Value denote.Hole.Carrier.out denote.Hole.Carrier.shown E.shape-the_row-TypedExpr-1 E.hidden-the_row-TypedExpr-1 E.shape-the_row-TypedPlace-0 E.hidden-the_row-TypedPlace-0 S.shape-the_row-TypedStmt-0 S.hidden-the_row-TypedStmt-0 S.shape-the_row-TypedStmt-1 S.hidden-the_row-TypedStmt-1
message_handled = refl

-- struct e { int *p; int *q; } *g, or no site: what an object of a site without pair carries, by the pair of its struct and
-- its old form
abbrev on_heap : List ℕ → List ℕ → Program
on_heap form sites =
    program (parts (T.Pointer 0 ∷ T.Struct 1 ∷ T.Pointer 4 ∷ T.Struct 2 ∷ []) (tag 12 (field 23 3 ∷ field 24 3 ∷ []) ∷ tag 22 (Rattle.std.specs.Prelude.map (λ f. field f 3) form) ∷ []) []) (global 14 5 ∷ []) (function 18 ∷ []) (Rattle.std.specs.Prelude.map (λ t. site 0 0 t) sites)

abbrev unpaired_struct : List Object
unpaired_struct = one 5 (Pointer 3 0) ∷ heap 0 4 (Struct (Pointer 4 0 ∷ Pointer 5 0 ∷ []) ∷ []) ∷ heap 0 0 (int 1 ∷ []) ∷ heap 0 0 (int 2 ∷ []) ∷ []

unpaired_carries : needed_objects (versions (on_heap (24 ∷ []) (4 ∷ [])) (on_heap (24 ∷ []) []) []) (store unpaired_struct) ≡ 0 ∷ 1 ∷ 2 ∷ 3 ∷ 4 ∷ 5 ∷ []
unfolding V.shape-the_row-Value-0 V.hidden-the_row-Value-0 V.shown-the_row-Value-0 V.shape-the_row-Value-1 V.hidden-the_row-Value-1 V.shown-the_row-Value-1 denote.Hole.Carrier.hidden Rattle.src_tree.specs.declared.value.Value.TheViews.out-Value denote.Hole.Carrier.out denote.Hole.Carrier.shown E.shape-the_row-TypedExpr-1 E.hidden-the_row-TypedExpr-1 E.shape-the_row-TypedPlace-0 E.hidden-the_row-TypedPlace-0 S.shape-the_row-TypedStmt-0 S.hidden-the_row-TypedStmt-0 S.shape-the_row-TypedStmt-1 S.hidden-the_row-TypedStmt-1 digits
unpaired_carries = refl

unpaired_form_carries : needed_objects (with_handler handler (versions (on_heap (24 ∷ []) (4 ∷ [])) (on_heap (24 ∷ []) []) [])) (store unpaired_struct) ≡ 0 ∷ 1 ∷ 2 ∷ 3 ∷ 5 ∷ []
unfolding V.shape-the_row-Value-0 V.hidden-the_row-Value-0 V.shown-the_row-Value-0 V.shape-the_row-Value-1 V.hidden-the_row-Value-1 V.shown-the_row-Value-1 denote.Hole.Carrier.hidden Rattle.src_tree.specs.declared.value.Value.TheViews.out-Value denote.Hole.Carrier.out denote.Hole.Carrier.shown E.shape-the_row-TypedExpr-1 E.hidden-the_row-TypedExpr-1 E.shape-the_row-TypedPlace-0 E.hidden-the_row-TypedPlace-0 S.shape-the_row-TypedStmt-0 S.hidden-the_row-TypedStmt-0 S.shape-the_row-TypedStmt-1 S.hidden-the_row-TypedStmt-1 digits
unpaired_form_carries = refl

unpaired_refused : update (on_heap (24 ∷ []) (4 ∷ [])) (on_heap (24 ∷ []) []) [] unpaired_struct ≡ refuses W.UnpairedSite 2 (Index 0 ∷ []) (K.Site 0)
unfolding V.shape-the_row-Value-0 V.hidden-the_row-Value-0 V.shown-the_row-Value-0 V.shape-the_row-Value-1 V.hidden-the_row-Value-1 V.shown-the_row-Value-1 denote.Hole.Carrier.hidden Rattle.src_tree.specs.declared.value.Value.TheViews.out-Value denote.Hole.Carrier.out denote.Hole.Carrier.shown E.shape-the_row-TypedExpr-1 E.hidden-the_row-TypedExpr-1 E.shape-the_row-TypedPlace-0 E.hidden-the_row-TypedPlace-0 S.shape-the_row-TypedStmt-0 S.hidden-the_row-TypedStmt-0 S.shape-the_row-TypedStmt-1 S.hidden-the_row-TypedStmt-1 digits
unpaired_refused = refl

-- int **g to an object of int *, whose site has no pair: a pointer at the top is carried
abbrev pointers : List ℕ → Program
pointers sites =
    program (parts (T.Pointer 0 ∷ T.Pointer 3 ∷ []) [] []) (global 14 4 ∷ []) (function 18 ∷ []) (Rattle.std.specs.Prelude.map (λ t. site 0 0 t) sites)

unpaired_pointer : needed_objects (versions (pointers (3 ∷ [])) (pointers []) []) (store (one 4 (Pointer 3 0) ∷ heap 0 3 (Pointer 4 0 ∷ []) ∷ heap 0 0 (int 1 ∷ []) ∷ [])) ≡ 0 ∷ 1 ∷ 2 ∷ 3 ∷ 4 ∷ []
unfolding V.shape-the_row-Value-0 V.hidden-the_row-Value-0 V.shown-the_row-Value-0 V.shape-the_row-Value-1 V.hidden-the_row-Value-1 V.shown-the_row-Value-1 denote.Hole.Carrier.hidden Rattle.src_tree.specs.declared.value.Value.TheViews.out-Value denote.Hole.Carrier.out denote.Hole.Carrier.shown E.shape-the_row-TypedExpr-1 E.hidden-the_row-TypedExpr-1 E.shape-the_row-TypedPlace-0 E.hidden-the_row-TypedPlace-0 S.shape-the_row-TypedStmt-0 S.hidden-the_row-TypedStmt-0 S.shape-the_row-TypedStmt-1 S.hidden-the_row-TypedStmt-1 digits
unpaired_pointer = refl

-- an object of a site without pair is refused in its own turn, before a later object that leads to it
abbrev two_sites : List Site → Program
two_sites sites =
    program (parts (T.Pointer 0 ∷ T.Pointer 3 ∷ []) [] []) (global 14 4 ∷ []) (function 18 ∷ []) sites

own_turn : update (two_sites (site 0 0 0 ∷ site 0 1 3 ∷ [])) (two_sites (site 0 0 3 ∷ [])) (record { table = R.Site; old = codes "k#1"; new = codes "k#0" } ∷ []) (one 4 (Pointer 4 0) ∷ heap 0 0 (int 1 ∷ []) ∷ heap 1 3 (Pointer 3 0 ∷ []) ∷ [])
    ≡ refuses W.UnpairedSite 3 [] (K.Site 0)
unfolding V.shape-the_row-Value-0 V.hidden-the_row-Value-0 V.shown-the_row-Value-0 V.shape-the_row-Value-1 V.hidden-the_row-Value-1 V.shown-the_row-Value-1 denote.Hole.Carrier.hidden Rattle.src_tree.specs.declared.value.Value.TheViews.out-Value denote.Hole.Carrier.out denote.Hole.Carrier.shown E.shape-the_row-TypedExpr-1 E.hidden-the_row-TypedExpr-1 E.shape-the_row-TypedPlace-0 E.hidden-the_row-TypedPlace-0 S.shape-the_row-TypedStmt-0 S.hidden-the_row-TypedStmt-0 S.shape-the_row-TypedStmt-1 S.hidden-the_row-TypedStmt-1 digits
own_turn = refl

-- so is one whose types don't correspond, at its element 0
own_shape : update (two_sites (site 0 0 0 ∷ site 0 1 3 ∷ [])) (two_sites (site 0 0 3 ∷ site 0 1 3 ∷ [])) (record { table = R.Site; old = codes "k#0"; new = codes "k#0" } ∷ record { table = R.Site; old = codes "k#1"; new = codes "k#1" } ∷ []) (one 4 (Pointer 4 0) ∷ heap 0 0 (int 1 ∷ []) ∷ heap 1 3 (Pointer 3 0 ∷ []) ∷ [])
    ≡ refuses W.Shape 3 (Index 0 ∷ []) K.Nothing
unfolding V.shape-the_row-Value-0 V.hidden-the_row-Value-0 V.shown-the_row-Value-0 V.shape-the_row-Value-1 V.hidden-the_row-Value-1 V.shown-the_row-Value-1 denote.Hole.Carrier.hidden Rattle.src_tree.specs.declared.value.Value.TheViews.out-Value denote.Hole.Carrier.out denote.Hole.Carrier.shown E.shape-the_row-TypedExpr-1 E.hidden-the_row-TypedExpr-1 E.shape-the_row-TypedPlace-0 E.hidden-the_row-TypedPlace-0 S.shape-the_row-TypedStmt-0 S.hidden-the_row-TypedStmt-0 S.shape-the_row-TypedStmt-1 S.hidden-the_row-TypedStmt-1 digits
own_shape = refl

-- struct s { int a[2]; } g, where the elements become int *: refused at the array
abbrev arrays : ℕ → Program
arrays t =
    program (parts (T.Pointer 0 ∷ T.Array t 2 ∷ T.Struct 1 ∷ []) (tag 26 (field 8 4 ∷ []) ∷ []) []) (global 14 5 ∷ []) [] []

array_shape : update (arrays 0) (arrays 3) [] (one 5 (Struct (Array (int 1 ∷ int 2 ∷ []) ∷ [])) ∷ [])
    ≡ refuses W.Shape 2 (Index 0 ∷ Field 0 ∷ []) K.Nothing
unfolding V.shape-the_row-Value-0 V.hidden-the_row-Value-0 V.shown-the_row-Value-0 V.shape-the_row-Value-1 V.hidden-the_row-Value-1 V.shown-the_row-Value-1 denote.Hole.Carrier.hidden Rattle.src_tree.specs.declared.value.Value.TheViews.out-Value denote.Hole.Carrier.out denote.Hole.Carrier.shown E.shape-the_row-TypedExpr-1 E.hidden-the_row-TypedExpr-1 E.shape-the_row-TypedPlace-0 E.hidden-the_row-TypedPlace-0 S.shape-the_row-TypedStmt-0 S.hidden-the_row-TypedStmt-0 S.shape-the_row-TypedStmt-1 S.hidden-the_row-TypedStmt-1 digits
array_shape = refl

-- union w { int i; struct e s; } g, where s becomes a struct f: a handled struct of another shape
abbrev members : ℕ → Program
members t =
    program (parts (T.Struct 1 ∷ T.Struct 2 ∷ T.Union 0 ∷ []) (tag 12 (field 31 0 ∷ []) ∷ tag 13 (field 31 0 ∷ []) ∷ []) (tag 30 (field 16 0 ∷ field 26 t ∷ []) ∷ [])) (global 14 5 ∷ []) [] []

shape_first : store_image (with_handler (record { structure = 1; form = 2; function = 0 }) (versions (members 3) (members 4) [])) (store (one 5 (Union 1 (single 3)) ∷ [])) (initial_store (members 4))
    ≡ refuses W.Shape 2 (Index 0 ∷ Member 1 ∷ []) K.Nothing
unfolding V.shape-the_row-Value-0 V.hidden-the_row-Value-0 V.shown-the_row-Value-0 V.shape-the_row-Value-1 V.hidden-the_row-Value-1 V.shown-the_row-Value-1 denote.Hole.Carrier.hidden Rattle.src_tree.specs.declared.value.Value.TheViews.out-Value denote.Hole.Carrier.out denote.Hole.Carrier.shown E.shape-the_row-TypedExpr-1 E.hidden-the_row-TypedExpr-1 E.shape-the_row-TypedPlace-0 E.hidden-the_row-TypedPlace-0 S.shape-the_row-TypedStmt-0 S.hidden-the_row-TypedStmt-0 S.shape-the_row-TypedStmt-1 S.hidden-the_row-TypedStmt-1 digits
shape_first = refl
