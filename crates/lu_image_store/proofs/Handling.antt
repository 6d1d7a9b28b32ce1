-- Structs with handlers: the old forms, the calls, and the last call.
use Rattle.std.proofs.Common.{◌≡◌, refl, ℕ, pos, List, [], ◌∷◌, Some, None, Ok, Err}
use Rattle.c_types.specs.declared.parts.TagDef.{TagDef}
use Rattle.c_types.specs.declared.parts.Ty.{Ty}
use Rattle.c_types.specs.declared.parts.Ty.TheVariants as T
use Rattle.c_types.specs.declared.parts.IntKind.TheVariants as I
use Rattle.c_types.specs.declared.path.Step.TheVariants.{Index, Field, Member}
use Rattle.src_tree.specs.declared.value.Value.TheBlock as V
use Rattle.src_tree.specs.declared.value.Value.{Value, Int, Null, Pointer, Function, Struct, Array, Union}
use Rattle.src_tree.specs.declared.value.Object.{Object}
use Rattle.src_tree.specs.declared.program.Program.{Program}
use Rattle.lu_image.specs.declared.refusal.Why.TheVariants as W
use Rattle.lu_image.specs.declared.refusal.Kept.TheVariants as K
use Rattle.lu_image_store.specs.Stores.{store_image}
use Rattle.lu_image_store.proofs.Samples.{field, tag, parts, program, global, function, versions, int, zeros, variable, one, store, moves_to, refuses}
use Rattle.lu_base.specs.declared.trap.Trap.TheVariants as X
use Rattle.src_tree.specs.declared.expr.ExprKind.TheBlock as E
use Rattle.src_tree.specs.declared.stmt.TypedStmt.TheBlock as S
use Rattle.src_tree.specs.declared.expr.TypedExpr.{TypedExpr}
use Rattle.src_tree.specs.declared.expr.TypedPlace.{TypedPlace}
use Rattle.src_tree.specs.declared.expr.ExprKind.{ExprKind, Number, Local, Load, AddressOf, Binary}
use Rattle.src_tree.specs.declared.expr.BinaryOperator.TheVariants as B
use Rattle.src_tree.specs.declared.expr.PlaceKind.{PlaceKind, Global, Arrow, Element, Field as Field_of}
use Rattle.src_tree.specs.declared.stmt.Rhs.TheVariants.{Value as Plain}
use Rattle.src_tree.specs.declared.stmt.TypedStmt.{TypedStmt, Assign}
use Rattle.src_tree.specs.declared.value.ObjectKind.TheVariants as O
use Rattle.lu_base.specs.declared.world.World.{World}
use Rattle.src_meaning.specs.Initial.{initial_store}
use Rattle.lu_image.specs.declared.handler.Handler.{Handler}
use Rattle.lu_image_store.specs.Versions.{Versions}
use Rattle.lu_image_store.specs.Handled.{Handles, traps, handled_image, units}

abbrev pub world : World
world = record { own = pos 1; servers = pos 1 ∷ [] }

abbrev pub with_handler : Handler → Versions → Versions
with_handler h m = record m { pairing = record m.pairing { handlers = h ∷ [] } }

abbrev pub with_last : ℕ → Versions → Versions
with_last f m = record m { pairing = record m.pairing { after = Some f } }

abbrev pub expr : ℕ → ExprKind → TypedExpr
expr t kind = record { ty = t; kind = kind }

abbrev at : ℕ → PlaceKind → TypedPlace
at t kind = record { ty = t; kind = kind }

abbrev set : TypedPlace → TypedExpr → TypedStmt
set q e = Assign q (Plain e)

-- struct e { int x; } t[3]
abbrev pub old_table : Program
old_table = program (parts (T.Struct 1 ∷ T.Array 3 3 ∷ []) (tag 12 (field 31 0 ∷ []) ∷ []) []) (global 27 4 ∷ []) [] []

-- struct e { int x; int y; } t[3]; struct o { int x; }; void u(struct o *, struct e *) with this body
abbrev pub new_table : List TypedStmt → Program
new_table body =
    program (parts (T.Struct 1 ∷ T.Array 3 3 ∷ T.Struct 2 ∷ T.Pointer 5 ∷ T.Pointer 3 ∷ []) (tag 12 (field 31 0 ∷ field 32 0 ∷ []) ∷ tag 22 (field 31 0 ∷ []) ∷ []) []) (global 27 4 ∷ []) (record { name = 28; params = 6 ∷ 7 ∷ []; ret = None; locals = []; body = body } ∷ []) []

abbrev old_x : TypedExpr
old_x = expr 0 (Load (at 0 (Field_of (at 5 (Arrow (expr 6 (Local 0)))) 0)))

abbrev new_field : ℕ → TypedPlace
new_field k = at 0 (Field_of (at 3 (Arrow (expr 7 (Local 1)))) k)

-- w->x = o->x; w->y = 10 / o->x, or o->x + o->x
abbrev divides : List TypedStmt
divides = set (new_field 0) old_x ∷ set (new_field 1) (expr 0 (Binary B.Divide (expr 0 (Number (pos 10))) old_x)) ∷ []

abbrev pub doubles : List TypedStmt
doubles = set (new_field 0) old_x ∷ set (new_field 1) (expr 0 (Binary B.Add old_x old_x)) ∷ []

abbrev pub handler : Handler
handler = record { structure = 1; form = 2; function = 0 }

abbrev pub single : ℕ → Value
single x = Struct (int x ∷ [])

abbrev pub double : ℕ → ℕ → Value
double x y = Struct (int x ∷ int y ∷ [])

abbrev pub table : List Object
table = variable 3 (single 5 ∷ single 0 ∷ single 7 ∷ []) ∷ []

abbrev handled : Program → Handles
handled new = handled_image (with_handler handler (versions old_table new [])) new world (store table)

-- before the calls the places have the base
bases : store_image (with_handler handler (versions old_table (new_table doubles) [])) (store table) (initial_store (new_table doubles))
    ≡ moves_to (variable 3 (double 0 0 ∷ double 0 0 ∷ double 0 0 ∷ []) ∷ [])
unfolding V.shape-the_row-Value-0 V.hidden-the_row-Value-0 V.shown-the_row-Value-0 V.shape-the_row-Value-1 V.hidden-the_row-Value-1 V.shown-the_row-Value-1 denote.Hole.Carrier.hidden Rattle.src_tree.specs.declared.value.Value.TheViews.out-Value denote.Hole.Carrier.out denote.Hole.Carrier.shown E.shape-the_row-TypedExpr-1 E.hidden-the_row-TypedExpr-1 E.shape-the_row-TypedPlace-0 E.hidden-the_row-TypedPlace-0 S.shape-the_row-TypedStmt-0 S.hidden-the_row-TypedStmt-0 S.shape-the_row-TypedStmt-1 S.hidden-the_row-TypedStmt-1
bases = refl

abbrev freed_form : Object
freed_form = record { kind = O.Temporary; elem = 5; count = 1; elements = None }

doubled : handled (new_table doubles) ≡ Ok (store (variable 3 (double 5 10 ∷ double 0 0 ∷ double 7 14 ∷ []) ∷ freed_form ∷ freed_form ∷ freed_form ∷ []))
unfolding V.shape-the_row-Value-0 V.hidden-the_row-Value-0 V.shown-the_row-Value-0 V.shape-the_row-Value-1 V.hidden-the_row-Value-1 V.shown-the_row-Value-1 denote.Hole.Carrier.hidden Rattle.src_tree.specs.declared.value.Value.TheViews.out-Value denote.Hole.Carrier.out denote.Hole.Carrier.shown E.shape-the_row-TypedExpr-1 E.hidden-the_row-TypedExpr-1 E.shape-the_row-TypedPlace-0 E.hidden-the_row-TypedPlace-0 S.shape-the_row-TypedStmt-0 S.hidden-the_row-TypedStmt-0 S.shape-the_row-TypedStmt-1 S.hidden-the_row-TypedStmt-1
doubled = refl

second_traps : handled (new_table divides) ≡ Err (traps 2 X.DivZero)
unfolding V.shape-the_row-Value-0 V.hidden-the_row-Value-0 V.shown-the_row-Value-0 V.shape-the_row-Value-1 V.hidden-the_row-Value-1 V.shown-the_row-Value-1 denote.Hole.Carrier.hidden Rattle.src_tree.specs.declared.value.Value.TheViews.out-Value denote.Hole.Carrier.out denote.Hole.Carrier.shown E.shape-the_row-TypedExpr-1 E.hidden-the_row-TypedExpr-1 E.shape-the_row-TypedPlace-0 E.hidden-the_row-TypedPlace-0 S.shape-the_row-TypedStmt-0 S.hidden-the_row-TypedStmt-0 S.shape-the_row-TypedStmt-1 S.hidden-the_row-TypedStmt-1
second_traps = refl

-- 3 objects, each walked and moved, 3 calls, and the commit
counted : units (with_handler handler (versions old_table (new_table doubles) [])) (store table) ≡ 10
unfolding V.shape-the_row-Value-0 V.hidden-the_row-Value-0 V.shown-the_row-Value-0 V.shape-the_row-Value-1 V.hidden-the_row-Value-1 V.shown-the_row-Value-1 denote.Hole.Carrier.hidden Rattle.src_tree.specs.declared.value.Value.TheViews.out-Value denote.Hole.Carrier.out denote.Hole.Carrier.shown E.shape-the_row-TypedExpr-1 E.hidden-the_row-TypedExpr-1 E.shape-the_row-TypedPlace-0 E.hidden-the_row-TypedPlace-0 S.shape-the_row-TypedStmt-0 S.hidden-the_row-TypedStmt-0 S.shape-the_row-TypedStmt-1 S.hidden-the_row-TypedStmt-1
counted = refl

-- an integer of the old form that is too wide
abbrev wide_table : Program
wide_table =
    program (parts (T.Struct 1 ∷ T.Array 3 3 ∷ T.Int I.LongLong ∷ []) (tag 12 (field 31 5 ∷ []) ∷ []) []) (global 27 4 ∷ []) [] []

form_too_wide : store_image (with_handler handler (versions wide_table (new_table doubles) [])) (store (variable 3 (single 5 ∷ single 4294967296 ∷ single 7 ∷ []) ∷ [])) (initial_store (new_table doubles))
    ≡ refuses W.Narrow 2 (Index 1 ∷ Field 0 ∷ []) (K.Int (pos 4294967296))
unfolding V.shape-the_row-Value-0 V.hidden-the_row-Value-0 V.shown-the_row-Value-0 V.shape-the_row-Value-1 V.hidden-the_row-Value-1 V.shown-the_row-Value-1 denote.Hole.Carrier.hidden Rattle.src_tree.specs.declared.value.Value.TheViews.out-Value denote.Hole.Carrier.out denote.Hole.Carrier.shown E.shape-the_row-TypedExpr-1 E.hidden-the_row-TypedExpr-1 E.shape-the_row-TypedPlace-0 E.hidden-the_row-TypedPlace-0 S.shape-the_row-TypedStmt-0 S.hidden-the_row-TypedStmt-0 S.shape-the_row-TypedStmt-1 S.hidden-the_row-TypedStmt-1
form_too_wide = refl

-- union w { int i; struct e s; } g
abbrev in_union : List Ty → List TagDef → Program
in_union more structs =
    program (parts (T.Struct 1 ∷ T.Union 0 ∷ more) structs (tag 30 (field 16 0 ∷ field 26 3 ∷ []) ∷ [])) (global 14 4 ∷ []) [] []

abbrev old_in_union : Program
old_in_union = in_union [] (tag 12 (field 31 0 ∷ []) ∷ [])

abbrev new_in_union : Program
new_in_union =
    in_union (T.Struct 2 ∷ []) (tag 12 (field 31 0 ∷ field 32 0 ∷ []) ∷ tag 22 (field 31 0 ∷ []) ∷ [])

handled_in_union : store_image (with_handler handler (versions old_in_union new_in_union [])) (store (one 4 (Union 1 (single 3)) ∷ [])) (initial_store new_in_union)
    ≡ refuses W.HandledInUnion 2 (Index 0 ∷ Member 1 ∷ []) K.Nothing
unfolding V.shape-the_row-Value-0 V.hidden-the_row-Value-0 V.shown-the_row-Value-0 V.shape-the_row-Value-1 V.hidden-the_row-Value-1 V.shown-the_row-Value-1 denote.Hole.Carrier.hidden Rattle.src_tree.specs.declared.value.Value.TheViews.out-Value denote.Hole.Carrier.out denote.Hole.Carrier.shown E.shape-the_row-TypedExpr-1 E.hidden-the_row-TypedExpr-1 E.shape-the_row-TypedPlace-0 E.hidden-the_row-TypedPlace-0 S.shape-the_row-TypedStmt-0 S.hidden-the_row-TypedStmt-0 S.shape-the_row-TypedStmt-1 S.hidden-the_row-TypedStmt-1
handled_in_union = refl

-- int t[16]; int *s; void f(void) { s = &t[16]; }
abbrev stopped : Program
stopped =
    program (parts (T.Array 0 16 ∷ T.Pointer 0 ∷ T.Int I.LongLong ∷ []) [] []) (global 27 3 ∷ global 26 4 ∷ []) (record (function 13) { body = set (at 4 (Global 3)) (expr 4 (AddressOf (at 0 (Element (at 3 (Global 2)) (expr 5 (Number (pos 16))))))) ∷ [] } ∷ []) []

abbrev limited : Program
limited = program (parts (T.Array 0 8 ∷ T.Pointer 0 ∷ []) [] []) (global 27 3 ∷ global 19 4 ∷ []) [] []

abbrev limits : List Object
limits = variable 0 (zeros 8) ∷ one 4 (Pointer 2 32) ∷ []

last_call : handled_image (with_last 0 (versions limited stopped [])) stopped world (store limits)
    ≡ Ok (store (variable 0 (zeros 16) ∷ one 4 (Pointer 2 64) ∷ []))
unfolding V.shape-the_row-Value-0 V.hidden-the_row-Value-0 V.shown-the_row-Value-0 V.shape-the_row-Value-1 V.hidden-the_row-Value-1 V.shown-the_row-Value-1 denote.Hole.Carrier.hidden Rattle.src_tree.specs.declared.value.Value.TheViews.out-Value denote.Hole.Carrier.out denote.Hole.Carrier.shown E.shape-the_row-TypedExpr-1 E.hidden-the_row-TypedExpr-1 E.shape-the_row-TypedPlace-0 E.hidden-the_row-TypedPlace-0 S.shape-the_row-TypedStmt-0 S.hidden-the_row-TypedStmt-0 S.shape-the_row-TypedStmt-1 S.hidden-the_row-TypedStmt-1
last_call = refl

last_counted : units (with_last 0 (versions limited stopped [])) (store limits) ≡ 8
unfolding V.shape-the_row-Value-0 V.hidden-the_row-Value-0 V.shown-the_row-Value-0 V.shape-the_row-Value-1 V.hidden-the_row-Value-1 V.shown-the_row-Value-1 denote.Hole.Carrier.hidden Rattle.src_tree.specs.declared.value.Value.TheViews.out-Value denote.Hole.Carrier.out denote.Hole.Carrier.shown E.shape-the_row-TypedExpr-1 E.hidden-the_row-TypedExpr-1 E.shape-the_row-TypedPlace-0 E.hidden-the_row-TypedPlace-0 S.shape-the_row-TypedStmt-0 S.hidden-the_row-TypedStmt-0 S.shape-the_row-TypedStmt-1 S.hidden-the_row-TypedStmt-1
last_counted = refl
