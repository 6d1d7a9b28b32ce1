-- Unions, function pointers, pointers to void, and structs with handlers.
use Rattle.std.proofs.Common.{◌≡◌, refl, ℕ, List, [], ◌∷◌}
use Rattle.std.specs.Prelude.{codes, replicate, slice_set}
use Rattle.std.specs.Fmt.{digits}
use Rattle.c_types.specs.declared.parts.TagDef.{TagDef}
use Rattle.c_types.specs.declared.parts.Ty.TheVariants as T
use Rattle.c_types.specs.declared.parts.IntKind.TheVariants as I
use Rattle.c_types.specs.declared.path.Step.TheVariants.{Index, Field, Member}
use Rattle.src_tree.specs.declared.value.Value.TheBlock as V
use Rattle.src_tree.specs.declared.value.Value.{Value, Int, Null, Pointer, Function, Struct, Array, Union}
use Rattle.src_tree.specs.declared.value.Object.{Object}
use Rattle.src_tree.specs.declared.program.Program.{Program}
use Rattle.lu_image.specs.declared.refusal.Why.TheVariants as W
use Rattle.lu_image.specs.declared.refusal.Kept.TheVariants as K
use Rattle.lu_image_store.specs.Stores.{store_image}
use Rattle.lu_image_store.proofs.Samples.{field, tag, parts, program, global, function, site, versions, int, zeros, one, dead, store, moves_to, refuses, update}
use Rattle.lu_image.specs.declared.pairing.Dangling.TheVariants as D
use Rattle.lu_image_store.specs.Versions.{Versions}
use Rattle.src_meaning.specs.Initial.{initial_store}

-- union v { int i; int *p; }, or { int *p; int i; }, or { int i; char *q; }; struct i { int k; union v v; }; int x; struct i i
abbrev unions : TagDef → Program
unions u =
    program (parts (T.Pointer 0 ∷ T.Union 0 ∷ T.Struct 1 ∷ T.Int I.Char ∷ T.Pointer 6 ∷ []) (tag 16 (field 18 0 ∷ field 29 4 ∷ []) ∷ []) (u ∷ [])) (global 31 0 ∷ global 16 5 ∷ []) [] []

abbrev old_union : TagDef
old_union = tag 29 (field 16 0 ∷ field 23 3 ∷ [])

abbrev item : ℕ → Value → Object
item k body = one 5 (Struct (int 0 ∷ Union k body ∷ []))

reordered : update (unions old_union) (unions (tag 29 (field 23 3 ∷ field 16 0 ∷ []))) [] (one 0 (int 4) ∷ item 1 (Pointer 2 0) ∷ [])
    ≡ moves_to (one 0 (int 4) ∷ item 0 (Pointer 2 0) ∷ [])
unfolding V.shape-the_row-Value-0 V.hidden-the_row-Value-0 V.shown-the_row-Value-0 V.shape-the_row-Value-1 V.hidden-the_row-Value-1 V.shown-the_row-Value-1 denote.Hole.Carrier.hidden Rattle.src_tree.specs.declared.value.Value.TheViews.out-Value denote.Hole.Carrier.out denote.Hole.Carrier.shown
reordered = refl

member_gone : update (unions old_union) (unions (tag 29 (field 16 0 ∷ field 24 7 ∷ []))) [] (one 0 (int 4) ∷ item 1 (Pointer 2 0) ∷ [])
    ≡ refuses W.MemberGone 3 (Index 0 ∷ Field 1 ∷ []) (K.Member 1)
unfolding V.shape-the_row-Value-0 V.hidden-the_row-Value-0 V.shown-the_row-Value-0 V.shape-the_row-Value-1 V.hidden-the_row-Value-1 V.shown-the_row-Value-1 denote.Hole.Carrier.hidden Rattle.src_tree.specs.declared.value.Value.TheViews.out-Value denote.Hole.Carrier.out denote.Hole.Carrier.shown
member_gone = refl

-- a pointer in an active member, to a place that has no image
member_pointer : update (unions old_union) (unions old_union) [] (one 0 (int 4) ∷ item 1 (Pointer 2 2) ∷ [])
    ≡ refuses W.NoPlace 3 (Index 0 ∷ Field 1 ∷ Member 1 ∷ []) (K.Target 2 2)
unfolding V.shape-the_row-Value-0 V.hidden-the_row-Value-0 V.shown-the_row-Value-0 V.shape-the_row-Value-1 V.hidden-the_row-Value-1 V.shown-the_row-Value-1 denote.Hole.Carrier.hidden Rattle.src_tree.specs.declared.value.Value.TheViews.out-Value denote.Hole.Carrier.out denote.Hole.Carrier.shown
member_pointer = refl

-- void (*f)(void), to g
abbrev functions : List ℕ → Program
functions names =
    program (parts (T.Function 0 ∷ []) [] []) (global 13 3 ∷ []) (Rattle.std.specs.Prelude.map function names) []

kept_function : update (functions (14 ∷ [])) (functions (15 ∷ 14 ∷ [])) [] (one 3 (Function 0) ∷ []) ≡ moves_to (one 3 (Function 1) ∷ [])
unfolding V.shape-the_row-Value-0 V.hidden-the_row-Value-0 V.shown-the_row-Value-0 V.shape-the_row-Value-1 V.hidden-the_row-Value-1 V.shown-the_row-Value-1 denote.Hole.Carrier.hidden Rattle.src_tree.specs.declared.value.Value.TheViews.out-Value denote.Hole.Carrier.out denote.Hole.Carrier.shown
kept_function = refl

lost_function : update (functions (14 ∷ [])) (functions []) [] (one 3 (Function 0) ∷ []) ≡ refuses W.LostFunction 2 (Index 0 ∷ []) (K.Function 0)
unfolding V.shape-the_row-Value-0 V.hidden-the_row-Value-0 V.shown-the_row-Value-0 V.shape-the_row-Value-1 V.hidden-the_row-Value-1 V.shown-the_row-Value-1 denote.Hole.Carrier.hidden Rattle.src_tree.specs.declared.value.Value.TheViews.out-Value denote.Hole.Carrier.out denote.Hole.Carrier.shown
lost_function = refl

null_function : update (functions (14 ∷ [])) (functions []) [] (one 3 Null ∷ []) ≡ moves_to (one 3 Null ∷ [])
unfolding V.shape-the_row-Value-0 V.hidden-the_row-Value-0 V.shown-the_row-Value-0 V.shape-the_row-Value-1 V.hidden-the_row-Value-1 V.shown-the_row-Value-1 denote.Hole.Carrier.hidden Rattle.src_tree.specs.declared.value.Value.TheViews.out-Value denote.Hole.Carrier.out denote.Hole.Carrier.shown
null_function = refl

-- int *p to a dead object, which may become null
abbrev lone : Program
lone = program (parts (T.Pointer 0 ∷ []) [] []) (global 23 3 ∷ []) [] (site 0 0 0 ∷ [])

abbrev with_null : Versions → Versions
with_null m = record m { pairing = record m.pairing { dangling = D.Null } }

dead_is_null : store_image (with_null (versions lone lone [])) (store (one 3 (Pointer 3 0) ∷ dead 0 0 ∷ [])) (initial_store lone) ≡ moves_to (one 3 Null ∷ [])
unfolding V.shape-the_row-Value-0 V.hidden-the_row-Value-0 V.shown-the_row-Value-0 V.shape-the_row-Value-1 V.hidden-the_row-Value-1 V.shown-the_row-Value-1 denote.Hole.Carrier.hidden Rattle.src_tree.specs.declared.value.Value.TheViews.out-Value denote.Hole.Carrier.out denote.Hole.Carrier.shown digits
dead_is_null = refl

-- void *p into struct s { int a[4]; int b; } g, where c may come between
abbrev anything : List ℕ → Program
anything names =
    program (parts (T.Array 0 4 ∷ T.Struct 1 ∷ T.VoidPointer ∷ []) (tag 26 (field 8 3 ∷ Rattle.std.specs.Prelude.map (λ f. field f 0) names) ∷ []) []) (global 14 4 ∷ global 23 5 ∷ []) [] []

abbrev at : ℕ → List Object
at offset = one 4 (Struct (Array (zeros 4) ∷ int 9 ∷ [])) ∷ one 5 (Pointer 2 offset) ∷ []

-- the struct, its array and its element 0 have one image
void_start : update (anything (9 ∷ [])) (anything (10 ∷ 9 ∷ [])) [] (at 0)
    ≡ moves_to (one 4 (Struct (Array (zeros 4) ∷ int 0 ∷ int 9 ∷ [])) ∷ one 5 (Pointer 2 0) ∷ [])
unfolding V.shape-the_row-Value-0 V.hidden-the_row-Value-0 V.shown-the_row-Value-0 V.shape-the_row-Value-1 V.hidden-the_row-Value-1 V.shown-the_row-Value-1 denote.Hole.Carrier.hidden Rattle.src_tree.specs.declared.value.Value.TheViews.out-Value denote.Hole.Carrier.out denote.Hole.Carrier.shown
void_start = refl

void_element : update (anything (9 ∷ [])) (anything (10 ∷ 9 ∷ [])) [] (at 12)
    ≡ moves_to (one 4 (Struct (Array (zeros 4) ∷ int 0 ∷ int 9 ∷ [])) ∷ one 5 (Pointer 2 12) ∷ [])
unfolding V.shape-the_row-Value-0 V.hidden-the_row-Value-0 V.shown-the_row-Value-0 V.shape-the_row-Value-1 V.hidden-the_row-Value-1 V.shown-the_row-Value-1 denote.Hole.Carrier.hidden Rattle.src_tree.specs.declared.value.Value.TheViews.out-Value denote.Hole.Carrier.out denote.Hole.Carrier.shown
void_element = refl

void_two : update (anything (9 ∷ [])) (anything (10 ∷ 9 ∷ [])) [] (at 16) ≡ refuses W.Ambiguous 3 (Index 0 ∷ []) (K.Target 2 16)
unfolding V.shape-the_row-Value-0 V.hidden-the_row-Value-0 V.shown-the_row-Value-0 V.shape-the_row-Value-1 V.hidden-the_row-Value-1 V.shown-the_row-Value-1 denote.Hole.Carrier.hidden Rattle.src_tree.specs.declared.value.Value.TheViews.out-Value denote.Hole.Carrier.out denote.Hole.Carrier.shown
void_two = refl

-- the end of the whole object moves with it
void_end : update (anything (9 ∷ [])) (anything (10 ∷ 9 ∷ [])) [] (at 20)
    ≡ moves_to (one 4 (Struct (Array (zeros 4) ∷ int 0 ∷ int 9 ∷ [])) ∷ one 5 (Pointer 2 24) ∷ [])
unfolding V.shape-the_row-Value-0 V.hidden-the_row-Value-0 V.shown-the_row-Value-0 V.shape-the_row-Value-1 V.hidden-the_row-Value-1 V.shown-the_row-Value-1 denote.Hole.Carrier.hidden Rattle.src_tree.specs.declared.value.Value.TheViews.out-Value denote.Hole.Carrier.out denote.Hole.Carrier.shown
void_end = refl
