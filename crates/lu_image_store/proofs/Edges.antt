-- Cases at the edges of each definition.
use Rattle.std.proofs.Common.{◌≡◌, refl, ℕ, List, [], ◌∷◌}
use Rattle.std.specs.Prelude.{replicate}
use Rattle.std.specs.Fmt.{digits}
use Rattle.c_types.specs.declared.parts.Ty.TheVariants as T
use Rattle.c_types.specs.declared.parts.IntKind.TheVariants as I
use Rattle.c_types.specs.declared.path.Step.TheVariants.{Index}
use Rattle.src_tree.specs.declared.value.Value.TheBlock as V
use Rattle.src_tree.specs.declared.value.Value.{Value, Int, Null, Pointer, Struct, Array, Union}
use Rattle.src_tree.specs.declared.value.Object.{Object}
use Rattle.src_tree.specs.declared.program.Program.{Program}
use Rattle.lu_image.specs.declared.refusal.Why.TheVariants as W
use Rattle.lu_image.specs.declared.refusal.Kept.TheVariants as K
use Rattle.src_meaning.specs.Initial.{initial_store}
use Rattle.lu_image_store.specs.Versions.{Versions}
use Rattle.lu_image_store.specs.Stores.{store_image}
use Rattle.lu_image_store.specs.Needed.{needed_objects}
use Rattle.lu_image_store.proofs.Samples.{field, tag, parts, program, global, site, versions, int, zeros, variable, one, heap, store, moves_to, refuses, update}

-- int *p; struct s { int a[n]; } g: the end of an array that grew
abbrev inner : ℕ → Program
inner n =
    program (parts (T.Array 0 n ∷ T.Struct 1 ∷ T.Pointer 0 ∷ []) (tag 26 (field 8 3 ∷ []) ∷ []) []) (global 23 5 ∷ global 14 4 ∷ []) [] []

inner_end : update (inner 4) (inner 8) [] (one 5 (Pointer 3 16) ∷ one 4 (Struct (Array (zeros 4) ∷ [])) ∷ []) ≡ refuses W.LostTarget 2 (Index 0 ∷ []) (K.Target 3 16)
unfolding V.shape-the_row-Value-0 V.hidden-the_row-Value-0 V.shown-the_row-Value-0 V.shape-the_row-Value-1 V.hidden-the_row-Value-1 V.shown-the_row-Value-1 denote.Hole.Carrier.hidden Rattle.src_tree.specs.declared.value.Value.TheViews.out-Value denote.Hole.Carrier.out denote.Hole.Carrier.shown
inner_end = refl

inner_kept : update (inner 4) (inner 4) [] (one 5 (Pointer 3 16) ∷ one 4 (Struct (Array (zeros 4) ∷ [])) ∷ [])
    ≡ moves_to (one 5 (Pointer 3 16) ∷ one 4 (Struct (Array (zeros 4) ∷ [])) ∷ [])
unfolding V.shape-the_row-Value-0 V.hidden-the_row-Value-0 V.shown-the_row-Value-0 V.shape-the_row-Value-1 V.hidden-the_row-Value-1 V.shown-the_row-Value-1 denote.Hole.Carrier.hidden Rattle.src_tree.specs.declared.value.Value.TheViews.out-Value denote.Hole.Carrier.out denote.Hole.Carrier.shown
inner_kept = refl

-- int *p, or void *p; then int x, int x[1], or int *x
abbrev before : ℕ → ℕ → Program
before p x =
    program (parts (T.Array 0 1 ∷ T.Pointer 0 ∷ T.VoidPointer ∷ []) [] []) (global 23 p ∷ global 31 x ∷ []) [] []

-- a global that becomes an array shares no path, and no end
array_start : update (before 4 0) (before 4 3) [] (one 4 (Pointer 3 0) ∷ one 0 (int 1) ∷ []) ≡ refuses W.LostTarget 2 (Index 0 ∷ []) (K.Target 3 0)
unfolding V.shape-the_row-Value-0 V.hidden-the_row-Value-0 V.shown-the_row-Value-0 V.shape-the_row-Value-1 V.hidden-the_row-Value-1 V.shown-the_row-Value-1 denote.Hole.Carrier.hidden Rattle.src_tree.specs.declared.value.Value.TheViews.out-Value denote.Hole.Carrier.out denote.Hole.Carrier.shown
array_start = refl

array_end : update (before 4 0) (before 4 3) [] (one 4 (Pointer 3 4) ∷ one 0 (int 1) ∷ []) ≡ refuses W.LostTarget 2 (Index 0 ∷ []) (K.Target 3 4)
unfolding V.shape-the_row-Value-0 V.hidden-the_row-Value-0 V.shown-the_row-Value-0 V.shape-the_row-Value-1 V.hidden-the_row-Value-1 V.shown-the_row-Value-1 denote.Hole.Carrier.hidden Rattle.src_tree.specs.declared.value.Value.TheViews.out-Value denote.Hole.Carrier.out denote.Hole.Carrier.shown
array_end = refl

array_shape : update (before 4 0) (before 4 3) [] (one 4 Null ∷ one 0 (int 1) ∷ []) ≡ refuses W.Shape 3 (Index 0 ∷ []) K.Nothing
unfolding V.shape-the_row-Value-0 V.hidden-the_row-Value-0 V.shown-the_row-Value-0 V.shape-the_row-Value-1 V.hidden-the_row-Value-1 V.shown-the_row-Value-1 denote.Hole.Carrier.hidden Rattle.src_tree.specs.declared.value.Value.TheViews.out-Value denote.Hole.Carrier.out denote.Hole.Carrier.shown
array_shape = refl

array_dropped : update (before 4 3) (before 4 0) [] (one 4 Null ∷ variable 0 (int 1 ∷ []) ∷ []) ≡ refuses W.Shape 3 [] K.Nothing
unfolding V.shape-the_row-Value-0 V.hidden-the_row-Value-0 V.shown-the_row-Value-0 V.shape-the_row-Value-1 V.hidden-the_row-Value-1 V.shown-the_row-Value-1 denote.Hole.Carrier.hidden Rattle.src_tree.specs.declared.value.Value.TheViews.out-Value denote.Hole.Carrier.out denote.Hole.Carrier.shown
array_dropped = refl

-- a place of a type that doesn't correspond, or isn't exactly the target's
void_other : update (before 5 0) (before 5 4) [] (one 5 (Pointer 3 0) ∷ one 0 (int 1) ∷ []) ≡ refuses W.LostTarget 2 (Index 0 ∷ []) (K.Target 3 0)
unfolding V.shape-the_row-Value-0 V.hidden-the_row-Value-0 V.shown-the_row-Value-0 V.shape-the_row-Value-1 V.hidden-the_row-Value-1 V.shown-the_row-Value-1 denote.Hole.Carrier.hidden Rattle.src_tree.specs.declared.value.Value.TheViews.out-Value denote.Hole.Carrier.out denote.Hole.Carrier.shown
void_other = refl

abbrev wider : ℕ → Program
wider x = program (parts (T.Int I.LongLong ∷ T.Pointer 0 ∷ []) [] []) (global 23 4 ∷ global 31 x ∷ []) [] []

typed_other : update (wider 0) (wider 3) [] (one 4 (Pointer 3 0) ∷ one 0 (int 1) ∷ []) ≡ refuses W.LostTarget 2 (Index 0 ∷ []) (K.Target 3 0)
unfolding V.shape-the_row-Value-0 V.hidden-the_row-Value-0 V.shown-the_row-Value-0 V.shape-the_row-Value-1 V.hidden-the_row-Value-1 V.shown-the_row-Value-1 denote.Hole.Carrier.hidden Rattle.src_tree.specs.declared.value.Value.TheViews.out-Value denote.Hole.Carrier.out denote.Hole.Carrier.shown
typed_other = refl

-- union u { int i; int *p; } a[n]; what leads to the heap from a member, from an element that is cut, and from a zero member
abbrev unions : ℕ → List ℕ → Program
unions n names =
    program (parts (T.Pointer 0 ∷ T.Union 0 ∷ T.Array 4 n ∷ T.Struct 1 ∷ []) (tag 26 (field 31 0 ∷ field 32 0 ∷ []) ∷ []) (tag 28 (Rattle.std.specs.Prelude.map (λ f. field f (Rattle.std.specs.Prelude.cond (Rattle.std.specs.Prelude.nat_eq f 23) 3 6)) names) ∷ [])) (global 8 5 ∷ []) [] (site 0 0 0 ∷ [])

abbrev pair_zero : Value
pair_zero = Struct (int 0 ∷ int 0 ∷ [])

in_member : update (unions 2 (18 ∷ 23 ∷ [])) (unions 2 (23 ∷ 18 ∷ [])) [] (variable 4 (Union 1 (Pointer 3 0) ∷ Union 0 pair_zero ∷ []) ∷ heap 0 0 (int 5 ∷ []) ∷ [])
    ≡ moves_to (variable 4 (Union 0 (Pointer 3 0) ∷ Union 1 pair_zero ∷ []) ∷ heap 0 0 (int 5 ∷ []) ∷ [])
unfolding V.shape-the_row-Value-0 V.hidden-the_row-Value-0 V.shown-the_row-Value-0 V.shape-the_row-Value-1 V.hidden-the_row-Value-1 V.shown-the_row-Value-1 denote.Hole.Carrier.hidden Rattle.src_tree.specs.declared.value.Value.TheViews.out-Value denote.Hole.Carrier.out denote.Hole.Carrier.shown digits
in_member = refl

cut_pointer : needed_objects (versions (unions 2 (18 ∷ 23 ∷ [])) (unions 1 (18 ∷ 23 ∷ [])) []) (store (variable 4 (Union 0 pair_zero ∷ Union 1 (Pointer 3 0) ∷ []) ∷ heap 0 0 (int 5 ∷ []) ∷ []))
    ≡ 0 ∷ 1 ∷ 2 ∷ []
unfolding V.shape-the_row-Value-0 V.hidden-the_row-Value-0 V.shown-the_row-Value-0 V.shape-the_row-Value-1 V.hidden-the_row-Value-1 V.shown-the_row-Value-1 denote.Hole.Carrier.hidden Rattle.src_tree.specs.declared.value.Value.TheViews.out-Value denote.Hole.Carrier.out denote.Hole.Carrier.shown digits
cut_pointer = refl

-- a null in the second member is not zero
cut_member : update (unions 2 (18 ∷ 23 ∷ [])) (unions 1 (18 ∷ 23 ∷ [])) [] (variable 4 (Union 0 pair_zero ∷ Union 1 Null ∷ []) ∷ []) ≡ refuses W.ArrayCut 2 (Index 1 ∷ []) K.Nothing
unfolding V.shape-the_row-Value-0 V.hidden-the_row-Value-0 V.shown-the_row-Value-0 V.shape-the_row-Value-1 V.hidden-the_row-Value-1 V.shown-the_row-Value-1 denote.Hole.Carrier.hidden Rattle.src_tree.specs.declared.value.Value.TheViews.out-Value denote.Hole.Carrier.out denote.Hole.Carrier.shown digits
cut_member = refl

-- a field that the new member's struct gains is zero
abbrev gaining : List ℕ → Program
gaining fields =
    program (parts (T.Struct 1 ∷ T.Union 0 ∷ []) (tag 26 (Rattle.std.specs.Prelude.map (λ f. field f 0) fields) ∷ []) (tag 28 (field 18 3 ∷ []) ∷ [])) (global 8 4 ∷ []) [] []

gained_field : update (gaining (31 ∷ [])) (gaining (32 ∷ 31 ∷ [])) [] (one 4 (Union 0 (Struct (int 7 ∷ []))) ∷ [])
    ≡ moves_to (one 4 (Union 0 (Struct (int 0 ∷ int 7 ∷ []))) ∷ [])
unfolding V.shape-the_row-Value-0 V.hidden-the_row-Value-0 V.shown-the_row-Value-0 V.shape-the_row-Value-1 V.hidden-the_row-Value-1 V.shown-the_row-Value-1 denote.Hole.Carrier.hidden Rattle.src_tree.specs.declared.value.Value.TheViews.out-Value denote.Hole.Carrier.out denote.Hole.Carrier.shown
gained_field = refl

-- struct e { int *p; int *q; } g with an old form that has q alone: only q carries
abbrev handled : List ℕ → Program
handled form =
    program (parts (T.Pointer 0 ∷ T.Struct 1 ∷ T.Struct 2 ∷ []) (tag 12 (field 23 3 ∷ field 24 3 ∷ []) ∷ tag 22 (Rattle.std.specs.Prelude.map (λ f. field f 3) form) ∷ []) []) (global 14 4 ∷ []) [] (site 0 0 0 ∷ [])

abbrev with_handler : Versions → Versions
with_handler m = record m { pairing = record m.pairing { handlers = record { structure = 1; form = 2; function = 0 } ∷ [] } }

form_carries : needed_objects (with_handler (versions (handled (24 ∷ [])) (handled (24 ∷ [])) [])) (store (one 4 (Struct (Pointer 3 0 ∷ Pointer 4 0 ∷ [])) ∷ heap 0 0 (int 5 ∷ []) ∷ heap 0 0 (int 6 ∷ []) ∷ []))
    ≡ 0 ∷ 1 ∷ 2 ∷ 4 ∷ []
unfolding V.shape-the_row-Value-0 V.hidden-the_row-Value-0 V.shown-the_row-Value-0 V.shape-the_row-Value-1 V.hidden-the_row-Value-1 V.shown-the_row-Value-1 denote.Hole.Carrier.hidden Rattle.src_tree.specs.declared.value.Value.TheViews.out-Value denote.Hole.Carrier.out denote.Hole.Carrier.shown digits
form_carries = refl

-- two objects that pass the heap's bound together
abbrev counted : ℕ → Object
counted n = record (heap 0 3 []) { count = n }

abbrev large : ℕ → Program
large t =
    program (parts (T.Int I.Char ∷ T.Int I.Short ∷ T.Pointer t ∷ []) [] []) (global 8 5 ∷ global 9 5 ∷ []) [] (site 0 0 t ∷ [])

second_over : update (large 3) (large 4) [] (one 5 (Pointer 4 0) ∷ one 5 (Pointer 5 0) ∷ counted 2097152 ∷ counted 1 ∷ []) ≡ refuses W.HeapLimit 5 [] K.Nothing
unfolding V.shape-the_row-Value-0 V.hidden-the_row-Value-0 V.shown-the_row-Value-0 V.shape-the_row-Value-1 V.hidden-the_row-Value-1 V.shown-the_row-Value-1 denote.Hole.Carrier.hidden Rattle.src_tree.specs.declared.value.Value.TheViews.out-Value denote.Hole.Carrier.out denote.Hole.Carrier.shown digits
second_over = refl

-- struct s { int a[2]; } t[3], which gains a field; int *p to the end of the first array, where the second begins
abbrev rows : List ℕ → Program
rows names =
    program (parts (T.Array 0 2 ∷ T.Struct 1 ∷ T.Array 4 3 ∷ T.Pointer 0 ∷ []) (tag 26 (field 8 3 ∷ Rattle.std.specs.Prelude.map (λ f. field f 0) names) ∷ []) []) (global 23 6 ∷ global 27 5 ∷ []) [] []

between : update (rows []) (rows (10 ∷ [])) [] (one 6 (Pointer 3 8) ∷ variable 4 (replicate 3 (Struct (Array (zeros 2) ∷ []))) ∷ []) ≡ refuses W.Ambiguous 2 (Index 0 ∷ []) (K.Target 3 8)
unfolding V.shape-the_row-Value-0 V.hidden-the_row-Value-0 V.shown-the_row-Value-0 V.shape-the_row-Value-1 V.hidden-the_row-Value-1 V.shown-the_row-Value-1 denote.Hole.Carrier.hidden Rattle.src_tree.specs.declared.value.Value.TheViews.out-Value denote.Hole.Carrier.out denote.Hole.Carrier.shown
between = refl

-- union u { int i; int k; } a[n]: a zero in the second member is not the zero value
abbrev twins : ℕ → Program
twins n =
    program (parts (T.Union 0 ∷ T.Array 3 n ∷ []) [] (tag 28 (field 16 0 ∷ field 18 0 ∷ []) ∷ [])) (global 8 4 ∷ []) [] []

cut_twin : update (twins 2) (twins 1) [] (variable 3 (Union 0 (int 0) ∷ Union 1 (int 0) ∷ []) ∷ []) ≡ refuses W.ArrayCut 2 (Index 1 ∷ []) K.Nothing
unfolding V.shape-the_row-Value-0 V.hidden-the_row-Value-0 V.shown-the_row-Value-0 V.shape-the_row-Value-1 V.hidden-the_row-Value-1 V.shown-the_row-Value-1 denote.Hole.Carrier.hidden Rattle.src_tree.specs.declared.value.Value.TheViews.out-Value denote.Hole.Carrier.out denote.Hole.Carrier.shown
cut_twin = refl

-- struct f { int x; }; union w { int i; struct f s; }; struct e { union w u; } g; struct o { union w u; }: in an old form
-- no struct is handled, also in a union
abbrev nested : Program
nested =
    program (parts (T.Struct 1 ∷ T.Union 0 ∷ T.Struct 2 ∷ T.Struct 3 ∷ []) (tag 13 (field 31 0 ∷ []) ∷ tag 12 (field 28 4 ∷ []) ∷ tag 22 (field 28 4 ∷ []) ∷ []) (tag 30 (field 16 0 ∷ field 26 3 ∷ []) ∷ [])) (global 14 5 ∷ []) [] []

abbrev with_both : Versions → Versions
with_both m = record m { pairing = record m.pairing { handlers = record { structure = 2; form = 3; function = 0 } ∷ record { structure = 1; form = 1; function = 0 } ∷ [] } }

form_with_union : store_image (with_both (versions nested nested [])) (store (one 5 (Struct (Union 1 (Struct (int 3 ∷ [])) ∷ [])) ∷ [])) (initial_store nested)
    ≡ moves_to (one 5 (Struct (Union 0 (int 0) ∷ [])) ∷ [])
unfolding V.shape-the_row-Value-0 V.hidden-the_row-Value-0 V.shown-the_row-Value-0 V.shape-the_row-Value-1 V.hidden-the_row-Value-1 V.shown-the_row-Value-1 denote.Hole.Carrier.hidden Rattle.src_tree.specs.declared.value.Value.TheViews.out-Value denote.Hole.Carrier.out denote.Hole.Carrier.shown
form_with_union = refl
