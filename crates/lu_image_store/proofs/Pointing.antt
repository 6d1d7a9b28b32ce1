-- Pointers into arrays and structs: interior pointers, ends, and addresses of two meanings.
use Rattle.std.proofs.Common.{◌≡◌, refl, ℕ, List, [], ◌∷◌, ◌++◌}
use Rattle.std.specs.Prelude.{replicate, slice_set}
use Rattle.std.specs.Fmt.{digits}
use Rattle.c_types.specs.declared.parts.Ty.{Ty}
use Rattle.c_types.specs.declared.parts.Ty.TheVariants as T
use Rattle.c_types.specs.declared.parts.IntKind.TheVariants as I
use Rattle.c_types.specs.declared.path.Step.TheVariants.{Index}
use Rattle.src_tree.specs.declared.value.Value.TheBlock as V
use Rattle.src_tree.specs.declared.value.Value.{Value, Int, Null, Pointer, Function, Struct, Array, Union}
use Rattle.src_tree.specs.declared.value.Object.{Object}
use Rattle.src_tree.specs.declared.program.Program.{Program}
use Rattle.lu_image.specs.declared.refusal.Why.TheVariants as W
use Rattle.lu_image.specs.declared.refusal.Kept.TheVariants as K
use Rattle.lu_image_store.proofs.Samples.{field, tag, parts, program, global, site, int, zeros, variable, one, dead, moves_to, refuses, update}

-- struct s { short k; int n; } or { long long k; int n; }, an array of 8, and int *
abbrev slots : Ty → Program
slots k = program (parts (k ∷ T.Struct 1 ∷ T.Array 4 8 ∷ T.Pointer 0 ∷ []) (tag 26 (field 18 3 ∷ field 21 0 ∷ []) ∷ []) []) (global 27 5 ∷ global 10 6 ∷ []) [] []

abbrev slot : ℕ → Value
slot n = Struct (int 0 ∷ int n ∷ [])

abbrev slot_values : List Value
slot_values = slice_set (replicate 8 (slot 0)) 5 (slot 50)

-- &t[5].n moves from 44 to 88
interior : update (slots (T.Int I.Short)) (slots (T.Int I.LongLong)) [] (variable 4 slot_values ∷ one 6 (Pointer 2 44) ∷ [])
    ≡ moves_to (variable 4 slot_values ∷ one 6 (Pointer 2 88) ∷ [])
unfolding V.shape-the_row-Value-0 V.hidden-the_row-Value-0 V.shown-the_row-Value-0 V.shape-the_row-Value-1 V.hidden-the_row-Value-1 V.shown-the_row-Value-1 denote.Hole.Carrier.hidden Rattle.src_tree.specs.declared.value.Value.TheViews.out-Value denote.Hole.Carrier.out denote.Hole.Carrier.shown
interior = refl

-- no int begins at the struct, nor within one
nowhere : update (slots (T.Int I.Short)) (slots (T.Int I.LongLong)) [] (variable 4 slot_values ∷ one 6 (Pointer 2 42) ∷ [])
    ≡ refuses W.NoPlace 3 (Index 0 ∷ []) (K.Target 2 42)
unfolding V.shape-the_row-Value-0 V.hidden-the_row-Value-0 V.shown-the_row-Value-0 V.shape-the_row-Value-1 V.hidden-the_row-Value-1 V.shown-the_row-Value-1 denote.Hole.Carrier.hidden Rattle.src_tree.specs.declared.value.Value.TheViews.out-Value denote.Hole.Carrier.out denote.Hole.Carrier.shown
nowhere = refl

-- the address past the whole array of structs is no place of an int
past_the_end : update (slots (T.Int I.Short)) (slots (T.Int I.LongLong)) [] (variable 4 slot_values ∷ one 6 (Pointer 2 64) ∷ [])
    ≡ refuses W.NoPlace 3 (Index 0 ∷ []) (K.Target 2 64)
unfolding V.shape-the_row-Value-0 V.hidden-the_row-Value-0 V.shown-the_row-Value-0 V.shape-the_row-Value-1 V.hidden-the_row-Value-1 V.shown-the_row-Value-1 denote.Hole.Carrier.hidden Rattle.src_tree.specs.declared.value.Value.TheViews.out-Value denote.Hole.Carrier.out denote.Hole.Carrier.shown
past_the_end = refl

-- struct s { int a[4]; int b; }, with c between or behind; s g; int *p
abbrev two_fields : Program
two_fields = program (parts (T.Array 0 4 ∷ T.Struct 1 ∷ T.Pointer 0 ∷ []) (tag 26 (field 8 3 ∷ field 9 0 ∷ []) ∷ []) []) (global 14 4 ∷ global 23 5 ∷ []) [] []

abbrev three_fields : ℕ → ℕ → Program
three_fields x y =
    program (parts (T.Array 0 4 ∷ T.Struct 1 ∷ T.Pointer 0 ∷ []) (tag 26 (field 8 3 ∷ field x 0 ∷ field y 0 ∷ []) ∷ []) []) (global 14 4 ∷ global 23 5 ∷ []) [] []

abbrev at_16 : List Object
at_16 = one 4 (Struct (Array (zeros 4) ∷ int 9 ∷ [])) ∷ one 5 (Pointer 2 16) ∷ []

two_meanings : update two_fields (three_fields 10 9) [] at_16 ≡ refuses W.Ambiguous 3 (Index 0 ∷ []) (K.Target 2 16)
unfolding V.shape-the_row-Value-0 V.hidden-the_row-Value-0 V.shown-the_row-Value-0 V.shape-the_row-Value-1 V.hidden-the_row-Value-1 V.shown-the_row-Value-1 denote.Hole.Carrier.hidden Rattle.src_tree.specs.declared.value.Value.TheViews.out-Value denote.Hole.Carrier.out denote.Hole.Carrier.shown
two_meanings = refl

one_meaning : update two_fields (three_fields 9 10) [] at_16
    ≡ moves_to (one 4 (Struct (Array (zeros 4) ∷ int 9 ∷ int 0 ∷ [])) ∷ one 5 (Pointer 2 16) ∷ [])
unfolding V.shape-the_row-Value-0 V.hidden-the_row-Value-0 V.shown-the_row-Value-0 V.shape-the_row-Value-1 V.hidden-the_row-Value-1 V.shown-the_row-Value-1 denote.Hole.Carrier.hidden Rattle.src_tree.specs.declared.value.Value.TheViews.out-Value denote.Hole.Carrier.out denote.Hole.Carrier.shown
one_meaning = refl

-- int t[n]; int *l
abbrev limited : ℕ → ℕ → Program
limited n l = program (parts (T.Array 0 n ∷ T.Pointer 0 ∷ []) [] []) (global 27 3 ∷ global l 4 ∷ []) [] []

grown : update (limited 8 19) (limited 16 19) [] (variable 0 (zeros 8) ∷ one 4 (Pointer 2 32) ∷ [])
    ≡ refuses W.LostTarget 3 (Index 0 ∷ []) (K.Target 2 32)
unfolding V.shape-the_row-Value-0 V.hidden-the_row-Value-0 V.shown-the_row-Value-0 V.shape-the_row-Value-1 V.hidden-the_row-Value-1 V.shown-the_row-Value-1 denote.Hole.Carrier.hidden Rattle.src_tree.specs.declared.value.Value.TheViews.out-Value denote.Hole.Carrier.out denote.Hole.Carrier.shown
grown = refl

-- the limit is another global
dropped_limit : update (limited 8 19) (limited 16 26) [] (variable 0 (replicate 8 (int 3)) ∷ one 4 (Pointer 2 32) ∷ [])
    ≡ moves_to (variable 0 (replicate 8 (int 3) ++ zeros 8) ∷ one 4 Null ∷ [])
unfolding V.shape-the_row-Value-0 V.hidden-the_row-Value-0 V.shown-the_row-Value-0 V.shape-the_row-Value-1 V.hidden-the_row-Value-1 V.shown-the_row-Value-1 denote.Hole.Carrier.hidden Rattle.src_tree.specs.declared.value.Value.TheViews.out-Value denote.Hole.Carrier.out denote.Hole.Carrier.shown
dropped_limit = refl

-- a pointer to a global without pair
dropped_target : update (limited 8 19) (program (parts (T.Array 0 8 ∷ T.Pointer 0 ∷ []) [] []) (global 19 4 ∷ []) [] []) [] (variable 0 (zeros 8) ∷ one 4 (Pointer 2 4) ∷ [])
    ≡ refuses W.LostTarget 3 (Index 0 ∷ []) (K.Target 2 4)
unfolding V.shape-the_row-Value-0 V.hidden-the_row-Value-0 V.shown-the_row-Value-0 V.shape-the_row-Value-1 V.hidden-the_row-Value-1 V.shown-the_row-Value-1 denote.Hole.Carrier.hidden Rattle.src_tree.specs.declared.value.Value.TheViews.out-Value denote.Hole.Carrier.out denote.Hole.Carrier.shown
dropped_target = refl

-- an array that is cut
cut : update (limited 8 23) (limited 4 23) [] (variable 0 (zeros 8) ∷ one 4 Null ∷ []) ≡ moves_to (variable 0 (zeros 4) ∷ one 4 Null ∷ [])
unfolding V.shape-the_row-Value-0 V.hidden-the_row-Value-0 V.shown-the_row-Value-0 V.shape-the_row-Value-1 V.hidden-the_row-Value-1 V.shown-the_row-Value-1 denote.Hole.Carrier.hidden Rattle.src_tree.specs.declared.value.Value.TheViews.out-Value denote.Hole.Carrier.out denote.Hole.Carrier.shown
cut = refl

cut_value : update (limited 8 23) (limited 4 23) [] (variable 0 (zeros 7 ++ int 1 ∷ []) ∷ one 4 Null ∷ []) ≡ refuses W.ArrayCut 2 (Index 7 ∷ []) K.Nothing
unfolding V.shape-the_row-Value-0 V.hidden-the_row-Value-0 V.shown-the_row-Value-0 V.shape-the_row-Value-1 V.hidden-the_row-Value-1 V.shown-the_row-Value-1 denote.Hole.Carrier.hidden Rattle.src_tree.specs.declared.value.Value.TheViews.out-Value denote.Hole.Carrier.out denote.Hole.Carrier.shown
cut_value = refl

cut_target : update (limited 8 23) (limited 4 23) [] (variable 0 (zeros 8) ∷ one 4 (Pointer 2 24) ∷ []) ≡ refuses W.LostTarget 3 (Index 0 ∷ []) (K.Target 2 24)
unfolding V.shape-the_row-Value-0 V.hidden-the_row-Value-0 V.shown-the_row-Value-0 V.shape-the_row-Value-1 V.hidden-the_row-Value-1 V.shown-the_row-Value-1 denote.Hole.Carrier.hidden Rattle.src_tree.specs.declared.value.Value.TheViews.out-Value denote.Hole.Carrier.out denote.Hole.Carrier.shown
cut_target = refl

-- int x; char *c
abbrev chars : Program
chars = program (parts (T.Int I.Char ∷ T.Pointer 3 ∷ []) [] []) (global 31 0 ∷ global 10 4 ∷ []) [] []

no_char : update chars chars [] (one 0 (int 0) ∷ one 4 (Pointer 2 1) ∷ []) ≡ refuses W.NoPlace 3 (Index 0 ∷ []) (K.Target 2 1)
unfolding V.shape-the_row-Value-0 V.hidden-the_row-Value-0 V.shown-the_row-Value-0 V.shape-the_row-Value-1 V.hidden-the_row-Value-1 V.shown-the_row-Value-1 denote.Hole.Carrier.hidden Rattle.src_tree.specs.declared.value.Value.TheViews.out-Value denote.Hole.Carrier.out denote.Hole.Carrier.shown
no_char = refl

-- int *p, which goes to a dead object
abbrev lone : Program
lone = program (parts (T.Pointer 0 ∷ []) [] []) (global 23 3 ∷ []) [] (site 0 0 0 ∷ [])

freed : update lone lone [] (one 3 (Pointer 3 0) ∷ dead 0 0 ∷ []) ≡ refuses W.Dangling 2 (Index 0 ∷ []) (K.Target 3 0)
unfolding V.shape-the_row-Value-0 V.hidden-the_row-Value-0 V.shown-the_row-Value-0 V.shape-the_row-Value-1 V.hidden-the_row-Value-1 V.shown-the_row-Value-1 denote.Hole.Carrier.hidden Rattle.src_tree.specs.declared.value.Value.TheViews.out-Value denote.Hole.Carrier.out denote.Hole.Carrier.shown digits
freed = refl
