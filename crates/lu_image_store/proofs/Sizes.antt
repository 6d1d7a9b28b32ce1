-- What moved, as bytes and addresses; and pointers of another size.
use Rattle.std.proofs.Common.{◌≡◌, refl, ℕ, List, [], ◌∷◌, Ok, Err}
use Rattle.std.specs.Prelude.{codes, replicate, slice_set}
use Rattle.std.specs.Fmt.{digits}
use Rattle.c_types.specs.declared.parts.Parts.{Parts}
use Rattle.c_types.specs.declared.parts.TagDef.{TagDef}
use Rattle.c_types.specs.declared.parts.Ty.TheVariants as T
use Rattle.c_types.specs.declared.path.Step.TheVariants.{Index}
use Rattle.src_tree.specs.declared.value.Value.TheBlock as V
use Rattle.src_tree.specs.declared.value.Value.{Value, Int, Null, Pointer, Function, Struct, Array, Union}
use Rattle.src_tree.specs.declared.value.Object.{Object}
use Rattle.src_tree.specs.declared.program.Program.{Program}
use Rattle.lu_image.specs.declared.refusal.Why.TheVariants as W
use Rattle.lu_image.specs.declared.refusal.Kept.TheVariants as K
use Rattle.lu_image_store.specs.Stores.{Makes, store_image}
use Rattle.lu_image_store.proofs.Samples.{field, tag, parts, program, global, function, site, versions, int, variable, one, heap, store, moves_to, refuses, update}
use Rattle.lu_spec.specs.LittleEndian.{little_endian}
use Rattle.src_tree.specs.declared.value.Store.{Store}
use Rattle.src_meaning.specs.Objects.{addresses}
use Rattle.src_meaning.specs.ValueBytes.{object_bytes}
use Rattle.src_meaning.specs.Initial.{initial_store}
use Rattle.lu_image_store.specs.Versions.{Versions}

-- the address and the bytes of the objects after those for messages
abbrev dump_of : Parts → Store → List (ℕ × List ℕ)
dump_of p s = Rattle.std.specs.Prelude.drop 2 (Rattle.std.specs.Prelude.zip (addresses p s) (Rattle.std.specs.Prelude.map (object_bytes p s) s.objects))

abbrev dump : Parts → Makes → List (ℕ × List ℕ)
dump p (Ok s) = dump_of p s
dump p (Err r) = []

-- a cycle of three nodes that gain a field in front
abbrev list : TagDef → Program
list node =
    program (parts (T.Struct 1 ∷ T.Pointer 3 ∷ []) (node ∷ []) []) (global 8 4 ∷ []) (function 18 ∷ []) (site 0 0 3 ∷ [])

abbrev new_list : Program
new_list = list (tag 21 (field 27 0 ∷ field 29 0 ∷ field 21 4 ∷ []))

abbrev node : ℕ → ℕ → Object
node v next = heap 0 3 (Struct (int v ∷ Pointer next 0 ∷ []) ∷ [])

cycle_dump : dump new_list.types (update (list (tag 21 (field 29 0 ∷ field 21 4 ∷ []))) new_list [] (one 4 (Pointer 5 0) ∷ node 3 5 ∷ node 2 3 ∷ node 1 4 ∷ node 9 3 ∷ []))
    ≡ (4192, 192 ∷ 16 ∷ 0 ∷ 0 ∷ [])
    ∷ (4224, 0 ∷ 0 ∷ 0 ∷ 0 ∷ 3 ∷ 0 ∷ 0 ∷ 0 ∷ 192 ∷ 16 ∷ 0 ∷ 0 ∷ [])
    ∷ (4256, 0 ∷ 0 ∷ 0 ∷ 0 ∷ 2 ∷ 0 ∷ 0 ∷ 0 ∷ 128 ∷ 16 ∷ 0 ∷ 0 ∷ [])
    ∷ (4288, 0 ∷ 0 ∷ 0 ∷ 0 ∷ 1 ∷ 0 ∷ 0 ∷ 0 ∷ 160 ∷ 16 ∷ 0 ∷ 0 ∷ [])
    ∷ []
unfolding V.shape-the_row-Value-0 V.hidden-the_row-Value-0 V.shown-the_row-Value-0 V.shape-the_row-Value-1 V.hidden-the_row-Value-1 V.shown-the_row-Value-1 denote.Hole.Carrier.hidden Rattle.src_tree.specs.declared.value.Value.TheViews.out-Value denote.Hole.Carrier.out denote.Hole.Carrier.shown Rattle.lu_spec.specs.LittleEndian.little_endian digits
cycle_dump = refl

-- struct s { struct s *n; int v; } t[8]; int *c
abbrev wide : Program
wide =
    program (parts (T.Struct 1 ∷ T.Array 3 8 ∷ T.Pointer 3 ∷ T.Pointer 0 ∷ []) (tag 26 (field 21 5 ∷ field 29 0 ∷ []) ∷ []) []) (global 27 4 ∷ global 10 6 ∷ []) [] []

abbrev sized : ℕ → Program
sized n = record wide { types = record wide.types { pointer = n } }

abbrev with_pointers : ℕ → ℕ → Versions
with_pointers a b = versions (sized a) (sized b) []

abbrev pointing : ℕ → ℕ → List Object
pointing next inner =
    variable 3 (slice_set (replicate 8 (Struct (Null ∷ int 0 ∷ []))) 5 (Struct (Pointer 2 next ∷ int 7 ∷ []))) ∷ one 6 (Pointer 2 inner) ∷ []

-- pointers of 4 bytes become pointers of 8
widened : store_image (with_pointers 4 8) (store (pointing 16 44)) (initial_store wide) ≡ moves_to (pointing 32 88)
unfolding V.shape-the_row-Value-0 V.hidden-the_row-Value-0 V.shown-the_row-Value-0 V.shape-the_row-Value-1 V.hidden-the_row-Value-1 V.shown-the_row-Value-1 denote.Hole.Carrier.hidden Rattle.src_tree.specs.declared.value.Value.TheViews.out-Value denote.Hole.Carrier.out denote.Hole.Carrier.shown
widened = refl

narrowed : store_image (with_pointers 8 4) (store (pointing 32 88)) (initial_store wide) ≡ moves_to (pointing 16 44)
unfolding V.shape-the_row-Value-0 V.hidden-the_row-Value-0 V.shown-the_row-Value-0 V.shape-the_row-Value-1 V.hidden-the_row-Value-1 V.shown-the_row-Value-1 denote.Hole.Carrier.hidden Rattle.src_tree.specs.declared.value.Value.TheViews.out-Value denote.Hole.Carrier.out denote.Hole.Carrier.shown
narrowed = refl

no_place : store_image (with_pointers 8 4) (store (pointing 32 44)) (initial_store wide) ≡ refuses W.NoPlace 3 (Index 0 ∷ []) (K.Target 2 44)
unfolding V.shape-the_row-Value-0 V.hidden-the_row-Value-0 V.shown-the_row-Value-0 V.shape-the_row-Value-1 V.hidden-the_row-Value-1 V.shown-the_row-Value-1 denote.Hole.Carrier.hidden Rattle.src_tree.specs.declared.value.Value.TheViews.out-Value denote.Hole.Carrier.out denote.Hole.Carrier.shown
no_place = refl
