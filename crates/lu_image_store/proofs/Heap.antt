-- Objects on the heap: shared ones, cycles, objects that no chain reaches, sites without pair, and the bound of the heap.
use Rattle.std.proofs.Common.{◌≡◌, refl, ℕ, List, [], ◌∷◌}
use Rattle.std.specs.Prelude.{codes, replicate, slice_set}
use Rattle.std.specs.Fmt.{digits}
use Rattle.c_types.specs.declared.parts.TagDef.{TagDef}
use Rattle.c_types.specs.declared.parts.Ty.TheVariants as T
use Rattle.c_types.specs.declared.parts.IntKind.TheVariants as I
use Rattle.c_types.specs.declared.path.Step.TheVariants.{Index}
use Rattle.src_tree.specs.declared.value.Value.TheBlock as V
use Rattle.src_tree.specs.declared.value.Value.{Value, Int, Null, Pointer, Function, Struct, Array, Union}
use Rattle.src_tree.specs.declared.value.Object.{Object}
use Rattle.src_tree.specs.declared.program.Program.{Program}
use Rattle.lu_image.specs.declared.rename.Table.TheVariants as R
use Rattle.lu_image.specs.declared.rename.Rename.{Rename}
use Rattle.lu_image.specs.declared.refusal.Why.TheVariants as W
use Rattle.lu_image.specs.declared.refusal.Kept.TheVariants as K
use Rattle.lu_image_store.specs.Needed.{needed_objects}
use Rattle.lu_image_store.proofs.Samples.{field, tag, parts, program, global, function, site, versions, int, variable, one, heap, store, moves_to, refuses, update}

-- struct n { int v; struct n *n; }, or { long long v; struct n *n; }, or { int t; int v; struct n *n; }; globals a and b; k allocates
abbrev nodes : TagDef → Program
nodes node =
    program (parts (T.Struct 1 ∷ T.Pointer 3 ∷ T.Int I.LongLong ∷ []) (node ∷ []) []) (global 8 4 ∷ global 9 4 ∷ []) (function 18 ∷ []) (site 0 0 3 ∷ [])

abbrev plain_node : TagDef
plain_node = tag 21 (field 29 0 ∷ field 21 4 ∷ [])

abbrev long_node : TagDef
long_node = tag 21 (field 29 5 ∷ field 21 4 ∷ [])

abbrev tagged_node : TagDef
tagged_node = tag 21 (field 27 0 ∷ field 29 0 ∷ field 21 4 ∷ [])

abbrev node : ℕ → Value → Value
node v next = Struct (int v ∷ next ∷ [])

abbrev to : ℕ → Value
to o = Pointer o 0

abbrev item : ℕ → Value → Object
item v next = heap 0 3 (node v next ∷ [])

-- a and b lead to two nodes with one successor
abbrev shared_nodes : List Object
shared_nodes = one 4 (to 5) ∷ one 4 (to 6) ∷ item 7 Null ∷ item 1 (to 4) ∷ item 2 (to 4) ∷ []

shared : update (nodes plain_node) (nodes long_node) [] shared_nodes ≡ moves_to shared_nodes
unfolding V.shape-the_row-Value-0 V.hidden-the_row-Value-0 V.shown-the_row-Value-0 V.shape-the_row-Value-1 V.hidden-the_row-Value-1 V.shown-the_row-Value-1 denote.Hole.Carrier.hidden Rattle.src_tree.specs.declared.value.Value.TheViews.out-Value denote.Hole.Carrier.out denote.Hole.Carrier.shown digits
shared = refl

-- struct n *a
abbrev list : TagDef → List ℕ → Program
list node sites =
    program (parts (T.Struct 1 ∷ T.Pointer 3 ∷ []) (node ∷ []) []) (global 8 4 ∷ []) (function 18 ∷ []) (Rattle.std.specs.Prelude.map (λ t. site 0 0 t) sites)

-- a cycle of three, and a fourth that nothing leads to
abbrev cycle : List Object
cycle = one 4 (to 5) ∷ item 3 (to 5) ∷ item 2 (to 3) ∷ item 1 (to 4) ∷ item 9 Null ∷ []

abbrev tagged : ℕ → Value → Object
tagged v next = heap 0 3 (Struct (int 0 ∷ int v ∷ next ∷ []) ∷ [])

cycle_needed : needed_objects (versions (list plain_node (3 ∷ [])) (list tagged_node (3 ∷ [])) []) (store cycle) ≡ 0 ∷ 1 ∷ 2 ∷ 3 ∷ 4 ∷ 5 ∷ []
unfolding V.shape-the_row-Value-0 V.hidden-the_row-Value-0 V.shown-the_row-Value-0 V.shape-the_row-Value-1 V.hidden-the_row-Value-1 V.shown-the_row-Value-1 denote.Hole.Carrier.hidden Rattle.src_tree.specs.declared.value.Value.TheViews.out-Value denote.Hole.Carrier.out denote.Hole.Carrier.shown digits
cycle_needed = refl

cycle_moves : update (list plain_node (3 ∷ [])) (list tagged_node (3 ∷ [])) [] cycle
    ≡ moves_to (one 4 (to 5) ∷ tagged 3 (to 5) ∷ tagged 2 (to 3) ∷ tagged 1 (to 4) ∷ [])
unfolding V.shape-the_row-Value-0 V.hidden-the_row-Value-0 V.shown-the_row-Value-0 V.shape-the_row-Value-1 V.hidden-the_row-Value-1 V.shown-the_row-Value-1 denote.Hole.Carrier.hidden Rattle.src_tree.specs.declared.value.Value.TheViews.out-Value denote.Hole.Carrier.out denote.Hole.Carrier.shown digits
cycle_moves = refl

-- an integer that looks like an address leads nowhere
abbrev address_like : List Object
address_like = one 4 (to 5) ∷ item 3 (to 5) ∷ item 2 (to 3) ∷ item 4320 (to 4) ∷ item 9 Null ∷ []

address_needed : needed_objects (versions (list plain_node (3 ∷ [])) (list tagged_node (3 ∷ [])) []) (store address_like) ≡ 0 ∷ 1 ∷ 2 ∷ 3 ∷ 4 ∷ 5 ∷ []
unfolding V.shape-the_row-Value-0 V.hidden-the_row-Value-0 V.shown-the_row-Value-0 V.shape-the_row-Value-1 V.hidden-the_row-Value-1 V.shown-the_row-Value-1 denote.Hole.Carrier.hidden Rattle.src_tree.specs.declared.value.Value.TheViews.out-Value denote.Hole.Carrier.out denote.Hole.Carrier.shown digits
address_needed = refl

-- k gains an allocation
abbrev list_of_two : Program
list_of_two =
    program (parts (T.Struct 1 ∷ T.Pointer 3 ∷ []) (plain_node ∷ []) []) (global 8 4 ∷ []) (function 18 ∷ []) (site 0 0 0 ∷ site 0 1 3 ∷ [])

gained_site : update (list plain_node (3 ∷ [])) list_of_two [] cycle ≡ refuses W.UnpairedSite 2 (Index 0 ∷ []) (K.Site 0)
unfolding V.shape-the_row-Value-0 V.hidden-the_row-Value-0 V.shown-the_row-Value-0 V.shape-the_row-Value-1 V.hidden-the_row-Value-1 V.shown-the_row-Value-1 denote.Hole.Carrier.hidden Rattle.src_tree.specs.declared.value.Value.TheViews.out-Value denote.Hole.Carrier.out denote.Hole.Carrier.shown digits
gained_site = refl

gained_needed : needed_objects (versions (list plain_node (3 ∷ [])) list_of_two []) (store cycle) ≡ 0 ∷ 1 ∷ 2 ∷ 3 ∷ 4 ∷ 5 ∷ []
unfolding V.shape-the_row-Value-0 V.hidden-the_row-Value-0 V.shown-the_row-Value-0 V.shape-the_row-Value-1 V.hidden-the_row-Value-1 V.shown-the_row-Value-1 denote.Hole.Carrier.hidden Rattle.src_tree.specs.declared.value.Value.TheViews.out-Value denote.Hole.Carrier.out denote.Hole.Carrier.shown digits
gained_needed = refl

abbrev moved_site : List Rename
moved_site = record { table = R.Site; old = codes "k#0"; new = codes "k#1" } ∷ []

abbrev later : ℕ → Value → Object
later v next = heap 1 3 (node v next ∷ [])

renamed_site : update (list plain_node (3 ∷ [])) list_of_two moved_site cycle
    ≡ moves_to (one 4 (to 5) ∷ later 3 (to 5) ∷ later 2 (to 3) ∷ later 1 (to 4) ∷ [])
unfolding V.shape-the_row-Value-0 V.hidden-the_row-Value-0 V.shown-the_row-Value-0 V.shape-the_row-Value-1 V.hidden-the_row-Value-1 V.shown-the_row-Value-1 denote.Hole.Carrier.hidden Rattle.src_tree.specs.declared.value.Value.TheViews.out-Value denote.Hole.Carrier.out denote.Hole.Carrier.shown digits
renamed_site = refl

-- struct p { int u; int p; struct p *n; } with a long long behind u, an array of 64, its end, a list in it, and two functions
abbrev process : List (ℕ × ℕ) → TagDef
process fields = tag 23 (Rattle.std.specs.Prelude.map (λ f. field f.0 f.1) fields)

abbrev processes : TagDef → Program
processes p =
    program (parts (T.Struct 1 ∷ T.Array 3 64 ∷ T.Pointer 3 ∷ T.Function 0 ∷ T.Array 6 2 ∷ T.Int I.LongLong ∷ []) (p ∷ []) []) (global 27 4 ∷ global 19 5 ∷ global 15 5 ∷ global 21 0 ∷ global 10 7 ∷ []) (function 8 ∷ function 9 ∷ []) []

abbrev row : ℕ → ℕ → Value → Value
row used pid next = Struct (int used ∷ int pid ∷ next ∷ [])

abbrev long_row : ℕ → ℕ → Value → Value
long_row used pid next = Struct (int used ∷ int 0 ∷ int pid ∷ next ∷ [])

abbrev rest_of : List Value → List Object
rest_of rows = variable 3 rows ∷ []

process_table : update (processes (process ((28, 0) ∷ (23, 0) ∷ (21, 5) ∷ []))) (processes (process ((28, 0) ∷ (26, 8) ∷ (23, 0) ∷ (21, 5) ∷ []))) []
    (variable 3 (row 1 1 Null ∷ row 1 2 (Pointer 2 0) ∷ replicate 62 (row 0 0 Null)) ∷ one 5 (Pointer 2 768) ∷ one 5 (Pointer 2 12) ∷ one 0 (int 3) ∷ variable 6 (Function 0 ∷ Function 1 ∷ []) ∷ [])
    ≡ moves_to (variable 3 (long_row 1 1 Null ∷ long_row 1 2 (Pointer 2 0) ∷ replicate 62 (long_row 0 0 Null)) ∷ one 5 (Pointer 2 1536) ∷ one 5 (Pointer 2 24) ∷ one 0 (int 3) ∷ variable 6 (Function 0 ∷ Function 1 ∷ []) ∷ [])
unfolding V.shape-the_row-Value-0 V.hidden-the_row-Value-0 V.shown-the_row-Value-0 V.shape-the_row-Value-1 V.hidden-the_row-Value-1 V.shown-the_row-Value-1 denote.Hole.Carrier.hidden Rattle.src_tree.specs.declared.value.Value.TheViews.out-Value denote.Hole.Carrier.out denote.Hole.Carrier.shown
process_table = refl

-- char *a, char *b; an array of 4194304 chars, of which only the count stands here
abbrev large : ℕ → Program
large t =
    program (parts (T.Int I.Char ∷ T.Int I.Short ∷ T.Pointer t ∷ []) [] []) (global 8 5 ∷ global 9 5 ∷ []) [] (site 0 0 t ∷ [])

abbrev counted : ℕ → Object
counted n = record (heap 0 3 []) { count = n }

heap_limit : update (large 3) (large 4) [] (one 5 (to 4) ∷ one 5 Null ∷ counted 4194304 ∷ []) ≡ refuses W.HeapLimit 4 [] K.Nothing
unfolding V.shape-the_row-Value-0 V.hidden-the_row-Value-0 V.shown-the_row-Value-0 V.shape-the_row-Value-1 V.hidden-the_row-Value-1 V.shown-the_row-Value-1 denote.Hole.Carrier.hidden Rattle.src_tree.specs.declared.value.Value.TheViews.out-Value denote.Hole.Carrier.out denote.Hole.Carrier.shown digits
heap_limit = refl
