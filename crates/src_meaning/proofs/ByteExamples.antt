-- Values laid out as bytes by computation.
use Rattle.std.proofs.Common.{◌≡◌, refl, pos, negsuc, [], ◌∷◌}
use Rattle.src_tree.specs.declared.value.Value.{Value, Int, Null, Pointer, Function, Struct, Array, Union}
use Rattle.src_tree.specs.declared.value.Value.TheBlock as V
use Rattle.src_meaning.specs.ValueBytes.{bytes_of}
use Rattle.src_meaning.proofs.Sample.{parts}

-- { 258, pointer }, a union with its pointer active and with its int active, an array of chars, and a function
bytes :
    (bytes_of parts (4096 ∷ 4144 ∷ []) 11 (Struct (Int (pos 258) ∷ Pointer 1 2 ∷ [])) ≡ 2 ∷ 1 ∷ 0 ∷ 0 ∷ 50 ∷ 16 ∷ 0 ∷ 0 ∷ [])
    × (bytes_of parts (4096 ∷ 4144 ∷ []) 13 (Union 1 (Pointer 0 0)) ≡ 1 ∷ 0 ∷ 0 ∷ 0 ∷ 0 ∷ 16 ∷ 0 ∷ 0 ∷ [])
    × (bytes_of parts [] 13 (Union 0 (Int (negsuc 1))) ≡ 0 ∷ 0 ∷ 0 ∷ 0 ∷ 254 ∷ 255 ∷ 255 ∷ 255 ∷ [])
    × (bytes_of parts [] 17 (Array (Int (negsuc 0) ∷ Int (pos 1) ∷ Int (pos 2) ∷ Int (pos 3) ∷ [])) ≡ 255 ∷ 1 ∷ 2 ∷ 3 ∷ [])
    × (bytes_of parts [] 15 (Function 2) ≡ 3 ∷ 0 ∷ 0 ∷ 0 ∷ [])
    × (bytes_of (record parts { pointer = 8 }) [] 11 (Struct (Int (pos 1) ∷ Null ∷ [])) ≡ 1 ∷ 0 ∷ 0 ∷ 0 ∷ 0 ∷ 0 ∷ 0 ∷ 0 ∷ 0 ∷ 0 ∷ 0 ∷ 0 ∷ 0 ∷ 0 ∷ 0 ∷ 0 ∷ [])
unfolding Rattle.lu_spec.specs.LittleEndian.little_endian V.shape-the_row-Value-0 V.hidden-the_row-Value-0 V.shown-the_row-Value-0 V.shape-the_row-Value-1 V.hidden-the_row-Value-1 V.shown-the_row-Value-1 denote.Hole.Carrier.hidden Rattle.src_tree.specs.declared.value.Value.TheViews.out-Value denote.Hole.Carrier.out denote.Hole.Carrier.shown
bytes = (refl, refl, refl, refl, refl, refl)
