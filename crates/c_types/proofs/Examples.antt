-- Worked examples of the definitions, by computation.
use Rattle.std.proofs.Common.{◌≡◌, ◌+◌, ◌^◌, refl, [], ◌∷◌, Some, None, true, false, inl, inr, lit<}
use Rattle.c_types.specs.declared.parts.IntKind.TheVariants.{Char, Short, Int as Int_kind, LongLong}
use Rattle.c_types.specs.declared.parts.Ty.TheVariants.{Int, Pointer, VoidPointer, Struct, Union, Array}
use Rattle.c_types.specs.declared.parts.Parts.{Parts}
use Rattle.c_types.specs.declared.path.Step.TheVariants.{Index, Field, Member}
use Rattle.c_types.specs.Numbering.{is_well_numbered}
use Rattle.c_types.specs.Chain.{one, more, IsCyclic}
use Rattle.c_types.specs.Layout.{shape, shape_of, field_offset, member_offset}
use Rattle.c_types.specs.Place.{place, path_place, object_place, IsPlaceAt}
use Rattle.c_types.specs.Descent.{find_place}
use Rattle.c_types.specs.Refusal.{is_too_big}

-- struct proc { int used; int pid; struct proc *next; }
abbrev proc : Parts
proc = record {
  pointer = 4;
  types = Int Int_kind ∷ Struct 0 ∷ Pointer 1 ∷ [];
  structs = record {
    tag = 0;
    fields = record { name = 1; ty = 0 } ∷ record { name = 2; ty = 0 } ∷ record { name = 3; ty = 2 } ∷ [];
  } ∷ [];
  unions = [];
  signatures = [];
}

proc-numbered : is_well_numbered proc ≡ true
proc-numbered = refl

proc-shape : shape_of proc 1 ≡ shape 12 4
proc-shape = refl

-- with pointers of 8 bytes
proc-wide : shape_of (record proc { pointer = 8 }) 1 ≡ shape 16 8
proc-wide = refl

-- no pointer has 5 bytes
five-refused : is_well_numbered (record proc { pointer = 5 }) ≡ false
five-refused = refl

-- of 64 such, the int at offset 16 is the second's pid
pid : IsPlaceAt proc 1 64 16 0 (Index 1 ∷ Field 1 ∷ [])
pid = record { leads = refl; outside = refl }

pid-found : find_place proc 1 64 16 0 ≡ Some (Index 1 ∷ Field 1 ∷ [])
pid-found = refl

-- no int begins at offset 18, nor at the end
none-between : find_place proc 1 64 18 0 ≡ None
none-between = refl

none-past : find_place proc 1 64 768 0 ≡ None
none-past = refl

-- struct { char; long long; short; }, an array of 3 of it, and a union of that struct and a short
abbrev mixed : Parts
mixed = record {
  pointer = 4;
  types = Int Char ∷ Int LongLong ∷ Int Short ∷ Struct 0 ∷ Array 3 3 ∷ Union 0 ∷ VoidPointer ∷ [];
  structs = record {
    tag = 0;
    fields = record { name = 1; ty = 0 } ∷ record { name = 2; ty = 1 } ∷ record { name = 3; ty = 2 } ∷ [];
  } ∷ [];
  unions = record { tag = 4; fields = record { name = 5; ty = 3 } ∷ record { name = 6; ty = 2 } ∷ [] } ∷ [];
  signatures = [];
}

mixed-struct : shape_of mixed 3 ≡ shape 24 8
mixed-struct = refl

mixed-last : field_offset mixed 0 2 ≡ 16
mixed-last = refl

mixed-array : shape_of mixed 4 ≡ shape 72 8
mixed-array = refl

-- the member number stands in 4 bytes, and all members at 8
mixed-union : shape_of mixed 5 ≡ shape 32 8
mixed-union = refl

mixed-members : member_offset mixed 0 ≡ 8
mixed-members = refl

-- a path may go into a union, and a place that is found may not
in-union : object_place mixed 5 1 (Index 0 ∷ Member 0 ∷ Field 1 ∷ []) ≡ Some (place 1 16)
in-union = refl

not-in-union : find_place mixed 5 1 16 1 ≡ None
not-in-union = refl

in-array : path_place mixed 4 (Index 2 ∷ Field 2 ∷ []) ≡ Some (place 2 64)
in-array = refl

-- two pointers to each other, and a struct that holds itself in an array
abbrev cyclic : Parts
cyclic = record {
  pointer = 4;
  types = Pointer 1 ∷ Pointer 0 ∷ Struct 0 ∷ Array 2 3 ∷ Struct 1 ∷ Pointer 4 ∷ [];
  structs = record { tag = 0; fields = record { name = 1; ty = 3 } ∷ [] } ∷ record { tag = 2; fields = record { name = 1; ty = 5 } ∷ [] } ∷ [];
  unions = [];
  signatures = [];
}

pointers-cyclic : IsCyclic cyclic 0
pointers-cyclic = inr (tt, more (0, lit< tt, refl) (one (0, lit< tt, refl)))

struct-cyclic : IsCyclic cyclic 2
struct-cyclic = inl (more (0, lit< tt, refl) (one (0, lit< tt, refl)))

-- an array of no element, and a length above the greatest
abbrev lengths : Parts
lengths = record {
  pointer = 4;
  types = Int Char ∷ Array 0 0 ∷ Array 0 (2 ^ 20) ∷ Array 0 (2 ^ 20 + 1) ∷ [];
  structs = [];
  unions = [];
  signatures = [];
}

no-length : is_too_big lengths 1 ≡ true
no-length = refl

greatest-length : is_too_big lengths 2 ≡ false
greatest-length = refl

too-long : is_too_big lengths 3 ≡ true
too-long = refl
