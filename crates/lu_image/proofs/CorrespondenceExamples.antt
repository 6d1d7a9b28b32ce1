-- Which types of a small table correspond, where its first struct pairs with the second and its union has no pair.
use Rattle.std.proofs.Common.{◌≡◌, refl, ℕ, Bool, true, false, [], ◌∷◌, Some, None}
use Rattle.c_types.specs.declared.parts.Parts.{Parts}
use Rattle.c_types.specs.declared.parts.Ty.TheVariants as T
use Rattle.c_types.specs.declared.parts.IntKind.TheVariants as K
use Rattle.lu_image.specs.Correspondence.{corresponds}

abbrev table : Parts
table = record {
  pointer = 4;
  types =
      T.Int K.UChar
      ∷ T.Int K.LongLong
      ∷ T.Array 1 4
      ∷ T.Array 0 8
      ∷ T.Pointer 0
      ∷ T.Pointer 1
      ∷ T.VoidPointer
      ∷ T.Function 0
      ∷ T.Function 1
      ∷ T.Struct 0
      ∷ T.Struct 1
      ∷ T.Pointer 9
      ∷ T.Pointer 10
      ∷ T.Pointer 4
      ∷ T.Union 0
      ∷ [];
  structs = [];
  unions = [];
  signatures = [];
}

abbrev same : ℕ → ℕ → Bool
same = corresponds table table (Some 1 ∷ None ∷ []) (None ∷ [])

-- unsigned char and long long
integers : same 0 1 ≡ true
integers = refl

-- long long[4] and unsigned char[8], long long
arrays : same 2 3 ≡ true
arrays = refl

array-element : same 2 1 ≡ false
array-element = refl

element-array : same 1 2 ≡ false
element-array = refl

-- unsigned char * and long long *, void *, unsigned char **
pointers : same 4 5 ≡ true
pointers = refl

pointer-void : same 4 6 ≡ false
pointer-void = refl

pointer-deep : same 13 4 ≡ false
pointer-deep = refl

void-pointers : same 6 6 ≡ true
void-pointers = refl

-- pointers to functions of two signatures
functions : same 7 8 ≡ true
functions = refl

function-void : same 7 6 ≡ false
function-void = refl

-- structs by their pairs, and pointers to them
structs : same 9 10 ≡ true
structs = refl

struct-itself : same 9 9 ≡ false
struct-itself = refl

struct-unpaired : same 10 10 ≡ false
struct-unpaired = refl

struct-pointers : same 11 12 ≡ true
struct-pointers = refl

struct-pointers-apart : same 12 11 ≡ false
struct-pointers-apart = refl

union-unpaired : same 14 14 ≡ false
union-unpaired = refl
