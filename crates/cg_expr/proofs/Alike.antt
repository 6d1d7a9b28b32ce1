-- Instructions that are the same for both signs.
use Rattle.std.proofs.Common.{◌≡◌, refl, ap, Bool, true, false, if◌then◌else◌, List, [], ◌∷◌, Option, Some, None}
use Rattle.c_types.specs.declared.parts.IntKind.{IntKind}
use Rattle.c_types.specs.declared.parts.Ty.{Ty}
use Rattle.c_types.specs.declared.parts.Ty.TheVariants as T
use Rattle.bm_isa.specs.declared.instr.Instr.{Instr}
use Rattle.bm_isa.specs.declared.instr.Instr.TheVariants as I
use Rattle.src_meaning.specs.Integers.{is_signed, bits_of}
use Rattle.cg_expr.specs.Pieces.{int_number, by_kind, signed_or, arithmetic}

either : (b : Bool) (a : Instr) → (if b then a else a) ≡ a
either true a = refl
either false a = refl

pub arithmetic-alike : (t : Option Ty) (a : Instr) → arithmetic t (λ kind. signed_or kind a a) ≡ arithmetic t (λ kind. a)
arithmetic-alike (Some (T.Int kind)) a = ap (λ i. i ∷ I.Normalize (int_number kind) ∷ []) (either (is_signed kind) a)
arithmetic-alike (Some (T.Pointer s)) a = refl
arithmetic-alike (Some T.VoidPointer) a = refl
arithmetic-alike (Some (T.Function g)) a = refl
arithmetic-alike (Some (T.Struct s)) a = refl
arithmetic-alike (Some (T.Union u)) a = refl
arithmetic-alike (Some (T.Array s n)) a = refl
arithmetic-alike None a = refl

pub arithmetic-left : (t : Option Ty) → arithmetic t (λ kind. signed_or kind (I.ShiftLeft (by_kind t 0 bits_of)) (I.ShiftLeft (by_kind t 0 bits_of))) ≡ arithmetic t (λ kind. I.ShiftLeft (bits_of kind))
arithmetic-left (Some (T.Int kind)) =
    ap (λ i. i ∷ I.Normalize (int_number kind) ∷ []) (either (is_signed kind) (I.ShiftLeft (bits_of kind)))
arithmetic-left (Some (T.Pointer s)) = refl
arithmetic-left (Some T.VoidPointer) = refl
arithmetic-left (Some (T.Function g)) = refl
arithmetic-left (Some (T.Struct s)) = refl
arithmetic-left (Some (T.Union u)) = refl
arithmetic-left (Some (T.Array s n)) = refl
arithmetic-left None = refl

pub arithmetic-right : (t : Option Ty) → arithmetic t (λ kind. signed_or kind (I.ShiftRightSigned (by_kind t 0 bits_of)) (I.ShiftRightUnsigned (by_kind t 0 bits_of))) ≡ arithmetic t (λ kind. signed_or kind (I.ShiftRightSigned (bits_of kind)) (I.ShiftRightUnsigned (bits_of kind)))
arithmetic-right (Some (T.Int kind)) = refl
arithmetic-right (Some (T.Pointer s)) = refl
arithmetic-right (Some T.VoidPointer) = refl
arithmetic-right (Some (T.Function g)) = refl
arithmetic-right (Some (T.Struct s)) = refl
arithmetic-right (Some (T.Union u)) = refl
arithmetic-right (Some (T.Array s n)) = refl
arithmetic-right None = refl

pub ruleset alike = (arithmetic-alike, arithmetic-left, arithmetic-right)
