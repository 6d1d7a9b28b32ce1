-- The instructions that bytes stand for.
use Rattle.std.specs.Prelude.{ℕ, zero, suc, List, [], ◌∷◌, length, take, drop, Option, Some, None, slice_get, nat_lt, if◌then◌else◌}
use Rattle.std.specs.Int.{Width, w32, w64, byte_len, from_le_bytes}
use Rattle.lu_spec.specs.Then.{then_option}
use Rattle.bm_isa.specs.declared.instr.Instr.{Instr}
use Rattle.bm_isa.specs.declared.instr.Instr.TheVariants.{Const, GetLocal, SetLocal, Pop, Duplicate, Add, Subtract, Multiply, DivideSigned, DivideUnsigned, RemainderSigned, RemainderUnsigned, And, Or, Xor, ShiftLeft, ShiftRightSigned, ShiftRightUnsigned, Normalize, Equal, LessSigned, LessUnsigned, Not, Jump, JumpIfZero, AddPointer, SubtractPointer, PointerDifference, PointerLess, CheckPointer, Field, Index, IndexEnd, Load, Store, CopyBytes, ReadUnion, WriteUnion, Call, CallIndirect, Return, ReturnValue, Swap, Allocate, Free, SendMessage, Panic}

-- an instruction by its operands: none, a word, or one to three numbers
pub data Form : Type 0 where
  plain : Instr → Form
  with_word : (ℕ → Instr) → Form
  with_one : (ℕ → Instr) → Form
  with_two : (ℕ → ℕ → Instr) → Form
  with_three : (ℕ → ℕ → ℕ → Instr) → Form

-- the instructions of the numbers from 1 on
abbrev pub forms : List Form
forms =
    with_word Const ∷ with_one GetLocal ∷ with_one SetLocal ∷ plain Pop ∷ plain Duplicate
    ∷ plain Add ∷ plain Subtract ∷ plain Multiply
    ∷ plain DivideSigned ∷ plain DivideUnsigned ∷ plain RemainderSigned ∷ plain RemainderUnsigned
    ∷ plain And ∷ plain Or ∷ plain Xor
    ∷ with_one ShiftLeft ∷ with_one ShiftRightSigned ∷ with_one ShiftRightUnsigned ∷ with_one Normalize
    ∷ plain Equal ∷ plain LessSigned ∷ plain LessUnsigned ∷ plain Not
    ∷ with_one Jump ∷ with_one JumpIfZero
    ∷ with_one AddPointer ∷ with_one SubtractPointer ∷ with_one PointerDifference ∷ plain PointerLess ∷ with_one CheckPointer
    ∷ with_one Field ∷ with_two Index ∷ with_two IndexEnd
    ∷ with_one Load ∷ with_one Store ∷ with_one CopyBytes ∷ with_one ReadUnion ∷ with_three WriteUnion
    ∷ with_one Call ∷ with_one CallIndirect ∷ plain Return ∷ plain ReturnValue ∷ plain Swap
    ∷ with_one Allocate ∷ plain Free ∷ plain SendMessage ∷ plain Panic ∷ []

-- a number of so many bytes at the front, and the bytes behind it
abbrev pub operand_at : Width → List ℕ → Option (ℕ × List ℕ)
operand_at w bytes = if nat_lt (length bytes) (byte_len w) then None else Some (from_le_bytes w (take (byte_len w) bytes), drop (byte_len w) bytes)

abbrev pub formed_at : Form → List ℕ → Option (Instr × List ℕ)
formed_at (plain i) bytes = Some (i, bytes)
formed_at (with_word f) bytes = then_option (operand_at w64 bytes) (λ a. Some (f a.0, a.1))
formed_at (with_one f) bytes = then_option (operand_at w32 bytes) (λ a. Some (f a.0, a.1))
formed_at (with_two f) bytes = then_option (operand_at w32 bytes) (λ a. then_option (operand_at w32 a.1) (λ b. Some (f a.0 b.0, b.1)))
formed_at (with_three f) bytes =
    then_option (operand_at w32 bytes) (λ a. then_option (operand_at w32 a.1) (λ b. then_option (operand_at w32 b.1) (λ c. Some (f a.0 b.0 c.0, c.1))))

-- the instruction at the front of bytes, and the bytes behind it
unfoldable pub instruction_at : List ℕ → Option (Instr × List ℕ)
instruction_at [] = None
instruction_at (zero ∷ bytes) = None
instruction_at (suc n ∷ bytes) = then_option (slice_get forms n) (λ form. formed_at form bytes)

-- the instructions of bytes, which are at most `most`
unfoldable pub code_of : ℕ → List ℕ → Option (List Instr)
code_of most [] = Some []
code_of zero (b ∷ bytes) = None
code_of (suc most) (b ∷ bytes) =
    then_option (instruction_at (b ∷ bytes)) (λ i. then_option (code_of most i.1) (λ code. Some (i.0 ∷ code)))

-- the instructions whose encoding the bytes are
abbrev pub decoded : List ℕ → Option (List Instr)
decoded bytes = code_of (length bytes) bytes
