-- The encoding of instructions as bytes.
use Rattle.std.specs.Prelude.{◌≡◌, ◌≢◌, ℕ, ◌<◌, ◌^◌, List, [], ◌∷◌, ◌++◌, length, All}
use Rattle.std.specs.List.{flat_map}
use Rattle.lu_spec.specs.LittleEndian.{little_endian}
use Rattle.bm_isa.specs.declared.instr.Instr.{Instr}
use Rattle.bm_isa.specs.declared.instr.Instr.TheVariants.{Const, GetLocal, SetLocal, Pop, Duplicate, Add, Subtract, Multiply, DivideSigned, DivideUnsigned, RemainderSigned, RemainderUnsigned, And, Or, Xor, ShiftLeft, ShiftRightSigned, ShiftRightUnsigned, Normalize, Equal, LessSigned, LessUnsigned, Not, Jump, JumpIfZero, AddPointer, SubtractPointer, PointerDifference, PointerLess, CheckPointer, Field, Index, IndexEnd, Load, Store, CopyBytes, ReadUnion, WriteUnion, Call, CallIndirect, Return, ReturnValue, Swap, Allocate, Free, SendMessage, Panic}
use Rattle.bm_isa.specs.declared.instr.Operands.{Operands}
use Rattle.bm_isa.specs.declared.instr.Operands.TheVariants.{Nothing, One, Two, Three, Word}

-- the number of an instruction, and its operands
unfoldable pub parts_of : Instr → ℕ × Operands
parts_of (Const value) = (1, Word value)
parts_of (GetLocal local) = (2, One local)
parts_of (SetLocal local) = (3, One local)
parts_of Pop = (4, Nothing)
parts_of Duplicate = (5, Nothing)
parts_of Add = (6, Nothing)
parts_of Subtract = (7, Nothing)
parts_of Multiply = (8, Nothing)
parts_of DivideSigned = (9, Nothing)
parts_of DivideUnsigned = (10, Nothing)
parts_of RemainderSigned = (11, Nothing)
parts_of RemainderUnsigned = (12, Nothing)
parts_of And = (13, Nothing)
parts_of Or = (14, Nothing)
parts_of Xor = (15, Nothing)
parts_of (ShiftLeft width) = (16, One width)
parts_of (ShiftRightSigned width) = (17, One width)
parts_of (ShiftRightUnsigned width) = (18, One width)
parts_of (Normalize int_type) = (19, One int_type)
parts_of Equal = (20, Nothing)
parts_of LessSigned = (21, Nothing)
parts_of LessUnsigned = (22, Nothing)
parts_of Not = (23, Nothing)
parts_of (Jump target) = (24, One target)
parts_of (JumpIfZero target) = (25, One target)
parts_of (AddPointer size) = (26, One size)
parts_of (SubtractPointer size) = (27, One size)
parts_of (PointerDifference size) = (28, One size)
parts_of PointerLess = (29, Nothing)
parts_of (CheckPointer type_number) = (30, One type_number)
parts_of (Field offset) = (31, One offset)
parts_of (Index count size) = (32, Two count size)
parts_of (IndexEnd count size) = (33, Two count size)
parts_of (Load kind) = (34, One kind)
parts_of (Store kind) = (35, One kind)
parts_of (CopyBytes size) = (36, One size)
parts_of (ReadUnion member) = (37, One member)
parts_of (WriteUnion member offset size) = (38, Three member offset size)
parts_of (Call function) = (39, One function)
parts_of (CallIndirect arguments) = (40, One arguments)
parts_of Return = (41, Nothing)
parts_of ReturnValue = (42, Nothing)
parts_of Swap = (43, Nothing)
parts_of (Allocate site) = (44, One site)
parts_of Free = (45, Nothing)
parts_of SendMessage = (46, Nothing)
parts_of Panic = (47, Nothing)

-- each operand has four bytes, the lowest first, and a word eight
abbrev pub operand_bytes : Operands → List ℕ
operand_bytes Nothing = []
operand_bytes (One a) = little_endian 4 a
operand_bytes (Two a b) = little_endian 4 a ++ little_endian 4 b
operand_bytes (Three a b c) = little_endian 4 a ++ little_endian 4 b ++ little_endian 4 c
operand_bytes (Word word) = little_endian 8 word

-- the number in one byte, and then the operands
unfoldable pub instruction_bytes : Instr → List ℕ
instruction_bytes i = (parts_of i).0 ∷ operand_bytes (parts_of i).1

abbrev pub code_bytes : List Instr → List ℕ
code_bytes code = flat_map instruction_bytes code

-- the numbers fit the bytes that they have
abbrev pub OperandsFit : Operands → Type 0
OperandsFit Nothing = Unit {0}
OperandsFit (One a) = a < 2 ^ 32
OperandsFit (Two a b) = (a < 2 ^ 32) × (b < 2 ^ 32)
OperandsFit (Three a b c) = (a < 2 ^ 32) × (b < 2 ^ 32) × (c < 2 ^ 32)
OperandsFit (Word word) = word < 2 ^ 64

-- an instruction as the machine holds it
unfoldable pub FitsMachine : Instr → Type 0
FitsMachine i = OperandsFit (parts_of i).1

-- no instruction stands at the front of the bytes: its number is unknown, or it is cut off
abbrev pub BeginsWithNone : List ℕ → Type 0
BeginsWithNone bytes = (i : Instr) (rest : List ℕ) → FitsMachine i → bytes ≢ instruction_bytes i ++ rest

-- instructions, and then bytes at that place at whose front no instruction stands
pub record IsFirstBad (bytes : List ℕ) (at : ℕ) : Type 0 where
  pub code : List Instr
  pub fits : All FitsMachine code
  pub rest : List ℕ
  pub split : bytes ≡ code_bytes code ++ rest
  pub offset : length (code_bytes code) ≡ at
  pub more : rest ≢ []
  pub none : BeginsWithNone rest
