-- The table of the instructions from number and operands back: no two instructions share both, and a number has one
-- kind of operands.
use Rattle.std.proofs.Common.{◌≡◌, ◌∙◌, sym, ap, refl, ℕ, Option, Some, None, ◌==◌, if◌then◌else◌}
use Rattle.bm_isa.specs.declared.instr.Instr.{Instr}
use Rattle.bm_isa.specs.declared.instr.Instr.TheVariants.{Const, GetLocal, SetLocal, Pop, Duplicate, Add, Subtract, Multiply, DivideSigned, DivideUnsigned, RemainderSigned, RemainderUnsigned, And, Or, Xor, ShiftLeft, ShiftRightSigned, ShiftRightUnsigned, Normalize, Equal, LessSigned, LessUnsigned, Not, Jump, JumpIfZero, AddPointer, SubtractPointer, PointerDifference, PointerLess, CheckPointer, Field, Index, IndexEnd, Load, Store, CopyBytes, ReadUnion, WriteUnion, Call, CallIndirect, Return, ReturnValue, Swap, Allocate, Free, SendMessage, Panic}
use Rattle.bm_isa.specs.declared.instr.Operands.{Operands}
use Rattle.bm_isa.specs.declared.instr.Operands.TheVariants.{Nothing, One, Two, Three, Word}
use Rattle.bm_isa.specs.Encoding.{parts_of}

instruction_of : ℕ → Operands → Option Instr
instruction_of n Nothing = if n == 4 then Some Pop else (if n == 5 then Some Duplicate else (if n == 6 then Some Add else (if n == 7 then Some Subtract else (if n == 8 then Some Multiply else (if n == 9 then Some DivideSigned else (if n == 10 then Some DivideUnsigned else (if n == 11 then Some RemainderSigned else (if n == 12 then Some RemainderUnsigned else (if n == 13 then Some And else (if n == 14 then Some Or else (if n == 15 then Some Xor else (if n == 20 then Some Equal else (if n == 21 then Some LessSigned else (if n == 22 then Some LessUnsigned else (if n == 23 then Some Not else (if n == 29 then Some PointerLess else (if n == 41 then Some Return else (if n == 42 then Some ReturnValue else (if n == 43 then Some Swap else (if n == 45 then Some Free else (if n == 46 then Some SendMessage else (if n == 47 then Some Panic else None))))))))))))))))))))))
instruction_of n (One a) = if n == 2 then Some (GetLocal a) else (if n == 3 then Some (SetLocal a) else (if n == 16 then Some (ShiftLeft a) else (if n == 17 then Some (ShiftRightSigned a) else (if n == 18 then Some (ShiftRightUnsigned a) else (if n == 19 then Some (Normalize a) else (if n == 24 then Some (Jump a) else (if n == 25 then Some (JumpIfZero a) else (if n == 26 then Some (AddPointer a) else (if n == 27 then Some (SubtractPointer a) else (if n == 28 then Some (PointerDifference a) else (if n == 30 then Some (CheckPointer a) else (if n == 31 then Some (Field a) else (if n == 34 then Some (Load a) else (if n == 35 then Some (Store a) else (if n == 36 then Some (CopyBytes a) else (if n == 37 then Some (ReadUnion a) else (if n == 39 then Some (Call a) else (if n == 40 then Some (CallIndirect a) else (if n == 44 then Some (Allocate a) else None)))))))))))))))))))
instruction_of n (Two a b) = if n == 32 then Some (Index a b) else (if n == 33 then Some (IndexEnd a b) else None)
instruction_of n (Three a b c) = if n == 38 then Some (WriteUnion a b c) else None
instruction_of n (Word word) = if n == 1 then Some (Const word) else None

back_again : (i : Instr) → instruction_of (parts_of i).0 (parts_of i).1 ≡ Some i
unfolding parts_of instruction_of
back_again (Const word) = refl
back_again (GetLocal a) = refl
back_again (SetLocal a) = refl
back_again Pop = refl
back_again Duplicate = refl
back_again Add = refl
back_again Subtract = refl
back_again Multiply = refl
back_again DivideSigned = refl
back_again DivideUnsigned = refl
back_again RemainderSigned = refl
back_again RemainderUnsigned = refl
back_again And = refl
back_again Or = refl
back_again Xor = refl
back_again (ShiftLeft a) = refl
back_again (ShiftRightSigned a) = refl
back_again (ShiftRightUnsigned a) = refl
back_again (Normalize a) = refl
back_again Equal = refl
back_again LessSigned = refl
back_again LessUnsigned = refl
back_again Not = refl
back_again (Jump a) = refl
back_again (JumpIfZero a) = refl
back_again (AddPointer a) = refl
back_again (SubtractPointer a) = refl
back_again (PointerDifference a) = refl
back_again PointerLess = refl
back_again (CheckPointer a) = refl
back_again (Field a) = refl
back_again (Index a b) = refl
back_again (IndexEnd a b) = refl
back_again (Load a) = refl
back_again (Store a) = refl
back_again (CopyBytes a) = refl
back_again (ReadUnion a) = refl
back_again (WriteUnion a b c) = refl
back_again (Call a) = refl
back_again (CallIndirect a) = refl
back_again Return = refl
back_again ReturnValue = refl
back_again Swap = refl
back_again (Allocate a) = refl
back_again Free = refl
back_again SendMessage = refl
back_again Panic = refl

-- no two instructions have the same parts
pub same_from_parts : (i j : Instr) → parts_of i ≡ parts_of j → i ≡ j
same_from_parts i j e =
    let is : ◌≡◌ {A = Option Instr} (Some i) (Some j) = sym (back_again i) ∙ (ap (λ p. instruction_of p.0 p.1) e ∙ back_again j) in cc

-- the kind of operands, as those with the numbers 0
abbrev pub kind_of : Operands → Operands
kind_of Nothing = Nothing
kind_of (One a) = One 0
kind_of (Two a b) = Two 0 0
kind_of (Three a b c) = Three 0 0 0
kind_of (Word word) = Word 0

kind_at : ℕ → Operands
kind_at n = if n == 1 then Word 0 else (if n == 2 then One 0 else (if n == 3 then One 0 else (if n == 16 then One 0 else (if n == 17 then One 0 else (if n == 18 then One 0 else (if n == 19 then One 0 else (if n == 24 then One 0 else (if n == 25 then One 0 else (if n == 26 then One 0 else (if n == 27 then One 0 else (if n == 28 then One 0 else (if n == 30 then One 0 else (if n == 31 then One 0 else (if n == 32 then Two 0 0 else (if n == 33 then Two 0 0 else (if n == 34 then One 0 else (if n == 35 then One 0 else (if n == 36 then One 0 else (if n == 37 then One 0 else (if n == 38 then Three 0 0 0 else (if n == 39 then One 0 else (if n == 40 then One 0 else (if n == 44 then One 0 else Nothing)))))))))))))))))))))))

kind_is : (i : Instr) → kind_of (parts_of i).1 ≡ kind_at (parts_of i).0
unfolding parts_of kind_at
kind_is (Const word) = refl
kind_is (GetLocal a) = refl
kind_is (SetLocal a) = refl
kind_is Pop = refl
kind_is Duplicate = refl
kind_is Add = refl
kind_is Subtract = refl
kind_is Multiply = refl
kind_is DivideSigned = refl
kind_is DivideUnsigned = refl
kind_is RemainderSigned = refl
kind_is RemainderUnsigned = refl
kind_is And = refl
kind_is Or = refl
kind_is Xor = refl
kind_is (ShiftLeft a) = refl
kind_is (ShiftRightSigned a) = refl
kind_is (ShiftRightUnsigned a) = refl
kind_is (Normalize a) = refl
kind_is Equal = refl
kind_is LessSigned = refl
kind_is LessUnsigned = refl
kind_is Not = refl
kind_is (Jump a) = refl
kind_is (JumpIfZero a) = refl
kind_is (AddPointer a) = refl
kind_is (SubtractPointer a) = refl
kind_is (PointerDifference a) = refl
kind_is PointerLess = refl
kind_is (CheckPointer a) = refl
kind_is (Field a) = refl
kind_is (Index a b) = refl
kind_is (IndexEnd a b) = refl
kind_is (Load a) = refl
kind_is (Store a) = refl
kind_is (CopyBytes a) = refl
kind_is (ReadUnion a) = refl
kind_is (WriteUnion a b c) = refl
kind_is (Call a) = refl
kind_is (CallIndirect a) = refl
kind_is Return = refl
kind_is ReturnValue = refl
kind_is Swap = refl
kind_is (Allocate a) = refl
kind_is Free = refl
kind_is SendMessage = refl
kind_is Panic = refl

-- a number has one kind of operands
pub same_kind : (i j : Instr) → (parts_of i).0 ≡ (parts_of j).0 → kind_of (parts_of i).1 ≡ kind_of (parts_of j).1
same_kind i j e = kind_is i ∙ (ap kind_at e ∙ sym (kind_is j))
