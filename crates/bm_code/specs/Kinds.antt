-- The instructions by what they work on.
use Rattle.bm_isa.specs.declared.instr.Instr.{Instr}
use Rattle.bm_isa.specs.declared.instr.Instr.TheVariants as I
use Rattle.bm_alu.specs.declared.binary.Binary.TheVariants as B
use Rattle.bm_alu.specs.declared.unary.Unary.TheVariants as U
use Rattle.bm_code.specs.declared.operation.Operation.{Operation}
use Rattle.bm_code.specs.declared.operation.Operation.TheVariants.{OnStack, OnWord, OnWords, OnPointers, Reads, Writes, Transfers, Serves}
use Rattle.bm_code.specs.declared.operation.Stacking.TheVariants.{Constant, GetLocal, SetLocal, Pop, Duplicate, Swap}
use Rattle.bm_code.specs.declared.operation.Pointing.TheVariants as P
use Rattle.bm_code.specs.declared.operation.Reading.TheVariants as R
use Rattle.bm_code.specs.declared.operation.Writing.TheVariants as W
use Rattle.bm_code.specs.declared.operation.Transfer.TheVariants as T
use Rattle.bm_code.specs.declared.operation.Service.TheVariants as S

abbrev pub operation_of : Instr → Operation
operation_of (I.Const value) = OnStack (Constant value)
operation_of (I.GetLocal local) = OnStack (GetLocal local)
operation_of (I.SetLocal local) = OnStack (SetLocal local)
operation_of I.Pop = OnStack Pop
operation_of I.Duplicate = OnStack Duplicate
operation_of I.Add = OnWords B.Add
operation_of I.Subtract = OnWords B.Subtract
operation_of I.Multiply = OnWords B.Multiply
operation_of I.DivideSigned = OnWords B.DivideSigned
operation_of I.DivideUnsigned = OnWords B.DivideUnsigned
operation_of I.RemainderSigned = OnWords B.RemainderSigned
operation_of I.RemainderUnsigned = OnWords B.RemainderUnsigned
operation_of I.And = OnWords B.And
operation_of I.Or = OnWords B.Or
operation_of I.Xor = OnWords B.Xor
operation_of (I.ShiftLeft width) = OnWords (B.ShiftLeft width)
operation_of (I.ShiftRightSigned width) = OnWords (B.ShiftRightSigned width)
operation_of (I.ShiftRightUnsigned width) = OnWords (B.ShiftRightUnsigned width)
operation_of (I.Normalize int_type) = OnWord (U.Normalize int_type)
operation_of I.Equal = OnWords B.Equal
operation_of I.LessSigned = OnWords B.LessSigned
operation_of I.LessUnsigned = OnWords B.LessUnsigned
operation_of I.Not = OnWord U.Not
operation_of (I.Jump target) = Transfers (T.Jump target)
operation_of (I.JumpIfZero target) = Transfers (T.JumpIfZero target)
operation_of (I.AddPointer size) = OnPointers (P.Add size)
operation_of (I.SubtractPointer size) = OnPointers (P.Subtract size)
operation_of (I.PointerDifference size) = OnPointers (P.Difference size)
operation_of I.PointerLess = OnPointers P.Less
operation_of (I.CheckPointer type_number) = Reads (R.Check type_number)
operation_of (I.Field offset) = OnWord (U.Field offset)
operation_of (I.Index count size) = OnWords (B.Index count size)
operation_of (I.IndexEnd count size) = OnWords (B.IndexEnd count size)
operation_of (I.Load kind) = Reads (R.Load kind)
operation_of (I.Store kind) = Writes (W.Store kind)
operation_of (I.CopyBytes size) = Writes (W.Copy size)
operation_of (I.ReadUnion member) = Reads (R.Union member)
operation_of (I.WriteUnion member offset size) = Writes (W.Union member offset size)
operation_of (I.Call function) = Transfers (T.Call function)
operation_of (I.CallIndirect arguments) = Transfers (T.CallIndirect arguments)
operation_of I.Return = Transfers T.Return
operation_of I.ReturnValue = Transfers T.ReturnValue
operation_of I.Swap = OnStack Swap
operation_of (I.Allocate site) = Serves (S.Allocate site)
operation_of I.Free = Serves S.Free
operation_of I.SendMessage = Serves S.Send
operation_of I.Panic = Serves S.Panic
