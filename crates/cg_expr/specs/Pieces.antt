-- Pieces of code that don't depend on the code around them.
use Rattle.std.specs.Prelude.{ℕ, ◌-◌, nat_eq, if◌then◌else◌, ℤ, List, [], ◌∷◌, Option, Some}
use Rattle.std.specs.Option.{option_map_or}
use Rattle.c_types.specs.declared.parts.Parts.{Parts}
use Rattle.c_types.specs.declared.parts.IntKind.{IntKind}
use Rattle.c_types.specs.declared.parts.IntKind.TheVariants as K
use Rattle.c_types.specs.declared.parts.Ty.{Ty}
use Rattle.c_types.specs.declared.parts.Ty.TheVariants as T
use Rattle.c_types.specs.declared.path.Step.{Step}
use Rattle.c_types.specs.declared.path.Step.TheVariants.{Field, Member}
use Rattle.c_types.specs.Layout.{size_of}
use Rattle.c_types.specs.Place.{step_place}
use Rattle.bm_isa.specs.declared.instr.Instr.{Instr}
use Rattle.bm_isa.specs.declared.instr.Instr.TheVariants as I
use Rattle.src_tree.specs.declared.expr.UnaryOperator.{UnaryOperator}
use Rattle.src_tree.specs.declared.expr.UnaryOperator.TheVariants.{Minus, Complement, Not}
use Rattle.src_tree.specs.declared.expr.LogicalOperator.{LogicalOperator}
use Rattle.src_tree.specs.declared.expr.LogicalOperator.TheVariants.{And, Or}
use Rattle.src_tree.specs.declared.expr.BinaryOperator.{BinaryOperator}
use Rattle.src_tree.specs.declared.expr.BinaryOperator.TheVariants.{Add, Subtract, Multiply, Divide, Remainder, BitAnd, BitXor, BitOr, ShiftLeft, ShiftRight, Less, LessEqual, Greater, GreaterEqual, Equal, NotEqual, PointerAdd, AddPointer, PointerSubtract, PointerDifference}
use Rattle.src_meaning.specs.Integers.{is_signed, bits_of, residue}
use Rattle.src_meaning.specs.Expression.{length_of}
use Rattle.src_meaning.specs.ValidTypes.{ty}

-- the bytes of a pointer in a table of types
abbrev pub pointer_size : Parts → ℕ
pointer_size p = p.pointer

-- the word of a number, modulo 2^64
abbrev pub word_of : ℤ → ℕ
word_of z = residue K.ULongLong z

-- the bytes of a type
abbrev pub type_size : Parts → ℕ → ℕ
type_size p t = size_of p t

abbrev pub int_number : IntKind → ℕ
int_number K.Char = 0
int_number K.UChar = 1
int_number K.Short = 2
int_number K.UShort = 3
int_number K.Int = 4
int_number K.UInt = 5
int_number K.LongLong = 6
int_number K.ULongLong = 7

-- pointers of 4 and of 8 bytes are two kinds, and so are functions
abbrev pub pointer_number : ℕ → ℕ
pointer_number w = if nat_eq w 8 then 10 else 8

abbrev pub function_number : ℕ → ℕ
function_number w = if nat_eq w 8 then 11 else 9

-- the kind of a scalar by its type; 12 is none
abbrev pub scalar_number : ℕ → Option Ty → ℕ
scalar_number w (Some (T.Int kind)) = int_number kind
scalar_number w (Some (T.Pointer t)) = pointer_number w
scalar_number w (Some T.VoidPointer) = pointer_number w
scalar_number w (Some (T.Function g)) = function_number w
scalar_number w _ = 12

-- a word cut to an integer type; pointers stay
abbrev pub normal : Option Ty → List Instr
normal (Some (T.Int kind)) = I.Normalize (int_number kind) ∷ []
normal _ = []

-- what f gives of the kind of an integer type
abbrev pub by_kind : {A : Type 0} → Option Ty → A → (IntKind → A) → A
by_kind (Some (T.Int kind)) other f = f kind
by_kind _ other f = other

abbrev pub signed_or : IntKind → Instr → Instr → Instr
signed_or kind a b = if is_signed kind then a else b

-- arithmetic in an integer type, and its result cut to it
abbrev pub arithmetic : Option Ty → (IntKind → Instr) → List Instr
arithmetic t f = by_kind t [] (λ kind. f kind ∷ I.Normalize (int_number kind) ∷ [])

abbrev pub less : Option Ty → Instr
less t = by_kind t I.PointerLess (λ kind. signed_or kind I.LessSigned I.LessUnsigned)

abbrev pub element_size_in : Parts → Option Ty → ℕ
element_size_in p (Some (T.Pointer t)) = type_size p t
element_size_in p _ = 0

-- the size of the elements that a pointer type points to
abbrev pub element_size : Parts → ℕ → ℕ
element_size p t = element_size_in p (ty p t)

abbrev pub unary_first : UnaryOperator → List Instr
unary_first Minus = I.Const 0 ∷ []
unary_first Complement = I.Const 18446744073709551615 ∷ []
unary_first Not = []

abbrev pub unary_last : Option Ty → UnaryOperator → List Instr
unary_last t Minus = arithmetic t (λ kind. I.Subtract)
unary_last t Complement = arithmetic t (λ kind. I.Subtract)
unary_last t Not = I.Not ∷ []

-- an operator on two words of an integer type; nothing for the others
abbrev pub integers_last : Option Ty → BinaryOperator → List Instr
integers_last t Add = arithmetic t (λ kind. I.Add)
integers_last t Subtract = arithmetic t (λ kind. I.Subtract)
integers_last t Multiply = arithmetic t (λ kind. I.Multiply)
integers_last t Divide = arithmetic t (λ kind. signed_or kind I.DivideSigned I.DivideUnsigned)
integers_last t Remainder = arithmetic t (λ kind. signed_or kind I.RemainderSigned I.RemainderUnsigned)
integers_last t BitAnd = arithmetic t (λ kind. I.And)
integers_last t BitXor = arithmetic t (λ kind. I.Xor)
integers_last t BitOr = arithmetic t (λ kind. I.Or)
integers_last t ShiftLeft = arithmetic t (λ kind. I.ShiftLeft (bits_of kind))
integers_last t ShiftRight =
    arithmetic t (λ kind. signed_or kind (I.ShiftRightSigned (bits_of kind)) (I.ShiftRightUnsigned (bits_of kind)))
integers_last t _ = []

-- an operator at a node of type t, whose left operand has type s
abbrev pub binary_last : Parts → ℕ → ℕ → BinaryOperator → List Instr
binary_last p t s Less = less (ty p s) ∷ []
binary_last p t s LessEqual = I.Swap ∷ less (ty p s) ∷ I.Not ∷ []
binary_last p t s Greater = I.Swap ∷ less (ty p s) ∷ []
binary_last p t s GreaterEqual = less (ty p s) ∷ I.Not ∷ []
binary_last p t s Equal = I.Equal ∷ []
binary_last p t s NotEqual = I.Equal ∷ I.Not ∷ []
binary_last p t s PointerAdd = I.AddPointer (element_size p t) ∷ []
binary_last p t s AddPointer = I.Swap ∷ I.AddPointer (element_size p t) ∷ []
binary_last p t s PointerSubtract = I.SubtractPointer (element_size p t) ∷ []
binary_last p t s PointerDifference = I.PointerDifference (element_size p s) ∷ []
binary_last p t s op = integers_last (ty p t) op

-- after this the left operand decides where its word is 0
abbrev pub logical_first : LogicalOperator → List Instr
logical_first And = []
logical_first Or = I.Not ∷ []

-- what the operator gives where the left operand decides
abbrev pub decided_value : LogicalOperator → ℕ
decided_value And = 0
decided_value Or = 1

-- 0 or 1 of a word
abbrev pub as_flag : List Instr
as_flag = I.Not ∷ I.Not ∷ []

-- where the part begins to which a step leads from a type; 0 where the type has no such part
abbrev pub step_offset : Parts → Option Ty → Step → ℕ
step_offset p t step = option_map_or (λ to. to.offset) (step_place p t step) 0

-- from a struct of type t to its field k
abbrev pub field_last : Parts → ℕ → ℕ → List Instr
field_last p t k = I.Field (step_offset p (ty p t) (Field k)) ∷ []

-- from a union of type t to its member k, which is read
abbrev pub member_last : Parts → ℕ → ℕ → List Instr
member_last p t k = I.ReadUnion k ∷ I.Field (step_offset p (ty p t) (Member k)) ∷ []

-- from a union of type t to its member k, which is assigned
abbrev pub enter_last : Parts → ℕ → ℕ → List Instr
enter_last p t k =
    let offset = step_offset p (ty p t) (Member k) in
    I.WriteUnion k offset (type_size p t - offset) ∷ I.Field offset ∷ []

-- from a pointer to its place of type t
abbrev pub deref_last : ℕ → List Instr
deref_last t = I.CheckPointer t ∷ []

-- from a pointer of type s and an index to the element of type t
abbrev pub item_last : Parts → ℕ → ℕ → List Instr
item_last p s t = I.AddPointer (element_size p s) ∷ I.CheckPointer t ∷ []

-- from an array of type s and an index to the element of type t
abbrev pub element_last : Parts → ℕ → ℕ → List Instr
element_last p s t = I.Index (length_of p s) (type_size p t) ∷ []

-- to its address, where the index may also be the number of elements
abbrev pub element_end_last : Parts → ℕ → ℕ → List Instr
element_end_last p s t = I.IndexEnd (length_of p s) (type_size p t) ∷ []
