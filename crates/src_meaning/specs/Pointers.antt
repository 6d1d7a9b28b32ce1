-- Arithmetic, equality and order of pointers. Offsets and sizes are in bytes.
use Rattle.std.specs.Prelude.{ℕ, Bool, true, false, ◌&&◌, nat_eq, nat_le, if◌then◌else◌, ℤ, pos, negsuc, ◌+ℤ◌, ◌-ℤ◌, ◌*ℤ◌, int_div, int_lt, Ok, Err, slice_get}
use Rattle.lu_spec.specs.Then.{then_do}
use Rattle.lu_base.specs.declared.trap.Trap.TheVariants.{PtrRange, PtrOrder, BadCode}
use Rattle.c_types.specs.declared.parts.Parts.{Parts}
use Rattle.c_types.specs.declared.parts.IntKind.TheVariants as K
use Rattle.src_tree.specs.declared.value.Value.{Value, Int, Null, Pointer, Function}
use Rattle.src_tree.specs.declared.value.Store.{Store}
use Rattle.src_meaning.specs.Integers.{wrapped, is_zero}
use Rattle.src_meaning.specs.Objects.{Gives, or_trap, object_size}

-- an offset that stays within 0 to the size of the object
abbrev pub offset_within : ℕ → ℕ → ℤ → Gives Value
offset_within object size (pos k) = if nat_le k size then Ok (Pointer object k) else Err PtrRange
offset_within object size (negsuc k) = Err PtrRange

-- a pointer so many elements further on, also of a dead object; null may be moved by 0 only
abbrev pub moved : Parts → Store → ℕ → Value → ℤ → Gives Value
moved p store elem_size Null i = if is_zero i then Ok Null else Err PtrRange
moved p store elem_size (Pointer o k) i =
    then_do (or_trap BadCode (slice_get store.objects o)) (λ x. offset_within o (object_size p x) (pos k +ℤ (i *ℤ pos elem_size)))
moved p store elem_size _ i = Err BadCode

-- equality of integers, of object pointers by object and offset, or of function pointers
abbrev pub are_equal : Value → Value → Gives Bool
are_equal (Int (pos a)) (Int (pos b)) = Ok (nat_eq a b)
are_equal (Int (negsuc a)) (Int (negsuc b)) = Ok (nat_eq a b)
are_equal (Int a) (Int b) = Ok false
are_equal Null Null = Ok true
are_equal Null (Pointer o k) = Ok false
are_equal Null (Function f) = Ok false
are_equal (Pointer o k) Null = Ok false
are_equal (Pointer o k) (Pointer q j) = Ok (nat_eq o q && nat_eq k j)
are_equal (Function f) Null = Ok false
are_equal (Function f) (Function g) = Ok (nat_eq f g)
are_equal _ _ = Err BadCode

-- what f gives of the offsets of two pointers into one object, or of zeros for two nulls
abbrev pub with_offsets : {A : Type 0} → (ℤ → ℤ → Gives A) → Value → Value → Gives A
with_offsets f Null Null = f (pos 0) (pos 0)
with_offsets f (Pointer o k) (Pointer q j) = if nat_eq o q then f (pos k) (pos j) else Err PtrOrder
with_offsets f Null (Pointer q j) = Err PtrOrder
with_offsets f (Pointer o k) Null = Err PtrOrder
with_offsets f _ _ = Err BadCode

-- order of two integers, or of two pointers by their offsets
abbrev pub is_less : Value → Value → Gives Bool
is_less (Int a) (Int b) = Ok (int_lt a b)
is_less a b = with_offsets (λ k j. Ok (int_lt k j)) a b

-- the byte difference divided by the size of an element, truncated, as an int
abbrev pub difference : ℕ → Value → Value → Gives Value
difference elem_size a b = with_offsets (λ k j. Ok (Int (wrapped K.Int (int_div (k -ℤ j) (pos elem_size))))) a b
