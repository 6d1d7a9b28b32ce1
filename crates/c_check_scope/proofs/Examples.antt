-- The judgements at examples.
use Rattle.std.proofs.Common.{◌≡◌, refl, Bool, true, false, Option, Some, None}
use Rattle.c_types.specs.declared.parts.IntKind.TheVariants as K
use Rattle.c_types.specs.declared.parts.Ty.{Ty}
use Rattle.c_types.specs.declared.parts.Ty.TheVariants as T
use Rattle.c_check_scope.specs.declared.operand.Operand.{Operand}
use Rattle.c_check_scope.specs.Integers.{promoted, rank, common}
use Rattle.c_check_scope.specs.Kinds.{kind_of, is_pointer, one_pointer, one_data_pointer, void_and_object}
use Rattle.c_check_scope.specs.Operands.{common_of, common_type, with_null, joined, compared, ordered}
use Rattle.c_check_scope.specs.Conversions.{are_integers, one_record, casts, converts}

of : Ty → Operand
of ty = record { ty = ty; is_null = false }

abbrev zero_int : Operand
zero_int = record { ty = T.Int K.Int; is_null = true }

char_is_promoted_to_int : promoted K.Char ≡ K.Int
unfolding promoted
char_is_promoted_to_int = refl

two_chars_meet_in_int : common K.Char K.UChar ≡ K.Int
unfolding promoted rank common
two_chars_meet_in_int = refl

int_and_unsigned : common K.Int K.UInt ≡ K.UInt
unfolding promoted rank common
int_and_unsigned = refl

unsigned_and_long_long : common K.UInt K.LongLong ≡ K.LongLong
unfolding promoted rank common
unsigned_and_long_long = refl

long_long_and_unsigned_long_long : common K.LongLong K.ULongLong ≡ K.ULongLong
unfolding promoted rank common
long_long_and_unsigned_long_long = refl

a_pointer_or_zero : joined (of (T.Pointer 3)) zero_int ≡ Some (T.Pointer 3)
unfolding of joined common_type common_of kind_of one_pointer with_null is_pointer
a_pointer_or_zero = refl

two_pointer_types_do_not_join : joined (of (T.Pointer 3)) (of T.VoidPointer) ≡ None
unfolding of joined common_type common_of kind_of one_pointer with_null is_pointer
two_pointer_types_do_not_join = refl

a_pointer_is_compared_with_void : compared (of (T.Pointer 3)) (of T.VoidPointer) ≡ Some T.VoidPointer
unfolding of compared joined common_type common_of kind_of one_pointer with_null is_pointer void_and_object
a_pointer_is_compared_with_void = refl

function_pointers_have_no_order : ordered (T.Function 1) (T.Function 1) ≡ None
unfolding ordered common_type common_of kind_of one_data_pointer
function_pointers_have_no_order = refl

no_cast_to_itself : casts (T.Pointer 3) (T.Pointer 3) ≡ false
unfolding casts are_integers void_and_object
no_cast_to_itself = refl

a_type_converts_to_itself : converts (of (T.Struct 2)) (T.Struct 2) ≡ true
unfolding of converts casts are_integers void_and_object one_pointer one_record
a_type_converts_to_itself = refl
