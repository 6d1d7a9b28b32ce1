-- The bytes of code are bytes.
use Rattle.std.proofs.Common.{◌≡◌, refl, ℕ, zero, suc, ◌<◌, List, [], ◌∷◌, ◌++◌, length, arith}
use Rattle.std.specs.Int.{bytes_low_first, byte_at}
use Rattle.std.proofs.lemmas.Option.{slice_get_within}
use Rattle.lu_spec.specs.LittleEndian.{little_endian}
use Rattle.bm_isa.specs.declared.instr.Instr.{Instr}
use Rattle.bm_isa.specs.declared.instr.Operands.{Operands}
use Rattle.bm_isa.specs.declared.instr.Operands.TheVariants.{Nothing, One, Two, Three, Word}
use Rattle.bm_isa.specs.Encoding.{parts_of, operand_bytes, instruction_bytes, code_bytes}
use Rattle.cg_image_read.specs.Decoding.{forms}
use Rattle.cg_image_read.proofs.Bytes.{IsBytes}
use Rattle.cg_image_read.proofs.DecodingLemmas.{finds}

low_nil : IsBytes []
low_nil i = omega arith

low_then : (x : ℕ) (xs : List ℕ) → x < 256 → IsBytes xs → IsBytes (x ∷ xs)
low_then x xs h low zero = h
low_then x xs h low (suc i) = low i

low_append : (xs ys : List ℕ) → IsBytes xs → IsBytes ys → IsBytes (xs ++ ys)
low_append [] ys h k = k
low_append (x ∷ xs) ys h k = low_then x (xs ++ ys) (h 0) (low_append xs ys (λ i. h (suc i)) k)

low_byte : (i n : ℕ) → byte_at i n < 256
low_byte zero n = omega arith
low_byte (suc i) n = omega arith

low_number : (i count n : ℕ) → IsBytes (bytes_low_first i count n)
low_number i zero n = low_nil
low_number i (suc count) n = low_then (byte_at i n) (bytes_low_first (suc i) count n) (low_byte i n) (low_number (suc i) count n)

low_little : (count n : ℕ) → IsBytes (little_endian count n)
unfolding little_endian
low_little count n = low_number 0 count n

low_operands : (o : Operands) → IsBytes (operand_bytes o)
low_operands Nothing = low_nil
low_operands (One a) = low_little 4 a
low_operands (Two a b) = low_append (little_endian 4 a) (little_endian 4 b) (low_little 4 a) (low_little 4 b)
low_operands (Three a b c) = low_append (little_endian 4 a ++ little_endian 4 b) (little_endian 4 c) (low_append (little_endian 4 a) (little_endian 4 b) (low_little 4 a) (low_little 4 b)) (low_little 4 c)
low_operands (Word a) = low_little 8 a

low_instruction : (i : Instr) → IsBytes (instruction_bytes i)
unfolding instruction_bytes
low_instruction i =
    let h = finds i in
    let few : length forms ≡ 47 = refl in
    let within = slice_get_within forms h.place h.form h.is in
    let low : (parts_of i).0 < 256 = omega (arith, h.number, within, few) in
    low_then (parts_of i).0 (operand_bytes (parts_of i).1) low (low_operands (parts_of i).1)

pub code_low : (code : List Instr) → IsBytes (code_bytes code)
code_low [] = low_nil
code_low (i ∷ code) = low_append (instruction_bytes i) (code_bytes code) (low_instruction i) (code_low code)
