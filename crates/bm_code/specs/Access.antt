-- Bytes of live objects, and scalars in them.
use Rattle.std.specs.Prelude.{ℕ, ◌+◌, ◌-◌, ◌*◌, ◌&&◌, nat_le, if◌then◌else◌, List, [], ◌∷◌, length, Option, Some, None, find}
use Rattle.std.specs.Option.{option_map}
use Rattle.std.specs.FinMap as map
use Rattle.lu_spec.specs.Then.{then_option}
use Rattle.lu_spec.specs.Splice.{piece_at, spliced}
use Rattle.c_types.specs.declared.parts.IntKind.{IntKind}
use Rattle.c_types.specs.declared.parts.IntKind.TheVariants.{Char, UChar, Short, UShort, Int, UInt, LongLong, ULongLong}
use Rattle.c_types.specs.Layout.{int_size}
use Rattle.bm_mem.specs.Content.{Content}
use Rattle.bm_objects.specs.declared.row.Row.{Row}
use Rattle.bm_objects.specs.Table.{end_of, reaches}
use Rattle.bm_alu.specs.Words.{extended}

-- The object of an address, if it is live and has n bytes from there on. The first that is found is the only one that
-- reaches the address: bm_objects' `finds_row`.
abbrev pub live_at : List Row → ℕ → ℕ → Option Row
live_at rows a n = then_option (find (reaches a) rows) (λ r. if r.live && nat_le (a + n) (end_of r) then Some r else None)

-- the n bytes from an address on
abbrev pub read_at : Content → List Row → ℕ → ℕ → Option (List ℕ)
read_at m rows a n =
    then_option (live_at rows a n) (λ r. option_map (λ bytes. piece_at bytes (a - r.addr) n) (map.get m r.addr))

-- the content with other bytes in an object
abbrev pub changed : Content → Row → (List ℕ → List ℕ) → Option Content
changed m r f = option_map (λ bytes. map.insert m r.addr (f bytes)) (map.get m r.addr)

-- the content with a piece from an address on
abbrev pub written_at : Content → List Row → ℕ → List ℕ → Option Content
written_at m rows a piece =
    then_option (live_at rows a (length piece)) (λ r. changed m r (λ bytes. spliced bytes (a - r.addr) piece))

-- the number of some bytes, the lowest first
abbrev pub number_of : List ℕ → ℕ
number_of [] = 0
number_of (b ∷ bytes) = b + 256 * number_of bytes

-- what LOAD and STORE move: a number of an integer type, or an address or a function's word of so many bytes
pub data Scalar : Type 0 where
  Integer : IntKind → Scalar
  Address : (size : ℕ) → Scalar
  FunctionWord : (size : ℕ) → Scalar

-- the kinds of scalars by number: the integer types, then narrow pointers and functions, then wide ones
abbrev pub scalars : List Scalar
scalars =
    Integer Char ∷ Integer UChar ∷ Integer Short ∷ Integer UShort ∷ Integer Int ∷ Integer UInt ∷ Integer LongLong ∷ Integer ULongLong ∷ Address 4 ∷ FunctionWord 4 ∷ Address 8 ∷ FunctionWord 8 ∷ []

abbrev pub scalar_size : Scalar → ℕ
scalar_size (Integer kind) = int_size kind
scalar_size (Address size) = size
scalar_size (FunctionWord size) = size

-- the word of a scalar's bytes, as a number
abbrev pub scalar_word : Scalar → ℕ → ℕ
scalar_word (Integer kind) n = extended kind n
scalar_word (Address size) n = n
scalar_word (FunctionWord size) n = n
