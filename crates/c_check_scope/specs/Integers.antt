-- Integer promotion and the usual arithmetic conversions.
use Rattle.std.specs.Prelude.{ℕ, nat_lt, if◌then◌else◌}
use Rattle.c_types.specs.declared.parts.IntKind.{IntKind}
use Rattle.c_types.specs.declared.parts.IntKind.TheVariants.{Char, UChar, Short, UShort, Int, UInt, LongLong, ULongLong}

-- a type that is narrower than int becomes int, which holds its values
unfoldable pub promoted : IntKind → IntKind
promoted Char = Int
promoted UChar = Int
promoted Short = Int
promoted UShort = Int
promoted Int = Int
promoted UInt = UInt
promoted LongLong = LongLong
promoted ULongLong = ULongLong

-- the order in which the later of two promoted types is the common one
unfoldable pub rank : IntKind → ℕ
rank UInt = 1
rank LongLong = 2
rank ULongLong = 3
rank _ = 0

abbrev pub later : IntKind → IntKind → IntKind
later a b = if nat_lt (rank a) (rank b) then b else a

-- the type in which an operator works on two integers
unfoldable pub common : IntKind → IntKind → IntKind
common a b = later (promoted a) (promoted b)
