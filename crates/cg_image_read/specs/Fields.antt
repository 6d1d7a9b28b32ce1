-- The parts of items, each with the bytes behind it.
use Rattle.std.specs.Prelude.{ℕ, zero, suc, ◌-◌, List, [], ◌∷◌, ◌++◌, length, take, drop, Result, Ok, Err, nat_lt, nat_le, if◌then◌else◌}
use Rattle.std.specs.Int.{w32, from_le_bytes}
use Rattle.cg_image_read.specs.declared.error.ImageError.{ImageError}
use Rattle.cg_image_read.specs.declared.error.ImageError.TheVariants.{Truncated, Table}
use Rattle.cg_image_read.specs.Answer.{◌>>=◌}

-- a part, and the bytes behind it
abbrev pub Part : Type 0 → Type 0
Part A = Result (A × List ℕ) ImageError

-- where the rest of an image of so many bytes begins
abbrev pub place : ℕ → List ℕ → ℕ
place end rest = end - length rest

-- so many bytes
abbrev pub bytes_at : ℕ → List ℕ → Part (List ℕ)
bytes_at count bytes = if nat_lt (length bytes) count then Err Truncated else Ok (take count bytes, drop count bytes)

abbrev pub number_at : List ℕ → Part ℕ
number_at bytes = if nat_lt (length bytes) 4 then Err Truncated else Ok (from_le_bytes w32 (take 4 bytes), drop 4 bytes)

-- a number from `low` to `high`, of an item that begins at `at`
unfoldable pub ranged_at : ℕ → ℕ → ℕ → List ℕ → Part ℕ
ranged_at low high at bytes = do
  n ← number_at bytes
  if nat_le low n.0 then (if nat_le n.0 high then Ok n else Err (Table at)) else Err (Table at)

-- the number of one of so many entries
unfoldable pub entry_at : ℕ → ℕ → List ℕ → Part ℕ
entry_at count at bytes = do
  n ← number_at bytes
  if nat_lt n.0 count then Ok n else Err (Table at)

-- a list of bytes
unfoldable pub text_at : List ℕ → Part (List ℕ)
text_at bytes = do
  n ← number_at bytes
  bytes_at n.0 n.1

-- an item: the items before it, where it begins, and the bytes there
abbrev pub Item : Type 0 → Type 0
Item A = List A → ℕ → List ℕ → Part A

-- so many items of a list behind those before, in an image of so many bytes
unfoldable pub items_at : {A : Type 0} → Item A → ℕ → List A → ℕ → List ℕ → Part (List A)
items_at item end before zero bytes = Ok (before, bytes)
items_at item end before (suc n) bytes = do
  next ← item before (place end bytes) bytes
  items_at item end (before ++ next.0 ∷ []) n next.1

-- the items of a list that has at most `limit`: a further one is refused where it begins
unfoldable pub limited_at : {A : Type 0} → Item A → ℕ → ℕ → ℕ → List ℕ → Part (List A)
limited_at item limit end count bytes =
    if nat_le count limit then items_at item end [] count bytes else (items_at item end [] limit bytes >>= λ x. Err (Table (place end x.1)))
