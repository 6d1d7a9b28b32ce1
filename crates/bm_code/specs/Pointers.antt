-- What instructions do with addresses, and with the bytes at them.
use Rattle.std.specs.Prelude.{ℕ, zero, suc, ◌+◌, ◌-◌, ◌*◌, ◌/◌, ◌^◌, Bool, false, ◌&&◌, nat_eq, nat_lt, nat_le, max, if◌then◌else◌, ℤ, pos, negsuc, neg_ℤ, List, ◌∷◌, length, replicate, Option, Some, None, is_some, Result, Ok, Err, find, slice_get}
use Rattle.std.specs.Option.{option_map}
use Rattle.lu_spec.specs.LittleEndian.{little_endian}
use Rattle.lu_spec.specs.Splice.{spliced}
use Rattle.lu_base.specs.declared.trap.Trap.{Trap}
use Rattle.lu_base.specs.declared.trap.Trap.TheVariants.{PtrRange, PtrOrder, BadPointer, UnionMember}
use Rattle.c_types.specs.declared.parts.Parts.{Parts}
use Rattle.c_types.specs.declared.parts.IntKind.TheVariants.{Int}
use Rattle.c_types.specs.Descent.{find_place}
use Rattle.bm_mem.specs.Content.{Content}
use Rattle.bm_objects.specs.declared.row.Row.{Row}
use Rattle.bm_objects.specs.Table.{end_of, reaches}
use Rattle.bm_alu.specs.Words.{word, signed, extended, flag}
use Rattle.bm_code.specs.declared.operation.Pointing.{Pointing}
use Rattle.bm_code.specs.declared.operation.Pointing.TheVariants.{Add, Subtract, Difference, Less}
use Rattle.bm_code.specs.declared.operation.Reading.{Reading}
use Rattle.bm_code.specs.declared.operation.Reading.TheVariants as R
use Rattle.bm_code.specs.declared.operation.Writing.{Writing}
use Rattle.bm_code.specs.declared.operation.Writing.TheVariants as W
use Rattle.bm_code.specs.Process.{Frame}
use Rattle.bm_code.specs.Frames.{some_or, on_top, on_two, advanced, bad}
use Rattle.bm_code.specs.Access.{live_at, read_at, changed, written_at, number_of, scalars, scalar_size, scalar_word}

abbrev pub up : ℕ → ℕ → Row → Result ℕ Trap
up p distance r = if nat_le (p + distance) (end_of r) then Ok (p + distance) else Err PtrRange

abbrev pub down : ℕ → ℕ → Row → Result ℕ Trap
down p distance r = if nat_le (r.addr + distance) p then Ok (p - distance) else Err PtrRange

-- so many elements of some bytes further on
abbrev pub stepped : ℕ → ℕ → ℤ → Row → Result ℕ Trap
stepped p size (pos n) r = up p (n * size) r
stepped p size (negsuc n) r = down p (suc n * size) r

-- A pointer to an object leads to its bytes or to its end. To null only 0 is added.
abbrev pub shifted : List Row → ℕ → ℕ → ℤ → Result ℕ Trap
shifted rows size zero (pos zero) = Ok 0
shifted rows size zero i = Err PtrRange
shifted rows size (suc p) i = some_or (find (reaches (suc p)) rows) bad (stepped (suc p) size i)

-- where the object of a pointer begins; 0 for null
abbrev pub base_of : List Row → ℕ → Option ℕ
base_of rows zero = Some 0
base_of rows (suc p) = option_map (λ r. r.addr) (find (reaches (suc p)) rows)

-- of two pointers to one object, or two that are null
abbrev pub of_one_object : List Row → ℕ → ℕ → ℕ → Result ℕ Trap
of_one_object rows p q v =
    some_or (base_of rows p) bad (λ a. some_or (base_of rows q) bad (λ b. if nat_eq a b then Ok v else Err PtrOrder))

-- how many elements of some bytes lie from q to p, rounded to 0, as an int's word; below 0 where p is lower
abbrev pub distance : ℕ → ℕ → ℕ → ℕ
distance p q size =
    extended Int (if nat_le q p then (p - q) / size else word (2 ^ 64 - (q - p) / size))

abbrev pub pointed : Pointing → List Row → ℕ → ℕ → Result ℕ Trap
pointed (Add size) rows p i = shifted rows size p (signed i)
pointed (Subtract size) rows p i = shifted rows size p (neg_ℤ (signed i))
pointed (Difference size) rows p q = if nat_eq size 0 then bad else of_one_object rows p q (distance p q size)
pointed Less rows p q = of_one_object rows p q (flag (nat_lt p q))

-- A live object has a place of the type at the address. The search gives exactly the paths that lead there and pass no
-- union: c_types' `find_place-path` and `find_place-sound`.
abbrev pub is_place : Parts → ℕ → ℕ → Option Row → Bool
is_place types t a None = false
is_place types t a (Some r) = r.live && is_some (find_place types r.elem r.count (a - r.addr) t)

abbrev pub checked : Parts → List Row → ℕ → ℕ → Result ℕ Trap
checked types rows t a =
    if nat_lt t (length types.types) then (if is_place types t a (find (reaches a) rows) then Ok a else Err BadPointer) else bad

-- what stands at an address
abbrev pub read : Reading → Parts → Content → List Row → ℕ → Result ℕ Trap
read (R.Check t) types m rows a = checked types rows t a
read (R.Load k) types m rows a =
    some_or (slice_get scalars k) bad (λ s. some_or (read_at m rows a (scalar_size s)) bad (λ bytes. Ok (scalar_word s (number_of bytes))))
read (R.Union member) types m rows a =
    some_or (read_at m rows a 4) bad (λ bytes. if nat_eq (number_of bytes) member then Ok a else Err UnionMember)

-- a member with zero bytes behind its number
abbrev pub with_member : ℕ → ℕ → ℕ → ℕ → List ℕ → List ℕ
with_member at member offset size bytes =
    spliced (spliced bytes (at + offset) (replicate size 0)) at (little_endian 4 member)

-- the content where a member is active
abbrev pub with_active : Content → List Row → ℕ → ℕ → ℕ → ℕ → Row → Option Content
with_active m rows a member offset size r =
    some_or (read_at m rows a 4) None (λ bytes. if nat_eq (number_of bytes) member then Some m else changed m r (with_member (a - r.addr) member offset size))

-- the frame after a write, with the content
abbrev pub wrote : Frame → List ℕ → Option Content → Result (Frame × Content) Trap
wrote f rest None = bad
wrote f rest (Some m) = Ok (advanced f rest, m)

abbrev pub written : Writing → Content → List Row → Frame → Result (Frame × Content) Trap
written (W.Store k) m rows f =
    on_two f.stack bad (λ v a rest. some_or (slice_get scalars k) bad (λ s. wrote f rest (written_at m rows a (little_endian (scalar_size s) v))))
written (W.Copy size) m rows f =
    on_two f.stack bad (λ a b rest. some_or (read_at m rows a size) bad (λ piece. wrote f rest (written_at m rows b piece)))
written (W.Union member offset size) m rows f =
    on_top f.stack bad (λ a rest. some_or (live_at rows a (max 4 (offset + size))) bad (λ r. wrote f (a ∷ rest) (with_active m rows a member offset size r)))
