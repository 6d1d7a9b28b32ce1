-- What an entry of the code stands for.
use Rattle.std.specs.Prelude.{◌≡◌, ℕ, ◌<◌, List, Some, IsSomeAnd, slice_get}
use Rattle.c_types.specs.declared.parts.Ty.{Ty}
use Rattle.c_types.specs.declared.duplicates.Entry as Declared
use Rattle.c_types.specs.declared.duplicates.Entry.TheVariants as V
use Rattle.c_types.specs.Refusal.{Entry, type_entry, tag_entry, signature_entry}

abbrev pub entry_of : Declared.Entry → Entry
entry_of (V.Type a) = type_entry a.now
entry_of (V.Tag a) = tag_entry a.now
entry_of (V.Signature a) = signature_entry a.now

-- a type equals an earlier one
abbrev pub IsRepeated : List Ty → ℕ → Type 0
IsRepeated types n = IsSomeAnd (slice_get types n) (λ t. (m : ℕ) × (m < n) × (slice_get types m ≡ Some t))
