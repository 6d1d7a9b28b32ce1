-- Files by name, and what an answer of a read says of one.
use Rattle.std.specs.Prelude.{◌≡◌, ℕ, ◌<◌, ◌≤◌, List, [], ◌∷◌, length, Option, Some, None, Result, Ok, Err, IsSomeAnd, if◌then◌else◌}
use Rattle.std.specs.Str.{bytes_eq}
use Rattle.lu_base.specs.declared.shelf.ShelfFault.{ShelfFault}
use Rattle.lu_base.specs.declared.shelf.ShelfFault.TheVariants.{Failed, Absent, TooLarge, Memory}

-- the bytes of each file by its name, or None where there is no such file
abbrev pub Files : Type 0
Files = List ℕ → Option (List ℕ)

-- What an answer says of the file that was asked for: Ok gives its bytes, of which there are at most `max`.
-- A failed read, and want of memory, say nothing of it.
abbrev pub ReadAnswers : Option (List ℕ) → ℕ → Result (List ℕ) ShelfFault → Type 0
ReadAnswers file max (Ok bytes) = (file ≡ Some bytes) × (length bytes ≤ max)
ReadAnswers file max (Err Absent) = file ≡ None
ReadAnswers file max (Err TooLarge) = IsSomeAnd file (λ bytes. max < length bytes)
ReadAnswers file max (Err Failed) = Unit {0}
ReadAnswers file max (Err Memory) = Unit {0}

-- the file of that name in a list of files: of two with one name the first counts
abbrev pub file_named : List (List ℕ × List ℕ) → Files
file_named [] name = None
file_named (file ∷ files) name = if bytes_eq file.0 name then Some file.1 else file_named files name
