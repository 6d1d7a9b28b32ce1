-- Marks of objects, and a walk over the marked ones in the order of their marks.
use Rattle.std.specs.Prelude.{◌≡◌, ℕ, ◌+◌, ◌<◌, ◌≤◌, Bool, nat_eq, ◌==◌, if◌then◌else◌, List, [], ◌∷◌, ◌++◌, length, All, filter, fold, false, unwrap_or, Option, Some, slice_get}
use Rattle.std.specs.List.{IsDistinct, range_with_len}
use Rattle.lu_image_store.specs.Needed.{is_in}
use Rattle.lu_mark.specs.declared.marks.WalkState.{WalkState}
use Rattle.lu_mark.specs.declared.marks.WalkState.TheVariants.{More, Done}

-- of so many objects the marked ones, in the order of their marks, of which so many were walked
pub record Marking : Type 0 where
  pub size : ℕ
  pub marked : List ℕ
  pub walked : ℕ

abbrev pub with_mark : List ℕ → ℕ → List ℕ
with_mark marked x = if is_in marked x then marked else marked ++ x ∷ []

abbrev pub with_marks : List ℕ → List ℕ → List ℕ
with_marks marked objects = fold with_mark marked objects

-- the roots are marked, and none was walked
abbrev pub begun : ℕ → List ℕ → Marking
begun size roots = record { size = size; marked = with_marks [] roots; walked = 0 }

-- the object that is walked next
abbrev pub next_in : Marking → Option ℕ
next_in m = slice_get m.marked m.walked

-- the marked objects by their numbers
abbrev pub in_order : Marking → Marking
in_order m = record m { marked = filter (is_in m.marked) (range_with_len 0 m.size) }

abbrev pub ordered_if_done : Marking → Marking
ordered_if_done m = if m.walked == length m.marked then in_order m else m

-- one more object was walked, from which these come next
abbrev pub stepped : Marking → List ℕ → Marking
stepped m targets = ordered_if_done (record m { marked = with_marks m.marked targets; walked = m.walked + 1 })

-- a walk is done where each marked object was walked
abbrev pub state_of : Marking → WalkState
state_of m = if m.walked == length m.marked then Done else More

-- no object is marked twice, and each is one of so many
pub record IsMarking (m : Marking) : Type 0 where
  pub inside : All (λ x. x < m.size) m.marked
  pub distinct : IsDistinct nat_eq m.marked
  pub within : m.walked ≤ length m.marked

-- the numbers of the flags that are set
abbrev pub flagged : List Bool → List ℕ
flagged flags = filter (λ x. unwrap_or (slice_get flags x) false) (range_with_len 0 (length flags))

-- a flag for each object says whether it is marked, and there is room for a mark of each
pub record AreFlags (flags : List Bool) (marked : List ℕ) (capacity : ℕ) : Type 0 where
  pub told : (x : ℕ) → x < length flags → slice_get flags x ≡ Some (is_in marked x)
  pub room : length flags ≤ capacity
