-- Definitions by recursion on the types of a table.
use Rattle.std.specs.Prelude.{◌≡◌, ℕ, zero, suc, ◌+◌, if◌then◌else◌, length, Option, Some, None, Contains, slice_get}
use Rattle.c_types.specs.declared.parts.Ty.{Ty}
use Rattle.c_types.specs.declared.parts.Parts.{Parts}
use Rattle.c_types.specs.Chain.{Edges, is_settled, held_in, held_by}

-- the answer at a type, or another where there is none
abbrev pub at_type : {A : Type 0} → (Ty → A) → A → Option Ty → A
at_type f other None = other
at_type f other (Some ty) = f ty

abbrev pub by_fuel : {A : Type 0} → Parts → ((ℕ → A) → Ty → A) → A → ℕ → ℕ → A
by_fuel p step other zero t = other
by_fuel p step other (suc n) t = at_type (step (by_fuel p step other n)) other (slice_get p.types t)

-- `step` gives the answer at a type from those at the types that it holds by value. Where no type holds itself,
-- a chain of types is no longer than the table, and so this is that recursion.
abbrev pub by_type : {A : Type 0} → Parts → ((ℕ → A) → Ty → A) → A → ℕ → A
by_type p step other t = by_fuel p step other (length p.types) t

-- in how many of the first n rounds a number is not settled
abbrev pub rounds_unsettled : Edges → ℕ → ℕ → ℕ
rounds_unsettled edges zero t = 0
rounds_unsettled edges (suc n) t = (if is_settled edges n t then 0 else 1) + rounds_unsettled edges n t

-- what falls from a type to those that it holds by value
abbrev pub depth : Parts → ℕ → ℕ
depth p t = rounds_unsettled (held_by p) (length p.types) t

-- such a step asks only of the types that are held
abbrev pub IsLocal : {A : Type 0} → Parts → ((ℕ → A) → Ty → A) → Type 0
IsLocal {A} p step =
    (f g : ℕ → A) (ty : Ty) → ((u : ℕ) → Contains (held_in p (Some ty)) u → f u ≡ g u) → step f ty ≡ step g ty
