-- When a map is refused.
use Rattle.std.specs.Prelude.{◌≡◌, ℕ, Option, Some}
use Rattle.lu_remap.specs.declared.error.MapError.{MapError}
use Rattle.lu_remap.specs.declared.error.MapError.TheVariants.{HeapLimit, Memory}

-- the heap's limit is named where this holds, for this object
abbrev pub IsLimit : Type 0 → ℕ → MapError → Type 0
IsLimit over k (HeapLimit object) = over × (object ≡ k)
IsLimit over k Memory = Unit {0}

-- and names the first object at which it is passed
abbrev pub IsOver : Option ℕ → MapError → Type 0
IsOver over (HeapLimit object) = over ≡ Some object
IsOver over Memory = Unit {0}
