-- Functions that fit any code of some types.
use Rattle.std.specs.Prelude.{◌≡◌, ℕ, List, Some, slice_get}
use Rattle.c_types.specs.declared.parts.Parts.{Parts}
use Rattle.bm_code.specs.declared.code.MachineCode.{MachineCode}
use Rattle.bm_code.specs.declared.code.MachineFunction.{MachineFunction}
use Rattle.bm_code.specs.Accepted.{IsAcceptedFunction}

-- each is accepted in code of these types
abbrev pub AreAccepted : Parts → List MachineFunction → Type 0
AreAccepted types ds =
    (code : MachineCode) → code.types ≡ types → (k : ℕ) (d : MachineFunction) → slice_get ds k ≡ Some d → IsAcceptedFunction code d
