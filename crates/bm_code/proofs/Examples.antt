-- The definition on small codes.
use Rattle.std.proofs.Common.{◌≡◌, refl, ℕ, List, [], ◌∷◌, Option, Some, None}
use Rattle.std.specs.Prelude.{◌-◌, pos, negsuc}
use Rattle.std.specs.FinMap.{empty}
use Rattle.lu_base.specs.declared.limits.TheConstants.{CALL_TICKS, FIRST_ADDRESS, FRAMES}
use Rattle.lu_base.specs.declared.trap.Trap.TheVariants.{Budget, BadCode, DivZero, BadCall, Depth, Panic as Panics}
use Rattle.c_types.specs.declared.parts.Ty.TheVariants.{Int as IntTy}
use Rattle.c_types.specs.declared.parts.IntKind.TheVariants.{Int}
use Rattle.c_types.specs.declared.parts.Parts.{Parts}
use Rattle.bm_isa.specs.declared.instr.Instr.{Instr}
use Rattle.bm_isa.specs.declared.instr.Instr.TheVariants as I
use Rattle.bm_code.specs.declared.code.MachineCode.{MachineCode}
use Rattle.bm_code.specs.declared.code.MachineFunction.{MachineFunction}
use Rattle.lu_base.specs.declared.world.World.{World}
use Rattle.bm_code.specs.Process.{Starting, Process}
use Rattle.bm_code.specs.Run.{Ending, Returned, Trapped, Paused, Final, run_machine}

-- signature 0 has one parameter and a result, signature 1 has neither
types : Parts
types = record {
  pointer = 4;
  types = IntTy Int ∷ [];
  structs = [];
  unions = [];
  signatures = record { result = Some 0; params = 0 ∷ [] } ∷ record { result = None; params = [] } ∷ [];
}

function : ℕ → ℕ → List Instr → MachineFunction
function signature locals code = record { name = 0; signature = signature; locals = locals; height = 4; code = code }

program : List MachineFunction → MachineCode
program functions = record { names = []; types = types; functions = functions; globals = []; sites = []; filters = 0 }

world : World
world = record { own = pos 1; servers = pos 1 ∷ pos 2 ∷ [] }

start : List ℕ → Process
start args = record { content = empty; rows = []; next = FIRST_ADDRESS; outbox = []; activity = Starting 0 args; spare = CALL_TICKS }

ending_of : Option Final → Option Ending
ending_of None = None
ending_of (Some r) = Some r.ending

spare_of : Option Final → ℕ
spare_of None = 0
spare_of (Some r) = r.process.spare

ends : List MachineFunction → List ℕ → ℕ → Option Ending
unfolding program world start ending_of
ends functions args ticks = ending_of (run_machine (program functions) world 100 ticks (start args))

left : List MachineFunction → List ℕ → ℕ → ℕ
unfolding program world start spare_of
left functions args ticks = spare_of (run_machine (program functions) world 100 ticks (start args))

-- 100 / x
quotient : List MachineFunction
unfolding function
quotient = function 0 1 (I.Const 100 ∷ I.GetLocal 0 ∷ I.DivideSigned ∷ I.ReturnValue ∷ []) ∷ []

-- from x down to 0, with a tick for each turn
countdown : List MachineFunction
unfolding function
countdown =
    function 0 1 (I.GetLocal 0 ∷ I.JumpIfZero 7 ∷ I.GetLocal 0 ∷ I.Const 1 ∷ I.Subtract ∷ I.SetLocal 0 ∷ I.Jump 0 ∷ I.GetLocal 0 ∷ I.ReturnValue ∷ []) ∷ []

-- calls itself through its word, 1
deeper : List MachineFunction
unfolding function
deeper = function 1 0 (I.Const 1 ∷ I.CallIndirect 0 ∷ I.Return ∷ []) ∷ []

-- calls null
nothing : List MachineFunction
unfolding function
nothing = function 1 0 (I.Const 0 ∷ I.CallIndirect 0 ∷ I.Return ∷ []) ∷ []

-- runs past its end
endless : List MachineFunction
unfolding function
endless = function 1 0 (I.Const 7 ∷ I.Pop ∷ []) ∷ []

-- panics with -1
panics : List MachineFunction
unfolding function
panics = function 1 0 (I.Const 0xFFFFFFFF ∷ I.Panic ∷ []) ∷ []

divides : ends quotient (7 ∷ []) 1 ≡ Some (Returned 14)
unfolding ends quotient function program types world start ending_of
divides = refl

by_zero : ends quotient (0 ∷ []) 1 ≡ Some (Trapped DivZero)
unfolding ends quotient function program types world start ending_of
by_zero = refl

-- the entry takes the first tick
pauses_at_once : ends quotient (7 ∷ []) 0 ≡ Some Paused
unfolding ends quotient function program types world start ending_of
pauses_at_once = refl

counts : ends countdown (3 ∷ []) 4 ≡ Some (Returned 0)
unfolding ends countdown function program types world start ending_of
counts = refl

counts_ticks : left countdown (3 ∷ []) 3 ≡ 999997
unfolding left countdown function program types world start spare_of
counts_ticks = refl

-- no tick is to spare where no call runs
spares_none : left countdown (3 ∷ []) 9 ≡ 0
unfolding left countdown function program types world start spare_of
spares_none = refl

counts_short : ends countdown (3 ∷ []) 3 ≡ Some Paused
unfolding ends countdown function program types world start ending_of
counts_short = refl

calls_null : ends nothing [] 9 ≡ Some (Trapped BadCall)
unfolding ends nothing function program types world start ending_of
calls_null = refl

past_the_end : ends endless [] 9 ≡ Some (Trapped BadCode)
unfolding ends endless function program types world start ending_of
past_the_end = refl

-- locals beyond the arguments are zero
zero_locals : ends quotient [] 1 ≡ Some (Trapped DivZero)
unfolding ends quotient function program types world start ending_of
zero_locals = refl

panics_with : ends panics [] 1 ≡ Some (Trapped (Panics (negsuc 0)))
unfolding ends panics function program types world start ending_of
panics_with = refl

-- the last frame is entered with a tick for each, and the next trap is Depth, which takes none
enters_all : ending_of (run_machine (program deeper) world 300 FRAMES (start [])) ≡ Some (Trapped Depth)
unfolding deeper function program types world start ending_of
enters_all = refl

no_more_ticks : ending_of (run_machine (program deeper) world 300 (FRAMES - 1) (start [])) ≡ Some Paused
unfolding deeper function program types world start ending_of
no_more_ticks = refl

-- no tick is left of the call
spent : Process
unfolding start
spent = record { content = empty; rows = []; next = FIRST_ADDRESS; outbox = []; activity = Starting 0 []; spare = 0 }

out_of_budget : ending_of (run_machine (program endless) world 9 5 spent) ≡ Some (Trapped Budget)
unfolding endless function program types world spent ending_of
out_of_budget = refl
