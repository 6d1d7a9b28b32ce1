-- Jumps, calls and returns.
use Rattle.std.specs.Prelude.{ℕ, zero, suc, ◌+◌, ◌-◌, Bool, nat_eq, nat_lt, nat_le, if◌then◌else◌, List, [], ◌∷◌, ◌++◌, length, replicate, Option, Some, None, slice_get, unwrap_or, option_to_list}
use Rattle.lu_base.specs.declared.limits.TheConstants.{FRAMES}
use Rattle.lu_base.specs.declared.trap.Trap.{Trap}
use Rattle.lu_base.specs.declared.trap.Trap.TheVariants.{BadCode, BadCall, Depth}
use Rattle.c_types.specs.declared.parts.Signature.{Signature}
use Rattle.bm_code.specs.declared.code.MachineCode.{MachineCode}
use Rattle.bm_code.specs.declared.code.MachineFunction.{MachineFunction}
use Rattle.bm_code.specs.declared.operation.Transfer.{Transfer}
use Rattle.bm_code.specs.declared.operation.Transfer.TheVariants.{Jump, JumpIfZero, Call, CallIndirect, Return, ReturnValue}
use Rattle.bm_code.specs.Process.{Frame, Idle, Running, Process}
use Rattle.bm_code.specs.Frames.{some_or, on_top, moved}

-- The process goes on; it goes on after a tick; the call returns; or it traps, and the process is as it is left.
pub data Effect : Type 0 where
  Next : Process → Effect
  Spends : Process → Effect
  Returns : (value : ℕ) → Process → Effect
  Traps : (trap : Trap) → Process → Effect

-- no call runs, and the last one trapped so, or did not; no tick is to spare, and all else is as it was
abbrev pub idle : Option Trap → Process → Process
idle last p = record p { activity = Idle last; spare = 0 }

-- no call runs then
abbrev pub trap : Trap → Process → Effect
trap t p = Traps t (idle (Some t) p)

abbrev pub running : Process → Frame → List Frame → Process
running p f callers = record p { activity = Running f callers }

-- a jump takes a tick where it doesn't go forward
abbrev pub jump : MachineFunction → Process → Frame → List Frame → ℕ → List ℕ → Effect
jump m p f callers to stack =
    if nat_le to f.place then Spends (running p (moved f to stack) callers) else Next (running p (moved f to stack) callers)

-- a place of the function
abbrev pub is_place_of : MachineFunction → ℕ → Bool
is_place_of m to = nat_lt to (length m.code)

-- so many words from the top as a list whose last is the topmost, and the words below
abbrev pub pop_words : ℕ → List ℕ → List ℕ → Option (List ℕ × List ℕ)
pop_words zero stack words = Some (words, stack)
pop_words (suc n) [] words = None
pop_words (suc n) (v ∷ stack) words = pop_words n stack (v ∷ words)

-- a function's frame at its entry: the locals beyond its arguments are zero
abbrev pub entered : MachineFunction → ℕ → List ℕ → Frame
entered d g args = record { function = g; place = 0; locals = args ++ replicate (d.locals - length args) 0; stack = [] }

-- room for the words that are left, and for the result above them
abbrev pub has_room : MachineFunction → Option ℕ → List ℕ → Bool
has_room m None rest = nat_le (length rest) m.height
has_room m (Some t) rest = nat_lt (length rest) m.height

abbrev pub enter : MachineFunction → Process → Frame → List Frame → ℕ → MachineFunction → Signature → List ℕ × List ℕ → Effect
enter m p f callers g d s split =
    if has_room m s.result split.1 then (if nat_lt (length callers + 1) FRAMES then Spends (running p (entered d g split.0) (moved f (f.place + 1) split.1 ∷ callers)) else trap Depth p) else trap BadCode p

-- a call of the function g, where `arguments` gives the arguments and the words below, if they are as many as the signature says
abbrev pub call : MachineCode → MachineFunction → Process → Frame → List Frame → ℕ → (Signature → Option (List ℕ × List ℕ)) → Effect
call code m p f callers g arguments =
    some_or (slice_get code.functions g) (trap BadCode p) (λ d. some_or (slice_get code.types.signatures d.signature) (trap BadCode p) (λ s. some_or (arguments s) (trap BadCode p) (enter m p f callers g d s)))

-- a function's word is its number plus 1
abbrev pub call_word : MachineCode → MachineFunction → Process → Frame → List Frame → List ℕ → ℕ → List ℕ → Effect
call_word code m p f callers args zero rest = trap BadCall p
call_word code m p f callers args (suc g) rest =
    call code m p f callers g (λ s. if nat_eq (length s.params) (length args) then Some (args, rest) else None)

-- back to the caller with a value, or with none
abbrev pub give_back : Option ℕ → Process → List Frame → Effect
give_back v p [] = Returns (unwrap_or v 0) (idle None p)
give_back v p (c ∷ callers) = Next (running p (moved c c.place (option_to_list v ++ c.stack)) callers)

-- whether the function has a result
abbrev pub on_result : {A : Type 0} → MachineCode → MachineFunction → A → A → A → A
on_result code m other valued void =
    some_or (slice_get code.types.signatures m.signature) other (λ s. some_or s.result void (λ t. valued))

abbrev pub transferred : Transfer → MachineCode → MachineFunction → Process → Frame → List Frame → Effect
transferred (Jump to) code m p f callers = if is_place_of m to then jump m p f callers to f.stack else trap BadCode p
transferred (JumpIfZero to) code m p f callers =
    if is_place_of m to then on_top f.stack (trap BadCode p) (λ v rest. if nat_eq v 0 then jump m p f callers to rest else Next (running p (moved f (f.place + 1) rest) callers)) else trap BadCode p
transferred (Call g) code m p f callers = call code m p f callers g (λ s. pop_words (length s.params) f.stack [])
transferred (CallIndirect n) code m p f callers =
    some_or (pop_words n f.stack []) (trap BadCode p) (λ split. on_top split.1 (trap BadCode p) (call_word code m p f callers split.0))
transferred Return code m p f callers = on_result code m (trap BadCode p) (trap BadCode p) (give_back None p callers)
transferred ReturnValue code m p f callers =
    on_result code m (trap BadCode p) (on_top f.stack (trap BadCode p) (λ v rest. give_back (Some v) p callers)) (trap BadCode p)
