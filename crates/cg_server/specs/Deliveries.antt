-- How calls of `init`, of `on_message` and of filters begin and end.
use Rattle.std.specs.Prelude.{◌≡◌, ℕ, ◌+◌, Bool, true, false, not, List, [], length, Result, Ok, Err, pos, codes}
use Rattle.std.specs.List.{position_or_len}
use Rattle.std.specs.Ordering.{int_eq}
use Rattle.lu_base.specs.declared.limits.TheConstants.{CALL_TICKS}
use Rattle.lu_base.specs.declared.message.Message.{Message}
use Rattle.lu_base.specs.declared.trap.Trap.{Trap}
use Rattle.lu_base.specs.declared.trap.Trap.TheVariants.{BadCode, Panic}
use Rattle.lu_base.specs.declared.world.World.{World}
use Rattle.src_meaning.specs.Valid.{is_handler}
use Rattle.bm_code.specs.declared.stop.Stop.{Stop}
use Rattle.bm_code.specs.declared.stop.Stop.TheVariants.{Returned, Trapped, Paused, Memory}
use Rattle.bm_code.specs.Process.{Process}
use Rattle.bm_code.specs.Calls.{settled, started, with_content}
use Rattle.bm_code.specs.Ran.{IsRun}
use Rattle.cg_program.specs.Compiled.{Source, machine_code}
use Rattle.cg_server.specs.Messages.{with_message, without_messages}

-- the number of the function of that name without parameters and without a result
abbrev pub handler_number : Source → List ℕ → ℕ
handler_number s word = position_or_len (is_handler s.program word) s.program.functions

-- the hidden function of filter k stands behind the program's functions
abbrev pub filter_number : Source → ℕ → ℕ
filter_number s k = length s.program.functions + k

-- a call of `init` begins
abbrev pub begun_init : Source → Process → Process
begun_init s p = started p (handler_number s (codes "init")) []

-- a delivery begins: a call of `on_message`, with the message in `m_in`
abbrev pub begun_delivery : Source → Process → Message → Process
begun_delivery s p m =
    started (with_content p (with_message p.rows m p.content)) (handler_number s (codes "on_message")) []

-- a call of filter k begins
abbrev pub begun_filter : Source → Process → ℕ → Process
begun_filter s p k = started p (filter_number s k) []

-- a further run goes on with the call
abbrev pub is_unfinished : Stop → Bool
is_unfinished Paused = true
is_unfinished Memory = true
is_unfinished _ = false

-- at the end of a delivery, or of another call, that returns `m_in` and `m_out` are zero
abbrev pub delivered : Stop → Process → Process
delivered (Returned v) p = with_content p (without_messages p.rows p.content)
delivered _ p = p

-- what a run of so many ticks of a delivery, or of another call, from p answers, and the process q that it leaves
pub record IsServed (s : Source) (world : World) (ticks : ℕ) (p : Process) (stop : Stop) (q : Process) : Type 0 where
  pub ran : Process
  pub run : IsRun (machine_code s) world ticks p stop ran
  pub is : q ≡ delivered stop ran

-- a filter's code hands its truth on as a panic with 1 or 0; none ends otherwise than by a trap
abbrev pub filter_answer : Stop → Result Bool Trap
filter_answer (Trapped (Panic n)) = Ok (not (int_eq n (pos 0)))
filter_answer (Trapped t) = Err t
filter_answer _ = Err BadCode

-- what filter k of a process answers, and the process q after it, in which its trap is forgotten
pub record IsFiltered (s : Source) (world : World) (p : Process) (k : ℕ) (answer : Result Bool Trap) (q : Process) : Type 0 where
  pub stop : Stop
  pub ran : Process
  pub run : IsRun (machine_code s) world CALL_TICKS (begun_filter s p k) stop ran
  pub answer_is : answer ≡ filter_answer stop
  pub is : q ≡ settled ran
