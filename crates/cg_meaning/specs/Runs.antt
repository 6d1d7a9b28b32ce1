-- Calls under way in servers, and what runs of them answer, in the terms of the text.
use Rattle.std.specs.Prelude.{◌≡◌, ℕ, ◌+◌, ◌<◌, ◌≤◌, false, List, [], map, sum, Option, Some, Ok, slice_get}
use Rattle.lu_base.specs.declared.message.Message.{Message}
use Rattle.lu_base.specs.declared.limits.TheConstants.{CALL_TICKS}
use Rattle.lu_base.specs.declared.trap.Trap.{Trap}
use Rattle.lu_base.specs.Sending.{Sent}
use Rattle.src_tree.specs.declared.value.Value.{Value}
use Rattle.src_tree.specs.declared.value.Store.{Store}
use Rattle.src_tree.specs.declared.program.Function.{Function}
use Rattle.src_meaning.specs.Call.{Ending, Returned, Trapped, call}
use Rattle.src_meaning.specs.Delivery.{Delivered, Ends, Dies, deliver, boot, delivered, with_no_messages}
use Rattle.src_meaning.specs.Initial.{initial_store}
use Rattle.src_meaning.specs.Objects.{addresses}
use Rattle.src_meaning.specs.Store.{IsStore}
use Rattle.bm_code.specs.declared.stop.Stop.{Stop}
use Rattle.bm_code.specs.declared.stop.Stop.TheVariants as stop
use Rattle.bm_code.specs.Calls.{is_running, started}
use Rattle.bm_code.specs.Process.{Process, Starting}
use Rattle.cg_program.specs.Compiled.{IsSource, machine_code}
use Rattle.cg_server.specs.Deliveries.{IsServed, begun_delivery, begun_init}
use Rattle.cg_server.specs.State.{ServerState, with_process}
use Rattle.cg_state.specs.Represents.{value_word, process_of}
use Rattle.cg_state.specs.Runs.{IsPlain}
use Rattle.cg_sim.specs.CallEnds.{AreOfTypes, result_word}
use Rattle.cg_sim_program.specs.Slices.{AreSlices, used_of}
use Rattle.cg_sim_store.specs.Messages.{IsMessage}
use Rattle.cg_meaning.specs.Servers.{IsServerOf}

-- a call of a function by its number, from a store
pub record CallFrom : Type 0 where
  pub store : Store
  pub function : ℕ
  pub args : List Value

abbrev pub call_from : Store → ℕ → List Value → CallFrom
call_from store function args = record { store = store; function = function; args = args }

-- how the call ends in the text, with all the ticks of a call
abbrev pub ending_of : ServerState → CallFrom → Ending
ending_of s c = call s.source.program s.world c.store c.function c.args CALL_TICKS

-- the process in which the call begins
abbrev pub begun : ServerState → CallFrom → Process
begun s c =
    let words = map (value_word (addresses s.source.program.types c.store)) c.args in
    process_of s.source.program c.store [] (Starting c.function words) CALL_TICKS

-- The call is under way in the server, and has had so many ticks: runs that did not end it led to the process from that in which
-- it begins.
pub record IsInCall (s : ServerState) (c : CallFrom) (given : ℕ) : Type 0 where
  pub source : IsSource s.source
  pub is_store : IsStore s.source.program c.store
  pub declaration : Function
  pub at : slice_get s.source.program.functions c.function ≡ Some declaration
  pub typed : AreOfTypes s.source.program c.store declaration.params c.args
  pub slices : List ℕ
  pub sum_is : sum slices ≡ given
  pub runs : AreSlices (machine_code s.source) s.world slices (begun s c) s.process

-- The call of the text returns, and had its ticks; the server gives the word of its result, and stands for its store with the
-- messages zero, and its sends wait to leave.
pub record CallReturns (s : ServerState) (c : CallFrom) (given word : ℕ) (after : ServerState) : Type 0 where
  pub result : Option Value
  pub store : Store
  pub sends : List Sent
  pub left : ℕ
  pub ending : ending_of s c ≡ Returned result store sends left
  pub enough : used_of CALL_TICKS (ending_of s c) ≤ given
  pub word_is : word ≡ result_word s.source.program store result
  pub next : Store
  pub no_messages : with_no_messages store ≡ Ok next
  pub server : IsServerOf after next
  pub outbox : after.process.outbox ≡ sends

-- The call of the text traps so, never by `BadCode`, and had its ticks; no call runs in the server.
pub record CallTraps (s : ServerState) (c : CallFrom) (given : ℕ) (trap : Trap) (after : ServerState) : Type 0 where
  pub left : ℕ
  pub ending : ending_of s c ≡ Trapped trap left
  pub enough : used_of CALL_TICKS (ending_of s c) ≤ given
  pub plain : IsPlain trap
  pub over : is_running after.process.activity ≡ false

-- Where a call has had so many ticks, what a run of so many more answers, and the server after it: the end of the text's call just
-- where the ticks reach those that it uses, else a pause. Where memory ran out, a further run goes on.
abbrev pub IsRunOfCall : ServerState → CallFrom → ℕ → ℕ → Stop → ServerState → Type 0
IsRunOfCall s c given ticks (stop.Returned word) after = CallReturns s c (given + ticks) word after
IsRunOfCall s c given ticks (stop.Trapped trap) after = CallTraps s c (given + ticks) trap after
IsRunOfCall s c given ticks stop.Paused after =
    (given + ticks < used_of CALL_TICKS (ending_of s c)) × IsInCall after c (given + ticks)
IsRunOfCall s c given ticks stop.Memory after =
    (spent : ℕ) × (spent ≤ ticks) × IsInCall after c (given + spent)

abbrev pub RunsOfCalls : Type 0
RunsOfCalls = (s : ServerState) (c : CallFrom) (given : ℕ) → IsInCall s c given
    → (ticks : ℕ) (stop : Stop) (q : Process) → IsServed s.source s.world ticks s.process stop q
    → IsRunOfCall s c given ticks stop (with_process s q)

-- a call begins, with the words of arguments of the function's types
abbrev pub CallsBegin : Type 0
CallsBegin = (s : ServerState) (store : Store) → IsServerOf s store
    → (f : ℕ) (d : Function) → slice_get s.source.program.functions f ≡ Some d
    → (args : List Value) → AreOfTypes s.source.program store d.params args
    → let words = map (value_word (addresses s.source.program.types store)) args in
    IsInCall (with_process s (started s.process f words)) (call_from store f args) 0

-- the ticks that a delivery takes
abbrev pub ticks_of : Delivered → ℕ
ticks_of (Ends store sends used) = used
ticks_of (Dies trap used) = used

-- a delivery, or `init`, is under way in the server, ends so in the text, and has had so many ticks
pub record IsBusy (s : ServerState) (outcome : Delivered) (given : ℕ) : Type 0 where
  pub from : CallFrom
  pub in_call : IsInCall s from given
  pub ends : delivered (ending_of s from) ≡ outcome

-- the delivery of the text ended, and had its ticks; the server stands for its store, and its sends wait to leave
pub record DeliveryEnds (outcome : Delivered) (given : ℕ) (after : ServerState) : Type 0 where
  pub store : Store
  pub sends : List Sent
  pub used : ℕ
  pub is : outcome ≡ Ends store sends used
  pub enough : used ≤ given
  pub server : IsServerOf after store
  pub outbox : after.process.outbox ≡ sends

-- the delivery of the text trapped so, never by `BadCode`, and had its ticks; no call runs in the server
pub record DeliveryDies (outcome : Delivered) (given : ℕ) (trap : Trap) (after : ServerState) : Type 0 where
  pub used : ℕ
  pub is : outcome ≡ Dies trap used
  pub enough : used ≤ given
  pub plain : IsPlain trap
  pub over : is_running after.process.activity ≡ false

-- where a delivery has had so many ticks, what a run of so many more answers, and the server after it
abbrev pub IsRunOfDelivery : Delivered → ℕ → ℕ → Stop → ServerState → Type 0
IsRunOfDelivery outcome given ticks (stop.Returned word) after = DeliveryEnds outcome (given + ticks) after
IsRunOfDelivery outcome given ticks (stop.Trapped trap) after = DeliveryDies outcome (given + ticks) trap after
IsRunOfDelivery outcome given ticks stop.Paused after =
    (given + ticks < ticks_of outcome) × IsBusy after outcome (given + ticks)
IsRunOfDelivery outcome given ticks stop.Memory after =
    (spent : ℕ) × (spent ≤ ticks) × IsBusy after outcome (given + spent)

abbrev pub RunsOfDeliveries : Type 0
RunsOfDeliveries = (s : ServerState) (outcome : Delivered) (given : ℕ) → IsBusy s outcome given
    → (ticks : ℕ) (stop : Stop) (q : Process) → IsServed s.source s.world ticks s.process stop q
    → IsRunOfDelivery outcome given ticks stop (with_process s q)

-- a message arrives: the delivery of the text begins
abbrev pub DeliveriesBegin : Type 0
DeliveriesBegin = (s : ServerState) (store : Store) → IsServerOf s store → (m : Message) → IsMessage m
    → IsBusy (with_process s (begun_delivery s.source s.process m)) (deliver s.source.program s.world store m) 0

-- a server at its start boots: `init` of the text begins
abbrev pub BootsBegin : Type 0
BootsBegin = (s : ServerState) → IsServerOf s (initial_store s.source.program)
    → IsBusy (with_process s (begun_init s.source s.process)) (boot s.source.program s.world) 0
