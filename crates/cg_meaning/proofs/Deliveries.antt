-- Deliveries and `init` begin, and runs of them.
use Rattle.std.proofs.Common.{◌≡◌, ◌∙◌, refl, ap, sym, subst, ℕ, ◌+◌, ◌-◌, ◌<◌, List, [], Some, Ok, Err, arith, codes}
use Rattle.std.specs.Prelude.{slice_get}
use Rattle.lu_base.specs.declared.limits.TheConstants.{CALL_TICKS}
use Rattle.lu_base.specs.declared.trap.Trap.{Trap}
use Rattle.src_tree.specs.declared.value.Store.{Store}
use Rattle.src_tree.specs.declared.program.Program.{Program}
use Rattle.src_meaning.specs.Call.{Ending, Returned, Trapped, Starved}
use Rattle.src_meaning.specs.Delivery.{Delivered, delivered, ended, run_named, function_named, with_message, with_no_messages}
use Rattle.src_meaning.specs.Initial.{initial_store}
use Rattle.src_meaning.specs.Objects.{Gives}
use Rattle.src_meaning.specs.Sending.{zero_message}
use Rattle.src_meaning.specs.Store.{IsStore}
use Rattle.bm_code.specs.declared.stop.Stop.TheVariants as stop
use Rattle.bm_code.specs.Calls.{started, with_content}
use Rattle.bm_code.specs.Process.{Process}
use Rattle.cg_program.specs.Compiled.{IsSource}
use Rattle.cg_server.specs.Deliveries.{handler_number, begun_init, begun_delivery}
use Rattle.cg_server.specs.Messages as machine
use Rattle.cg_server.specs.State.{ServerState, with_process}
use Rattle.cg_state.specs.Represents.{process_of, rows_of, content_of}
use Rattle.cg_sim.specs.CallEnds.{AreOfTypes}
use Rattle.cg_sim_program.specs.Slices.{used_of}
use Rattle.cg_sim_store.proofs.Messages.{take_messages}
use Rattle.cg_meaning.specs.Runs.{CallFrom, call_from, ending_of, begun, IsInCall, CallReturns, CallTraps, ticks_of, IsBusy, DeliveryEnds, DeliveryDies, RunsOfDeliveries, DeliveriesBegin, BootsBegin}
use Rattle.cg_meaning.proofs.CallRuns.{never_starves, runs_of_calls}
use Rattle.cg_meaning.proofs.Handlers.{Handler, init_handler, message_handler}
use Rattle.cg_meaning.proofs.NoMessages.{same_message_bytes, put_content, put_process}
use Rattle.cg_meaning.proofs.ZeroMessage.{zero_at_start}

-- a call of a handler begins from a store
module _ (s : ServerState) (store : Store) (source : IsSource s.source) (ok : IsStore s.source.program store) (word : List ℕ) (h : Handler s.source.program word s.source.program.functions) where
  abbrev p : Program
  p = s.source.program

  abbrev from : CallFrom
  from = call_from store (handler_number s.source word) []

  handler_in_call : (q : Process) → begun s from ≡ q → IsInCall (with_process s q) from 0
  handler_in_call q e = record {
    source = source;
    is_store = ok;
    declaration = h.function;
    at = ap (slice_get p.functions) h.position ∙ h.at;
    typed = subst (λ ts. AreOfTypes p store ts []) (sym h.no_params) tt;
    slices = [];
    sum_is = refl;
    runs = e;
  }

  handler_busy : (q : Process) → begun s from ≡ q → (o : Gives Store) → o ≡ Ok store → IsBusy (with_process s q) (run_named p s.world word o (function_named p word)) 0
  handler_busy q e o is =
      let number : function_named p word ≡ Some (handler_number s.source word) = h.found ∙ ap Some (sym h.position) in
      record {
        from = from;
        in_call = handler_in_call q e;
        ends = sym (ap (λ f. run_named p s.world word (Ok store) f) number) ∙ sym (ap (λ o. run_named p s.world word o (function_named p word)) is);
      }

pub boots_begin : BootsBegin
boots_begin s is =
    let p = s.source.program in
    let same = is.process.is in
    let begins = ap (λ x. started x (handler_number s.source (codes "init")) []) (sym same) in
    handler_busy s (initial_store p) is.source is.is_store (codes "init") (init_handler p is.source.valid) (begun_init s.source s.process) begins (with_message (initial_store p) zero_message) (zero_at_start p is.source.valid)

pub deliveries_begin : DeliveriesBegin
deliveries_begin s store is m good =
    let p = s.source.program in
    let puts = take_messages p is.source.valid store is.is_store 0 (omega arith) m good in
    let f = handler_number s.source (codes "on_message") in
    let put : Process → Process = λ x. started (with_content x (machine.with_message x.rows m x.content)) f [] in
    let old = process_of p store s.process.outbox s.process.activity s.process.spare in
    let content : machine.with_message (rows_of p store) m (content_of p.types store) ≡ content_of p.types puts.next = ap (λ b. machine.with_bytes (rows_of p store) 0 b (content_of p.types store)) (same_message_bytes m good) ∙ put_content p store 0 m puts in
    let same = is.process.is in
    let begins : begun_delivery s.source s.process m ≡ begun s (call_from puts.next f []) = ap put same
    ∙ (ap (λ c. started (with_content old c) f []) content ∙ ap (λ x. started x f []) (put_process p store 0 m puts s.process.outbox s.process.activity s.process.spare)) in
    handler_busy s puts.next is.source puts.store (codes "on_message") (message_handler p is.source.valid) (begun_delivery s.source s.process m) (sym begins) (with_message store m) puts.is

-- a delivery takes the ticks of its call
ticks_same : (e : Ending) → (e ≡ Starved → ⊥) → used_of CALL_TICKS e ≡ ticks_of (delivered e)
ticks_same (Returned result store sends left) some = by (with_no_messages store)
  where
    by : (r : Gives Store) → CALL_TICKS - left ≡ ticks_of (ended (CALL_TICKS - left) sends r)
    by (Ok next) = refl
    by (Err trap) = refl
ticks_same (Trapped trap left) some = refl
ticks_same Starved some = absurd (some refl)

-- how a delivery ends, by how its call does
module _ (s : ServerState) (outcome : Delivered) (given : ℕ) (busy : IsBusy s outcome given) where
  abbrev c : CallFrom
  c = busy.from

  delivery_returns : (total word : ℕ) (after : ServerState) → CallReturns s c total word after → DeliveryEnds outcome total after
  delivery_returns total word after r =
      let used : used_of CALL_TICKS (ending_of s c) ≡ CALL_TICKS - r.left = ap (used_of CALL_TICKS) r.ending in
      let few = r.enough in
      record {
        store = r.next;
        sends = r.sends;
        used = CALL_TICKS - r.left;
        is = sym busy.ends ∙ (ap delivered r.ending ∙ ap (ended (CALL_TICKS - r.left) r.sends) r.no_messages);
        enough = omega (arith, used, few);
        server = r.server;
        outbox = r.outbox;
      }

  delivery_dies : (total : ℕ) (trap : Trap) (after : ServerState) → CallTraps s c total trap after → DeliveryDies outcome total trap after
  delivery_dies total trap after r =
      let used : used_of CALL_TICKS (ending_of s c) ≡ CALL_TICKS - r.left = ap (used_of CALL_TICKS) r.ending in
      let few = r.enough in
      record {
        used = CALL_TICKS - r.left;
        is = sym busy.ends ∙ ap delivered r.ending;
        enough = omega (arith, used, few);
        plain = r.plain;
        over = r.over;
      }

  less : (total : ℕ) → total < used_of CALL_TICKS (ending_of s c) → total < ticks_of outcome
  less total h =
      subst (λ n. total < n) (ticks_same (ending_of s c) (never_starves s c given busy.in_call) ∙ ap ticks_of busy.ends) h

  -- a server after a run, which has the same source and numbers
  still_busy : (q : Process) (total : ℕ) → IsInCall (with_process s q) c total → IsBusy (with_process s q) outcome total
  still_busy q total h = record { from = c; in_call = h; ends = busy.ends }

pub runs_of_deliveries : RunsOfDeliveries
runs_of_deliveries s outcome given busy ticks (stop.Returned word) q served =
    delivery_returns s outcome given busy (given + ticks) word (with_process s q) (runs_of_calls s busy.from given busy.in_call ticks (stop.Returned word) q served)
runs_of_deliveries s outcome given busy ticks (stop.Trapped trap) q served =
    delivery_dies s outcome given busy (given + ticks) trap (with_process s q) (runs_of_calls s busy.from given busy.in_call ticks (stop.Trapped trap) q served)
runs_of_deliveries s outcome given busy ticks stop.Paused q served =
    let r = runs_of_calls s busy.from given busy.in_call ticks stop.Paused q served in
    (less s outcome given busy (given + ticks) r.0, still_busy s outcome given busy q (given + ticks) r.1)
runs_of_deliveries s outcome given busy ticks stop.Memory q served =
    let r = runs_of_calls s busy.from given busy.in_call ticks stop.Memory q served in
    (r.0, r.1, still_busy s outcome given busy q (given + r.0) r.2)
