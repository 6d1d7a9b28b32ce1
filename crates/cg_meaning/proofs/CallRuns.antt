-- Runs of calls that are under way.
use Rattle.std.proofs.Common.{◌≡◌, ◌∙◌, refl, ap, sym, subst, inl, inr, Bool, true, false, ℕ, ◌+◌, ◌<◌, ◌≤◌, List, [], ◌∷◌, ◌++◌, map, sum, Some, None, arith, nat_lt}
use Rattle.std.proofs.lemmas.Bool.Decides.{nat_tests}
use Rattle.std.proofs.lemmas.List.Sums.{sum_by-cons}
use Rattle.lu_base.specs.declared.world.World.{World}
use Rattle.lu_base.specs.declared.limits.TheConstants.{CALL_TICKS}
use Rattle.lu_base.specs.declared.trap.Trap.{Trap}
use Rattle.src_tree.specs.declared.program.Program.{Program}
use Rattle.src_meaning.specs.Objects.{addresses}
use Rattle.src_meaning.specs.Call.{Ending, Returned, Trapped, Starved}
use Rattle.bm_code.specs.declared.code.MachineCode.{MachineCode}
use Rattle.bm_code.specs.declared.stop.Stop.TheVariants as stop
use Rattle.bm_code.specs.Calls.{is_running, started}
use Rattle.bm_code.specs.Process.{Process, Idle}
use Rattle.bm_code.specs.Ran.{IsRefused}
use Rattle.bm_code.specs.Run as Run
use Rattle.bm_code.specs.Run.{Final, final, Paused, RunsTo}
use Rattle.bm_code.specs.Transfers.{idle}
use Rattle.cg_program.specs.Compiled.{machine_code}
use Rattle.cg_server.specs.Deliveries.{delivered}
use Rattle.cg_server.specs.State.{ServerState, with_process}
use Rattle.cg_state.specs.Represents.{value_word, process_of, IsIdle}
use Rattle.cg_state.specs.Runs.{IsPlain}
use Rattle.cg_sim.specs.CallEnds.{EndsAs, result_word}
use Rattle.cg_sim.specs.Simulation.{call_start}
use Rattle.cg_sim.proofs.Theorem.{calls_run}
use Rattle.cg_sim_program.specs.Slices.{IsSlice, AreSlices, AnswersAs, used_of, EndsAfter}
use Rattle.cg_sim_program.proofs.SlicesEnd.{calls_run_in_slices}
use Rattle.cg_sim_program.proofs.SourceCompiled.{source_compiled}
use Rattle.cg_meaning.specs.Runs.{CallFrom, ending_of, begun, IsInCall, CallReturns, CallTraps, RunsOfCalls, CallsBegin}
use Rattle.cg_meaning.proofs.NoMessages.{cleared}

below : (a b : ℕ) → nat_lt a b ≡ true → a < b
below a b h = grind (arith, nat_tests, h)

not_below : (a b : ℕ) → nat_lt a b ≡ false → b ≤ a
not_below a b h = grind (arith, nat_tests, h)

-- one more run
slices_more : (code : MachineCode) (world : World) (slices : List ℕ) (spent : ℕ) (p q x : Process) → AreSlices code world slices p q → IsSlice code world spent q x → AreSlices code world (slices ++ spent ∷ []) p x
slices_more code world [] spent p q x h one = (x, subst (λ q. IsSlice code world spent q x) (sym h) one, refl)
slices_more code world (n ∷ slices) spent p q x h one = (h.0, h.1, slices_more code world slices spent h.0 q x h.2 one)

sum_more : (slices : List ℕ) (spent : ℕ) → sum (slices ++ spent ∷ []) ≡ sum slices + spent
sum_more [] spent = let one = sum_by-cons (λ x. x) spent [] in omega (arith, one)
sum_more (n ∷ slices) spent =
    let one = sum_by-cons (λ x. x) n (slices ++ spent ∷ []) in
    let rest = sum_more slices spent in
    let whole = sum_by-cons (λ x. x) n slices in
    omega (arith, one, rest, whole)

module _ (s : ServerState) (c : CallFrom) (given : ℕ) (at : IsInCall s c given) where
  abbrev program : Program
  program = s.source.program

  abbrev code : MachineCode
  code = machine_code s.source

  abbrev ending : Ending
  ending = ending_of s c

  -- a run that ended it, or paused
  run_ends : (ticks : ℕ) (r : Final) → RunsTo code s.world ticks s.process r → EndsAfter program ending (used_of CALL_TICKS ending) (given + ticks) r
  run_ends ticks r run =
      let words = map (value_word (addresses program.types c.store)) c.args in
      let start : Process = process_of program c.store [] (Idle None) 0 in
      let total = at.sum_is in
      subst (λ n. EndsAfter program ending (used_of CALL_TICKS ending) (n + ticks) r) total (calls_run_in_slices s.source at.source s.world c.store at.is_store start (record { idle = tt; is = refl }) c.function at.declaration at.at c.args at.typed at.slices ticks s.process r at.runs run)

  -- a run that ends it without a pause had the ticks of the call
  enough : (ticks : ℕ) (r : Final) → EndsAfter program ending (used_of CALL_TICKS ending) (given + ticks) r → (r.ending ≡ Paused → ⊥) → used_of CALL_TICKS ending ≤ given + ticks
  enough ticks r e goes = by (nat_lt (given + ticks) (used_of CALL_TICKS ending)) refl
    where
      by : (b : Bool) → nat_lt (given + ticks) (used_of CALL_TICKS ending) ≡ b → used_of CALL_TICKS ending ≤ given + ticks
      by true h = let lt : given + ticks < used_of CALL_TICKS ending = below (given + ticks) (used_of CALL_TICKS ending) h in absurd (goes (e.short lt))
      by false h = not_below (given + ticks) (used_of CALL_TICKS ending) h

  -- how the call of the text ends on the machine
  ends : EndsAs program code s.world (call_start program c.store c.function c.args CALL_TICKS) at.declaration.ret ending
  ends =
      calls_run program at.source.valid code (source_compiled s.source at.source) s.world c.store at.is_store c.function at.declaration at.at c.args at.typed CALL_TICKS

  pub never_starves : ending ≡ Starved → ⊥
  never_starves e =
      subst (EndsAs program code s.world (call_start program c.store c.function c.args CALL_TICKS) at.declaration.ret) e ends

  -- the server that goes on
  in_call : (spent : ℕ) (q : Process) → IsSlice code s.world spent s.process q → IsInCall (with_process s q) c (given + spent)
  in_call spent q one =
      let total = at.sum_is in
      let more = sum_more at.slices spent in
      record {
        source = at.source;
        is_store = at.is_store;
        declaration = at.declaration;
        at = at.at;
        typed = at.typed;
        slices = at.slices ++ spent ∷ [];
        sum_is = omega (arith, total, more);
        runs = slices_more code s.world at.slices spent (begun s c) s.process q at.runs one;
      }

  returns : (ticks word : ℕ) (ran q : Process) → RunsTo code s.world ticks s.process (final (Run.Returned word) ran) → q ≡ delivered (stop.Returned word) ran → CallReturns s c (given + ticks) word (with_process s q)
  returns ticks word ran q run is = by ending refl ends (answer.enough less)
    where
      answer : EndsAfter program ending (used_of CALL_TICKS ending) (given + ticks) (final (Run.Returned word) ran)
      answer = run_ends ticks (final (Run.Returned word) ran) run

      less : used_of CALL_TICKS ending ≤ given + ticks
      less = enough ticks (final (Run.Returned word) ran) answer (λ e. cc)

      by : (e : Ending) → ending ≡ e → EndsAs program code s.world (call_start program c.store c.function c.args CALL_TICKS) at.declaration.ret e → AnswersAs program e (final (Run.Returned word) ran) → CallReturns s c (given + ticks) word (with_process s q)
      by (Returned result store sends left) e h a =
          let stopped : Run.Returned word ≡ Run.Returned (result_word program store result) = ap (λ (r : Final). r.ending) a in
          let same : ran ≡ process_of program store sends (Idle None) 0 = ap (λ (r : Final). r.process) a in
          let zero = cleared program at.source.valid store h.1 sends in
          let after : q ≡ process_of program zero.next sends (Idle None) 0 = is ∙ (ap (delivered (stop.Returned word)) same ∙ zero.process) in
          record {
            result = result;
            store = store;
            sends = sends;
            left = left;
            ending = e;
            enough = less;
            word_is = cc;
            next = zero.next;
            no_messages = zero.no_messages;
            server = record {
              source = at.source;
              is_store = zero.is_store;
              process = record { idle = subst (λ (q : Process). IsIdle q.activity) (sym after) tt; is = subst (λ (q : Process). q ≡ process_of program zero.next q.outbox q.activity q.spare) (sym after) refl };
            };
            outbox = ap (λ (q : Process). q.outbox) after;
          }
      by (Trapped trap left) e h a = let wrong = ap (λ (r : Final). r.ending) a.1 in absurd (cc)
      by Starved e h a = absurd a

  traps : (ticks : ℕ) (trap : Trap) (ran q : Process) → RunsTo code s.world ticks s.process (final (Run.Trapped trap) ran) → q ≡ ran → CallTraps s c (given + ticks) trap (with_process s q)
  traps ticks trap ran q run is = by ending refl ends (answer.enough less)
    where
      answer : EndsAfter program ending (used_of CALL_TICKS ending) (given + ticks) (final (Run.Trapped trap) ran)
      answer = run_ends ticks (final (Run.Trapped trap) ran) run

      less : used_of CALL_TICKS ending ≤ given + ticks
      less = enough ticks (final (Run.Trapped trap) ran) answer (λ e. cc)

      by : (e : Ending) → ending ≡ e → EndsAs program code s.world (call_start program c.store c.function c.args CALL_TICKS) at.declaration.ret e → AnswersAs program e (final (Run.Trapped trap) ran) → CallTraps s c (given + ticks) trap (with_process s q)
      by (Returned result store sends left) e h a = let wrong = ap (λ (r : Final). r.ending) a in absurd (cc)
      by (Trapped other left) e h a =
          let stopped : Run.Trapped trap ≡ Run.Trapped other = ap (λ (r : Final). r.ending) a.1 in
          let same : trap ≡ other = cc in
          let after : q ≡ idle (Some other) a.0 = is ∙ ap (λ (r : Final). r.process) a.1 in
          record {
            left = left;
            ending = e ∙ ap (λ t. Trapped t left) (sym same);
            enough = less;
            plain = subst IsPlain (sym same) h.0;
            over = ap (λ (q : Process). is_running q.activity) after;
          }
      by Starved e h a = absurd a

  pauses : (ticks : ℕ) (q : Process) → RunsTo code s.world ticks s.process (final Paused q) → (given + ticks < used_of CALL_TICKS ending) × IsInCall (with_process s q) c (given + ticks)
  pauses ticks q run = (by (nat_lt (given + ticks) (used_of CALL_TICKS ending)) refl, in_call ticks q (inl run))
    where
      answer : EndsAfter program ending (used_of CALL_TICKS ending) (given + ticks) (final Paused q)
      answer = run_ends ticks (final Paused q) run

      none : (e : Ending) → AnswersAs program e (final Paused q) → ⊥
      none (Returned result store sends left) a = let wrong = ap (λ (r : Final). r.ending) a in cc
      none (Trapped trap left) a = let wrong = ap (λ (r : Final). r.ending) a.1 in cc
      none Starved a = a

      by : (b : Bool) → nat_lt (given + ticks) (used_of CALL_TICKS ending) ≡ b → given + ticks < used_of CALL_TICKS ending
      by true h = below (given + ticks) (used_of CALL_TICKS ending) h
      by false h =
          let le : used_of CALL_TICKS ending ≤ given + ticks = not_below (given + ticks) (used_of CALL_TICKS ending) h in
          absurd (none ending (answer.enough le))

pub runs_of_calls : RunsOfCalls
runs_of_calls s c given at ticks (stop.Returned word) q served = returns s c given at ticks word served.ran q served.run served.is
runs_of_calls s c given at ticks (stop.Trapped trap) q served = traps s c given at ticks trap served.ran q served.run served.is
runs_of_calls s c given at ticks stop.Paused q served =
    let is = served.is in
    pauses s c given at ticks q (subst (λ q. RunsTo (machine_code s.source) s.world ticks s.process (final Paused q)) (sym is) served.run)
runs_of_calls s c given at ticks stop.Memory q served =
    let is = served.is in
    let refused : IsRefused (machine_code s.source) s.world ticks s.process q = subst (λ q. IsRefused (machine_code s.source) s.world ticks s.process q) (sym is) served.run in
    (refused.spent, refused.within, in_call s c given at refused.spent q (inr (ticks, refused, refl)))

pub calls_begin : CallsBegin
calls_begin s store is f d at args typed = record {
  source = is.source;
  is_store = is.is_store;
  declaration = d;
  at = at;
  typed = typed;
  slices = [];
  sum_is = refl;
  runs = let same = is.process.is in ap (λ x. started x f (map (value_word (addresses s.source.program.types store)) args)) (sym same);
}
