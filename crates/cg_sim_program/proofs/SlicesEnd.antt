-- A call in slices ends as the call of the text does.
use Rattle.std.proofs.Common.{◌≡◌, refl, ap, sym, subst, inl, inr, ℕ, zero, suc, ◌+◌, ◌-◌, ◌<◌, ◌≤◌, List, [], ◌∷◌, sum, map, Option, Some, None, arith}
use Rattle.std.proofs.lemmas.List.Sums.{sum_by-cons}
use Rattle.lu_base.specs.declared.world.World.{World}
use Rattle.lu_base.specs.declared.limits.TheConstants.{CALL_TICKS}
use Rattle.lu_base.specs.declared.trap.Trap.{Trap}
use Rattle.src_tree.specs.declared.program.Program.{Program}
use Rattle.src_meaning.specs.Objects.{addresses}
use Rattle.src_meaning.specs.Call.{Ending, Returned, Trapped, Starved, call}
use Rattle.bm_code.specs.declared.code.MachineCode.{MachineCode}
use Rattle.bm_code.specs.Calls.{started}
use Rattle.bm_code.specs.Process.{Process, Idle, Starting}
use Rattle.bm_code.specs.Run as Run
use Rattle.bm_code.specs.Run.{Final, final, Paused, RunsTo}
use Rattle.bm_code.specs.Step.{step_instruction}
use Rattle.bm_code.specs.Steps.{Progress, progress, ticked, progress_by, advance, Steps}
use Rattle.bm_code.specs.Transfers.{Effect, Next, Spends, Returns, Traps, idle}
use Rattle.bm_code.proofs.Pause.{one_end}
use Rattle.bm_code.proofs.Steps.{run_next, run_tick, run_returns, run_traps, run_budget, run_pause, split, steps_compose, steps_prolong, pause_after_steps}
use Rattle.cg_program.specs.Compiled.{machine_code}
use Rattle.cg_state.specs.Represents.{value_word, process_of}
use Rattle.cg_state.specs.Runs.{Point, TrapsBy, TrapsAs, process_at}
use Rattle.cg_sim.specs.CallEnds.{ReturnsAs, EndsAs, result_word}
use Rattle.cg_sim.proofs.Theorem.{calls_run}
use Rattle.cg_sim_program.specs.Slices.{IsSlice, AreSlices, used_of, EndsAfter, CallsRunInSlices}
use Rattle.cg_sim_program.proofs.SourceCompiled.{source_compiled}

some_in : {A : Type 0} (a b : A) → Some a ≡ Some b → a ≡ b
some_in a b h = cc

none_some : {A : Type 0} (a : A) → None ≡ Some a → ⊥
none_some a h = cc

module _ (code : MachineCode) (world : World) where
  abbrev Pauses : ℕ → Process → Type 0
  Pauses ticks p = (x : Process) × RunsTo code world ticks p (final Paused x)

  -- instructions that spend more ticks than a run has leave it paused
  pauses : (n ticks : ℕ) (p : Process) (b : Progress) → advance code world n p ≡ Some b → ticks < b.spent → Pauses ticks p
  pauses zero ticks p b e lt =
      let none : 0 ≡ b.spent = ap (λ x. x.spent) (some_in (progress p 0) b e) in
      absurd (omega (arith, none, lt))
  pauses (suc n) ticks p b e lt =
      let f = split code world n p b e in
      let spent : f.one.spent + f.rest.spent ≡ b.spent = ap (λ x. x.spent) f.whole in
      by_effect f.one f.rest (step_instruction code world p) refl f.first f.others spent (λ l x h. pauses n l f.one.process f.rest f.others h)
    where
      by_spare : (one rest : Progress) (s l : ℕ) (x : Process) → step_instruction code world p ≡ Spends x → p.spare ≡ s → ticks ≡ l → ticked s x ≡ Some one → one.spent + rest.spent ≡ b.spent → ((l : ℕ) (x : Process) → l < rest.spent → Pauses l one.process) → Pauses ticks p
      by_spare one rest zero l x is at left h spent again = absurd (none_some one h)
      by_spare one rest (suc s) zero x is at left h spent again =
          subst (λ l. Pauses l p) (sym left) (p, run_pause code world p x is (omega (arith, at)))
      by_spare one rest (suc s) (suc l) x is at left h spent again =
          let same : progress (record x { spare = s }) 1 ≡ one = some_in (progress (record x { spare = s }) 1) one h in
          let tick : 1 ≡ one.spent = ap (λ x. x.spent) same in
          let process : record x { spare = s } ≡ one.process = ap (λ x. x.process) same in
          let later = again l x (omega (arith, lt, left, spent, tick)) in
          subst (λ l. Pauses l p) (sym left) (later.0, run_tick code world l s p x (final Paused later.0) is at (subst (λ y. RunsTo code world l y (final Paused later.0)) (sym process) later.1))

      by_effect : (one rest : Progress) (e : Effect) → step_instruction code world p ≡ e → progress_by e p ≡ Some one → advance code world n one.process ≡ Some rest → one.spent + rest.spent ≡ b.spent → ((l : ℕ) (x : Process) → l < rest.spent → Pauses l one.process) → Pauses ticks p
      by_effect one rest (Next x) is h more spent again =
          let same : progress x 0 ≡ one = some_in (progress x 0) one h in
          let none : 0 ≡ one.spent = ap (λ x. x.spent) same in
          let process : x ≡ one.process = ap (λ x. x.process) same in
          let later = again ticks x (omega (arith, lt, spent, none)) in
          (later.0, run_next code world ticks p x (final Paused later.0) is (subst (λ y. RunsTo code world ticks y (final Paused later.0)) (sym process) later.1))
      by_effect one rest (Spends x) is h more spent again = by_spare one rest p.spare ticks x is refl refl h spent again
      by_effect one rest (Returns v x) is h more spent again = absurd (none_some one h)
      by_effect one rest (Traps t x) is h more spent again = absurd (none_some one h)

  -- slices are instructions, and spent what each did
  abbrev Led : List ℕ → Process → Process → Type 0
  Led slices p q = (count : ℕ) × Steps code world count (sum slices) p q

  slice_led : (spent : ℕ) (p q : Process) → IsSlice code world spent p q → (count : ℕ) × Steps code world count spent p q
  slice_led spent p q (inl run) = let s = pause_after_steps code world spent p q run in (s.count, s.steps)
  slice_led spent p q (inr (ticks, refused, is)) = (refused.count, subst (λ n. Steps code world refused.count n p q) is refused.steps)

  led : (slices : List ℕ) (p q : Process) → AreSlices code world slices p q → Led slices p q
  led [] p q e = (0, ap (λ x. Some (progress x 0)) e)
  led (spent ∷ more) p q h =
      let one = slice_led spent p h.0 h.1 in
      let rest = led more h.0 q h.2 in
      (one.0 + rest.0, subst (λ n. Steps code world (one.0 + rest.0) n p q) (sym (sum_by-cons (λ x. x) spent more)) (steps_compose code world one.0 rest.0 spent (sum more) p h.0 q one.1 rest.1))

  -- a run of a call whose end is known
  module _ (program : Program) (start : Point) where
    abbrev from : Process
    from = process_at program code world start

    short_is : (count spent given : ℕ) (q : Process) (r : Final) → Steps code world count spent from q → RunsTo code world given from r → given < spent → r.ending ≡ Paused
    short_is count spent given q r steps run lt =
        let x = pauses count given from (progress q spent) steps lt in
        ap (λ (r : Final). r.ending) (one_end code world given from r (final Paused x.0) run x.1)

    -- with ticks enough a run comes to the end that follows
    end_is : (count spent given : ℕ) (q : Process) (r end : Final) → Steps code world count spent from q → RunsTo code world given from r → spent ≤ given → RunsTo code world (given - spent) q end → r ≡ end
    end_is count spent given q r end steps run le last =
        let total : spent + (given - spent) ≡ given = omega (arith, le) in
        one_end code world given from r end run (subst (λ n. RunsTo code world n from end) total (steps_prolong code world count spent (given - spent) from q end steps last))

    trap_is : (t : Trap) (rest : ℕ) (q : Process) (e : Effect) → step_instruction code world q ≡ e → TrapsBy t q e → RunsTo code world rest q (final (Run.Trapped t) (idle (Some t) q))
    trap_is t rest q (Traps u x) is h =
        subst (λ x. RunsTo code world rest q (final (Run.Trapped t) x)) h.1 (subst (λ u. RunsTo code world rest q (final (Run.Trapped u) x)) h.0 (run_traps code world rest u q x is))
    trap_is t rest q (Spends x) is h =
        subst (λ u. RunsTo code world rest q (final (Run.Trapped u) (idle (Some u) q))) (sym h.0) (run_budget code world rest q x is h.1)
    trap_is t rest q (Next x) is h = absurd h
    trap_is t rest q (Returns v x) is h = absurd h

    used_is : (spent left ticks : ℕ) → spent + left ≡ ticks → ticks - left ≡ spent
    used_is spent left ticks e = omega (arith, e)

    ends_after : (ret : Option ℕ) (e : Ending) (given : ℕ) (r : Final) → EndsAs program code world start ret e → RunsTo code world given from r → EndsAfter program e (used_of start.ticks e) given r
    ends_after ret (Returned v store sends left) given r h run =
        let does : ReturnsAs program code world start (result_word program store v) store sends left = h.2 in
        let l = does.leads in
        let used = used_is l.spent left start.ticks l.counted in
        let q = process_of program store sends does.activity left in
        record {
          short = λ lt. short_is l.count l.spent given q r l.steps run (omega (arith, lt, used));
          enough = λ le. end_is l.count l.spent given q r (final (Run.Returned (result_word program store v)) (process_of program store sends (Idle None) 0)) l.steps run (omega (arith, le, used)) (run_returns code world (given - l.spent) (result_word program store v) q (idle None q) does.returns);
        }
    ends_after ret (Trapped trap left) given r h run =
        let does : TrapsAs program code world start trap left = h.1 in
        let used = used_is does.spent left start.ticks does.counted in
        record {
          short = λ lt. short_is does.count does.spent given does.process r does.steps run (omega (arith, lt, used));
          enough = λ le. (does.process, end_is does.count does.spent given does.process r (final (Run.Trapped trap) (idle (Some trap) does.process)) does.steps run (omega (arith, le, used)) (trap_is trap (given - does.spent) does.process (step_instruction code world does.process) refl does.traps));
        }
    ends_after ret Starved given r h run = absurd h

  -- however the ticks were given
  slices_run : (slices : List ℕ) (last : ℕ) (p q : Process) (r : Final) → AreSlices code world slices p q → RunsTo code world last q r → RunsTo code world (sum slices + last) p r
  slices_run slices last p q r h run = let l = led slices p q h in steps_prolong code world l.0 (sum slices) last p q r l.1 run

pub calls_run_in_slices : CallsRunInSlices
calls_run_in_slices s is world store ok process stands f d e args typed slices last q r h run =
    let p = s.program in
    let code = machine_code s in
    let words = map (value_word (addresses p.types store)) args in
    let start : Point = record { store = store; sends = []; activity = Starting f words; ticks = CALL_TICKS } in
    let same : started process f words ≡ process_at p code world start = ap (λ x. started x f words) stands.is in
    let all = slices_run code world slices last (process_at p code world start) q r (subst (λ x. AreSlices code world slices x q) same h) run in
    ends_after code world p start d.ret (call p world store f args CALL_TICKS) (sum slices + last) r (calls_run p is.valid code (source_compiled s is) world store ok f d e args typed CALL_TICKS) all
