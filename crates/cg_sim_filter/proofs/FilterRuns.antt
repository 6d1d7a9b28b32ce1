-- What the hidden function of a filter comes to.
use Rattle.std.proofs.Common.{◌≡◌, ◌∙◌, refl, ap, sym, subst, Bool, true, false, not, cond, ℕ, zero, suc, ◌+◌, ◌-◌, List, [], ◌∷◌, ◌++◌, length, map, Option, Some, None, Result, Ok, Err, arith, nat_eq, length-append}
use Rattle.std.specs.Prelude.{slice_get, pos}
use Rattle.std.specs.Option.{option_map}
use Rattle.std.proofs.lemmas.Bool.Decides.{nat_tests}
use Rattle.lu_spec.specs.Then.{then_do, then_option}
use Rattle.lu_base.specs.declared.limits.TheConstants.{CALL_TICKS}
use Rattle.lu_base.specs.declared.trap.Trap.{Trap}
use Rattle.lu_base.specs.declared.trap.Trap.TheVariants as trap
use Rattle.lu_base.specs.declared.trap.Trap.TheVariants.{BadCode, Panic}
use Rattle.c_types.specs.declared.parts.Ty.{Ty}
use Rattle.c_types.specs.declared.parts.Ty.TheVariants as T
use Rattle.src_tree.specs.declared.value.Value.{Value}
use Rattle.src_tree.specs.declared.value.Store.{Store}
use Rattle.src_tree.specs.declared.expr.TypedExpr.{TypedExpr}
use Rattle.src_tree.specs.declared.program.Program.{Program}
use Rattle.src_meaning.specs.Objects.{Gives, addresses}
use Rattle.src_meaning.specs.Operators.{is_true}
use Rattle.src_meaning.specs.Expression.{Scope, value_of}
use Rattle.src_meaning.specs.Store.{has_type}
use Rattle.src_meaning.specs.ValidTypes.{ty, is_integer, is_scalar}
use Rattle.bm_isa.specs.declared.instr.Instr.{Instr}
use Rattle.bm_isa.specs.declared.instr.Instr.TheVariants as I
use Rattle.bm_alu.specs.Words.{flag}
use Rattle.bm_code.specs.declared.code.MachineCode.{MachineCode}
use Rattle.bm_code.specs.declared.code.MachineFunction.{MachineFunction}
use Rattle.bm_code.specs.declared.stop.Stop.{Stop}
use Rattle.bm_code.specs.declared.stop.Stop.TheVariants as stop
use Rattle.bm_code.specs.Calls.{settled, started}
use Rattle.bm_code.specs.Frames.{some_or}
use Rattle.bm_code.specs.Process.{Frame, Idle, Starting, Running, Process}
use Rattle.bm_code.specs.Ran.{AddsObject, IsRun, IsRefused}
use Rattle.bm_code.specs.Steps.{Progress, progress, progress_by, after_ticks, advance, Steps}
use Rattle.bm_code.specs.Run as Run
use Rattle.bm_code.specs.Run.{Final, final, RunsTo, run_machine}
use Rattle.bm_code.specs.Step.{step_instruction}
use Rattle.bm_code.specs.Transfers.{Effect, Next, Spends, Returns, Traps, idle, trap, running, entered}
use Rattle.bm_code.proofs.Pause.{one_end}
use Rattle.bm_code.proofs.Steps.{run_traps, run_budget, steps_prolong}
use Rattle.cg_expr.specs.Code.{Target, expression_code}
use Rattle.cg_expr.specs.Sizes.{expression_size}
use Rattle.cg_expr.proofs.Lengths.{length-expression}
use Rattle.cg_stmt.specs.Functions.{machine_function, filter_function}
use Rattle.cg_program.specs.Compiled.{IsFilter, target_of, machine_code}
use Rattle.cg_server.specs.Deliveries.{filter_answer, filter_number}
use Rattle.cg_server.specs.State.{ServerState, with_process}
use Rattle.cg_state.specs.Represents.{process_of, value_word, IsIdle}
use Rattle.cg_state.specs.Runs.{Point, point, HasAt, Leads, TrapsBy, TrapsAs, Yields}
use Rattle.cg_state.proofs.HasCode.{has_all, has_front, has_rest}
use Rattle.cg_state.proofs.Leads.{leads_traps, tick_leads}
use Rattle.cg_sim_expr.specs.Setting.{Setting, IsSetting, scope_in, word_in, at_place}
use Rattle.cg_sim_expr.specs.Simulation.{HasRoom}
use Rattle.cg_sim_expr.proofs.Here.{goes, fails}
use Rattle.cg_sim_expr.proofs.Matching.{a_scalar, truth_of}
use Rattle.cg_sim_expr.proofs.Theorem.{expressions_run}
use Rattle.cg_meaning.specs.Servers.{IsServerOf}
use Rattle.cg_sim_filter.specs.Filters.{holds_in, AnswersFilter, FiltersAnswer}
use Rattle.cg_sim_filter.proofs.NoPanics.{IsOther, NoPanic, conditions, values}
use Rattle.cg_sim_filter.proofs.QuietCode.{quiet_filter}
use Rattle.cg_sim_filter.proofs.QuietRuns.{Stays, run_stays, steps_stay, adds_none}

-- a trap as the server reads it where its code traps so
abbrev as_answer : Gives Bool → Result Bool Trap
as_answer (Ok b) = Ok b
as_answer (Err trap) = filter_answer (stop.Trapped trap)

same_answer : (r : Gives Bool) → NoPanic r → as_answer r ≡ r
same_answer (Ok b) h = refl
same_answer (Err t) h = by t h
  where
    by : (t : Trap) → IsOther t → filter_answer (stop.Trapped t) ≡ Err t
    by trap.DivZero h = refl
    by trap.BadShift h = refl
    by trap.BadIndex h = refl
    by trap.BadPointer h = refl
    by trap.PtrRange h = refl
    by trap.PtrOrder h = refl
    by trap.UnionMember h = refl
    by trap.BadCall h = refl
    by trap.BadFree h = refl
    by trap.Depth h = refl
    by trap.Budget h = refl
    by (trap.Panic n) h = absurd h
    by trap.BadCode h = refl

length_mapped : {A B : Type 0} (f : A → B) (xs : List A) → length (map f xs) ≡ length xs
length_mapped f [] = refl
length_mapped f (x ∷ xs) = ap suc (length_mapped f xs)

get_mapped : {A B : Type 0} (f : A → B) (ys : List A) (k : ℕ) (y : A) → slice_get ys k ≡ Some y → slice_get (map f ys) k ≡ Some (f y)
get_mapped f [] k y e = absurd (cc)
get_mapped f (z ∷ ys) zero y e = let same : z ≡ y = cc in ap (λ y. Some (f y)) same
get_mapped f (z ∷ ys) (suc k) y e = get_mapped f ys k y e

-- what stands behind a list
get_behind : {A B : Type 0} (f : A → B) (xs : List B) (ys : List A) (k : ℕ) (y : A) → slice_get ys k ≡ Some y → slice_get (xs ++ map f ys) (length xs + k) ≡ Some (f y)
get_behind f [] ys k y e = let n : 0 + k ≡ k = omega arith in ap (slice_get (map f ys)) n ∙ get_mapped f ys k y e
get_behind f (x ∷ xs) ys k y e =
    let n : length (x ∷ xs) + k ≡ suc (length xs + k) = omega arith in
    ap (slice_get (x ∷ (xs ++ map f ys))) n ∙ get_behind f xs ys k y e

module _ (s : ServerState) (store : Store) (is : IsServerOf s store) (k : ℕ) (e : TypedExpr) (at : slice_get s.source.filters k ≡ Some e) where
  abbrev p : Program
  p = s.source.program

  abbrev code : MachineCode
  code = machine_code s.source

  abbrev target : Target
  target = target_of p

  abbrev number : ℕ
  number = filter_number s.source k

  abbrev m : MachineFunction
  m = filter_function target (length p.names) e

  abbrev body : List Instr
  body = expression_code target e.ty e.kind 0

  function_at : slice_get code.functions number ≡ Some m
  function_at =
      let long : length (map (machine_function target) p.functions) ≡ length p.functions = length_mapped (machine_function target) p.functions in
      ap (λ n. slice_get code.functions (n + k)) (sym long)
      ∙ get_behind (filter_function target (length p.names)) (map (machine_function target) p.functions) s.source.filters k e at

  abbrev entry : Frame
  entry = record { function = number; place = 0; locals = []; stack = [] }

  abbrev base : Process
  base = process_of p store [] (Idle None) 0

  abbrev begin : Process
  begin = process_of p store [] (Starting number []) CALL_TICKS

  abbrev first : Process
  first = process_of p store [] (Running entry []) CALL_TICKS

  -- the entry's tick
  enters : step_instruction code s.world begin ≡ Spends first
  enters = ap (λ o. some_or o (trap BadCode begin) (λ d. Spends (running begin (entered d number []) []))) function_at

  abbrev x : Setting
  x = record {
    program = p;
    code = code;
    world = s.world;
    function = number;
    machine = m;
    callers = [];
    params = [];
    locals = [];
    store = store;
    values = [];
    sends = [];
    ticks = 999999;
  }

  is_setting : IsSetting x
  is_setting = record {
    valid = is.source.valid;
    types = refl;
    at = function_at;
    height = refl;
    store = is.is_store;
    values = λ k u h. absurd (cc);
  }

  abbrev last : List Instr
  last = I.Not ∷ I.Not ∷ I.Panic ∷ []

  has_body : HasAt m.code 0 body
  has_body = has_front m.code 0 body last (has_all (body ++ last) [])

  long : length body ≡ expression_size p.types e.ty e.kind
  long = length-expression target e.ty e.kind 0

  abbrev size : ℕ
  size = expression_size p.types e.ty e.kind

  has_last : HasAt m.code (0 + size) last
  has_last = has_rest m.code 0 size body last long (has_all (body ++ last) [])

  has_room : HasRoom x body size 0 []
  has_room = record { code = has_body; within = omega (arith, long, length-append body last); room = omega arith }

  abbrev is_filter : IsFilter p e
  is_filter = is.source.filters k e at

  scalar : is_scalar (ty p.types e.ty) ≡ true
  scalar = of_integer (ty p.types e.ty) is_filter.integer
    where
      of_integer : (o : Option Ty) → is_integer o ≡ true → is_scalar o ≡ true
      of_integer (Some (T.Int kind)) h = refl
      of_integer _ h = absurd (cc)

  abbrev place_here : ℕ → List ℕ → Point
  place_here pc stack = at_place x pc stack

  runs : Yields p code s.world (place_here 0 []) (λ v. has_type p store e.ty v ≡ true) (λ v. place_here (0 + size) (word_in x v ∷ [])) (value_of (scope_in x) e.ty e.kind)
  runs = expressions_run x is_setting e 64 0 [] is_filter.valid.typed scalar (omega arith) is_filter.valid.bounds has_room

  -- a word's truth is handed on as a panic
  panics : (w : ℕ) (b : Bool) → nat_eq w 0 ≡ b → TrapsAs p code s.world (place_here (0 + size) (w ∷ [])) (Panic (cond b (pos 0) (pos 1))) 999999
  panics w b zero_is =
      let one : Leads p code s.world (place_here (0 + size) (w ∷ [])) (place_here (0 + size + 1) (flag b ∷ [])) = goes p code s.world number m function_at [] store store [] [] [] [] 999999 (0 + size) (0 + size + 1) (w ∷ []) (flag b ∷ []) I.Not has_last.0 (ap (λ b. Next (process_of p store [] (Running (record { function = number; place = 0 + size + 1; locals = []; stack = flag b ∷ [] }) []) 999999)) zero_is) in
      leads_traps p code s.world one (rest b)
    where
      rest : (b : Bool) → TrapsAs p code s.world (place_here (0 + size + 1) (flag b ∷ [])) (Panic (cond b (pos 0) (pos 1))) 999999
      rest true =
          leads_traps p code s.world (goes p code s.world number m function_at [] store store [] [] [] [] 999999 (0 + size + 1) (0 + size + 1 + 1) (1 ∷ []) (0 ∷ []) I.Not has_last.1.0 refl) (fails p code s.world number m function_at [] store [] [] 999999 (0 + size + 1 + 1) (0 ∷ []) I.Panic (Panic (pos 0)) has_last.1.1.0 refl)
      rest false =
          leads_traps p code s.world (goes p code s.world number m function_at [] store store [] [] [] [] 999999 (0 + size + 1) (0 + size + 1 + 1) (0 ∷ []) (1 ∷ []) I.Not has_last.1.0 refl) (fails p code s.world number m function_at [] store [] [] 999999 (0 + size + 1 + 1) (1 ∷ []) I.Panic (Panic (pos 1)) has_last.1.1.0 refl)

  no_panic : NoPanic (holds_in p store e)
  no_panic =
      let scope : Scope = record { types = p.types; store = store; locals = [] } in
      conditions (value_of scope e.ty e.kind) (values scope e.ty e.kind)

  -- the trap that the filter's code comes to
  record Ends : Type 0 where
    trap_is : Trap
    ticks : ℕ
    traps : TrapsAs p code s.world (point store [] (Starting number []) CALL_TICKS) trap_is ticks
    reads : filter_answer (stop.Trapped trap_is) ≡ as_answer (holds_in p store e)

  enter_leads : Leads p code s.world (point store [] (Starting number []) CALL_TICKS) (place_here 0 [])
  enter_leads = tick_leads p code s.world store store [] [] (Starting number []) (Running entry []) 999999 enters

  ends : Ends
  ends = by (value_of (scope_in x) e.ty e.kind) refl runs
    where
      truth : (v : Value) (b : Bool) → is_true v ≡ Ok b → (b ≡ true → value_word (addresses p.types store) v ≡ 0 → ⊥) → (b ≡ false → value_word (addresses p.types store) v ≡ 0) → TrapsAs p code s.world (place_here (0 + size) (value_word (addresses p.types store) v ∷ [])) (Panic (cond (not b) (pos 0) (pos 1))) 999999
      truth v true t one alt = panics (value_word (addresses p.types store) v) false (other (value_word (addresses p.types store) v) (one refl))
        where
          other : (w : ℕ) → (w ≡ 0 → ⊥) → nat_eq w 0 ≡ false
          other w h = grind (arith, nat_tests, h)
      truth v false t one alt = panics (value_word (addresses p.types store) v) true (ap (λ w. nat_eq w 0) (alt refl))

      read : (b : Bool) → filter_answer (stop.Trapped (Panic (cond (not b) (pos 0) (pos 1)))) ≡ Ok b
      read true = refl
      read false = refl

      by : (r : Gives Value) → value_of (scope_in x) e.ty e.kind ≡ r → Yields p code s.world (place_here 0 []) (λ v. has_type p store e.ty v ≡ true) (λ v. place_here (0 + size) (word_in x v ∷ [])) r → Ends
      by (Ok v) q y =
          let t = truth_of p is.source.valid.built store e.ty v (a_scalar p is.source.valid.built store e.ty v scalar y.0) in
          record {
            trap_is = Panic (cond (not t.holds) (pos 0) (pos 1));
            ticks = 999999;
            traps = leads_traps p code s.world enter_leads (leads_traps p code s.world y.1 (truth v t.holds t.is t.one t.alt));
            reads = read t.holds ∙ sym (ap (λ r. as_answer (then_do r is_true)) q ∙ ap as_answer t.is);
          }
      by (Err u) q y = record {
        trap_is = u;
        ticks = 999999;
        traps = leads_traps p code s.world enter_leads y.1;
        reads = sym (ap (λ r. as_answer (then_do r is_true)) q);
      }

  trap_ends : (t : Trap) (rest : ℕ) (q : Process) (k : Effect) → step_instruction code s.world q ≡ k → TrapsBy t q k → RunsTo code s.world rest q (final (Run.Trapped t) (idle (Some t) q))
  trap_ends t rest q (Traps u x) is h =
      subst (λ x. RunsTo code s.world rest q (final (Run.Trapped t) x)) h.1 (subst (λ u. RunsTo code s.world rest q (final (Run.Trapped u) x)) h.0 (run_traps code s.world rest u q x is))
  trap_ends t rest q (Spends x) is h =
      subst (λ u. RunsTo code s.world rest q (final (Run.Trapped u) (idle (Some u) q))) (sym h.0) (run_budget code s.world rest q x is h.1)
  trap_ends t rest q (Next x) is h = absurd h
  trap_ends t rest q (Returns v x) is h = absurd h

  final_is : RunsTo code s.world CALL_TICKS begin (final (Run.Trapped ends.trap_is) (idle (Some ends.trap_is) ends.traps.process))
  final_is =
      let t = ends.traps in
      let counted = t.counted in
      let whole : t.spent + (CALL_TICKS - t.spent) ≡ CALL_TICKS = omega (arith, counted) in
      subst (λ n. RunsTo code s.world n begin (final (Run.Trapped ends.trap_is) (idle (Some ends.trap_is) t.process))) whole (steps_prolong code s.world t.count t.spent (CALL_TICKS - t.spent) begin t.process (final (Run.Trapped ends.trap_is) (idle (Some ends.trap_is) t.process)) t.steps (trap_ends ends.trap_is (CALL_TICKS - t.spent) t.process (step_instruction code s.world t.process) refl t.traps))

  -- a run leaves all but what runs as it was
  stays : (r : Final) → RunsTo code s.world CALL_TICKS begin r → Stays code s.world base number m function_at (quiet_filter target e) r.process
  stays r run = by run.steps run.is
    where
      by : (n : ℕ) → run_machine code s.world n CALL_TICKS begin ≡ Some r → Stays code s.world base number m function_at (quiet_filter target e) r.process
      by zero h = absurd (none r h)
        where
          none : (r : Final) → None ≡ Some r → ⊥
          none r h = cc
      by (suc n) h =
          run_stays code s.world base number m function_at (quiet_filter target e) n 999999 entry 999999 refl r (sym (ap (λ k. Run.onward k (run_machine code s.world n) CALL_TICKS begin) enters) ∙ h)

  -- no allocation is refused
  refuses_none : (q : Process) → IsRefused code s.world CALL_TICKS begin q → ⊥
  refuses_none q r = by r.count r.steps
    where
      by : (n : ℕ) → Steps code s.world n r.spent begin q → ⊥
      by zero h =
          let same : begin ≡ q = ap (λ (a : Progress). a.process) (some_in (progress begin 0) (progress q r.spent) h) in
          let adds = subst (λ q. AddsObject q (step_instruction code s.world q)) (sym same) r.adds in
          subst (AddsObject begin) enters adds
        where
          some_in : (a b : Progress) → Some a ≡ Some b → a ≡ b
          some_in a b h = cc
      by (suc n) h =
          let there = sym (ap (λ k. then_option (progress_by k begin) (λ a. option_map (after_ticks a.spent) (advance code s.world n a.process))) enters) ∙ h in
          let later = rest (advance code s.world n (process_of p store [] (Running entry []) 999999)) there in
          adds_none code s.world base number m function_at (quiet_filter target e) q (steps_stay code s.world base number m function_at (quiet_filter target e) n later.0 entry 999999 refl q later.1) r.adds
        where
          rest : (o : Option Progress) → option_map (after_ticks 1) o ≡ Some (progress q r.spent) → (j : ℕ) × (o ≡ Some (progress q j))
          rest None h = absurd (cc)
          rest (Some a) h =
              let same : after_ticks 1 a ≡ progress q r.spent = cc in
              let there : a.process ≡ q = ap (λ (b : Progress). b.process) same in
              (a.spent, ap (λ (y : Process). Some (progress y a.spent)) there)

  -- the server after it
  server_after : (ran q : Process) → Stays code s.world base number m function_at (quiet_filter target e) ran → q ≡ settled ran → IsServerOf (with_process s q) store
  server_after ran q h is_q =
      let made : settled ran ≡ base = ap (λ c. record { content = c; rows = ran.rows; next = ran.next; outbox = ran.outbox; activity = Idle None; spare = 0 }) h.content
      ∙ (ap (λ r. record { content = base.content; rows = r; next = ran.next; outbox = ran.outbox; activity = Idle None; spare = 0 }) h.rows
      ∙ (ap (λ n. record { content = base.content; rows = base.rows; next = n; outbox = ran.outbox; activity = Idle None; spare = 0 }) h.last
      ∙ ap (λ o. record { content = base.content; rows = base.rows; next = base.next; outbox = o; activity = Idle None; spare = 0 }) h.outbox)) in
      let after : q ≡ base = is_q ∙ made in
      record {
        source = is.source;
        is_store = is.is_store;
        process = record { idle = subst (λ (q : Process). IsIdle q.activity) (sym after) tt; is = subst (λ (q : Process). q ≡ process_of p store q.outbox q.activity q.spare) (sym after) refl };
      }

  answers : (answer : Result Bool Trap) (stopped : Stop) (ran q : Process) → IsRun code s.world CALL_TICKS begin stopped ran → answer ≡ filter_answer stopped → q ≡ settled ran → AnswersFilter s store e answer q
  answers answer (stop.Trapped u) ran q run a is_q =
      let one = one_end code s.world CALL_TICKS begin (final (Run.Trapped u) ran) (final (Run.Trapped ends.trap_is) (idle (Some ends.trap_is) ends.traps.process)) run final_is in
      let ending : Run.Trapped u ≡ Run.Trapped ends.trap_is = ap (λ (r : Final). r.ending) one in
      let same : u ≡ ends.trap_is = cc in
      let read : answer ≡ holds_in p store e = a ∙ (ap (λ u. filter_answer (stop.Trapped u)) same ∙ (ends.reads ∙ same_answer (holds_in p store e) no_panic)) in
      record {
        answer_is = read;
        no_panic = λ n h. subst NoPanic (sym read ∙ h) no_panic;
        server = server_after ran q (stays (final (Run.Trapped u) ran) run) is_q;
      }
  answers answer (stop.Returned v) ran q run a is_q =
      let one = one_end code s.world CALL_TICKS begin (final (Run.Returned v) ran) (final (Run.Trapped ends.trap_is) (idle (Some ends.trap_is) ends.traps.process)) run final_is in
      let wrong = ap (λ (r : Final). r.ending) one in
      absurd (cc)
  answers answer stop.Paused ran q run a is_q =
      let one = one_end code s.world CALL_TICKS begin (final Run.Paused ran) (final (Run.Trapped ends.trap_is) (idle (Some ends.trap_is) ends.traps.process)) run final_is in
      let wrong = ap (λ (r : Final). r.ending) one in
      absurd (cc)
  answers answer stop.Memory ran q run a is_q = absurd (refuses_none ran run)

pub filters_answer : FiltersAnswer
filters_answer s store is k e at answer q f =
    let same = is.process.is in
    let begins : started s.process (filter_number s.source k) [] ≡ begin s store is k e at = ap (λ x. started x (filter_number s.source k) []) same in
    answers s store is k e at answer f.stop f.ran q (subst (λ x. IsRun (machine_code s.source) s.world CALL_TICKS x f.stop f.ran) begins f.run) f.answer_is f.is
