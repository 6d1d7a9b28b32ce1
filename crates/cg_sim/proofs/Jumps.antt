-- Jumps, tests and the turns of a loop.
use Rattle.std.proofs.Common.{◌≡◌, ◌∙◌, refl, ap, sym, subst, Bool, true, false, cond, ℕ, zero, suc, ◌+◌, ◌-◌, ◌<◌, ◌≤◌, List, [], ◌∷◌, length, map, Some, Ok, Err, arith}
use Rattle.std.specs.Prelude.{slice_get, slice_set}
use Rattle.std.proofs.lemmas.List.{map-set}
use Rattle.lu_spec.specs.Then.{then_do}
use Rattle.lu_base.specs.declared.trap.Trap.TheVariants.{BadCode}
use Rattle.src_tree.specs.declared.value.Value.{Value}
use Rattle.src_tree.specs.declared.value.Store.{Store}
use Rattle.src_tree.specs.declared.program.Function.{Function}
use Rattle.src_tree.specs.declared.program.Program.{Program}
use Rattle.src_tree.specs.declared.expr.TypedExpr.{TypedExpr}
use Rattle.src_meaning.specs.Objects.{Gives}
use Rattle.src_meaning.specs.Operators.{is_true}
use Rattle.src_meaning.specs.ValidTypes.{is_scalar}
use Rattle.src_meaning.specs.ValidExpression.{Declarations, is_expr, is_condition}
use Rattle.src_meaning.specs.ValidStatement.{has_depth, is_test}
use Rattle.src_meaning.specs.Call.{State, Outcome, Goes_on, Breaks, Continues, Leaves, Callee, Context, with_gives, go_on, tick_at, tick, branch, value_in, test_in, with_local, after_turn, turns}
use Rattle.src_meaning.proofs.LayoutLengths.{and_left, and_right}
use Rattle.bm_isa.specs.declared.instr.Instr.TheVariants as I
use Rattle.bm_code.specs.declared.code.MachineCode.{MachineCode}
use Rattle.bm_code.specs.declared.code.MachineFunction.{MachineFunction}
use Rattle.lu_base.specs.declared.world.World.{World}
use Rattle.bm_code.specs.Process.{Frame}
use Rattle.bm_code.specs.Transfers.{Next, Spends, trap, running, jump}
use Rattle.bm_code.specs.Step.{step_instruction, on_frame}
use Rattle.cg_expr.specs.Sizes.{expression_size}
use Rattle.cg_expr.specs.Code.{Target, expression_code}
use Rattle.cg_stmt.specs.StatementCode.{exits}
use Rattle.cg_stmt.specs.declared.statements.Exits.{Exits}
use Rattle.cg_state.specs.Runs.{HasAt, Point, Leads}
use Rattle.cg_state.proofs.Leads.{stays, tick_leads, no_tick}
use Rattle.cg_sim_expr.proofs.Here.{frame, process_here, acts, goes, jump_leads, zero_leads, other_leads}
use Rattle.cg_state.proofs.Tests.{lt_true, le_true}
use Rattle.c_types.specs.Refusal.{IsBuilt}
use Rattle.cg_state.proofs.Typed.{Typed}
use Rattle.cg_sim_expr.proofs.Matching.{word, Truth, truth_of, a_scalar}
use Rattle.cg_sim.proofs.Ends.{leads_follows, with_follows, then_follows}
use Rattle.cg_sim.proofs.Stacks.{length-map_, all_set}
use Rattle.cg_sim.proofs.UnderWay as under

module _ (p : Program) (built : IsBuilt p.types) (starts : List ℕ) (code : MachineCode) (same : code.types ≡ p.types) (world : World) (f : ℕ) (m : MachineFunction) (is : slice_get code.functions f ≡ Some m) (callers : List Frame) (fd : Function) (call : Callee) (fuel : ℕ) (base : Store) where
  abbrev target : Target
  target = under.target p built starts code same world f m is callers fd call fuel base

  abbrev decls : Declarations
  decls = under.decls p built starts code same world f m is callers fd call fuel base

  abbrev us : List ℕ
  us = under.us p built starts code same world f m is callers fd call fuel base

  abbrev c : Context
  c = under.c p built starts code same world f m is callers fd call fuel base

  abbrev here : State → ℕ → List ℕ → Point
  here = under.here p built starts code same world f m is callers fd call fuel base

  abbrev at : State → ℕ → Point
  at = under.at p built starts code same world f m is callers fd call fuel base

  abbrev Well : State → Type 0
  Well = under.Well p built starts code same world f m is callers fd call fuel base

  abbrev Does : Exits → Point → ℕ → Outcome → Type 0
  Does = under.Does p built starts code same world f m is callers fd call fuel base

  abbrev Given : Type 0
  Given = under.Given p built starts code same world f m is callers fd call fuel base

  pub set_leads : (st : State) (pc x : ℕ) (v : Value) → x < length st.locals → slice_get m.code pc ≡ Some (I.SetLocal x) → Leads p code world (here st pc (word p built st.store v ∷ [])) (at (with_local x v st) (pc + 1))
  set_leads st pc x v lt has =
      let ws = map (word p built st.store) st.locals in
      let wv = word p built st.store v in
      let q = process_here p code world f m is callers st.store st.sends ws st.ticks pc (wv ∷ []) in
      let to = λ (l : List ℕ). Next (running q (record { function = f; place = pc + 1; locals = l; stack = [] }) callers) in
      goes p code world f m is callers st.store st.store st.sends st.sends ws (map (word p built st.store) (slice_set st.locals x v)) st.ticks pc (pc + 1) (wv ∷ []) [] (I.SetLocal x) has
      (ap (λ b. on_frame (cond b (Ok (record { function = f; place = pc + 1; locals = slice_set ws x wv; stack = [] })) (Err BadCode)) q callers) (lt_true x (length ws) (omega (arith, lt, length-map_ (word p built st.store) st.locals)))
      ∙ ap to (sym (map-set (word p built st.store) st.locals x v)))

  pub well_set : (st : State) (x u : ℕ) (v : Value) → Well st → slice_get us x ≡ Some u → Typed p built st.store u v → Well (with_local x v st)
  well_set st x u v well e h = record { store = well.store; kept = well.kept; locals = all_set p built st.store us st.locals x u v well.locals e h }

  pub well_ticks : (st : State) (t : ℕ) → Well st → Well (record st { ticks = t })
  well_ticks st t well = record { store = well.store; kept = well.kept; locals = well.locals }

  -- jumps at an empty stack
  pub jump_on : (st : State) (pc to : ℕ) → pc < to → to < length m.code → slice_get m.code pc ≡ Some (I.Jump to) → Leads p code world (at st pc) (at st to)
  jump_on st pc to lt within has = jump_leads p code world f m is callers st.store st.sends (map (word p built st.store) st.locals) st.ticks pc to [] lt within has

  -- a jump back, and its tick
  pub back_does : (exits : Exits) (st : State) (pc to end t : ℕ) (g : State → Outcome) → to ≤ pc → to < length m.code → slice_get m.code pc ≡ Some (I.Jump to) → ((n : ℕ) → Does exits (at (record st { ticks = n }) to) end (g (record st { ticks = n }))) → Does exits (at (record st { ticks = t }) pc) end (tick_at t (record st { ticks = t }) g)
  back_does exits st pc to end t g le within has next = by t
    where
      spends : (t : ℕ) → step_instruction code world (process_here p code world f m is callers st.store st.sends (map (word p built st.store) st.locals) t pc []) ≡ Spends (process_here p code world f m is callers st.store st.sends (map (word p built st.store) st.locals) t to [])
      spends t =
          let ws = map (word p built st.store) st.locals in
          let q = process_here p code world f m is callers st.store st.sends ws t pc [] in
          let fr = frame p code world f m is callers ws pc [] in
          let there = running q (frame p code world f m is callers ws to []) callers in
          acts p code world f m is callers st.store st.sends ws t pc [] (I.Jump to) has ∙ (ap (λ b. cond b (jump m q fr callers to []) (trap BadCode q)) (lt_true to (length m.code) within) ∙ ap (λ b. cond b (Spends there) (Next there)) (le_true to pc le))

      by : (t : ℕ) → Does exits (at (record st { ticks = t }) pc) end (tick_at t (record st { ticks = t }) g)
      by zero = (tt, no_tick p code world st.store st.sends _ _ (spends 0))
      by (suc t) = leads_follows p built code world base callers us fd.ret at exits _ _ end _ (tick_leads p code world st.store st.store st.sends st.sends _ _ t (spends (suc t))) (next t)

  -- a test, and what follows its truth
  pub test_does : (given : Given) (exits : Exits) (st : State) → Well st → (e : TypedExpr) (pc n end : ℕ) → n ≤ 64 → is_test decls n e ≡ true → HasAt m.code pc (expression_code target e.ty e.kind pc) → pc + expression_size p.types e.ty e.kind < length m.code → (g : Bool → Outcome) → ((v : Value) (truth : Truth p built st.store v) → Does exits (here st (pc + expression_size p.types e.ty e.kind) (word p built st.store v ∷ [])) end (g truth.holds)) → Does exits (at st pc) end (with_gives (test_in c e st) st g)
  test_does given exits st well e pc n end low ty has within g next =
      let condition = and_left (is_condition decls e) (has_depth n e) ty in
      let depth = and_right (is_condition decls e) (has_depth n e) ty in
      let expr = and_left (is_expr decls e.ty e.kind) (is_scalar (slice_get p.types.types e.ty)) condition in
      let scalar = and_right (is_expr decls e.ty e.kind) (is_scalar (slice_get p.types.types e.ty)) condition in
      subst (Does exits (at st pc) end) (sym (gives_twice (value_in c e st))) (with_follows p built code world base callers us fd.ret at exits (at st pc) end (Typed p built st.store e.ty) (λ v. here st (pc + expression_size p.types e.ty e.kind) (word p built st.store v ∷ [])) (value_in c e st) st (λ v. with_gives (is_true v) st g) refl (given.values st well e pc 12 (n - 1) [] (omega arith) (omega (arith, low)) expr scalar depth (omega arith) has within) (λ v hv.
      let truth = truth_of p built st.store e.ty v (a_scalar p built st.store e.ty v scalar hv) in
      subst (λ r. Does exits (here st (pc + expression_size p.types e.ty e.kind) (word p built st.store v ∷ [])) end (with_gives r st g)) (sym truth.is) (next v truth)))
    where
      gives_twice : (r : Gives Value) → with_gives (then_do r is_true) st g ≡ with_gives r st (λ v. with_gives (is_true v) st g)
      gives_twice (Ok v) = refl
      gives_twice (Err t) = refl

  -- both ways of a test
  pub branch_does : (exits : Exits) (st : State) (v : Value) (truth : Truth p built st.store v) (pc other end : ℕ) (a b : State → Outcome) → pc < other → other < length m.code → slice_get m.code pc ≡ Some (I.JumpIfZero other) → Does exits (at st (pc + 1)) end (a st) → Does exits (at st other) end (b st) → Does exits (here st pc (word p built st.store v ∷ [])) end (branch truth.holds a b st)
  branch_does exits st v truth pc other end a b lt within has ra rb = by truth.holds truth.one truth.alt
    where
      by : (x : Bool) → (x ≡ true → word p built st.store v ≡ 0 → ⊥) → (x ≡ false → word p built st.store v ≡ 0) → Does exits (here st pc (word p built st.store v ∷ [])) end (branch x a b st)
      by true one alt = leads_follows p built code world base callers us fd.ret at exits _ _ end (a st) (other_leads p code world f m is callers st.store st.sends (map (word p built st.store) st.locals) st.ticks pc other (word p built st.store v) [] (one refl) within has) ra
      by false one alt = leads_follows p built code world base callers us fd.ret at exits _ _ end (b st) (subst (λ n. Leads p code world (here st pc (n ∷ [])) (at st other)) (sym (alt refl)) (zero_leads p code world f m is callers st.store st.sends (map (word p built st.store) st.locals) st.ticks pc other [] lt within has)) rb

  -- what follows the body of a loop, whose turn ends at a place and which is left at another
  pub turn_does : (outer : Exits) (leave turn : ℕ) (q : Point) (o : Outcome) (g : State → Outcome) → Does (exits leave turn) q turn o → ((st : State) → Well st → Does outer (at st turn) leave (g st)) → Does outer q leave (after_turn o g)
  turn_does outer leave turn q (Goes_on st) g h k = leads_follows p built code world base callers us fd.ret at outer q (at st turn) leave (g st) h.1 (k st h.0)
  turn_does outer leave turn q (Continues st) g h k = leads_follows p built code world base callers us fd.ret at outer q (at st turn) leave (g st) h.2 (k st h.1)
  turn_does outer leave turn q (Breaks st) g h k = (h.1, h.2)
  turn_does outer leave turn q (Leaves e) g h k = h

  -- at most so many turns of a loop, from its start to its end
  pub loop_does :
      (outer : Exits) (pc test_end turn back leave : ℕ) (test : State → Gives Bool) (body step : State → Outcome) → pc ≤ back → pc < length m.code → slice_get m.code back ≡ Some (I.Jump pc) →
      ((st : State) → Well st → (g : Bool → Outcome) → (Does outer (at st (test_end + 1)) leave (g true)) → Does outer (at st leave) leave (g false) → Does outer (at st pc) leave (with_gives (test st) st g)) →
      ((st : State) → Well st → Does (exits leave turn) (at st (test_end + 1)) turn (body st)) →
      ((st : State) → Well st → Does outer (at st turn) back (step st)) →
      (n : ℕ) (st : State) → Well st → Does outer (at st pc) leave (turns n test body step st)
  loop_does outer pc test_end turn back leave test body step le within has rt rb rs zero st well = tt
  loop_does outer pc test_end turn back leave test body step le within has rt rb rs (suc n) st well =
      rt st well (λ b. branch b (λ st. after_turn (body st) (λ after. go_on (step after) (λ next. tick next (turns n test body step)))) Goes_on st) (turn_does outer leave turn (at st (test_end + 1)) (body st) (λ after. go_on (step after) (λ next. tick next (turns n test body step))) (rb st well) (λ after good.
      then_follows p built code world base callers us fd.ret at outer (at after turn) back leave (step after) (λ next. tick next (turns n test body step)) (rs after good) (λ next ok.
      back_does outer next back pc leave next.ticks (turns n test body step) le within has (λ t. loop_does outer pc test_end turn back leave test body step le within has rt rb rs n (record next { ticks = t }) (well_ticks next t ok))))) (well, stays p code world (at st leave))
