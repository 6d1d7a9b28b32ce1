-- The machine's call ends as the source's call does.
use Rattle.std.proofs.Common.{◌≡◌, ◌∙◌, refl, ap, sym, subst, Bool, true, false, cond, ℕ, zero, suc, ◌+◌, ◌-◌, ◌<◌, List, [], ◌∷◌, ◌++◌, length, map, replicate, Option, Some, None, arith, length-append, nat_lt}
use Rattle.std.specs.Prelude.{slice_get}
use Rattle.std.specs.Option.{option_map}
use Rattle.std.specs.List.{list_all}
use Rattle.std.proofs.lemmas.List.{map-append}
use Rattle.lu_base.specs.declared.trap.Trap.TheVariants.{BadCode, Depth}
use Rattle.src_tree.specs.declared.value.Value.{Value}
use Rattle.src_tree.specs.declared.value.Store.{Store}
use Rattle.src_tree.specs.declared.program.Function.{Function}
use Rattle.src_tree.specs.declared.program.Program.{Program}
use Rattle.src_meaning.specs.Paths.{zero_of}
use Rattle.src_meaning.specs.Store.{IsStore}
use Rattle.src_meaning.specs.Valid.{declarations_of}
use Rattle.src_meaning.specs.ValidTypes.{is_scalar}
use Rattle.src_meaning.specs.ValidStatement.{are_statements}
use Rattle.src_meaning.specs.Call.{State, Returned, Outcome, Goes_on, Breaks, Continues, Leaves, Callee, tick_at, run_body, types_of, context_of, entry_locals, fall_off, enter, with_frame, call_with, call}
use Rattle.bm_code.specs.declared.code.MachineCode.{MachineCode}
use Rattle.bm_code.specs.declared.code.MachineFunction.{MachineFunction}
use Rattle.lu_base.specs.declared.world.World.{World}
use Rattle.bm_code.specs.Process.{Frame, Running, Starting}
use Rattle.bm_code.specs.Frames.{some_or}
use Rattle.bm_code.specs.Transfers.{Spends, trap, entered, running}
use Rattle.bm_code.specs.Step.{step_instruction}
use Rattle.cg_state.specs.Represents.{process_of}
use Rattle.cg_stmt.specs.StatementCode.{exits, body_code}
use Rattle.cg_stmt.specs.StatementSizes.{body_size}
use Rattle.cg_stmt.specs.Functions.{end_code}
use Rattle.cg_sim.proofs.Machines.{IsCode, target_at}
use Rattle.cg_state.specs.Runs.{HasAt, Point, point, Leads}
use Rattle.cg_state.proofs.HasCode.{has_front, has_rest, has_all}
use Rattle.cg_state.proofs.Leads.{tick_leads, no_tick, traps_here}
use Rattle.cg_sim_expr.proofs.Here.{on, const_leads}
use Rattle.c_types.specs.Refusal.{IsBuilt}
use Rattle.cg_sim_expr.proofs.Matching.{word}
use Rattle.cg_sim.proofs.Kept.{AllTyped}
use Rattle.src_laws.proofs.Extended.{extends_same}
use Rattle.cg_sim.proofs.Ends.{Good, Finishes, Follows, leads_finishes}
use Rattle.cg_stmt.proofs.CodeLengths.{length-body}
use Rattle.cg_sim.proofs.Zeros.{zero_scalar}
use Rattle.cg_sim.proofs.Stacks.{length-all, length-map_}
use Rattle.cg_sim.proofs.UnderWay.{CalleeRuns, Given}
use Rattle.cg_sim.proofs.FunctionCalls.{return_does, value_returns}
use Rattle.cg_sim.proofs.Statements.{list_does}
use Rattle.src_meaning.proofs.LayoutLengths.{and_left, and_right}

module _ (p : Program) (built : IsBuilt p.types) (s : Store) where
  abbrev AllScalar : List ℕ → Type 0
  AllScalar us = list_all (λ u. is_scalar (slice_get p.types.types u)) us ≡ true

  zeros_typed : (us : List ℕ) → AllScalar us → AllTyped p built s us (map (zero_of p.types) us) × (map (word p built s) (map (zero_of p.types) us) ≡ replicate (length us) 0)
  zeros_typed [] h = (tt, refl)
  zeros_typed (u ∷ us) h =
      let here = and_left (is_scalar (slice_get p.types.types u)) (list_all (λ u. is_scalar (slice_get p.types.types u)) us) h in
      let rest = zeros_typed us (and_right (is_scalar (slice_get p.types.types u)) (list_all (λ u. is_scalar (slice_get p.types.types u)) us) h) in
      let z = zero_scalar p built s u here in
      ((here, z.is_typed, rest.0), ap (λ w. w ∷ map (word p built s) (map (zero_of p.types) us)) z.is_zero ∙ ap (λ ws. 0 ∷ ws) rest.1)

  all_append : (us ws : List ℕ) (vs xs : List Value) → AllTyped p built s us vs → AllTyped p built s ws xs → AllTyped p built s (us ++ ws) (vs ++ xs)
  all_append [] ws [] xs h g = g
  all_append [] ws (v ∷ vs) xs h g = absurd h
  all_append (u ∷ us) ws [] xs h g = absurd h
  all_append (u ∷ us) ws (v ∷ vs) xs h g = (h.0, h.1, all_append us ws vs xs h.2 g)

module _ (p : Program) (built : IsBuilt p.types) (starts : List ℕ) (code : MachineCode) (same : code.types ≡ p.types) (world : World) where
  -- what holds of each function of a valid program
  pub record Valid : Type 0 where
    pub body : (g : ℕ) (gd : Function) → slice_get p.functions g ≡ Some gd → are_statements (declarations_of p gd) gd.ret false 63 gd.body ≡ true
    pub locals : (g : ℕ) (gd : Function) → slice_get p.functions g ≡ Some gd → list_all (λ u. is_scalar (slice_get p.types.types u)) gd.locals ≡ true
    pub result : (g : ℕ) (gd : Function) (u : ℕ) → slice_get p.functions g ≡ Some gd → gd.ret ≡ Some u → is_scalar (slice_get p.types.types u) ≡ true
    -- the rest of the layer, for a function under way whose callees run
    pub given : (g : ℕ) (gd : Function) (gm : MachineFunction) (is : slice_get code.functions g ≡ Some gm) (callers : List Frame) (call : Callee) (fuel : ℕ) (base : Store) → slice_get p.functions g ≡ Some gd → IsCode (target_at p starts) gd gm → CalleeRuns p built starts code world call (length callers + 1) → Given p built starts code same world g gm is callers gd call fuel base

  module _ (valid : Valid) where
    words_in : (gd : Function) (gm : MachineFunction) (s : Store) (vs : List Value) (g : ℕ) → slice_get p.functions g ≡ Some gd → IsCode (target_at p starts) gd gm → AllTyped p built s gd.params vs → map (word p built s) vs ++ replicate (gm.locals - length (map (word p built s) vs)) 0 ≡ map (word p built s) (entry_locals p.types gd vs)
    words_in gd gm s vs g e fits h =
        let n : gm.locals - length (map (word p built s) vs) ≡ length gd.locals = omega (arith, fits.locals, length-map_ (word p built s) vs, length-all p built s gd.params vs h) in
        ap (λ n. map (word p built s) vs ++ replicate n 0) n
        ∙ (ap (λ l. map (word p built s) vs ++ l) (sym (zeros_typed p built s gd.locals (valid.locals g gd e)).1) ∙ sym (map-append (word p built s) vs (map (zero_of p.types) gd.locals)))

    -- the end of a body
    module _ (g : ℕ) (gd : Function) (gm : MachineFunction) (is : slice_get code.functions g ≡ Some gm) (e : slice_get p.functions g ≡ Some gd) (fits : IsCode (target_at p starts) gd gm) (callers : List Frame) (call : Callee) (fuel : ℕ) (base : Store) (runs : CalleeRuns p built starts code world call (length callers + 1)) where
      abbrev known : Given p built starts code same world g gm is callers gd call fuel base
      known = valid.given g gd gm is callers call fuel base e fits runs

      abbrev here : State → ℕ → List ℕ → Point
      here st pc stack = on p code world g gm is callers st.store st.sends (map (word p built st.store) st.locals) st.ticks pc stack

      abbrev at : State → ℕ → Point
      at st pc = here st pc []

      falls_off : (q : Point) (pc : ℕ) (o : Outcome) → HasAt gm.code pc (end_code gd.ret) → Follows p built code world base callers (types_of gd) gd.ret at (exits 0 0) q pc o → Finishes p built code world base q callers gd.ret (fall_off p.types gd.ret o)
      falls_off q pc (Goes_on st) has h = by gd.ret refl has
        where
          by : (r : Option ℕ) → gd.ret ≡ r → HasAt gm.code pc (end_code r) → Finishes p built code world base q callers gd.ret (Returned (option_map (zero_of p.types) r) st.store st.sends st.ticks)
          by None er has =
              leads_finishes p built code world base q (at st pc) callers gd.ret (Returned None st.store st.sends st.ticks) h.1 (return_does p built starts code same world g gm is callers gd call fuel base known (exits 0 0) st pc pc h.0 er has.0)
          by (Some u) er has =
              let z = zero_scalar p built st.store u (valid.result g gd u e er) in
              let first : Leads p code world (at st pc) (here st (pc + 1) (word p built st.store (zero_of p.types u) ∷ [])) = subst (λ n. Leads p code world (at st pc) (here st (pc + 1) (n ∷ []))) (sym z.is_zero) (const_leads p code world g gm is callers st.store st.sends (map (word p built st.store) st.locals) st.ticks pc [] 0 known.high has.0) in
              leads_finishes p built code world base q (at st pc) callers gd.ret (Returned (Some (zero_of p.types u)) st.store st.sends st.ticks) h.1 (leads_finishes p built code world base (at st pc) (here st (pc + 1) (word p built st.store (zero_of p.types u) ∷ [])) callers gd.ret (Returned (Some (zero_of p.types u)) st.store st.sends st.ticks) first (value_returns p built starts code same world g gm is callers gd call fuel base known (exits 0 0) st (pc + 1) pc u (zero_of p.types u) h.0 er z.is_typed has.1.0))
      falls_off q pc (Leaves ending) has h = h
      falls_off q pc (Breaks st) has h = absurd (omega (arith, h.0))
      falls_off q pc (Continues st) has h = absurd (omega (arith, h.0))

      -- a body, from the entry
      body_runs : (st : State) → Good p built code world base (types_of gd) st → Finishes p built code world base (at st 0) callers gd.ret (fall_off p.types gd.ret (run_body gd.body (context_of p world gd call fuel) st))
      body_runs st well =
          let cb = body_code (target_at p starts) gd.body (exits 0 0) 0 in
          let nb = body_size (target_at p starts) gd.body in
          let cf = end_code gd.ret in
          let all : HasAt gm.code 0 (cb ++ cf) = subst (λ c. HasAt c 0 (cb ++ cf)) (sym fits.code) (has_all (cb ++ cf) []) in
          let long : length gm.code ≡ nb + length cf = ap length fits.code ∙ omega (arith, length-append cb cf, length-body (target_at p starts) gd.body (exits 0 0) 0) in
          let some : 0 < length cf = some_code gd.ret in
          let after = has_rest gm.code 0 nb cb cf (length-body (target_at p starts) gd.body (exits 0 0) 0) all in
          falls_off (at st 0) (0 + nb) (run_body gd.body (context_of p world gd call fuel) st) after (list_does p built starts code same world g gm is callers gd call fuel base known gd.body st 0 63 (omega arith) well (valid.body g gd e) (has_front gm.code 0 cb cf all) (omega (arith, long, some)))
        where
          some_code : (r : Option ℕ) → 0 < length (end_code r)
          some_code None = omega arith
          some_code (Some u) = omega arith

    -- each call with so much fuel
    pub call_runs : (n depth : ℕ) → CalleeRuns p built starts code world (call_with p world n depth) depth
    call_runs zero depth g gd gm vs st a callers e em fits h is_store deep step = tt
    call_runs (suc n) depth g gd gm vs st a callers e em fits h is_store deep step =
        let levels : suc depth ≡ length callers + 1 = omega (arith, deep) in
        by_depth (subst (CalleeRuns p built starts code world (call_with p world n (suc depth))) levels (call_runs n (suc depth))) (nat_lt depth 128) step
      where
        next : Callee
        next = call_with p world n (suc depth)

        goes_in : (t : ℕ) → CalleeRuns p built starts code world (call_with p world n (suc depth)) (length callers + 1) → Finishes p built code world st.store (point st.store st.sends (Running (entered gm g (map (word p built st.store) vs)) callers) t) callers gd.ret (fall_off p.types gd.ret (run_body gd.body (context_of p world gd (call_with p world n (suc depth)) (suc n)) (record st { locals = entry_locals p.types gd vs; ticks = t })))
        goes_in t runs =
            let entry : State = record st { locals = entry_locals p.types gd vs; ticks = t } in
            let well : Good p built code world st.store (types_of gd) entry = record { store = is_store; kept = extends_same st.store.objects; locals = all_append p built st.store gd.params gd.locals vs (map (zero_of p.types) gd.locals) h (zeros_typed p built st.store gd.locals (valid.locals g gd e)).0 } in
            subst (λ ws. Finishes p built code world st.store (point st.store st.sends (Running (record { function = g; place = 0; locals = ws; stack = [] }) callers) t) callers gd.ret (fall_off p.types gd.ret (run_body gd.body (context_of p world gd (call_with p world n (suc depth)) (suc n)) entry))) (sym (words_in gd gm st.store vs g e fits h)) (body_runs g gd gm em e fits callers (call_with p world n (suc depth)) (suc n) st.store runs entry well)

        by_ticks : (t : ℕ) → CalleeRuns p built starts code world (call_with p world n (suc depth)) (length callers + 1) → step_instruction code world (process_of p st.store st.sends a t) ≡ Spends (process_of p st.store st.sends (Running (entered gm g (map (word p built st.store) vs)) callers) t) → Finishes p built code world st.store (point st.store st.sends a t) callers gd.ret (fall_off p.types gd.ret (tick_at t (record st { locals = entry_locals p.types gd vs }) (run_body gd.body (context_of p world gd (call_with p world n (suc depth)) (suc n)))))
        by_ticks zero runs q = (tt, no_tick p code world st.store st.sends a _ q)
        by_ticks (suc t) runs q =
            leads_finishes p built code world st.store (point st.store st.sends a (suc t)) (point st.store st.sends (Running (entered gm g (map (word p built st.store) vs)) callers) t) callers gd.ret _ (tick_leads p code world st.store st.store st.sends st.sends a _ t q) (goes_in t runs)

        by_depth : CalleeRuns p built starts code world (call_with p world n (suc depth)) (length callers + 1) → (b : Bool) → step_instruction code world (process_of p st.store st.sends a st.ticks) ≡ cond b (Spends (process_of p st.store st.sends (Running (entered gm g (map (word p built st.store) vs)) callers) st.ticks)) (trap Depth (process_of p st.store st.sends a st.ticks)) → Finishes p built code world st.store (point st.store st.sends a st.ticks) callers gd.ret (with_frame b (enter p world (call_with p world n (suc depth)) (suc n) (slice_get p.functions g) vs) st)
        by_depth runs false q = (tt, traps_here p code world st.store st.sends a st.ticks Depth q)
        by_depth runs true q =
            subst (λ o. Finishes p built code world st.store (point st.store st.sends a st.ticks) callers gd.ret (enter p world (call_with p world n (suc depth)) (suc n) o vs st)) (sym e) (by_ticks st.ticks runs q)

    -- the outermost call: it ends as the call of the source, with its result, its store, its sends and its ticks, or with its trap and its ticks
    pub outer_call : (g : ℕ) (gd : Function) (gm : MachineFunction) (vs : List Value) (store : Store) (ticks : ℕ) → slice_get p.functions g ≡ Some gd → slice_get code.functions g ≡ Some gm → IsCode (target_at p starts) gd gm → AllTyped p built store gd.params vs → IsStore p store → Finishes p built code world store (point store [] (Starting g (map (word p built store) vs)) ticks) [] gd.ret (call p world store g vs ticks)
    outer_call g gd gm vs store ticks e em fits h is_store =
        let st : State = record { store = store; locals = []; sends = []; ticks = ticks } in
        let q = process_of p store [] (Starting g (map (word p built store) vs)) ticks in
        call_runs (suc ticks) 0 g gd gm vs st (Starting g (map (word p built store) vs)) [] e em fits h is_store refl (ap (λ o. some_or o (trap BadCode q) (λ d. Spends (running q (entered d g (map (word p built store) vs)) []))) em)
