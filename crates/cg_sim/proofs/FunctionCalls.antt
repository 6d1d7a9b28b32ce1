-- Returns, and calls of functions by their names and by pointers.
use Rattle.std.proofs.Common.{◌≡◌, ◌∙◌, refl, ap, sym, subst, Bool, true, false, cond, ℕ, zero, suc, ◌+◌, ◌-◌, ◌<◌, ◌≤◌, List, [], ◌∷◌, ◌++◌, length, map, Option, Some, None, Ok, arith, nat_lt}
use Rattle.std.specs.Prelude.{slice_get, option_to_list, is_some, nat_eq}
use Rattle.std.specs.Option.{option_map, option_map_or}
use Rattle.std.proofs.lemmas.List.{append-nil}
use Rattle.std.proofs.lemmas.Bool.Decides.{nat_tests}
use Rattle.lu_spec.specs.Then.{then_do}
use Rattle.lu_base.specs.declared.trap.Trap.TheVariants.{BadCode, BadCall, Depth}
use Rattle.c_types.specs.declared.parts.Signature.{Signature}
use Rattle.src_tree.specs.declared.value.Value.{Value}
use Rattle.src_tree.specs.declared.value.Store.{Store}
use Rattle.c_types.specs.declared.parts.Ty.TheVariants as T
use Rattle.src_tree.specs.declared.program.Function.{Function}
use Rattle.src_tree.specs.declared.program.Program.{Program}
use Rattle.src_tree.specs.declared.expr.TypedExpr.{TypedExpr}
use Rattle.src_tree.specs.declared.stmt.Callee.TheVariants.{Function as Named, Pointer as Behind}
use Rattle.src_meaning.specs.ValidTypes.{is_scalar}
use Rattle.src_meaning.specs.ValidExpression.{Declarations, is_expr}
use Rattle.src_meaning.specs.ValidStatement.{has_depth, is_argument, are_arguments, is_callee, pointer_result, call_result, type_in}
use Rattle.src_meaning.specs.Call.{State, Ending, Returned, Trapped, Starved, Outcome, Goes_on, Leaves, Callee, Context, with_gives, branch, value_in, values_in, resume, call_in, call_pointer}
use Rattle.src_meaning.proofs.LayoutLengths.{and_left, and_right}
use Rattle.bm_isa.specs.declared.instr.Instr.TheVariants as I
use Rattle.bm_code.specs.declared.code.MachineCode.{MachineCode}
use Rattle.bm_code.specs.declared.code.MachineFunction.{MachineFunction}
use Rattle.lu_base.specs.declared.world.World.{World}
use Rattle.bm_code.specs.Process.{Frame, Running}
use Rattle.bm_code.specs.Frames.{some_or, on_top, moved}
use Rattle.bm_code.specs.Transfers.{Spends, trap, running, give_back, pop_words, entered, has_room, call_word, enter as enter_machine}
use Rattle.bm_code.specs.Step.{step_instruction}
use Rattle.cg_expr.specs.Sizes.{expression_size}
use Rattle.cg_expr.specs.Code.{Target, expression_code}
use Rattle.cg_stmt.specs.StatementCode.{arguments_code, call_code, exits}
use Rattle.cg_stmt.specs.StatementSizes.{call_size, has_result, pointed_has_result, dropped, arguments_size}
use Rattle.cg_stmt.specs.declared.statements.Exits.{Exits}
use Rattle.cg_state.specs.Runs.{HasAt, Point, Leads, TrapsAs, Yields}
use Rattle.cg_state.proofs.HasCode.{has_front, has_rest}
use Rattle.cg_state.proofs.Leads.{stays, then_yields}
use Rattle.cg_sim_expr.proofs.Here.{frame, process_here, on, acts, goes, fails}
use Rattle.cg_state.proofs.Tests.{lt_true, le_true}
use Rattle.c_types.specs.Refusal.{IsBuilt}
use Rattle.cg_state.proofs.Typed.{Typed, AFunction, no_function, to_function, a_function}
use Rattle.cg_sim_expr.proofs.Matching.{word, Truth}
use Rattle.src_laws.proofs.Extended.{extends_further}
use Rattle.cg_sim.proofs.Results.{AResult, no_result, typed_result}
use Rattle.cg_sim.proofs.Kept.{AllTyped, kept_all}
use Rattle.cg_state.specs.Represents.{process_of}
use Rattle.cg_sim.proofs.Machines.{IsCode, target_at}
use Rattle.src_meaning.specs.Store.{is_function}
use Rattle.src_tree.specs.Signatures.{same_numbers, same_result, has_signature}
use Rattle.cg_sim.proofs.Ends.{Finishes, GoodResult, leads_follows, with_follows, given_back}
use Rattle.cg_expr.proofs.Lengths.{length-expression}
use Rattle.cg_stmt.proofs.CodeLengths.{length-arguments}
use Rattle.cg_sim.proofs.Stacks.{length-all, length-map_, push_all, pop_all, pop_over, numbers_same, results_same, length-given}
use Rattle.cg_sim.proofs.UnderWay.{CallResult}
use Rattle.cg_sim.proofs.UnderWay as under
use Rattle.cg_sim.proofs.Jumps.{branch_does}

module _ (p : Program) (built : IsBuilt p.types) (starts : List ℕ) (code : MachineCode) (same : code.types ≡ p.types) (world : World) (f : ℕ) (m : MachineFunction) (is : slice_get code.functions f ≡ Some m) (callers : List Frame) (fd : Function) (call : Callee) (fuel : ℕ) (base : Store) where
  abbrev target : Target
  target = under.target p built starts code same world f m is callers fd call fuel base

  abbrev decls : Declarations
  decls = under.decls p built starts code same world f m is callers fd call fuel base

  abbrev us : List ℕ
  us = under.us p built starts code same world f m is callers fd call fuel base

  abbrev c : Context
  c = under.c p built starts code same world f m is callers fd call fuel base

  abbrev here : State → ℕ → List ℕ → Point
  here = under.here p built starts code same world f m is callers fd call fuel base

  abbrev at : State → ℕ → Point
  at = under.at p built starts code same world f m is callers fd call fuel base

  abbrev Well : State → Type 0
  Well = under.Well p built starts code same world f m is callers fd call fuel base

  abbrev Does : Exits → Point → ℕ → Outcome → Type 0
  Does = under.Does p built starts code same world f m is callers fd call fuel base

  abbrev Given : Type 0
  Given = under.Given p built starts code same world f m is callers fd call fuel base

  module _ (given : Given) where
    pub return_does : (exits : Exits) (st : State) (pc end : ℕ) → Well st → fd.ret ≡ None → slice_get m.code pc ≡ Some I.Return → Does exits (at st pc) end (Leaves (Returned None st.store st.sends st.ticks))
    return_does exits st pc end well none has =
        let q = process_here p code world f m is callers st.store st.sends (map (word p built st.store) st.locals) st.ticks pc [] in
        let g = given.signature in (
          subst (λ r. GoodResult p built code world st.store r None) (sym none) tt,
          well.store,
          well.kept,
          given_back p built code world st.store st.sends _ st.ticks None callers (acts p code world f m is callers st.store st.sends (map (word p built st.store) st.locals) st.ticks pc [] I.Return has ∙ (ap (λ o. some_or o (trap BadCode q) (λ s. some_or s.result (give_back None q callers) (λ t. trap BadCode q))) g.1 ∙ ap (λ r. some_or r (give_back None q callers) (λ t. trap BadCode q)) (g.2 ∙ none))),
        )

    pub value_returns : (exits : Exits) (st : State) (pc end u : ℕ) (v : Value) → Well st → fd.ret ≡ Some u → Typed p built st.store u v → slice_get m.code pc ≡ Some I.ReturnValue → Does exits (here st pc (word p built st.store v ∷ [])) end (Leaves (Returned (Some v) st.store st.sends st.ticks))
    value_returns exits st pc end u v well some h has =
        let ws = map (word p built st.store) st.locals in
        let wv = word p built st.store v in
        let q = process_here p code world f m is callers st.store st.sends ws st.ticks pc (wv ∷ []) in
        let g = given.signature in (
          subst (λ r. GoodResult p built code world st.store r (Some v)) (sym some) (given.returned u some, h),
          well.store,
          well.kept,
          given_back p built code world st.store st.sends _ st.ticks (Some wv) callers (acts p code world f m is callers st.store st.sends ws st.ticks pc (wv ∷ []) I.ReturnValue has ∙ (ap (λ o. some_or o (trap BadCode q) (λ s. some_or s.result (trap BadCode q) (λ t. give_back (Some wv) q callers))) g.1 ∙ ap (λ r. some_or r (trap BadCode q) (λ t. give_back (Some wv) q callers)) (g.2 ∙ some))),
        )

    pub by_truth : (to : Exits) (st : State) (v : Value) (truth : Truth p built st.store v) (pc other end : ℕ) (g : Bool → Outcome) → pc < other → other < length m.code → slice_get m.code pc ≡ Some (I.JumpIfZero other) → Does to (at st (pc + 1)) end (g true) → Does to (at st other) end (g false) → Does to (here st pc (word p built st.store v ∷ [])) end (g truth.holds)
    by_truth to st v truth pc other end g lt within has ra rb =
        subst (Does to (here st pc (word p built st.store v ∷ [])) end) (both truth.holds) (branch_does p built starts code same world f m is callers fd call fuel base to st v truth pc other end (λ s. g true) (λ s. g false) lt within has ra rb)
      where
        both : (x : Bool) → branch x (λ s. g true) (λ s. g false) st ≡ g x
        both true = refl
        both false = refl

    pub scalar_local : (st : State) → Well st → (x u : ℕ) → slice_get us x ≡ Some u → is_scalar (slice_get p.types.types u) ≡ true
    scalar_local st well x u e = scalar_in us st.locals x u well.locals e
      where
        scalar_in : (us : List ℕ) (vs : List Value) (x u : ℕ) → AllTyped p built st.store us vs → slice_get us x ≡ Some u → is_scalar (slice_get p.types.types u) ≡ true
        scalar_in [] vs x u h e = absurd (cc)
        scalar_in (w ∷ us) [] x u h e = absurd h
        scalar_in (w ∷ us) (v ∷ vs) zero u h e = let same_type : w ≡ u = cc in subst (λ t. is_scalar (slice_get p.types.types t) ≡ true) same_type h.0
        scalar_in (w ∷ us) (v ∷ vs) (suc x) u h e = scalar_in us vs x u h.2 e

    -- arguments come onto the stack in order
    pub arguments_do : (st : State) → Well st → (n : ℕ) → n ≤ 64 → (es : List TypedExpr) (ts : List ℕ) (pc : ℕ) (stack : List ℕ) → are_arguments decls n ts es ≡ true → HasAt m.code pc (arguments_code target es pc) → pc + arguments_size p.types es < length m.code → length stack + length ts ≤ 65 → Yields p code world (here st pc stack) (AllTyped p built st.store ts) (λ vs. here st (pc + arguments_size p.types es) (push_all (map (word p built st.store) vs) stack)) (values_in c es st)
    arguments_do st well n low [] [] pc stack ty has within few =
        let z : pc ≡ pc + 0 = omega arith in
        (tt, subst (λ n. Leads p code world (here st pc stack) (here st n stack)) z (stays p code world (here st pc stack)))
    arguments_do st well n low [] (u ∷ ts) pc stack ty has within few = absurd (cc)
    arguments_do st well n low (e ∷ es) [] pc stack ty has within few = absurd (cc)
    arguments_do st well n low (e ∷ es) (u ∷ ts) pc stack ty has within few =
        let one = and_left (is_argument decls n u e) (are_arguments decls n ts es) ty in
        let rest = and_right (is_argument decls n u e) (are_arguments decls n ts es) ty in
        let expr = and_left (is_expr decls e.ty e.kind) _ one in
        let more = and_right (is_expr decls e.ty e.kind) _ one in
        let same_type : e.ty ≡ u = eq_of (and_left (nat_eq e.ty u) _ more) in
        let last = and_right (nat_eq e.ty u) _ more in
        let scalar = and_left (is_scalar (slice_get p.types.types u)) (has_depth n e) last in
        let depth = and_right (is_scalar (slice_get p.types.types u)) (has_depth n e) last in
        let scalar_e : is_scalar (slice_get p.types.types e.ty) ≡ true = subst (λ t. is_scalar (slice_get p.types.types t) ≡ true) (sym same_type) scalar in
        let ne = expression_size p.types e.ty e.kind in
        let ns = arguments_size p.types es in
        let ce = expression_code target e.ty e.kind pc in
        let cs = arguments_code target es (pc + ne) in
        let sum : pc + ne + ns ≡ pc + (ne + ns) = omega arith in
        subst (λ n. Yields p code world (here st pc stack) (AllTyped p built st.store (u ∷ ts)) (λ vs. here st n (push_all (map (word p built st.store) vs) stack)) (values_in c (e ∷ es) st)) sum (then_yields p code world (here st pc stack) (Typed p built st.store e.ty) (λ v. here st (pc + ne) (word p built st.store v ∷ stack)) (AllTyped p built st.store (u ∷ ts)) (λ vs. here st (pc + ne + ns) (push_all (map (word p built st.store) vs) stack)) (value_in c e st) (λ v. then_do (values_in c es st) (λ vs. Ok (v ∷ vs))) (λ v. refl) (given.values st well e pc 12 (n - 1) stack (omega arith) (omega (arith, low)) expr scalar_e depth (omega (arith, few)) (has_front m.code pc ce cs has) (omega (arith, within))) (λ v hv.
        then_yields p code world (here st (pc + ne) (word p built st.store v ∷ stack)) (AllTyped p built st.store ts) (λ vs. here st (pc + ne + ns) (push_all (map (word p built st.store) vs) (word p built st.store v ∷ stack))) (AllTyped p built st.store (u ∷ ts)) (λ vs. here st (pc + ne + ns) (push_all (map (word p built st.store) vs) stack)) (values_in c es st) (λ vs. Ok (v ∷ vs)) (λ vs. refl) (arguments_do st well n low es ts (pc + ne) (word p built st.store v ∷ stack) rest (has_rest m.code pc ne ce cs (length-expression target e.ty e.kind pc) has) (omega (arith, within)) (omega (arith, few))) (λ vs hvs. ((scalar, subst (λ t. Typed p built st.store t v) same_type hv, hvs), stays p code world _))))
      where
        eq_of : {a b : ℕ} → nat_eq a b ≡ true → a ≡ b
        eq_of h = grind (arith, nat_tests, h)

    pub roomy : (o : Option ℕ) → has_room m o [] ≡ true
    roomy None = le_true 0 m.height (omega arith)
    roomy (Some t) = lt_true 0 m.height given.high

    -- the machine's call of a function with its arguments on the stack
    pub call_steps : (st : State) (pc g : ℕ) (gd : Function) (gm : MachineFunction) (vs : List Value) → slice_get code.functions g ≡ Some gm → IsCode (target_at p starts) gd gm → AllTyped p built st.store gd.params vs → slice_get m.code pc ≡ Some (I.Call g) → step_instruction code world (process_here p code world f m is callers st.store st.sends (map (word p built st.store) st.locals) st.ticks pc (push_all (map (word p built st.store) vs) [])) ≡ cond (nat_lt (length callers + 1) 128) (Spends (process_of p st.store st.sends (Running (entered gm g (map (word p built st.store) vs)) (frame p code world f m is callers (map (word p built st.store) st.locals) (pc + 1) [] ∷ callers)) st.ticks)) (trap Depth (process_here p code world f m is callers st.store st.sends (map (word p built st.store) st.locals) st.ticks pc (push_all (map (word p built st.store) vs) [])))
    call_steps st pc g gd gm vs e fits hvs has =
        let ws = map (word p built st.store) st.locals in
        let args = map (word p built st.store) vs in
        let stack = push_all args [] in
        let q = process_here p code world f m is callers st.store st.sends ws st.ticks pc stack in
        let fr = frame p code world f m is callers ws pc stack in
        let gs = given.known gd gm fits in
        let count : length gs.0.params ≡ length args = omega (arith, gs.3, length-map_ (word p built st.store) vs, length-all p built st.store gd.params vs hvs) in
        let found = cond (nat_lt (length callers + 1) 128) (Spends (running q (entered gm g args) (moved fr (pc + 1) [] ∷ callers))) (trap Depth q) in
        acts p code world f m is callers st.store st.sends ws st.ticks pc stack (I.Call g) has
        ∙ (ap (λ o. some_or o (trap BadCode q) (λ d. some_or (slice_get code.types.signatures d.signature) (trap BadCode q) (λ s. some_or (pop_words (length s.params) stack []) (trap BadCode q) (enter_machine m q fr callers g d s)))) e
        ∙ (ap (λ o. some_or o (trap BadCode q) (λ s. some_or (pop_words (length s.params) stack []) (trap BadCode q) (enter_machine m q fr callers g gm s))) gs.1
        ∙ (ap (λ o. some_or o (trap BadCode q) (enter_machine m q fr callers g gm gs.0)) (pop_all args (length gs.0.params) count)
        ∙ ap (λ b. cond b found (trap BadCode q)) (roomy gs.0.result))))

    -- after a call: the caller goes on with its locals, and with the result on the stack
    pub back_does_call : (to : Exits) (st : State) (pc end : ℕ) (ret : Option ℕ) (q : Point) (e : Ending) (k : Option Value → State → Outcome) → Well st → q.ticks ≡ st.ticks → Finishes p built code world st.store q (frame p code world f m is callers (map (word p built st.store) st.locals) pc [] ∷ callers) ret e → ((r : Option Value) (next : State) → Well next → GoodResult p built code world next.store ret r → Does to (here next pc (option_to_list (option_map (word p built next.store) r))) end (k r next)) → Does to q end (resume st e k)
    back_does_call to st pc end ret q (Returned r s o t) k well e h next =
        let all = kept_all p built st.store s h.2 us st.locals well.locals in
        let after : State = record { store = s; locals = st.locals; sends = o; ticks = t } in
        let ok : Well after = record { store = h.1; kept = extends_further base.objects st.store.objects s.objects well.kept h.2; locals = all.0 } in
        let stack = option_to_list (option_map (word p built s) r) in
        let first : Leads p code world q (on p code world f m is callers s o (map (word p built st.store) st.locals) t pc (stack ++ [])) = h.3 in
        let there : Leads p code world q (here after pc stack) = subst (λ ws. Leads p code world q (on p code world f m is callers s o ws t pc stack)) (sym all.1) (subst (λ l. Leads p code world q (on p code world f m is callers s o (map (word p built st.store) st.locals) t pc l)) (append-nil stack) first) in
        leads_follows p built code world base callers us fd.ret at to q (here after pc stack) end (k r after) there (next r after ok h.0)
    back_does_call to st pc end ret q (Trapped tr t) k well e h next = h
    back_does_call to st pc end ret q Starved k well e h next = tt

    pub pop_leads : (st : State) (pc a : ℕ) → slice_get m.code pc ≡ Some I.Pop → Leads p code world (here st pc (a ∷ [])) (at st (pc + 1))
    pop_leads st pc a has = goes p code world f m is callers st.store st.store st.sends st.sends (map (word p built st.store) st.locals) (map (word p built st.store) st.locals) st.ticks pc (pc + 1) (a ∷ []) [] I.Pop has refl

    -- a result that is dropped
    pub drop_does : (to : Exits) (next : State) (pc : ℕ) (r : Option Value) → Well next → HasAt m.code pc (dropped (is_some r)) → Does to (here next pc (option_to_list (option_map (word p built next.store) r))) (pc + length (dropped (is_some r))) (Goes_on next)
    drop_does to next pc None well has =
        let z : pc ≡ pc + 0 = omega arith in
        (well, subst (λ n. Leads p code world (at next pc) (at next n)) z (stays p code world (at next pc)))
    drop_does to next pc (Some v) well has = (well, pop_leads next pc (word p built next.store v) has.0)

    -- a call of a function by its name, and what follows it
    pub named_does : (to : Exits) (st : State) → Well st → (g : ℕ) (gd : Function) (es : List TypedExpr) (pc n end : ℕ) → n ≤ 64 → slice_get p.functions g ≡ Some gd → are_arguments decls n gd.params es ≡ true → HasAt m.code pc (arguments_code target es pc ++ I.Call g ∷ []) → pc + arguments_size p.types es + 1 < length m.code → (k : Option Value → State → Outcome) → ((r : Option Value) (next : State) → Well next → GoodResult p built code world next.store gd.ret r → Does to (here next (pc + arguments_size p.types es + 1) (option_to_list (option_map (word p built next.store) r))) end (k r next)) → Does to (at st pc) end (with_gives (values_in c es st) st (λ vs. resume st (call g vs st) k))
    named_does to st well g gd es pc n end low e ty has within k next =
        let cs = arguments_code target es pc in
        let ns = arguments_size p.types es in
        let gm = given.compiled g gd e in
        let calls = has_rest m.code pc ns cs (I.Call g ∷ []) (length-arguments target es pc) has in
        with_follows p built code world base callers us fd.ret at to (at st pc) end (AllTyped p built st.store gd.params) (λ vs. here st (pc + ns) (push_all (map (word p built st.store) vs) [])) (values_in c es st) st (λ vs. resume st (call g vs st) k) refl (arguments_do st well n low es gd.params pc [] ty (has_front m.code pc cs (I.Call g ∷ []) has) (omega (arith, within)) (omega (arith, given.few gd g e))) (λ vs hvs.
        back_does_call to st (pc + ns + 1) end gd.ret (here st (pc + ns) (push_all (map (word p built st.store) vs) [])) (call g vs st) k well refl (given.named g gd gm.0 vs st _ _ e gm.1 gm.2 hvs well.store (omega arith) (call_steps st (pc + ns) g gd gm.0 vs gm.1 gm.2 hvs calls.0)) next)

    -- the result of a function is a result of the call
    pub function_result : (g : ℕ) (gd : Function) (s : Store) (r : Option Value) → slice_get p.functions g ≡ Some gd → GoodResult p built code world s gd.ret r → CallResult p built starts s (Named g) r
    function_result g gd s r e good = by gd.ret r refl good
      where
        is_ret : (o : Option ℕ) → gd.ret ≡ o → call_result p (Named g) ≡ type_in p.types o
        is_ret o q = ap (λ f. option_map_or (λ (d : Function). type_in p.types d.ret) f None) e ∙ ap (type_in p.types) q

        has_ret : (o : Option ℕ) → gd.ret ≡ o → has_result target (Named g) ≡ is_some o
        has_ret o q = ap (λ f. option_map_or (λ (d : Function). is_some d.ret) f false) e ∙ ap is_some q

        by : (o : Option ℕ) (r : Option Value) → gd.ret ≡ o → GoodResult p built code world s o r → CallResult p built starts s (Named g) r
        by None None q h = record { is_typed = subst (λ t. AResult p built s t None) (sym (is_ret None q)) no_result; some = sym (has_ret None q) }
        by (Some u) (Some v) q h = record { is_typed = subst (λ t. AResult p built s t (Some v)) (sym (is_ret (Some u) q)) (typed_result p built s u v h.0 h.1); some = sym (has_ret (Some u) q) }
        by None (Some v) q h = absurd h
        by (Some u) None q h = absurd h

    -- a function of a signature, by its number
    pub record OfSignature (gs : Signature) (g : ℕ) : Type 0 where
      pub gd : Function
      pub is_function_ : slice_get p.functions g ≡ Some gd
      pub params : gd.params ≡ gs.params
      pub result : gd.ret ≡ gs.result

    pub of_signature : (gn : ℕ) (gs : Signature) (g : ℕ) → slice_get p.types.signatures gn ≡ Some gs → is_function p gn g ≡ true → OfSignature gs g
    of_signature gn gs g e h = by (slice_get p.functions g) refl h
      where
        by : (o : Option Function) → slice_get p.functions g ≡ o → option_map_or (λ d. option_map_or (has_signature d) (slice_get p.types.signatures gn) false) o false ≡ true → OfSignature gs g
        by None q h = absurd (cc)
        by (Some gd) q h =
            let fits : has_signature gd gs ≡ true = ap (λ o. option_map_or (has_signature gd) o false) (sym e) ∙ h in
            record { gd = gd; is_function_ = q; params = numbers_same gd.params gs.params (and_right (same_result gd.ret gs.result) (same_numbers gd.params gs.params) fits); result = results_same gd.ret gs.result (and_left (same_result gd.ret gs.result) (same_numbers gd.params gs.params) fits) }

    pub indirect_steps : (st : State) (pc g count : ℕ) (gd : Function) (gm : MachineFunction) (vs : List Value) → slice_get code.functions g ≡ Some gm → IsCode (target_at p starts) gd gm → AllTyped p built st.store gd.params vs → count ≡ length vs → slice_get m.code pc ≡ Some (I.CallIndirect count) → step_instruction code world (process_here p code world f m is callers st.store st.sends (map (word p built st.store) st.locals) st.ticks pc (push_all (map (word p built st.store) vs) ((g + 1) ∷ []))) ≡ cond (nat_lt (length callers + 1) 128) (Spends (process_of p st.store st.sends (Running (entered gm g (map (word p built st.store) vs)) (frame p code world f m is callers (map (word p built st.store) st.locals) (pc + 1) [] ∷ callers)) st.ticks)) (trap Depth (process_here p code world f m is callers st.store st.sends (map (word p built st.store) st.locals) st.ticks pc (push_all (map (word p built st.store) vs) ((g + 1) ∷ []))))
    indirect_steps st pc g count gd gm vs e fits hvs n has =
        let ws = map (word p built st.store) st.locals in
        let args = map (word p built st.store) vs in
        let stack = push_all args ((g + 1) ∷ []) in
        let q = process_here p code world f m is callers st.store st.sends ws st.ticks pc stack in
        let fr = frame p code world f m is callers ws pc stack in
        let gs = given.known gd gm fits in
        let many : count ≡ length args = omega (arith, n, length-map_ (word p built st.store) vs) in
        let counted : length gs.0.params ≡ length args = omega (arith, gs.3, length-map_ (word p built st.store) vs, length-all p built st.store gd.params vs hvs) in
        let up : g + 1 ≡ suc g = omega arith in
        let found = cond (nat_lt (length callers + 1) 128) (Spends (running q (entered gm g args) (moved fr (pc + 1) [] ∷ callers))) (trap Depth q) in
        acts p code world f m is callers st.store st.sends ws st.ticks pc stack (I.CallIndirect count) has
        ∙ (ap (λ o. some_or o (trap BadCode q) (λ split. on_top split.1 (trap BadCode q) (call_word code m q fr callers split.0))) (pop_over args ((g + 1) ∷ []) count many)
        ∙ (ap (λ w. call_word code m q fr callers args w []) up
        ∙ (ap (λ o. some_or o (trap BadCode q) (λ d. some_or (slice_get code.types.signatures d.signature) (trap BadCode q) (λ s. some_or (cond (nat_eq (length s.params) (length args)) (Some (args, [])) None) (trap BadCode q) (enter_machine m q fr callers g d s)))) e
        ∙ (ap (λ o. some_or o (trap BadCode q) (λ s. some_or (cond (nat_eq (length s.params) (length args)) (Some (args, [])) None) (trap BadCode q) (enter_machine m q fr callers g gm s))) gs.1
        ∙ (ap (λ b. some_or (cond b (Some (args, [])) None) (trap BadCode q) (enter_machine m q fr callers g gm gs.0)) (equal (length gs.0.params) (length args) counted)
        ∙ ap (λ b. cond b found (trap BadCode q)) (roomy gs.0.result))))))
      where
        equal : (a b : ℕ) → a ≡ b → nat_eq a b ≡ true
        equal a b e = grind (arith, nat_tests, e)

    pub null_traps : (st : State) (pc count : ℕ) (vs : List Value) → count ≡ length vs → slice_get m.code pc ≡ Some (I.CallIndirect count) → TrapsAs p code world (here st pc (push_all (map (word p built st.store) vs) (0 ∷ []))) BadCall st.ticks
    null_traps st pc count vs n has =
        let ws = map (word p built st.store) st.locals in
        let args = map (word p built st.store) vs in
        let stack = push_all args (0 ∷ []) in
        let q = process_here p code world f m is callers st.store st.sends ws st.ticks pc stack in
        let fr = frame p code world f m is callers ws pc stack in
        let many : count ≡ length args = omega (arith, n, length-map_ (word p built st.store) vs) in
        fails p code world f m is callers st.store st.sends ws st.ticks pc stack (I.CallIndirect count) BadCall has (ap (λ o. some_or o (trap BadCode q) (λ split. on_top split.1 (trap BadCode q) (call_word code m q fr callers split.0))) (pop_over args (0 ∷ []) count many))

    -- what a call of a pointer gives
    pub pointer_gives : (x : TypedExpr) (gn : ℕ) (gs : Signature) (s : Store) (r : Option Value) → slice_get p.types.types x.ty ≡ Some (T.Function gn) → slice_get p.types.signatures gn ≡ Some gs → GoodResult p built code world s gs.result r → CallResult p built starts s (Behind x) r
    pointer_gives x gn gs s r ex eg good = by gs.result r refl good
      where
        is_ret : (o : Option ℕ) → gs.result ≡ o → call_result p (Behind x) ≡ type_in p.types o
        is_ret o q = ap (pointer_result p.types) ex ∙ (ap (λ f. option_map_or (λ (d : Signature). type_in p.types d.result) f None) eg ∙ ap (type_in p.types) q)

        has_ret : (o : Option ℕ) → gs.result ≡ o → has_result target (Behind x) ≡ is_some o
        has_ret o q = ap (pointed_has_result p.types) ex ∙ (ap (λ f. option_map_or (λ (d : Signature). is_some d.result) f false) eg ∙ ap is_some q)

        by : (o : Option ℕ) (r : Option Value) → gs.result ≡ o → GoodResult p built code world s o r → CallResult p built starts s (Behind x) r
        by None None q h = record { is_typed = subst (λ t. AResult p built s t None) (sym (is_ret None q)) no_result; some = sym (has_ret None q) }
        by (Some u) (Some v) q h = record { is_typed = subst (λ t. AResult p built s t (Some v)) (sym (is_ret (Some u) q)) (typed_result p built s u v h.0 h.1); some = sym (has_ret (Some u) q) }
        by None (Some v) q h = absurd h
        by (Some u) None q h = absurd h

    -- a call of what a value of a function type points to, with its arguments above it
    pub behind_does : (to : Exits) (st : State) → Well st → (gn : ℕ) (gs : Signature) (v : Value) (vs : List Value) (count pc end : ℕ) → slice_get p.types.signatures gn ≡ Some gs → AFunction p built st.store gn v → AllTyped p built st.store gs.params vs → count ≡ length vs → slice_get m.code pc ≡ Some (I.CallIndirect count) → (k : Option Value → State → Outcome) → ((r : Option Value) (next : State) → Well next → GoodResult p built code world next.store gs.result r → Does to (here next (pc + 1) (option_to_list (option_map (word p built next.store) r))) end (k r next)) → Does to (here st pc (push_all (map (word p built st.store) vs) (word p built st.store v ∷ []))) end (call_pointer c v vs st k)
    behind_does to st well gn gs v vs count pc end e no_function hvs n has k next = (tt, null_traps st pc count vs n has)
    behind_does to st well gn gs v vs count pc end e (to_function g h) hvs n has k next =
        let d = of_signature gn gs g e h in
        let gm = given.compiled g d.gd d.is_function_ in
        let hds = subst (λ ts. AllTyped p built st.store ts vs) (sym d.params) hvs in
        back_does_call to st (pc + 1) end d.gd.ret (here st pc (push_all (map (word p built st.store) vs) ((g + 1) ∷ []))) (call g vs st) k well refl (given.named g d.gd gm.0 vs st _ _ d.is_function_ gm.1 gm.2 hds well.store (omega arith) (indirect_steps st pc g count d.gd gm.0 vs gm.1 gm.2 hds n has)) (λ r after ok good. next r after ok (subst (λ o. GoodResult p built code world after.store o r) d.result good))

    pub pointer_does : (to : Exits) (st : State) → Well st → (x : TypedExpr) (es : List TypedExpr) (pc hr n end gn : ℕ) (gs : Signature) → hr ≤ 64 → n ≤ 64 → slice_get p.types.types x.ty ≡ Some (T.Function gn) → slice_get p.types.signatures gn ≡ Some gs → is_callee decls hr x ≡ true → are_arguments decls n gs.params es ≡ true → HasAt m.code pc (call_code target (record { callee = Behind x; args = es }) pc) → pc + call_size p.types (record { callee = Behind x; args = es }) < length m.code → (k : Option Value → State → Outcome) → ((r : Option Value) (next : State) → Well next → GoodResult p built code world next.store gs.result r → Does to (here next (pc + call_size p.types (record { callee = Behind x; args = es })) (option_to_list (option_map (word p built next.store) r))) end (k r next)) → Does to (at st pc) end (call_in c (record { callee = Behind x; args = es }) st k)
    pointer_does to st well x es pc hr n end gn gs lowh low ex eg callee ty has within k next =
        let expr = and_left (is_expr decls x.ty x.kind) _ callee in
        let depth = and_right (is_expr decls x.ty x.kind) _ callee in
        let sc : is_scalar (slice_get p.types.types x.ty) ≡ true = ap is_scalar ex in
        let nx = expression_size p.types x.ty x.kind in
        let ns = arguments_size p.types es in
        let cx = expression_code target x.ty x.kind pc in
        let cs = arguments_code target es (pc + nx) in
        let last = I.CallIndirect (length es) ∷ [] in
        let after = has_rest m.code pc nx cx (cs ++ last) (length-expression target x.ty x.kind pc) has in
        let at_call = has_rest m.code (pc + nx) ns cs last (length-arguments target es (pc + nx)) after in
        let there : pc + nx + ns + 1 ≡ pc + (nx + ns + 1) = omega arith in
        let few = given.few_signature gs gn eg in
        with_follows p built code world base callers us fd.ret at to (at st pc) end (Typed p built st.store x.ty) (λ v. here st (pc + nx) (word p built st.store v ∷ [])) (value_in c x st) st (λ g. with_gives (values_in c es st) st (λ vs. call_pointer c g vs st k)) refl (given.values st well x pc 0 hr [] (omega arith) lowh expr sc depth (omega arith) (has_front m.code pc cx (cs ++ last) has) (omega (arith, within))) (λ v hv.
        with_follows p built code world base callers us fd.ret at to (here st (pc + nx) (word p built st.store v ∷ [])) end (AllTyped p built st.store gs.params) (λ vs. here st (pc + nx + ns) (push_all (map (word p built st.store) vs) (word p built st.store v ∷ []))) (values_in c es st) st (λ vs. call_pointer c v vs st k) refl (arguments_do st well n low es gs.params (pc + nx) (word p built st.store v ∷ []) ty (has_front m.code (pc + nx) cs last after) (omega (arith, within)) (omega (arith, few))) (λ vs hvs.
        let count : length es ≡ length vs = length-given decls n gs.params es ty ∙ sym (length-all p built st.store gs.params vs hvs) in
        behind_does to st well gn gs v vs (length es) (pc + nx + ns) end eg (a_function p built st.store x.ty gn v ex hv) hvs count at_call.0 k (λ r after_ ok good. subst (λ n. Does to (here after_ n (option_to_list (option_map (word p built after_.store) r))) end (k r after_)) (sym there) (next r after_ ok good))))
