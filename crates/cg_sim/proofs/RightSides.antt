-- Calls as statements, right sides, and what takes their values: locals and returns.
use Rattle.std.proofs.Common.{◌≡◌, refl, sym, subst, Bool, true, false, ℕ, ◌+◌, ◌-◌, ◌<◌, ◌≤◌, List, [], ◌∷◌, ◌++◌, length, map, Option, Some, None, Result, Ok, Err, arith, nat_lt}
use Rattle.std.specs.Prelude.{slice_get, option_to_list, nat_eq}
use Rattle.std.specs.Option.{option_map, option_map_or}
use Rattle.std.proofs.lemmas.Bool.Decides.{nat_tests}
use Rattle.lu_spec.specs.Then.{then_do}
use Rattle.lu_base.specs.declared.trap.Trap.{Trap}
use Rattle.lu_base.specs.declared.trap.Trap.TheVariants.{BadCode}
use Rattle.c_types.specs.declared.parts.Signature.{Signature}
use Rattle.src_tree.specs.declared.value.Value.{Value, Int}
use Rattle.src_tree.specs.declared.value.Store.{Store}
use Rattle.c_types.specs.declared.parts.Ty.{Ty}
use Rattle.c_types.specs.declared.parts.Ty.TheVariants as T
use Rattle.c_types.specs.declared.parts.IntKind.TheVariants as K
use Rattle.bm_alu.specs.Words.{of_signed}
use Rattle.src_tree.specs.declared.program.Function.{Function}
use Rattle.src_tree.specs.declared.program.Program.{Program}
use Rattle.src_tree.specs.declared.expr.TypedExpr.{TypedExpr}
use Rattle.src_tree.specs.declared.stmt.Call as Text_call
use Rattle.src_tree.specs.declared.stmt.Callee as Text_callee
use Rattle.src_tree.specs.declared.stmt.Callee.TheVariants.{Function as Named, Pointer as Behind, Send, Malloc, Calloc, Free, Panic as Panics}
use Rattle.src_tree.specs.declared.stmt.Rhs.{Rhs}
use Rattle.src_tree.specs.declared.stmt.Rhs.TheVariants.{Value as Plain, Call as Result_of}
use Rattle.src_tree.specs.declared.stmt.TypedStmt.{Call, Return}
use Rattle.src_meaning.specs.Objects.{Gives, or_trap}
use Rattle.src_meaning.specs.Paths.{zero_of}
use Rattle.src_meaning.specs.Operators.{converted}
use Rattle.src_meaning.specs.ValidTypes.{is_scalar, converts, is_declared_scalar, ty as ty_of}
use Rattle.src_meaning.specs.ValidExpression.{Declarations, is_expr, is_assignable, local_type}
use Rattle.src_meaning.specs.ValidStatement.{has_depth, is_statement, is_right_side, are_arguments, is_call, is_call_of, is_callee, are_pointer_arguments, is_declaration, is_loop_condition, call_result, is_returned}
use Rattle.src_meaning.specs.Call.{State, Returned, Outcome, Goes_on, Leaves, Callee, Context, with_gives, value_in, values_in, rhs_in, resume, call_in, with_local, perform, declare, test_of, run_statement}
use Rattle.src_meaning.proofs.LayoutLengths.{and_left, and_right}
use Rattle.bm_isa.specs.declared.instr.Instr.TheVariants as I
use Rattle.bm_code.specs.declared.code.MachineCode.{MachineCode}
use Rattle.bm_code.specs.declared.code.MachineFunction.{MachineFunction}
use Rattle.lu_base.specs.declared.world.World.{World}
use Rattle.bm_code.specs.Process.{Frame}
use Rattle.bm_code.specs.Transfers.{jump}
use Rattle.cg_expr.specs.Pieces.{normal}
use Rattle.cg_expr.specs.Sizes.{expression_size}
use Rattle.cg_expr.specs.Code.{Target}
use Rattle.cg_stmt.specs.StatementCode.{arguments_code, call_code, right_side_code, condition_code, start_code, statement_code}
use Rattle.cg_stmt.specs.StatementSizes.{right_side_size, call_size, has_result, dropped, arguments_size, condition_size, start_size, statement_size}
use Rattle.cg_stmt.specs.declared.statements.Exits.{Exits}
use Rattle.cg_state.specs.Runs.{HasAt, Point, Leads, TrapsAs}
use Rattle.cg_state.proofs.HasCode.{has_front, has_rest}
use Rattle.cg_state.proofs.Leads.{then_leads}
use Rattle.cg_sim_expr.proofs.Here.{const_leads, other_leads}
use Rattle.c_types.specs.Refusal.{IsBuilt}
use Rattle.cg_state.proofs.Typed.{Typed}
use Rattle.cg_sim_expr.proofs.Matching.{word, run, Matches, matches_fine}
use Rattle.cg_sim_expr.proofs.Straight.{DoesTo, straight_does}
use Rattle.cg_sim.proofs.Results.{no_result, int_result, void_result, result_converts}
use Rattle.cg_sim.proofs.Zeros.{zero_scalar}
use Rattle.cg_sim.proofs.Ends.{leads_follows, follows_at, with_follows}
use Rattle.cg_stmt.proofs.CodeLengths.{length-right_side, length-call}
use Rattle.cg_sim.proofs.Stacks.{length-all, within_all}
use Rattle.cg_sim.proofs.UnderWay.{CallResult}
use Rattle.cg_sim.proofs.UnderWay as under
use Rattle.cg_sim.proofs.Jumps.{set_leads, well_set, test_does}
use Rattle.cg_sim.proofs.FunctionCalls.{return_does, value_returns, by_truth, scalar_local, drop_does, named_does, function_result, pointer_gives, pointer_does}
use Rattle.cg_sim.proofs.Services.{panic_does, free_does, send_does, malloc_does, calloc_does}

module _ (p : Program) (built : IsBuilt p.types) (starts : List ℕ) (code : MachineCode) (same : code.types ≡ p.types) (world : World) (f : ℕ) (m : MachineFunction) (is : slice_get code.functions f ≡ Some m) (callers : List Frame) (fd : Function) (call : Callee) (fuel : ℕ) (base : Store) where
  abbrev target : Target
  target = under.target p built starts code same world f m is callers fd call fuel base

  abbrev decls : Declarations
  decls = under.decls p built starts code same world f m is callers fd call fuel base

  abbrev us : List ℕ
  us = under.us p built starts code same world f m is callers fd call fuel base

  abbrev c : Context
  c = under.c p built starts code same world f m is callers fd call fuel base

  abbrev here : State → ℕ → List ℕ → Point
  here = under.here p built starts code same world f m is callers fd call fuel base

  abbrev at : State → ℕ → Point
  at = under.at p built starts code same world f m is callers fd call fuel base

  abbrev Well : State → Type 0
  Well = under.Well p built starts code same world f m is callers fd call fuel base

  abbrev Does : Exits → Point → ℕ → Outcome → Type 0
  Does = under.Does p built starts code same world f m is callers fd call fuel base

  abbrev Given : Type 0
  Given = under.Given p built starts code same world f m is callers fd call fuel base

  module _ (given : Given) where
    -- a call, and what follows it
    pub call_by : (to : Exits) (st : State) → Well st → (l : Text_callee.Callee) (es : List TypedExpr) (pc hr n end : ℕ) → hr ≤ 64 → n ≤ 64 → is_call_of decls hr n l es ≡ true → HasAt m.code pc (call_code target (record { callee = l; args = es }) pc) → pc + call_size p.types (record { callee = l; args = es }) < length m.code → (k : Option Value → State → Outcome) → ((r : Option Value) (next : State) → Well next → CallResult p built starts next.store l r → Does to (here next (pc + call_size p.types (record { callee = l; args = es })) (option_to_list (option_map (word p built next.store) r))) end (k r next)) → Does to (at st pc) end (call_in c (record { callee = l; args = es }) st k)
    call_by to st well (Named g) es pc hr n end lowh low ty has within k next =
        by (slice_get p.functions g) refl (and_right (nat_lt 1 hr) _ ty)
      where
        z : pc ≡ pc + 0
        z = omega arith

        there : (ns : ℕ) → pc + 0 + ns + 1 ≡ pc + (0 + ns + 1)
        there ns = omega arith

        by : (o : Option Function) → slice_get p.functions g ≡ o → option_map_or (λ d. are_arguments decls n d.params es) o false ≡ true → Does to (at st pc) end (with_gives (values_in c es st) st (λ vs. resume st (call g vs st) k))
        by None e ty = absurd (cc)
        by (Some gd) e ty =
            let ns = arguments_size p.types es in
            subst (λ n. Does to (at st n) end (with_gives (values_in c es st) st (λ vs. resume st (call g vs st) k))) (sym z) (named_does p built starts code same world f m is callers fd call fuel base given to st well g gd es (pc + 0) n end low e ty (subst (λ n. HasAt m.code n (arguments_code target es (pc + 0) ++ I.Call g ∷ [])) z has) (omega (arith, within)) k (λ r after ok good.
            subst (λ n. Does to (here after n (option_to_list (option_map (word p built after.store) r))) end (k r after)) (sym (there ns)) (next r after ok (function_result p built starts code same world f m is callers fd call fuel base given g gd after.store r e good))))
    call_by to st well (Behind x) es pc hr n end lowh low ty has within k next =
        by (slice_get p.types.types x.ty) refl (and_right (is_callee decls hr x) _ ty)
      where
        callee : is_callee decls hr x ≡ true
        callee = and_left (is_callee decls hr x) _ ty

        by : (o : Option Ty) → slice_get p.types.types x.ty ≡ o → are_pointer_arguments decls n o es ≡ true → Does to (at st pc) end (call_in c (record { callee = Behind x; args = es }) st k)
        by (Some (T.Function gn)) ex fits = signed_by (slice_get p.types.signatures gn) refl fits
          where
            signed_by : (o : Option Signature) → slice_get p.types.signatures gn ≡ o → option_map_or (λ ts. are_arguments decls n ts es) (option_map_or (λ s. Some s.params) o None) false ≡ true → Does to (at st pc) end (call_in c (record { callee = Behind x; args = es }) st k)
            signed_by None eg fits = absurd (cc)
            signed_by (Some gs) eg fits = pointer_does p built starts code same world f m is callers fd call fuel base given to st well x es pc hr n end gn gs lowh low ex eg callee fits has within k (λ r after ok good. next r after ok (pointer_gives p built starts code same world f m is callers fd call fuel base given x gn gs after.store r ex eg good))
        by (Some (T.Int kind)) ex fits = absurd (cc)
        by (Some (T.Pointer u)) ex fits = absurd (cc)
        by (Some T.VoidPointer) ex fits = absurd (cc)
        by (Some (T.Struct u)) ex fits = absurd (cc)
        by (Some (T.Union u)) ex fits = absurd (cc)
        by (Some (T.Array u j)) ex fits = absurd (cc)
        by None ex fits = absurd (cc)
    call_by to st well Send es pc hr n end lowh low ty has within k next =
        let z : pc ≡ pc + 0 = omega arith in
        let na = arguments_size p.types es in
        let there : pc + 0 + na + 1 ≡ pc + (0 + na + 1) = omega arith in
        subst (λ n. Does to (at st n) end (with_gives (values_in c es st) st (λ vs. perform c Send vs st k))) (sym z) (send_does p built starts code same world f m is callers fd call fuel base given to st well es (pc + 0) n end low (and_right (nat_lt 1 hr) _ ty) (subst (λ n. HasAt m.code n (arguments_code target es (pc + 0) ++ I.SendMessage ∷ [])) z has) (omega (arith, within)) k (λ v after ok held. subst (λ n. Does to (here after n (of_signed v ∷ [])) end (k (Some (Int v)) after)) (sym there) (next (Some (Int v)) after ok (record { is_typed = int_result K.Int v held; some = refl }))))
    call_by to st well (Malloc site) es pc hr n end lowh low ty has within k next =
        malloc_does p built starts code same world f m is callers fd call fuel base given to st well site es pc end (and_right (nat_lt 2 n) _ ty) has k (λ v after ok q. next (Some v) after ok (record { is_typed = void_result v q; some = refl }))
    call_by to st well (Calloc site) es pc hr n end lowh low ty has within k next =
        let z : pc ≡ pc + 0 = omega arith in
        let na = arguments_size p.types es in
        let there : pc + 0 + na + 1 ≡ pc + (0 + na + 1) = omega arith in
        subst (λ n. Does to (at st n) end (with_gives (values_in c es st) st (λ vs. perform c (Calloc site) vs st k))) (sym z) (calloc_does p built starts code same world f m is callers fd call fuel base given to st well site es (pc + 0) n end low (and_right (nat_lt 2 n) _ ty) (subst (λ n. HasAt m.code n (arguments_code target es (pc + 0) ++ I.Allocate site ∷ [])) z has) (omega (arith, within)) k (λ v after ok q. subst (λ n. Does to (here after n (word p built after.store v ∷ [])) end (k (Some v) after)) (sym there) (next (Some v) after ok (record { is_typed = void_result v q; some = refl }))))
    call_by to st well Free es pc hr n end lowh low ty has within k next =
        let z : pc ≡ pc + 0 = omega arith in
        let na = arguments_size p.types es in
        let there : pc + 0 + na + 1 ≡ pc + (0 + na + 1) = omega arith in
        subst (λ n. Does to (at st n) end (with_gives (values_in c es st) st (λ vs. perform c Free vs st k))) (sym z) (free_does p built starts code same world f m is callers fd call fuel base given to st well es (pc + 0) n end low (and_right (nat_lt 1 hr) _ ty) (subst (λ n. HasAt m.code n (arguments_code target es (pc + 0) ++ I.Free ∷ [])) z has) (omega (arith, within)) k (λ after ok. subst (λ n. Does to (at after n) end (k None after)) (sym there) (next None after ok (record { is_typed = no_result; some = refl }))))
    call_by to st well Panics es pc hr n end lowh low ty has within k next =
        let z : pc ≡ pc + 0 = omega arith in
        subst (λ n. Does to (at st n) end (with_gives (values_in c es st) st (λ vs. perform c Panics vs st k))) (sym z) (panic_does p built starts code same world f m is callers fd call fuel base given to st well es (pc + 0) n end low (and_right (nat_lt 1 hr) _ ty) (subst (λ n. HasAt m.code n (arguments_code target es (pc + 0) ++ I.Panic ∷ [])) z has) (omega (arith, within)) k)

    -- a call as a statement
    pub call_does : (d : Text_call.Call) (st : State) (to : Exits) (pc : ℕ) (in_loop : Bool) (n : ℕ) → n ≤ 64 → Well st → is_statement decls fd.ret in_loop n (Call d) ≡ true → HasAt m.code pc (statement_code target (Call d) to pc) → pc + statement_size target (Call d) < length m.code → Does to (at st pc) (pc + statement_size target (Call d)) (run_statement (Call d) c st)
    call_does d st to pc in_loop n low well ty has within =
        let nc = call_size p.types d in
        let cc_ = call_code target d pc in
        let drop = dropped (has_result target d.callee) in
        let sum : pc + nc + length drop ≡ pc + (nc + length drop) = omega arith in
        let at_drop = has_rest m.code pc nc cc_ drop (length-call target d pc) has in
        call_by to st well d.callee d.args pc n n (pc + (nc + length drop)) low low (and_left (is_call decls n n d) _ ty) (has_front m.code pc cc_ drop has) (omega (arith, within)) (λ result next. Goes_on next) (λ r next ok good.
        follows_at p built code world base callers us fd.ret at to (here next (pc + nc) (option_to_list (option_map (word p built next.store) r))) (pc + nc + length drop) (pc + (nc + length drop)) (Goes_on next) sum (subst (λ b. HasAt m.code (pc + nc) (dropped b) → Does to (here next (pc + nc) (option_to_list (option_map (word p built next.store) r))) (pc + nc + length (dropped b)) (Goes_on next)) good.some (drop_does p built starts code same world f m is callers fd call fuel base given to next (pc + nc) r ok) at_drop))

    -- what code makes of a word, and what follows
    pub matched_does : (to : Exits) (st : State) (pc pc' end u : ℕ) (stack : List ℕ) (r : Gives Value) (x : Result (List ℕ) Trap) (k : Value → Outcome) → Matches p built st.store u [] r x → DoesTo p code same world (here st pc stack) (λ next. here st pc' next) x → ((v : Value) → Typed p built st.store u v → Does to (here st pc' (word p built st.store v ∷ [])) end (k v)) → Does to (here st pc stack) end (with_gives r st k)
    matched_does to st pc pc' end u stack (Ok v) (Ok next) k h d g = leads_follows p built code world base callers us fd.ret at to (here st pc stack) (here st pc' (word p built st.store v ∷ [])) end (k v) (subst (λ l. Leads p code world (here st pc stack) (here st pc' l)) h.1 d) (g v h.0)
    matched_does to st pc pc' end u stack (Err tr) (Err x) k h d g = (h.0, subst (λ x. TrapsAs p code world (here st pc stack) x st.ticks) h.1 d)
    matched_does to st pc pc' end u stack (Ok v) (Err x) k h d g = absurd h
    matched_does to st pc pc' end u stack (Err tr) (Ok next) k h d g = absurd h

    -- a right side of a scalar type gives its value
    pub side_does : (to : Exits) (st : State) → Well st → (r : Rhs) (pc n u : ℕ) → n ≤ 64 → is_right_side decls n u r ≡ true → is_scalar (slice_get p.types.types u) ≡ true → HasAt m.code pc (right_side_code target r pc) → pc + right_side_size p.types r < length m.code → (end : ℕ) (k : Value → State → Outcome) → ((v : Value) (next : State) → Well next → Typed p built next.store u v → Does to (here next (pc + right_side_size p.types r) (word p built next.store v ∷ [])) end (k v next)) → Does to (at st pc) end (rhs_in c r st k)
    side_does to st well (Plain e) pc n u low ty sc has within end k next =
        let fits = and_left (is_assignable decls u e) (has_depth n e) ty in
        let depth = and_right (is_assignable decls u e) (has_depth n e) ty in
        let expr = and_left (is_expr decls e.ty e.kind) _ fits in
        let same_type : e.ty ≡ u = eq_of (and_left (nat_eq e.ty u) _ (and_right (is_expr decls e.ty e.kind) _ fits)) in
        let sc_e : is_scalar (slice_get p.types.types e.ty) ≡ true = subst (λ t. is_scalar (slice_get p.types.types t) ≡ true) (sym same_type) sc in
        with_follows p built code world base callers us fd.ret at to (at st pc) end (Typed p built st.store e.ty) (λ v. here st (pc + expression_size p.types e.ty e.kind) (word p built st.store v ∷ [])) (value_in c e st) st (λ v. k v st) refl (given.values st well e pc 12 (n - 1) [] (omega arith) (omega (arith, low)) expr sc_e depth (omega arith) has within) (λ v hv. next v st well (subst (λ t. Typed p built st.store t v) same_type hv))
      where
        eq_of : {a b : ℕ} → nat_eq a b ≡ true → a ≡ b
        eq_of h = grind (arith, nat_tests, h)
    side_does to st well (Result_of d t) pc n u low ty sc has within end k next =
        let fits = and_right (is_call decls (n - 1) n d) _ ty in
        let same_type : t ≡ u = eq_of (and_left (nat_eq t u) _ fits) in
        let conv = and_right (nat_eq t u) _ fits in
        let nc = call_size p.types d in
        let cc_ = call_code target d pc in
        let cn = normal (ty_of p.types t) in
        let sum : pc + nc + length cn ≡ pc + (nc + length cn) = omega arith in
        let last = has_rest m.code pc nc cc_ cn (length-call target d pc) has in
        call_by to st well d.callee d.args pc (n - 1) n end (omega (arith, low)) low (and_left (is_call decls (n - 1) n d) _ ty) (has_front m.code pc cc_ cn has) (omega (arith, within)) (λ result next. with_gives (then_do (or_trap BadCode result) (converted p.types t)) next (λ v. k v next)) (λ r after ok good.
        let q = result_converts p built after.store (call_result p d.callee) t [] r good.is_typed (subst (λ t. converts (call_result p d.callee) (ty_of p.types t) ≡ true) (sym same_type) conv) in
        let w = word p built after.store q.value in
        let x = run p built after.store cn (w ∷ []) in
        let goes_on_ : Does to (here after (pc + nc) (w ∷ [])) end (with_gives (converted p.types t q.value) after (λ v. k v after)) = matched_does to after (pc + nc) (pc + nc + length cn) end t (w ∷ []) (converted p.types t q.value) x (λ v. k v after) q.matches (straight_does p code same world f m is callers after.store after.sends (map (word p built after.store) after.locals) after.ticks cn (pc + nc) (w ∷ []) last (matches_fine p built after.store t [] (converted p.types t q.value) x q.matches)) (λ v hv. subst (λ n. Does to (here after n (word p built after.store v ∷ [])) end (k v after)) (sym sum) (next v after ok (subst (λ t. Typed p built after.store t v) same_type hv))) in
        subst (λ r. Does to (here after (pc + nc) (option_to_list (option_map (word p built after.store) r))) end (with_gives (then_do (or_trap BadCode r) (converted p.types t)) after (λ v. k v after))) (sym q.is) goes_on_)
      where
        eq_of : {a b : ℕ} → nat_eq a b ≡ true → a ≡ b
        eq_of h = grind (arith, nat_tests, h)

    pub set_does : (x : ℕ) (r : Rhs) (st : State) (to : Exits) (pc n : ℕ) → n ≤ 64 → Well st → option_map_or (λ t. is_right_side decls n t r) (local_type decls x) false ≡ true → HasAt m.code pc (right_side_code target r pc ++ I.SetLocal x ∷ []) → pc + (right_side_size p.types r + 1) < length m.code → Does to (at st pc) (pc + (right_side_size p.types r + 1)) (rhs_in c r st (λ v next. Goes_on (with_local x v next)))
    set_does x r st to pc n low well ty has within = by (local_type decls x) refl ty
      where
        by : (o : Option ℕ) → local_type decls x ≡ o → option_map_or (λ t. is_right_side decls n t r) o false ≡ true → Does to (at st pc) (pc + (right_side_size p.types r + 1)) (rhs_in c r st (λ v next. Goes_on (with_local x v next)))
        by None e ty = absurd (cc)
        by (Some u) e ty =
            let known = given.local_known x u e in
            let nr = right_side_size p.types r in
            let cr = right_side_code target r pc in
            let sum : pc + nr + 1 ≡ pc + (nr + 1) = omega arith in
            side_does to st well r pc n u low ty (scalar_local p built starts code same world f m is callers fd call fuel base given st well x u known) (has_front m.code pc cr (I.SetLocal x ∷ []) has) (omega (arith, within)) (pc + (nr + 1)) (λ v next. Goes_on (with_local x v next)) (λ v next ok hv.
            let lt : x < length next.locals = omega (arith, within_all us x u known, length-all p built next.store us next.locals ok.locals) in
            (well_set p built starts code same world f m is callers fd call fuel base next x u v ok known hv, subst (λ n. Leads p code world (here next (pc + nr) (word p built next.store v ∷ [])) (at (with_local x v next) n)) sum (set_leads p built starts code same world f m is callers fd call fuel base next (pc + nr) x v lt (has_rest m.code pc nr cr (I.SetLocal x ∷ []) (length-right_side target r pc) has).0)))

    pub returns_does : (r : Option Rhs) (st : State) (to : Exits) (pc n : ℕ) → n ≤ 64 → Well st → is_returned decls n fd.ret r ≡ true → HasAt m.code pc (statement_code target (Return r) to pc) → pc + statement_size target (Return r) < length m.code → Does to (at st pc) (pc + statement_size target (Return r)) (run_statement (Return r) c st)
    returns_does None st to pc n low well ty has within = none fd.ret refl ty
      where
        none : (o : Option ℕ) → fd.ret ≡ o → is_returned decls n o None ≡ true → Does to (at st pc) (pc + 1) (Leaves (Returned None st.store st.sends st.ticks))
        none None e ty = return_does p built starts code same world f m is callers fd call fuel base given to st pc (pc + 1) well e has.0
        none (Some u) e ty = absurd (cc)
    returns_does (Some r) st to pc n low well ty has within = some fd.ret refl ty
      where
        some : (o : Option ℕ) → fd.ret ≡ o → is_returned decls n o (Some r) ≡ true → Does to (at st pc) (pc + (right_side_size p.types r + 1)) (rhs_in c r st (λ v next. Leaves (Returned (Some v) next.store next.sends next.ticks)))
        some None e ty = absurd (cc)
        some (Some u) e ty =
            let nr = right_side_size p.types r in
            let cr = right_side_code target r pc in
            let at_end = (has_rest m.code pc nr cr (I.ReturnValue ∷ []) (length-right_side target r pc) has).0 in
            side_does to st well r pc n u low (and_left (is_right_side decls n u r) _ ty) (given.returned u e) (has_front m.code pc cr (I.ReturnValue ∷ []) has) (omega (arith, within)) (pc + (nr + 1)) (λ v next. Leaves (Returned (Some v) next.store next.sends next.ticks)) (λ v next ok hv. value_returns p built starts code same world f m is callers fd call fuel base given to next (pc + nr) (pc + (nr + 1)) u v ok e hv at_end)

    -- a declaration: with no start the local is zero
    pub declare_does : (x : ℕ) (r : Option Rhs) (st : State) (to : Exits) (pc n : ℕ) → n ≤ 64 → Well st → option_map_or (is_declaration decls n r) (local_type decls x) false ≡ true → HasAt m.code pc (start_code target r pc ++ I.SetLocal x ∷ []) → pc + (start_size p.types r + 1) < length m.code → Does to (at st pc) (pc + (start_size p.types r + 1)) (declare c x r st)
    declare_does x (Some r) st to pc n low well ty has within = set_does x r st to pc n low well (starts_right (local_type decls x) ty) has within
      where
        starts_right : (o : Option ℕ) → option_map_or (is_declaration decls n (Some r)) o false ≡ true → option_map_or (λ t. is_right_side decls n t r) o false ≡ true
        starts_right None h = h
        starts_right (Some u) h = and_right (is_declared_scalar p.types n u) (is_right_side decls n u r) h
    declare_does x None st to pc n low well ty has within = by (local_type decls x) refl ty
      where
        by : (o : Option ℕ) → local_type decls x ≡ o → option_map_or (is_declaration decls n None) o false ≡ true → Does to (at st pc) (pc + (1 + 1)) (declare c x None st)
        by None e ty = absurd (cc)
        by (Some u) e ty =
            let known = given.local_known x u e in
            let z = zero_scalar p built st.store u (scalar_local p built starts code same world f m is callers fd call fuel base given st well x u known) in
            let v = zero_of p.types u in
            let lt : x < length st.locals = omega (arith, within_all us x u known, length-all p built st.store us st.locals well.locals) in
            let sum : pc + 1 + 1 ≡ pc + (1 + 1) = omega arith in
            let first : Leads p code world (at st pc) (here st (pc + 1) (word p built st.store v ∷ [])) = subst (λ n. Leads p code world (at st pc) (here st (pc + 1) (n ∷ []))) (sym z.is_zero) (const_leads p code world f m is callers st.store st.sends (map (word p built st.store) st.locals) st.ticks pc [] 0 given.high has.0) in
            let second = subst (λ n. Leads p code world (here st (pc + 1) (word p built st.store v ∷ [])) (at (with_local x v st) n)) sum (set_leads p built starts code same world f m is callers fd call fuel base st (pc + 1) x v lt has.1.0) in
            subst (λ o. Does to (at st pc) (pc + (1 + 1)) (with_gives (or_trap BadCode (option_map (zero_of p.types) o)) st (λ v. Goes_on (with_local x v st)))) (sym known) (well_set p built starts code same world f m is callers fd call fuel base st x u v well known z.is_typed, then_leads p code world first second)

    -- the condition of a `for`, which may be none
    pub loop_test_does : (to : Exits) (st : State) → Well st → (e : Option TypedExpr) (pc n leave : ℕ) → n ≤ 64 → is_loop_condition decls n e ≡ true → HasAt m.code pc (condition_code target e pc) → slice_get m.code (pc + condition_size p.types e) ≡ Some (I.JumpIfZero leave) → pc + condition_size p.types e < leave → leave < length m.code → (g : Bool → Outcome) → Does to (at st (pc + condition_size p.types e + 1)) leave (g true) → Does to (at st leave) leave (g false) → Does to (at st pc) leave (with_gives (test_of c e st) st g)
    loop_test_does to st well None pc n leave low ty has jump lt within g ra rb =
        leads_follows p built code world base callers us fd.ret at to (at st pc) (at st (pc + 1 + 1)) leave (g true) (then_leads p code world (const_leads p code world f m is callers st.store st.sends (map (word p built st.store) st.locals) st.ticks pc [] 1 given.high has.0) (other_leads p code world f m is callers st.store st.sends (map (word p built st.store) st.locals) st.ticks (pc + 1) leave 1 [] (λ e. absurd (cc)) within jump)) ra
    loop_test_does to st well (Some e) pc n leave low ty has jump lt within g ra rb =
        test_does p built starts code same world f m is callers fd call fuel base given to st well e pc n leave low ty has (omega (arith, lt, within)) g (λ v truth. by_truth p built starts code same world f m is callers fd call fuel base given to st v truth (pc + expression_size p.types e.ty e.kind) leave leave g lt within jump ra rb)
