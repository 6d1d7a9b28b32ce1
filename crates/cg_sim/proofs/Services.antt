-- Panics, frees, sends and allocations.
use Rattle.std.proofs.Common.{◌≡◌, ◌∙◌, refl, ap, sym, subst, Bool, true, false, ◌&&◌, cond, ℕ, zero, suc, ◌+◌, ◌-◌, ◌<◌, ◌≤◌, List, [], ◌∷◌, ◌++◌, length, map, Option, Some, None, Ok, Err, arith}
use Rattle.std.specs.Prelude.{slice_get, ℤ, pos, negsuc}
use Rattle.lu_spec.specs.Then.{then_do}
use Rattle.lu_base.specs.declared.trap.Trap.TheVariants.{BadCode, BadFree, Panic}
use Rattle.src_tree.specs.declared.value.Value.{Value, Int, Null, Pointer}
use Rattle.src_tree.specs.declared.value.Store.{Store}
use Rattle.src_tree.specs.declared.value.Object.{Object}
use Rattle.src_tree.specs.declared.value.ObjectKind.TheVariants.{Heap}
use Rattle.c_types.specs.declared.parts.Ty.{Ty}
use Rattle.c_types.specs.declared.parts.IntKind.TheVariants as K
use Rattle.bm_alu.specs.Words.{signed, of_signed}
use Rattle.src_meaning.specs.Integers.{is_held}
use Rattle.src_tree.specs.declared.program.Function.{Function}
use Rattle.src_tree.specs.declared.program.Program.{Program}
use Rattle.src_tree.specs.declared.expr.TypedExpr.{TypedExpr}
use Rattle.src_tree.specs.declared.stmt.Callee.TheVariants.{Send, Malloc, Calloc, Free, Panic as Panics}
use Rattle.src_meaning.specs.Objects.{Gives, or_trap, with_object, with_elements, is_live, is_live_heap, zero_object, append_object, allocated, next_address, has_room as has_room_for, freed, freed_object}
use Rattle.lu_base.specs.Sending.{sent}
use Rattle.src_meaning.specs.ValidTypes.{is_scalar, is_int, is_long_long, is_void_pointer, ty as ty_of}
use Rattle.src_meaning.specs.ValidExpression.{Declarations, is_expr}
use Rattle.src_meaning.specs.ValidStatement.{has_depth, is_only_argument, is_empty, names_site}
use Rattle.src_meaning.specs.Call.{State, Outcome, Callee, Context, with_gives, value_in, values_in, call_in, with_store, send, perform}
use Rattle.src_meaning.proofs.LayoutLengths.{and_left, and_right}
use Rattle.bm_isa.specs.declared.instr.Instr.TheVariants as I
use Rattle.bm_code.specs.declared.code.MachineCode.{MachineCode}
use Rattle.bm_code.specs.declared.code.MachineFunction.{MachineFunction}
use Rattle.lu_base.specs.declared.world.World.{World}
use Rattle.bm_code.specs.Process.{Frame, Running, Process}
use Rattle.bm_code.specs.Frames.{some_or}
use Rattle.bm_code.specs.Transfers.{trap}
use Rattle.bm_code.specs.Services.{new_row, can_allocate, allocate as allocate_machine, send as send_message, answered}
use Rattle.cg_expr.specs.Sizes.{expression_size}
use Rattle.cg_expr.specs.Code.{Target, expression_code}
use Rattle.cg_stmt.specs.StatementCode.{arguments_code, call_code}
use Rattle.cg_stmt.specs.StatementSizes.{call_size, arguments_size}
use Rattle.cg_stmt.specs.declared.statements.Exits.{Exits}
use Rattle.cg_state.specs.Runs.{HasAt, Point, Leads}
use Rattle.cg_state.proofs.HasCode.{has_front, has_rest}
use Rattle.cg_sim_expr.proofs.Here.{frame, process_here, on, goes, fails, const_leads}
use Rattle.c_types.specs.Refusal.{IsBuilt}
use Rattle.cg_state.proofs.Typed.{Typed, an_int, APointer, null, to as at_object, a_void_pointer, object_of}
use Rattle.cg_state.proofs.Frees.{free_inside, free_other, free_live}
use Rattle.cg_sim_expr.proofs.Matching.{word}
use Rattle.src_laws.proofs.Extended.{extends_more, Extends, extends_set, extends_further}
use Rattle.cg_state.proofs.Allocs.{none_is, room_is, zero_is_none, many_are_none, made_is, word_is as new_word, new_address, positive_word, negative_word}
use Rattle.cg_sim.proofs.Sends.{signed_back, answer_held}
use Rattle.cg_sim.proofs.Kept.{kept_all}
use Rattle.cg_state.specs.Represents.{rows_of}
use Rattle.cg_sim.proofs.Ends.{leads_follows, with_follows}
use Rattle.cg_stmt.proofs.CodeLengths.{length-arguments}
use Rattle.cg_sim.proofs.Stacks.{ints_scalar, int_type, voids_scalar, void_type, longs_scalar, long_type, int_back}
use Rattle.cg_sim.proofs.UnderWay.{SiteOf}
use Rattle.cg_sim.proofs.UnderWay as under

module _ (p : Program) (built : IsBuilt p.types) (starts : List ℕ) (code : MachineCode) (same : code.types ≡ p.types) (world : World) (f : ℕ) (m : MachineFunction) (is : slice_get code.functions f ≡ Some m) (callers : List Frame) (fd : Function) (call : Callee) (fuel : ℕ) (base : Store) where
  abbrev target : Target
  target = under.target p built starts code same world f m is callers fd call fuel base

  abbrev decls : Declarations
  decls = under.decls p built starts code same world f m is callers fd call fuel base

  abbrev us : List ℕ
  us = under.us p built starts code same world f m is callers fd call fuel base

  abbrev c : Context
  c = under.c p built starts code same world f m is callers fd call fuel base

  abbrev here : State → ℕ → List ℕ → Point
  here = under.here p built starts code same world f m is callers fd call fuel base

  abbrev at : State → ℕ → Point
  at = under.at p built starts code same world f m is callers fd call fuel base

  abbrev Well : State → Type 0
  Well = under.Well p built starts code same world f m is callers fd call fuel base

  abbrev Does : Exits → Point → ℕ → Outcome → Type 0
  Does = under.Does p built starts code same world f m is callers fd call fuel base

  abbrev Given : Type 0
  Given = under.Given p built starts code same world f m is callers fd call fuel base

  module _ (given : Given) where
    -- a call with one argument
    pub one_argument : (to : Exits) (st : State) → Well st → (e : TypedExpr) (pc n end : ℕ) (test : Option Ty → Bool) → n ≤ 64 → ((o : Option Ty) → test o ≡ true → is_scalar o ≡ true) → is_only_argument decls n test (e ∷ []) ≡ true → HasAt m.code pc (arguments_code target (e ∷ []) pc) → pc + arguments_size p.types (e ∷ []) < length m.code → (k : List Value → Outcome) → ((v : Value) → Typed p built st.store e.ty v → test (ty_of p.types e.ty) ≡ true → Does to (here st (pc + arguments_size p.types (e ∷ [])) (word p built st.store v ∷ [])) end (k (v ∷ []))) → Does to (at st pc) end (with_gives (values_in c (e ∷ []) st) st k)
    one_argument to st well e pc n end test low scalars ty has within k next =
        let expr = and_left (is_expr decls e.ty e.kind) _ ty in
        let more = and_right (is_expr decls e.ty e.kind) _ ty in
        let fits = and_left (test (ty_of p.types e.ty)) (has_depth n e) more in
        let depth = and_right (test (ty_of p.types e.ty)) (has_depth n e) more in
        let ne = expression_size p.types e.ty e.kind in
        let sum : pc + ne ≡ pc + (ne + 0) = omega arith in
        subst (Does to (at st pc) end) (sym (gives_one (value_in c e st))) (with_follows p built code world base callers us fd.ret at to (at st pc) end (Typed p built st.store e.ty) (λ v. here st (pc + ne) (word p built st.store v ∷ [])) (value_in c e st) st (λ v. k (v ∷ [])) refl (given.values st well e pc 12 (n - 1) [] (omega arith) (omega (arith, low)) expr (scalars (ty_of p.types e.ty) fits) depth (omega arith) (has_front m.code pc (expression_code target e.ty e.kind pc) [] has) (omega (arith, within))) (λ v hv. subst (λ n. Does to (here st n (word p built st.store v ∷ [])) end (k (v ∷ []))) (sym sum) (next v hv fits)))
      where
        gives_one : (r : Gives Value) → with_gives (then_do r (λ v. Ok (v ∷ []))) st k ≡ with_gives r st (λ v. k (v ∷ []))
        gives_one (Ok v) = refl
        gives_one (Err tr) = refl

    -- a panic
    pub panic_does : (to : Exits) (st : State) → Well st → (es : List TypedExpr) (pc n end : ℕ) → n ≤ 64 → is_only_argument decls n is_int es ≡ true → HasAt m.code pc (arguments_code target es pc ++ I.Panic ∷ []) → pc + arguments_size p.types es + 1 < length m.code → (k : Option Value → State → Outcome) → Does to (at st pc) end (with_gives (values_in c es st) st (λ vs. perform c Panics vs st k))
    panic_does to st well [] pc n end low ty has within k = absurd (cc)
    panic_does to st well (e ∷ x ∷ es) pc n end low ty has within k = absurd (cc)
    panic_does to st well (e ∷ []) pc n end low ty has within k =
        let ca = arguments_code target (e ∷ []) pc in
        let na = arguments_size p.types (e ∷ []) in
        let last = has_rest m.code pc na ca (I.Panic ∷ []) (length-arguments target (e ∷ []) pc) has in
        one_argument to st well e pc n end is_int low ints_scalar ty (has_front m.code pc ca (I.Panic ∷ []) has) (omega (arith, within)) (λ vs. perform c Panics vs st k) (λ v hv int.
        let kind = int_type (ty_of p.types e.ty) int in
        let i = an_int p built st.store e.ty K.Int v kind hv in
        subst (λ v. Does to (here st (pc + na) (word p built st.store v ∷ [])) end (perform c Panics (v ∷ []) st k)) (sym i.is) (tt, fails p code world f m is callers st.store st.sends (map (word p built st.store) st.locals) st.ticks (pc + na) (of_signed i.number ∷ []) I.Panic (Panic i.number) last.0 (ap (λ z. trap (Panic z) (process_here p code world f m is callers st.store st.sends (map (word p built st.store) st.locals) st.ticks (pc + na) (of_signed i.number ∷ []))) (int_back i.number i.held))))

    -- a free of a pointer
    pub freed_does : (to : Exits) (st : State) → Well st → (pc end : ℕ) (v : Value) → APointer p built st.store v → slice_get m.code pc ≡ Some I.Free → (k : Option Value → State → Outcome) → ((next : State) → Well next → Does to (at next (pc + 1)) end (k None next)) → Does to (here st pc (word p built st.store v ∷ [])) end (with_gives (freed st.store v) st (λ store. k None (with_store store st)))
    freed_does to st well pc end v null has k next =
        let ws = map (word p built st.store) st.locals in
        leads_follows p built code world base callers us fd.ret at to (here st pc (0 ∷ [])) (at st (pc + 1)) end (k None st) (goes p code world f m is callers st.store st.store st.sends st.sends ws ws st.ticks pc (pc + 1) (0 ∷ []) [] I.Free has refl) (next st well)
    freed_does to st well pc end v (at_object o (suc j) h) has k next =
        let x = object_of p built st.store o (suc j) h in
        let w = word p built st.store (Pointer o (suc j)) in
        let ws = map (word p built st.store) st.locals in
        (tt, fails p code world f m is callers st.store st.sends ws st.ticks pc (w ∷ []) I.Free BadFree has (free_inside p st.store o x.object x.is st.sends (Running (frame p code world f m is callers ws pc (w ∷ [])) callers) st.ticks (frame p code world f m is callers ws pc (w ∷ [])) callers [] j x.within))
    freed_does to st well pc end v (at_object o zero h) has k next =
        let x = object_of p built st.store o 0 h in
        subst (λ q. Does to start end (with_gives (then_do (or_trap BadFree q) (freed_object st.store o)) st (λ store. k None (with_store store st)))) (sym x.is) (by x.object x.is)
      where
        pw : ℕ
        pw = word p built st.store (Pointer o 0)

        ws : List ℕ
        ws = map (word p built st.store) st.locals

        start : Point
        start = here st pc (pw ∷ [])

        fr : Frame
        fr = frame p code world f m is callers ws pc (pw ∷ [])

        elements : (x : Object) → is_live x ≡ true → (vs : List Value) × (x.elements ≡ Some vs)
        elements x h = by x.elements refl h
          where
            by : (l : Option (List Value)) → x.elements ≡ l → elim l as (λ _. Bool) [ None ↦ false | Some elements ↦ true ] ≡ true → (vs : List Value) × (x.elements ≡ Some vs)
            by None e h = absurd (cc)
            by (Some vs) e h = (vs, e)

        by : (x : Object) → slice_get st.store.objects o ≡ Some x → Does to start end (with_gives (cond (is_live_heap x) (Ok (with_object st.store o (with_elements x None))) (Err BadFree)) st (λ store. k None (with_store store st)))
        by x e = at_flag (is_live_heap x) refl
          where
            at_flag : (b : Bool) → is_live_heap x ≡ b → Does to start end (with_gives (cond b (Ok (with_object st.store o (with_elements x None))) (Err BadFree)) st (λ store. k None (with_store store st)))
            at_flag false q = (tt, fails p code world f m is callers st.store st.sends ws st.ticks pc (pw ∷ []) I.Free BadFree has (free_other p st.store o x e st.sends (Running fr callers) st.ticks fr callers [] q))
            at_flag true q =
                let vs = elements x (and_left (is_live x) _ q) in
                let after = with_object st.store o (with_elements x None) in
                let ext : Extends st.store.objects after.objects = extends_set st.store.objects o x None e in
                let all = kept_all p built st.store after ext us st.locals well.locals in
                let then_ : State = with_store after st in
                let ok : Well then_ = record { store = given.frees st.store well.store o x e q; kept = extends_further base.objects st.store.objects after.objects well.kept ext; locals = all.0 } in
                let first = goes p code world f m is callers st.store after st.sends st.sends ws ws st.ticks pc (pc + 1) (pw ∷ []) [] I.Free has (free_live p st.store o x e st.sends (Running fr callers) st.ticks fr callers [] vs.0 vs.1 q) in
                let second : Leads p code world start (at then_ (pc + 1)) = subst (λ ws. Leads p code world start (on p code world f m is callers after st.sends ws st.ticks (pc + 1) [])) (sym all.1) first in
                leads_follows p built code world base callers us fd.ret at to start (at then_ (pc + 1)) end (k None then_) second (next then_ ok)

    pub free_does : (to : Exits) (st : State) → Well st → (es : List TypedExpr) (pc n end : ℕ) → n ≤ 64 → is_only_argument decls n is_void_pointer es ≡ true → HasAt m.code pc (arguments_code target es pc ++ I.Free ∷ []) → pc + arguments_size p.types es + 1 < length m.code → (k : Option Value → State → Outcome) → ((next : State) → Well next → Does to (at next (pc + arguments_size p.types es + 1)) end (k None next)) → Does to (at st pc) end (with_gives (values_in c es st) st (λ vs. perform c Free vs st k))
    free_does to st well [] pc n end low ty has within k next = absurd (cc)
    free_does to st well (e ∷ x ∷ es) pc n end low ty has within k next = absurd (cc)
    free_does to st well (e ∷ []) pc n end low ty has within k next =
        let ca = arguments_code target (e ∷ []) pc in
        let na = arguments_size p.types (e ∷ []) in
        let last = has_rest m.code pc na ca (I.Free ∷ []) (length-arguments target (e ∷ []) pc) has in
        one_argument to st well e pc n end is_void_pointer low voids_scalar ty (has_front m.code pc ca (I.Free ∷ []) has) (omega (arith, within)) (λ vs. perform c Free vs st k) (λ v hv void.
        freed_does to st well (pc + na) end v (a_void_pointer p built st.store e.ty v (void_type (ty_of p.types e.ty) void) hv) last.0 k next)

    -- `send` of a number
    pub sent_does : (to : Exits) (st : State) → Well st → (pc end : ℕ) (z : ℤ) → is_held K.Int z ≡ true → slice_get m.code pc ≡ Some I.SendMessage → (k : Option Value → State → Outcome) → ((v : ℤ) (next : State) → Well next → is_held K.Int v ≡ true → Does to (here next (pc + 1) (of_signed v ∷ [])) end (k (Some (Int v)) next)) → Does to (here st pc (of_signed z ∷ [])) end (send c (Int z ∷ []) st k)
    sent_does to st well pc end z held has k next =
        let ws = map (word p built st.store) st.locals in
        let fr = frame p code world f m is callers ws pc (of_signed z ∷ []) in
        let q = process_here p code world f m is callers st.store st.sends ws st.ticks pc (of_signed z ∷ []) in
        let x = given.messages st.store well.store st.sends (Running fr callers) st.ticks in
        let r = sent world st.sends z x.0 in
        let after : State = record st { sends = r.1 } in
        let ok : Well after = record { store = well.store; kept = well.kept; locals = well.locals } in
        let act_is = ap (λ o. some_or o (trap BadCode q) (send_message world q fr callers [] (signed (of_signed z)))) x.3 ∙ (ap (λ z. send_message world q fr callers [] z x.1) (signed_back z held) ∙ ap (λ m. answered q fr callers [] (sent world st.sends z m)) x.4) in
        subst (λ g. Does to (here st pc (of_signed z ∷ [])) end (with_gives g st (λ m. let r = sent world st.sends z m in k (Some (Int r.0)) (record st { sends = r.1 })))) (sym x.2) (leads_follows p built code world base callers us fd.ret at to (here st pc (of_signed z ∷ [])) (here after (pc + 1) (of_signed r.0 ∷ [])) end (k (Some (Int r.0)) after) (goes p code world f m is callers st.store st.store st.sends r.1 ws ws st.ticks pc (pc + 1) (of_signed z ∷ []) (of_signed r.0 ∷ []) I.SendMessage has act_is) (next r.0 after ok (answer_held world st.sends z x.0)))

    pub send_does : (to : Exits) (st : State) → Well st → (es : List TypedExpr) (pc n end : ℕ) → n ≤ 64 → is_only_argument decls n is_int es ≡ true → HasAt m.code pc (arguments_code target es pc ++ I.SendMessage ∷ []) → pc + arguments_size p.types es + 1 < length m.code → (k : Option Value → State → Outcome) → ((v : ℤ) (next : State) → Well next → is_held K.Int v ≡ true → Does to (here next (pc + arguments_size p.types es + 1) (of_signed v ∷ [])) end (k (Some (Int v)) next)) → Does to (at st pc) end (with_gives (values_in c es st) st (λ vs. perform c Send vs st k))
    send_does to st well [] pc n end low ty has within k next = absurd (cc)
    send_does to st well (e ∷ x ∷ es) pc n end low ty has within k next = absurd (cc)
    send_does to st well (e ∷ []) pc n end low ty has within k next =
        let ca = arguments_code target (e ∷ []) pc in
        let na = arguments_size p.types (e ∷ []) in
        let last = has_rest m.code pc na ca (I.SendMessage ∷ []) (length-arguments target (e ∷ []) pc) has in
        one_argument to st well e pc n end is_int low ints_scalar ty (has_front m.code pc ca (I.SendMessage ∷ []) has) (omega (arith, within)) (λ vs. perform c Send vs st k) (λ v hv int.
        let i = an_int p built st.store e.ty K.Int v (int_type (ty_of p.types e.ty) int) hv in
        subst (λ v. Does to (here st (pc + na) (word p built st.store v ∷ [])) end (perform c Send (v ∷ []) st k)) (sym i.is) (sent_does to st well (pc + na) end i.number i.held last.0 k next))

    -- an allocation of so many elements
    pub alloc_does : (to : Exits) (st : State) → Well st → (site : ℕ) (d : SiteOf p code site) (z : ℤ) (pc end : ℕ) → is_held K.LongLong z ≡ true → slice_get m.code pc ≡ Some (I.Allocate site) → (k : Option Value → State → Outcome) → ((v : Value) (next : State) → Well next → APointer p built next.store v → Does to (here next (pc + 1) (word p built next.store v ∷ [])) end (k (Some v) next)) → Does to (here st pc (of_signed z ∷ [])) end (k (Some (allocated p.types st.store site d.site.elem z).0) (with_store (allocated p.types st.store site d.site.elem z).1 st))
    alloc_does to st well site d z pc end held has k next = by z held
      where
        ws : List ℕ
        ws = map (word p built st.store) st.locals

        fr : ℤ → Frame
        fr z = frame p code world f m is callers ws pc (of_signed z ∷ [])

        before : ℤ → Process
        before z = process_here p code world f m is callers st.store st.sends ws st.ticks pc (of_signed z ∷ [])

        start : ℤ → Point
        start z = here st pc (of_signed z ∷ [])

        acts_so : (z : ℤ) (n : ℕ) → of_signed z ≡ n → some_or (slice_get code.sites site) (trap BadCode (before z)) (λ s. allocate_machine (before z) (fr z) callers [] (new_row code (next_address p.types st.store) site s.elem (of_signed z))) ≡ allocate_machine (before z) (fr z) callers [] (new_row code (next_address p.types st.store) site d.site.elem n)
        acts_so z n e =
            ap (λ o. some_or o (trap BadCode (before z)) (λ s. allocate_machine (before z) (fr z) callers [] (new_row code (next_address p.types st.store) site s.elem (of_signed z)))) d.is_machine
            ∙ (ap (λ el. allocate_machine (before z) (fr z) callers [] (new_row code (next_address p.types st.store) site el (of_signed z))) d.elem
            ∙ ap (λ w. allocate_machine (before z) (fr z) callers [] (new_row code (next_address p.types st.store) site d.site.elem w)) e)

        gives_null : (z : ℤ) (n : ℕ) → of_signed z ≡ n → can_allocate (rows_of p st.store) (new_row code (next_address p.types st.store) site d.site.elem n) ≡ false → Does to (start z) end (k (Some Null) st)
        gives_null z n e full =
            leads_follows p built code world base callers us fd.ret at to (start z) (here st (pc + 1) (0 ∷ [])) end (k (Some Null) st) (goes p code world f m is callers st.store st.store st.sends st.sends ws ws st.ticks pc (pc + 1) (of_signed z ∷ []) (0 ∷ []) (I.Allocate site) has (acts_so z n e ∙ none_is p code same st.store site d.site.elem st.sends (Running (fr z) callers) st.ticks (fr z) callers [] n full)) (next Null st well null)

        made : ℕ → Object
        made n = zero_object p.types (Heap site) d.site.elem (suc n)

        pick : ℕ → Bool → Value × Store
        pick n b = cond b (Pointer (length st.store.objects) 0, append_object st.store (made n)) (Null, st.store)

        some : (n : ℕ) → is_held K.LongLong (pos (suc n)) ≡ true → (b : Bool) → has_room_for p.types st.store (made n) ≡ b → Does to (start (pos (suc n))) end (k (Some (pick n b).0) (with_store (pick n b).1 st))
        some n held false full = gives_null (pos (suc n)) (suc n) (positive_word (suc n) held) (room_is p code same st.store site d.site.elem st.sends (Running (fr (pos (suc n))) callers) st.ticks (fr (pos (suc n))) callers [] n ∙ full)
        some n held true room =
            let z = pos (suc n) in
            let x = made n in
            let after = append_object st.store x in
            let grown = given.grows st.store well.store site d n room in
            let ext : Extends st.store.objects after.objects = extends_more st.store.objects (x ∷ []) in
            let all = kept_all p built st.store after ext us st.locals well.locals in
            let then_ : State = with_store after st in
            let ok : Well then_ = record { store = grown.0; kept = extends_further base.objects st.store.objects after.objects well.kept ext; locals = all.0 } in
            let v = Pointer (length st.store.objects) 0 in
            let first = goes p code world f m is callers st.store after st.sends st.sends ws ws st.ticks pc (pc + 1) (of_signed z ∷ []) (next_address p.types st.store ∷ []) (I.Allocate site) has (acts_so z (suc n) (positive_word (suc n) held) ∙ made_is p code same st.store site d.site.elem st.sends (Running (fr z) callers) st.ticks (fr z) callers [] n grown.1 room) in
            let second : Leads p code world (start z) (here then_ (pc + 1) (next_address p.types st.store ∷ [])) = subst (λ ws. Leads p code world (start z) (on p code world f m is callers after st.sends ws st.ticks (pc + 1) (next_address p.types st.store ∷ []))) (sym all.1) first in
            let third : Leads p code world (start z) (here then_ (pc + 1) (word p built after v ∷ [])) = subst (λ n. Leads p code world (start z) (here then_ (pc + 1) (n ∷ []))) (sym (new_word p code same st.store site d.site.elem st.sends (Running (fr z) callers) st.ticks (fr z) callers [] x)) second in
            leads_follows p built code world base callers us fd.ret at to (start z) (here then_ (pc + 1) (word p built after v ∷ [])) end (k (Some v) then_) third (next v then_ ok (at_object (length st.store.objects) 0 (new_address p code same st.store site d.site.elem st.sends (Running (fr z) callers) st.ticks (fr z) callers [] x)))

        by : (z : ℤ) → is_held K.LongLong z ≡ true → Does to (start z) end (k (Some (allocated p.types st.store site d.site.elem z).0) (with_store (allocated p.types st.store site d.site.elem z).1 st))
        by (pos zero) held = gives_null (pos 0) 0 (positive_word 0 held) (zero_is_none p code same st.store site d.site.elem st.sends (Running (fr (pos 0)) callers) st.ticks (fr (pos 0)) callers [])
        by (pos (suc n)) held = some n held (has_room_for p.types st.store (made n)) refl
        by (negsuc n) held = gives_null (negsuc n) (of_signed (negsuc n)) refl (many_are_none p code same st.store site d.site.elem st.sends (Running (fr (negsuc n)) callers) st.ticks (fr (negsuc n)) callers [] (of_signed (negsuc n)) d.some (negative_word n held))

    pub malloc_does : (to : Exits) (st : State) → Well st → (site : ℕ) (es : List TypedExpr) (pc end : ℕ) → names_site p site && is_empty es ≡ true → HasAt m.code pc (call_code target (record { callee = Malloc site; args = es }) pc) → (k : Option Value → State → Outcome) → ((v : Value) (next : State) → Well next → APointer p built next.store v → Does to (here next (pc + call_size p.types (record { callee = Malloc site; args = es })) (word p built next.store v ∷ [])) end (k (Some v) next)) → Does to (at st pc) end (call_in c (record { callee = Malloc site; args = es }) st k)
    malloc_does to st well site (e ∷ es) pc end ty has k next = absurd (no_more (and_right (names_site p site) false ty))
      where
        no_more : false ≡ true → ⊥
        no_more h = absurd (cc)
    malloc_does to st well site [] pc end ty has k next =
        let d = given.sites site (and_left (names_site p site) true ty) in
        let there : pc + 1 + 1 ≡ pc + (1 + 0 + 1) = omega arith in
        subst (λ o. Does to (at st pc) end (with_gives (or_trap BadCode o) st (λ d. k (Some (allocated p.types st.store site d.elem (pos 1)).0) (with_store (allocated p.types st.store site d.elem (pos 1)).1 st)))) (sym d.is) (leads_follows p built code world base callers us fd.ret at to (at st pc) (here st (pc + 1) (1 ∷ [])) end (k (Some (allocated p.types st.store site d.site.elem (pos 1)).0) (with_store (allocated p.types st.store site d.site.elem (pos 1)).1 st)) (const_leads p code world f m is callers st.store st.sends (map (word p built st.store) st.locals) st.ticks pc [] 1 given.high has.0) (alloc_does to st well site d (pos 1) (pc + 1) end refl has.1.0 k (λ v after ok q. subst (λ n. Does to (here after n (word p built after.store v ∷ [])) end (k (Some v) after)) (sym there) (next v after ok q))))

    pub calloc_does : (to : Exits) (st : State) → Well st → (site : ℕ) (es : List TypedExpr) (pc n end : ℕ) → n ≤ 64 → names_site p site && is_only_argument decls n is_long_long es ≡ true → HasAt m.code pc (arguments_code target es pc ++ I.Allocate site ∷ []) → pc + arguments_size p.types es + 1 < length m.code → (k : Option Value → State → Outcome) → ((v : Value) (next : State) → Well next → APointer p built next.store v → Does to (here next (pc + arguments_size p.types es + 1) (word p built next.store v ∷ [])) end (k (Some v) next)) → Does to (at st pc) end (with_gives (values_in c es st) st (λ vs. perform c (Calloc site) vs st k))
    calloc_does to st well site [] pc n end low ty has within k next = absurd (no_more (and_right (names_site p site) false ty))
      where
        no_more : false ≡ true → ⊥
        no_more h = absurd (cc)
    calloc_does to st well site (e ∷ x ∷ es) pc n end low ty has within k next = absurd (no_more (and_right (names_site p site) false ty))
      where
        no_more : false ≡ true → ⊥
        no_more h = absurd (cc)
    calloc_does to st well site (e ∷ []) pc n end low ty has within k next =
        let ca = arguments_code target (e ∷ []) pc in
        let na = arguments_size p.types (e ∷ []) in
        let last = has_rest m.code pc na ca (I.Allocate site ∷ []) (length-arguments target (e ∷ []) pc) has in
        let d = given.sites site (and_left (names_site p site) _ ty) in
        one_argument to st well e pc n end is_long_long low longs_scalar (and_right (names_site p site) _ ty) (has_front m.code pc ca (I.Allocate site ∷ []) has) (omega (arith, within)) (λ vs. perform c (Calloc site) vs st k) (λ v hv long.
        let i = an_int p built st.store e.ty K.LongLong v (long_type (ty_of p.types e.ty) long) hv in
        subst (λ v. Does to (here st (pc + na) (word p built st.store v ∷ [])) end (perform c (Calloc site) (v ∷ []) st k)) (sym i.is) (subst (λ o. Does to (here st (pc + na) (of_signed i.number ∷ [])) end (with_gives (or_trap BadCode o) st (λ d. k (Some (allocated p.types st.store site d.elem i.number).0) (with_store (allocated p.types st.store site d.elem i.number).1 st)))) (sym d.is) (alloc_does to st well site d i.number (pc + na) end i.held last.0 k next)))
