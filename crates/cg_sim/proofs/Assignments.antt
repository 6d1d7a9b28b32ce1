-- Assignments of scalars to places.
use Rattle.std.proofs.Common.{◌≡◌, refl, ap, sym, subst, Bool, true, false, cond, ℕ, ◌+◌, ◌<◌, ◌≤◌, inl, inr, List, [], ◌∷◌, ◌++◌, length, map, Some, Ok, Err, arith}
use Rattle.std.specs.Prelude.{slice_get}
use Rattle.lu_spec.specs.Then.{then_do}
use Rattle.src_tree.specs.declared.value.Value.{Value}
use Rattle.src_tree.specs.declared.value.Store.{Store}
use Rattle.c_types.specs.Layout.{size_of}
use Rattle.src_tree.specs.declared.program.Function.{Function}
use Rattle.src_tree.specs.declared.program.Program.{Program}
use Rattle.src_tree.specs.declared.expr.TypedPlace.{TypedPlace}
use Rattle.src_tree.specs.declared.stmt.Rhs.{Rhs}
use Rattle.src_tree.specs.declared.stmt.TypedStmt.{Assign}
use Rattle.src_meaning.specs.Objects.{Gives, Place, store_with}
use Rattle.src_meaning.specs.Assignment.{Assignee, assigned_place, assigned}
use Rattle.src_meaning.specs.ValidDepth.{spot, unary_rank, place_keeps_bounds}
use Rattle.src_meaning.specs.ValidTypes.{is_scalar, ty as ty_of}
use Rattle.src_meaning.specs.ValidExpression.{Declarations, is_place, is_target}
use Rattle.src_meaning.specs.ValidStatement.{is_statement, is_right_side}
use Rattle.src_meaning.specs.Call.{State, Outcome, Goes_on, Callee, Context, with_gives, with_store, scope_of, assign, run_statement}
use Rattle.src_meaning.proofs.LayoutLengths.{and_left, and_right}
use Rattle.bm_isa.specs.declared.instr.Instr.TheVariants as I
use Rattle.bm_code.specs.declared.code.MachineCode.{MachineCode}
use Rattle.bm_code.specs.declared.code.MachineFunction.{MachineFunction}
use Rattle.lu_base.specs.declared.world.World.{World}
use Rattle.bm_code.specs.Process.{Frame}
use Rattle.cg_expr.specs.Pieces.{scalar_number, pointer_size}
use Rattle.cg_expr.specs.Sizes.{place_size}
use Rattle.cg_expr.specs.Code.{Target, place_code}
use Rattle.cg_stmt.specs.StatementCode.{store_last, right_side_code, statement_code}
use Rattle.cg_stmt.specs.StatementSizes.{right_side_size, statement_size}
use Rattle.cg_stmt.specs.declared.statements.Exits.{Exits}
use Rattle.cg_state.specs.Runs.{HasAt, Point, Leads}
use Rattle.cg_state.proofs.HasCode.{has_front, has_rest}
use Rattle.cg_sim_expr.proofs.Here.{on}
use Rattle.c_types.specs.Refusal.{IsBuilt}
use Rattle.cg_state.proofs.Typed.{Typed}
use Rattle.cg_state.proofs.Places.{IsPart, place_word}
use Rattle.cg_state.proofs.Stores.{replaced, store_after, store_is}
use Rattle.cg_sim_expr.proofs.Steps.{IsPlaced}
use Rattle.cg_sim.proofs.Assign.{store_leads}
use Rattle.cg_sim_expr.proofs.Matching.{word, a_scalar}
use Rattle.src_laws.proofs.Extended.{Extends, extends_set, extends_further}
use Rattle.cg_sim.proofs.Kept.{kept_scalar, kept_all}
use Rattle.src_meaning.specs.Store.{IsStore}
use Rattle.cg_sim.proofs.Ends.{with_follows}
use Rattle.cg_expr.proofs.Lengths.{length-place}
use Rattle.cg_stmt.proofs.CodeLengths.{length-right_side}
use Rattle.cg_sim.proofs.UnderWay.{is_simple_target}
use Rattle.cg_sim.proofs.UnderWay as under
use Rattle.cg_sim.proofs.RightSides.{side_does}

module _ (p : Program) (built : IsBuilt p.types) (starts : List ℕ) (code : MachineCode) (same : code.types ≡ p.types) (world : World) (f : ℕ) (m : MachineFunction) (is : slice_get code.functions f ≡ Some m) (callers : List Frame) (fd : Function) (call : Callee) (fuel : ℕ) (base : Store) where
  abbrev target : Target
  target = under.target p built starts code same world f m is callers fd call fuel base

  abbrev decls : Declarations
  decls = under.decls p built starts code same world f m is callers fd call fuel base

  abbrev us : List ℕ
  us = under.us p built starts code same world f m is callers fd call fuel base

  abbrev c : Context
  c = under.c p built starts code same world f m is callers fd call fuel base

  abbrev here : State → ℕ → List ℕ → Point
  here = under.here p built starts code same world f m is callers fd call fuel base

  abbrev at : State → ℕ → Point
  at = under.at p built starts code same world f m is callers fd call fuel base

  abbrev Well : State → Type 0
  Well = under.Well p built starts code same world f m is callers fd call fuel base

  abbrev Does : Exits → Point → ℕ → Outcome → Type 0
  Does = under.Does p built starts code same world f m is callers fd call fuel base

  abbrev word_in : Store → Place → ℕ
  word_in = under.word_in p built starts code same world f m is callers fd call fuel base

  abbrev GoodPlace : State → ℕ → Assignee → Type 0
  GoodPlace = under.GoodPlace p built starts code same world f m is callers fd call fuel base

  abbrev entered_at : State → ℕ → List ℕ → Assignee → Point
  entered_at = under.entered_at p built starts code same world f m is callers fd call fuel base

  abbrev Given : Type 0
  Given = under.Given p built starts code same world f m is callers fd call fuel base

  module _ (given : Given) where
    -- a scalar that is stored at a place outside unions
    pub stored_does : (to : Exits) (next : State) (ok : Well next) (u : ℕ) (a : Place) (pc end : ℕ) (v : Value) → IsPart p built next.store ok.store u a → Typed p built next.store u v → is_scalar (slice_get p.types.types u) ≡ true → slice_get m.code pc ≡ Some (I.Store (scalar_number (pointer_size p.types) (ty_of p.types u))) → pc + 1 ≡ end → Does to (here next pc (place_word p built next.store ok.store a ∷ word p built next.store v ∷ [])) end (with_gives (store_with next.store a v) next (λ store. Goes_on (with_store store next)))
    stored_does to next ok u a pc end v h hv sc has e =
        let after = store_after p built next.store ok.store u a h v hv in
        let start = here next pc (place_word p built next.store ok.store a ∷ word p built next.store v ∷ []) in
        let ext : Extends next.store.objects after.objects = extends_set next.store.objects a.object h.object (Some ((replaced p built next.store ok.store u a h).put v)) h.at in
        let all = kept_all p built next.store after ext us next.locals ok.locals in
        let first = store_leads p built next.store ok.store u a h v hv sc code world f m is callers next.sends (map (word p built next.store) next.locals) next.ticks pc [] has in
        let second : Leads p code world start (at (with_store after next) (pc + 1)) = subst (λ ws. Leads p code world start (on p code world f m is callers after next.sends ws next.ticks (pc + 1) [])) (sym all.1) first in
        subst (λ g. Does to start end (with_gives g next (λ store. Goes_on (with_store store next)))) (sym (store_is p built next.store ok.store u a h v hv)) (record { store = given.stores next.store ok.store u a h v hv; kept = extends_further base.objects next.store.objects after.objects ok.kept ext; locals = all.0 }, subst (λ n. Leads p code world start (at (with_store after next) n)) e second)

    pub gives_assigned : (next : State) (r : Gives Assignee) (v : Value) (k : Store → Outcome) → with_gives (then_do r (λ a. store_with a.store a.at v)) next k ≡ with_gives r next (λ a. with_gives (store_with a.store a.at v) next k)
    gives_assigned next (Ok a) v k = refl
    gives_assigned next (Err tr) v k = refl

    pub scalar_part : (s : Store) (ok : IsStore p s) (u : ℕ) (q : Place) → is_scalar (slice_get p.types.types u) ≡ true → IsPlaced p built s ok u q → IsPart p built s ok u q
    scalar_part s ok u q sc (inl h) = h
    scalar_part s ok u q sc (inr h) = absurd (no_array (ap is_scalar h.array) sc)
      where
        no_array : {b : Bool} → b ≡ false → b ≡ true → ⊥
        no_array h g = absurd (cc)

    pub gives_later : (next : State) (t : Store) (r : Gives Store) → with_gives r (with_store t next) (λ store. Goes_on (with_store store (with_store t next))) ≡ with_gives r next (λ store. Goes_on (with_store store next))
    gives_later next t (Ok store) = refl
    gives_later next t (Err tr) = refl

    -- a scalar at the place that was entered
    pub entered_does : (to : Exits) (next : State) (u : ℕ) (a : Assignee) (good : GoodPlace next u a) (pc end : ℕ) (v : Value) → Typed p built next.store u v → is_scalar (slice_get p.types.types u) ≡ true → slice_get m.code pc ≡ Some (I.Store (scalar_number (pointer_size p.types) (ty_of p.types u))) → pc + 1 ≡ end → Does to (entered_at next pc (word p built next.store v ∷ []) a) end (with_gives (store_with a.store a.at v) next (λ store. Goes_on (with_store store next)))
    entered_does to next u a good pc end v hv sc has e =
        let kept = kept_scalar p built next.store a.store good.extends u v (a_scalar p built next.store u v sc hv) hv in
        subst (λ x. Does to (here (with_store a.store next) pc (word_in a.store a.at ∷ x ∷ [])) end (with_gives (store_with a.store a.at v) next (λ store. Goes_on (with_store store next)))) kept.1 (subst (Does to (here (with_store a.store next) pc (word_in a.store a.at ∷ word p built a.store v ∷ [])) end) (gives_later next a.store (store_with a.store a.at v)) (stored_does to (with_store a.store next) good.well u a.at pc end v (scalar_part a.store good.well.store u a.at sc good.placed) kept.0 sc has e))

    pub assign_does : (q : TypedPlace) (r : Rhs) (st : State) (to : Exits) (pc n : ℕ) → n ≤ 64 → Well st → is_scalar (slice_get p.types.types q.ty) ≡ true → is_place decls q.ty q.kind ≡ true → place_keeps_bounds (spot unary_rank n) q.kind ≡ true → is_right_side decls n q.ty r ≡ true → HasAt m.code pc (right_side_code target r pc ++ (place_code target true q.ty q.kind (pc + right_side_size p.types r) ++ store_last p.types q.ty)) → pc + (right_side_size p.types r + place_size p.types q.kind + 1) < length m.code → Does to (at st pc) (pc + (right_side_size p.types r + place_size p.types q.kind + 1)) (assign c q r st)
    assign_does q r st to pc n low well sc is_q depth ty has within =
        let nr = right_side_size p.types r in
        let np = place_size p.types q.kind in
        let end = pc + (nr + np + 1) in
        let cr = right_side_code target r pc in
        let cq = place_code target true q.ty q.kind (pc + nr) in
        let cs = store_last p.types q.ty in
        let after = has_rest m.code pc nr cr (cq ++ cs) (length-right_side target r pc) has in
        let at_store = has_rest m.code (pc + nr) np cq cs (length-place target true q.ty q.kind (pc + nr)) after in
        let has_store = subst (λ b. HasAt m.code (pc + nr + np) (cond b (I.Store (scalar_number (pointer_size p.types) (ty_of p.types q.ty)) ∷ []) (I.CopyBytes (size_of p.types q.ty) ∷ []))) sc at_store in
        let sum : pc + nr + np + 1 ≡ end = omega arith in
        side_does p built starts code same world f m is callers fd call fuel base given to st well r pc n q.ty low ty sc (has_front m.code pc cr (cq ++ cs) has) (omega (arith, within)) end (λ v next. with_gives (assigned (scope_of c next) q v) next (λ store. Goes_on (with_store store next))) (λ v next ok hv.
        let start = here next (pc + nr) (word p built next.store v ∷ []) in
        let found = assigned_place (scope_of c next) q.ty q.kind in
        subst (Does to start end) (sym (gives_assigned next found v (λ store. Goes_on (with_store store next)))) (with_follows p built code world base callers us fd.ret at to start end (GoodPlace next q.ty) (λ a. entered_at next (pc + nr + np) (word p built next.store v ∷ []) a) found next (λ a. with_gives (store_with a.store a.at v) next (λ store. Goes_on (with_store store next))) refl (given.enters next ok q (pc + nr) n (word p built next.store v ∷ []) low is_q depth (omega arith) (has_front m.code (pc + nr) cq cs after) (omega (arith, within))) (λ a good.
        entered_does to next q.ty a good (pc + nr + np) end v hv sc has_store.0 sum)))

    pub assigns_do : (q : TypedPlace) (r : Rhs) (st : State) (to : Exits) (pc : ℕ) (in_loop : Bool) (n : ℕ) → n ≤ 64 → Well st → is_statement decls fd.ret in_loop n (Assign q r) ≡ true → HasAt m.code pc (statement_code target (Assign q r) to pc) → pc + statement_size target (Assign q r) < length m.code → Does to (at st pc) (pc + statement_size target (Assign q r)) (run_statement (Assign q r) c st)
    assigns_do q r st to pc in_loop n low well ty has within = by (is_simple_target p q) refl
      where
        by : (b : Bool) → is_simple_target p q ≡ b → Does to (at st pc) (pc + statement_size target (Assign q r)) (run_statement (Assign q r) c st)
        by true e =
            let more = and_right (is_target decls q) _ ty in
            assign_does q r st to pc n low well e (and_left (is_place decls q.ty q.kind) _ (and_left (is_target decls q) _ ty)) (and_left (place_keeps_bounds (spot unary_rank n) q.kind) _ more) (and_right (place_keeps_bounds (spot unary_rank n) q.kind) _ more) has within
        by false e = given.other_assigns to st well q r pc in_loop n e low ty has within
