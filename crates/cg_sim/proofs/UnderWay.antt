-- A function that is under way: what holds of its states, and what its statements take from elsewhere.
use Rattle.std.proofs.Common.{◌≡◌, Bool, true, false, cond, ℕ, suc, ◌+◌, ◌<◌, ◌≤◌, List, [], ◌∷◌, length, map, replicate, Option, Some, None, Ok, nat_lt}
use Rattle.std.specs.Prelude.{slice_get, is_some}
use Rattle.std.specs.Option.{option_map_or}
use Rattle.std.specs.FinMap.{insert}
use Rattle.lu_spec.specs.Then.{then_do}
use Rattle.lu_base.specs.declared.trap.Trap.TheVariants.{Depth}
use Rattle.c_types.specs.declared.parts.Signature.{Signature}
use Rattle.src_tree.specs.declared.value.Value.{Value}
use Rattle.lu_base.specs.declared.message.Message.{Message}
use Rattle.src_tree.specs.declared.value.Store.{Store}
use Rattle.src_tree.specs.declared.value.Object.{Object}
use Rattle.src_tree.specs.declared.value.ObjectKind.TheVariants.{Heap}
use Rattle.src_tree.specs.declared.program.Site.{Site}
use Rattle.bm_code.specs.declared.code.MachineSite.{MachineSite}
use Rattle.c_types.specs.Layout.{size_of}
use Rattle.src_tree.specs.declared.program.Function.{Function}
use Rattle.src_tree.specs.declared.program.Program.{Program}
use Rattle.src_tree.specs.declared.expr.TypedExpr.{TypedExpr}
use Rattle.src_tree.specs.declared.expr.TypedPlace.{TypedPlace}
use Rattle.src_tree.specs.declared.stmt.Callee as Text_callee
use Rattle.src_tree.specs.declared.stmt.Rhs.{Rhs}
use Rattle.src_tree.specs.declared.stmt.TypedStmt.{Assign}
use Rattle.src_meaning.specs.Objects.{Place, addresses, offset_in, with_object, with_elements, is_live_heap, object_size, zero_object, append_object, next_address, has_room as has_room_for, value_at}
use Rattle.src_meaning.specs.Expression.{place_of}
use Rattle.src_meaning.specs.Assignment.{Assignee, assigned_place}
use Rattle.src_meaning.specs.ValidDepth.{spot, unary_rank, keeps_bounds, place_keeps_bounds}
use Rattle.src_meaning.specs.Sending as Source
use Rattle.lu_base.specs.Sending.{Sent}
use Rattle.src_meaning.specs.Valid.{declarations_of}
use Rattle.src_meaning.specs.ValidTypes.{is_scalar}
use Rattle.src_meaning.specs.ValidExpression.{Declarations, is_expr, is_place, local_type}
use Rattle.src_meaning.specs.ValidStatement.{is_statement, names_site, call_result}
use Rattle.src_meaning.specs.Call.{State, Outcome, Callee, Context, value_in, with_store, scope_of, run_statement, types_of, context_of}
use Rattle.bm_code.specs.declared.code.MachineCode.{MachineCode}
use Rattle.bm_code.specs.declared.code.MachineFunction.{MachineFunction}
use Rattle.lu_base.specs.declared.world.World.{World}
use Rattle.bm_code.specs.Process.{Frame, Activity, Running}
use Rattle.bm_code.specs.Transfers.{Spends, trap, entered}
use Rattle.bm_code.specs.Step.{step_instruction}
use Rattle.bm_code.specs.Services.{message_bytes, message_of as message_in_bytes}
use Rattle.cg_expr.specs.Sizes.{expression_size, place_size}
use Rattle.cg_expr.specs.Code.{Target, expression_code, place_code}
use Rattle.cg_stmt.specs.StatementCode.{statement_code}
use Rattle.cg_stmt.specs.StatementSizes.{has_result, statement_size}
use Rattle.cg_stmt.specs.declared.statements.Exits.{Exits}
use Rattle.cg_state.specs.Runs.{HasAt, Point, point, Yields}
use Rattle.cg_sim_expr.proofs.Here.{on}
use Rattle.c_types.specs.Refusal.{IsBuilt}
use Rattle.cg_state.proofs.Typed.{Typed}
use Rattle.cg_state.proofs.Places.{IsPart, place_word}
use Rattle.cg_state.proofs.Stores.{store_after}
use Rattle.cg_sim.proofs.Apart.{KeepsParts}
use Rattle.cg_sim_expr.proofs.Steps.{IsPlaced}
use Rattle.cg_sim_expr.proofs.Matching.{word}
use Rattle.src_laws.proofs.Extended.{Extends}
use Rattle.cg_sim.proofs.Results.{AResult}
use Rattle.cg_sim.proofs.Kept.{AllTyped}
use Rattle.cg_state.specs.Represents.{process_of, content_of, address_in}
use Rattle.cg_sim.proofs.Machines.{IsCode, target_at}
use Rattle.src_meaning.specs.Store.{IsStore}
use Rattle.cg_sim.proofs.Ends.{Good, Finishes, Follows}

-- a call of a function from where its entry is due, with so many frames below
abbrev pub CalleeRuns : (p : Program) → IsBuilt p.types → List ℕ → MachineCode → World → Callee → ℕ → Type 0
CalleeRuns p built starts code world call depth =
    (g : ℕ) (gd : Function) (gm : MachineFunction) (vs : List Value) (st : State) (a : Activity) (callers : List Frame) →
    slice_get p.functions g ≡ Some gd → slice_get code.functions g ≡ Some gm → IsCode (target_at p starts) gd gm → AllTyped p built st.store gd.params vs → IsStore p st.store → length callers ≡ depth →
    step_instruction code world (process_of p st.store st.sends a st.ticks) ≡ cond (nat_lt depth 128) (Spends (process_of p st.store st.sends (Running (entered gm g (map (word p built st.store) vs)) callers) st.ticks)) (trap Depth (process_of p st.store st.sends a st.ticks)) →
    Finishes p built code world st.store (point st.store st.sends a st.ticks) callers gd.ret (call g vs st)

-- what a call of a callee gives
pub record CallResult (p : Program) (built : IsBuilt p.types) (starts : List ℕ) (s : Store) (l : Text_callee.Callee) (r : Option Value) : Type 0 where
  pub is_typed : AResult p built s (call_result p l) r
  pub some : is_some r ≡ has_result (target_at p starts) l

abbrev pub is_simple_target : Program → TypedPlace → Bool
is_simple_target p q = is_scalar (slice_get p.types.types q.ty)

-- a site of the program and of the machine's
pub record SiteOf (p : Program) (code : MachineCode) (n : ℕ) : Type 0 where
  pub site : Site
  pub is : slice_get p.sites n ≡ Some site
  pub machine : MachineSite
  pub is_machine : slice_get code.sites n ≡ Some machine
  pub elem : machine.elem ≡ site.elem
  pub some : 0 < size_of p.types site.elem

module _ (p : Program) (built : IsBuilt p.types) (starts : List ℕ) (code : MachineCode) (same : code.types ≡ p.types) (world : World) (f : ℕ) (m : MachineFunction) (is : slice_get code.functions f ≡ Some m) (callers : List Frame) (fd : Function) (call : Callee) (fuel : ℕ) (base : Store) where
  abbrev pub target : Target
  target = record { types = p.types; starts = starts; functions = p.functions }

  abbrev pub decls : Declarations
  decls = declarations_of p fd

  abbrev pub us : List ℕ
  us = types_of fd

  abbrev pub c : Context
  c = context_of p world fd call fuel

  abbrev pub here : State → ℕ → List ℕ → Point
  here st pc stack = on p code world f m is callers st.store st.sends (map (word p built st.store) st.locals) st.ticks pc stack

  abbrev pub at : State → ℕ → Point
  at st pc = here st pc []

  abbrev pub Well : State → Type 0
  Well st = Good p built code world base us st

  -- the run from there does what the statement does, whose code ends at a place
  abbrev pub Does : Exits → Point → ℕ → Outcome → Type 0
  Does to q pc o = Follows p built code world base callers us fd.ret at to q pc o

  abbrev pub Ahead : ℕ → Exits → Type 0
  Ahead n to = (n ≤ to.turn) × (to.turn < to.leave) × (to.leave < length m.code)

  -- the address of a place
  abbrev pub word_in : Store → Place → ℕ
  word_in s q =
      address_in (addresses p.types s) q.object + option_map_or (λ x. option_map_or (λ k. k) (offset_in p.types x q.path) 0) (slice_get s.objects q.object) 0

  -- a place that is assigned, in the store with the members on its way active
  pub record GoodPlace (st : State) (u : ℕ) (a : Assignee) : Type 0 where
    pub well : Well (with_store a.store st)
    pub placed : IsPlaced p built a.store well.store u a.at
    pub extends : Extends st.store.objects a.store.objects
    pub keeps : KeepsParts p built st.store a.store (size_of p.types u)

  abbrev pub entered_at : State → ℕ → List ℕ → Assignee → Point
  entered_at st pc stack a = here (with_store a.store st) pc (word_in a.store a.at ∷ stack)

  -- what statements take from elsewhere
  pub record Given : Type 0 where
    -- the code of an expression gives its value
    pub values : (st : State) → Well st → (e : TypedExpr) (pc rank room : ℕ) (stack : List ℕ) → rank ≤ 12 → room ≤ 64 → is_expr decls e.ty e.kind ≡ true → is_scalar (slice_get p.types.types e.ty) ≡ true → keeps_bounds (spot rank room) e.kind ≡ true → length stack ≤ 64 → HasAt m.code pc (expression_code target e.ty e.kind pc) → pc + expression_size p.types e.ty e.kind < length m.code → Yields p code world (here st pc stack) (Typed p built st.store e.ty) (λ v. here st (pc + expression_size p.types e.ty e.kind) (word p built st.store v ∷ stack)) (value_in c e st)
    -- the code of a place that is read gives its address
    pub places : (st : State) (well : Well st) (q : TypedPlace) (pc n : ℕ) (stack : List ℕ) → n ≤ 64 → is_place decls q.ty q.kind ≡ true → place_keeps_bounds (spot unary_rank n) q.kind ≡ true → length stack ≤ 64 → HasAt m.code pc (place_code target false q.ty q.kind pc) → pc + place_size p.types q.kind < length m.code → Yields p code world (here st pc stack) (IsPlaced p built st.store well.store q.ty) (λ a. here st (pc + place_size p.types q.kind) (place_word p built st.store well.store a ∷ stack)) (place_of (scope_of c st) q.ty q.kind)
    -- a store with another value of the type at a place is a store of the program
    pub stores : (s : Store) (ok : IsStore p s) (u : ℕ) (q : Place) (h : IsPart p built s ok u q) (v : Value) (hv : Typed p built s u v) → IsStore p (store_after p built s ok u q h v hv)
    -- and so is one with a dead object
    pub frees : (s : Store) → IsStore p s → (o : ℕ) (x : Object) → slice_get s.objects o ≡ Some x → is_live_heap x ≡ true → IsStore p (with_object s o (with_elements x None))
    -- the code of a place that is assigned makes the members on its way active, and gives its address
    pub enters : (st : State) → Well st → (q : TypedPlace) (pc n : ℕ) (stack : List ℕ) → n ≤ 64 → is_place decls q.ty q.kind ≡ true → place_keeps_bounds (spot unary_rank n) q.kind ≡ true → length stack ≤ 64 → HasAt m.code pc (place_code target true q.ty q.kind pc) → pc + place_size p.types q.kind < length m.code → Yields p code world (here st pc stack) (GoodPlace st q.ty) (λ a. entered_at st (pc + place_size p.types q.kind) stack a) (assigned_place (scope_of c st) q.ty q.kind)
    -- an assignment of a struct or a union
    pub other_assigns : (to : Exits) (st : State) → Well st → (q : TypedPlace) (r : Rhs) (pc : ℕ) (in_loop : Bool) (n : ℕ) → is_simple_target p q ≡ false → n ≤ 64 → is_statement decls fd.ret in_loop n (Assign q r) ≡ true → HasAt m.code pc (statement_code target (Assign q r) to pc) → pc + statement_size target (Assign q r) < length m.code → Does to (at st pc) (pc + statement_size target (Assign q r)) (run_statement (Assign q r) c st)
    -- calls of functions by their names
    pub named : CalleeRuns p built starts code world call (length callers + 1)
    pub compiled : (g : ℕ) (gd : Function) → slice_get p.functions g ≡ Some gd → (gm : MachineFunction) × (slice_get code.functions g ≡ Some gm) × IsCode (target_at p starts) gd gm
    pub known : (gd : Function) (gm : MachineFunction) → IsCode (target_at p starts) gd gm → (gs : Signature) × (slice_get code.types.signatures gm.signature ≡ Some gs) × (gs.result ≡ gd.ret) × (length gs.params ≡ length gd.params)
    -- the message that the second global holds
    pub messages : (s : Store) → IsStore p s → (o : List Sent) (a : Activity) (t : ℕ) → (x : Message) × (bytes : List ℕ) × (then_do (value_at s Source.m_out) Source.message_of ≡ Ok x) × (message_bytes code (process_of p s o a t) ≡ Some bytes) × (message_in_bytes bytes ≡ x)
    pub few_signature : (gs : Signature) (g : ℕ) → slice_get p.types.signatures g ≡ Some gs → length gs.params ≤ 64
    pub few : (gd : Function) (g : ℕ) → slice_get p.functions g ≡ Some gd → length gd.params ≤ 64
    pub high : 0 < m.height
    -- sites, whose types have sizes; and the content after an allocation
    pub sites : (site : ℕ) → names_site p site ≡ true → SiteOf p code site
    pub grows : (s : Store) → IsStore p s → (site : ℕ) (d : SiteOf p code site) (n : ℕ) → has_room_for p.types s (zero_object p.types (Heap site) d.site.elem (suc n)) ≡ true → IsStore p (append_object s (zero_object p.types (Heap site) d.site.elem (suc n))) × (insert (content_of p.types s) (next_address p.types s) (replicate (object_size p.types (zero_object p.types (Heap site) d.site.elem (suc n))) 0) ≡ content_of p.types (append_object s (zero_object p.types (Heap site) d.site.elem (suc n))))
    pub signature : (g : Signature) × (slice_get code.types.signatures m.signature ≡ Some g) × (g.result ≡ fd.ret)
    pub local_known : (x u : ℕ) → local_type decls x ≡ Some u → slice_get us x ≡ Some u
    pub returned : (u : ℕ) → fd.ret ≡ Some u → is_scalar (slice_get p.types.types u) ≡ true
