-- The expressions and places of a function, as its statements take them.
use Rattle.std.proofs.Common.{◌≡◌, refl, subst, true, ℕ, zero, suc, ◌+◌, ◌-◌, ◌<◌, ◌≤◌, List, [], ◌∷◌, ◌++◌, length, Some, false, arith}
use Rattle.std.specs.Prelude.{slice_get}
use Rattle.src_tree.specs.declared.value.Value.{Value}
use Rattle.src_tree.specs.declared.value.Store.{Store}
use Rattle.src_tree.specs.declared.program.Function.{Function}
use Rattle.src_tree.specs.declared.program.Program.{Program}
use Rattle.src_tree.specs.declared.expr.TypedExpr.{TypedExpr}
use Rattle.src_tree.specs.declared.expr.TypedPlace.{TypedPlace}
use Rattle.src_meaning.specs.ValidTypes.{is_scalar}
use Rattle.src_meaning.specs.ValidExpression.{local_behind, is_expr, is_place}
use Rattle.src_meaning.specs.ValidDepth.{spot, keeps_bounds, place_keeps_bounds}
use Rattle.src_meaning.specs.Expression.{place_of}
use Rattle.src_meaning.specs.Call.{State, Callee, value_in, scope_of}
use Rattle.bm_code.specs.declared.code.MachineCode.{MachineCode}
use Rattle.bm_code.specs.declared.code.MachineFunction.{MachineFunction}
use Rattle.lu_base.specs.declared.world.World.{World}
use Rattle.bm_code.specs.Process.{Frame}
use Rattle.cg_expr.specs.Sizes.{expression_size, place_size}
use Rattle.cg_expr.specs.Code.{expression_code, place_code}
use Rattle.cg_state.specs.Runs.{HasAt, Point, Yields}
use Rattle.c_types.specs.Refusal.{IsBuilt}
use Rattle.lu_base.specs.declared.limits.TheConstants.{STACK_HEIGHT}
use Rattle.cg_state.proofs.Typed.{Typed}
use Rattle.cg_sim_expr.proofs.Matching.{word}
use Rattle.cg_sim.proofs.Kept.{AllTyped}
use Rattle.cg_state.proofs.Places.{place_word}
use Rattle.cg_sim_expr.proofs.Steps.{IsPlaced}
use Rattle.cg_sim_expr.proofs.Bounds.{expr_bound, place_bound}
use Rattle.cg_sim_expr.proofs.Exprs.{HoldLocals, Facts, expression_runs, place_runs}
use Rattle.cg_sim.proofs.UnderWay.{target, decls, us, c, here, Well}

-- the parameters come first
pub local_is : (ps ls : List ℕ) (x u : ℕ) → local_behind ls (x - length ps) (slice_get ps x) ≡ Some u → slice_get (ps ++ ls) x ≡ Some u
local_is [] ls x u e = let n : x - 0 ≡ x = omega arith in subst (λ n. slice_get ls n ≡ Some u) n e
local_is (t ∷ ps) ls zero u e = e
local_is (t ∷ ps) ls (suc x) u e =
    let n : suc x - suc (length ps) ≡ x - length ps = omega arith in
    local_is ps ls x u (subst (λ n. local_behind ls n (slice_get ps x) ≡ Some u) n e)

typed_at : (p : Program) (built : IsBuilt p.types) (s : Store) (us : List ℕ) (vs : List Value) (x u : ℕ) → AllTyped p built s us vs → slice_get us x ≡ Some u → (v : Value) × (slice_get vs x ≡ Some v) × Typed p built s u v
typed_at p built s [] vs x u h e = absurd (cc)
typed_at p built s (w ∷ us) [] x u h e = absurd h
typed_at p built s (w ∷ us) (v ∷ vs) zero u h e = let is_u : w ≡ u = cc in (v, refl, subst (λ t. Typed p built s t v) is_u h.1)
typed_at p built s (w ∷ us) (v ∷ vs) (suc x) u h e = typed_at p built s us vs x u h.2 e

module _ (p : Program) (built : IsBuilt p.types) (starts : List ℕ) (code : MachineCode) (same : code.types ≡ p.types) (world : World) (f : ℕ) (m : MachineFunction) (is : slice_get code.functions f ≡ Some m) (callers : List Frame) (fd : Function) (call : Callee) (fuel : ℕ) (base : Store) where
  abbrev WellAt : State → Type 0
  WellAt st = Well p built starts code same world f m is callers fd call fuel base st

  abbrev from : State → ℕ → List ℕ → Point
  from st pc stack = here p built starts code same world f m is callers fd call fuel base st pc stack

  pub held : (st : State) → WellAt st → HoldLocals p built (decls p built starts code same world f m is callers fd call fuel base) st.store st.locals
  held st well x u e = typed_at p built st.store (us p built starts code same world f m is callers fd call fuel base) st.locals x u well.locals (local_is fd.params fd.locals x u e)

  abbrev pub FactsOf : Type 0
  FactsOf = (st : State) (well : WellAt st) → Facts p built st.store well.store starts code same world f m is callers fd.params fd.locals st.sends st.locals (held st well) st.ticks

  module _ (high : m.height ≡ STACK_HEIGHT) (facts : FactsOf) where
    pub values : (st : State) → WellAt st → (e : TypedExpr) (pc rank room : ℕ) (stack : List ℕ) → rank ≤ 12 → room ≤ 64 → is_expr (decls p built starts code same world f m is callers fd call fuel base) e.ty e.kind ≡ true → is_scalar (slice_get p.types.types e.ty) ≡ true → keeps_bounds (spot rank room) e.kind ≡ true → length stack ≤ 64 → HasAt m.code pc (expression_code (target p built starts code same world f m is callers fd call fuel base) e.ty e.kind pc) → pc + expression_size p.types e.ty e.kind < length m.code → Yields p code world (from st pc stack) (Typed p built st.store e.ty) (λ v. from st (pc + expression_size p.types e.ty e.kind) (word p built st.store v ∷ stack)) (value_in (c p built starts code same world f m is callers fd call fuel base) e st)
    values st well e pc rank room stack r1 r2 ty sc depth few has within =
        let b = (expr_bound (decls p built starts code same world f m is callers fd call fuel base) e.ty e.kind (spot rank room) ty depth).words in
        expression_runs p built st.store well.store starts code same world f m is callers fd.params fd.locals st.sends st.locals (held st well) st.ticks (facts st well) e.kind e.ty pc stack ty sc has within (omega (arith, b, r1, r2, few, high))

    pub places : (st : State) (well : WellAt st) (q : TypedPlace) (pc rank n : ℕ) (stack : List ℕ) → rank ≤ 12 → n ≤ 64 → is_place (decls p built starts code same world f m is callers fd call fuel base) q.ty q.kind ≡ true → place_keeps_bounds (spot rank n) q.kind ≡ true → length stack ≤ 64 → HasAt m.code pc (place_code (target p built starts code same world f m is callers fd call fuel base) false q.ty q.kind pc) → pc + place_size p.types q.kind < length m.code → Yields p code world (from st pc stack) (IsPlaced p built st.store well.store q.ty) (λ a. from st (pc + place_size p.types q.kind) (place_word p built st.store well.store a ∷ stack)) (place_of (scope_of (c p built starts code same world f m is callers fd call fuel base) st) q.ty q.kind)
    places st well q pc rank n stack r1 low ty depth few has within =
        let b = (place_bound (decls p built starts code same world f m is callers fd call fuel base) q.ty q.kind (spot rank n) ty depth).words in
        place_runs p built st.store well.store starts code same world f m is callers fd.params fd.locals st.sends st.locals (held st well) st.ticks (facts st well) q.kind q.ty pc stack ty has within (omega (arith, b, r1, low, few, high))
