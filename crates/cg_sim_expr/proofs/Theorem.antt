-- The code of expressions and places, in a setting.
use Rattle.std.proofs.Common.{◌≡◌, ◌∙◌, refl, sym, subst, true, false, ℕ, ◌+◌, ◌≤◌, List, ◌∷◌, length, Result, Ok, Err, arith}
use Rattle.lu_base.specs.declared.limits.TheConstants.{FIRST_ADDRESS}
use Rattle.src_tree.specs.declared.expr.TypedExpr.{TypedExpr}
use Rattle.src_tree.specs.declared.expr.TypedPlace.{TypedPlace}
use Rattle.src_meaning.specs.Initial.{initial_store}
use Rattle.src_meaning.specs.Objects.{Gives, Place, addresses}
use Rattle.src_meaning.specs.Expression.{global_place, place_of}
use Rattle.src_meaning.specs.ValidDepth.{spot, whole_rank}
use Rattle.cg_state.specs.Represents.{address_in, place_word}
use Rattle.cg_state.specs.Runs.{Point, Leads, Yields}
use Rattle.cg_expr.specs.Sizes.{place_size}
use Rattle.cg_sim_expr.specs.Setting.{Setting, IsSetting, declarations_in, scope_in, at_place}
use Rattle.cg_sim_expr.specs.Simulation.{ExpressionsRun, PlacesRun}
use Rattle.cg_sim_expr.proofs.Bounds.{expr_bound, place_bound}
use Rattle.cg_sim_expr.proofs.Steps.{IsPlaced}
use Rattle.cg_sim_expr.proofs.Exprs.{Facts, expression_runs, place_runs}
use Rattle.cg_sim_expr.proofs.Globals.{starts_from, global_placed, initial_starts}
use Rattle.cg_sim_expr.proofs.Rules.{few_functions}

module _ (x : Setting) (is : IsSetting x) where
  abbrev starts : List ℕ
  starts = addresses x.program.types (initial_store x.program)

  facts : Facts x.program is.valid.built x.store is.store starts x.code is.types x.world x.function x.machine is.at x.callers x.params x.locals x.sends x.values is.values x.ticks
  facts = record {
    few_functions = few_functions x.program is.valid;
    globals = λ g u h.
        let at = global_placed x.program is.valid.built x.store is.store g u h in
        (at.0, subst (λ l. address_in l g ≡ place_word x.program.types x.store (global_place x.program.types u g)) (sym (initial_starts x.program is.valid.built x.store is.store)) at.1);
  }

pub expressions_run : ExpressionsRun
expressions_run x is e room pc stack ty sc few bounds has =
    let b = (expr_bound (declarations_in x) e.ty e.kind (spot whole_rank room) ty bounds).words in
    let h = is.height in
    let r = has.room in
    expression_runs x.program is.valid.built x.store is.store (starts x is) x.code is.types x.world x.function x.machine is.at x.callers x.params x.locals x.sends x.values is.values x.ticks (facts x is) e.kind e.ty pc stack ty sc has.code has.within (omega (arith, b, few, h, r))

forget : (x : Setting) (p : Point) (good : Place → Type 0) (to : Place → Point) (r : Gives Place) → Yields x.program x.code x.world p good to r → Yields x.program x.code x.world p (λ at. Unit {0}) to r
forget x p good to (Ok at) y = (tt, y.1)
forget x p good to (Err t) y = y

pub places_run : PlacesRun
places_run x is e room pc stack ty few bounds has =
    let b = (place_bound (declarations_in x) e.ty e.kind (spot whole_rank room) ty bounds).words in
    let h = is.height in
    let r = has.room in
    forget x (at_place x pc stack) (IsPlaced x.program is.valid.built x.store is.store e.ty) (λ at. at_place x (pc + place_size x.program.types e.kind) (place_word x.program.types x.store at ∷ stack)) (place_of (scope_in x) e.ty e.kind) (place_runs x.program is.valid.built x.store is.store (starts x is) x.code is.types x.world x.function x.machine is.at x.callers x.params x.locals x.sends x.values is.values x.ticks (facts x is) e.kind e.ty pc stack ty has.code has.within (omega (arith, b, few, h, r)))
