-- The code of an expression or a place means what the text means.
use Rattle.std.specs.Prelude.{◌≡◌, ℕ, ◌+◌, ◌<◌, ◌≤◌, true, false, List, ◌∷◌, length}
use Rattle.lu_base.specs.declared.limits.TheConstants.{STACK_HEIGHT}
use Rattle.src_tree.specs.declared.expr.TypedExpr.{TypedExpr}
use Rattle.src_tree.specs.declared.expr.TypedPlace.{TypedPlace}
use Rattle.src_meaning.specs.Expression.{value_of, place_of}
use Rattle.src_meaning.specs.Store.{has_type}
use Rattle.src_meaning.specs.ValidTypes.{ty, is_scalar}
use Rattle.src_meaning.specs.ValidExpression.{is_expr, is_place}
use Rattle.src_meaning.specs.ValidDepth.{whole_rank, spot, keeps_bounds, place_keeps_bounds}
use Rattle.bm_isa.specs.declared.instr.Instr.{Instr}
use Rattle.cg_state.specs.Represents.{place_word}
use Rattle.cg_state.specs.Runs.{HasAt, Yields}
use Rattle.cg_expr.specs.Sizes.{expression_size, place_size}
use Rattle.cg_expr.specs.Code.{expression_code, place_code}
use Rattle.cg_sim_expr.specs.Setting.{Setting, IsSetting, declarations_in, scope_in, target_in, word_in, at_place}

-- The words that the operands of any expression need at most: its bounds on depth and chains keep it below this.
abbrev pub greatest_need : ℕ
greatest_need = 1000

-- so many instructions stand at a place and one more behind them, and there is room above the operands
pub record HasRoom (x : Setting) (is : List Instr) (size pc : ℕ) (stack : List ℕ) : Type 0 where
  pub code : HasAt x.machine.code pc is
  pub within : pc + size < length x.machine.code
  pub room : length stack + greatest_need ≤ STACK_HEIGHT

-- From the start of the code of a valid expression of a scalar type the machine comes to its end with the word of the value
-- on the operands, and with all else as it was; or it traps as the text does, with the same ticks.
abbrev pub ExpressionsRun : Type 0
ExpressionsRun = (x : Setting) → IsSetting x → (e : TypedExpr) (room pc : ℕ) (stack : List ℕ)
    → is_expr (declarations_in x) e.ty e.kind ≡ true → is_scalar (ty x.program.types e.ty) ≡ true
    → room ≤ 64 → keeps_bounds (spot whole_rank room) e.kind ≡ true
    → let size = expression_size x.program.types e.ty e.kind in
    HasRoom x (expression_code (target_in x) e.ty e.kind pc) size pc stack
    → Yields x.program x.code x.world (at_place x pc stack) (λ v. has_type x.program x.store e.ty v ≡ true) (λ v. at_place x (pc + size) (word_in x v ∷ stack)) (value_of (scope_in x) e.ty e.kind)

-- From the start of the code of a valid place that is read the machine comes to its end with the address of the place.
abbrev pub PlacesRun : Type 0
PlacesRun = (x : Setting) → IsSetting x → (e : TypedPlace) (room pc : ℕ) (stack : List ℕ)
    → is_place (declarations_in x) e.ty e.kind ≡ true
    → room ≤ 64 → place_keeps_bounds (spot whole_rank room) e.kind ≡ true
    → let size = place_size x.program.types e.kind in
    HasRoom x (place_code (target_in x) false e.ty e.kind pc) size pc stack
    → Yields x.program x.code x.world (at_place x pc stack) (λ at. Unit {0}) (λ at. at_place x (pc + size) (place_word x.program.types x.store at ∷ stack)) (place_of (scope_in x) e.ty e.kind)
