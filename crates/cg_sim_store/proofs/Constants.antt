-- The value of a constant has the constant's type: the code of the constant, in a function of its own, comes to that value.
use Rattle.std.proofs.Common.{◌≡◌, refl, subst, Bool, true, false, cond, ℕ, ◌+◌, ◌≤◌, List, [], ◌∷◌, ◌++◌, Ok, Err, arith, length-append}
use Rattle.std.specs.Prelude.{pos}
use Rattle.lu_base.specs.declared.limits.TheConstants.{STACK_HEIGHT}
use Rattle.lu_base.specs.declared.trap.Trap.TheVariants.{BadCode}
use Rattle.src_tree.specs.declared.value.Value.{Value}
use Rattle.src_tree.specs.declared.value.Store.{Store}
use Rattle.src_tree.specs.declared.expr.TypedExpr.{TypedExpr}
use Rattle.src_tree.specs.declared.program.Program.{Program}
use Rattle.src_meaning.specs.Paths.{zero_of}
use Rattle.src_meaning.specs.Objects.{Gives}
use Rattle.src_meaning.specs.Expression.{value_of}
use Rattle.src_meaning.specs.Constant.{is_constant, constant_value}
use Rattle.src_meaning.specs.Initial.{zero_globals, initial_scope}
use Rattle.src_meaning.specs.Store.{IsStore, has_type}
use Rattle.src_meaning.specs.Valid.{IsValid}
use Rattle.src_meaning.specs.ValidDepth.{spot, whole_rank, keeps_bounds}
use Rattle.src_meaning.specs.ValidTypes.{ty, is_scalar}
use Rattle.src_meaning.specs.ValidExpression.{is_expr}
use Rattle.src_meaning.specs.ValidInitialiser.{globals_alone}
use Rattle.src_laws.proofs.ZeroValues.{zero_typed}
use Rattle.bm_isa.specs.declared.instr.Instr.{Instr}
use Rattle.bm_isa.specs.declared.instr.Instr.TheVariants as I
use Rattle.bm_code.specs.declared.code.MachineCode.{MachineCode}
use Rattle.bm_code.specs.declared.code.MachineFunction.{MachineFunction}
use Rattle.cg_expr.specs.Code.{expression_code}
use Rattle.cg_expr.specs.Sizes.{expression_size}
use Rattle.cg_expr.proofs.Lengths.{length-expression}
use Rattle.cg_state.specs.Runs.{Point, Yields}
use Rattle.cg_state.proofs.HasCode.{has_all, has_front}
use Rattle.cg_sim_expr.specs.Setting.{Setting, IsSetting, target_in, word_in, at_place}
use Rattle.cg_sim_expr.specs.Simulation.{HasRoom}
use Rattle.cg_sim_expr.proofs.Theorem.{expressions_run}
use Rattle.cg_sim_store.proofs.Rules.{global_known}
use Rattle.cg_sim_store.proofs.Starts.{globals_store}

module _ (p : Program) (valid : IsValid p) where
  -- the globals, all zero
  abbrev zeros : Store
  zeros = zero_globals p

  pub zeros_store : IsStore p zeros
  zeros_store =
      globals_store p valid (λ g. zero_of p.types g.ty) (λ k g e. zero_typed p valid.built zeros g.ty (global_known p valid k g e))

  module _ (e : TypedExpr) (typed : is_expr (globals_alone p) e.ty e.kind ≡ true) (scalar : is_scalar (ty p.types e.ty) ≡ true) (room : ℕ) (few : room ≤ 64) (bounds : keeps_bounds (spot whole_rank room) e.kind ≡ true) where
    -- a function of the expression alone
    abbrev function : List Instr → MachineFunction
    function is = record { name = 0; signature = 0; locals = 0; height = STACK_HEIGHT; code = is ++ I.Return ∷ [] }

    abbrev machine : List Instr → MachineCode
    machine is = record { names = []; types = p.types; functions = function is ∷ []; globals = []; sites = []; filters = 0 }

    abbrev setting : List Instr → Setting
    setting is = record {
      program = p;
      code = machine is;
      world = record { own = pos 0; servers = [] };
      function = 0;
      machine = function is;
      callers = [];
      params = [];
      locals = [];
      store = zeros;
      values = [];
      sends = [];
      ticks = 0;
    }

    code : List Instr
    code = expression_code (target_in (setting [])) e.ty e.kind 0

    x : Setting
    x = setting code

    is_setting : IsSetting x
    unfolding x
    is_setting = record {
      valid = valid;
      types = refl;
      at = refl;
      height = refl;
      store = zeros_store;
      values = λ k u h. absurd (cc);
    }

    has_room : HasRoom x (expression_code (target_in x) e.ty e.kind 0) (expression_size p.types e.ty e.kind) 0 []
    unfolding x code
    has_room =
        let is = expression_code (target_in (setting [])) e.ty e.kind 0 in
        let long = length-expression (target_in (setting [])) e.ty e.kind 0 in
        record {
          code = has_front (is ++ I.Return ∷ []) 0 is (I.Return ∷ []) (has_all (is ++ I.Return ∷ []) []);
          within = omega (arith, long, length-append is (I.Return ∷ []));
          room = omega arith;
        }

    to : Value → Point
    to v = at_place x (0 + expression_size p.types e.ty e.kind) (word_in x v ∷ [])

    runs : Yields p x.code x.world (at_place x 0 []) (λ v. has_type p zeros e.ty v ≡ true) to (value_of (initial_scope p) e.ty e.kind)
    unfolding x to
    runs = expressions_run x is_setting e room 0 [] typed scalar few bounds has_room

    -- a value that the expression gives where the globals are zero
    expression_typed : (v : Value) → value_of (initial_scope p) e.ty e.kind ≡ Ok v → has_type p zeros e.ty v ≡ true
    expression_typed v is = by (value_of (initial_scope p) e.ty e.kind) is runs
      where
        by : (r : Gives Value) → r ≡ Ok v → Yields p x.code x.world (at_place x 0 []) (λ v. has_type p zeros e.ty v ≡ true) to r → has_type p zeros e.ty v ≡ true
        by (Ok w) q h = let same : w ≡ v = cc in subst (λ v. has_type p zeros e.ty v ≡ true) same h.0
        by (Err t) q h = absurd (cc)

    pub constant_typed : (v : Value) → constant_value (initial_scope p) e ≡ Ok v → has_type p zeros e.ty v ≡ true
    constant_typed v h = by (is_constant p.types e.ty e.kind) h
      where
        by : (b : Bool) → cond b (value_of (initial_scope p) e.ty e.kind) (Err BadCode) ≡ Ok v → has_type p zeros e.ty v ≡ true
        by true h = expression_typed v h
        by false h = absurd (cc)
