-- The machine's program that is made of a program with its filters.
use Rattle.std.specs.Prelude.{◌≡◌, ℕ, suc, ◌≤◌, Bool, true, nat_lt, if◌then◌else◌, List, [], ◌∷◌, ◌++◌, length, map, Option, Some, None, slice_get}
use Rattle.std.specs.Option.{option_map}
use Rattle.lu_base.specs.declared.limits.TheConstants.{FILTERS}
use Rattle.src_tree.specs.declared.expr.TypedExpr.{TypedExpr}
use Rattle.src_tree.specs.declared.program.Function.{Function}
use Rattle.src_tree.specs.declared.program.Global as Text
use Rattle.src_tree.specs.declared.program.Site.{Site}
use Rattle.src_tree.specs.declared.program.Program.{Program}
use Rattle.src_meaning.specs.ValidTypes.{ty, is_integer}
use Rattle.src_meaning.specs.Valid.{IsValid, IsValidExpression}
use Rattle.src_meaning.specs.Objects.{addresses}
use Rattle.src_meaning.specs.ValueBytes.{object_bytes}
use Rattle.src_meaning.specs.Initial.{initial_object, initial_store}
use Rattle.src_meaning.specs.Weight.{weight}
use Rattle.bm_code.specs.declared.code.MachineCode.{MachineCode}
use Rattle.bm_code.specs.declared.code.MachineFunction.{MachineFunction}
use Rattle.bm_code.specs.declared.code.MachineGlobal.{MachineGlobal}
use Rattle.bm_code.specs.declared.code.MachineSite.{MachineSite}
use Rattle.cg_expr.specs.Code.{Target}
use Rattle.cg_stmt.specs.declared.weight.TheConstants.{GREATEST_WEIGHT}
use Rattle.cg_stmt.specs.Functions.{machine_function, filter_function}

-- a program, and the filters that go by its names
pub record Source : Type 0 where
  pub program : Program
  pub filters : List TypedExpr

abbrev pub source : Program → List TypedExpr → Source
source p filters = record { program = p; filters = filters }

-- a valid expression of an integer type
pub record IsFilter (p : Program) (e : TypedExpr) : Type 0 where
  pub valid : IsValidExpression p e
  pub integer : is_integer (ty p.types e.ty) ≡ true

-- a valid program with as many filters as there may be
pub record IsSource (s : Source) : Type 0 where
  pub valid : IsValid s.program
  pub few : length s.filters ≤ FILTERS
  pub filters : (k : ℕ) (e : TypedExpr) → slice_get s.filters k ≡ Some e → IsFilter s.program e

-- what code is made for: the globals stand at the addresses of their objects in the initial store
abbrev pub target_of : Program → Target
target_of p = record { types = p.types; starts = addresses p.types (initial_store p); functions = p.functions }

-- a global with the bytes of its object in the initial store
abbrev pub machine_global : Program → Text.Global → MachineGlobal
machine_global p g = record { name = g.name; ty = g.ty; bytes = object_bytes p.types (initial_store p) (initial_object p g) }

abbrev pub machine_site : Site → MachineSite
machine_site s = record { function = s.function; ordinal = s.ordinal; elem = s.elem }

-- the program's functions, and behind them a hidden one for each filter
abbrev pub machine_functions : Source → List MachineFunction
machine_functions s =
    let p = s.program in
    map (machine_function (target_of p)) p.functions ++ map (filter_function (target_of p) (length p.names)) s.filters

abbrev pub machine_code : Source → MachineCode
machine_code s = record {
  names = s.program.names;
  types = s.program.types;
  functions = machine_functions s;
  globals = map (machine_global s.program) s.program.globals;
  sites = map machine_site s.program.sites;
  filters = length s.filters;
}

abbrev pub is_long : Function → Bool
is_long f = nat_lt GREATEST_WEIGHT (weight f)

-- the number of the first function whose weight passes the greatest
abbrev pub first_long : List Function → Option ℕ
first_long [] = None
first_long (f ∷ fs) = if is_long f then Some 0 else option_map suc (first_long fs)
