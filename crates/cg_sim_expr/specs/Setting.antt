-- Where the code of an expression or a place stands: in a function of a program, with a store of the program and the values
-- of the function's parameters and locals.
use Rattle.std.specs.Prelude.{◌≡◌, ℕ, true, List, map, Some, slice_get}
use Rattle.lu_base.specs.Sending.{Sent}
use Rattle.lu_base.specs.declared.limits.TheConstants.{STACK_HEIGHT}
use Rattle.src_tree.specs.declared.value.Value.{Value}
use Rattle.src_tree.specs.declared.value.Store.{Store}
use Rattle.src_tree.specs.declared.program.Program.{Program}
use Rattle.src_meaning.specs.Initial.{initial_store}
use Rattle.src_meaning.specs.Objects.{addresses}
use Rattle.src_meaning.specs.Expression.{Scope}
use Rattle.src_meaning.specs.Store.{IsStore, has_type}
use Rattle.src_meaning.specs.Valid.{IsValid}
use Rattle.src_meaning.specs.ValidExpression.{Declarations, local_type}
use Rattle.bm_code.specs.declared.code.MachineCode.{MachineCode}
use Rattle.bm_code.specs.declared.code.MachineFunction.{MachineFunction}
use Rattle.lu_base.specs.declared.world.World.{World}
use Rattle.bm_code.specs.Process.{Frame, Running}
use Rattle.cg_state.specs.Represents.{value_word}
use Rattle.cg_state.specs.Runs.{Point, point}
use Rattle.cg_expr.specs.Code.{Target}

pub record Setting : Type 0 where
  pub program : Program
  pub code : MachineCode
  pub world : World
  pub function : ℕ
  pub machine : MachineFunction
  pub callers : List Frame
  -- the types of the parameters and of the locals
  pub params : List ℕ
  pub locals : List ℕ
  pub store : Store
  pub values : List Value
  pub sends : List Sent
  pub ticks : ℕ

abbrev pub declarations_in : Setting → Declarations
declarations_in x = record { program = x.program; params = x.params; locals = x.locals }

abbrev pub scope_in : Setting → Scope
scope_in x = record { types = x.program.types; store = x.store; locals = x.values }

-- what code is made for: the globals stand where the objects of the initial store do
abbrev pub target_in : Setting → Target
target_in x = record {
  types = x.program.types;
  starts = addresses x.program.types (initial_store x.program);
  functions = x.program.functions;
}

-- each local that is declared has a value of its type
abbrev pub HoldLocals : Program → Declarations → Store → List Value → Type 0
HoldLocals p d s values =
    (x u : ℕ) → local_type d x ≡ Some u → (v : Value) × (slice_get values x ≡ Some v) × (has_type p s u v ≡ true)

-- a valid program, whose types are the code's, and a function of the code with a whole operand stack
pub record IsSetting (x : Setting) : Type 0 where
  pub valid : IsValid x.program
  pub types : x.code.types ≡ x.program.types
  pub at : slice_get x.code.functions x.function ≡ Some x.machine
  pub height : x.machine.height ≡ STACK_HEIGHT
  pub store : IsStore x.program x.store
  pub values : HoldLocals x.program (declarations_in x) x.store x.values

-- the word of a value in the store
abbrev pub word_in : Setting → Value → ℕ
word_in x v = value_word (addresses x.program.types x.store) v

-- at a place of the function's code, with these operands
abbrev pub at_place : Setting → ℕ → List ℕ → Point
at_place x pc stack =
    let words : List ℕ = map (word_in x) x.values in
    let frame : Frame = record { function = x.function; place = pc; locals = words; stack = stack } in
    point x.store x.sends (Running frame x.callers) x.ticks
