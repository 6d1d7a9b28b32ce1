-- Statements and calls: by recursion on fuel and, within it, on the text. Ticks that are left stand in the state.
use Rattle.std.specs.Prelude.{ℕ, zero, suc, Bool, true, false, nat_lt, ℤ, pos, List, [], ◌∷◌, ◌++◌, map, Option, Some, None, Ok, Err, slice_get, slice_set}
use Rattle.std.specs.Option.{option_map}
use Rattle.lu_spec.specs.Then.{then_do}
use Rattle.lu_base.specs.declared.world.World.{World}
use Rattle.lu_base.specs.declared.limits.TheConstants.{FRAMES}
use Rattle.lu_base.specs.Sending.{Sent, sent}
use Rattle.lu_base.specs.declared.trap.Trap.{Trap}
use Rattle.lu_base.specs.declared.trap.Trap.TheVariants.{BadCode, BadCall, Depth, Budget, Panic}
use Rattle.c_types.specs.declared.parts.Parts.{Parts}
use Rattle.src_tree.specs.declared.value.Value.{Value, Int, Null, Function as Function_value}
use Rattle.src_tree.specs.declared.value.Store.{Store}
use Rattle.src_tree.specs.declared.expr.TypedExpr.{TypedExpr}
use Rattle.src_tree.specs.declared.expr.TypedPlace.{TypedPlace}
use Rattle.src_tree.specs.declared.stmt.Callee as Text
use Rattle.src_tree.specs.declared.stmt.Callee.TheVariants.{Function as Named, Pointer, Send, Malloc, Calloc, Free, Panic as Panics}
use Rattle.src_tree.specs.declared.stmt.Call as Text_call
use Rattle.src_tree.specs.declared.stmt.Rhs.{Rhs}
use Rattle.src_tree.specs.declared.stmt.Rhs.TheVariants.{Value as Plain, Call as Result_of}
use Rattle.src_tree.specs.declared.stmt.TypedStmt.{TypedStmt, Block', Empty, Declare, SetLocal, Assign, Call, If', While', For', Break, Continue, Return, Row_of-TypedStmt, end_of-TypedStmt, more_of-TypedStmt}
use Rattle.src_tree.specs.declared.program.Function.{Function}
use Rattle.src_tree.specs.declared.program.Program.{Program}
use Rattle.src_meaning.specs.Paths.{zero_of}
use Rattle.src_meaning.specs.Objects.{Gives, or_trap, value_at, allocated, freed}
use Rattle.src_meaning.specs.Operators.{int_of, is_true, converted}
use Rattle.src_meaning.specs.Expression.{Scope, value_of}
use Rattle.src_meaning.specs.Assignment.{assigned}
use Rattle.src_meaning.specs.Sending.{m_out, message_of}

-- the store, the parameters and locals, the sends so far, and the ticks that are left
pub record State : Type 0 where
  pub store : Store
  pub locals : List Value
  pub sends : List Sent
  pub ticks : ℕ

-- how a call ends, with the ticks that are left: with its result, if it has one, or with a trap.
-- `Starved` says nothing: the fuel was too little
pub data Ending : Type 0 where
  Returned : (result : Option Value) (store : Store) (sends : List Sent) (ticks : ℕ) → Ending
  Trapped : (trap : Trap) (ticks : ℕ) → Ending
  Starved : Ending

-- how a statement ends
pub data Outcome : Type 0 where
  Goes_on : State → Outcome
  Breaks : State → Outcome
  Continues : State → Outcome
  Leaves : Ending → Outcome

-- a call of a function by its number, with arguments; of the state the locals are the caller's
abbrev pub Callee : Type 0
Callee = ℕ → List Value → State → Ending

-- what the statements of a function look at: the types of its parameters and locals, and what calls do.
-- Fuel is the most turns of a loop
pub record Context : Type 0 where
  pub program : Program
  pub world : World
  pub local_types : List ℕ
  pub call : Callee
  pub fuel : ℕ

abbrev pub scope_of : Context → State → Scope
scope_of c s = record { types = c.program.types; store = s.store; locals = s.locals }

abbrev pub with_store : Store → State → State
with_store store s = record s { store = store }

abbrev pub with_local : ℕ → Value → State → State
with_local x v s = record s { locals = slice_set s.locals x v }

abbrev pub trapped : Trap → State → Outcome
trapped t s = Leaves (Trapped t s.ticks)

-- what f gives of a value, or the trap
abbrev pub with_gives : {A : Type 0} → Gives A → State → (A → Outcome) → Outcome
with_gives (Ok a) s f = f a
with_gives (Err t) s f = trapped t s

abbrev pub go_on : Outcome → (State → Outcome) → Outcome
go_on (Goes_on s) f = f s
go_on (Breaks s) f = Breaks s
go_on (Continues s) f = Continues s
go_on (Leaves e) f = Leaves e

-- one tick, or Budget
abbrev pub tick_at : ℕ → State → (State → Outcome) → Outcome
tick_at zero s f = Leaves (Trapped Budget 0)
tick_at (suc n) s f = f (record s { ticks = n })

abbrev pub tick : State → (State → Outcome) → Outcome
tick s f = tick_at s.ticks s f

abbrev pub branch : Bool → (State → Outcome) → (State → Outcome) → State → Outcome
branch true f g s = f s
branch false f g s = g s

abbrev pub value_in : Context → TypedExpr → State → Gives Value
value_in c e s = value_of (scope_of c s) e.ty e.kind

abbrev pub test_in : Context → TypedExpr → State → Gives Bool
test_in c e s = then_do (value_in c e s) is_true

abbrev pub values_in : Context → List TypedExpr → State → Gives (List Value)
values_in c [] s = Ok []
values_in c (e ∷ es) s = then_do (value_in c e s) (λ v. then_do (values_in c es s) (λ vs. Ok (v ∷ vs)))

-- what follows a call that was made in state s
abbrev pub resume : State → Ending → (Option Value → State → Outcome) → Outcome
resume s (Returned result store sends ticks) f =
    f result (record { store = store; locals = s.locals; sends = sends; ticks = ticks })
resume s (Trapped t ticks) f = Leaves (Trapped t ticks)
resume s Starved f = Leaves Starved

abbrev pub only_value : List Value → Gives Value
only_value (v ∷ []) = Ok v
only_value _ = Err BadCode

abbrev pub only_int : List Value → Gives ℤ
only_int vs = then_do (only_value vs) int_of

-- a call of what a function pointer points to
abbrev pub call_pointer : Context → Value → List Value → State → (Option Value → State → Outcome) → Outcome
call_pointer c Null vs s f = trapped BadCall s
call_pointer c (Function_value g) vs s f = resume s (c.call g vs s) f
call_pointer c _ vs s f = trapped BadCode s

abbrev pub send : Context → List Value → State → (Option Value → State → Outcome) → Outcome
send c vs s f =
    with_gives (only_int vs) s (λ to. with_gives (then_do (value_at s.store m_out) message_of) s (λ m. let r = sent c.world s.sends to m in f (Some (Int r.0)) (record s { sends = r.1 })))

-- an allocation of so many elements at a site
abbrev pub allocate : Context → ℕ → ℤ → State → (Option Value → State → Outcome) → Outcome
allocate c site count s f =
    with_gives (or_trap BadCode (slice_get c.program.sites site)) s (λ d. let r = allocated c.program.types s.store site d.elem count in f (Some r.0) (with_store r.1 s))

-- a call with evaluated arguments
abbrev pub perform : Context → Text.Callee → List Value → State → (Option Value → State → Outcome) → Outcome
perform c (Named g) vs s f = resume s (c.call g vs s) f
perform c (Pointer e) vs s f = trapped BadCode s
perform c Send vs s f = send c vs s f
perform c (Malloc site) vs s f = allocate c site (pos 1) s f
perform c (Calloc site) vs s f = with_gives (only_int vs) s (λ count. allocate c site count s f)
perform c Free vs s f =
    with_gives (then_do (only_value vs) (freed s.store)) s (λ store. f None (with_store store s))
perform c Panics vs s f = with_gives (only_int vs) s (λ n. trapped (Panic n) s)

-- a call, and what f does with its result: the callee first, then the arguments, then the checks
abbrev pub call_of : Context → Text.Callee → List TypedExpr → State → (Option Value → State → Outcome) → Outcome
call_of c (Pointer e) args s f =
    with_gives (value_in c e s) s (λ g. with_gives (values_in c args s) s (λ vs. call_pointer c g vs s f))
call_of c callee args s f = with_gives (values_in c args s) s (λ vs. perform c callee vs s f)

abbrev pub call_in : Context → Text_call.Call → State → (Option Value → State → Outcome) → Outcome
call_in c d s f = call_of c d.callee d.args s f

-- a right side, and what f does with its value
abbrev pub rhs_in : Context → Rhs → State → (Value → State → Outcome) → Outcome
rhs_in c (Plain e) s f = with_gives (value_in c e s) s (λ v. f v s)
rhs_in c (Result_of d t) s f =
    call_in c d s (λ result next. with_gives (then_do (or_trap BadCode result) (converted c.program.types t)) next (λ v. f v next))

abbrev pub zero_local : Context → ℕ → Gives Value
zero_local c x = or_trap BadCode (option_map (zero_of c.program.types) (slice_get c.local_types x))

abbrev pub declare : Context → ℕ → Option Rhs → State → Outcome
declare c x None s = with_gives (zero_local c x) s (λ v. Goes_on (with_local x v s))
declare c x (Some r) s = rhs_in c r s (λ v next. Goes_on (with_local x v next))

abbrev pub return_of : Context → Option Rhs → State → Outcome
return_of c None s = Leaves (Returned None s.store s.sends s.ticks)
return_of c (Some r) s = rhs_in c r s (λ v next. Leaves (Returned (Some v) next.store next.sends next.ticks))

abbrev pub assign : Context → TypedPlace → Rhs → State → Outcome
assign c to r s =
    rhs_in c r s (λ v next. with_gives (assigned (scope_of c next) to v) next (λ store. Goes_on (with_store store next)))

-- a condition that isn't there is true
abbrev pub test_of : Context → Option TypedExpr → State → Gives Bool
test_of c None s = Ok true
test_of c (Some e) s = test_in c e s

-- what follows the body of a loop
abbrev pub after_turn : Outcome → (State → Outcome) → Outcome
after_turn (Goes_on s) f = f s
after_turn (Continues s) f = f s
after_turn (Breaks s) f = Goes_on s
after_turn (Leaves e) f = Leaves e

-- at most so many turns of a loop; a turn that ends and goes back to the condition costs a tick
abbrev pub turns : ℕ → (State → Gives Bool) → (State → Outcome) → (State → Outcome) → State → Outcome
turns zero test body step s = Leaves Starved
turns (suc n) test body step s =
    with_gives (test s) s (λ b. branch b (λ s. after_turn (body s) (λ after. go_on (step after) (λ next. tick next (turns n test body step)))) Goes_on s)

abbrev mutual
  pub run_statement : TypedStmt → Context → State → Outcome
  run_statement (Block' m body) c s = run_row body c s
  run_statement Empty c s = Goes_on s
  run_statement (Declare x r) c s = declare c x r s
  run_statement (SetLocal x r) c s = rhs_in c r s (λ v next. Goes_on (with_local x v next))
  run_statement (Assign to r) c s = assign c to r s
  run_statement (Call d) c s = call_in c d s (λ result next. Goes_on next)
  run_statement (If' e m a n b) c s = with_gives (test_in c e s) s (λ z. branch z (run_row a c) (run_row b c) s)
  run_statement (While' e m body) c s = turns c.fuel (test_in c e) (run_row body c) Goes_on s
  run_statement (For' m first e n step k body) c s =
      go_on (run_row first c s) (turns c.fuel (test_of c e) (run_row body c) (run_row step c))
  run_statement Break c s = Breaks s
  run_statement Continue c s = Continues s
  run_statement (Return r) c s = return_of c r s

  pub run_row : {m : _} → Row_of-TypedStmt m → Context → State → Outcome
  run_row end_of-TypedStmt c s = Goes_on s
  run_row (more_of-TypedStmt x rest) c s = go_on (run_statement x c s) (run_row rest c)

-- the statements of a body, one after the other
abbrev pub run_body : List TypedStmt → Context → State → Outcome
run_body [] c s = Goes_on s
run_body (x ∷ rest) c s = go_on (run_statement x c s) (run_body rest c)

-- the end of a body gives the zero of the result's type
abbrev pub fall_off : Parts → Option ℕ → Outcome → Ending
fall_off p ret (Goes_on s) = Returned (option_map (zero_of p) ret) s.store s.sends s.ticks
fall_off p ret (Breaks s) = Trapped BadCode s.ticks
fall_off p ret (Continues s) = Trapped BadCode s.ticks
fall_off p ret (Leaves e) = e

abbrev pub types_of : Function → List ℕ
types_of f = f.params ++ f.locals

abbrev pub entry_locals : Parts → Function → List Value → List Value
entry_locals p f args = args ++ map (zero_of p) f.locals

abbrev pub context_of : Program → World → Function → Callee → ℕ → Context
context_of p world f call fuel = record {
  program = p;
  world = world;
  local_types = types_of f;
  call = call;
  fuel = fuel;
}

-- a function's entry costs a tick
abbrev pub enter : Program → World → Callee → ℕ → Option Function → List Value → State → Ending
enter p world call fuel None args s = Trapped BadCode s.ticks
enter p world call fuel (Some f) args s =
    fall_off p.types f.ret (tick (record s { locals = entry_locals p.types f args }) (run_body f.body (context_of p world f call fuel)))

-- the frame of a call, unless there are as many before it as there may be
abbrev pub with_frame : Bool → (State → Ending) → State → Ending
with_frame true f s = f s
with_frame false f s = Trapped Depth s.ticks

-- a call with so many frames before it and so much fuel: calls nest no deeper, and no loop turns more often
abbrev pub call_with : Program → World → ℕ → ℕ → Callee
call_with p world zero depth f args s = Starved
call_with p world (suc n) depth f args s =
    with_frame (nat_lt depth FRAMES) (enter p world (call_with p world n (suc depth)) (suc n) (slice_get p.functions f) args) s

-- a call from outside, with so many ticks
abbrev pub call : Program → World → Store → ℕ → List Value → ℕ → Ending
call p world store f args ticks =
    call_with p world (suc ticks) 0 f args (record { store = store; locals = []; sends = []; ticks = ticks })
