-- Fuel above the ticks is enough: no call that has fewer ticks left than fuel is starved, and none leaves more ticks
-- than it had.
use Rattle.std.proofs.Common.{ℕ, zero, suc, ◌<◌, ◌≤◌, Bool, true, false, ℤ, pos, List, [], ◌∷◌, Option, Some, None, Ok, Err, arith}
use Rattle.std.specs.Prelude.{slice_get, nat_lt}
use Rattle.lu_base.specs.declared.limits.TheConstants.{FRAMES}
use Rattle.src_tree.specs.declared.value.Value.{Value, Int, Null, Pointer, Function}
use Rattle.src_tree.specs.declared.expr.TypedExpr.{TypedExpr}
use Rattle.src_tree.specs.declared.expr.TypedPlace.{TypedPlace}
use Rattle.src_tree.specs.declared.stmt.Callee as Text
use Rattle.src_tree.specs.declared.stmt.Callee.TheVariants as C
use Rattle.src_tree.specs.declared.stmt.Rhs.{Rhs}
use Rattle.src_tree.specs.declared.stmt.Rhs.TheVariants as R
use Rattle.src_tree.specs.declared.stmt.TypedStmt.{TypedStmt, Block', Empty, Declare, SetLocal, Assign, Call, If', While', For', Break, Continue, Return, Row_of-TypedStmt, end_of-TypedStmt, more_of-TypedStmt}
use Rattle.src_tree.specs.declared.program.Function as F
use Rattle.src_tree.specs.declared.program.Program.{Program}
use Rattle.lu_spec.specs.Then.{then_do}
use Rattle.lu_base.specs.declared.trap.Trap.TheVariants.{BadCode}
use Rattle.src_meaning.specs.Objects.{Gives, or_trap, value_at, allocated, freed}
use Rattle.src_meaning.specs.Operators.{converted}
use Rattle.src_meaning.specs.Assignment.{assigned}
use Rattle.lu_base.specs.declared.world.World.{World}
use Rattle.lu_base.specs.Sending.{sent}
use Rattle.src_meaning.specs.Sending.{m_out, message_of}
use Rattle.src_meaning.specs.Call.{State, Ending, Returned, Trapped, Starved, Outcome, Goes_on, Breaks, Continues, Leaves, Callee, Context, with_gives, go_on, tick_at, tick, branch, test_in, test_of, resume, call_pointer, allocate, perform, call_of, rhs_in, declare, return_of, assign, after_turn, turns, run_statement, run_row, run_body, fall_off, with_store, value_in, values_in, only_value, only_int, zero_local, scope_of, context_of, entry_locals, enter, with_frame, call_with}

-- the end came before the fuel's, with no more than b ticks left
abbrev pub IsWithin : ℕ → Ending → Type 0
IsWithin b (Returned r store sends ticks) = ticks ≤ b
IsWithin b (Trapped t ticks) = ticks ≤ b
IsWithin b Starved = ⊥

abbrev pub Within : ℕ → Outcome → Type 0
Within b (Goes_on s) = s.ticks ≤ b
Within b (Breaks s) = s.ticks ≤ b
Within b (Continues s) = s.ticks ≤ b
Within b (Leaves e) = IsWithin b e

-- calls with at most b ticks left are not starved, and leave no more ticks than they had
abbrev pub Spends : ℕ → Callee → Type 0
Spends b call = (f : ℕ) (vs : List Value) (s : State) → s.ticks ≤ b → IsWithin s.ticks (call f vs s)

le_self : (n : ℕ) → n ≤ n
le_self n = omega arith

more_ending : (a b : ℕ) (e : Ending) → a ≤ b → IsWithin a e → IsWithin b e
more_ending a b (Returned r store sends t) h k = omega (arith, k)
more_ending a b (Trapped t n) h k = omega (arith, k)
more_ending a b Starved h k = k

more_within : (a b : ℕ) (o : Outcome) → a ≤ b → Within a o → Within b o
more_within a b (Goes_on s) h k = omega (arith, k)
more_within a b (Breaks s) h k = omega (arith, k)
more_within a b (Continues s) h k = omega (arith, k)
more_within a b (Leaves e) h k = more_ending a b e h k

gives_within : {A : Type 0} (b : ℕ) (r : Gives A) (s : State) (f : A → Outcome) → s.ticks ≤ b → ((a : A) → Within b (f a)) → Within b (with_gives r s f)
gives_within b (Ok a) s f le h = h a
gives_within b (Err t) s f le h = le

go_within : (b : ℕ) (o : Outcome) (f : State → Outcome) → Within b o → ((s : State) → s.ticks ≤ b → Within b (f s)) → Within b (go_on o f)
go_within b (Goes_on s) f h k = k s h
go_within b (Breaks s) f h k = h
go_within b (Continues s) f h k = h
go_within b (Leaves e) f h k = h

turn_within : (b : ℕ) (o : Outcome) (f : State → Outcome) → Within b o → ((s : State) → s.ticks ≤ b → Within b (f s)) → Within b (after_turn o f)
turn_within b (Goes_on s) f h k = k s h
turn_within b (Breaks s) f h k = h
turn_within b (Continues s) f h k = k s h
turn_within b (Leaves e) f h k = h

branch_within : (b : ℕ) (z : Bool) (f g : State → Outcome) (s : State) → Within b (f s) → Within b (g s) → Within b (branch z f g s)
branch_within b true f g s h k = h
branch_within b false f g s h k = k

tick_within : (t b : ℕ) (s : State) (f : State → Outcome) → t ≤ b → ((n : ℕ) → n < t → Within b (f (record s { ticks = n }))) → Within b (tick_at t s f)
tick_within zero b s f le h = omega arith
tick_within (suc t) b s f le h = h t (omega arith)

-- what follows a value, in a state with no more ticks
abbrev Follows : {A : Type 0} → ℕ → (A → State → Outcome) → Type 0
Follows {A} b f = (a : A) (next : State) → next.ticks ≤ b → Within b (f a next)

resume_within : (b : ℕ) (s : State) (e : Ending) (f : Option Value → State → Outcome) → IsWithin b e → Follows b f → Within b (resume s e f)
resume_within b s (Returned r store sends t) f h k = k r (record { store = store; locals = s.locals; sends = sends; ticks = t }) h
resume_within b s (Trapped t n) f h k = h
resume_within b s Starved f h k = h

module _ (c : Context) (b : ℕ) (spends : Spends b c.call) where
  pointer_within : (g : Value) (vs : List Value) (s : State) (f : Option Value → State → Outcome) → s.ticks ≤ b → Follows s.ticks f → Within s.ticks (call_pointer c g vs s f)
  pointer_within Null vs s f le h = omega arith
  pointer_within (Function g) vs s f le h = resume_within s.ticks s (c.call g vs s) f (spends g vs s le) h
  pointer_within (Int z) vs s f le h = omega arith
  pointer_within (Pointer o k) vs s f le h = omega arith
  pointer_within _ vs s f le h = omega arith

  allocate_within : (site : ℕ) (count : ℤ) (s : State) (f : Option Value → State → Outcome) → Follows s.ticks f → Within s.ticks (allocate c site count s f)
  allocate_within site count s f h = gives_within s.ticks (or_trap BadCode (slice_get c.program.sites site)) s _ (le_self s.ticks) (λ d. h (Some (allocated c.program.types s.store site d.elem count).0) (with_store (allocated c.program.types s.store site d.elem count).1 s) (le_self s.ticks))

  perform_within : (callee : Text.Callee) (vs : List Value) (s : State) (f : Option Value → State → Outcome) → s.ticks ≤ b → Follows s.ticks f → Within s.ticks (perform c callee vs s f)
  perform_within (C.Function g) vs s f le h = resume_within s.ticks s (c.call g vs s) f (spends g vs s le) h
  perform_within (C.Pointer e) vs s f le h = omega arith
  perform_within C.Send vs s f le h =
      gives_within s.ticks (only_int vs) s _ (le_self s.ticks) (λ to. gives_within s.ticks (then_do (value_at s.store m_out) message_of) s _ (le_self s.ticks) (λ m. h (Some (Int (sent c.world s.sends to m).0)) (record s { sends = (sent c.world s.sends to m).1 }) (le_self s.ticks)))
  perform_within (C.Malloc site) vs s f le h = allocate_within site (pos 1) s f h
  perform_within (C.Calloc site) vs s f le h = gives_within s.ticks (only_int vs) s _ (le_self s.ticks) (λ count. allocate_within site count s f h)
  perform_within C.Free vs s f le h = gives_within s.ticks (then_do (only_value vs) (freed s.store)) s _ (le_self s.ticks) (λ store. h None (with_store store s) (le_self s.ticks))
  perform_within C.Panic vs s f le h = gives_within s.ticks (only_int vs) s _ (le_self s.ticks) (λ n. le_self s.ticks)

  call_within : (callee : Text.Callee) (args : List TypedExpr) (s : State) (f : Option Value → State → Outcome) → s.ticks ≤ b → Follows s.ticks f → Within s.ticks (call_of c callee args s f)
  call_within (C.Pointer e) args s f le h =
      gives_within s.ticks (value_in c e s) s _ (le_self s.ticks) (λ g. gives_within s.ticks (values_in c args s) s _ (le_self s.ticks) (λ vs. pointer_within g vs s f le h))
  call_within (C.Function g) args s f le h = gives_within s.ticks (values_in c args s) s _ (le_self s.ticks) (λ vs. perform_within (C.Function g) vs s f le h)
  call_within C.Send args s f le h = gives_within s.ticks (values_in c args s) s _ (le_self s.ticks) (λ vs. perform_within C.Send vs s f le h)
  call_within (C.Malloc site) args s f le h = gives_within s.ticks (values_in c args s) s _ (le_self s.ticks) (λ vs. perform_within (C.Malloc site) vs s f le h)
  call_within (C.Calloc site) args s f le h = gives_within s.ticks (values_in c args s) s _ (le_self s.ticks) (λ vs. perform_within (C.Calloc site) vs s f le h)
  call_within C.Free args s f le h = gives_within s.ticks (values_in c args s) s _ (le_self s.ticks) (λ vs. perform_within C.Free vs s f le h)
  call_within C.Panic args s f le h = gives_within s.ticks (values_in c args s) s _ (le_self s.ticks) (λ vs. perform_within C.Panic vs s f le h)

  rhs_within : (r : Rhs) (s : State) (f : Value → State → Outcome) → s.ticks ≤ b → Follows s.ticks f → Within s.ticks (rhs_in c r s f)
  rhs_within (R.Value e) s f le h = gives_within s.ticks (value_in c e s) s _ (le_self s.ticks) (λ v. h v s (le_self s.ticks))
  rhs_within (R.Call d t) s f le h =
      call_within d.callee d.args s _ le (λ r next k. gives_within s.ticks (then_do (or_trap BadCode r) (converted c.program.types t)) next _ k (λ v. h v next k))

  declare_within : (x : ℕ) (r : Option Rhs) (s : State) → s.ticks ≤ b → Within s.ticks (declare c x r s)
  declare_within x None s le = gives_within s.ticks (zero_local c x) s _ (le_self s.ticks) (λ v. le_self s.ticks)
  declare_within x (Some r) s le = rhs_within r s _ le (λ v next k. k)

  return_within : (r : Option Rhs) (s : State) → s.ticks ≤ b → Within s.ticks (return_of c r s)
  return_within None s le = omega arith
  return_within (Some r) s le = rhs_within r s _ le (λ v next k. k)

  assign_within : (to : TypedPlace) (r : Rhs) (s : State) → s.ticks ≤ b → Within s.ticks (assign c to r s)
  assign_within to r s le = rhs_within r s _ le (λ v next k. gives_within s.ticks (assigned (scope_of c next) to v) next _ k (λ store. k))

-- a piece of text that leaves no more ticks than it had
abbrev pub Keeps : ℕ → (State → Outcome) → Type 0
Keeps b run = (s : State) → s.ticks ≤ b → Within s.ticks (run s)

turns_within : (n b : ℕ) (test : State → Gives Bool) (body step : State → Outcome) → Keeps b body → Keeps b step → (s : State) → s.ticks ≤ b → s.ticks < n → Within s.ticks (turns n test body step s)
turns_within zero b test body step h k s le lt = absurd (omega arith)
turns_within (suc n) b test body step h k s le lt =
    gives_within s.ticks (test s) s _ (omega arith) (λ z. branch_within s.ticks z _ Goes_on s (turn_within s.ticks (body s) _ (h s le) (after (turns_within n b test body step h k))) (le_self s.ticks))
  where
    after : ((s : State) → s.ticks ≤ b → s.ticks < n → Within s.ticks (turns n test body step s)) → (x : State) → x.ticks ≤ s.ticks → Within s.ticks (go_on (step x) (λ next. tick next (turns n test body step)))
    after more x i = go_within s.ticks (step x) _ (more_within x.ticks s.ticks (step x) i (k x (omega (arith, i, le)))) (λ y j. tick_within y.ticks s.ticks y _ j (λ m less. more_within m s.ticks _ (omega (arith, j, less)) (more (record y { ticks = m }) (omega (arith, j, less, le)) (omega (arith, j, less, lt)))))

module _ (c : Context) (b : ℕ) (spends : Spends b c.call) (enough : b < c.fuel) where
  mutual
    pub statement_within : (x : TypedStmt) → Keeps b (run_statement x c)
    statement_within (Block' m body) s le = row_within body s le
    statement_within Empty s le = omega arith
    statement_within (Declare x r) s le = declare_within c b spends x r s le
    statement_within (SetLocal x r) s le = rhs_within c b spends r s _ le (λ v next k. k)
    statement_within (Assign to r) s le = assign_within c b spends to r s le
    statement_within (Call d) s le = call_within c b spends d.callee d.args s _ le (λ r next k. k)
    statement_within (If' e m x n y) s le =
        gives_within s.ticks (test_in c e s) s _ (omega arith) (λ z. branch_within s.ticks z (run_row x c) (run_row y c) s (row_within x s le) (row_within y s le))
    statement_within (While' e m body) s le =
        turns_within c.fuel b (test_in c e) (run_row body c) Goes_on (row_within body) (λ s le. omega arith) s le (omega (arith, le, enough))
    statement_within (For' m first e n step k body) s le =
        go_within s.ticks (run_row first c s) _ (row_within first s le) (λ next i. more_within next.ticks s.ticks _ i (turns_within c.fuel b (test_of c e) (run_row body c) (run_row step c) (row_within body) (row_within step) next (omega (arith, i, le)) (omega (arith, i, le, enough))))
    statement_within Break s le = omega arith
    statement_within Continue s le = omega arith
    statement_within (Return r) s le = return_within c b spends r s le

    pub row_within : {m : _} (xs : Row_of-TypedStmt m) → Keeps b (run_row xs c)
    row_within end_of-TypedStmt s le = omega arith
    row_within (more_of-TypedStmt x rest) s le =
        go_within s.ticks (run_statement x c s) _ (statement_within x s le) (λ next k. more_within next.ticks s.ticks _ k (row_within rest next (omega (arith, k, le))))

  pub body_within : (xs : List TypedStmt) → Keeps b (run_body xs c)
  body_within [] s le = omega arith
  body_within (x ∷ rest) s le =
      go_within s.ticks (run_statement x c s) _ (statement_within x s le) (λ next k. more_within next.ticks s.ticks _ k (body_within rest next (omega (arith, k, le))))

fall_within : (p : _) (ret : Option ℕ) (b : ℕ) (o : Outcome) → Within b o → IsWithin b (fall_off p ret o)
fall_within p ret b (Goes_on s) h = h
fall_within p ret b (Breaks s) h = h
fall_within p ret b (Continues s) h = h
fall_within p ret b (Leaves e) h = h

frame_within : (b : ℕ) (z : Bool) (f : State → Ending) (s : State) → s.ticks ≤ b → IsWithin b (f s) → IsWithin b (with_frame z f s)
frame_within b true f s le h = h
frame_within b false f s le h = le

-- a call with more fuel than ticks
pub call_with_within : (p : Program) (world : World) (n depth f : ℕ) (vs : List Value) (s : State) → s.ticks < n → IsWithin s.ticks (call_with p world n depth f vs s)
call_with_within p world zero depth f vs s lt = absurd (omega arith)
call_with_within p world (suc n) depth f vs s lt =
    frame_within s.ticks (nat_lt depth FRAMES) _ s (omega arith) (entered (slice_get p.functions f) (call_with_within p world n (suc depth)))
  where
    entered : (o : Option F.Function) → ((f : ℕ) (vs : List Value) (s : State) → s.ticks < n → IsWithin s.ticks (call_with p world n (suc depth) f vs s)) → IsWithin s.ticks (enter p world (call_with p world n (suc depth)) (suc n) o vs s)
    entered None h = omega arith
    entered (Some d) h =
        fall_within p.types d.ret s.ticks _ (tick_within s.ticks s.ticks (record s { locals = entry_locals p.types d vs }) _ (omega arith) (λ j less. more_within j s.ticks _ (omega (arith, less)) (body_within (context_of p world d (call_with p world n (suc depth)) (suc n)) j (λ g ws x le. h g ws x (omega (arith, le, less, lt))) (omega (arith, less, lt)) d.body (record s { locals = entry_locals p.types d vs; ticks = j }) (omega arith))))
