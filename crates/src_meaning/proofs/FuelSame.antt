-- Any two fuels above the ticks give one end: the fuel is no part of what a call means.
use Rattle.std.proofs.Common.{◌≡◌, ◌∙◌, refl, ap, ℕ, zero, suc, ◌<◌, ◌≤◌, Bool, true, false, List, [], ◌∷◌, Option, Some, None, Ok, Err, arith}
use Rattle.std.specs.Prelude.{slice_get, nat_lt}
use Rattle.lu_spec.specs.Then.{then_do}
use Rattle.lu_base.specs.declared.limits.TheConstants.{FRAMES}
use Rattle.src_tree.specs.declared.value.Value.{Value, Int, Null, Pointer, Function}
use Rattle.src_tree.specs.declared.expr.TypedExpr.{TypedExpr}
use Rattle.src_tree.specs.declared.stmt.Callee as Text
use Rattle.src_tree.specs.declared.stmt.Callee.TheVariants as C
use Rattle.src_tree.specs.declared.stmt.Rhs.{Rhs}
use Rattle.src_tree.specs.declared.stmt.Rhs.TheVariants as R
use Rattle.src_tree.specs.declared.stmt.TypedStmt.{TypedStmt, Block', Empty, Declare, SetLocal, Assign, Call, If', While', For', Break, Continue, Return, Row_of-TypedStmt, end_of-TypedStmt, more_of-TypedStmt}
use Rattle.src_tree.specs.declared.program.Function as F
use Rattle.src_tree.specs.declared.program.Program.{Program}
use Rattle.src_meaning.specs.Objects.{Gives}
use Rattle.lu_base.specs.declared.world.World.{World}
use Rattle.src_meaning.specs.Call.{State, Ending, Outcome, Goes_on, Breaks, Continues, Leaves, Callee, Context, with_gives, go_on, tick_at, tick, branch, test_in, test_of, value_in, values_in, resume, call_pointer, perform, call_of, rhs_in, declare, return_of, after_turn, turns, run_statement, run_row, run_body, fall_off, types_of, entry_locals, enter, with_frame, call_with}
use Rattle.src_meaning.proofs.Fuel.{Within, Spends, Keeps, statement_within, row_within, call_with_within}

-- two callees that end alike as long as no more than b ticks are left
abbrev pub AreAlike : ℕ → Callee → Callee → Type 0
AreAlike b x y = (f : ℕ) (vs : List Value) (s : State) → s.ticks ≤ b → x f vs s ≡ y f vs s

gives_same : {A : Type 0} (r : Gives A) (s : State) (f g : A → Outcome) → ((a : A) → f a ≡ g a) → with_gives r s f ≡ with_gives r s g
gives_same (Ok a) s f g h = h a
gives_same (Err t) s f g h = refl

go_same : (b : ℕ) (o : Outcome) (f g : State → Outcome) → Within b o → ((s : State) → s.ticks ≤ b → f s ≡ g s) → go_on o f ≡ go_on o g
go_same b (Goes_on s) f g h k = k s h
go_same b (Breaks s) f g h k = refl
go_same b (Continues s) f g h k = refl
go_same b (Leaves e) f g h k = refl

turn_same : (b : ℕ) (o : Outcome) (f g : State → Outcome) → Within b o → ((s : State) → s.ticks ≤ b → f s ≡ g s) → after_turn o f ≡ after_turn o g
turn_same b (Goes_on s) f g h k = k s h
turn_same b (Breaks s) f g h k = refl
turn_same b (Continues s) f g h k = k s h
turn_same b (Leaves e) f g h k = refl

branch_same : (z : Bool) (f g h k : State → Outcome) (s : State) → f s ≡ h s → g s ≡ k s → branch z f g s ≡ branch z h k s
branch_same true f g h k s i j = i
branch_same false f g h k s i j = j

tick_same : (t : ℕ) (s : State) (f g : State → Outcome) → ((n : ℕ) → n < t → f (record s { ticks = n }) ≡ g (record s { ticks = n })) → tick_at t s f ≡ tick_at t s g
tick_same zero s f g h = refl
tick_same (suc t) s f g h = h t (omega arith)

abbrev AreSame : ℕ → (State → Outcome) → (State → Outcome) → Type 0
AreSame b r q = (s : State) → s.ticks ≤ b → r s ≡ q s

turns_same : (n m b : ℕ) (test : State → Gives Bool) (r q i j : State → Outcome) → Keeps b r → Keeps b i → AreSame b r q → AreSame b i j → (s : State) → s.ticks ≤ b → s.ticks < n → s.ticks < m → turns n test r i s ≡ turns m test q j s
turns_same zero m b test r q i j kr ki rq ij s le ln lm = absurd (omega arith)
turns_same (suc n) zero b test r q i j kr ki rq ij s le ln lm = absurd (omega arith)
turns_same (suc n) (suc m) b test r q i j kr ki rq ij s le ln lm =
    gives_same (test s) s _ _ (λ z. branch_same z _ Goes_on _ Goes_on s (turn (turns_same n m b test r q i j kr ki rq ij)) refl)
  where
    turn : ((x : State) → x.ticks ≤ b → x.ticks < n → x.ticks < m → turns n test r i x ≡ turns m test q j x) → after_turn (r s) (λ after. go_on (i after) (λ next. tick next (turns n test r i))) ≡ after_turn (q s) (λ after. go_on (j after) (λ next. tick next (turns m test q j)))
    turn more =
        turn_same s.ticks (r s) _ _ (kr s le) (λ x u. go_same x.ticks (i x) _ _ (ki x (omega (arith, u, le))) (λ y v. tick_same y.ticks y _ _ (λ k less. more (record y { ticks = k }) (omega (arith, less, v, u, le)) (omega (arith, less, v, u, ln)) (omega (arith, less, v, u, lm))))
        ∙ ap (λ o. go_on o (λ next. tick next (turns m test q j))) (ij x (omega (arith, u, le))))
        ∙ ap (λ o. after_turn o (λ after. go_on (j after) (λ next. tick next (turns m test q j)))) (rq s le)

abbrev context : Program → World → List ℕ → Callee → ℕ → Context
context p world types x n = record { program = p; world = world; local_types = types; call = x; fuel = n }

module _ (p : Program) (world : World) (types : List ℕ) (x y : Callee) (n m b : ℕ) (alike : AreAlike b x y) where
  pointer_same : (g : Value) (vs : List Value) (s : State) (f : Option Value → State → Outcome) → s.ticks ≤ b → call_pointer (context p world types x n) g vs s f ≡ call_pointer (context p world types y m) g vs s f
  pointer_same Null vs s f le = refl
  pointer_same (Function g) vs s f le = ap (λ e. resume s e f) (alike g vs s le)
  pointer_same (Int z) vs s f le = refl
  pointer_same (Pointer o k) vs s f le = refl
  pointer_same _ vs s f le = refl

  perform_same : (callee : Text.Callee) (vs : List Value) (s : State) (f : Option Value → State → Outcome) → s.ticks ≤ b → perform (context p world types x n) callee vs s f ≡ perform (context p world types y m) callee vs s f
  perform_same (C.Function g) vs s f le = ap (λ e. resume s e f) (alike g vs s le)
  perform_same (C.Pointer e) vs s f le = refl
  perform_same C.Send vs s f le = refl
  perform_same (C.Malloc site) vs s f le = refl
  perform_same (C.Calloc site) vs s f le = refl
  perform_same C.Free vs s f le = refl
  perform_same C.Panic vs s f le = refl

  args_same : (callee : Text.Callee) (args : List TypedExpr) (s : State) (f : Option Value → State → Outcome) → s.ticks ≤ b → with_gives (values_in (context p world types x n) args s) s (λ vs. perform (context p world types x n) callee vs s f) ≡ with_gives (values_in (context p world types x n) args s) s (λ vs. perform (context p world types y m) callee vs s f)
  args_same callee args s f le = gives_same (values_in (context p world types x n) args s) s _ _ (λ vs. perform_same callee vs s f le)

  values_same : (args : List TypedExpr) (s : State) → values_in (context p world types x n) args s ≡ values_in (context p world types y m) args s
  values_same [] s = refl
  values_same (e ∷ es) s =
      ap (λ r. then_do (value_in (context p world types x n) e s) (λ v. then_do r (λ vs. Ok (v ∷ vs)))) (values_same es s)

  all_same : (callee : Text.Callee) (args : List TypedExpr) (s : State) (f : Option Value → State → Outcome) → s.ticks ≤ b → with_gives (values_in (context p world types x n) args s) s (λ vs. perform (context p world types x n) callee vs s f) ≡ with_gives (values_in (context p world types y m) args s) s (λ vs. perform (context p world types y m) callee vs s f)
  all_same callee args s f le =
      args_same callee args s f le ∙ ap (λ r. with_gives r s (λ vs. perform (context p world types y m) callee vs s f)) (values_same args s)

  call_of_same : (callee : Text.Callee) (args : List TypedExpr) (s : State) (f : Option Value → State → Outcome) → s.ticks ≤ b → call_of (context p world types x n) callee args s f ≡ call_of (context p world types y m) callee args s f
  call_of_same (C.Pointer e) args s f le =
      gives_same (value_in (context p world types x n) e s) s _ _ (λ g. gives_same (values_in (context p world types x n) args s) s _ _ (λ vs. pointer_same g vs s f le)
      ∙ ap (λ r. with_gives r s (λ vs. call_pointer (context p world types y m) g vs s f)) (values_same args s))
  call_of_same (C.Function g) args s f le = all_same (C.Function g) args s f le
  call_of_same C.Send args s f le = all_same C.Send args s f le
  call_of_same (C.Malloc site) args s f le = all_same (C.Malloc site) args s f le
  call_of_same (C.Calloc site) args s f le = all_same (C.Calloc site) args s f le
  call_of_same C.Free args s f le = all_same C.Free args s f le
  call_of_same C.Panic args s f le = all_same C.Panic args s f le

  rhs_same : (r : Rhs) (s : State) (f : Value → State → Outcome) → s.ticks ≤ b → rhs_in (context p world types x n) r s f ≡ rhs_in (context p world types y m) r s f
  rhs_same (R.Value e) s f le = refl
  rhs_same (R.Call d t) s f le = call_of_same d.callee d.args s _ le

  declare_same : (z : ℕ) (r : Option Rhs) (s : State) → s.ticks ≤ b → declare (context p world types x n) z r s ≡ declare (context p world types y m) z r s
  declare_same z None s le = refl
  declare_same z (Some r) s le = rhs_same r s _ le

  return_same : (r : Option Rhs) (s : State) → s.ticks ≤ b → return_of (context p world types x n) r s ≡ return_of (context p world types y m) r s
  return_same None s le = refl
  return_same (Some r) s le = rhs_same r s _ le

  condition_same : (k : ℕ) (e : Option TypedExpr) (r j : State → Outcome) (s : State) → turns k (test_of (context p world types x n) e) r j s ≡ turns k (test_of (context p world types y m) e) r j s
  condition_same k None r j s = refl
  condition_same k (Some e) r j s = refl

module _ (p : Program) (world : World) (types : List ℕ) (x y : Callee) (n m b : ℕ) (spends : Spends b x) (alike : AreAlike b x y) (ln : b < n) (lm : b < m) where
  mutual
    statement_same : (z : TypedStmt) → AreSame b (run_statement z (context p world types x n)) (run_statement z (context p world types y m))
    statement_same (Block' k body) s le = row_same body s le
    statement_same Empty s le = refl
    statement_same (Declare z r) s le = declare_same p world types x y n m b alike z r s le
    statement_same (SetLocal z r) s le = rhs_same p world types x y n m b alike r s _ le
    statement_same (Assign to r) s le = rhs_same p world types x y n m b alike r s _ le
    statement_same (Call d) s le = call_of_same p world types x y n m b alike d.callee d.args s _ le
    statement_same (If' e k u j v) s le =
        gives_same (test_in (context p world types x n) e s) s _ _ (λ z. branch_same z _ _ _ _ s (row_same u s le) (row_same v s le))
    statement_same (While' e k body) s le =
        turns_same n m b (test_in (context p world types x n) e) (run_row body (context p world types x n)) (run_row body (context p world types y m)) Goes_on Goes_on (row_within (context p world types x n) b spends ln body) (λ s le. omega arith) (row_same body) (λ s le. refl) s le (omega (arith, le, ln)) (omega (arith, le, lm))
    statement_same (For' k first e j step i body) s le =
        go_same s.ticks (run_row first (context p world types x n) s) _ _ (row_within (context p world types x n) b spends ln first s le) (λ next u. turns_same n m b (test_of (context p world types x n) e) (run_row body (context p world types x n)) (run_row body (context p world types y m)) (run_row step (context p world types x n)) (run_row step (context p world types y m)) (row_within (context p world types x n) b spends ln body) (row_within (context p world types x n) b spends ln step) (row_same body) (row_same step) next (omega (arith, u, le)) (omega (arith, u, le, ln)) (omega (arith, u, le, lm))
        ∙ condition_same p world types x y n m b alike m e (run_row body (context p world types y m)) (run_row step (context p world types y m)) next)
        ∙ ap (λ o. go_on o (turns m (test_of (context p world types y m) e) (run_row body (context p world types y m)) (run_row step (context p world types y m)))) (row_same first s le)
    statement_same Break s le = refl
    statement_same Continue s le = refl
    statement_same (Return r) s le = return_same p world types x y n m b alike r s le

    row_same : {k : _} (xs : Row_of-TypedStmt k) → AreSame b (run_row xs (context p world types x n)) (run_row xs (context p world types y m))
    row_same end_of-TypedStmt s le = refl
    row_same (more_of-TypedStmt z rest) s le =
        go_same s.ticks (run_statement z (context p world types x n) s) _ _ (statement_within (context p world types x n) b spends ln z s le) (λ next k. row_same rest next (omega (arith, k, le)))
        ∙ ap (λ o. go_on o (run_row rest (context p world types y m))) (statement_same z s le)

  body_same : (xs : List TypedStmt) → AreSame b (run_body xs (context p world types x n)) (run_body xs (context p world types y m))
  body_same [] s le = refl
  body_same (z ∷ rest) s le =
      go_same s.ticks (run_statement z (context p world types x n) s) _ _ (statement_within (context p world types x n) b spends ln z s le) (λ next k. body_same rest next (omega (arith, k, le)))
      ∙ ap (λ o. go_on o (run_body rest (context p world types y m))) (statement_same z s le)

frame_same : (z : Bool) (f g : State → Ending) (s : State) → f s ≡ g s → with_frame z f s ≡ with_frame z g s
frame_same true f g s e = e
frame_same false f g s e = refl

-- fuel past the ticks changes nothing
pub call_with-same : (p : Program) (world : World) (n m depth f : ℕ) (vs : List Value) (s : State) → s.ticks < n → s.ticks < m → call_with p world n depth f vs s ≡ call_with p world m depth f vs s
call_with-same p world zero m depth f vs s ln lm = absurd (omega arith)
call_with-same p world (suc n) zero depth f vs s ln lm = absurd (omega arith)
call_with-same p world (suc n) (suc m) depth f vs s ln lm =
    frame_same (nat_lt depth FRAMES) _ _ s (entered (slice_get p.functions f) (call_with-same p world n m (suc depth)))
  where
    entered : (o : Option F.Function) → ((f : ℕ) (vs : List Value) (s : State) → s.ticks < n → s.ticks < m → call_with p world n (suc depth) f vs s ≡ call_with p world m (suc depth) f vs s) → enter p world (call_with p world n (suc depth)) (suc n) o vs s ≡ enter p world (call_with p world m (suc depth)) (suc m) o vs s
    entered None same = refl
    entered (Some d) same =
        ap (fall_off p.types d.ret) (tick_same s.ticks (record s { locals = entry_locals p.types d vs }) _ _ (λ j less. body_same p world (types_of d) (call_with p world n (suc depth)) (call_with p world m (suc depth)) (suc n) (suc m) j (λ g ws x le. call_with_within p world n (suc depth) g ws x (omega (arith, le, less, ln))) (λ g ws x le. same g ws x (omega (arith, le, less, ln)) (omega (arith, le, less, lm))) (omega (arith, less, ln)) (omega (arith, less, lm)) d.body (record s { locals = entry_locals p.types d vs; ticks = j }) (omega arith)))
