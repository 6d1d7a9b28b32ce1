-- How long loops may turn: proved by induction, and then said of a delivery's 1,000,000 ticks.
use Rattle.std.proofs.Common.{◌≡◌, ◌∙◌, refl, ap, sym, ℕ, zero, suc, ◌+◌, ◌<◌, ◌≤◌, ◌^◌, ◌%◌, Bool, true, false, if◌then◌else◌, ℤ, pos, List, [], ◌∷◌, Option, Some, None, Ok, Err, slice_get, lit<, arith}
use Rattle.std.specs.Prelude.{nat_lt}
use Rattle.std.specs.Int.{w32, cast_signed}
use Rattle.std.proofs.Math.Nat.{mod-eq_of_lt}
use Rattle.std.proofs.lemmas.Int.{to_z_pos}
use Rattle.std.proofs.lemmas.Bool.Decides.{nat_tests}
use Rattle.lu_base.specs.declared.message.Message.{Message}
use Rattle.lu_base.specs.declared.trap.Trap.TheVariants as X
use Rattle.c_types.specs.declared.parts.IntKind.TheVariants as K
use Rattle.lu_base.specs.declared.limits.TheConstants.{CALL_TICKS}
use Rattle.src_tree.specs.declared.value.Value as V1
use Rattle.src_tree.specs.declared.value.Value.TheBlock as V
use Rattle.src_tree.specs.declared.value.Store.{Store}
use Rattle.src_tree.specs.declared.expr.TypedExpr.{TypedExpr}
use Rattle.src_tree.specs.declared.expr.ExprKind.TheBlock as E
use Rattle.src_tree.specs.declared.stmt.TypedStmt.TheBlock as S
use Rattle.src_tree.specs.declared.stmt.TypedStmt.{TypedStmt, While, Block}
use Rattle.src_tree.specs.declared.expr.BinaryOperator.TheVariants as B
use Rattle.src_tree.specs.declared.program.Function.{Function}
use Rattle.src_tree.specs.declared.program.Program.{Program}
use Rattle.src_meaning.specs.Integers.{wrapped}
use Rattle.src_meaning.specs.Objects.{Gives}
use Rattle.src_meaning.specs.Operators.{is_true}
use Rattle.src_meaning.specs.Call.{State, Ending, Returned, Outcome, Trapped, Goes_on, Leaves, Context, with_gives, branch, after_turn, go_on, tick, test_in, turns, run_statement, run_body, fall_off, context_of, call_with, call}
use Rattle.src_meaning.specs.Delivery.{ended, delivered, function_named, with_message, with_no_messages, run_named, deliver}
use Rattle.src_meaning.specs.Initial.{initial_store}
use Rattle.src_meaning.proofs.Sample.{parts, program, function, world, client, num, local, two, set_local, seen_of, seen, sends, trap, on_message_name}

abbrev with_ticks : State → ℕ → State
with_ticks s t = record s { ticks = t }

-- `while (1) { }` uses up what is left
forever : (c : Context) (n t : ℕ) (s : State) → t < n → turns n (test_in c (num (pos 1))) (λ s. Goes_on s) Goes_on (with_ticks s t) ≡ Leaves (Trapped X.Budget 0)
forever c zero t s h = absurd (omega arith)
forever c (suc n) zero s h = refl
forever c (suc n) (suc t) s h = forever c n t s (omega (arith, h))

abbrev endless : TypedStmt
endless = While (num (pos 1)) (Block [])

abbrev endless_program : Program
endless_program = program [] [] (endless ∷ []) []

abbrev at_start : Store → State
at_start store = record { store = store; locals = []; sends = []; ticks = 0 }

-- however many ticks it is given, it traps with none left
endless_traps : (t : ℕ) (store : Store) → call endless_program world store 1 [] (suc t) ≡ Trapped X.Budget 0
unfolding S.shape-the_row-TypedStmt-0 S.hidden-the_row-TypedStmt-0 S.shape-the_row-TypedStmt-1 S.hidden-the_row-TypedStmt-1 denote.Hole.Carrier.hidden
endless_traps t store =
    let c = context_of endless_program world (function 1 [] (endless ∷ [])) (call_with endless_program world (suc t) 1) (suc (suc t)) in
    ap (λ o. fall_off parts None (go_on o (run_body [] c))) (forever c (suc (suc t)) t (at_start store) (omega arith))

-- `while (i < n) i = i + 1;`
abbrev step : TypedStmt
step = set_local 0 (two 0 B.Add (local 0) (num (pos 1)))

abbrev below : ℕ → TypedExpr
below n = two 0 B.Less (local 0) (num (pos n))

abbrev counting : ℕ → TypedStmt
counting n = While (below n) step

abbrev counting_program : ℕ → Program
counting_program n = program [] (0 ∷ []) (counting n ∷ []) []

abbrev counted : ℕ → State → ℕ → State
counted t s x = record s { locals = V.Int (pos x) ∷ []; ticks = t }

small_int : (n : ℕ) → n < 2 ^ 31 → wrapped K.Int (pos n) ≡ pos n
small_int n h =
    let fits : n < 2 ^ 32 = omega arith in
    ap (cast_signed w32) (mod-eq_of_lt fits) ∙ to_z_pos w32 n h

turn : (m : ℕ) (test : State → Gives Bool) (body : State → Outcome) (s next : State) → test s ≡ Ok true → body s ≡ Goes_on next → turns (suc m) test body Goes_on s ≡ tick next (turns m test body Goes_on)
turn m test body s next e f =
    ap (λ r. with_gives r s (λ b. branch b (λ s. after_turn (body s) (λ after. go_on (Goes_on after) (λ next. tick next (turns m test body Goes_on)))) Goes_on s)) e
    ∙ ap (λ o. after_turn o (λ after. go_on (Goes_on after) (λ next. tick next (turns m test body Goes_on)))) f

module _ (n : ℕ) (small : n < 2 ^ 31) (store : Store) (callee : ℕ → List V1.Value → State → Ending) (fuel : ℕ) where
  abbrev c : Context
  c = context_of (counting_program n) world (function 1 (0 ∷ []) (counting n ∷ [])) callee fuel

  abbrev body : State → Outcome
  body s = go_on (run_statement step c s) (λ s. Goes_on s)

  abbrev at : ℕ → ℕ → State
  at x t = counted t (at_start store) x

  test_is : (b : Bool) (x t : ℕ) → nat_lt x n ≡ b → test_in c (below n) (at x t) ≡ Ok b
  unfolding E.shape-the_row-TypedExpr-1 E.hidden-the_row-TypedExpr-1 denote.Hole.Carrier.hidden
  test_is true x t e = ap (λ b. is_true (V.Int (if b then pos 1 else pos 0))) e
  test_is false x t e = ap (λ b. is_true (V.Int (if b then pos 1 else pos 0))) e

  body_is : (x t : ℕ) → x < n → body (at x t) ≡ Goes_on (at (suc x) t)
  unfolding E.shape-the_row-TypedExpr-1 E.hidden-the_row-TypedExpr-1 denote.Hole.Carrier.hidden
  body_is x t h =
      let next : x + 1 < 2 ^ 31 = omega (arith, small, h) in
      let same : x + 1 ≡ suc x = omega arith in
      ap (λ z. Goes_on (record (at_start store) { locals = V.Int z ∷ []; ticks = t })) (small_int (x + 1) next ∙ ap pos same)

  -- n turns from 0 cost n ticks
  turns_are : (k x t r m : ℕ) → x + k ≡ n → r ≡ k + t → k < m → turns m (test_in c (below n)) body Goes_on (at x r) ≡ Goes_on (at n t)
  turns_are zero x t r zero e f h = absurd (omega arith)
  turns_are zero x t r (suc m) e f h =
      let no : nat_lt x n ≡ false = grind (arith, nat_tests) in
      let here : x ≡ n = omega arith in
      let left : r ≡ t = omega arith in
      ap (λ g. with_gives g (at x r) (λ b. branch b (λ s. after_turn (body s) (λ after. go_on (Goes_on after) (λ next. tick next (turns m (test_in c (below n)) body Goes_on)))) Goes_on (at x r))) (test_is false x r no)
      ∙ ap (λ x. Goes_on (at x r)) here
      ∙ ap (λ r. Goes_on (at n r)) left
  turns_are (suc k) x t r zero e f h = absurd (omega arith)
  turns_are (suc k) x t zero (suc m) e f h = absurd (omega arith)
  turns_are (suc k) x t (suc r) (suc m) e f h =
      let less : x < n = omega arith in
      let yes : nat_lt x n ≡ true = grind (arith, nat_tests) in
      turn m (test_in c (below n)) body (at x (suc r)) (at (suc x) (suc r)) (test_is true x (suc r) yes) (body_is x (suc r) less)
      ∙ turns_are k (suc x) t r m (omega arith) (omega arith) (omega arith)

  -- with fewer ticks than turns it traps
  turns_trap : (k x r m : ℕ) → x + k ≡ n → r < k → r < m → turns m (test_in c (below n)) body Goes_on (at x r) ≡ Leaves (Trapped X.Budget 0)
  turns_trap zero x r m e f h = absurd (omega arith)
  turns_trap (suc k) x r zero e f h = absurd (omega arith)
  turns_trap (suc k) x zero (suc m) e f h =
      let less : x < n = omega arith in
      let yes : nat_lt x n ≡ true = grind (arith, nat_tests) in
      turn m (test_in c (below n)) body (at x 0) (at (suc x) 0) (test_is true x 0 yes) (body_is x 0 less)
  turns_trap (suc k) x (suc r) (suc m) e f h =
      let less : x < n = omega arith in
      let yes : nat_lt x n ≡ true = grind (arith, nat_tests) in
      turn m (test_in c (below n)) body (at x (suc r)) (at (suc x) (suc r)) (test_is true x (suc r) yes) (body_is x (suc r) less)
      ∙ turns_trap k (suc x) r m (omega arith) (omega arith) (omega arith)

-- a loop of n turns returns where n + 1 ticks are given, with none left
counting_returns : (n t : ℕ) (store : Store) → n < 2 ^ 31 → t ≡ n → call (counting_program n) world store 1 [] (suc t) ≡ Returned None store [] 0
unfolding S.shape-the_row-TypedStmt-0 S.hidden-the_row-TypedStmt-0 S.shape-the_row-TypedStmt-1 S.hidden-the_row-TypedStmt-1 E.shape-the_row-TypedExpr-1 E.hidden-the_row-TypedExpr-1 denote.Hole.Carrier.hidden
counting_returns n t store small e =
    let f = call_with (counting_program n) world (suc t) 1 in
    let x = context_of (counting_program n) world (function 1 (0 ∷ []) (counting n ∷ [])) f (suc (suc t)) in
    ap (λ o. fall_off parts None (go_on o (run_body [] x))) (turns_are n small store f (suc (suc t)) n 0 0 t (suc (suc t)) (omega arith) (omega arith) (omega arith))

-- and traps where one less is given
counting_traps : (n t : ℕ) (store : Store) → n < 2 ^ 31 → t < n → call (counting_program n) world store 1 [] (suc t) ≡ Trapped X.Budget 0
unfolding S.shape-the_row-TypedStmt-0 S.hidden-the_row-TypedStmt-0 S.shape-the_row-TypedStmt-1 S.hidden-the_row-TypedStmt-1 E.shape-the_row-TypedExpr-1 E.hidden-the_row-TypedExpr-1 denote.Hole.Carrier.hidden
counting_traps n t store small less =
    let f = call_with (counting_program n) world (suc t) 1 in
    let x = context_of (counting_program n) world (function 1 (0 ∷ []) (counting n ∷ [])) f (suc (suc t)) in
    ap (λ o. fall_off parts None (go_on o (run_body [] x))) (turns_trap n small store f (suc (suc t)) n 0 t (suc (suc t)) (omega arith) less (omega arith))

-- what a delivery shows, by the end of its call
trapped_delivery : (p : Program) (store started : Store) (m : Message) (f k : ℕ) → with_message store m ≡ Ok started → function_named p on_message_name ≡ Some f → k ≡ CALL_TICKS → call p world started f [] k ≡ Trapped X.Budget 0 → seen_of (deliver p world store m) ≡ trap X.Budget 1000000
trapped_delivery p store started m f k e g h r =
    ap (λ s. seen_of (run_named p world on_message_name s (function_named p on_message_name))) e
    ∙ ap (λ o. seen_of (run_named p world on_message_name (Ok started) o)) g
    ∙ ap (λ x. seen_of (delivered x)) (ap (call p world started f []) (sym h) ∙ r)

ended_delivery : (p : Program) (store started left : Store) (m : Message) (f k : ℕ) → with_message store m ≡ Ok started → function_named p on_message_name ≡ Some f → k ≡ CALL_TICKS → call p world started f [] k ≡ Returned None started [] 0 → with_no_messages started ≡ Ok left → seen_of (deliver p world store m) ≡ sends [] 1000000
ended_delivery p store started left m f k e g h r w =
    ap (λ s. seen_of (run_named p world on_message_name s (function_named p on_message_name))) e
    ∙ ap (λ o. seen_of (run_named p world on_message_name (Ok started) o)) g
    ∙ ap (λ x. seen_of (delivered x)) (ap (call p world started f []) (sym h) ∙ r)
    ∙ ap (λ s. seen_of (ended 1000000 [] s)) w

abbrev ok_store : Gives Store → Store
ok_store (Ok s) = s
ok_store (Err t) = record { objects = [] }

-- the globals with the client's message
abbrev started_with : Program → Store
started_with p = ok_store (with_message (initial_store p) client)

abbrev left_with : Program → Store
left_with p = ok_store (with_no_messages (started_with p))

-- needing 1,000,001 ticks traps, and 1,000,000 don't
endless_is_stopped : seen endless_program ≡ trap X.Budget 1000000
unfolding V.shape-the_row-Value-0 V.hidden-the_row-Value-0 V.shown-the_row-Value-0 V.shape-the_row-Value-1 V.hidden-the_row-Value-1 V.shown-the_row-Value-1 denote.Hole.Carrier.hidden Rattle.src_tree.specs.declared.value.Value.TheViews.out-Value denote.Hole.Carrier.out denote.Hole.Carrier.shown
endless_is_stopped =
    trapped_delivery endless_program (initial_store endless_program) (started_with endless_program) client 1 (suc 999999) refl refl refl (endless_traps 999999 (started_with endless_program))

last_turn_is_paid : seen (counting_program 999999) ≡ sends [] 1000000
unfolding V.shape-the_row-Value-0 V.hidden-the_row-Value-0 V.shown-the_row-Value-0 V.shape-the_row-Value-1 V.hidden-the_row-Value-1 V.shown-the_row-Value-1 denote.Hole.Carrier.hidden Rattle.src_tree.specs.declared.value.Value.TheViews.out-Value denote.Hole.Carrier.out denote.Hole.Carrier.shown
last_turn_is_paid =
    ended_delivery (counting_program 999999) (initial_store (counting_program 999999)) (started_with (counting_program 999999)) (left_with (counting_program 999999)) client 1 (suc 999999) refl refl refl (counting_returns 999999 999999 (started_with (counting_program 999999)) (lit< tt) refl) refl

one_turn_more_is_not : seen (counting_program 1000000) ≡ trap X.Budget 1000000
unfolding V.shape-the_row-Value-0 V.hidden-the_row-Value-0 V.shown-the_row-Value-0 V.shape-the_row-Value-1 V.hidden-the_row-Value-1 V.shown-the_row-Value-1 denote.Hole.Carrier.hidden Rattle.src_tree.specs.declared.value.Value.TheViews.out-Value denote.Hole.Carrier.out denote.Hole.Carrier.shown
one_turn_more_is_not =
    trapped_delivery (counting_program 1000000) (initial_store (counting_program 1000000)) (started_with (counting_program 1000000)) client 1 (suc 999999) refl refl refl (counting_traps 1000000 999999 (started_with (counting_program 1000000)) (lit< tt) (lit< tt))
