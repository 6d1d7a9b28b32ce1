-- The code of a statement does what the statement does, where the callees' code does what they do.
use Rattle.std.proofs.Common.{◌≡◌, subst, Bool, true, false, ℕ, ◌+◌, ◌-◌, ◌<◌, ◌≤◌, List, [], ◌∷◌, ◌++◌, length, Some, arith}
use Rattle.std.specs.Prelude.{slice_get}
use Rattle.src_tree.specs.declared.value.Store.{Store}
use Rattle.src_tree.specs.declared.program.Function.{Function}
use Rattle.src_tree.specs.declared.program.Program.{Program}
use Rattle.src_tree.specs.declared.stmt.TypedStmt.{TypedStmt, Block', Empty, Declare, SetLocal, Assign, Call, If', While', For', Break, Continue, Return, Row_of-TypedStmt, end_of-TypedStmt, more_of-TypedStmt}
use Rattle.src_meaning.specs.ValidExpression.{Declarations}
use Rattle.src_meaning.specs.ValidStatement.{is_test, is_statement, are_row, is_optional, are_statements, is_loop_condition, is_optional_simple}
use Rattle.src_meaning.specs.Call.{State, Outcome, Goes_on, Callee, Context, branch, test_in, test_of, turns, run_statement, run_row, run_body}
use Rattle.src_meaning.proofs.LayoutLengths.{and_left, and_right}
use Rattle.bm_isa.specs.declared.instr.Instr.TheVariants as I
use Rattle.bm_code.specs.declared.code.MachineCode.{MachineCode}
use Rattle.bm_code.specs.declared.code.MachineFunction.{MachineFunction}
use Rattle.lu_base.specs.declared.world.World.{World}
use Rattle.bm_code.specs.Process.{Frame}
use Rattle.cg_expr.specs.Sizes.{expression_size}
use Rattle.cg_expr.specs.Code.{Target, expression_code}
use Rattle.cg_stmt.specs.StatementCode.{condition_code, exits, loop_exits, statement_code, row_code, body_code}
use Rattle.cg_stmt.specs.StatementSizes.{loop_size, condition_size, statement_size, row_size, body_size}
use Rattle.cg_stmt.specs.declared.statements.Exits.{Exits}
use Rattle.cg_state.specs.Runs.{HasAt, Point, Leads}
use Rattle.cg_state.proofs.HasCode.{has_front, has_rest}
use Rattle.cg_state.proofs.Leads.{stays}
use Rattle.c_types.specs.Refusal.{IsBuilt}
use Rattle.cg_sim.proofs.Machines.{length-row}
use Rattle.cg_sim.proofs.Ends.{follows_at, then_follows}
use Rattle.cg_expr.proofs.Lengths.{length-expression}
use Rattle.cg_stmt.proofs.CodeLengths.{length-condition, length-statement}
use Rattle.cg_sim.proofs.Stacks.{goes_same}
use Rattle.cg_sim.proofs.UnderWay as under
use Rattle.cg_sim.proofs.Jumps.{jump_on, test_does, branch_does, loop_does}
use Rattle.cg_sim.proofs.FunctionCalls.{by_truth}
use Rattle.cg_sim.proofs.RightSides.{call_does, set_does, returns_does, declare_does, loop_test_does}
use Rattle.cg_sim.proofs.Assignments.{assigns_do}

module _ (p : Program) (built : IsBuilt p.types) (starts : List ℕ) (code : MachineCode) (same : code.types ≡ p.types) (world : World) (f : ℕ) (m : MachineFunction) (is : slice_get code.functions f ≡ Some m) (callers : List Frame) (fd : Function) (call : Callee) (fuel : ℕ) (base : Store) where
  abbrev target : Target
  target = under.target p built starts code same world f m is callers fd call fuel base

  abbrev decls : Declarations
  decls = under.decls p built starts code same world f m is callers fd call fuel base

  abbrev us : List ℕ
  us = under.us p built starts code same world f m is callers fd call fuel base

  abbrev c : Context
  c = under.c p built starts code same world f m is callers fd call fuel base

  abbrev at : State → ℕ → Point
  at = under.at p built starts code same world f m is callers fd call fuel base

  abbrev Well : State → Type 0
  Well = under.Well p built starts code same world f m is callers fd call fuel base

  abbrev Does : Exits → Point → ℕ → Outcome → Type 0
  Does = under.Does p built starts code same world f m is callers fd call fuel base

  abbrev Ahead : ℕ → Exits → Type 0
  Ahead = under.Ahead p built starts code same world f m is callers fd call fuel base

  abbrev Given : Type 0
  Given = under.Given p built starts code same world f m is callers fd call fuel base

  module _ (given : Given) where
    mutual
      pub statement_does : (x : TypedStmt) (st : State) (to : Exits) (pc : ℕ) (in_loop : Bool) (n : ℕ) → n ≤ 64 → Well st → is_statement decls fd.ret in_loop n x ≡ true → HasAt m.code pc (statement_code target x to pc) → pc + statement_size target x < length m.code → (in_loop ≡ true → Ahead (pc + statement_size target x) to) → Does to (at st pc) (pc + statement_size target x) (run_statement x c st)
      statement_does (Block' k body) st to pc in_loop n low well ty has within ahead = body_does body st to pc in_loop (n - 2) (omega (arith, low)) well (and_right (Rattle.std.specs.Prelude.nat_lt 1 n) _ ty) has within ahead
      statement_does Empty st to pc in_loop n low well ty has within ahead =
          let z : pc ≡ pc + 0 = omega arith in
          (well, subst (λ n. Leads p code world (at st pc) (at st n)) z (stays p code world (at st pc)))
      statement_does (Declare x r) st to pc in_loop n low well ty has within ahead = declare_does p built starts code same world f m is callers fd call fuel base given x r st to pc n low well ty has within
      statement_does (SetLocal x r) st to pc in_loop n low well ty has within ahead = set_does p built starts code same world f m is callers fd call fuel base given x r st to pc n low well (and_right (Rattle.std.specs.Prelude.nat_lt 1 n) _ ty) has within
      statement_does (Assign q r) st to pc in_loop n low well ty has within ahead = assigns_do p built starts code same world f m is callers fd call fuel base given q r st to pc in_loop n low well ty has within
      statement_does (Call d) st to pc in_loop n low well ty has within ahead = call_does p built starts code same world f m is callers fd call fuel base given d st to pc in_loop n low well ty has within
      statement_does (If' e k a j b) st to pc in_loop n low well ty has within ahead =
          let s = expression_size p.types e.ty e.kind in
          let na = row_size target a in
          let nb = row_size target b in
          let ce = expression_code target e.ty e.kind pc in
          let ca = row_code target a to (pc + s + 1) in
          let cb = row_code target b to (pc + s + 1 + na + 1) in
          let other = pc + s + 1 + na + 1 in
          let end = pc + s + 1 + na + 1 + nb in
          let tail = I.JumpIfZero other ∷ (ca ++ (I.Jump end ∷ cb)) in
          let sum : end ≡ pc + (s + 1 + na + 1 + nb) = omega arith in
          let test = and_left (is_test decls n e) _ ty in
          let more = and_right (is_test decls n e) _ ty in
          let ta = and_left (are_row decls fd.ret in_loop (n - 1) a) _ more in
          let tb = and_right (is_optional b) _ (and_right (are_row decls fd.ret in_loop (n - 1) a) _ more) in
          let after = has_rest m.code pc s ce tail (length-expression target e.ty e.kind pc) has in
          let past = has_rest m.code (pc + s + 1) na ca (I.Jump end ∷ cb) (length-row target a to (pc + s + 1)) after.1 in
          follows_at p built code world base callers us fd.ret at to (at st pc) end _ _ sum (test_does p built starts code same world f m is callers fd call fuel base given to st well e pc n end low test (has_front m.code pc ce tail has) (omega (arith, within)) (λ z. branch z (run_row a c) (run_row b c) st) (λ v truth.
          branch_does p built starts code same world f m is callers fd call fuel base to st v truth (pc + s) other end (run_row a c) (run_row b c) (omega arith) (omega (arith, within)) after.0 (subst (Does to (at st (pc + s + 1)) end) (goes_same (run_row a c st)) (then_follows p built code world base callers us fd.ret at to (at st (pc + s + 1)) (pc + s + 1 + na) end (run_row a c st) Goes_on (body_does a st to (pc + s + 1) in_loop (n - 1) (omega (arith, low)) well ta (has_front m.code (pc + s + 1) ca (I.Jump end ∷ cb) after.1) (omega (arith, within)) (λ l. let h = ahead l in (omega (arith, h.0), h.1, h.2))) (λ next ok. (ok, jump_on p built starts code same world f m is callers fd call fuel base next (pc + s + 1 + na) end (omega arith) (omega (arith, within)) past.0)))) (body_does b st to other in_loop (n - 1) (omega (arith, low)) well tb past.1 (omega (arith, within)) (λ l. let h = ahead l in (omega (arith, h.0), h.1, h.2)))))
      statement_does (While' e k body) st to pc in_loop n low well ty has within ahead =
          let s = expression_size p.types e.ty e.kind in
          let nb = row_size target body in
          let inner = loop_exits pc s nb 0 in
          let ce = expression_code target e.ty e.kind pc in
          let cb = row_code target body inner (pc + s + 1) in
          let leave = pc + loop_size s nb 0 in
          let turn = pc + s + 1 + nb in
          let tail = I.JumpIfZero leave ∷ (cb ++ I.Jump pc ∷ []) in
          let test = and_left (is_test decls n e) _ ty in
          let tb = and_right (is_test decls n e) _ ty in
          let after = has_rest m.code pc s ce tail (length-expression target e.ty e.kind pc) has in
          let back = has_rest m.code (pc + s + 1) nb cb (I.Jump pc ∷ []) (length-row target body inner (pc + s + 1)) after.1 in
          loop_does p built starts code same world f m is callers fd call fuel base to pc (pc + s) turn turn leave (test_in c e) (run_row body c) Goes_on (omega arith) (omega (arith, within)) back.0 (λ st well g ra rb.
          test_does p built starts code same world f m is callers fd call fuel base given to st well e pc n leave low test (has_front m.code pc ce tail has) (omega (arith, within)) g (λ v truth. by_truth p built starts code same world f m is callers fd call fuel base given to st v truth (pc + s) leave leave g (omega arith) (omega (arith, within)) after.0 ra rb)) (λ st well.
          body_does body st inner (pc + s + 1) true (n - 1) (omega (arith, low)) well tb (has_front m.code (pc + s + 1) cb (I.Jump pc ∷ []) after.1) (omega (arith, within)) (λ l. (omega arith, omega arith, omega (arith, within)))) (λ st well. (well, stays p code world (at st turn))) fuel st well
      statement_does (For' a first e b step d body) st to pc in_loop n low well ty has within ahead =
          let na = row_size target first in
          let start = pc + na in
          let s = condition_size p.types e in
          let nb = row_size target body in
          let ns = row_size target step in
          let inner = loop_exits start s nb ns in
          let turn = start + s + 1 + nb in
          let back = turn + ns in
          let leave = start + loop_size s nb ns in
          let ca = row_code target first to pc in
          let ct = condition_code target e start in
          let cb = row_code target body inner (start + s + 1) in
          let cs = row_code target step to turn in
          let more = cs ++ I.Jump start ∷ [] in
          let tail = I.JumpIfZero leave ∷ (cb ++ more) in
          let sum : leave ≡ pc + (na + loop_size s nb ns) = omega arith in
          let t1 = and_right (is_optional_simple first) _ ty in
          let first_ok = and_left (are_row decls fd.ret in_loop n first) _ t1 in
          let t2 = and_right (are_row decls fd.ret in_loop n first) _ t1 in
          let test_ok = and_left (is_loop_condition decls n e) _ t2 in
          let t3 = and_right (is_optional_simple step) _ (and_right (is_loop_condition decls n e) _ t2) in
          let step_ok = and_left (are_row decls fd.ret in_loop n step) _ t3 in
          let body_ok = and_right (are_row decls fd.ret in_loop n step) _ t3 in
          let loop = has_rest m.code pc na ca (ct ++ tail) (length-row target first to pc) has in
          let after = has_rest m.code start s ct tail (length-condition target e start) loop in
          let at_step = has_rest m.code (start + s + 1) nb cb more (length-row target body inner (start + s + 1)) after.1 in
          let at_back = has_rest m.code turn ns cs (I.Jump start ∷ []) (length-row target step to turn) at_step in
          follows_at p built code world base callers us fd.ret at to (at st pc) leave _ _ sum (then_follows p built code world base callers us fd.ret at to (at st pc) start leave (run_row first c st) (turns fuel (test_of c e) (run_row body c) (run_row step c)) (body_does first st to pc in_loop n low well first_ok (has_front m.code pc ca (ct ++ tail) has) (omega (arith, within)) (λ l. let h = ahead l in (omega (arith, h.0), h.1, h.2))) (λ st ok.
          loop_does p built starts code same world f m is callers fd call fuel base to start (start + s) turn back leave (test_of c e) (run_row body c) (run_row step c) (omega arith) (omega (arith, within)) at_back.0 (λ st well g ra rb.
          loop_test_does p built starts code same world f m is callers fd call fuel base given to st well e start n leave low test_ok (has_front m.code start ct tail loop) after.0 (omega arith) (omega (arith, within)) g ra rb) (λ st well.
          body_does body st inner (start + s + 1) true (n - 1) (omega (arith, low)) well body_ok (has_front m.code (start + s + 1) cb more after.1) (omega (arith, within)) (λ l. (omega arith, omega arith, omega (arith, within)))) (λ st well.
          body_does step st to turn in_loop n low well step_ok (has_front m.code turn cs (I.Jump start ∷ []) at_step) (omega (arith, within)) (λ l. let h = ahead l in (omega (arith, h.0), h.1, h.2))) fuel st ok))
      statement_does Break st to pc in_loop n low well ty has within ahead =
          let h = ahead (and_left in_loop _ ty) in (h.1, well, jump_on p built starts code same world f m is callers fd call fuel base st pc to.leave (omega (arith, h.0, h.1)) h.2 has.0)
      statement_does Continue st to pc in_loop n low well ty has within ahead =
          let h = ahead (and_left in_loop _ ty) in (h.1, well, jump_on p built starts code same world f m is callers fd call fuel base st pc to.turn (omega (arith, h.0)) (omega (arith, h.1, h.2)) has.0)
      statement_does (Return r) st to pc in_loop n low well ty has within ahead = returns_does p built starts code same world f m is callers fd call fuel base given r st to pc n low well ty has within

      pub body_does : {k : _} (xs : Row_of-TypedStmt k) (st : State) (to : Exits) (pc : ℕ) (in_loop : Bool) (n : ℕ) → n ≤ 64 → Well st → are_row decls fd.ret in_loop n xs ≡ true → HasAt m.code pc (row_code target xs to pc) → pc + row_size target xs < length m.code → (in_loop ≡ true → Ahead (pc + row_size target xs) to) → Does to (at st pc) (pc + row_size target xs) (run_row xs c st)
      body_does end_of-TypedStmt st to pc in_loop n low well ty has within ahead =
          let z : pc ≡ pc + 0 = omega arith in
          (well, subst (λ n. Leads p code world (at st pc) (at st n)) z (stays p code world (at st pc)))
      body_does (more_of-TypedStmt x rest) st to pc in_loop n low well ty has within ahead =
          let nx = statement_size target x in
          let nr = row_size target rest in
          let cx = statement_code target x to pc in
          let cr = row_code target rest to (pc + nx) in
          let tx = and_left (is_statement decls fd.ret in_loop n x) _ ty in
          let tr = and_right (is_statement decls fd.ret in_loop n x) _ ty in
          let sum : pc + nx + nr ≡ pc + (nx + nr) = omega arith in
          follows_at p built code world base callers us fd.ret at to (at st pc) (pc + nx + nr) _ _ sum (then_follows p built code world base callers us fd.ret at to (at st pc) (pc + nx) (pc + nx + nr) (run_statement x c st) (run_row rest c) (statement_does x st to pc in_loop n low well tx (has_front m.code pc cx cr has) (omega (arith, within)) (λ l. let h = ahead l in (omega (arith, h.0), h.1, h.2))) (λ next ok. body_does rest next to (pc + nx) in_loop n low ok tr (has_rest m.code pc nx cx cr (length-statement target x to pc) has) (omega (arith, within)) (λ l. let h = ahead l in (omega (arith, h.0), h.1, h.2))))

    -- the statements of a body
    pub list_does : (xs : List TypedStmt) (st : State) (pc n : ℕ) → n ≤ 64 → Well st → are_statements decls fd.ret false n xs ≡ true → HasAt m.code pc (body_code target xs (exits 0 0) pc) → pc + body_size target xs < length m.code → Does (exits 0 0) (at st pc) (pc + body_size target xs) (run_body xs c st)
    list_does [] st pc n low well ty has within =
        let z : pc ≡ pc + 0 = omega arith in
        (well, subst (λ n. Leads p code world (at st pc) (at st n)) z (stays p code world (at st pc)))
    list_does (x ∷ rest) st pc n low well ty has within =
        let nx = statement_size target x in
        let nr = body_size target rest in
        let cx = statement_code target x (exits 0 0) pc in
        let cr = body_code target rest (exits 0 0) (pc + nx) in
        let tx = and_left (is_statement decls fd.ret false n x) (are_statements decls fd.ret false n rest) ty in
        let tr = and_right (is_statement decls fd.ret false n x) (are_statements decls fd.ret false n rest) ty in
        let sum : pc + nx + nr ≡ pc + (nx + nr) = omega arith in
        follows_at p built code world base callers us fd.ret at (exits 0 0) (at st pc) (pc + nx + nr) _ _ sum (then_follows p built code world base callers us fd.ret at (exits 0 0) (at st pc) (pc + nx) (pc + nx + nr) (run_statement x c st) (run_body rest c) (statement_does x st (exits 0 0) pc false n low well tx (has_front m.code pc cx cr has) (omega (arith, within)) (λ l. absurd (cc))) (λ next ok. list_does rest next (pc + nx) n low ok tr (has_rest m.code pc nx cx cr (length-statement target x (exits 0 0) pc) has) (omega (arith, within))))
