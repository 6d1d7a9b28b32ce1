use Rattle.std.proofs.Common.{◌≡◌, ◌∙◌, refl, sym, ap, ◌-◌, length, arith}
use Rattle.std.proofs.lemmas.Result.{err_from_is_err_and}
use Rattle.c_ast.specs.Trees.{statement, statement_list}
use Rattle.c_ast.proofs.Views.{statement_list-last}
use Rattle.c_parse_expr.specs.Reads.{climb, snoc}
use Rattle.c_parse_expr.proofs.Climb.{fails_along, climb_stop, climb_goes, climb_fails}
use Rattle.c_parse.specs.Statements as statements
use Rattle.c_parse.specs.Statements.{more_items}
use Rattle.c_parse.proofs.Turns.{block_none, block_some, stmt_none, stmt_some, items_left}
use Rattle.c_parse.proofs.Stmts.{stmt_falls}
use Rattle.c_parse.proofs.stmt.+stmt.Goals as goal

pub stmt-returns-then-room-eq0 : goal.stmt-returns-then-room-eq0
stmt-returns-then-room-eq0 t c = rw (stmt_none c.args.room c.args.tokens.now c.if-room-eq0.true, c.refusal.ensures, c.begins_statement.ensures) refl

pub stmt-returns : goal.stmt-returns
stmt-returns t c = rw (stmt_some c.args.room c.args.tokens.now c.if-room-eq0.false) c.by_first.ensures

pub block-returns-then-room-eq0 : goal.block-returns-then-room-eq0
block-returns-then-room-eq0 t c = rw (block_none c.args.room c.args.tokens.now c.if-room-eq0.true, c.refusal.ensures, c.sees.ensures) refl

pub block-returns : goal.block-returns
block-returns t c = rw (block_some c.args.room c.args.tokens.now c.if-room-eq0.false) c.braces.ensures

pub body-stmts-init : goal.body-stmts-init
unfolding statements.body
body-stmts-init t c = (length c.args.tokens.now, omega arith, ap (λ l. climb more_items (statements.stmt c.args.room) snoc (length c.args.tokens.now) (statement_list l) c.args.tokens.now) (sym c.new-list.ensures))

pub body-returns-in_err-item : goal.body-returns-in_err-item
body-returns-in_err-item t c =
    let more = sym c.more_items.ensures ∙ c.stmts-test.true in
    let p = err_from_is_err_and c.from_residual.result c.from_residual.ensures.1 in
    let i = c.stmts.invariant in
    let some = items_left c.stmts.tokens.now more in
    rw (p.1, p.2)
    (fails_along _ _ _ (λ f h. i.2 ∙ climb_fails more_items (statements.stmt c.args.room) snoc (statement_list c.stmts.list) c.stmts.tokens.now i.0 (λ z. omega (arith, i.1)) more f h) c.in_err-item.ensures)

pub body-stmts-smaller : goal.body-stmts-smaller
body-stmts-smaller t c = stmt_falls c.args.room c.stmts.tokens.now (statement c.in_ok-item.item) c.in_ok-item.rest.now c.in_ok-item.ensures

pub body-stmts-preserved : goal.body-stmts-preserved
body-stmts-preserved t c =
    let more = sym c.more_items.ensures ∙ c.stmts-test.true in
    let i = c.stmts.invariant in
    let some = items_left c.stmts.tokens.now more in
    let falls = stmt_falls c.args.room c.stmts.tokens.now (statement c.in_ok-item.item) c.in_ok-item.rest.now c.in_ok-item.ensures in
    let last : statement_list c.push.new.self ≡ snoc (statement_list c.stmts.list) (statement c.in_ok-item.item) = ap statement_list c.in_ok-push.ensures.ok ∙ statement_list-last c.stmts.list c.in_ok-item.item in (
      i.0 - 1,
      omega (arith, i.1),
      i.2
          ∙ climb_goes more_items (statements.stmt c.args.room) snoc (statement_list c.stmts.list) c.stmts.tokens.now i.0 (λ z. omega (arith, i.1)) more (statement c.in_ok-item.item) c.in_ok-item.rest.now c.in_ok-item.ensures
          ∙ ap (λ b. climb more_items (statements.stmt c.args.room) snoc (i.0 - 1) b c.in_ok-item.rest.now) (sym last),
    )

pub body-returns : goal.body-returns
body-returns t c =
    let none = sym c.more_items.ensures ∙ c.stmts-test.false in
    let i = c.stmts.invariant in
    i.2 ∙ climb_stop more_items (statements.stmt c.args.room) snoc (statement_list c.stmts.list) c.stmts.tokens.now i.0 none
