use Rattle.std.proofs.Common.{◌≡◌, ◌∙◌, refl, sym, ap, suc, ◌+◌, ◌-◌, arith}
use Rattle.std.proofs.lemmas.Result.{err_from_is_err_and}
use Rattle.c_ast.specs.Trees.{expression}
use Rattle.c_parse_expr.specs.Reads.{climb}
use Rattle.c_parse_expr.specs.Reading as reading
use Rattle.c_parse_expr.specs.Steps.{step_seen}
use Rattle.c_parse_expr.proofs.Climb.{fails_along, climb_stop, climb_over, climb_goes, climb_fails}
use Rattle.c_parse_expr.proofs.Turns.{unary_none, unary_some, expr_none, expr_some, levels_none, levels_some, link_ok, link_fails}
use Rattle.c_parse_expr.proofs.expr.+expr.Goals as goal

pub expr-returns-then-room-eq0 : goal.expr-returns-then-room-eq0
expr-returns-then-room-eq0 t c = rw (expr_none c.args.room c.args.tokens.now c.if-room-eq0.true, c.refusal.ensures, c.begins.ensures) refl

pub expr-returns : goal.expr-returns
expr-returns t c = rw (expr_some c.args.room c.args.tokens.now c.if-room-eq0.false) c.whole.ensures

pub unary-returns-then-room-eq0 : goal.unary-returns-then-room-eq0
unary-returns-then-room-eq0 t c = rw (unary_none c.args.room c.args.tokens.now c.if-room-eq0.true, c.refusal.ensures, c.begins.ensures) refl

pub unary-returns : goal.unary-returns
unary-returns t c = rw (unary_some c.args.room c.args.tokens.now c.if-room-eq0.false) c.unary_by.ensures

pub levels-returns-then-count-eq0 : goal.levels-returns-then-count-eq0
levels-returns-then-count-eq0 t c = rw (levels_none c.args.count (reading.unary c.args.room) c.args.tokens.now c.if-count-eq0.true) c.unary.ensures

pub levels-returns-else-count-eq0 : goal.levels-returns-else-count-eq0
levels-returns-else-count-eq0 t c = rw (levels_some c.args.count (reading.unary c.args.room) c.args.tokens.now c.if-count-eq0.false) c.chain.ensures

pub links-links-init : goal.links-links-init
unfolding reading.links
links-links-init t c = refl

pub links-returns-then-left-eq0 : goal.links-returns-then-left-eq0
links-returns-then-left-eq0 t c =
    let two : suc (suc c.args.below) ≡ c.args.below + 2 = omega arith in
    let more = ap (λ n. reading.more_links n c.links.tokens.now) two ∙ sym c.sees_operator.ensures ∙ c.links-test.true in
    rw c.refusal.ensures
    (c.links.invariant ∙ climb_over (reading.more_links (suc (suc c.args.below))) (reading.link (suc (suc c.args.below)) (reading.levels c.args.below (reading.unary c.args.room))) reading.join_link (expression c.links.base) c.links.tokens.now c.links.left c.if-left-eq0.true more)

pub links-returns-in_err-operator : goal.links-returns-in_err-operator
links-returns-in_err-operator t c =
    let two : suc (suc c.args.below) ≡ c.args.below + 2 = omega arith in
    let more = ap (λ n. reading.more_links n c.links.tokens.now) two ∙ sym c.sees_operator.ensures ∙ c.links-test.true in
    let p = err_from_is_err_and c.from_residual.result c.from_residual.ensures.1 in
    rw (p.1, p.2)
    (fails_along _ _ _
    (λ f h. c.links.invariant ∙ climb_fails (reading.more_links (suc (suc c.args.below))) (reading.link (suc (suc c.args.below)) (reading.levels c.args.below (reading.unary c.args.room))) reading.join_link (expression c.links.base) c.links.tokens.now c.links.left c.if-left-eq0.false more f h) c.in_err-operator.ensures)

pub links-links-preserved : goal.links-links-preserved
links-links-preserved t c =
    let two : suc (suc c.args.below) ≡ c.args.below + 2 = omega arith in
    let more = ap (λ n. reading.more_links n c.links.tokens.now) two ∙ sym c.sees_operator.ensures ∙ c.links-test.true in
    c.links.invariant
    ∙ climb_goes (reading.more_links (suc (suc c.args.below))) (reading.link (suc (suc c.args.below)) (reading.levels c.args.below (reading.unary c.args.room))) reading.join_link (expression c.links.base) c.links.tokens.now c.links.left c.if-left-eq0.false more (c.in_ok-operator.operator, expression c.in_ok-operator.operand) c.in_ok-operator.rest.now c.in_ok-operator.ensures
    ∙ ap (λ b. climb (reading.more_links (suc (suc c.args.below))) (reading.link (suc (suc c.args.below)) (reading.levels c.args.below (reading.unary c.args.room))) reading.join_link (c.links.left - 1) b c.in_ok-operator.rest.now) (sym c.in_ok-base.ensures)

pub links-returns : goal.links-returns
links-returns t c =
    let two : suc (suc c.args.below) ≡ c.args.below + 2 = omega arith in
    let more = ap (λ n. reading.more_links n c.links.tokens.now) two ∙ sym c.sees_operator.ensures ∙ c.links-test.false in
    c.links.invariant ∙ climb_stop (reading.more_links (suc (suc c.args.below))) (reading.link (suc (suc c.args.below)) (reading.levels c.args.below (reading.unary c.args.room))) reading.join_link (expression c.links.base) c.links.tokens.now c.links.left more

pub steps-steps-init : goal.steps-steps-init
unfolding reading.steps
steps-steps-init t c = refl

pub steps-returns-then-left-eq0 : goal.steps-returns-then-left-eq0
steps-returns-then-left-eq0 t c =
    let more = sym c.more_steps.ensures ∙ c.steps-test.true in
    rw c.refusal.ensures (c.steps.invariant ∙ climb_over reading.more_steps (reading.step (reading.expr c.args.room)) reading.join_step (expression c.steps.base) c.steps.tokens.now c.steps.left c.if-left-eq0.true more)

pub steps-returns-in_err-step : goal.steps-returns-in_err-step
steps-returns-in_err-step t c =
    let more = sym c.more_steps.ensures ∙ c.steps-test.true in
    let p = err_from_is_err_and c.from_residual.result c.from_residual.ensures.1 in
    rw (p.1, p.2)
    (fails_along _ _ _ (λ f h. c.steps.invariant ∙ climb_fails reading.more_steps (reading.step (reading.expr c.args.room)) reading.join_step (expression c.steps.base) c.steps.tokens.now c.steps.left c.if-left-eq0.false more f h) c.in_err-step.ensures)

pub steps-steps-preserved : goal.steps-steps-preserved
steps-steps-preserved t c =
    let more = sym c.more_steps.ensures ∙ c.steps-test.true in
    c.steps.invariant
    ∙ climb_goes reading.more_steps (reading.step (reading.expr c.args.room)) reading.join_step (expression c.steps.base) c.steps.tokens.now c.steps.left c.if-left-eq0.false more (step_seen c.in_ok-step.step) c.in_ok-step.rest.now c.in_ok-step.ensures
    ∙ ap (λ b. climb reading.more_steps (reading.step (reading.expr c.args.room)) reading.join_step (c.steps.left - 1) b c.in_ok-step.rest.now) (sym c.in_ok-base.ensures)

pub steps-returns : goal.steps-returns
steps-returns t c =
    let more = sym c.more_steps.ensures ∙ c.steps-test.false in
    c.steps.invariant ∙ climb_stop reading.more_steps (reading.step (reading.expr c.args.room)) reading.join_step (expression c.steps.base) c.steps.tokens.now c.steps.left more

pub link-returns : goal.link-returns
link-returns t c =
    link_ok c.args.level (c.args.level + 2) (omega arith) (reading.levels c.args.level (reading.unary c.args.room)) c.args.tokens.now c.in_ok-operator.operator c.in_ok-operator.tokens.now c.in_ok-operator.ensures (expression c.in_ok-operand.operand) c.in_ok-operand.tokens.now c.in_ok-operand.ensures

pub link-returns-in_err-operand : goal.link-returns-in_err-operand
link-returns-in_err-operand t c =
    let p = err_from_is_err_and c.from_residual-in_err-operand.result c.from_residual-in_err-operand.ensures.1 in
    rw (p.1, p.2)
    (fails_along _ _ _
    (λ f h. link_fails c.args.level (c.args.level + 2) (omega arith) (reading.levels c.args.level (reading.unary c.args.room)) c.args.tokens.now c.in_ok-operator.operator c.in_ok-operator.tokens.now c.in_ok-operator.ensures f h) c.in_err-operand.ensures)
