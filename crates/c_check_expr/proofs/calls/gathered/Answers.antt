use Rattle.std.proofs.Common.{◌≡◌, ◌∙◌, sym, ap, suc, ◌+◌, ◌<◌, ◌≤◌, length, drop, slice_get, arith}
use Rattle.c_ast.specs.Trees.{expressions}
use Rattle.c_check_expr.specs.Calls.{argument_at, more, gathered_after}
use Rattle.c_check_expr.proofs.Arguments.{expressions_length, gathered_step, gathered_end}
use Rattle.c_check_expr.proofs.calls.gathered.Goals as goal

pub loop-index-preserved : goal.loop-index-preserved
loop-index-preserved c =
    let scope = c.args.scope.now in
    let es = expressions c.args.args.now in
    let ts = c.args.params.now in
    let i = c.loop-index.index in
    let l = c.loop-index.list in
    let within : i < length es = omega (arith, expressions_length c.args.args.now, c.loop-index-test.true) in
    let next : suc i ≡ i + 1 = omega arith in
    c.loop-index.invariant
    ∙ gathered_step scope l es ts i within
    ∙ ap (λ n. gathered_after scope (more l (argument_at scope (slice_get ts i) (slice_get es i))) (drop n es) (drop n ts)) next
    ∙ ap (λ a. gathered_after scope (more l a) (drop (i + 1) es) (drop (i + 1) ts)) (sym c.in_ok-next.ensures)
    ∙ ap (λ x. gathered_after scope x (drop (i + 1) es) (drop (i + 1) ts)) (sym c.in_ok-list.ensures)

pub returns : goal.returns
returns c =
    let past : length (expressions c.args.args.now) ≤ c.loop-index.index = omega (arith, expressions_length c.args.args.now, c.loop-index-test.false) in
    sym (c.loop-index.invariant ∙ gathered_end c.args.scope.now c.loop-index.list (expressions c.args.args.now) (drop c.loop-index.index c.args.params.now) c.loop-index.index past)
