use Rattle.std.proofs.Common.{◌≡◌, ◌∙◌, sym, ap, ◌-◌, arith, ◌++◌, [], ◌∷◌}
use Rattle.std.proofs.lemmas.Result.{err_from_is_err_and}
use Rattle.c_ast.specs.Trees.{expression, expressions}
use Rattle.c_ast.specs.declared.token.Mark.TheVariants.{Comma}
use Rattle.c_ast.proofs.Views.{expressions-last}
use Rattle.c_parse_expr.specs.Reads.{climb, snoc}
use Rattle.c_parse_expr.specs.Reading.{sees, expr}
use Rattle.c_parse_expr.proofs.Climb.{fails_along, climb_stop, climb_goes, climb_fails}
use Rattle.c_parse.specs.Statements.{next_argument}
use Rattle.c_parse.proofs.Turns.{some_left}
use Rattle.c_parse.proofs.Rights.{argument_falls}
use Rattle.c_parse.proofs.parts.more_arguments.Goals as goal

pub returns-in_err-argument : goal.returns-in_err-argument
returns-in_err-argument c =
    let more = sym c.sees.ensures ∙ c.commas-test.true in
    let p = err_from_is_err_and c.from_residual.result c.from_residual.ensures.1 in
    let i = c.commas.invariant in
    let some = some_left Comma c.commas.tokens.now more in
    rw (p.1, p.2)
    (fails_along _ _ _ (λ f h. i.2 ∙ climb_fails (sees Comma) (next_argument (expr c.args.room)) snoc (expressions c.commas.list) c.commas.tokens.now i.0 (λ z. omega (arith, i.1)) more f h) c.in_err-argument.ensures)

pub commas-smaller : goal.commas-smaller
commas-smaller c = argument_falls c.args.room c.commas.tokens.now (expression c.in_ok-argument.argument) c.in_ok-argument.rest.now c.in_ok-argument.ensures

pub commas-preserved : goal.commas-preserved
commas-preserved c =
    let more = sym c.sees.ensures ∙ c.commas-test.true in
    let i = c.commas.invariant in
    let some = some_left Comma c.commas.tokens.now more in
    let falls = argument_falls c.args.room c.commas.tokens.now (expression c.in_ok-argument.argument) c.in_ok-argument.rest.now c.in_ok-argument.ensures in
    let last : expressions c.push.new.self ≡ snoc (expressions c.commas.list) (expression c.in_ok-argument.argument) =
    ap expressions c.in_ok-push.ensures.ok ∙ ap (λ x. expressions (c.commas.list ++ (x ∷ []))) c.into_inner.ensures ∙ expressions-last c.commas.list c.in_ok-argument.argument in (
      i.0 - 1,
      omega (arith, i.1),
      i.2
          ∙ climb_goes (sees Comma) (next_argument (expr c.args.room)) snoc (expressions c.commas.list) c.commas.tokens.now i.0 (λ z. omega (arith, i.1)) more (expression c.in_ok-argument.argument) c.in_ok-argument.rest.now c.in_ok-argument.ensures
          ∙ ap (λ b. climb (sees Comma) (next_argument (expr c.args.room)) snoc (i.0 - 1) b c.in_ok-argument.rest.now) (sym last),
    )

pub returns : goal.returns
returns c =
    let none = sym c.sees.ensures ∙ c.commas-test.false in
    let i = c.commas.invariant in
    i.2 ∙ climb_stop (sees Comma) (next_argument (expr c.args.room)) snoc (expressions c.commas.list) c.commas.tokens.now i.0 none
