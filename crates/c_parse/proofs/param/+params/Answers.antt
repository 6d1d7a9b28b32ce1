use Rattle.std.proofs.Common.{◌≡◌, ◌∙◌, refl, sym, ap, ◌-◌, arith}
use Rattle.std.proofs.lemmas.Result.{err_from_is_err_and}
use Rattle.c_ast.specs.Trees.{parameter, parameter_list}
use Rattle.c_ast.specs.declared.token.Mark.TheVariants.{Comma}
use Rattle.c_ast.proofs.Views.{parameter_list-last}
use Rattle.c_parse_expr.specs.Reads.{climb, snoc}
use Rattle.c_parse_expr.specs.Reading.{sees}
use Rattle.c_parse_expr.proofs.Climb.{fails_along, climb_stop, climb_goes, climb_fails}
use Rattle.c_parse.specs.Parameters.{next_param, params}
use Rattle.c_parse.proofs.Turns.{params_none, params_some, some_left}
use Rattle.c_parse.proofs.Params.{next_falls}
use Rattle.c_parse.proofs.param.+params.Goals as goal

pub params-returns-then-room-eq0 : goal.params-returns-then-room-eq0
params-returns-then-room-eq0 t c = rw (params_none c.args.room c.args.tokens.now c.if-room-eq0.true, c.refusal.ensures, c.begins_type.ensures) refl

pub params-returns : goal.params-returns
params-returns t c = rw (params_some c.args.room c.args.tokens.now c.if-room-eq0.false) c.params_by.ensures

pub more_params-returns-in_err-param : goal.more_params-returns-in_err-param
more_params-returns-in_err-param t c =
    let more = sym c.sees.ensures ∙ c.commas-test.true in
    let p = err_from_is_err_and c.from_residual.result c.from_residual.ensures.1 in
    let i = c.commas.invariant in
    let some = some_left Comma c.commas.tokens.now more in
    rw (p.1, p.2)
    (fails_along _ _ _ (λ f h. i.2 ∙ climb_fails (sees Comma) (next_param (params c.args.room)) snoc (parameter_list c.commas.list) c.commas.tokens.now i.0 (λ z. omega (arith, i.1)) more f h) c.in_err-param.ensures)

pub more_params-commas-smaller : goal.more_params-commas-smaller
more_params-commas-smaller t c = next_falls c.args.room c.commas.tokens.now (parameter c.in_ok-param.param) c.in_ok-param.rest.now c.in_ok-param.ensures

pub more_params-commas-preserved : goal.more_params-commas-preserved
more_params-commas-preserved t c =
    let more = sym c.sees.ensures ∙ c.commas-test.true in
    let i = c.commas.invariant in
    let some = some_left Comma c.commas.tokens.now more in
    let falls = next_falls c.args.room c.commas.tokens.now (parameter c.in_ok-param.param) c.in_ok-param.rest.now c.in_ok-param.ensures in
    let last : parameter_list c.push.new.self ≡ snoc (parameter_list c.commas.list) (parameter c.in_ok-param.param) = ap parameter_list c.in_ok-push.ensures.ok ∙ parameter_list-last c.commas.list c.in_ok-param.param in (
      i.0 - 1,
      omega (arith, i.1),
      i.2
          ∙ climb_goes (sees Comma) (next_param (params c.args.room)) snoc (parameter_list c.commas.list) c.commas.tokens.now i.0 (λ z. omega (arith, i.1)) more (parameter c.in_ok-param.param) c.in_ok-param.rest.now c.in_ok-param.ensures
          ∙ ap (λ b. climb (sees Comma) (next_param (params c.args.room)) snoc (i.0 - 1) b c.in_ok-param.rest.now) (sym last),
    )

pub more_params-returns : goal.more_params-returns
more_params-returns t c =
    let none = sym c.sees.ensures ∙ c.commas-test.false in
    let i = c.commas.invariant in
    i.2 ∙ climb_stop (sees Comma) (next_param (params c.args.room)) snoc (parameter_list c.commas.list) c.commas.tokens.now i.0 none
