use Rattle.std.proofs.Common.{◌≡◌, ◌∙◌, refl, sym, ap, ◌-◌, arith, ◌++◌, [], ◌∷◌}
use Rattle.std.proofs.lemmas.Result.{err_from_is_err_and}
use Rattle.c_ast.specs.Trees.{initializer, initializer_list}
use Rattle.c_ast.proofs.Views.{initializer_list-last}
use Rattle.c_parse_expr.specs.Reads.{climb, snoc}
use Rattle.c_parse_expr.proofs.Climb.{fails_along, climb_stop, climb_goes, climb_fails}
use Rattle.c_parse.specs.Declarations.{next_init, init, sees_next}
use Rattle.c_parse.proofs.Turns.{init_none, init_some, next_left}
use Rattle.c_parse.proofs.Inits.{next_init_falls}
use Rattle.c_parse.proofs.init.+init.Goals as goal

pub init-returns-then-room-eq0 : goal.init-returns-then-room-eq0
init-returns-then-room-eq0 t c = rw (init_none c.args.room c.args.tokens.now c.if-room-eq0.true, c.refusal.ensures, c.begins_init.ensures) refl

pub init-returns : goal.init-returns
init-returns t c = rw (init_some c.args.room c.args.tokens.now c.if-room-eq0.false) c.init_by.ensures

pub more_inits-returns-in_err-item : goal.more_inits-returns-in_err-item
more_inits-returns-in_err-item t c =
    let more = sym c.sees_next.ensures ∙ c.commas-test.true in
    let p = err_from_is_err_and c.from_residual.result c.from_residual.ensures.1 in
    let i = c.commas.invariant in
    let some = next_left c.commas.tokens.now more in
    rw (p.1, p.2)
    (fails_along _ _ _ (λ f h. i.2 ∙ climb_fails sees_next (next_init (init c.args.room)) snoc (initializer_list c.commas.list) c.commas.tokens.now i.0 (λ z. omega (arith, i.1)) more f h) c.in_err-item.ensures)

pub more_inits-commas-smaller : goal.more_inits-commas-smaller
more_inits-commas-smaller t c = next_init_falls c.args.room c.commas.tokens.now (initializer c.in_ok-item.item) c.in_ok-item.rest.now c.in_ok-item.ensures

pub more_inits-commas-preserved : goal.more_inits-commas-preserved
more_inits-commas-preserved t c =
    let more = sym c.sees_next.ensures ∙ c.commas-test.true in
    let i = c.commas.invariant in
    let some = next_left c.commas.tokens.now more in
    let falls = next_init_falls c.args.room c.commas.tokens.now (initializer c.in_ok-item.item) c.in_ok-item.rest.now c.in_ok-item.ensures in
    let last : initializer_list c.push.new.self ≡ snoc (initializer_list c.commas.list) (initializer c.in_ok-item.item) =
    ap initializer_list c.in_ok-push.ensures.ok ∙ ap (λ x. initializer_list (c.commas.list ++ (x ∷ []))) c.into_inner.ensures ∙ initializer_list-last c.commas.list c.in_ok-item.item in (
      i.0 - 1,
      omega (arith, i.1),
      i.2
          ∙ climb_goes sees_next (next_init (init c.args.room)) snoc (initializer_list c.commas.list) c.commas.tokens.now i.0 (λ z. omega (arith, i.1)) more (initializer c.in_ok-item.item) c.in_ok-item.rest.now c.in_ok-item.ensures
          ∙ ap (λ b. climb sees_next (next_init (init c.args.room)) snoc (i.0 - 1) b c.in_ok-item.rest.now) (sym last),
    )

pub more_inits-returns : goal.more_inits-returns
more_inits-returns t c =
    let none = sym c.sees_next.ensures ∙ c.commas-test.false in
    let i = c.commas.invariant in
    i.2 ∙ climb_stop sees_next (next_init (init c.args.room)) snoc (initializer_list c.commas.list) c.commas.tokens.now i.0 none
