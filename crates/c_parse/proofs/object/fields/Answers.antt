use Rattle.std.proofs.Common.{◌≡◌, ◌∙◌, refl, sym, ap, ◌-◌, length, arith, ◌++◌, [], ◌∷◌, List}
use Rattle.std.proofs.lemmas.Result.{err_from_is_err_and}
use Rattle.c_ast.specs.declared.decl.Named.{Named}
use Rattle.c_ast.specs.Trees.{object, objects}
use Rattle.c_parse_expr.specs.Reads.{climb, snoc}
use Rattle.c_parse_expr.proofs.Climb.{fails_along, climb_stop, climb_goes, climb_fails}
use Rattle.c_parse.specs.Statements.{more_items}
use Rattle.c_parse.specs.Declarations as declarations
use Rattle.c_parse.specs.Declarations.{field}
use Rattle.c_parse.proofs.Turns.{items_left}
use Rattle.c_parse.proofs.Objects.{field_falls}
use Rattle.c_parse.proofs.object.fields.Goals as goal

objects-last : (ns : List Named) (n : Named) → objects (ns ++ (n ∷ [])) ≡ objects ns ++ (object n ∷ [])
objects-last [] n = refl
objects-last (k ∷ ns) n = ap (λ l. object k ∷ l) (objects-last ns n)

pub fields-init : goal.fields-init
unfolding declarations.fields
fields-init c = (length c.args.tokens.now, omega arith, ap (λ l. climb more_items field snoc (length c.args.tokens.now) (objects l) c.args.tokens.now) (sym c.new-list.ensures))

pub returns-in_err-item : goal.returns-in_err-item
returns-in_err-item c =
    let more = sym c.more_items.ensures ∙ c.fields-test.true in
    let p = err_from_is_err_and c.from_residual.result c.from_residual.ensures.1 in
    let i = c.fields.invariant in
    let some = items_left c.fields.tokens.now more in
    rw (p.1, p.2) (fails_along _ _ _ (λ f h. i.2 ∙ climb_fails more_items field snoc (objects c.fields.list) c.fields.tokens.now i.0 (λ z. omega (arith, i.1)) more f h) c.in_err-item.ensures)

pub fields-smaller : goal.fields-smaller
fields-smaller c = field_falls c.fields.tokens.now (object c.in_ok-item.item) c.in_ok-item.rest.now c.in_ok-item.ensures

pub fields-preserved : goal.fields-preserved
fields-preserved c =
    let more = sym c.more_items.ensures ∙ c.fields-test.true in
    let i = c.fields.invariant in
    let some = items_left c.fields.tokens.now more in
    let falls = field_falls c.fields.tokens.now (object c.in_ok-item.item) c.in_ok-item.rest.now c.in_ok-item.ensures in
    let last : objects c.push.new.self ≡ snoc (objects c.fields.list) (object c.in_ok-item.item) = ap objects c.in_ok-push.ensures.ok ∙ objects-last c.fields.list c.in_ok-item.item in (
      i.0 - 1,
      omega (arith, i.1),
      i.2
          ∙ climb_goes more_items field snoc (objects c.fields.list) c.fields.tokens.now i.0 (λ z. omega (arith, i.1)) more (object c.in_ok-item.item) c.in_ok-item.rest.now c.in_ok-item.ensures
          ∙ ap (λ b. climb more_items field snoc (i.0 - 1) b c.in_ok-item.rest.now) (sym last),
    )

pub returns : goal.returns
returns c =
    let none = sym c.more_items.ensures ∙ c.fields-test.false in
    let i = c.fields.invariant in
    i.2 ∙ climb_stop more_items field snoc (objects c.fields.list) c.fields.tokens.now i.0 none
