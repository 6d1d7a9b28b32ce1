use Rattle.std.proofs.Common.{◌≡◌, ◌∙◌, refl, sym, suc, ◌+◌, ◌-◌, arith}
use Rattle.std.proofs.lemmas.Result.{err_from_is_err_and}
use Rattle.c_ast.specs.declared.token.Mark.TheVariants.{Star}
use Rattle.c_parse_expr.specs.Reads.{climb}
use Rattle.c_parse_expr.specs.Reading as reading
use Rattle.c_parse_expr.proofs.Climb.{fails_along, climb_stop, climb_over, climb_goes, climb_fails}
use Rattle.c_parse_expr.proofs.types.stars.Goals as goal

pub stars-init : goal.stars-init
unfolding reading.stars
stars-init c = (omega arith, refl)

pub returns-then-count-eq-STAR_LIMIT : goal.returns-then-count-eq-STAR_LIMIT
returns-then-count-eq-STAR_LIMIT c =
    let more = sym c.sees.ensures ∙ c.stars-test.true in
    rw c.refusal.ensures (c.stars.invariant.1 ∙ climb_over (reading.sees Star) (reading.expect Star) reading.one_more c.stars.count c.stars.tokens.now (8 - c.stars.count) (omega arith) more)

pub returns-in_err-tokens : goal.returns-in_err-tokens
returns-in_err-tokens c =
    let more = sym c.sees.ensures ∙ c.stars-test.true in
    let p = err_from_is_err_and c.from_residual.result c.from_residual.ensures.1 in
    rw (p.1, p.2)
    (fails_along _ _ _ (λ f h. c.stars.invariant.1 ∙ climb_fails (reading.sees Star) (reading.expect Star) reading.one_more c.stars.count c.stars.tokens.now (8 - c.stars.count) (omega arith) more f h) c.in_err-tokens.ensures)

pub stars-preserved : goal.stars-preserved
stars-preserved c =
    let more = sym c.sees.ensures ∙ c.stars-test.true in
    let left : 8 - c.stars.count - 1 ≡ 8 - (c.stars.count + 1) = omega arith in
    let next : suc c.stars.count ≡ c.stars.count + 1 = omega arith in (
      omega arith,
      c.stars.invariant.1
          ∙ climb_goes (reading.sees Star) (reading.expect Star) reading.one_more c.stars.count c.stars.tokens.now (8 - c.stars.count) (omega arith) more tt c.in_ok-tokens.tokens.now c.in_ok-tokens.ensures
          ∙ (λ i. climb (reading.sees Star) (reading.expect Star) reading.one_more (left i) (next i) c.in_ok-tokens.tokens.now),
    )

pub returns : goal.returns
returns c =
    let more = sym c.sees.ensures ∙ c.stars-test.false in
    c.stars.invariant.1 ∙ climb_stop (reading.sees Star) (reading.expect Star) reading.one_more c.stars.count c.stars.tokens.now (8 - c.stars.count) more
