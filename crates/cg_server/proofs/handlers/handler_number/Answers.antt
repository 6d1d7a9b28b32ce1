use Rattle.std.proofs.Common.{◌≡◌, ◌∙◌, ap, arith, length}
use Rattle.std.specs.Prelude.{position, unwrap_or}
use Rattle.std.specs.List.{position_or_len}
use Rattle.src_meaning.specs.Valid.{is_handler}
use Rattle.cg_server.specs.Deliveries.{handler_number}
use Rattle.cg_server.proofs.Parameters.{or_all, number_low}
use Rattle.cg_server.proofs.handlers.handler_number.Goals as goal

pub returns : goal.returns
returns c =
    let p = c.program-p.result.now in
    let w = c.args.word.now in
    c.unwrap_or.ensures
    ∙ (ap (λ o. unwrap_or o (length c.as_slice-count.result.now)) c.position_of.ensures
    ∙ (ap (λ fs. unwrap_or (position (is_handler p w) p.functions) (length fs)) c.as_slice-count.ensures
    ∙ (or_all (is_handler p w) p.functions ∙ ap (λ p. position_or_len (is_handler p w) p.functions) c.program-p.ensures.value)))

pub overflow_cast-result : goal.overflow_cast-result
overflow_cast-result c =
    let p = c.program-p.result.now in
    let w = c.args.word.now in
    let is : c.unwrap_or.result ≡ handler_number c.args.code.now w = c.unwrap_or.ensures
    ∙ (ap (λ o. unwrap_or o (length c.as_slice-count.result.now)) c.position_of.ensures
    ∙ (ap (λ fs. unwrap_or (position (is_handler p w) p.functions) (length fs)) c.as_slice-count.ensures
    ∙ (or_all (is_handler p w) p.functions ∙ ap (λ p. position_or_len (is_handler p w) p.functions) c.program-p.ensures.value))) in
    let low = number_low c.args.code.now c.program-p.ensures.source w in
    omega (arith, is, low)
