use Rattle.sys_laws.proofs.Runs.{in-reached}
use Rattle.sys_laws.proofs.Orders.{IsOrderly, orderly-kept, orderly-booted, orderly-starts, first-delivered}
use Rattle.sys_laws.proofs.laws.message_order.Goals as goal

pub returns-clause-whole : goal.returns-clause-whole
returns-clause-whole c = λ setup ks events place h cell is.
    let (s, p) = in-reached setup IsOrderly (orderly-kept setup) orderly-booted orderly-starts ks events place h cell is in p.ordered

pub returns-clause-delivered : goal.returns-clause-delivered
returns-clause-delivered c = λ setup ks events place h cell is.
    let (s, p) = in-reached setup IsOrderly (orderly-kept setup) orderly-booted orderly-starts ks events place h cell is in
    first-delivered h cell p.ordered
