use Rattle.sys_laws.proofs.Runs.{in-reached}
use Rattle.sys_laws.proofs.Orders.{IsOrderly, orderly-kept, orderly-booted, orderly-starts}
use Rattle.sys_laws.proofs.laws.dead_inboxes.Goals as goal

pub returns : goal.returns
returns c = λ setup ks events place h cell is.
    let (s, p) = in-reached setup IsOrderly (orderly-kept setup) orderly-booted orderly-starts ks events place h cell is in p.dead
