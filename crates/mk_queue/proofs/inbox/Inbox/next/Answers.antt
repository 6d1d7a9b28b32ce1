use Rattle.std.proofs.Common.{arith, ◌≡◌, None}
use Rattle.std.proofs.lemmas.Grind.{common_steps}
use Rattle.mk_queue.specs.Fronts.{least_free}
use Rattle.mk_queue.specs.Held.{next_message}
use Rattle.mk_queue.proofs.Least.{least-next}
use Rattle.mk_queue.proofs.inbox.Inbox.next.Goals as goal

pub returns : goal.returns
returns c =
    let next : least_free c.args.hold.now c.self.inside.messages.items None c.self.inside.fronts.items ≡ next_message c.args.hold.now c.self.inside.messages.items =
    least-next c.args.hold.now c.self.inside.messages.items c.self.inside.fronts.items c.self.invariant in
    grind (arith, common_steps)
