use Rattle.std.proofs.Common.{arith, ◌≡◌, ◌++◌, ◌∷◌, [], map, length}
use Rattle.std.proofs.lemmas.Grind.{common_steps}
use Rattle.mk_queue.specs.Fronts.{with_front, AreFronts, arrived}
use Rattle.mk_queue.proofs.Fronts.{are_after_made, are_after_arrival, has_made}
use Rattle.mk_queue.proofs.inbox.Inbox.push.Goals as goal

pub invariant_of-self-in_err-push_back : goal.invariant_of-self-in_err-push_back
invariant_of-self-in_err-push_back c =
    let made : AreFronts c.self.inside.messages.items (with_front c.self.inside.fronts.items c.args.message.source) =
    are_after_made c.self.inside.messages.items c.self.inside.fronts.items c.args.message.source c.self.invariant in
    let items : c.push_back.new.self.items ≡ c.self.inside.messages.items = c.in_err-push_back.ensures.items in
    grind (arith, common_steps, c.in_ok-make_front.ensures.ok)

pub invariant_of-self-2 : goal.invariant_of-self-2
invariant_of-self-2 c =
    let made : AreFronts c.self.inside.messages.items (with_front c.self.inside.fronts.items c.args.message.source) =
    are_after_made c.self.inside.messages.items c.self.inside.fronts.items c.args.message.source c.self.invariant in
    let after : AreFronts (c.self.inside.messages.items ++ c.args.message ∷ [])
    (map (arrived c.args.message.source (length c.self.inside.messages.items)) (with_front c.self.inside.fronts.items c.args.message.source)) =
    are_after_arrival c.self.inside.messages.items c.args.message (with_front c.self.inside.fronts.items c.args.message.source) made (has_made c.self.inside.fronts.items c.args.message.source) in
    grind (arith, common_steps)
