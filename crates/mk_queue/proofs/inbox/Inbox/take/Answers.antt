use Rattle.std.proofs.Common.{rules, arith, ◌≡◌, ◌<◌, length}
use Rattle.std.specs.Prelude.{remove}
use Rattle.std.proofs.lemmas.Grind.{common_steps}
use Rattle.std.proofs.lemmas.Option.{gets}
use Rattle.mk_queue.proofs.Fronts.{are_after_removal}
use Rattle.mk_queue.proofs.inbox.Inbox.take.Goals as goal

pub invariant_of-self : goal.invariant_of-self
invariant_of-self c =
    let items : c.remove.new.self.items ≡ remove c.self.inside.messages.items c.args.place = first_of (search rules, grind (arith, common_steps)) in
    let within : c.args.place < length c.self.inside.messages.items = first_of (search rules, grind (arith, common_steps)) in
    rw (c.note_removal.ensures, items) (are_after_removal c.self.inside.messages.items c.args.place c.self.inside.fronts.items within c.self.invariant)

pub returns-clause-message : goal.returns-clause-message
returns-clause-message c = grind (arith, common_steps, gets)
