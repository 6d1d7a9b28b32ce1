use Rattle.std.proofs.Common.{◌∙◌, ap, List, ℕ, length}
use Rattle.lu_mark.specs.Marking.{Marking, flagged, in_order}
use Rattle.lu_mark.proofs.Kept.{flagged-is, order_keeps}
use Rattle.lu_mark.proofs.marks.Marks.order.Goals as goal

pub invariant_of-self : goal.invariant_of-self
invariant_of-self c =
    let listed = c.list_set.ensures.numbers ∙ (ap flagged c.deref.ensures.value ∙ flagged-is c.self.inside.flags.items c.self.inside.marked.items c.self.inside.walked _ c.self.invariant.0 c.self.invariant.1) in
    order_keeps c.self.inside.flags.items c.self.inside.marked.items c.self.inside.walked _ c.self.invariant.0 c.self.invariant.1 _ _ listed c.list_set.ensures.capacity c.self.invariant.2

pub returns : goal.returns
returns c =
    let listed = c.list_set.ensures.numbers ∙ (ap flagged c.deref.ensures.value ∙ flagged-is c.self.inside.flags.items c.self.inside.marked.items c.self.inside.walked _ c.self.invariant.0 c.self.invariant.1) in
    let here : List ℕ → Marking = λ zs. record { size = length c.self.inside.flags.items; marked = zs; walked = c.self.inside.walked } in
    ap here listed ∙ ap in_order c.self.view_is
