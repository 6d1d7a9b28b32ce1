use Rattle.std.proofs.Common.{◌≡◌, ◌∙◌, sym, ap, false, ◌<◌, length, get_or, arith}
use Rattle.lu_mark.specs.Marking.{Marking}
use Rattle.lu_mark.proofs.Kept.{has_room, mark_keeps}
use Rattle.lu_mark.proofs.marks.Marks.mark.Goals as goal

pub push_reserved-requires : goal.push_reserved-requires
push_reserved-requires c =
    let low : c.args.object < length c.self.inside.flags.items = omega (arith, c.requires, ap (λ (m : Marking). m.size) c.self.view_is) in
    let clear : get_or c.self.inside.flags.items c.args.object false ≡ false = sym (ap (get_or c.self.inside.flags.items c.args.object) c.if-not-index.true) ∙ (sym c.index.ensures ∙ c.if-not-index.true) in
    let room = has_room c.self.inside.flags.items c.self.inside.marked.items c.self.inside.walked _ c.self.invariant.0 c.self.invariant.1 c.args.object low clear in
    omega (arith, room, c.self.inside.marked.ok.0)

pub invariant_of-self : goal.invariant_of-self
invariant_of-self c =
    let low : c.args.object < length c.self.inside.flags.items = omega (arith, c.requires, ap (λ (m : Marking). m.size) c.self.view_is) in
    let clear : get_or c.self.inside.flags.items c.args.object false ≡ false = sym (ap (get_or c.self.inside.flags.items c.args.object) c.if-not-index.true) ∙ (sym c.index.ensures ∙ c.if-not-index.true) in
    mark_keeps c.self.inside.flags.items c.self.inside.marked.items c.self.inside.walked _ c.self.invariant.0 c.self.invariant.1 c.args.object low clear _ _ c.push_reserved.ensures.items c.push_reserved.ensures.capacity c.self.invariant.2
