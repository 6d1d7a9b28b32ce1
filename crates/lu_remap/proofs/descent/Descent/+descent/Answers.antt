use Rattle.std.proofs.Common.{rules, ◌∙◌, ap, ◌/◌, ◌%◌, ◌-◌}
use Rattle.lu_remap.specs.declared.descent.Held.TheVariants.{Elements, Nothing}
use Rattle.lu_remap.specs.Descent.{aim_of, versions, visit, elements_at, visit_elements, visit_element, visit_before, with_end}
use Rattle.lu_remap.proofs.Visits.{visit-at, before-is}
use Rattle.lu_remap.proofs.descent.Descent.+descent.Goals as goal

pub visit-returns-in-Elements : goal.visit-returns-in-Elements
visit-returns-in-Elements t c =
    let m = versions c.args.self.now.pairing.now in
    let aim = aim_of c.args.self.now.aim in
    let at = visit-at m aim c.args.depth c.args.ty c.args.to c.args.offset c.args.spot (Elements c.in-Elements.ty c.in-Elements.count) c.if-depth-eq0.false (search rules) in
    c.visit_elements.ensures
    ∙ (ap (λ run. visit_elements m aim (visit m aim (c.args.depth - 1)) c.in-Elements.ty c.in-Elements.count run c.args.offset c.add_place-spot.result) c.elements_at-new.ensures.value
    ∙ (ap (visit_elements m aim (visit m aim (c.args.depth - 1)) c.in-Elements.ty c.in-Elements.count (elements_at m c.args.to) c.args.offset) c.add_place-spot.ensures ∙ at))

pub visit-returns-in-Nothing : goal.visit-returns-in-Nothing
visit-returns-in-Nothing t c =
    c.add_place-spot.ensures ∙ visit-at (versions c.args.self.now.pairing.now) (aim_of c.args.self.now.aim) c.args.depth c.args.ty c.args.to c.args.offset c.args.spot Nothing c.if-depth-eq0.false (search rules)

pub visit_before-returns-in-Some : goal.visit_before-returns-in-Some
visit_before-returns-in-Some t c =
    let m = versions c.args.self.now.pairing.now in
    let part = visit m (aim_of c.args.self.now.aim) c.args.depth c.args.stretch.ty in
    let some = c.in-Some.ensures in
    c.visit_element.ensures ∙ before-is m part c.args.stretch.new c.args.size c.args.stretch.count (c.args.offset % c.args.size) (c.args.offset / c.args.size) c.in-Some.i c.args.spot c.if-offset-size-ne0.false some.0 some.1

pub visit_elements-returns : goal.visit_elements-returns
visit_elements-returns t c =
    let m = versions c.args.self.now.pairing.now in
    let aim = aim_of c.args.self.now.aim in
    let part = visit m aim c.args.depth c.args.stretch.ty in
    let new = c.args.stretch.new in
    let count = c.args.stretch.count in
    let offset = c.args.offset in
    let size = c.size_of-size.result in
    c.visit_element.ensures
    ∙ (ap (visit_element m part new count (offset / size) (offset % size)) (c.visit_before-spot.ensures ∙ ap (visit_before m part new size count offset) c.add_end-spot.ensures)
    ∙ ap (λ z. visit_element m part new count (offset / z) (offset % z) (visit_before m part new z count offset (with_end m aim c.args.stretch.ty count new offset c.args.spot))) c.size_of-size.ensures.value)
