use Rattle.std.proofs.Common.{◌<◌, ◌∙◌, ◌++◌, ◌-◌, ◌+◌, ap, sym, length, Some, None, arith}
use Rattle.std.specs.Option.{option_map}
use Rattle.c_types.specs.Descent.{descend}
use Rattle.c_types.proofs.Descending.{descend-here, descend-on, map-append, some-nil}
use Rattle.c_types.proofs.places.find_place.Goals as goal

pub returns-then-is_here : goal.returns-then-is_here
returns-then-is_here c =
    let p = c.args.parts.now in
    let at = c.loop.at in
    let lt : c.loop.counter < length p.types = omega (arith, ap length c.as_slice-end.ensures) in
    let here = descend-here p (length p.types) c.loop.counter at.ty at.rest c.args.want lt (sym c.is_here.ensures ∙ c.if-is_here.true) in
    ap Some c.from_vec.ensures
    ∙ (some-nil c.loop.steps.items
    ∙ (ap (option_map (λ rest. c.loop.steps.items ++ rest)) (sym here) ∙ c.loop.invariant))

pub returns-in_default-part_at : goal.returns-in_default-part_at
returns-in_default-part_at c =
    let p = c.args.parts.now in
    let at = c.loop.at in
    let lt : c.loop.counter < length p.types = omega (arith, ap length c.as_slice-end.ensures) in
    let on = descend-on p (length p.types) c.loop.counter at.ty at.rest c.args.want lt None (sym c.is_here.ensures ∙ c.if-is_here.false) c.in_default-part_at.ensures in
    ap (option_map (λ rest. c.loop.steps.items ++ rest)) (sym on) ∙ c.loop.invariant

pub loop-preserved : goal.loop-preserved
loop-preserved c =
    let p = c.args.parts.now in
    let at = c.loop.at in
    let next = c.in-Some-part_at.next in
    let lt : c.loop.counter < length p.types = omega (arith, ap length c.as_slice-end.ensures) in
    let on = descend-on p (length p.types) c.loop.counter at.ty at.rest c.args.want lt (Some next) (sym c.is_here.ensures ∙ c.if-is_here.false) c.in-Some-part_at.ensures in
    let below = descend p (length p.types - (c.loop.counter + 1)) next.ty next.rest c.args.want in
    ap (λ steps. option_map (λ rest. steps ++ rest) below) c.in_ok-push-2.ensures.items
    ∙ (map-append c.loop.steps.items next.step below
    ∙ (ap (option_map (λ rest. c.loop.steps.items ++ rest)) (sym on) ∙ c.loop.invariant))
