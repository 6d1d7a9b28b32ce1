use Rattle.std.proofs.Common.{List, ◌≡◌, ◌≤◌, ◌∙◌, sym, ap, refl, length, map, arith, suc}
use Rattle.c_types.specs.declared.shape.Shape.{Shape}
use Rattle.c_types.specs.Rounds.{round_shape, shape_rounds}
use Rattle.c_types.proofs.RoundLemmas.{still}
use Rattle.c_types.proofs.rounds.all_shapes.Goals as goal

pub returns-then-same_shapes-clause-value : goal.returns-then-same_shapes-clause-value
returns-then-same_shapes-clause-value c =
    let p = c.args.parts.now in
    let rounds = shape_rounds p in
    let step = λ (shapes : List Shape). map (round_shape p shapes) p.types in
    let same : rounds (suc c.loop.counter) ≡ rounds c.loop.counter =
    sym (ap step (c.deref.ensures.value ∙ c.loop.invariant.value))
    ∙ (sym c.in_ok-next.ensures.value
    ∙ (sym c.deref-in-loop.ensures.value
    ∙ (c.same_shapes.ensures c.if-same_shapes.true
    ∙ (c.deref-in-loop-2.ensures.value ∙ c.loop.invariant.value))))
    in
    let within : c.loop.counter ≤ length p.types = omega (arith, ap length c.as_slice-count.ensures) in
    c.loop.invariant.value ∙ still rounds step (λ k. refl) c.loop.counter same (length p.types) within
