use Rattle.std.proofs.Common.{List, Bool, ◌≡◌, ◌≤◌, ◌∙◌, sym, ap, refl, length, map, arith, suc}
use Rattle.c_types.specs.Rounds.{round_mark, mark_rounds}
use Rattle.c_types.proofs.RoundLemmas.{still}
use Rattle.c_types.proofs.rounds.all_marks.Goals as goal

pub returns-then-same_marks : goal.returns-then-same_marks
returns-then-same_marks c =
    let p = c.args.parts.now in
    let rounds = mark_rounds p c.args.target c.args.start in
    let step = λ (marks : List Bool). map (round_mark p c.args.target marks) p.types in
    let same : rounds (suc c.loop.counter) ≡ rounds c.loop.counter =
    sym (ap step (c.deref.ensures.value ∙ c.loop.invariant))
    ∙ (sym c.in_ok-next.ensures
    ∙ (sym c.deref-in-loop.ensures.value
    ∙ (c.same_marks.ensures c.if-same_marks.true
    ∙ (c.deref-in-loop-2.ensures.value ∙ c.loop.invariant))))
    in
    let within : c.loop.counter ≤ length p.types = omega (arith, ap length c.as_slice-count.ensures) in
    c.loop.invariant ∙ still rounds step (λ k. refl) c.loop.counter same (length p.types) within
