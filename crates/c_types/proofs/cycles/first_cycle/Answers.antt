use Rattle.std.proofs.Common.{◌∙◌, sym, ap, ◌<◌, length, arith}
use Rattle.c_types.specs.Rounds.{mark_at}
use Rattle.c_types.proofs.MarkLemmas.{unmarked-none}
use Rattle.c_types.proofs.Acyclic.{IsCyclic-within}
use Rattle.c_types.proofs.cycles.first_cycle.Goals as goal

pub is_cyclic-requires-clause-marked : goal.is_cyclic-requires-clause-marked
is_cyclic-requires-clause-marked c =
    let p = c.args.parts.now in
    let t = c.loop-number.number in
    let within : t < length p.types = omega (arith, ap length c.as_slice-number-end.ensures) in
    λ e. unmarked-none p c.requires t within (sym (ap (λ marks. mark_at marks t) (c.deref.ensures.value ∙ c.in_ok-marks.ensures)) ∙ (sym c.mark_at.ensures ∙ e))

pub returns : goal.returns
returns c n h =
    let within = IsCyclic-within c.args.parts.now n h in
    c.loop-number.invariant n (omega (arith, ap length c.as_slice-number-end.ensures, within)) h
