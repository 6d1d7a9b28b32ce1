use Rattle.std.proofs.Common.{◌∙◌, ap}
use Rattle.c_types.specs.Rounds.{mark_at}
use Rattle.c_types.proofs.MarkLemmas.{holds_decided}
use Rattle.c_types.proofs.cycles.holds_itself.Goals as goal

pub returns : goal.returns
returns c =
    let t = c.args.number in
    holds_decided c.args.parts.now c.requires.numbered t c.requires.known _ (c.mark_at.ensures ∙ ap (λ marks. mark_at marks t) (c.deref.ensures.value ∙ c.in_ok-marks.ensures))
