use Rattle.std.proofs.Common.{arith}
use Rattle.std.proofs.lemmas.Grind.{common_steps}
use Rattle.std.proofs.lemmas.List.Edits.{map_over_more}
use Rattle.mk_queue.specs.Fronts.{arrived}
use Rattle.mk_queue.proofs.front.note_arrival.Goals as goal

pub loop-i-preserved : goal.loop-i-preserved
loop-i-preserved c = grind (arith, common_steps, map_over_more (arrived c.args.source c.args.place))
