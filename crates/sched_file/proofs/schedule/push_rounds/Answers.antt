use Rattle.std.proofs.Common.{◌<◌, arith}
use Rattle.sched_file.proofs.EventLemmas.{rounds-refused}
use Rattle.sched_file.proofs.schedule.push_rounds.Goals as goal

pub returns-in-Err : goal.returns-in-Err
returns-in-Err c =
    let below : c.loop-round._round < c.args.rounds = omega arith in
    rounds-refused c.args.events.now.items c.loop-round.events.items c.loop-round._round c.args.rounds c.args.servers c.in-Err.refusal c.loop-round.invariant.same below c.in-Err.ensures
