use Rattle.std.proofs.Common.{◌<◌, arith}
use Rattle.sched_file.proofs.EventLemmas.{round-refused}
use Rattle.sched_file.proofs.schedule.push_round.Goals as goal

pub returns-in-Err : goal.returns-in-Err
returns-in-Err c =
    let below : c.loop-server.server < c.args.servers = omega arith in
    round-refused c.args.events.now.items c.loop-server.events.items c.loop-server.server c.args.servers c.in-Err.refusal c.loop-server.invariant.same below c.in-Err.ensures
