use Rattle.sys_world.specs.Replay.{IsReplayed}
use Rattle.sys_laws.proofs.Runs.{in-booted}
use Rattle.sys_laws.proofs.Replays.{IsFresh, replayed-kept, fresh-booted, starts-fresh}
use Rattle.sys_laws.proofs.laws.replay.Goals as goal

pub returns : goal.returns
returns c = λ setup ks events none place s h cell at is.
    in-booted setup (IsReplayed setup) (replayed-kept setup) IsFresh (fresh-booted setup) starts-fresh ks events none place s h cell at is
