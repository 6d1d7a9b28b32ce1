use Rattle.std.proofs.Common.{◌≡◌, ◌≤◌, IfSome, length}
use Rattle.lu_cli.proofs.RunLemmas.{Reached}
use Rattle.lu_cli.proofs.run.run.Given as goal

abbrev pub invariant-loop-n : goal.invariant-loop-n
invariant-loop-n g l = record {
  count : length l.system.runners ≡ length l.setup.plan.server;
  later : g.K.Sink.faults l.fn.sink ≤ g.K.Sink.faults l.sink;
  reached : IfSome (g.K.Sink.wrote l.fn.sink) (λ before. Reached l.setup l.servers.items l.n l.system before (g.K.Sink.wrote l.sink));
}
