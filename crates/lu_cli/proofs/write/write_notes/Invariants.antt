use Rattle.std.proofs.Common.{◌≤◌, IfSome, length}
use Rattle.lu_cli.specs.Told.{lines_bytes}
use Rattle.lu_cli.proofs.SequenceLemmas.{SoFar}
use Rattle.lu_cli.proofs.write.write_notes.Given as goal

abbrev pub invariant-loop-rest : goal.invariant-loop-rest
invariant-loop-rest g l = record {
  later : g.K.Sink.faults l.fn.sink ≤ g.K.Sink.faults l.sink;
  so_far : IfSome (g.K.Sink.wrote l.fn.sink) (λ before. SoFar before (lines_bytes l.notes) (lines_bytes l.rest) (g.K.Sink.wrote l.sink));
}

abbrev pub decreases-loop-rest : goal.decreases-loop-rest
decreases-loop-rest g l = length l.rest
