use Rattle.std.proofs.Common.{◌≡◌, ◌++◌, drop}
use Rattle.cg_server.specs.Dump.{live_notes}
use Rattle.cg_server.proofs.dump.live_notes.Given as goal

abbrev pub invariant-loop-number : goal.invariant-loop-number
invariant-loop-number g l =
    l.notes.items ++ live_notes l.p (g.B.Bytes.content l.memory) l.number (drop l.number l.objects) ≡ live_notes l.p (g.B.Bytes.content l.memory) 0 l.objects
