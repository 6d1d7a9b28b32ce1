use Rattle.bm_serve.specs.Space.{IsSpace}
use Rattle.machine_tests.proofs.services.put_ints.Given as goal

abbrev pub invariant-loop-index : goal.invariant-loop-index
invariant-loop-index g l = IsSpace l.code.types (g.B.Bytes.content l.space.memory) l.space.objects l.space.next l.space.used
