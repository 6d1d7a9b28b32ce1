use Rattle.std.proofs.Common.{◌≡◌, ◌+◌, ◌≤◌, ◌^◌, drop}
use Rattle.bm_serve.specs.Space.{IsSpace}
use Rattle.bm_code.specs.Globals.{no_objects, with_globals}
use Rattle.bm_cpu.proofs.GlobalLemmas.{room}
use Rattle.bm_cpu.proofs.objects.put_globals.Given as goal

abbrev pub invariant-loop-global : goal.invariant-loop-global
invariant-loop-global g l = record {
  space : IsSpace l.code.types (g.B.Bytes.content l.space.memory) l.space.objects l.space.next l.space.used;
  placed : with_globals l.code.types (record { content = g.B.Bytes.content l.space.memory; rows = l.space.objects; next = l.space.next }) (drop l.global-index l.code.globals) ≡ with_globals l.code.types no_objects l.code.globals;
  low : l.space.next + room (drop l.global-index l.code.globals) ≤ 2 ^ 21;
}
