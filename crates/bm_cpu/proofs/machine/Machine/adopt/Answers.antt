use Rattle.bm_cpu.proofs.Spaces.{space_given}
use Rattle.bm_cpu.proofs.machine.Machine.adopt.Goals as goal

pub invariant_of-result : goal.invariant_of-result
invariant_of-result g c =
    let a = c.args in
    (c.requires.accepted, space_given a.code.now.types (g.B.Bytes.content a.mem) a.rows c.next_address-next.result c.heap_bytes-used.result c.requires.mapped c.requires.known c.next_address-next.ensures.table c.next_address-next.ensures.is c.heap_bytes-used.ensures)
