use Rattle.std.proofs.Common.{arith}
use Rattle.bm_cpu.proofs.Rows.{heap_more, heap_low}
use Rattle.bm_cpu.proofs.objects.heap_bytes.Goals as goal

pub overflow_add-sum : goal.overflow_add-sum
overflow_add-sum c =
    let rows = c.args.objects.now in
    omega (arith, heap_more rows c.loop-index.index c.row.result c.row.ensures, heap_low rows c.len-count.ensures.table, c.loop-index.invariant, c.heap_part.ensures)

pub loop-index-preserved : goal.loop-index-preserved
loop-index-preserved c =
    omega (arith, heap_more c.args.objects.now c.loop-index.index c.row.result c.row.ensures, c.loop-index.invariant, c.heap_part.ensures)
