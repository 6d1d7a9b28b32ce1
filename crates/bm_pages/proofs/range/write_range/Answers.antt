use Rattle.std.proofs.Common.{◌+◌, ◌-◌, length, arith}
use Rattle.bm_pages.specs.Directory.{pages_in}
use Rattle.bm_pages.proofs.RangeLemmas.{write_step, at_most}
use Rattle.bm_pages.proofs.range.write_range.Goals as goal

pub loop-done-preserved : goal.loop-done-preserved
loop-done-preserved c = record {
  in_range = omega (arith, c.loop-done-test.true, at_most (c.args.addr + c.loop-done.done) (length c.args.piece.now - c.loop-done.done) c.count_in_page-count.result c.count_in_page-count.ensures);
  written = write_step (pages_in c.args.directory.now) (pages_in c.loop-done.directory) (pages_in c.write.new.self) c.args.addr c.loop-done.done c.count_in_page-count.result c.args.piece.now c.loop-done-test.true c.count_in_page-count.ensures c.requires c.loop-done.invariant.written c.write.ensures;
}
