use Rattle.std.proofs.Common.{◌+◌, ◌-◌, arith}
use Rattle.bm_pages.specs.Directory.{pages_in}
use Rattle.bm_pages.proofs.RangeLemmas.{clear_step, at_most}
use Rattle.bm_pages.proofs.range.clear_range.Goals as goal

pub loop-done-preserved : goal.loop-done-preserved
loop-done-preserved c = record {
  in_range = omega (arith, c.loop-done-test.true, at_most (c.args.addr + c.loop-done.done) (c.args.size - c.loop-done.done) c.count_in_page-count.result c.count_in_page-count.ensures);
  cleared = clear_step (pages_in c.args.directory.now) (pages_in c.loop-done.directory) (pages_in c.clear.new.self) c.args.addr c.loop-done.done c.count_in_page-count.result c.args.size c.loop-done-test.true c.count_in_page-count.ensures c.requires c.loop-done.invariant.cleared c.clear.ensures;
}
