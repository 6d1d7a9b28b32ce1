use Rattle.std.proofs.Common.{arith}
use Rattle.bm_pages.specs.Directory.{pages_in}
use Rattle.bm_pages.proofs.RangeLemmas.{released_more}
use Rattle.bm_pages.proofs.range.release_range.Goals as goal

pub loop-number-preserved : goal.loop-number-preserved
loop-number-preserved c = record {
  in_range = omega (arith, c.loop-number.invariant.in_range);
  released = released_more c.args.extents.now (pages_in c.args.directory.now) (pages_in c.loop-number.directory) (pages_in c.release_page.new.directory) c.args.first c.loop-number.number c.loop-number.invariant.in_range c.loop-number.invariant.released c.release_page.ensures;
}
