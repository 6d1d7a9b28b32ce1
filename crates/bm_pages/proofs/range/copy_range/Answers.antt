use Rattle.std.proofs.Common.{◌≡◌, ◌∙◌, ap, ◌+◌, length, take, arith}
use Rattle.lu_spec.proofs.SpliceLemmas.{length-spliced}
use Rattle.bm_pages.specs.Directory.{pages_in}
use Rattle.bm_pages.proofs.RangeLemmas.{copy_step, piece_fits, piece_long}
use Rattle.bm_pages.proofs.range.copy_range.Goals as goal

pub overwrite-requires : goal.overwrite-requires
overwrite-requires c =
    piece_fits (pages_in c.args.directory.now) c.args.addr c.loop-done.done c.count_in_page-count.result c.loop-done.into c.piece_in_page.result.now c.loop-done-test.true c.count_in_page-count.ensures c.piece_in_page.ensures

pub loop-done-preserved : goal.loop-done-preserved
loop-done-preserved c =
    let into = c.loop-done.into in
    let piece = c.piece_in_page.result.now in
    let fits = piece_fits (pages_in c.args.directory.now) c.args.addr c.loop-done.done c.count_in_page-count.result into piece c.loop-done-test.true c.count_in_page-count.ensures c.piece_in_page.ensures in
    let long = piece_long (pages_in c.args.directory.now) c.args.addr c.loop-done.done c.count_in_page-count.result into piece c.loop-done-test.true c.count_in_page-count.ensures c.piece_in_page.ensures in
    let same : length c.overwrite.new.bytes ≡ length into = ap length c.overwrite.ensures ∙ length-spliced into c.loop-done.done piece fits in
    record {
      in_range = omega (arith, fits, long, same);
      as_long = same ∙ c.loop-done.invariant.as_long;
      copied = ap (take (c.loop-done.done + c.count_in_page-count.result)) c.overwrite.ensures ∙ copy_step (pages_in c.args.directory.now) c.args.addr c.loop-done.done c.count_in_page-count.result into piece c.loop-done-test.true c.count_in_page-count.ensures c.piece_in_page.ensures c.loop-done.invariant.copied;
    }
