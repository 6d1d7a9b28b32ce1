use Rattle.std.proofs.Common.{◌≡◌, ◌∙◌, ap, ◌+◌, ◌-◌, ◌%◌, take, drop, arith}
use Rattle.bm_pages.specs.Directory.{pages_in}
use Rattle.bm_pages.proofs.RangeLemmas.{piece_of_page}
use Rattle.bm_pages.proofs.range.piece_in_page.Goals as goal

pub returns : goal.returns
returns c =
    let start = c.args.addr % 4096 in
    let count : start + c.args.count - start ≡ c.args.count = omega arith in
    ap (λ n. take n (drop start c.page.result.now)) count
    ∙ (ap (λ bytes. take c.args.count (drop start bytes)) c.page.ensures ∙ piece_of_page (pages_in c.args.directory.now) c.args.addr c.args.count c.requires.there c.requires.inside)
