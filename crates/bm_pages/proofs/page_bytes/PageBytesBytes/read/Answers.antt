use Rattle.std.proofs.Common.{◌≡◌, ◌+◌, ◌/◌, arith, subst}
use Rattle.bm_mem.proofs.ObjectLemmas.{width_some}
use Rattle.bm_pages.specs.Pages.{IsThere}
use Rattle.bm_pages.specs.Directory.{pages_in}
use Rattle.bm_pages.proofs.ContentLemmas.{reads, backed}
use Rattle.bm_pages.proofs.page_bytes.PageBytesBytes.read.Goals as goal

pub piece_in_page-requires-clause-there : goal.piece_in_page-requires-clause-there
piece_in_page-requires-clause-there c =
    let pages = pages_in c.self.inside.directory in
    let all = backed pages c.self.inside.extents.items c.self.invariant c.args.self.now c.self.view_is c.args.addr c.args.len c.requires.inside in
    let first : c.args.addr + 0 ≡ c.args.addr = omega arith in
    subst (λ a. IsThere pages (a / 4096)) first (all 0 (width_some c.args.len c.requires.width))

pub returns : goal.returns
returns c =
    reads (pages_in c.self.inside.directory) c.self.inside.extents.items c.self.invariant c.args.self.now c.self.view_is c.args.addr c.args.len c.piece_in_page.result.now c.piece_in_page.ensures
