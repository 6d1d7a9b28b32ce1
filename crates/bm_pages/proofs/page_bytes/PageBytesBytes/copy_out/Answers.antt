use Rattle.std.proofs.Common.{length}
use Rattle.bm_pages.specs.Directory.{pages_in}
use Rattle.bm_pages.proofs.ContentLemmas.{reads, backed}
use Rattle.bm_pages.proofs.page_bytes.PageBytesBytes.copy_out.Goals as goal

pub copy_range-requires : goal.copy_range-requires
copy_range-requires c =
    backed (pages_in c.self.inside.directory) c.self.inside.extents.items c.self.invariant c.args.self.now c.self.view_is c.args.addr (length c.args.into.now) c.requires

pub returns : goal.returns
returns c =
    reads (pages_in c.self.inside.directory) c.self.inside.extents.items c.self.invariant c.args.self.now c.self.view_is c.args.addr (length c.args.into.now) c.copy_range.new.into c.copy_range.ensures
