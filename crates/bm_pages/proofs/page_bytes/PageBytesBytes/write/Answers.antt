use Rattle.std.proofs.Common.{length}
use Rattle.bm_pages.specs.Directory.{pages_in}
use Rattle.bm_pages.proofs.ContentLemmas.{backed, sound_after, writes}
use Rattle.bm_pages.proofs.page_bytes.PageBytesBytes.write.Goals as goal

pub write_range-requires : goal.write_range-requires
write_range-requires c =
    backed (pages_in c.self.inside.directory) c.self.inside.extents.items c.self.invariant c.args.self.now c.self.view_is c.args.addr (length c.args.piece.now) c.requires

pub invariant_of-self : goal.invariant_of-self
invariant_of-self c =
    sound_after (pages_in c.self.inside.directory) c.self.inside.extents.items c.self.invariant c.args.self.now c.self.view_is (pages_in c.write_range.new.directory) c.args.addr c.args.piece.now c.write_range.ensures

pub returns : goal.returns
returns c =
    writes (pages_in c.self.inside.directory) c.self.inside.extents.items c.self.invariant c.args.self.now c.self.view_is (pages_in c.write_range.new.directory) c.args.addr c.args.piece.now c.write_range.ensures
