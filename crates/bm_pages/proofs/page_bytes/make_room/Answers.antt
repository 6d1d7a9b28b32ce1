use Rattle.std.proofs.Common.{◌∙◌, ◌+◌, ◌-◌, ◌/◌}
use Rattle.bm_pages.specs.Directory.{pages_in}
use Rattle.bm_pages.proofs.PlaceLemmas.{undone}
use Rattle.bm_pages.proofs.page_bytes.make_room.Goals as goal

pub returns-in-Err-clause-pages : goal.returns-in-Err-clause-pages
returns-in-Err-clause-pages c =
    undone c.args.extents.now.items c.deref.result.now (pages_in c.args.directory.now) (pages_in c.try_room.new.directory) (pages_in c.release_range.new.directory) (c.args.extent.addr / 4096) ((c.args.extent.addr + c.args.extent.size - 1) / 4096 + 1) c.first_page.result c.end_page.result c.requires.sound c.in-Err.ensures.partly (c.deref.ensures.value ∙ c.in-Err.ensures.same) c.first_page.ensures c.end_page.ensures c.release_range.ensures
