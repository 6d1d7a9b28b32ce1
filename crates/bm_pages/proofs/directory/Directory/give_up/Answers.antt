use Rattle.std.proofs.Common.{◌%◌, []}
use Rattle.bm_pages.proofs.DirectoryLemmas.{part_changed, part_inside, page_inside, row-with_page, with_page}
use Rattle.bm_pages.proofs.directory.Directory.give_up.Goals as goal

pub returns : goal.returns
returns c =
    let parts = c.args.self.now.parts.items in
    let part = c.index_mut-part.result.now in
    let inside = part_inside parts c.args.number c.requires in
    let page_there = page_inside parts c.args.number part c.requires c.index_mut-part.ensures.value in
    part_changed parts c.args.number part (with_page part (c.args.number % 1024) c.give_up.new.self) [] inside c.index_mut-part.ensures.value page_there (row-with_page part (c.args.number % 1024) c.give_up.new.self [] c.give_up.ensures)
