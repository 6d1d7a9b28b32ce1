use Rattle.std.proofs.Common.{◌∙◌, ap, ◌<◌, ◌%◌, length, replicate, arith}
use Rattle.lu_spec.specs.Splice.{spliced}
use Rattle.bm_pages.specs.Directory.{pages_in}
use Rattle.bm_pages.proofs.DirectoryLemmas.{part_changed, part_inside, page_inside, page_read, row-with_page, with_page}
use Rattle.bm_pages.proofs.directory.Directory.clear.Goals as goal

pub returns : goal.returns
returns c =
    let parts = c.args.self.now.parts.items in
    let part = c.index_mut-part.result.now in
    let there : 0 < length (pages_in c.args.self.now c.args.number) = omega (arith, c.requires.there) in
    let inside = part_inside parts c.args.number there in
    let page_there = page_inside parts c.args.number part there c.index_mut-part.ensures.value in
    let read = page_read parts c.args.number part c.index_mut.result.now inside c.index_mut-part.ensures.value page_there c.index_mut.ensures.value in
    let new = spliced (pages_in c.args.self.now c.args.number) c.args.start (replicate c.args.count 0) in
    part_changed parts c.args.number part (with_page part (c.args.number % 1024) c.clear.new.self) new inside c.index_mut-part.ensures.value page_there (row-with_page part (c.args.number % 1024) c.clear.new.self new (c.clear.ensures ∙ ap (λ bytes. spliced bytes c.args.start (replicate c.args.count 0)) read))
