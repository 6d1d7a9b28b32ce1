use Rattle.std.proofs.Common.{◌∙◌, ◌+◌, ◌<◌, ◌/◌, length, arith}
use Rattle.std.proofs.lemmas.Result.{on_ok_weaker, on_err_weaker}
use Rattle.bm_pages.specs.Directory.{pages_in, page_in, rows_of}
use Rattle.std.specs.List.{slice_set}
use Rattle.bm_pages.proofs.DirectoryLemmas.{part_taken, part_same, taken_after}
use Rattle.bm_pages.proofs.directory.Directory.take.Goals as goal

pub returns-clause-ok : goal.returns-clause-ok
returns-clause-ok c =
    let parts = c.complete.new.self.parts.items in
    let inside : c.args.number / 1024 < length parts = omega (arith, c.requires, c.in_ok-complete.ensures.ok) in
    on_ok_weaker c.take.result
    (λ taken. taken_after (pages_in c.args.self.now) (page_in (rows_of parts)) (page_in (rows_of (slice_set parts (c.args.number / 1024) c.take.new.self))) c.args.number (c.args.number + 1) c.complete.ensures.same (part_taken parts c.args.number c.index_mut-part.result.now c.take.new.self inside c.index_mut-part.ensures.value taken))
    c.take.ensures.ok

pub returns-clause-err : goal.returns-clause-err
returns-clause-err c =
    let parts = c.complete.new.self.parts.items in
    let inside : c.args.number / 1024 < length parts = omega (arith, c.requires, c.in_ok-complete.ensures.ok) in
    on_err_weaker c.take.result
    (λ same page. part_same parts c.args.number c.index_mut-part.result.now c.take.new.self inside c.index_mut-part.ensures.value same page ∙ c.complete.ensures.same page)
    c.take.ensures.err
