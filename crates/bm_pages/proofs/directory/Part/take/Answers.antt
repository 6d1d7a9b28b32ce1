use Rattle.std.proofs.Common.{◌∙◌, ◌+◌, arith}
use Rattle.std.proofs.lemmas.Result.{on_ok_weaker, on_err_weaker}
use Rattle.bm_pages.specs.Directory.{part_pages}
use Rattle.bm_pages.proofs.DirectoryLemmas.{entry_taken, entry_same, taken_after, with_page}
use Rattle.bm_pages.proofs.directory.Part.take.Goals as goal

pub returns-clause-ok : goal.returns-clause-ok
returns-clause-ok c =
    let part = c.complete.new.self in
    let new = with_page part c.args.index c.take.new.self in
    on_ok_weaker c.take.result
    (λ made. taken_after (part_pages c.args.self.now) (part_pages part) (part_pages new) c.args.index (c.args.index + 1) c.complete.ensures.same (entry_taken part c.args.index c.index_mut.result.now c.take.new.self (omega (arith, c.requires, c.in_ok-complete.ensures.ok)) c.index_mut.ensures.value c.take.ensures.kept made))
    c.take.ensures.ok

pub returns-clause-err : goal.returns-clause-err
returns-clause-err c =
    on_err_weaker c.take.result
    (λ same k. entry_same c.complete.new.self c.args.index c.index_mut.result.now c.take.new.self (omega (arith, c.requires, c.in_ok-complete.ensures.ok)) c.index_mut.ensures.value same k ∙ c.complete.ensures.same k)
    c.take.ensures.err
