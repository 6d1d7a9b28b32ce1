use Rattle.lu_load.proofs.Loaded.{program-told, source-answered}
use Rattle.lu_load.proofs.source.load_source.Goals as goal

pub returns-in-Ok-clause-answer : goal.returns-in-Ok-clause-answer
returns-in-Ok-clause-answer g c =
    source-answered (g.S.Shelf.holds c.args.shelf.now) c.args.source.now c.in-Ok.program _
    (program-told (g.S.Shelf.holds c.args.shelf.now) c.args.source.now c.pointer_size-pointer.result c.as_str.result.now c.in-Ok.program
    c.pointer_size-pointer.ensures.value c.as_str.ensures c.in-Ok.ensures.answer)
    c.compiled.ensures
