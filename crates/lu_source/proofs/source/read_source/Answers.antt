use Rattle.lu_source.proofs.Told.{source-told}
use Rattle.lu_source.proofs.source.read_source.Goals as goal

pub returns-clause-answer : goal.returns-clause-answer
returns-clause-answer g c =
    source-told (g.S.Shelf.holds c.args.shelf.now) c.args.name.now c.args.pointer c.in_ok-text.text c.as_slice.result.now _
    c.as_slice.ensures c.in_ok-text.ensures.answer c.denoted.ensures.denoted c.denoted.ensures.refused
