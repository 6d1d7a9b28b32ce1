use Rattle.std.proofs.Common.{◌≡◌, ◌∙◌, sym, subst}
use Rattle.lu_image_store.specs.Needed.{graph_of}
use Rattle.lu_mark.specs.Walks.{AreNext}
use Rattle.lu_scan.specs.Given.{versions}
use Rattle.lu_walk.specs.ObjectWords.{targets_at}
use Rattle.lu_walk.proofs.OverStore.{are_next}
use Rattle.lu_walk.proofs.walk.Walk.step.Goals as goal

pub returns-clause-goes_on : goal.returns-clause-goes_on
returns-clause-goes_on g c = λ old new s pairs stand walk.
    let m = versions c.args.programs.now in
    let found : c.deref.result.now ≡ targets_at m (g.B.Bytes.content c.args.memory.now) c.args.rows.now c.in-Some.number = c.deref.ensures.value ∙ c.in_ok-targets.ensures.value in
    c.step.ensures.goes_on (graph_of m s) c.in-Some.number walk (sym c.in-Some.ensures.value) (subst (AreNext (graph_of m s) c.in-Some.number) (sym found) (are_next m old new s pairs (g.B.Bytes.content c.args.memory.now) c.args.rows.now stand c.in-Some.number))
