use Rattle.std.proofs.Common.{◌≡◌, ◌∙◌, sym, subst, length, arith}
use Rattle.std.proofs.lemmas.Grind.{common_steps}
use Rattle.lu_image_store.specs.Needed.{graph_of}
use Rattle.lu_mark.specs.Walks.{AreRoots}
use Rattle.lu_scan.specs.Given.{versions}
use Rattle.lu_walk.proofs.OverStore.{size_is, are_roots}
use Rattle.lu_walk.proofs.walk.Walk.begin.Goals as goal

pub returns-clause-walk : goal.returns-clause-walk
returns-clause-walk c = λ content old new s pairs stand.
    let m = versions c.args.programs.now in
    let count : c.in-Ok.count ≡ length c.args.rows.now = grind (arith, common_steps, c.in-Ok.ensures, c.len.ensures.count) in
    let found = c.deref.ensures.value ∙ c.in_ok-found.ensures.value in
    c.in_ok-marks.ensures.walk (graph_of m s) (sym (count ∙ size_is m old new s pairs content c.args.rows.now stand)) (subst (AreRoots (graph_of m s)) (sym found) (are_roots m old new s pairs content c.args.rows.now stand))
