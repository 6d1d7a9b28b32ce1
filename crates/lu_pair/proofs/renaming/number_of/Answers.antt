use Rattle.std.proofs.Common.{◌≡◌, ◌∙◌, sym, Some, arith}
use Rattle.lu_image.specs.Names.{find}
use Rattle.lu_pair.proofs.Finding.{find-within}
use Rattle.lu_pair.proofs.renaming.number_of.Goals as goal

pub overflow_cast-result : goal.overflow_cast-result
overflow_cast-result c =
    let found : find c.args.name.now c.args.list.now ≡ Some c.in-Some.place = sym c.find.ensures ∙ c.in-Some.is in
    let low = find-within c.args.name.now c.args.list.now c.in-Some.place found in
    omega (arith, low, c.requires)
