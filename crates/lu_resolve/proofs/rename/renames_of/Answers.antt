use Rattle.std.proofs.Common.{◌≡◌, ◌∙◌, ap, sym, subst, true, false, Option, List, refl}
use Rattle.std.specs.Prelude.{IsNone}
use Rattle.lu_image.specs.declared.rename.Rename.{Rename}
use Rattle.lu_image.specs.Renaming.{has_name_twice}
use Rattle.lu_resolve.proofs.RenamesOnce.{once}
use Rattle.lu_resolve.proofs.rename.renames_of.Goals as goal

pub unreachable-requires : goal.unreachable-requires
unreachable-requires c =
    let P : Option (List Rename) → Type 0 = λ o. IsNone o in
    let none : has_name_twice c.in_ok-renames.renames.items ≡ false = ap has_name_twice c.in_ok-renames.ensures ∙ once c.args.planned.now c.requires.forms c.requires.order in
    let twice : has_name_twice c.in_ok-renames.renames.items ≡ true = c.in_ok-renames-2.ensures.none.0 (subst P (sym c.in-None.is) refl) in
    cc
