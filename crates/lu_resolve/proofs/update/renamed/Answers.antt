use Rattle.std.proofs.Common.{◌≡◌, ◌∙◌, ap, subst, List, Ok, Err}
use Rattle.lu_image.specs.declared.rename.Rename.{Rename}
use Rattle.lu_image.specs.RenameRefusal.{pair}
use Rattle.lu_pair.proofs.Valid.{few_entries-valid}
use Rattle.lu_resolve.specs.Causes.{Gives}
use Rattle.lu_resolve.specs.Updates.{or_cause}
use Rattle.lu_resolve.specs.Renames.{renames_of}
use Rattle.lu_resolve.proofs.Steps.{paired-ok, paired-err, gives-like}
use Rattle.lu_resolve.proofs.update.renamed.Goals as goal

pub pair-requires-clause-old_few : goal.pair-requires-clause-old_few
pair-requires-clause-old_few c = few_entries-valid c.args.old.now c.requires.old_valid

pub pair-requires-clause-new_few : goal.pair-requires-clause-new_few
pair-requires-clause-new_few c = few_entries-valid c.args.new.now c.requires.new_valid

pub returns-in-Ok : goal.returns-in-Ok
returns-in-Ok c =
    let P : List Rename → Type 0 = λ rs. or_cause (pair c.args.old.now c.args.new.now rs) ≡ Ok c.in-Ok.pairing in
    let given : c.in_ok-renames.renames ≡ renames_of c.args.update.now.rename = c.in_ok-renames.ensures ∙ ap renames_of c.as_slice.ensures in
    subst P given (paired-ok (pair c.args.old.now c.args.new.now c.in_ok-renames.renames) c.pair.result c.in-Ok.pairing c.pair.ensures c.in-Ok.is)

pub returns : goal.returns
returns c =
    let P : List Rename → Type 0 = λ rs. Gives (or_cause (pair c.args.old.now c.args.new.now rs)) (Err c.of_pair.result) in
    let given : c.in_ok-renames.renames ≡ renames_of c.args.update.now.rename = c.in_ok-renames.ensures ∙ ap renames_of c.as_slice.ensures in
    subst P given (gives-like (or_cause (pair c.args.old.now c.args.new.now c.in_ok-renames.renames)) c.of_pair.result _ c.of_pair.ensures
    (paired-err (pair c.args.old.now c.args.new.now c.in_ok-renames.renames) c.pair.result c.in-Err.error c.pair.ensures c.in-Err.is))
