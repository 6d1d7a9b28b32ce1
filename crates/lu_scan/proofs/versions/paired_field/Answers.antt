use Rattle.std.proofs.Common.{◌∙◌, sym, ap}
use Rattle.std.specs.Prelude.{slice_get}
use Rattle.lu_spec.specs.Then.{then_option}
use Rattle.lu_image.specs.Names.{entry_at}
use Rattle.lu_scan.specs.Given.{versions, pairs_between, same_named}
use Rattle.lu_scan.proofs.Pairs.{by_name-at}
use Rattle.lu_scan.proofs.versions.paired_field.Goals as goal

pub returns-in-Some : goal.returns-in-Some
returns-in-Some c =
    let m = versions c.args.programs.now in
    let old = c.args.old.now in
    let new = c.args.new.now in
    c.named_field.ensures
    ∙ (ap (λ o. then_option o (same_named m new)) c.in-Some.ensures
    ∙ (sym (by_name-at m old new c.args.number) ∙ ap (λ q. then_option (entry_at (pairs_between m old new q) c.args.number) (slice_get new)) (sym c.in-ByName.is)))

pub returns-in-None : goal.returns-in-None
returns-in-None c =
    let m = versions c.args.programs.now in
    let old = c.args.old.now in
    let new = c.args.new.now in
    ap (λ o. then_option o (same_named m new)) c.in-None.ensures
    ∙ (sym (by_name-at m old new c.args.number) ∙ ap (λ q. then_option (entry_at (pairs_between m old new q) c.args.number) (slice_get new)) (sym c.in-ByName.is))
