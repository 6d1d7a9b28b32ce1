use Rattle.std.proofs.Common.{◌≡◌, ◌∙◌, sym, subst, ◌<◌, ◌^◌, length, map}
use Rattle.lu_image.specs.Correspondence.{corresponds}
use Rattle.lu_image.specs.Pairing.{partner_if, site_elements}
use Rattle.lu_image.specs.RenameRefusal.{site_refusal}
use Rattle.lu_pair.specs.Refusing.{IsErrorOf}
use Rattle.lu_pair.specs.Sites.{partners_from, site_pair_by}
use Rattle.lu_pair.proofs.SitesAre.{partners, sites-are, function-pairs-few, site-names-few, site-refusal-is}
use Rattle.lu_pair.proofs.Exits.{memory-refuses, error-refuses}
use Rattle.lu_pair.proofs.paired.pair_all_sites.Goals as goal

pub returns-in_err-renaming-clause-refused : goal.returns-in_err-renaming-clause-refused
returns-in_err-renaming-clause-refused c = memory-refuses _ _ c.from_residual.ensures.1

pub returns-in_err-names-clause-refused : goal.returns-in_err-names-clause-refused
returns-in_err-names-clause-refused c = memory-refuses _ _ c.from_residual-in_err-names.ensures.1

pub returns-in_err-check-clause-refused : goal.returns-in_err-check-clause-refused
returns-in_err-check-clause-refused c =
    let old = c.args.old.now in
    let new = c.args.new.now in
    let rs = c.args.renames.now in
    let e = c.in_err-check.field-0.0 in
    let is = site-refusal-is old new rs c.in_ok-names.names c.in_ok-names.ensures c.in_ok-renaming.renaming c.in_ok-renaming.ensures in
    error-refuses (site_refusal old new rs) e _ c.from_residual-in_err-check.ensures.1 (subst (λ o. IsErrorOf o e) is c.in_err-check.ensures)

pub site_partners-requires : goal.site_partners-requires
site_partners-requires c =
    subst (λ pairs. length pairs < 2 ^ 32) (sym c.requires.functions) (function-pairs-few c.args.old.now c.args.new.now c.args.renames.now c.requires.few_functions)

pub returns-in_err-partners-clause-refused : goal.returns-in_err-partners-clause-refused
returns-in_err-partners-clause-refused c = memory-refuses _ _ c.from_residual-in_err-partners.ensures.1

pub pair_sites-requires : goal.pair_sites-requires
pair_sites-requires c =
    subst (λ names. length names < 2 ^ 32) (sym c.in_ok-names.ensures.new_sites) (site-names-few c.args.new.now c.requires.few_sites)

pub returns-in_err-pair_sites-clause-refused : goal.returns-in_err-pair_sites-clause-refused
returns-in_err-pair_sites-clause-refused c = memory-refuses _ _ c.from_residual-in_err-pair_sites.ensures.1

pub returns-clause-refused : goal.returns-clause-refused
returns-clause-refused c =
    sym (site-refusal-is c.args.old.now c.args.new.now c.args.renames.now c.in_ok-names.names c.in_ok-names.ensures c.in_ok-renaming.renaming c.in_ok-renaming.ensures) ∙ c.in_ok-check.ensures

pub returns-clause-pairs : goal.returns-clause-pairs
returns-clause-pairs c =
    let old = c.args.old.now in
    let new = c.args.new.now in
    let rs = c.args.renames.now in
    let q = c.requires in
    let n = c.in_ok-names.ensures in
    let found : c.deref.result.now ≡ partners old new rs =
    c.deref.ensures.value
    ∙ (c.in_ok-partners.ensures
    ∙ (λ i. partners_from (partner_if (corresponds (c.parts.ensures.value i) (c.parts-2.ensures.value i) (q.structs i) (q.unions i)) (site_elements (c.as_slice-old_sites.ensures i)) (site_elements (c.as_slice-new_sites.ensures i))) 0 (q.functions i))) in
    c.in_ok-pair_sites.ensures
    ∙ ((λ i. map (site_pair_by (c.in_ok-renaming.ensures i) (n.old_functions i) (found i) (n.new_functions i) (n.new_sites i)) (c.as_slice-old_sites.ensures i))
    ∙ sites-are old new rs)
