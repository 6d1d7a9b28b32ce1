use Rattle.std.proofs.Common.{◌≡◌, ◌∙◌, ap, subst, [], map, IfOk}
use Rattle.lu_image.specs.declared.rename.Table.TheVariants as T
use Rattle.lu_image.specs.Pairing.{pair_names}
use Rattle.lu_image.specs.RenameRefusal.{open_name, first_refusal}
use Rattle.lu_pair.specs.Refusing.{IsRefusedBy}
use Rattle.lu_pair.proofs.Exits.{memory-refuses}
use Rattle.lu_pair.proofs.paired.pair_globals.Goals as goal

pub returns-in_err-old_open-clause-refused : goal.returns-in_err-old_open-clause-refused
returns-in_err-old_open-clause-refused c = memory-refuses _ _ c.from_residual-in_err-old_open.ensures.1

pub returns-in_err-new_open-clause-refused : goal.returns-in_err-new_open-clause-refused
returns-in_err-new_open-clause-refused c = memory-refuses _ _ c.from_residual-in_err-new_open.ensures.1

pub returns-clause-refused : goal.returns-clause-refused
returns-clause-refused c =
    let old = c.in_ok-old_open.ensures ∙ ap (map (open_name T.Global)) (c.as_slice.ensures ∙ c.in_ok-old_names.ensures) in
    let new = c.in_ok-new_open.ensures ∙ ap (map (open_name T.Global)) (c.as_slice-2.ensures ∙ c.in_ok-new_names.ensures) in
    subst (λ o. IsRefusedBy o c.pair_named.result) (λ i. first_refusal (old i) (new i) [] (c.in_ok-renaming.ensures i)) c.pair_named.ensures.refused

pub returns-clause-pairs : goal.returns-clause-pairs
returns-clause-pairs c =
    subst (λ all. IfOk c.pair_named.result (λ pairs. pairs.items ≡ all)) (λ i. pair_names (c.in_ok-renaming.ensures i) (c.in_ok-old_names.ensures i) (c.in_ok-new_names.ensures i)) c.pair_named.ensures.pairs
