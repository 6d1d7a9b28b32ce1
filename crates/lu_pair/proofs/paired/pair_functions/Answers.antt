use Rattle.std.proofs.Common.{◌≡◌, subst, [], IfOk}
use Rattle.lu_image.specs.Pairing.{pair_names}
use Rattle.lu_image.specs.RenameRefusal.{first_refusal}
use Rattle.lu_pair.specs.Refusing.{IsRefusedBy}
use Rattle.lu_pair.proofs.paired.pair_functions.Goals as goal

pub returns-clause-refused : goal.returns-clause-refused
returns-clause-refused c =
    subst (λ o. IsRefusedBy o c.pair_named.result) (λ i. first_refusal (c.in_ok-old_names.ensures i) (c.in_ok-new_names.ensures i) [] (c.in_ok-renaming.ensures i)) c.pair_named.ensures.refused

pub returns-clause-pairs : goal.returns-clause-pairs
returns-clause-pairs c =
    subst (λ all. IfOk c.pair_named.result (λ pairs. pairs.items ≡ all)) (λ i. pair_names (c.in_ok-renaming.ensures i) (c.in_ok-old_names.ensures i) (c.in_ok-new_names.ensures i)) c.pair_named.ensures.pairs
