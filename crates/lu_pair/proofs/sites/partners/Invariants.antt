use Rattle.std.proofs.Common.{◌≡◌, ◌++◌, drop}
use Rattle.lu_image.specs.Pairing.{partner_if}
use Rattle.lu_pair.specs.Sites.{elements_in, same_types, partners_from}
use Rattle.lu_pair.proofs.sites.partners.Given as goal

-- the partners so far and those of what is left are all
abbrev pub invariant-loop-function : goal.invariant-loop-function
invariant-loop-function l =
    l.list.items ++ partners_from (partner_if (same_types l.types) (elements_in l.old) (elements_in l.new)) l.function (drop l.function l.pairs) ≡ partners_from (partner_if (same_types l.types) (elements_in l.old) (elements_in l.new)) 0 l.pairs
