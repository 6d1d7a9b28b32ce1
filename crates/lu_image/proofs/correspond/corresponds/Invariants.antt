use Rattle.std.proofs.Common.{◌≡◌, ◌-◌, length}
use Rattle.c_types.specs.Recursion.{by_fuel}
use Rattle.lu_image.specs.Correspondence.{correspond_step, nothing_corresponds, corresponds}
use Rattle.lu_image.proofs.correspond.corresponds.Given as goal

-- what is left of the recursion
abbrev pub invariant-loop : goal.invariant-loop
invariant-loop l =
    by_fuel l.old (correspond_step l.new l.structs l.unions) nothing_corresponds (length l.old.types - l.counter) l.from l.to ≡ corresponds l.old l.new l.structs l.unions l.old_type l.new_type
