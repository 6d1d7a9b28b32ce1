use Rattle.std.proofs.Common.{sym, subst}
use Rattle.lu_mark.specs.Walks.{IsWalk}
use Rattle.lu_mark.proofs.Kept.{begin_keeps, begin_is}
use Rattle.lu_mark.proofs.Walking.{begun-is_walk}
use Rattle.lu_mark.proofs.marks.Marks.begin.Goals as goal

pub invariant_of-marks : goal.invariant_of-marks
invariant_of-marks c = begin_keeps c.args.size _ c.in_ok-clear_flags.field-0.items c.in_ok-with_capacity.field-0.items c.in_ok-clear_flags.ensures c.in_ok-with_capacity.ensures.items c.in_ok-with_capacity.ensures.capacity c.ranges.size.fits

pub returns-clause-walk : goal.returns-clause-walk
returns-clause-walk c = λ g same are.
    let is = begin_is c.args.size c.args.roots.now c.in_ok-clear_flags.field-0.items c.in_ok-with_capacity.field-0.items _ c.mark_all.ensures c.in_ok-clear_flags.ensures c.in_ok-with_capacity.ensures.items in
    subst (IsWalk g) (sym is) (begun-is_walk g c.args.size c.args.roots.now same are)
