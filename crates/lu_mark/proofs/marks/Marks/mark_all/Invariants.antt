use Rattle.std.proofs.Common.{◌≡◌, take}
use Rattle.lu_mark.specs.Marking.{with_marks}
use Rattle.lu_mark.proofs.marks.Marks.mark_all.Given as goal

abbrev pub invariant-loop-object : goal.invariant-loop-object
invariant-loop-object l = l.self ≡ record l.fn.self { marked = with_marks l.fn.self.marked (take l.object-index l.objects) }
