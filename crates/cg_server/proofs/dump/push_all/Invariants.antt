use Rattle.std.proofs.Common.{◌≡◌, ◌≤◌, ◌++◌, length}
use Rattle.cg_server.proofs.dump.push_all.Given as goal

abbrev pub invariant-loop-note : goal.invariant-loop-note
invariant-loop-note l =
    (l.out.list ++ l.note-iterator.rest.items ≡ l.fn.out.list ++ l.fn.notes.items)
    × (length l.note-iterator.rest.items ≤ l.out.spare)
