use Rattle.std.proofs.Common.{◌≡◌, ◌≤◌, ◌+◌, ◌++◌, length}
use Rattle.std.specs.Prelude.{vec_capacity}
use Rattle.sys_mail.proofs.cell.drain.Given as goal

abbrev pub invariant-loop-inbox : goal.invariant-loop-inbox
invariant-loop-inbox l = record {
  whole : l.first.items ++ l.inbox ≡ l.initial.inbox;
  same : l.second.items ≡ l.first.items;
  room : length l.first.items + length l.inbox ≤ vec_capacity l.first;
  more_room : length l.first.items + length l.inbox ≤ vec_capacity l.second;
}

abbrev pub decreases-loop-inbox : goal.decreases-loop-inbox
decreases-loop-inbox l = length l.inbox
