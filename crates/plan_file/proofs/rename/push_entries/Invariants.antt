use Rattle.std.proofs.Common.{◌≡◌}
use Rattle.toml.specs.View.{members_view}
use Rattle.plan_file.specs.Renames.{entries_onto}
use Rattle.plan_file.proofs.rename.push_entries.Given as goal

abbrev pub invariant-loop-old : goal.invariant-loop-old
invariant-loop-old l = entries_onto l.kind l.found.items (members_view l.old-iterator) ≡ entries_onto l.kind l.fn.found.items (members_view l.entries.entries)
