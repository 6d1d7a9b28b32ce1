use Rattle.std.proofs.Common.{◌≡◌, map}
use Rattle.toml.specs.View.{members_view}
use Rattle.plan_file.specs.Lookup.{has_only}
use Rattle.plan_file.proofs.lookup.has_only.Given as goal

abbrev pub invariant-loop-word : goal.invariant-loop-word
invariant-loop-word l =
    has_only (map (λ word. word.now) l.words) (members_view l.word-iterator) ≡ has_only (map (λ word. word.now) l.words) (members_view l.table.entries)
