use Rattle.std.proofs.Common.{◌≡◌, ◌++◌, ◌<◌, length, drop}
use Rattle.std.specs.Prelude.{All}
use Rattle.lu_walk.specs.Rows.{targets_of}
use Rattle.lu_walk.proofs.rows.targets_of.Given as goal

abbrev pub invariant-loop-word : goal.invariant-loop-word
invariant-loop-word l = record {
  found : targets_of l.rows l.words ≡ l.targets.items ++ targets_of l.rows (drop l.word-index l.words);
  inside : All (λ i. i < length l.rows) l.targets.items;
}
