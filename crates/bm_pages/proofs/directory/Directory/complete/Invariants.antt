use Rattle.std.proofs.Common.{◌≡◌, ◌≤◌, ℕ, length, [], get_or}
use Rattle.bm_pages.specs.Directory.{rows_of}
use Rattle.bm_pages.proofs.directory.Directory.complete.Given as goal

abbrev pub invariant-loop : goal.invariant-loop
invariant-loop l = record {
  same : (k : ℕ) → get_or (rows_of l.self.parts.items) k [] ≡ get_or (rows_of l.fn.self.parts.items) k [];
  counted : l.counter ≤ length l.self.parts.items;
}
