use Rattle.std.proofs.Common.{◌≡◌, ◌≤◌, ℕ, length, [], get_or}
use Rattle.bm_pages.specs.Directory.{row_of}
use Rattle.bm_pages.proofs.directory.Part.complete.Given as goal

abbrev pub invariant-loop : goal.invariant-loop
invariant-loop l = record {
  same : (k : ℕ) → get_or (row_of l.self) k [] ≡ get_or (row_of l.fn.self) k [];
  counted : l.counter ≤ length l.self.pages.items;
}
