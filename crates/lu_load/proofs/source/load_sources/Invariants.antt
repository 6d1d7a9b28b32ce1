use Rattle.std.proofs.Common.{◌≡◌, ◌≤◌, length, take, IfSome}
use Rattle.lu_load.specs.Programs.{AreLoaded}
use Rattle.lu_load.proofs.source.load_sources.Given as goal

abbrev pub invariant-loop-source : goal.invariant-loop-source
invariant-loop-source g l = record {
  kept : g.S.Shelf.holds l.shelf ≡ g.S.Shelf.holds l.initial.shelf;
  later : g.S.Shelf.faults l.initial.shelf ≤ g.S.Shelf.faults l.shelf;
  count : length l.codes ≡ l.source-index;
  loaded : IfSome (g.S.Shelf.holds l.initial.shelf) (λ files. AreLoaded files (take l.source-index l.sources) l.codes);
}
