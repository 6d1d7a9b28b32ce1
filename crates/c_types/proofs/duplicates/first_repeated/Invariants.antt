use Rattle.std.proofs.Common.{ℕ, ◌<◌, take}
use Rattle.std.specs.List.Sorted.{IsPermutation}
use Rattle.c_types.specs.Entries.{IsRepeated}
use Rattle.c_types.proofs.duplicates.first_repeated.Given as goal

abbrev pub invariant-loop-number : goal.invariant-loop-number
invariant-loop-number l = record {
  keys : IsPermutation (take l.number l.types) l.seen.keys;
  none : (m : ℕ) → m < l.number → IsRepeated l.types m → ⊥;
}
