use Rattle.std.proofs.Common.{ℕ, ◌<◌, slice_get}
use Rattle.std.specs.Prelude.{IsSomeAnd}
use Rattle.c_types.specs.Refusal.{entries, Clashes}
use Rattle.c_types.specs.Entries.{entry_of}
use Rattle.c_types.proofs.duplicates.clashes_before.Given as goal

abbrev pub invariant-loop-m : goal.invariant-loop-m
invariant-loop-m l = (k : ℕ) → k < l.m → IsSomeAnd (slice_get (entries l.parts) k) (λ d. Clashes d (entry_of l.here)) → ⊥
