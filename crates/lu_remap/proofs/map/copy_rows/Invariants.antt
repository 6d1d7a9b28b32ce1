use Rattle.std.proofs.Common.{◌≡◌, take}
use Rattle.lu_remap.proofs.map.copy_rows.Given as goal

abbrev pub invariant-loop-k : goal.invariant-loop-k
invariant-loop-k l = l.rows.items ≡ take l.k l.old
