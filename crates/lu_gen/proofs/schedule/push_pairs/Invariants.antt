use Rattle.std.proofs.Common.{◌≡◌, ◌++◌, string_bytes}
use Rattle.lu_gen.specs.Generator.{pairs, steps}
use Rattle.lu_gen.proofs.schedule.push_pairs.Given as goal

abbrev pub invariant-loop-i : goal.invariant-loop-i
invariant-loop-i l = (string_bytes l.text ≡ string_bytes l.initial.text ++ pairs l.after l.i l.number) × (l.x ≡ steps l.i l.number)
