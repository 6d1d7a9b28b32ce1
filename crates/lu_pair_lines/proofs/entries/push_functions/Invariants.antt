use Rattle.std.proofs.Common.{◌≡◌, ◌++◌, map, length, slice_get, string_bytes}
use Rattle.std.specs.Prelude.{codes}
use Rattle.lu_image.specs.Names.{function_names}
use Rattle.lu_pair_lines.specs.Lines.{entry_lines}
use Rattle.lu_pair_lines.proofs.entries.push_functions.Given as goal

-- the text so far and the lines of what is left make the whole
abbrev pub invariant-loop-rest : goal.invariant-loop-rest
invariant-loop-rest l =
    string_bytes l.text ++ entry_lines l.update (codes "function") (map (λ f. slice_get l.old.names f.name) l.rest) (function_names l.new) l.others
    ≡ string_bytes l.fn.text ++ entry_lines l.update (codes "function") (function_names l.old) (function_names l.new) l.pairs

abbrev pub decreases-loop-rest : goal.decreases-loop-rest
decreases-loop-rest l = length l.rest
