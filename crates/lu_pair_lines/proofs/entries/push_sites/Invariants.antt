use Rattle.std.proofs.Common.{◌≡◌, ◌++◌, length, string_bytes}
use Rattle.std.specs.Prelude.{codes}
use Rattle.lu_image.specs.Names.{function_names, named_sites, site_names}
use Rattle.lu_pair_lines.specs.Lines.{entry_lines}
use Rattle.lu_pair_lines.proofs.entries.push_sites.Given as goal

-- the text so far and the lines of what is left make the whole
abbrev pub invariant-loop-rest : goal.invariant-loop-rest
invariant-loop-rest l =
    string_bytes l.text ++ entry_lines l.update (codes "site") (named_sites (function_names l.old) l.rest) (site_names l.new) l.others
    ≡ string_bytes l.fn.text ++ entry_lines l.update (codes "site") (site_names l.old) (site_names l.new) l.pairs

abbrev pub decreases-loop-rest : goal.decreases-loop-rest
decreases-loop-rest l = length l.rest
