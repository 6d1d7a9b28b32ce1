use Rattle.std.proofs.Common.{◌≡◌, ◌++◌, length, string_bytes}
use Rattle.lu_pair_lines.specs.Lines.{part_lines, names_of_parts, names_of_paired}
use Rattle.lu_pair_lines.proofs.parts.push_parts.Given as goal

-- the text so far and the lines of what is left make the whole
abbrev pub invariant-loop-rest : goal.invariant-loop-rest
invariant-loop-rest l =
    string_bytes l.text ++ part_lines l.front.update.now l.front.kind.now (names_of_parts l.old.texts.now l.rest) (names_of_paired l.new.texts.now l.new.tags.now l.tag_pairs) l.others
    ≡ string_bytes l.fn.text ++ part_lines l.front.update.now l.front.kind.now (names_of_parts l.old.texts.now l.old.tags.now) (names_of_paired l.new.texts.now l.new.tags.now l.pairs) l.parts

abbrev pub decreases-loop-rest : goal.decreases-loop-rest
decreases-loop-rest l = length l.rest
