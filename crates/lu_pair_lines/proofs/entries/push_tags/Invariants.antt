use Rattle.std.proofs.Common.{◌≡◌, ◌++◌, length, string_bytes}
use Rattle.lu_image.specs.Names.{tag_names}
use Rattle.lu_pair_lines.specs.Lines.{entry_lines}
use Rattle.lu_pair_lines.proofs.entries.push_tags.Given as goal

-- the text so far and the lines of what is left make the whole
abbrev pub invariant-loop-rest : goal.invariant-loop-rest
invariant-loop-rest l =
    string_bytes l.text ++ entry_lines l.update l.kind (tag_names l.old.texts.now l.rest) (tag_names l.new.texts.now l.new.tags.now) l.others
    ≡ string_bytes l.fn.text ++ entry_lines l.update l.kind (tag_names l.old.texts.now l.old.tags.now) (tag_names l.new.texts.now l.new.tags.now) l.pairs

abbrev pub decreases-loop-rest : goal.decreases-loop-rest
decreases-loop-rest l = length l.rest
