use Rattle.std.proofs.Common.{◌≡◌, ◌++◌, length, slice_get, string_bytes}
use Rattle.std.specs.Option.{option_copied}
use Rattle.lu_image.specs.Names.{part_names}
use Rattle.lu_pair_lines.specs.Lines.{entry_lines, names_in}
use Rattle.lu_pair_lines.proofs.parts.push_parts_of.Given as goal

-- the text so far and the lines of what is left make the whole
abbrev pub invariant-loop-rest : goal.invariant-loop-rest
invariant-loop-rest l =
    string_bytes l.text ++ entry_lines l.front.update.now l.front.kind.now (part_names l.old_texts (slice_get l.old_texts l.tag.tag) l.rest) (names_in l.new.texts.now (option_copied l.new.tag)) l.others
    ≡ string_bytes l.fn.text ++ entry_lines l.front.update.now l.front.kind.now (part_names l.old_texts (slice_get l.old_texts l.tag.tag) l.tag.fields) (names_in l.new.texts.now (option_copied l.new.tag)) l.pairs

abbrev pub decreases-loop-rest : goal.decreases-loop-rest
decreases-loop-rest l = length l.rest
