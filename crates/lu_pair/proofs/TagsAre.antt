-- The pairs of a task's structs or unions, and of their fields or members, are those of its definition.
use Rattle.std.proofs.Common.{◌≡◌, [], map}
use Rattle.lu_image.specs.Names.{tag_names, joined}
use Rattle.lu_image.specs.Pairing.{of_table, tag_pair, part_pairs}
use Rattle.lu_image.specs.RenameRefusal.{open_name, open_parts, new_parts, first_refusal, tag_refusal, part_refusal}
use Rattle.lu_pair.specs.declared.parts.TagPairer.{TagPairer}
use Rattle.lu_pair.specs.declared.paired.TagTask.{TagTask}
use Rattle.lu_pair.specs.Tags.{IsTagPairer, pair_of, task_pair, tags_refused, parts_refused}

module _ (t : TagTask) (p : TagPairer) (h : IsTagPairer t.tags t.renames.now t.old_texts.now t.new_texts.now t.old.now t.new.now p) where
  pair-is : pair_of p ≡ task_pair t
  pair-is = λ i. tag_pair (h.renames_are i) (h.old_texts_are i) (h.names_are i)

  pub tags-refused-is : tags_refused t.tags p ≡ tag_refusal t.tags t.renames.now t.old_texts.now t.new_texts.now t.old.now t.new.now
  tags-refused-is = λ i. first_refusal (map (open_name t.tags) (tag_names (h.old_texts_are i) (h.old_are i))) (map (open_name t.tags) (h.names_are i)) [] (h.renames_are i)

  pub parts-refused-is : parts_refused t.tags (of_table t.parts t.renames.now) p ≡ part_refusal t.parts t.tags t.renames.now t.old_texts.now t.new_texts.now t.old.now t.new.now (task_pair t)
  parts-refused-is = λ i. first_refusal (joined (open_parts t.tags (h.old_texts_are i)) (h.old_are i)) (joined (new_parts (h.old_texts_are i) (h.new_texts_are i) (h.new_are i) (pair-is i)) (h.old_are i)) [] (of_table t.parts t.renames.now)

  pub tag-pairs-are : map (pair_of p) p.old.now ≡ map (task_pair t) t.old.now
  tag-pairs-are = λ i. map (pair-is i) (h.old_are i)

  pub part-pairs-are : map (part_pairs (of_table t.parts t.renames.now) p.old_texts.now p.new_texts.now p.new.now (pair_of p)) p.old.now ≡ map (part_pairs (of_table t.parts t.renames.now) t.old_texts.now t.new_texts.now t.new.now (task_pair t)) t.old.now
  part-pairs-are = λ i. map (part_pairs (of_table t.parts t.renames.now) (h.old_texts_are i) (h.new_texts_are i) (h.new_are i) (pair-is i)) (h.old_are i)
