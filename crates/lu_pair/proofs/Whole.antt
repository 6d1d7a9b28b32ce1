-- The tables of two programs together.
use Rattle.std.proofs.Common.{◌≡◌, ◌∙◌, ℕ, ◌<◌, ◌^◌, true, List, length, map, Result, Ok, Err, IfOk, arith}
use Rattle.std.proofs.lemmas.Bool.Decides.{nat_tests}
use Rattle.c_types.specs.declared.parts.Parts.{Parts}
use Rattle.c_types.specs.Numbering.{is_countable}
use Rattle.c_types.specs.Refusal.{IsBuilt}
use Rattle.c_types.proofs.Lists.{and_left, and_right}
use Rattle.c_types.proofs.Numbered.{all_countable, fields_few, members_few}
use Rattle.src_tree.specs.declared.program.Program.{Program}
use Rattle.lu_image.specs.declared.rename.Rename.{Rename}
use Rattle.lu_image.specs.Names.{tag_names}
use Rattle.lu_image.specs.Pairing.{of_table, tag_pair, part_pairs, struct_pair, union_pair, struct_pairs, union_pairs, field_pairs, member_pairs}
use Rattle.lu_image.specs.RenameRefusal.{tag_refusal, part_refusal, or_else, struct_refusal, field_refusal, union_refusal, member_refusal}
use Rattle.lu_pair.specs.declared.paired.TagTask.{TagTask}
use Rattle.lu_pair.specs.declared.paired.TagPairs.{TagPairs}
use Rattle.lu_pair.specs.Tags.{HaveFewParts, IsStructTask, IsUnionTask, ArePaired, task_pair, task_refusal}

pub if-ok : {A E : Type 0} (r : Result A E) (P Q : A → Type 0) → ((a : A) → P a → Q a) → IfOk r P → IfOk r Q
if-ok (Ok a) P Q so h = so a h
if-ok (Err e) P Q so h = tt

module _ (p : Parts) (built : IsBuilt p) where
  pub structs-few : length p.structs < 2 ^ 32
  structs-few =
      let h : is_countable p.structs ≡ true = and_left (is_countable p.structs) _ (and_right (is_countable p.types) _ (all_countable p built.numbered)) in
      grind (arith, nat_tests)

  pub unions-few : length p.unions < 2 ^ 32
  unions-few =
      let h : is_countable p.unions ≡ true = and_left (is_countable p.unions) _ (and_right (is_countable p.structs) _ (and_right (is_countable p.types) _ (all_countable p built.numbered))) in
      grind (arith, nat_tests)

  pub struct-parts-few : HaveFewParts p.structs
  struct-parts-few k = let h = fields_few p built.numbered k in omega (arith, h)

  pub union-parts-few : HaveFewParts p.unions
  union-parts-few k = let h = members_few p built.numbered k in omega (arith, h)

module _ (old new : Program) (rs : List Rename) (t : TagTask) where
  module _ (h : IsStructTask old new rs t) where
    struct-pair-is : task_pair t ≡ struct_pair old new rs
    struct-pair-is = λ i. tag_pair (of_table (h.tags i) (h.renames_are i)) (h.old_texts i) (tag_names (h.new_texts i) (h.new_are i))

    pub struct-refusal-is : task_refusal t ≡ or_else (struct_refusal old new rs) (field_refusal old new rs)
    struct-refusal-is = λ i. or_else (tag_refusal (h.tags i) (h.renames_are i) (h.old_texts i) (h.new_texts i) (h.old_are i) (h.new_are i)) (part_refusal (h.parts i) (h.tags i) (h.renames_are i) (h.old_texts i) (h.new_texts i) (h.old_are i) (h.new_are i) (struct-pair-is i))

    pub structs-are : (pairs : TagPairs) → ArePaired t pairs → pairs.tags.items ≡ struct_pairs old new rs
    structs-are pairs p = p.tags ∙ (λ i. map (struct-pair-is i) (h.old_are i))

    pub fields-are : (pairs : TagPairs) → ArePaired t pairs → pairs.parts.items ≡ field_pairs old new rs
    fields-are pairs p = p.parts ∙ (λ i. map (part_pairs (of_table (h.parts i) (h.renames_are i)) (h.old_texts i) (h.new_texts i) (h.new_are i) (struct-pair-is i)) (h.old_are i))

  module _ (h : IsUnionTask old new rs t) where
    union-pair-is : task_pair t ≡ union_pair old new rs
    union-pair-is = λ i. tag_pair (of_table (h.tags i) (h.renames_are i)) (h.old_texts i) (tag_names (h.new_texts i) (h.new_are i))

    pub union-refusal-is : task_refusal t ≡ or_else (union_refusal old new rs) (member_refusal old new rs)
    union-refusal-is = λ i. or_else (tag_refusal (h.tags i) (h.renames_are i) (h.old_texts i) (h.new_texts i) (h.old_are i) (h.new_are i)) (part_refusal (h.parts i) (h.tags i) (h.renames_are i) (h.old_texts i) (h.new_texts i) (h.old_are i) (h.new_are i) (union-pair-is i))

    pub unions-are : (pairs : TagPairs) → ArePaired t pairs → pairs.tags.items ≡ union_pairs old new rs
    unions-are pairs p = p.tags ∙ (λ i. map (union-pair-is i) (h.old_are i))

    pub members-are : (pairs : TagPairs) → ArePaired t pairs → pairs.parts.items ≡ member_pairs old new rs
    members-are pairs p = p.parts ∙ (λ i. map (part_pairs (of_table (h.parts i) (h.renames_are i)) (h.old_texts i) (h.new_texts i) (h.new_are i) (union-pair-is i)) (h.old_are i))
