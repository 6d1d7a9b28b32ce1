use Rattle.std.proofs.Common.{◌∙◌, sym, ap, subst, map}
use Rattle.lu_image.specs.Pairing.{part_pairs}
use Rattle.lu_pair.specs.Refusing.{IsErrorOf}
use Rattle.lu_pair.specs.Tags.{pair_of, task_refusal, parts_refused}
use Rattle.lu_pair.proofs.Exits.{memory-refuses, error-refuses, error-first, error-then, none-both}
use Rattle.lu_pair.proofs.TagsAre.{tags-refused-is, parts-refused-is, tag-pairs-are, part-pairs-are}
use Rattle.lu_pair.proofs.paired.pair_tags.Goals as goal

pub returns-in_err-pairer-clause-refused : goal.returns-in_err-pairer-clause-refused
returns-in_err-pairer-clause-refused c = memory-refuses _ _ c.from_residual.ensures.1

pub returns-in_err-check_tags-clause-refused : goal.returns-in_err-check_tags-clause-refused
returns-in_err-check_tags-clause-refused c =
    let t = c.args.task.now in
    let e = c.in_err-check_tags.field-0.0 in
    let refused = subst (λ o. IsErrorOf o e) (tags-refused-is t c.in_ok-pairer.pairer c.in_ok-pairer.ensures) c.in_err-check_tags.ensures in
    error-refuses (task_refusal t) e _ c.from_residual-in_err-check_tags.ensures.1 (error-first _ _ e refused)

pub returns-in_err-renaming-clause-refused : goal.returns-in_err-renaming-clause-refused
returns-in_err-renaming-clause-refused c = memory-refuses _ _ c.from_residual-in_err-renaming.ensures.1

pub returns-in_err-check_parts-clause-refused : goal.returns-in_err-check_parts-clause-refused
returns-in_err-check_parts-clause-refused c =
    let t = c.args.task.now in
    let p = c.in_ok-pairer.pairer in
    let h = c.in_ok-pairer.ensures in
    let e = c.in_err-check_parts.field-0.0 in
    let passed = sym (tags-refused-is t p h) ∙ c.in_ok-check_tags.ensures in
    let refused = subst (λ o. IsErrorOf o e) (ap (λ renames. parts_refused t.tags renames p) c.in_ok-renaming.ensures ∙ parts-refused-is t p h) c.in_err-check_parts.ensures in
    error-refuses (task_refusal t) e _ c.from_residual-in_err-check_parts.ensures.1 (error-then _ _ e passed refused)

pub returns-in_err-tag_pairs-clause-refused : goal.returns-in_err-tag_pairs-clause-refused
returns-in_err-tag_pairs-clause-refused c = memory-refuses _ _ c.from_residual-in_err-tag_pairs.ensures.1

pub returns-in_err-all_part_pairs-clause-refused : goal.returns-in_err-all_part_pairs-clause-refused
returns-in_err-all_part_pairs-clause-refused c = memory-refuses _ _ c.from_residual-in_err-all_part_pairs.ensures.1

pub returns-clause-refused : goal.returns-clause-refused
returns-clause-refused c =
    let t = c.args.task.now in
    let p = c.in_ok-pairer.pairer in
    let h = c.in_ok-pairer.ensures in
    none-both _ _ (sym (tags-refused-is t p h) ∙ c.in_ok-check_tags.ensures) (sym (ap (λ renames. parts_refused t.tags renames p) c.in_ok-renaming.ensures ∙ parts-refused-is t p h) ∙ c.in_ok-check_parts.ensures)

pub returns-clause-paired : goal.returns-clause-paired
returns-clause-paired c =
    let t = c.args.task.now in
    let p = c.in_ok-pairer.pairer in
    let h = c.in_ok-pairer.ensures in
    record {
      tags = c.in_ok-tag_pairs.ensures ∙ tag-pairs-are t p h;
      parts = c.in_ok-all_part_pairs.ensures ∙ (ap (λ renames. map (part_pairs renames p.old_texts.now p.new_texts.now p.new.now (pair_of p)) p.old.now) c.in_ok-renaming.ensures ∙ part-pairs-are t p h);
    }
