use Rattle.std.proofs.Common.{◌∙◌, sym}
use Rattle.std.specs.Prelude.{slice_get}
use Rattle.c_types.specs.declared.parts.TagDef.{TagDef}
use Rattle.lu_resolve.proofs.Finding.{find-position}
use Rattle.lu_resolve.proofs.names.find_tag.Goals as goal

pub returns-in-None : goal.returns-in-None
returns-in-None c =
    sym (find-position c.args.name.now (λ (tag : TagDef). slice_get c.args.texts.now tag.tag) c.args.tags.now ∙ (sym c.tag_position.ensures ∙ c.in-None.is))

pub returns-in-Some : goal.returns-in-Some
returns-in-Some c =
    sym (find-position c.args.name.now (λ (tag : TagDef). slice_get c.args.texts.now tag.tag) c.args.tags.now ∙ (sym c.tag_position.ensures ∙ c.in-Some.is))
