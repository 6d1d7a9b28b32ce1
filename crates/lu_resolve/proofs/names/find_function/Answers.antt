use Rattle.std.proofs.Common.{◌∙◌, sym}
use Rattle.std.specs.Prelude.{slice_get}
use Rattle.src_tree.specs.declared.program.Function.{Function}
use Rattle.lu_resolve.proofs.Finding.{find-position}
use Rattle.lu_resolve.proofs.names.find_function.Goals as goal

pub returns-in-None : goal.returns-in-None
returns-in-None c =
    let p = c.args.program.now in
    sym (find-position c.args.name.now (λ (f : Function). slice_get p.names f.name) p.functions ∙ (sym c.function_position.ensures ∙ c.in-None.is))

pub returns-in-Some : goal.returns-in-Some
returns-in-Some c =
    let p = c.args.program.now in
    sym (find-position c.args.name.now (λ (f : Function). slice_get p.names f.name) p.functions ∙ (sym c.function_position.ensures ∙ c.in-Some.is))
