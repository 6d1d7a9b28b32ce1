use Rattle.std.proofs.Common.{◌∙◌, sym, ap}
use Rattle.std.specs.Option.{option_map}
use Rattle.c_ast.specs.Trees.{declaration}
use Rattle.c_check.proofs.Texts.{declarations_get, seen}
use Rattle.c_check.proofs.headings.decl_at.Goals as goal

pub returns : goal.returns
returns c =
    declarations_get c.args.text.now c.args.place ∙ ap (option_map declaration) (sym c.at.ensures) ∙ seen c.at.result
