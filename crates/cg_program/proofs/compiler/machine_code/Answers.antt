use Rattle.std.proofs.Common.{◌∙◌, ap}
use Rattle.std.specs.Prelude.{map}
use Rattle.src_meaning.specs.Objects.{addresses}
use Rattle.cg_program.specs.Compiled.{source, machine_site}
use Rattle.cg_program.proofs.CodeLemmas.{code_is}
use Rattle.cg_program.proofs.compiler.machine_code.Goals as goal

pub returns : goal.returns
returns c =
    let p = c.args.p.now in
    let starts = c.as_slice-starts.ensures.value ∙ c.in_ok-starts.ensures ∙ ap (addresses p.types) c.in_ok-store.ensures in
    code_is (source p c.args.filters.now) c.as_slice-starts.result.now c.names.inside.items.items c.types.inside.parts c.functions.inside.items.items c.globals.inside.items.items c.in_ok-sites.sites c.in_ok-count_of.field-0 starts (c.names.view_is ∙ c.in_ok-names.ensures ∙ c.as_slice.ensures) (c.types.view_is ∙ c.in_ok-types.ensures) (c.functions.view_is ∙ c.in_ok-functions.ensures) (c.globals.view_is ∙ c.in_ok-globals.ensures) (c.in_ok-sites.ensures ∙ ap (map machine_site) c.as_slice-2.ensures) c.in_ok-count_of.ensures
