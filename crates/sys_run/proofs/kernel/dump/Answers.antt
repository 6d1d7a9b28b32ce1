use Rattle.std.proofs.Common.{◌≡◌, sym, ◌∙◌, ap, Some}
use Rattle.std.proofs.lemmas.Option.{slice_get-get_or}
use Rattle.std.proofs.lemmas.Result.{on_ok_weaker}
use Rattle.std.specs.Prelude.{slice_get}
use Rattle.sys_mail.specs.Room.{CellRoom, cell_values}
use Rattle.sys_mail.proofs.CellLists.{value-get}
use Rattle.sys_run.specs.declared.runner.Runner.{Runner}
use Rattle.sys_run.specs.Runs.{machines_of}
use Rattle.sys_run.proofs.Given.{dump-is}
use Rattle.sys_run.proofs.kernel.dump.Goals as goal

pub returns : goal.returns
returns c =
    let rs = c.args.runners.now in
    let cs = c.args.cells.now in
    let place = c.args.place in
    let x : CellRoom = c.index-cells-place.result in
    let r : Runner = c.index-runners-place.result in
    let at_r : slice_get rs place ≡ Some r = slice_get-get_or rs place r c.requires.runner ∙ ap (λ (r : Runner). Some r) (sym c.index-runners-place.is) in
    let at_c : slice_get (cell_values cs) place ≡ Some x.value = value-get cs place x c.requires.cell ∙ ap (λ (x : CellRoom). Some x.value) (sym c.index-cells-place.is) in
    on_ok_weaker c.dump_one.result
    (λ e. dump-is place (machines_of rs cs c.args.out.now) r x.value c.trap.result c.name.result.now c.dump_one.new.out.list at_r at_c c.trap.ensures c.name.ensures e) c.dump_one.ensures
