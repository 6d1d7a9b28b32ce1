use Rattle.std.proofs.Common.{◌≡◌, ◌∙◌, ap, sym, Some}
use Rattle.std.specs.Prelude.{slice_get}
use Rattle.bm_cpu.proofs.GlobalLemmas.{get_at}
use Rattle.bm_cpu.proofs.objects.put_globals.Goals as goal

pub put_global-requires-clause-global : goal.put_global-requires-clause-global
put_global-requires-clause-global g c =
    let i = c.loop-global.global-index in
    let items = c.as_slice-global-items.result.now in
    let at : slice_get c.args.code.now.globals i ≡ Some c.global-item.result = ap (λ l. slice_get l i) (sym c.as_slice-global-items.ensures) ∙ get_at items i c.global-item.result c.loop-global-test.true c.global-item.is in
    c.requires.accepted.globals i c.global-item.result at
