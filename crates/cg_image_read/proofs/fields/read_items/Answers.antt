use Rattle.std.proofs.Common.{◌∙◌, ap, sym, Ok, []}
use Rattle.std.proofs.lemmas.Result.{err_from_is_err_and}
use Rattle.cg_image_read.specs.Fields.{items_at}
use Rattle.cg_image_read.proofs.Loop.{goes_on, ends, is_done}
use Rattle.cg_image_read.proofs.fields.read_items.Goals as goal

pub returns-in_err-item : goal.returns-in_err-item
returns-in_err-item g c =
    let item = g.R.ReadItem.item_at c.args.reader.now in
    let p = err_from_is_err_and c.from_residual.result c.from_residual.ensures.1 in
    rw (p.1, p.2) (ends (λ _. item) c.args.end c.loop.items.items c.args.count c.loop.counter c.loop.rest.now (items_at (λ _. item) c.args.end [] c.args.count c.args.bytes.now) c.in_err-item.field-0.0 c.loop-test.true (λ plain. ap (λ k. item k c.loop.rest.now) (sym c.place.ensures) ∙ c.in_err-item.ensures plain) c.loop.invariant)

pub loop-preserved : goal.loop-preserved
loop-preserved g c =
    let item = g.R.ReadItem.item_at c.args.reader.now in
    rw c.in_ok-push.ensures.items (goes_on (λ _. item) c.args.end c.loop.items.items c.args.count c.loop.counter c.loop.rest.now (items_at (λ _. item) c.args.end [] c.args.count c.args.bytes.now) c.in_ok-item.item c.in_ok-item.behind.now c.loop-test.true (ap (λ k. item k c.loop.rest.now) (sym c.place.ensures) ∙ c.in_ok-item.ensures) c.loop.invariant)

pub returns : goal.returns
returns g c =
    let item = g.R.ReadItem.item_at c.args.reader.now in
    is_done (λ _. item) c.args.end c.loop.items.items c.args.count c.loop.counter c.loop.rest.now (items_at (λ _. item) c.args.end [] c.args.count c.args.bytes.now) c.loop-test.false c.loop.invariant ∙ ap (λ l. Ok (l, c.loop.rest.now)) (sym c.from_vec.ensures)
