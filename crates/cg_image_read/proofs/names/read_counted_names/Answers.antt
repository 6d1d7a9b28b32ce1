use Rattle.std.proofs.Common.{◌∙◌, ap, sym, Ok, [], ◌∷◌, ◌++◌, ◌≡◌}
use Rattle.std.proofs.lemmas.Result.{err_from_is_err_and}
use Rattle.cg_image_read.specs.Fields.{items_at}
use Rattle.cg_image_read.specs.Items.{name_at}
use Rattle.cg_image_read.proofs.Loop.{goes_on, ends, is_done}
use Rattle.cg_image_read.proofs.NameLemmas.{added}
use Rattle.cg_image_read.proofs.names.read_counted_names.Goals as goal

pub returns-in_err-name : goal.returns-in_err-name
returns-in_err-name c =
    let p = err_from_is_err_and c.from_residual.result c.from_residual.ensures.1 in
    rw (p.1, p.2) (ends name_at c.args.end c.loop.names.items c.args.count c.loop.counter c.loop.rest.now (items_at name_at c.args.end [] c.args.count c.args.bytes.now) c.in_err-name.field-0.0 c.loop-test.true
    (λ plain. ap (λ k. name_at c.loop.names.items k c.loop.rest.now) (sym c.place.ensures) ∙ ap (λ l. name_at l c.place.result c.loop.rest.now) (sym c.loop.invariant.same) ∙ c.in_err-name.ensures.read plain) c.loop.invariant.rest)

pub loop-preserved : goal.loop-preserved
loop-preserved c =
    let name = c.in_ok-name.name in
    let step : name_at c.loop.names.items c.place.result c.loop.rest.now ≡ Ok (name, c.in_ok-name.behind.now) =
    ap (λ l. name_at l c.place.result c.loop.rest.now) (sym c.loop.invariant.same) ∙ c.in_ok-name.ensures.read in
    record {
      same = c.in_ok-add.ensures.names ∙ added c.loop.seen name c.in_ok-name.ensures.new ∙ ap (λ l. l ++ name ∷ []) c.loop.invariant.same ∙ sym c.in_ok-push.ensures.items;
      rest = rw c.in_ok-push.ensures.items (goes_on name_at c.args.end c.loop.names.items c.args.count c.loop.counter c.loop.rest.now (items_at name_at c.args.end [] c.args.count c.args.bytes.now) name c.in_ok-name.behind.now c.loop-test.true
          (ap (λ k. name_at c.loop.names.items k c.loop.rest.now) (sym c.place.ensures) ∙ step) c.loop.invariant.rest);
    }

pub returns : goal.returns
returns c =
    is_done name_at c.args.end c.loop.names.items c.args.count c.loop.counter c.loop.rest.now (items_at name_at c.args.end [] c.args.count c.args.bytes.now) c.loop-test.false c.loop.invariant.rest
    ∙ ap (λ l. Ok (l, c.loop.rest.now)) (sym c.from_vec.ensures)
