use Rattle.std.proofs.Common.{◌≡◌, ◌∙◌, ap, sym, arith, length, Ok, [], ℕ}
use Rattle.std.proofs.lemmas.Result.{err_from_is_err_and}
use Rattle.bm_code.specs.Accepted.{global_bytes}
use Rattle.cg_image_read.specs.Fields.{items_at}
use Rattle.cg_image_read.specs.Items.{global_at, sized_global_at}
use Rattle.cg_image_read.proofs.Loop.{goes_on, ends, is_done, global_bytes-more}
use Rattle.cg_image_read.proofs.program.read_counted_globals.Goals as goal

pub returns-in_err-global : goal.returns-in_err-global
returns-in_err-global c =
    let item = global_at c.args.names c.args.types.now in
    let at = λ (sum : ℕ) (k : ℕ). sized_global_at c.args.names c.args.types.now sum k c.loop.rest.now in
    let p = err_from_is_err_and c.from_residual.result c.from_residual.ensures.1 in
    rw (p.1, p.2) (ends item c.args.end c.loop.globals.items c.args.count c.loop.counter c.loop.rest.now (items_at item c.args.end [] c.args.count c.args.bytes.now) c.in_err-global.field-0.0 c.loop-test.true
    (λ plain. ap (at (global_bytes c.loop.globals.items)) (sym c.place.ensures) ∙ ap (λ k. at k c.place.result) (sym c.loop.invariant.sum) ∙ c.in_err-global.ensures.read plain) c.loop.invariant.rest)

pub loop-preserved : goal.loop-preserved
loop-preserved c =
    let item = global_at c.args.names c.args.types.now in
    let at = λ (sum : ℕ) (k : ℕ). sized_global_at c.args.names c.args.types.now sum k c.loop.rest.now in
    let global = c.in_ok-global.global in
    let size : length c.as_slice.result.now ≡ length global.bytes = ap length c.as_slice.ensures in
    record {
      sum = rw c.in_ok-push.ensures.items (omega (arith, global_bytes-more c.loop.globals.items global, size, c.loop.invariant.sum));
      room = omega (arith, size, c.in_ok-global.ensures.room);
      rest = rw c.in_ok-push.ensures.items (goes_on item c.args.end c.loop.globals.items c.args.count c.loop.counter c.loop.rest.now (items_at item c.args.end [] c.args.count c.args.bytes.now) global c.in_ok-global.behind.now c.loop-test.true
          (ap (at (global_bytes c.loop.globals.items)) (sym c.place.ensures) ∙ ap (λ k. at k c.place.result) (sym c.loop.invariant.sum) ∙ c.in_ok-global.ensures.read) c.loop.invariant.rest);
    }

pub returns : goal.returns
returns c =
    let item = global_at c.args.names c.args.types.now in
    is_done item c.args.end c.loop.globals.items c.args.count c.loop.counter c.loop.rest.now (items_at item c.args.end [] c.args.count c.args.bytes.now) c.loop-test.false c.loop.invariant.rest
    ∙ ap (λ l. Ok (l, c.loop.rest.now)) (sym c.from_vec.ensures)
