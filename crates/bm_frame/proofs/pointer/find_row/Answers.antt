use Rattle.std.proofs.Common.{◌≤◌, ◌^◌, sym, arith}
use Rattle.bm_frame.proofs.Rows.{found_none, found_low, found_high, found_end}
use Rattle.bm_frame.proofs.pointer.find_row.Goals as goal

pub returns-then-address-clause-is : goal.returns-then-address-clause-is
returns-then-address-clause-is c =
    let above : 2 ^ 32 ≤ c.args.address = omega (arith, c.if-address.true) in
    sym (found_none c.args.objects.now c.len-count.ensures.table c.args.address above)

pub returns-clause-low : goal.returns-clause-low
returns-clause-low c = found_low c.args.objects.now c.args.address c.find.result c.len-count.ensures.table c.find.ensures

pub returns-clause-high : goal.returns-clause-high
returns-clause-high c = found_high c.args.objects.now c.args.address c.find.result c.len-count.ensures.table c.find.ensures

pub returns-clause-end : goal.returns-clause-end
returns-clause-end c = found_end c.args.objects.now c.args.address c.find.result c.len-count.ensures.table c.find.ensures
