use Rattle.std.proofs.Common.{◌+◌, ◌-◌, ◌/◌, arith}
use Rattle.lu_walk.proofs.RowLemmas.{up_to_middle, above_middle}
use Rattle.lu_walk.proofs.rows.count_up_to.Goals as goal

pub loop-low-preserved-then-row-addr : goal.loop-low-preserved-then-row-addr
loop-low-preserved-then-row-addr c = record {
  ordered = omega (arith, c.loop-low-test.true);
  within = c.loop-low.invariant.within;
  up_to = up_to_middle c.args.rows.now c.len-high.ensures.table (c.loop-low.low + (c.loop-low.high - c.loop-low.low) / 2) c.row.result c.row.ensures c.args.addr c.if-row-addr.true;
  above = c.loop-low.invariant.above;
}

pub loop-low-preserved : goal.loop-low-preserved
loop-low-preserved c = record {
  ordered = omega arith;
  within = omega (arith, c.loop-low-test.true, c.loop-low.invariant.within);
  up_to = c.loop-low.invariant.up_to;
  above = above_middle c.args.rows.now c.len-high.ensures.table (c.loop-low.low + (c.loop-low.high - c.loop-low.low) / 2) c.row.result c.row.ensures c.args.addr c.if-row-addr.false;
}
