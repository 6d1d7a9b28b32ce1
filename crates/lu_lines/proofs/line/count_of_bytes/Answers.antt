use Rattle.lu_lines.proofs.Zeros.{zero_passed, stops_there}
use Rattle.lu_lines.proofs.line.count_of_bytes.Goals as goal

pub loop-count-preserved : goal.loop-count-preserved
loop-count-preserved c = zero_passed c.args.bytes.now c.loop-count.count c.loop-count.invariant c.loop-count-test.true c.if-bytes-count-eq0.true

pub returns-else-bytes-count-eq0-clause-front : goal.returns-else-bytes-count-eq0-clause-front
returns-else-bytes-count-eq0-clause-front c = stops_there c.args.bytes.now c.loop-count.count c.loop-count.invariant c.loop-count-test.true c.if-bytes-count-eq0.false
