use Rattle.std.proofs.Common.{◌∙◌}
use Rattle.lu_lines.proofs.Zeros.{none_shown, some_shown}
use Rattle.lu_lines.proofs.line.bytes_text.Goals as goal

pub returns-then-count-eq0 : goal.returns-then-count-eq0
returns-then-count-eq0 c = c.in_ok-from_str.ensures.ok ∙ none_shown c.args.bytes.now c.count_of_bytes-count.result c.if-count-eq0.true c.count_of_bytes-count.ensures.front

pub returns : goal.returns
returns c = c.in_ok-digits.ensures ∙ some_shown c.args.bytes.now c.count_of_bytes-count.result c.if-count-eq0.false c.count_of_bytes-count.ensures.bound c.count_of_bytes-count.ensures.front
