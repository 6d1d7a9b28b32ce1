use Rattle.std.proofs.Common.{◌<◌, length, arith, rules}
use Rattle.sched_file.specs.Bytes.{length_before}
use Rattle.sched_file.proofs.BytesLemmas.{up_to-found, up_to-none}
use Rattle.sched_file.proofs.bytes.split_at_byte.Goals as goal

pub returns-then-at-text : goal.returns-then-at-text
returns-then-at-text c = up_to-none c.args.stop c.args.text.now (omega arith)

pub returns : goal.returns
returns c =
    let inside : length_before c.args.stop c.args.text.now < length c.args.text.now = omega arith in
    let found = up_to-found c.args.stop c.args.text.now inside in search (rules, found)
