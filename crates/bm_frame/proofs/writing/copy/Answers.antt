use Rattle.std.proofs.Common.{sym}
use Rattle.bm_frame.proofs.Bytes.{inside}
use Rattle.bm_frame.proofs.Written.{copied_none, copied_there, copied_mapped}
use Rattle.bm_frame.proofs.writing.copy.Goals as goal

pub returns-in_default-live_row-clause-is : goal.returns-in_default-live_row-clause-is
returns-in_default-live_row-clause-is g c =
    copied_none (g.B.Bytes.content c.args.memory.now) c.args.objects.now c.requires c.args.from c.args.to c.args.size c.in-Some._source (sym c.in-Some.ensures.is) (sym c.in_default-live_row.ensures.is)

pub copy_up-requires-clause-from : goal.copy_up-requires-clause-from
copy_up-requires-clause-from g c =
    inside (g.B.Bytes.content c.args.memory.now) c.args.objects.now c.requires c.args.from c.args.size c.in-Some._source (sym c.in-Some.ensures.is)

pub copy_up-requires-clause-to : goal.copy_up-requires-clause-to
copy_up-requires-clause-to g c =
    inside (g.B.Bytes.content c.args.memory.now) c.args.objects.now c.requires c.args.to c.args.size c.in-Some-live_row._target (sym c.in-Some-live_row.ensures.is)

pub copy_down-requires-clause-from : goal.copy_down-requires-clause-from
copy_down-requires-clause-from g c =
    inside (g.B.Bytes.content c.args.memory.now) c.args.objects.now c.requires c.args.from c.args.size c.in-Some._source (sym c.in-Some.ensures.is)

pub copy_down-requires-clause-to : goal.copy_down-requires-clause-to
copy_down-requires-clause-to g c =
    inside (g.B.Bytes.content c.args.memory.now) c.args.objects.now c.requires c.args.to c.args.size c.in-Some-live_row._target (sym c.in-Some-live_row.ensures.is)

pub returns-then-to-from-clause-is : goal.returns-then-to-from-clause-is
returns-then-to-from-clause-is g c =
    copied_there (g.B.Bytes.content c.args.memory.now) c.args.objects.now c.requires c.args.from c.args.to c.args.size c.in-Some._source (sym c.in-Some.ensures.is) c.in-Some-live_row._target (sym c.in-Some-live_row.ensures.is) (g.B.Bytes.content c.copy_up.new.memory) c.copy_up.ensures

pub returns-then-to-from-clause-mapped : goal.returns-then-to-from-clause-mapped
returns-then-to-from-clause-mapped g c =
    copied_mapped (g.B.Bytes.content c.args.memory.now) c.args.objects.now c.requires c.args.from c.args.to c.args.size c.in-Some._source (sym c.in-Some.ensures.is) c.in-Some-live_row._target (sym c.in-Some-live_row.ensures.is) (g.B.Bytes.content c.copy_up.new.memory) c.copy_up.ensures

pub returns-else-to-from-clause-is : goal.returns-else-to-from-clause-is
returns-else-to-from-clause-is g c =
    copied_there (g.B.Bytes.content c.args.memory.now) c.args.objects.now c.requires c.args.from c.args.to c.args.size c.in-Some._source (sym c.in-Some.ensures.is) c.in-Some-live_row._target (sym c.in-Some-live_row.ensures.is) (g.B.Bytes.content c.copy_down.new.memory) c.copy_down.ensures

pub returns-else-to-from-clause-mapped : goal.returns-else-to-from-clause-mapped
returns-else-to-from-clause-mapped g c =
    copied_mapped (g.B.Bytes.content c.args.memory.now) c.args.objects.now c.requires c.args.from c.args.to c.args.size c.in-Some._source (sym c.in-Some.ensures.is) c.in-Some-live_row._target (sym c.in-Some-live_row.ensures.is) (g.B.Bytes.content c.copy_down.new.memory) c.copy_down.ensures
