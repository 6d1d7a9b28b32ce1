use Rattle.std.proofs.Common.{sym}
use Rattle.bm_frame.proofs.Bytes.{inside, number_there}
use Rattle.bm_frame.proofs.memory.read_number.Goals as goal

pub number_at-requires-clause-inside : goal.number_at-requires-clause-inside
number_at-requires-clause-inside g c =
    inside (g.B.Bytes.content c.args.memory.now) c.args.objects.now c.requires.mapped c.args.address c.args.size c.in_ok-_row._row (sym c.in_ok-_row.ensures.is)

pub returns : goal.returns
returns g c =
    number_there (g.B.Bytes.content c.args.memory.now) c.args.objects.now c.requires.mapped c.args.address c.args.size c.in_ok-_row._row (sym c.in_ok-_row.ensures.is) c.number_at.result c.number_at.ensures
