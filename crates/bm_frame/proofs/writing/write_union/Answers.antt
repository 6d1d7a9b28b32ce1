use Rattle.std.proofs.Common.{◌≡◌, ◌∙◌, sym, ap, max, ◌+◌, Some, arith}
use Rattle.bm_code.specs.Access.{live_at}
use Rattle.bm_frame.proofs.Bytes.{inside}
use Rattle.bm_frame.proofs.Written.{union_there, union_mapped}
use Rattle.bm_frame.proofs.writing.write_union.Goals as goal

pub activate-requires-clause-inside : goal.activate-requires-clause-inside
activate-requires-clause-inside g c =
    let range : max 4 (c.args.offset + c.args.size) ≡ c.max-range.result = omega (arith, c.max-range.ensures) in
    let live : live_at c.args.objects.now c.args.address (max 4 (c.args.offset + c.args.size)) ≡ Some c.in-Some._row = ap (live_at c.args.objects.now c.args.address) range ∙ sym c.in-Some.ensures.is in
    inside (g.B.Bytes.content c.args.memory.now) c.args.objects.now c.requires c.args.address (max 4 (c.args.offset + c.args.size)) c.in-Some._row live

pub returns-then-number-member-clause-is : goal.returns-then-number-member-clause-is
returns-then-number-member-clause-is g c =
    let range : max 4 (c.args.offset + c.args.size) ≡ c.max-range.result = omega (arith, c.max-range.ensures) in
    let live : live_at c.args.objects.now c.args.address (max 4 (c.args.offset + c.args.size)) ≡ Some c.in-Some._row = ap (live_at c.args.objects.now c.args.address) range ∙ sym c.in-Some.ensures.is in
    union_there (g.B.Bytes.content c.args.memory.now) c.args.objects.now c.requires c.args.address c.args.member c.args.offset c.args.size c.in-Some._row live c.in-Some-read_number.number c.in-Some-read_number.ensures c.if-number-member.true (g.B.Bytes.content c.activate.new.memory) c.activate.ensures

pub returns-then-number-member-clause-mapped : goal.returns-then-number-member-clause-mapped
returns-then-number-member-clause-mapped g c =
    let range : max 4 (c.args.offset + c.args.size) ≡ c.max-range.result = omega (arith, c.max-range.ensures) in
    let live : live_at c.args.objects.now c.args.address (max 4 (c.args.offset + c.args.size)) ≡ Some c.in-Some._row = ap (live_at c.args.objects.now c.args.address) range ∙ sym c.in-Some.ensures.is in
    union_mapped (g.B.Bytes.content c.args.memory.now) c.args.objects.now c.requires c.args.address c.args.member c.args.offset c.args.size c.in-Some._row live c.in-Some-read_number.number c.in-Some-read_number.ensures c.if-number-member.true (g.B.Bytes.content c.activate.new.memory) c.activate.ensures
