use Rattle.std.proofs.Common.{◌≡◌, ◌∙◌, ap, sym, length}
use Rattle.bm_cpu.proofs.GlobalLemmas.{placed_with}
use Rattle.bm_cpu.proofs.Spaces.{space_written, is_inside, made_with}
use Rattle.bm_cpu.proofs.objects.put_global.Goals as goal

pub returns-clause-space : goal.returns-clause-space
returns-clause-space g c =
    let m = g.B.Bytes.content c.args.space.now.memory in
    let made = c.put_object.new.space in
    let n = g.B.Bytes.content made.memory in
    let r = c.global_row-row.result in
    let piece = c.as_slice.result.now in
    let long : length piece ≡ r.size = ap length c.as_slice.ensures ∙ (c.requires.global.whole ∙ ap (λ r. r.size) (sym c.global_row-row.ensures.is)) in
    space_written c.args.code.now.types n made.objects made.next made.used c.in_ok-put_object.ensures.space (g.B.Bytes.content c.write.new.self) r.addr piece (is_inside m n r.addr r.size c.in_ok-put_object.ensures.memory piece long) c.write.ensures

pub returns-clause-placed : goal.returns-clause-placed
returns-clause-placed g c =
    let now = c.args.space.now in
    let m = g.B.Bytes.content now.memory in
    let made = c.put_object.new.space in
    let n = g.B.Bytes.content made.memory in
    let x = g.B.Bytes.content c.write.new.self in
    let r = c.global_row-row.result in
    let piece = c.as_slice.result.now in
    let long : length piece ≡ r.size = ap length c.as_slice.ensures ∙ (c.requires.global.whole ∙ ap (λ r. r.size) (sym c.global_row-row.ensures.is)) in
    placed_with c.args.code.now.types m now.objects now.next c.args.global.now r piece x made.objects made.next (made_with m n r.addr r.size c.in_ok-put_object.ensures.memory piece long x c.write.ensures) c.in_ok-put_object.ensures.objects c.in_ok-put_object.ensures.next c.global_row-row.ensures.is c.as_slice.ensures
