use Rattle.std.proofs.Common.{◌≡◌, ◌≤◌, ◌+◌, ◌∙◌, take, ap, arith, refl, []}
use Rattle.bm_mem.proofs.ObjectLemmas.{nothing_written}
use Rattle.bm_frame.proofs.Bytes.{zero_bytes}
use Rattle.bm_frame.proofs.Copying.{zeros_front, cleared_inside, cleared_more}
use Rattle.bm_frame.proofs.writing.clear_bytes.Goals as goal

pub loop-done-init : goal.loop-done-init
loop-done-init g c = record {
  within = omega arith;
  cleared = λ s a h. nothing_written (g.B.Bytes.content c.args.memory.now) s a c.args.address [] refl (record { at = h.at; low = h.low; high = omega (arith, h.high) });
}

pub write-requires : goal.write-requires
write-requires g c =
    let le : c.loop-done.done + c.min-count.result ≤ c.args.size = omega arith in
    let few : c.min-count.result ≤ 64 = omega arith in
    let piece : take c.min-count.result c.args.zeros.now ≡ zero_bytes c.min-count.result = ap (take c.min-count.result) c.requires.zeros ∙ zeros_front 64 c.min-count.result few in
    let i = c.requires.inside in
    cleared_inside (g.B.Bytes.content c.args.memory.now) (g.B.Bytes.content c.loop-done.memory) c.args.address c.args.size c.loop-done.done c.min-count.result i.0 i.1 le i.2 (c.loop-done.invariant.cleared i.0 i.1 i.2) (take c.min-count.result c.args.zeros.now) piece

pub loop-done-preserved : goal.loop-done-preserved
loop-done-preserved g c =
    let le : c.loop-done.done + c.min-count.result ≤ c.args.size = omega arith in
    let few : c.min-count.result ≤ 64 = omega arith in
    let piece : take c.min-count.result c.args.zeros.now ≡ zero_bytes c.min-count.result = ap (take c.min-count.result) c.requires.zeros ∙ zeros_front 64 c.min-count.result few in
    record {
      within = le;
      cleared = λ s a h. cleared_more (g.B.Bytes.content c.args.memory.now) (g.B.Bytes.content c.loop-done.memory) c.args.address c.args.size c.loop-done.done c.min-count.result s a le h (c.loop-done.invariant.cleared s a h) (g.B.Bytes.content c.write.new.self) (take c.min-count.result c.args.zeros.now) piece c.write.ensures;
    }
