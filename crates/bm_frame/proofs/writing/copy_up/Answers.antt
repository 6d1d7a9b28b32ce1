use Rattle.std.proofs.Common.{◌≤◌, ◌+◌, arith, refl, []}
use Rattle.bm_mem.proofs.ObjectLemmas.{nothing_written}
use Rattle.bm_frame.proofs.Copying.{from_inside, to_inside, copied_up}
use Rattle.bm_frame.proofs.writing.copy_up.Goals as goal

pub loop-done-init : goal.loop-done-init
loop-done-init g c = record {
  within = omega arith;
  copied = λ s t a b h k. nothing_written (g.B.Bytes.content c.args.memory.now) t b c.args.to [] refl (record { at = k.at; low = k.low; high = omega (arith, k.high) });
}

pub copy_chunk-requires-clause-from : goal.copy_chunk-requires-clause-from
copy_chunk-requires-clause-from g c =
    let m = g.B.Bytes.content c.args.memory.now in
    let f = c.requires.from in
    let t = c.requires.to in
    let le : c.loop-done.done + c.min-count.result ≤ c.args.size = omega arith in
    from_inside m (g.B.Bytes.content c.loop-done.memory) c.args.from c.args.to c.args.size c.loop-done.done c.min-count.result f.0 t.0 f.1 t.1 c.requires.down le f.2 t.2 (c.loop-done.invariant.copied f.0 t.0 f.1 t.1 f.2 t.2)

pub copy_chunk-requires-clause-to : goal.copy_chunk-requires-clause-to
copy_chunk-requires-clause-to g c =
    let m = g.B.Bytes.content c.args.memory.now in
    let f = c.requires.from in
    let t = c.requires.to in
    let le : c.loop-done.done + c.min-count.result ≤ c.args.size = omega arith in
    to_inside m (g.B.Bytes.content c.loop-done.memory) c.args.from c.args.to c.args.size c.loop-done.done c.min-count.result f.0 t.0 f.1 t.1 c.requires.down le f.2 t.2 (c.loop-done.invariant.copied f.0 t.0 f.1 t.1 f.2 t.2)

pub loop-done-preserved : goal.loop-done-preserved
loop-done-preserved g c =
    let m = g.B.Bytes.content c.args.memory.now in
    let le : c.loop-done.done + c.min-count.result ≤ c.args.size = omega arith in
    record {
      within = le;
      copied = λ s t a b h k. copied_up m (g.B.Bytes.content c.loop-done.memory) c.args.from c.args.to c.args.size c.loop-done.done c.min-count.result s t a b c.requires.down le h k (c.loop-done.invariant.copied s t a b h k) (g.B.Bytes.content c.copy_chunk.new.memory) c.copy_chunk.ensures;
    }
