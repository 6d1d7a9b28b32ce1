use Rattle.std.proofs.Common.{◌≡◌, ◌+◌, ◌-◌, arith}
use Rattle.bm_frame.proofs.Copying.{from_inside_down, to_inside_down, copied_down, nothing_down, all_down}
use Rattle.bm_frame.proofs.writing.copy_down.Goals as goal

pub loop-left-init : goal.loop-left-init
loop-left-init g c = record {
  within = omega arith;
  copied = λ s t a b h k. nothing_down (g.B.Bytes.content c.args.memory.now) c.args.from c.args.to c.args.size s t a b k;
}

pub copy_chunk-requires-clause-from : goal.copy_chunk-requires-clause-from
copy_chunk-requires-clause-from g c =
    let m = g.B.Bytes.content c.args.memory.now in
    let f = c.requires.from in
    let t = c.requires.to in
    let next = c.loop-left.left - c.min-count.result in
    let step : next + c.min-count.result ≡ c.loop-left.left = omega arith in
    from_inside_down m (g.B.Bytes.content c.loop-left.memory) c.args.from c.args.to c.args.size c.loop-left.left next c.min-count.result f.0 t.0 f.1 t.1 c.requires.up step c.loop-left.invariant.within f.2 t.2 (c.loop-left.invariant.copied f.0 t.0 f.1 t.1 f.2 t.2)

pub copy_chunk-requires-clause-to : goal.copy_chunk-requires-clause-to
copy_chunk-requires-clause-to g c =
    let m = g.B.Bytes.content c.args.memory.now in
    let f = c.requires.from in
    let t = c.requires.to in
    let next = c.loop-left.left - c.min-count.result in
    let step : next + c.min-count.result ≡ c.loop-left.left = omega arith in
    to_inside_down m (g.B.Bytes.content c.loop-left.memory) c.args.from c.args.to c.args.size c.loop-left.left next c.min-count.result f.0 t.0 f.1 t.1 c.requires.up step c.loop-left.invariant.within f.2 t.2 (c.loop-left.invariant.copied f.0 t.0 f.1 t.1 f.2 t.2)

pub loop-left-preserved : goal.loop-left-preserved
loop-left-preserved g c =
    let m = g.B.Bytes.content c.args.memory.now in
    let next = c.loop-left.left - c.min-count.result in
    let step : next + c.min-count.result ≡ c.loop-left.left = omega arith in
    record {
      within = omega (arith, c.loop-left.invariant.within);
      copied = λ s t a b h k. copied_down m (g.B.Bytes.content c.loop-left.memory) c.args.from c.args.to c.args.size c.loop-left.left next c.min-count.result s t a b c.requires.up step c.loop-left.invariant.within h k (c.loop-left.invariant.copied s t a b h k) (g.B.Bytes.content c.copy_chunk.new.memory) c.copy_chunk.ensures;
    }

pub returns : goal.returns
returns g c =
    let done : c.loop-left.left ≡ 0 = omega arith in
    λ s t a b h k. all_down (g.B.Bytes.content c.args.memory.now) (g.B.Bytes.content c.loop-left.memory) c.args.from c.args.to c.args.size c.loop-left.left s t a b done (c.loop-left.invariant.copied s t a b h k)
