use Rattle.std.proofs.Common.{◌≡◌, ◌∙◌, ◌++◌, ap, sym, Some, length, take, drop, arith, ◌-◌}
use Rattle.std.proofs.Math.Seq.{take-append_seam}
use Rattle.bm_mem.specs.Content.{Holds}
use Rattle.cg_server.proofs.DumpLemmas.{all_of}
use Rattle.cg_server.proofs.dump.object_bytes.Goals as goal

pub returns : goal.returns
returns g c =
    let m = g.B.Bytes.content c.args.memory.now in
    let a = c.args.row.addr in
    let x = c.requires.mapped.live c.args.number c.args.row c.requires.at c.requires.live in
    let long = x.2 in
    let vec = c.in_ok-bytes.bytes in
    let into = c.copy_out.new.into in
    let count : length c.deref_mut.result.now ≡ c.args.row.size = c.deref_mut.ensures.len ∙ c.in_ok-bytes.ensures.len in
    let holds : Holds m a x.0 a (length c.deref_mut.result.now) = record { at = x.1; low = omega arith; high = omega (arith, long, count) } in
    let none : a - a ≡ 0 = omega arith in
    let read : into ≡ x.0 = c.copy_out.ensures a x.0 holds ∙ all_of x.0 (length c.deref_mut.result.now) (a - a) (long ∙ sym count) none in
    let all : vec.len ≡ length into = c.in_ok-bytes.ensures.len ∙ sym (c.copy_out.auto.into ∙ count) in
    let taken : take vec.len (into ++ drop (length into) vec.items) ≡ into = ap (λ n. take n (into ++ drop (length into) vec.items)) all ∙ take-append_seam into (drop (length into) vec.items) in
    x.1 ∙ ap Some (sym (c.new.ensures ∙ (taken ∙ read)))
