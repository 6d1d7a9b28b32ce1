use Rattle.std.proofs.Common.{◌≡◌, ap, sym, subst, length}
use Rattle.bm_mem.specs.Content.{IsInside}
use Rattle.bm_cpu.proofs.Spaces.{space_written}
use Rattle.bm_cpu.proofs.machine.Machine.put.Goals as goal

pub invariant_of-self : goal.invariant_of-self
invariant_of-self g c =
    let now = c.self.inside in
    let m = g.B.Bytes.content now.space.memory in
    let same : m ≡ c.args.self.now.process.content = ap (λ s. s.process.content) c.self.view_is in
    let inside : IsInside m c.args.addr (length c.args.piece.now) = subst (λ m. IsInside m c.args.addr (length c.args.piece.now)) (sym same) c.requires.inside in
    (c.self.invariant.0, space_written now.code.now.types m now.space.objects now.space.next now.space.used c.self.invariant.1 (g.B.Bytes.content c.write.new.self) c.args.addr c.args.piece.now inside c.write.ensures)
