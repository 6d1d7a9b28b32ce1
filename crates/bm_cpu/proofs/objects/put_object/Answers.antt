use Rattle.std.proofs.Common.{◌≡◌, ◌+◌, ap, sym, subst, refl}
use Rattle.bm_serve.specs.Space.{IsSpace}
use Rattle.bm_serve.proofs.Added.{is_fresh, some_there, undone}
use Rattle.bm_cpu.proofs.Spaces.{space_more}
use Rattle.bm_cpu.proofs.objects.put_object.Goals as goal

pub unmap-requires : goal.unmap-requires
unmap-requires g c = some_there (g.B.Bytes.content c.args.space.now.memory) (g.B.Bytes.content c.map.new.self) c.args.row.addr _ c.in-Ok.ensures.ok

pub returns-in_default-add-clause-space : goal.returns-in_default-add-clause-space
returns-in_default-add-clause-space g c =
    let now = c.args.space.now in
    let m = g.B.Bytes.content now.memory in
    let same : g.B.Bytes.content c.unmap.new.self ≡ m = undone m (g.B.Bytes.content c.map.new.self) (g.B.Bytes.content c.unmap.new.self) c.args.row.addr _ (is_fresh m now.objects c.args.row.addr c.requires.space.mapped c.requires.above) c.in-Ok.ensures.ok c.unmap.ensures in
    subst (λ n. IsSpace c.args.code.now.types n c.add.new.self now.next now.used) (sym same) (subst (λ l. IsSpace c.args.code.now.types m l now.next now.used) (sym c.in_default-add.ensures.err) c.requires.space)

pub returns-in_default-add-clause-kept : goal.returns-in_default-add-clause-kept
returns-in_default-add-clause-kept g c =
    let now = c.args.space.now in
    let m = g.B.Bytes.content now.memory in
    (undone m (g.B.Bytes.content c.map.new.self) (g.B.Bytes.content c.unmap.new.self) c.args.row.addr _ (is_fresh m now.objects c.args.row.addr c.requires.space.mapped c.requires.above) c.in-Ok.ensures.ok c.unmap.ensures, c.in_default-add.ensures.err, refl)

pub returns-clause-space : goal.returns-clause-space
returns-clause-space g c =
    let now = c.args.space.now in
    space_more c.args.code.now.types (g.B.Bytes.content now.memory) now.objects now.next now.used c.requires.space c.args.row c.requires.live c.requires.known c.requires.above c.requires.end (g.B.Bytes.content c.map.new.self) c.add.new.self c.address_after-space.result (now.used + c.heap_part.result) c.in-Ok.ensures.ok c.in-Ok-add.ensures.ok c.address_after-space.ensures (ap (λ n. now.used + n) c.heap_part.ensures) c.len-count.ensures.table
