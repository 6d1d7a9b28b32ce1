use Rattle.std.proofs.Common.{◌≡◌, ◌∙◌, ap, sym, arith, length}
use Rattle.lu_base.specs.Addresses.{has_room}
use Rattle.c_types.specs.Layout.{size_of}
use Rattle.c_types.proofs.PlaceLaws.{size-low}
use Rattle.cg_server.specs.Temporaries.{temporary_row}
use Rattle.cg_server.proofs.Bytes.{chosen}
use Rattle.cg_server.proofs.Parameters.{few_sites}
use Rattle.cg_server.proofs.server.Server.place_temp.Goals as goal

pub temporary_row-requires : goal.temporary_row-requires
temporary_row-requires g c =
    let few = few_sites c.self.inside.code.now c.self.invariant.1 in
    let same = ap (λ p. length p.sites) c.program.ensures.value in
    omega (arith, few, same)

pub put_temporary-requires-clause-some : goal.put_temporary-requires-clause-some
put_temporary-requires-clause-some g c =
    let s = c.self.inside.code.now in
    let p = c.program.result.now in
    let next = c.next-next.result in
    let elem = c.args.elem in
    let row = chosen (has_room c.heap_bytes-used.result next (size_of p.types elem)) (temporary_row p next elem) c.in-Some.row (sym c.temporary_row.ensures ∙ c.in-Some.is) in
    let size : c.in-Some.row.size ≡ size_of s.program.types elem = ap (λ r. r.size) (sym row) ∙ ap (λ p. size_of p.types elem) c.program.ensures.value in
    let types = ap (λ s. length s.source.program.types.types) c.self.view_is in
    let known = c.requires.known in
    let low = size-low s.program.types c.self.invariant.1.valid.built elem (omega (arith, types, known)) in
    omega (arith, size, low)
