use Rattle.std.proofs.Common.{◌≡◌, ◌∙◌, ◌<◌, ◌+◌, ◌^◌, true, ap, sym, length, arith}
use Rattle.bm_objects.specs.declared.row.Row.{Row}
use Rattle.bm_code.specs.Services.{heap_part_of}
use Rattle.bm_serve.proofs.Added.{space_added}
use Rattle.bm_serve.proofs.space.allocate.Goals as goal

pub returns-clause-space : goal.returns-clause-space
returns-clause-space g c =
    let now = c.args.space.now in
    let m = g.B.Bytes.content now.memory in
    let r : Row = c.in-Some.row in
    let a = c.in-Some.ensures.row now.objects c.requires.space.used_is in
    let place : r.addr ≡ now.next = ap (λ r. r.addr) a.0 in
    let live : r.live ≡ true = ap (λ r. r.live) a.0 in
    let elem : r.elem ≡ c.args.elem = ap (λ r. r.elem) a.0 in
    let known : r.elem < length c.args.code.now.types.types = omega (arith, elem, c.requires.known) in
    let part : heap_part_of r ≡ r.size = ap heap_part_of a.0 ∙ sym (ap (λ r. r.size) a.0) in
    let used_low : now.used + r.size < 2 ^ 60 = omega (arith, c.in-Some.ensures.used) in
    let new = c.put_object.new.space in
    let e = c.in_ok-put_object.ensures in
    space_added c.args.code.now.types m now.objects now.next now.used c.requires.space r place live known part c.in-Some.ensures.end used_low (g.B.Bytes.content new.memory) new.objects new.next new.used e.memory e.objects e.next e.used
