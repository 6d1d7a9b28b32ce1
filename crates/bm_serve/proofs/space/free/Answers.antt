use Rattle.std.proofs.Common.{◌≡◌, ◌∙◌, sym, true, not, ap}
use Rattle.std.specs.Prelude.{is_some}
use Rattle.bm_objects.specs.Table.{reaches}
use Rattle.bm_objects.proofs.TableLemmas.{found}
use Rattle.bm_code.specs.Services.{heap_part_of}
use Rattle.bm_serve.proofs.Freed.{heap_whole, begins, is_mapped, size_below, space_freed}
use Rattle.bm_serve.proofs.space.free.Goals as goal

pub take_object-requires-clause-begins : goal.take_object-requires-clause-begins
take_object-requires-clause-begins g c =
    let now = c.args.space.now in
    let r = c.in-Some.row in
    let f = found (reaches c.args.address) now.objects r (sym c.in-Some.ensures.is) in
    let has : is_some r.site ≡ true = c.is_none.ensures ∙ ap not c.if-is_none.false in
    let part : heap_part_of r ≡ r.size = heap_whole r c.if-not-row.false has in
    begins c.args.code.now.types (g.B.Bytes.content now.memory) now.objects now.next now.used c.requires c.len-count.ensures.table f.0 r f.1 c.if-not-row.false part

pub take_object-requires-clause-mapped : goal.take_object-requires-clause-mapped
take_object-requires-clause-mapped g c =
    let now = c.args.space.now in
    let r = c.in-Some.row in
    let f = found (reaches c.args.address) now.objects r (sym c.in-Some.ensures.is) in
    let has : is_some r.site ≡ true = c.is_none.ensures ∙ ap not c.if-is_none.false in
    let part : heap_part_of r ≡ r.size = heap_whole r c.if-not-row.false has in
    is_mapped c.args.code.now.types (g.B.Bytes.content now.memory) now.objects now.next now.used c.requires c.len-count.ensures.table f.0 r f.1 c.if-not-row.false part

pub take_object-requires-clause-used : goal.take_object-requires-clause-used
take_object-requires-clause-used g c =
    let now = c.args.space.now in
    let r = c.in-Some.row in
    let f = found (reaches c.args.address) now.objects r (sym c.in-Some.ensures.is) in
    let has : is_some r.site ≡ true = c.is_none.ensures ∙ ap not c.if-is_none.false in
    let part : heap_part_of r ≡ r.size = heap_whole r c.if-not-row.false has in
    size_below c.args.code.now.types (g.B.Bytes.content now.memory) now.objects now.next now.used c.requires c.len-count.ensures.table f.0 r f.1 c.if-not-row.false part

pub returns-clause-space : goal.returns-clause-space
returns-clause-space g c =
    let now = c.args.space.now in
    let r = c.in-Some.row in
    let f = found (reaches c.args.address) now.objects r (sym c.in-Some.ensures.is) in
    let has : is_some r.site ≡ true = c.is_none.ensures ∙ ap not c.if-is_none.false in
    let part : heap_part_of r ≡ r.size = heap_whole r c.if-not-row.false has in
    let new = c.take_object.new.space in
    let e = c.take_object.ensures in
    space_freed c.args.code.now.types (g.B.Bytes.content now.memory) now.objects now.next now.used c.requires c.len-count.ensures.table f.0 r f.1 c.if-not-row.false part (g.B.Bytes.content new.memory) new.objects new.next new.used e.memory e.objects e.next e.used
