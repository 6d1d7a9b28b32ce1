use Rattle.std.proofs.Common.{◌≡◌, ◌∙◌, refl, ap, ℕ, ◌<◌, ◌-◌, List, length, arith}
use Rattle.std.specs.Vec.{with_items}
use Rattle.std.specs.FinMap.{insert}
use Rattle.std.proofs.lemmas.List.{with_items_is}
use Rattle.lu_spec.specs.Splice.{spliced}
use Rattle.bm_mem.specs.declared.vec_bytes.Object.{Object}
use Rattle.bm_mem.specs.Content.{Holds}
use Rattle.bm_mem.proofs.ObjectLemmas.{begun_for, holder_is, inside_here, is_empty, is_not_empty, nothing_written, laid_changed, content_changed, IsHolder}
use Rattle.bm_mem.proofs.vec_bytes.VecBytesBytes.write.Goals as goal
use Rattle.bm_mem.proofs.vec_bytes.VecBytesBytes.write.Goals.{After-index_mut-object, After-overwrite}

pub returns-then-is_empty : goal.returns-then-is_empty
returns-then-is_empty c = λ start bytes h.
    nothing_written c.args.self.now start bytes c.args.addr c.args.piece.now (is_empty (length c.args.piece.now) c.if-is_empty.ensures) h

pub place_of-index-requires-clause-begun : goal.place_of-index-requires-clause-begun
place_of-index-requires-clause-begun c =
    begun_for c.self.inside.objects.items c.self.invariant c.deref.result.now c.deref.ensures.value c.args.self.now c.self.view_is c.args.addr (length c.args.piece.now) c.requires

-- the object that has the range
held : (c : After-index_mut-object) (start : ℕ) (bytes : List ℕ) → Holds c.args.self.now start bytes c.args.addr (length c.args.piece.now) → IsHolder c.index_mut-object.result.now c.args.addr (length c.args.piece.now) start bytes c.place_of-index.result.1
held c start bytes h =
    holder_is c.self.inside.objects.items c.self.invariant c.deref.result.now c.deref.ensures.value c.args.self.now c.self.view_is c.args.addr (length c.args.piece.now) c.place_of-index.result.0 c.place_of-index.result.1 c.place_of-index.ensures.place (is_not_empty (length c.args.piece.now) c.if-is_empty.ensures) c.index_mut-object.result.now c.index_mut-object.ensures.value start bytes h

pub overwrite-requires : goal.overwrite-requires
overwrite-requires c =
    let h = c.requires in
    let r = held (goal.at.overwrite-requires c).After-index_mut-object h.0 h.1 h.2 in
    let size : length c.deref_mut.result.now ≡ length h.1 = ap length (c.deref_mut.ensures.value ∙ r.content) in
    omega (arith, size, r.fits)

-- the object as it is then
abbrev changed : After-overwrite → Object
changed c = record {
  addr = c.index_mut-object.result.now.addr;
  bytes = with_items c.index_mut-object.result.now.bytes c.overwrite.new.bytes;
}

items_are : (c : After-overwrite) → (changed c).bytes.items ≡ c.overwrite.new.bytes
items_are c = with_items_is c.index_mut-object.result.now.bytes c.overwrite.new.bytes (c.overwrite.auto.bytes ∙ c.deref_mut.ensures.len)

as_long : (c : After-overwrite) → length (changed c).bytes.items ≡ length c.index_mut-object.result.now.bytes.items
as_long c = ap length (items_are c) ∙ (c.overwrite.auto.bytes ∙ ap length c.deref_mut.ensures.value)

inside : (c : After-overwrite) → c.place_of-index.result.0 < length c.self.inside.objects.items
inside c =
    inside_here c.self.inside.objects.items c.self.invariant c.deref.result.now c.deref.ensures.value c.args.self.now c.self.view_is c.args.addr (length c.args.piece.now) c.place_of-index.result.0 c.place_of-index.result.1 c.place_of-index.ensures.place (is_not_empty (length c.args.piece.now) c.if-is_empty.ensures)

pub invariant_of-self : goal.invariant_of-self
invariant_of-self c =
    let d = (goal.at.invariant_of-self c).After-overwrite in
    laid_changed c.self.inside.objects.items c.self.invariant c.deref.result.now c.deref.ensures.value c.args.self.now c.self.view_is c.place_of-index.result.0 c.index_mut-object.result.now (changed d) (inside d) c.index_mut-object.ensures.value refl (as_long d)

pub returns : goal.returns
returns c = λ start bytes h.
    let d = (goal.at.returns c).After-overwrite in
    let r = held (goal.at.returns c).After-index_mut-object start bytes h in
    let new : (changed d).bytes.items ≡ spliced bytes (c.args.addr - start) c.args.piece.now =
    items_are d
    ∙ (c.overwrite.ensures
    ∙ (ap (λ n. spliced c.deref_mut.result.now n c.args.piece.now) r.offset_is
    ∙ ap (λ l. spliced l (c.args.addr - start) c.args.piece.now) (c.deref_mut.ensures.value ∙ r.content))) in
    content_changed c.self.inside.objects.items c.self.invariant c.deref.result.now c.deref.ensures.value c.args.self.now c.self.view_is c.place_of-index.result.0 c.index_mut-object.result.now (changed d) (inside d) c.index_mut-object.ensures.value refl (as_long d)
    ∙ (ap (λ a. insert c.args.self.now a (changed d).bytes.items) r.address ∙ ap (insert c.args.self.now start) new)
