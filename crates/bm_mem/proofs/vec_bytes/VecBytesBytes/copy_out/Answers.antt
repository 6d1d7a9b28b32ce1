use Rattle.std.proofs.Common.{◌≡◌, ◌∙◌, ap, ℕ, ◌+◌, ◌-◌, List, length, take, drop, arith}
use Rattle.lu_spec.specs.Splice.{piece_at}
use Rattle.bm_mem.specs.Content.{Holds}
use Rattle.bm_mem.proofs.ObjectLemmas.{begun_for, holder_is, is_not_empty, IsHolder}
use Rattle.bm_mem.proofs.vec_bytes.VecBytesBytes.copy_out.Goals as goal
use Rattle.bm_mem.proofs.vec_bytes.VecBytesBytes.copy_out.Goals.{After-index-object}

pub place_of-index-requires-clause-begun : goal.place_of-index-requires-clause-begun
place_of-index-requires-clause-begun c =
    begun_for c.self.inside.objects.items c.self.invariant c.deref.result.now c.deref.ensures.value c.args.self.now c.self.view_is c.args.addr (length c.args.into.now) c.requires

-- the object that has the range
held : (c : After-index-object) (start : ℕ) (bytes : List ℕ) → Holds c.args.self.now start bytes c.args.addr (length c.args.into.now) → IsHolder c.index-object.result.now c.args.addr (length c.args.into.now) start bytes c.place_of-index.result.1
held c start bytes h =
    holder_is c.self.inside.objects.items c.self.invariant c.deref.result.now c.deref.ensures.value c.args.self.now c.self.view_is c.args.addr (length c.args.into.now) c.place_of-index.result.0 c.place_of-index.result.1 c.place_of-index.ensures.place (is_not_empty (length c.args.into.now) c.if-is_empty.ensures) c.index-object.result.now c.index-object.ensures start bytes h

pub overflow_add-end : goal.overflow_add-end
overflow_add-end c =
    let h = c.requires in
    let r = held (goal.at.overflow_add-end c).After-index-object h.0 h.1 h.2 in omega (arith, r.fits, r.end)

pub slice_bounds-copy_from_slice-end : goal.slice_bounds-copy_from_slice-end
slice_bounds-copy_from_slice-end c =
    let h = c.requires in
    let r = held (goal.at.slice_bounds-copy_from_slice-end c).After-index-object h.0 h.1 h.2 in
    let size : length c.deref-2.result.now ≡ length h.1 = ap length (c.deref-2.ensures.value ∙ r.content) in
    omega (arith, size, r.fits)

pub returns : goal.returns
returns c = λ start bytes h.
    let r = held (goal.at.returns c).After-index-object start bytes h in
    let at = c.place_of-index.result.1 in
    let len = length c.args.into.now in
    let count : at + len - at ≡ len = omega arith in
    c.copy_from_slice.ensures.after
    ∙ (ap (λ n. take n (drop at c.deref-2.result.now)) count
    ∙ (ap (λ n. take len (drop n c.deref-2.result.now)) r.offset_is
    ∙ ap (λ l. piece_at l (c.args.addr - start) len) (c.deref-2.ensures.value ∙ r.content)))
