use Rattle.std.proofs.Common.{◌≡◌, ◌∙◌, ap, ℕ, ◌+◌, ◌-◌, List, length, take, drop, arith}
use Rattle.lu_spec.specs.Splice.{piece_at}
use Rattle.bm_mem.specs.Content.{Holds}
use Rattle.bm_mem.proofs.ObjectLemmas.{begun_for, holder_is, width_some, IsHolder}
use Rattle.bm_mem.proofs.vec_bytes.VecBytesBytes.read.Goals as goal
use Rattle.bm_mem.proofs.vec_bytes.VecBytesBytes.read.Goals.{After-index-object}

pub place_of-index-requires-clause-begun : goal.place_of-index-requires-clause-begun
place_of-index-requires-clause-begun c =
    begun_for c.self.inside.objects.items c.self.invariant c.deref.result.now c.deref.ensures.value c.args.self.now c.self.view_is c.args.addr c.args.len c.requires.inside

-- the object that has the range
held : (c : After-index-object) (start : ℕ) (bytes : List ℕ) → Holds c.args.self.now start bytes c.args.addr c.args.len → IsHolder c.index-object.result.now c.args.addr c.args.len start bytes c.place_of-index.result.1
held c start bytes h =
    holder_is c.self.inside.objects.items c.self.invariant c.deref.result.now c.deref.ensures.value c.args.self.now c.self.view_is c.args.addr c.args.len c.place_of-index.result.0 c.place_of-index.result.1 c.place_of-index.ensures.place (width_some c.args.len c.requires.width) c.index-object.result.now c.index-object.ensures start bytes h

pub overflow_add-result : goal.overflow_add-result
overflow_add-result c =
    let h = c.requires.inside in
    let r = held (goal.at.overflow_add-result c).After-index-object h.0 h.1 h.2 in omega (arith, r.fits, r.end)

pub slice_bounds-result-end : goal.slice_bounds-result-end
slice_bounds-result-end c =
    let h = c.requires.inside in
    let r = held (goal.at.slice_bounds-result-end c).After-index-object h.0 h.1 h.2 in
    let size : length c.deref-2.result.now ≡ length h.1 = ap length (c.deref-2.ensures.value ∙ r.content) in
    omega (arith, size, r.fits)

pub returns : goal.returns
returns c = λ start bytes h.
    let r = held (goal.at.returns c).After-index-object start bytes h in
    let at = c.place_of-index.result.1 in
    let count : at + c.args.len - at ≡ c.args.len = omega arith in
    ap (λ n. take n (drop at c.deref-2.result.now)) count
    ∙ (ap (λ n. take c.args.len (drop n c.deref-2.result.now)) r.offset_is
    ∙ ap (λ l. piece_at l (c.args.addr - start) c.args.len) (c.deref-2.ensures.value ∙ r.content))
