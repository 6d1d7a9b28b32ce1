use Rattle.std.proofs.Common.{◌≡◌, ◌∙◌, ◌<◌, ◌+◌, ◌-◌, ◌^◌, sym, ap, subst, length, get_or, arith}
use Rattle.std.proofs.lemmas.List.{get_or_default}
use Rattle.std.specs.List.{remove}
use Rattle.bm_mem.specs.Layout.{IsLaidOut, IsCountUpTo}
use Rattle.bm_mem.proofs.Entries.{content_of}
use Rattle.bm_pages.specs.declared.extents.Extent.{Extent}
use Rattle.bm_pages.specs.Directory.{pages_in}
use Rattle.bm_pages.specs.Extents.{entries_in, layout_of, IsReleased, IsSound}
use Rattle.bm_pages.proofs.ExtentLemmas.{extent_bounds}
use Rattle.bm_pages.proofs.ContentLemmas.{no_extent}
use Rattle.bm_pages.proofs.PlaceLemmas.{first_of, end_of, laid_left, some_counted, last_inside, last_first, sound_unmapped, content_unmapped}
use Rattle.bm_pages.proofs.page_bytes.PageBytesBytes.unmap.Goals as goal
use Rattle.bm_pages.proofs.page_bytes.PageBytesBytes.unmap.Goals.{After-count_up_to-index, After-remove-extent, After-release_range}

-- the count, of the objects as they were
counted : (c : After-count_up_to-index) → IsCountUpTo (layout_of c.self.inside.extents.items) c.args.addr c.count_up_to-index.result
counted c = subst (λ es. IsCountUpTo (layout_of es) c.args.addr c.count_up_to-index.result) c.deref.ensures.value c.count_up_to-index.ensures

inside : (c : After-count_up_to-index) → c.count_up_to-index.result - 1 < length c.self.inside.extents.items
inside c = last_inside (pages_in c.self.inside.directory) c.self.inside.extents.items c.self.invariant c.args.self.now c.self.view_is c.args.addr c.count_up_to-index.result (counted c) c.requires

pub overflow_sub-index : goal.overflow_sub-index
overflow_sub-index c =
    let d = (goal.at.overflow_sub-index c).After-count_up_to-index in
    some_counted (pages_in c.self.inside.directory) c.self.inside.extents.items c.self.invariant c.args.self.now c.self.view_is c.args.addr c.count_up_to-index.result (counted d) c.requires

pub remove-extent-requires : goal.remove-extent-requires
remove-extent-requires c =
    let d = (goal.at.remove-extent-requires c).After-count_up_to-index in omega (arith, inside d, c.self.inside.extents.ok.0)

-- the object that is taken away
object : (c : After-remove-extent) → (inside : c.count_up_to-index.result - 1 < length c.self.inside.extents.items) → c.remove-extent.result ≡ get_or c.self.inside.extents.items (c.count_up_to-index.result - 1) no_extent
object c inside =
    c.remove-extent.ensures.value
    ∙ get_or_default c.self.inside.extents.items (c.count_up_to-index.result - 1) c.remove-extent.result no_extent inside

bounds : (c : After-remove-extent) → (inside : c.count_up_to-index.result - 1 < length c.self.inside.extents.items) → (0 < c.remove-extent.result.size) × (c.remove-extent.result.addr + c.remove-extent.result.size < 2 ^ 32)
bounds c inside =
    subst (λ (e : Extent). (0 < e.size) × (e.addr + e.size < 2 ^ 32)) (sym (object c inside)) (extent_bounds c.self.inside.extents.items c.self.invariant.laid_out (c.count_up_to-index.result - 1) no_extent inside)

pub end_page-requires-clause-some : goal.end_page-requires-clause-some
end_page-requires-clause-some c =
    let d = goal.at.end_page-requires-clause-some c in
    (bounds d.After-remove-extent (inside d.After-count_up_to-index)).0

pub end_page-requires-clause-end : goal.end_page-requires-clause-end
end_page-requires-clause-end c =
    let d = goal.at.end_page-requires-clause-end c in
    (bounds d.After-remove-extent (inside d.After-count_up_to-index)).1

pub release_range-requires-clause-laid_out : goal.release_range-requires-clause-laid_out
release_range-requires-clause-laid_out c =
    subst (λ es. IsLaidOut (layout_of es)) (sym (c.deref-2.ensures.value ∙ c.remove-extent.ensures.items)) (laid_left (pages_in c.self.inside.directory) c.self.inside.extents.items (c.count_up_to-index.result - 1) c.self.invariant.laid_out)

pub release_range-requires-clause-in_memory : goal.release_range-requires-clause-in_memory
release_range-requires-clause-in_memory c =
    let d = goal.at.release_range-requires-clause-in_memory c in
    let b = bounds d.After-remove-extent (inside d.After-count_up_to-index) in omega (arith, b.0, b.1, c.end_page.ensures)

-- the pages given up
released : (c : After-release_range) → (inside : c.count_up_to-index.result - 1 < length c.self.inside.extents.items) → c.remove-extent.result ≡ get_or c.self.inside.extents.items (c.count_up_to-index.result - 1) no_extent → IsReleased (remove c.self.inside.extents.items (c.count_up_to-index.result - 1)) (pages_in c.self.inside.directory) (pages_in c.release_range.new.directory) (first_of (get_or c.self.inside.extents.items (c.count_up_to-index.result - 1) no_extent)) (end_of (get_or c.self.inside.extents.items (c.count_up_to-index.result - 1) no_extent))
released c inside is =
    let old = pages_in c.self.inside.directory in
    let new = pages_in c.release_range.new.directory in
    let left = remove c.self.inside.extents.items (c.count_up_to-index.result - 1) in
    subst (λ es. IsReleased es old new (first_of (get_or c.self.inside.extents.items (c.count_up_to-index.result - 1) no_extent)) (end_of (get_or c.self.inside.extents.items (c.count_up_to-index.result - 1) no_extent))) (c.deref-2.ensures.value ∙ c.remove-extent.ensures.items)
    (subst (λ n. IsReleased c.deref-2.result.now old new n (end_of (get_or c.self.inside.extents.items (c.count_up_to-index.result - 1) no_extent))) (c.first_page.ensures ∙ ap first_of is)
    (subst (λ n. IsReleased c.deref-2.result.now old new c.first_page.result n) (c.end_page.ensures ∙ ap end_of is) c.release_range.ensures))

pub invariant_of-self : goal.invariant_of-self
invariant_of-self c =
    let d = goal.at.invariant_of-self c in
    let within = inside d.After-count_up_to-index in
    let is = object d.After-remove-extent within in
    subst (IsSound (pages_in c.release_range.new.directory)) (sym c.remove-extent.ensures.items) (sound_unmapped c.self.inside.extents.items (pages_in c.self.inside.directory) (pages_in c.release_range.new.directory) (c.count_up_to-index.result - 1) c.self.invariant within (released d.After-release_range within is))

pub returns : goal.returns
returns c =
    let d = goal.at.returns c in
    let within = inside d.After-count_up_to-index in
    let is = object d.After-remove-extent within in
    let first = last_first (pages_in c.self.inside.directory) c.self.inside.extents.items c.self.invariant c.args.self.now c.self.view_is c.args.addr c.count_up_to-index.result (counted d.After-count_up_to-index) c.requires in
    ap (λ es. content_of (entries_in (pages_in c.release_range.new.directory) es)) c.remove-extent.ensures.items
    ∙ content_unmapped c.self.inside.extents.items (pages_in c.self.inside.directory) (pages_in c.release_range.new.directory) (c.count_up_to-index.result - 1) c.self.invariant within (released d.After-release_range within is) c.args.self.now c.self.view_is c.args.addr first
