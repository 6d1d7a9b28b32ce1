use Rattle.std.proofs.Common.{◌≤◌, ◌∙◌, sym, ap, subst, length}
use Rattle.bm_mem.specs.Layout.{IsCountUpTo}
use Rattle.bm_mem.proofs.Entries.{content_of}
use Rattle.bm_pages.specs.declared.extents.Extent.{Extent}
use Rattle.bm_pages.specs.Directory.{pages_in}
use Rattle.bm_pages.specs.Extents.{entries_in, layout_of, IsSound}
use Rattle.bm_pages.proofs.ExtentLemmas.{count_inside}
use Rattle.bm_pages.proofs.PlaceLemmas.{sound_mapped, content_mapped}
use Rattle.bm_pages.proofs.page_bytes.PageBytesBytes.map.Goals as goal
use Rattle.bm_pages.proofs.page_bytes.PageBytesBytes.map.Goals.{After-count_up_to-index, After-clear_range}

-- the new object
abbrev made : After-clear_range → Extent
made c = record { addr = c.args.addr; size = c.args.size }

-- the count, of the objects as they were
counted : (c : After-count_up_to-index) → IsCountUpTo (layout_of c.self.inside.extents.items) c.args.addr c.count_up_to-index.result
counted c = subst (λ es. IsCountUpTo (layout_of es) c.args.addr c.count_up_to-index.result) c.deref.ensures.value c.count_up_to-index.ensures

inside : (c : After-count_up_to-index) → c.count_up_to-index.result ≤ length c.self.inside.extents.items
inside c = count_inside c.self.inside.extents.items c.self.invariant.laid_out c.args.addr c.count_up_to-index.result (counted c)

pub invariant_of-self-2 : goal.invariant_of-self-2
invariant_of-self-2 c =
    let d = goal.at.invariant_of-self-2 c in
    subst (IsSound (pages_in c.clear_range.new.directory)) (sym c.in_ok-make_room.ensures.items) (sound_mapped c.self.inside.extents.items (pages_in c.self.inside.directory) (pages_in c.make_room.new.directory) (pages_in c.clear_range.new.directory) c.count_up_to-index.result (made d.After-clear_range) c.self.invariant (inside d.After-count_up_to-index) c.requires.some c.in_ok-make_room.ensures.taken c.clear_range.ensures c.args.self.now c.self.view_is (counted d.After-count_up_to-index) c.requires.clear c.requires.end)

pub returns-clause-ok : goal.returns-clause-ok
returns-clause-ok c =
    let d = goal.at.returns-clause-ok c in
    ap (λ es. content_of (entries_in (pages_in c.clear_range.new.directory) es)) c.in_ok-make_room.ensures.items
    ∙ content_mapped c.self.inside.extents.items (pages_in c.self.inside.directory) (pages_in c.make_room.new.directory) (pages_in c.clear_range.new.directory) c.count_up_to-index.result (made d.After-clear_range) c.self.invariant (inside d.After-count_up_to-index) c.requires.some c.in_ok-make_room.ensures.taken c.clear_range.ensures c.args.self.now c.self.view_is (counted d.After-count_up_to-index) c.requires.clear
