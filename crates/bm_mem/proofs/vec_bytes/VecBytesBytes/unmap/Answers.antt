use Rattle.std.proofs.Common.{◌∙◌, sym, ap, subst}
use Rattle.bm_mem.specs.Layout.{entries, IsLaidOut}
use Rattle.bm_mem.proofs.Entries.{content_of}
use Rattle.bm_mem.proofs.ObjectLemmas.{begun_for, holds_first, some_value, laid_removed, content_removed}
use Rattle.bm_mem.proofs.vec_bytes.VecBytesBytes.unmap.Goals as goal

pub place_of-index-requires-clause-begun : goal.place_of-index-requires-clause-begun
place_of-index-requires-clause-begun c =
    let there = some_value _ c.requires in
    begun_for c.self.inside.objects.items c.self.invariant c.deref.result.now c.deref.ensures.value c.args.self.now c.self.view_is c.args.addr 1
    (c.args.addr, there.0, holds_first c.self.inside.objects.items c.self.invariant c.deref.result.now c.deref.ensures.value c.args.self.now c.self.view_is c.args.addr there.0 there.1)

pub invariant_of-self : goal.invariant_of-self
invariant_of-self c =
    subst (λ os. IsLaidOut (entries os)) (sym c.remove-gone.ensures.items)
    (laid_removed c.self.inside.objects.items c.self.invariant c.deref.result.now c.deref.ensures.value c.args.self.now c.self.view_is c.args.addr c.place_of-index.result.0 c.place_of-index.result.1 c.place_of-index.ensures.place c.requires)

pub returns : goal.returns
returns c =
    ap (λ os. content_of (entries os)) c.remove-gone.ensures.items
    ∙ content_removed c.self.inside.objects.items c.self.invariant c.deref.result.now c.deref.ensures.value c.args.self.now c.self.view_is c.args.addr c.place_of-index.result.0 c.place_of-index.result.1 c.place_of-index.ensures.place c.requires
