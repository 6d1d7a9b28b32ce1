use Rattle.std.proofs.Common.{◌≡◌, ◌∙◌, sym, ap, subst, ℕ, length, replicate}
use Rattle.std.proofs.lemmas.List.{length-replicate}
use Rattle.std.specs.FinMap.{insert}
use Rattle.bm_mem.specs.declared.vec_bytes.Object.{Object}
use Rattle.bm_mem.specs.Layout.{entries, IsLaidOut, IsCountUpTo}
use Rattle.bm_mem.specs.Content.{IsClear}
use Rattle.bm_mem.proofs.Entries.{content_of}
use Rattle.bm_mem.proofs.Changes.{laid_inserted, content_inserted}
use Rattle.bm_mem.proofs.ObjectLemmas.{entries_inserted}
use Rattle.bm_mem.proofs.vec_bytes.VecBytesBytes.map.Goals as goal
use Rattle.bm_mem.proofs.vec_bytes.VecBytesBytes.map.Goals.{In_ok-insert}

abbrev made : In_ok-insert → Object
made c = record { addr = c.args.addr; bytes = c.in_ok-bytes.bytes }

long : (c : In_ok-insert) → c.args.size ≡ length c.in_ok-bytes.bytes.items
long c = sym (ap length c.in_ok-bytes.ensures ∙ length-replicate {A = ℕ} c.args.size 0)

place : (c : In_ok-insert) → IsCountUpTo (entries c.self.inside.objects.items) c.args.addr c.count_up_to-index.result
place c = subst (λ os. IsCountUpTo (entries os) c.args.addr c.count_up_to-index.result) c.deref.ensures.value c.count_up_to-index.ensures

clear : (c : In_ok-insert) → IsClear (content_of (entries c.self.inside.objects.items)) c.args.addr (length c.in_ok-bytes.bytes.items)
clear c = rw (← long c, c.self.view_is) c.requires.clear

pub invariant_of-self-2 : goal.invariant_of-self-2
invariant_of-self-2 c =
    subst (λ os. IsLaidOut (entries os)) (sym c.in_ok-insert.ensures.items)
    (subst IsLaidOut (sym (entries_inserted c.self.inside.objects.items c.count_up_to-index.result (made c)))
    (laid_inserted (entries c.self.inside.objects.items) c.self.invariant c.args.addr c.count_up_to-index.result c.in_ok-bytes.bytes.items (place c) (rw (← long c) c.requires.some) (clear c) (rw (← long c) c.requires.end)))

pub returns-clause-ok : goal.returns-clause-ok
returns-clause-ok c =
    ap (λ os. content_of (entries os)) c.in_ok-insert.ensures.items
    ∙ (ap content_of (entries_inserted c.self.inside.objects.items c.count_up_to-index.result (made c))
    ∙ (content_inserted (entries c.self.inside.objects.items) c.self.invariant c.args.addr c.count_up_to-index.result c.in_ok-bytes.bytes.items (place c) (rw (← long c) c.requires.some) (clear c)
    ∙ (ap (insert (content_of (entries c.self.inside.objects.items)) c.args.addr) c.in_ok-bytes.ensures
    ∙ ap (λ m. insert m c.args.addr (replicate c.args.size 0)) c.self.view_is)))
