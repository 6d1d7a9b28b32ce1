use Rattle.std.proofs.Common.{◌≡◌, ◌∙◌, sym, ap, subst, Any}
use Rattle.bm_objects.specs.Table.{killed}
use Rattle.bm_objects.specs.Search.{IsLastUpTo}
use Rattle.bm_objects.proofs.TableLemmas.{killed_is, not_above}
use Rattle.bm_objects.proofs.objects.Objects.kill.Goals as goal

pub unreachable-requires : goal.unreachable-requires
unreachable-requires c = not_above c.args.self.now c.args.addr c.requires (rw (c.deref.ensures.value, c.self.view_is) at c.in_default.ensures)

pub returns : goal.returns
returns c =
    let rows = c.self.inside.rows.items in
    let last : IsLastUpTo rows c.args.addr c.in-Some.index = subst (λ r. IsLastUpTo r c.args.addr c.in-Some.index) c.deref.ensures.value c.in-Some.ensures in
    let any : Any (λ r. r.addr ≡ c.args.addr) rows = subst (Any (λ r. r.addr ≡ c.args.addr)) (sym c.self.view_is) c.requires in
    killed_is rows c.self.invariant c.args.addr c.in-Some.index c.index_mut.result.now last c.index_mut.ensures.value any
    ∙ ap (λ r. killed r c.args.addr) c.self.view_is
