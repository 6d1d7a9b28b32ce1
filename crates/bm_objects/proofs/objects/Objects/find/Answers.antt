use Rattle.std.proofs.Common.{◌≡◌, ◌∙◌, sym, ap, subst}
use Rattle.std.specs.List.{find}
use Rattle.bm_objects.specs.Table.{reaches}
use Rattle.bm_objects.specs.Search.{IsLastUpTo}
use Rattle.bm_objects.proofs.TableLemmas.{find_above, find_last, find_behind}
use Rattle.bm_objects.proofs.objects.Objects.find.Goals as goal
use Rattle.bm_objects.proofs.objects.Objects.find.Goals.{After-index-row}

-- the fields' list is the table
is_table : (c : After-index-row) → find (reaches c.args.addr) c.self.inside.rows.items ≡ find (reaches c.args.addr) c.args.self.now
is_table c = ap (find (reaches c.args.addr)) c.self.view_is

last : (c : After-index-row) → IsLastUpTo c.self.inside.rows.items c.args.addr c.in_ok-index.index
last c = subst (λ rows. IsLastUpTo rows c.args.addr c.in_ok-index.index) c.deref.ensures.value c.in_ok-index.ensures

pub returns-in_err-index : goal.returns-in_err-index
returns-in_err-index c =
    c.from_residual.ensures ∙ sym (find_above c.args.self.now c.args.addr (rw (c.deref.ensures.value, c.self.view_is) at c.in_err-index.ensures))

pub returns-then-addr-row : goal.returns-then-addr-row
returns-then-addr-row c =
    let d = (goal.at.returns-then-addr-row c).After-index-row in
    sym (find_last c.self.inside.rows.items c.self.invariant c.args.addr c.in_ok-index.index c.index-row.result.now (last d) c.index-row.ensures c.if-addr-row.true) ∙ is_table d

pub returns-else-addr-row : goal.returns-else-addr-row
returns-else-addr-row c =
    let d = (goal.at.returns-else-addr-row c).After-index-row in
    sym (find_behind c.self.inside.rows.items c.self.invariant c.args.addr c.in_ok-index.index c.index-row.result.now (last d) c.index-row.ensures c.if-addr-row.false) ∙ is_table d
