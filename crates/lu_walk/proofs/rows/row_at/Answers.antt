use Rattle.std.proofs.Common.{◌≡◌, sym, subst, ◌<◌, ◌-◌, ◌≤◌, get_or, arith}
use Rattle.std.proofs.lemmas.Option.{get_or_from_slice_get}
use Rattle.bm_objects.specs.declared.row.Row.{Row}
use Rattle.bm_objects.specs.Table.{end_of}
use Rattle.lu_walk.proofs.RowLemmas.{none_up_to, last_reaches, last_ended, row_end}
use Rattle.lu_walk.proofs.rows.row_at.Goals as goal

pub returns-then-count-eq0-clause-value : goal.returns-then-count-eq0-clause-value
returns-then-count-eq0-clause-value c =
    sym (none_up_to c.args.rows.now c.len-rows.ensures.table c.args.addr c.count_up_to-count.result c.count_up_to-count.ensures c.if-count-eq0.true)

pub overflow_add-row : goal.overflow_add-row
overflow_add-row c =
    let end = row_end c.args.rows.now c.len-rows.ensures.table _ c.row-row.result c.row-row.ensures in omega (arith, end)

pub returns-then-addr-row-clause-value : goal.returns-then-addr-row-clause-value
returns-then-addr-row-clause-value c =
    let rows = c.args.rows.now in
    let row = c.row-row.result in
    let some : 0 < c.count_up_to-count.result = omega (arith, c.if-count-eq0.false) in
    let at : get_or rows (c.count_up_to-count.result - 1) row ≡ row = get_or_from_slice_get rows (c.count_up_to-count.result - 1) row row c.row-row.ensures in
    sym (last_reaches rows c.len-rows.ensures.table c.args.addr c.count_up_to-count.result c.count_up_to-count.ensures some row (subst (λ (r : Row). c.args.addr ≤ end_of r) (sym at) c.if-addr-row.true))

pub returns-else-addr-row-clause-value : goal.returns-else-addr-row-clause-value
returns-else-addr-row-clause-value c =
    let rows = c.args.rows.now in
    let row = c.row-row.result in
    let some : 0 < c.count_up_to-count.result = omega (arith, c.if-count-eq0.false) in
    sym (last_ended rows c.len-rows.ensures.table c.args.addr c.count_up_to-count.result c.count_up_to-count.ensures some (λ d. subst (λ (r : Row). end_of r < c.args.addr) (sym (get_or_from_slice_get rows (c.count_up_to-count.result - 1) row d c.row-row.ensures)) c.if-addr-row.false))
