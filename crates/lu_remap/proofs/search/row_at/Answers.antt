use Rattle.std.proofs.Common.{arith, ◌∙◌, ap, sym, false, None, get_or}
use Rattle.std.specs.Option.{option_map}
use Rattle.bm_objects.specs.declared.row.Row.{Row}
use Rattle.lu_remap.specs.declared.search.Found.{Found}
use Rattle.lu_remap.proofs.Finding.{none_above, at_last, behind_last, index_bound, at_index}
use Rattle.lu_remap.proofs.search.row_at.Goals as goal

abbrev none : Row
none = record { addr = 0; elem = 0; count = 0; size = 0; site = None; live = false }

pub returns-in_err-index-clause-number : goal.returns-in_err-index-clause-number
returns-in_err-index-clause-number c =
    ap (option_map (λ (f : Found). f.number)) c.from_residual.ensures ∙ sym (none_above c.args.rows.now c.args.addr c.in_err-index.ensures)

pub overflow_cast-result : goal.overflow_cast-result
overflow_cast-result c =
    let bound = index_bound c.args.rows.now c.requires c.in_ok-index.index none c.in_ok-index.ensures.inside in
    omega (arith, bound)

pub returns-then-addr-row-clause-row : goal.returns-then-addr-row-clause-row
returns-then-addr-row-clause-row c =
    at_index c.args.rows.now c.in_ok-index.index none c.in_ok-index.ensures.inside

pub returns-then-addr-row-clause-number : goal.returns-then-addr-row-clause-number
returns-then-addr-row-clause-number c =
    let rows = c.args.rows.now in
    let i = c.in_ok-index.index in
    sym (at_last rows c.requires c.args.addr i (get_or rows i none) c.in_ok-index.ensures (at_index rows i none c.in_ok-index.ensures.inside) c.if-addr-row.true)

pub returns-else-addr-row-clause-number : goal.returns-else-addr-row-clause-number
returns-else-addr-row-clause-number c =
    let rows = c.args.rows.now in
    let i = c.in_ok-index.index in
    sym (behind_last rows c.requires c.args.addr i (get_or rows i none) c.in_ok-index.ensures (at_index rows i none c.in_ok-index.ensures.inside) c.if-addr-row.false)
