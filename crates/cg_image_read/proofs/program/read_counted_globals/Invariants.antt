use Rattle.std.proofs.Common.{◌≡◌, ◌-◌, ◌≤◌, []}
use Rattle.lu_base.specs.declared.limits.TheConstants.{SIZE}
use Rattle.bm_code.specs.Accepted.{global_bytes}
use Rattle.cg_image_read.specs.Fields.{items_at}
use Rattle.cg_image_read.specs.Items.{global_at}
use Rattle.cg_image_read.proofs.program.read_counted_globals.Given as goal

abbrev pub invariant-loop : goal.invariant-loop
invariant-loop l = record {
  sum : l.sum ≡ global_bytes l.globals.items;
  room : l.sum ≤ SIZE;
  rest : items_at (global_at l.names l.types) l.end l.globals.items (l.count - l.counter) l.rest ≡ items_at (global_at l.names l.types) l.end [] l.count l.bytes;
}
