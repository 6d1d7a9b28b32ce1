use Rattle.std.proofs.Common.{◌≡◌, ◌-◌, []}
use Rattle.cg_image_read.specs.Fields.{items_at}
use Rattle.cg_image_read.specs.Items.{name_at}
use Rattle.cg_image_read.proofs.names.read_counted_names.Given as goal

abbrev pub invariant-loop : goal.invariant-loop
invariant-loop l = record {
  same : l.seen ≡ l.names.items;
  rest : items_at name_at l.end l.names.items (l.count - l.counter) l.rest ≡ items_at name_at l.end [] l.count l.bytes;
}
