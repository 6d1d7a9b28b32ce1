use Rattle.std.proofs.Common.{◌≡◌, ◌-◌, []}
use Rattle.cg_image_read.specs.Fields.{items_at}
use Rattle.cg_image_read.proofs.fields.read_items.Given as goal

abbrev pub invariant-loop : goal.invariant-loop
invariant-loop g l =
    items_at (λ _. g.R.ReadItem.item_at l.reader) l.end l.items.items (l.count - l.counter) l.rest ≡ items_at (λ _. g.R.ReadItem.item_at l.reader) l.end [] l.count l.bytes
