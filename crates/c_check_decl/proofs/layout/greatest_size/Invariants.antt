use Rattle.std.proofs.Common.{◌≡◌, max, drop}
use Rattle.c_types.specs.Layout.{greatest_size}
use Rattle.c_check_decl.proofs.layout.greatest_size.Given as goal

abbrev pub invariant-loop-field : goal.invariant-loop-field
invariant-loop-field g l =
    max l.greatest (greatest_size (g.S.Shaped.shapes l.shapes) (drop l.field-index l.fields)) ≡ greatest_size (g.S.Shaped.shapes l.shapes) l.fields
