use Rattle.std.proofs.Common.{◌≡◌, max, drop}
use Rattle.c_types.specs.Layout.{greatest_align}
use Rattle.c_check_decl.proofs.layout.greatest_align.Given as goal

abbrev pub invariant-loop-field : goal.invariant-loop-field
invariant-loop-field g l =
    max l.greatest (greatest_align (g.S.Shaped.shapes l.shapes) (drop l.field-index l.fields)) ≡ greatest_align (g.S.Shaped.shapes l.shapes) l.fields
