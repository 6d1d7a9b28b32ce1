use Rattle.std.proofs.Common.{◌≡◌, ◌≤◌, ◌*◌, ◌^◌, drop}
use Rattle.c_types.specs.Layout.{fields_end}
use Rattle.c_check_decl.proofs.layout.fields_end.Given as goal

abbrev pub invariant-loop-field : goal.invariant-loop-field
invariant-loop-field g l = record {
  value : fields_end (g.S.Shaped.shapes l.shapes) l.end (drop l.field-index l.fields) ≡ fields_end (g.S.Shaped.shapes l.shapes) 0 l.fields;
  bound : l.end ≤ l.field-index * 2 ^ 33;
}
