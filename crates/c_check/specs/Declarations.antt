-- One declaration of a text: what stands after it, or the rules that it breaks.
use Rattle.std.specs.Prelude.{List}
use Rattle.c_ast.specs.Trees.{Declaration, Record, Global, Prototype, Definition}
use Rattle.c_check_scope.specs.Rules.{Checked}
use Rattle.c_check.specs.Objects.{declared_record, declared_global}
use Rattle.c_check.specs.Functions.{declared_prototype, declared_definition}
use Rattle.c_check.specs.declared.standing.Standing.{Standing}
use Rattle.c_check.specs.declared.standing.Functions.{Functions}

unfoldable pub declared : List Declaration → Functions → Standing → Declaration → Checked Standing
declared text functions s (Record kind x fields) = declared_record s kind x fields
declared text functions s (Global o i) = declared_global functions s o i
declared text functions s (Prototype t x ps) = declared_prototype text functions s t x ps
declared text functions s (Definition t x ps ss) = declared_definition s t x ps ss
