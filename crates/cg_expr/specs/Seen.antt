-- What the program that code is made for stands for.
use Rattle.cg_expr.specs.declared.target.Target as Seen
use Rattle.cg_expr.specs.Code.{Target}

abbrev pub seen : Seen.Target → Target
seen at = record { types = at.program.now.types; starts = at.starts.now; functions = at.program.now.functions }
