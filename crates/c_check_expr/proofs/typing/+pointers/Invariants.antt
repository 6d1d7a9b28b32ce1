use Rattle.c_check_expr.proofs.typing.+pointers.Given as goal

abbrev pub decreases-pointers : goal.decreases-pointers
decreases-pointers l = l.stars
