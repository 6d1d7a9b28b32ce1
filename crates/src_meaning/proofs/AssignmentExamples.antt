-- Structs assigned to themselves and to their neighbours, run by computation: the value is read whole before it is written.
use Rattle.std.proofs.Common.{◌≡◌, refl, ℕ, ℤ, pos, List, [], ◌∷◌}
use Rattle.lu_base.specs.declared.trap.Trap.TheVariants as X
use Rattle.src_tree.specs.declared.value.Value as V1
use Rattle.src_tree.specs.declared.value.Value.TheBlock as V
use Rattle.src_tree.specs.declared.expr.ExprKind.TheBlock as E
use Rattle.src_tree.specs.declared.stmt.TypedStmt.TheBlock as S
use Rattle.src_tree.specs.declared.expr.TypedPlace.{TypedPlace}
use Rattle.src_tree.specs.declared.expr.ExprKind.{AddressOf}
use Rattle.src_tree.specs.declared.expr.BinaryOperator.TheVariants as B
use Rattle.src_tree.specs.declared.expr.PlaceKind.{Deref, Arrow, Element, Field}
use Rattle.src_tree.specs.declared.program.Program.{Program}
use Rattle.src_meaning.proofs.Sample.{program, num, long, expr, at, two, value, global, out_arg, set, reply, Seen, sends, trap, seen}

abbrev answered : List ℤ → ℕ → Seen
answered args used = sends ((pos 100, record { source = pos 1; kind = pos 0; arg = args }) ∷ []) used

-- struct node tab[8]; struct node *p; struct node *q;
abbrev node : ℤ → TypedPlace
node i = at 11 (Element (global 16 2) (long i))

abbrev p : TypedPlace
p = global 12 3

abbrev q : TypedPlace
q = global 12 4

abbrev number : TypedPlace → TypedPlace
number x = at 0 (Field x 0)

abbrev next : TypedPlace → TypedPlace
next x = at 12 (Field x 1)

abbrev pointed : TypedPlace → TypedPlace
pointed x = at 11 (Deref (value x))

-- tab[1].n = 5; p = &tab[1]; q = &tab[1]; *q = *p; tab[1].n;
-- tab[0] = tab[1]; tab[1].n = 6; tab[1] = tab[0]; tab[1].n; tab[0].n = 7; tab[1].n;
-- tab[1].next = &tab[0]; *p = *p->next; tab[1].n; tab[1].next == 0
abbrev assignments : Program
assignments =
    program (16 ∷ 12 ∷ 12 ∷ []) []
    (set (number (node (pos 1))) (num (pos 5))
    ∷ set p (expr 12 (AddressOf (node (pos 1))))
    ∷ set q (expr 12 (AddressOf (node (pos 1))))
    ∷ set (pointed q) (value (pointed p))
    ∷ set (out_arg (pos 0)) (value (number (node (pos 1))))
    ∷ set (node (pos 0)) (value (node (pos 1)))
    ∷ set (number (node (pos 1))) (num (pos 6))
    ∷ set (node (pos 1)) (value (node (pos 0)))
    ∷ set (out_arg (pos 1)) (value (number (node (pos 1))))
    ∷ set (number (node (pos 0))) (num (pos 7))
    ∷ set (out_arg (pos 2)) (value (number (node (pos 1))))
    ∷ set (next (node (pos 1))) (expr 12 (AddressOf (node (pos 0))))
    ∷ set (pointed p) (value (pointed (next (at 11 (Arrow (value p))))))
    ∷ set (out_arg (pos 3)) (value (number (node (pos 1))))
    ∷ set (out_arg (pos 4)) (two 0 B.Equal (value (next (node (pos 1)))) (value (next (node (pos 0)))))
    ∷ reply
    ∷ []) []

-- p = &tab[0]; n = &m_in.type < &tab[0].n;
abbrev order_of_two : Program
order_of_two =
    program (16 ∷ 0 ∷ []) []
    (set (global 0 3) (two 0 B.Less (expr 10 (AddressOf (at 0 (Field (global 1 0) 1)))) (expr 10 (AddressOf (number (node (pos 0))))))
    ∷ []) []

assigned_whole :
    (seen assignments ≡ answered (pos 5 ∷ pos 5 ∷ pos 5 ∷ pos 7 ∷ pos 1 ∷ pos 0 ∷ []) 1)
    × (seen order_of_two ≡ trap X.PtrOrder 1)
unfolding V.shape-the_row-Value-0 V.hidden-the_row-Value-0 V.shown-the_row-Value-0 V.shape-the_row-Value-1 V.hidden-the_row-Value-1 V.shown-the_row-Value-1 E.shape-the_row-TypedExpr-1 E.hidden-the_row-TypedExpr-1 E.shape-the_row-TypedPlace-0 E.hidden-the_row-TypedPlace-0 S.shape-the_row-TypedStmt-0 S.hidden-the_row-TypedStmt-0 S.shape-the_row-TypedStmt-1 S.hidden-the_row-TypedStmt-1 denote.Hole.Carrier.hidden Rattle.src_tree.specs.declared.value.Value.TheViews.out-Value denote.Hole.Carrier.out denote.Hole.Carrier.shown
assigned_whole = (refl, refl)
