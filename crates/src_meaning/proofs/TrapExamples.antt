-- The smallest program for each trap, run by computation.
use Rattle.std.proofs.Common.{◌≡◌, refl, pos, negsuc, List, [], ◌∷◌}
use Rattle.lu_base.specs.declared.trap.Trap.TheVariants as X
use Rattle.src_tree.specs.declared.value.Value as V1
use Rattle.src_tree.specs.declared.value.Value.TheBlock as V
use Rattle.src_tree.specs.declared.expr.ExprKind.TheBlock as E
use Rattle.src_tree.specs.declared.stmt.TypedStmt.TheBlock as S
use Rattle.src_tree.specs.declared.expr.ExprKind.{AddressOf, Convert}
use Rattle.src_tree.specs.declared.expr.BinaryOperator.TheVariants as B
use Rattle.src_tree.specs.declared.expr.PlaceKind.{Deref, Field, Member}
use Rattle.src_tree.specs.declared.stmt.TypedStmt.{TypedStmt, Assign, Call, If, While, Block}
use Rattle.src_tree.specs.declared.stmt.Callee.TheVariants as C
use Rattle.src_tree.specs.declared.stmt.Rhs.TheVariants as R
use Rattle.src_tree.specs.declared.program.Program.{Program}
use Rattle.src_meaning.specs.Call.{Trapped, call}
use Rattle.src_meaning.specs.Initial.{initial_store}
use Rattle.src_tree.specs.declared.expr.TypedExpr.{TypedExpr}
use Rattle.src_tree.specs.declared.expr.TypedPlace.{TypedPlace}
use Rattle.src_meaning.proofs.Sample.{program, world, num, long, expr, at, two, value, global, out_arg, set, trap, seen}

-- int n; int *p; void (*f)(void); union val u; struct node *q;
abbrev n : TypedPlace
n = global 0 2

abbrev p : TypedPlace
p = global 10 3

abbrev f : TypedPlace
f = global 15 4

abbrev u : TypedPlace
u = global 13 5

abbrev q : TypedPlace
q = global 12 6

abbrev of_body : List TypedStmt → Program
of_body body = program (0 ∷ 10 ∷ 15 ∷ 13 ∷ 12 ∷ []) [] body []

abbrev address_of_n : TypedExpr
address_of_n = expr 10 (AddressOf n)

abbrev free : TypedExpr → TypedStmt
free e = Call (record { callee = C.Free; args = expr 14 (Convert e) ∷ [] })

abbrev malloc_int : TypedStmt
malloc_int = Assign p (R.Call (record { callee = C.Malloc 0; args = [] }) 10)

abbrev call_f : TypedStmt
call_f = Call (record { callee = C.Pointer (value f); args = [] })

abbrev itself : TypedStmt
itself = Call (record { callee = C.Function 1; args = [] })

-- p = malloc(sizeof(int)); free(p); *p = 1;
abbrev dangling : Program
dangling = of_body (malloc_int ∷ free (value p) ∷ set (at 0 (Deref (value p))) (num (pos 1)) ∷ [])

-- p = &n + 2;
abbrev past_end : Program
past_end = of_body (set p (two 10 B.PointerAdd address_of_n (long (pos 2))) ∷ [])

-- n = p < &n;
abbrev null_order : Program
null_order = of_body (set n (two 0 B.Less (value p) address_of_n) ∷ [])

-- p = &m_in.type; n = &n - p;
abbrev two_objects : Program
two_objects =
    of_body (set p (expr 10 (AddressOf (at 0 (Field (global 1 0) 1)))) ∷ set n (two 0 B.PointerDifference address_of_n (value p)) ∷ [])

-- *p = 1; on null
abbrev null_target : Program
null_target = of_body (set (at 0 (Deref (value p))) (num (pos 1)) ∷ [])

-- p = &n + 1; *p = 1;
abbrev end_target : Program
end_target =
    of_body (set p (two 10 B.PointerAdd address_of_n (long (pos 1))) ∷ set (at 0 (Deref (value p))) (num (pos 1)) ∷ [])

-- n = u.i; then *u.p = 1, whose member isn't active
abbrev inactive : Program
inactive = of_body (set n (value (at 0 (Member u 0))) ∷ set (at 0 (Deref (value (at 10 (Member u 1))))) (num (pos 1)) ∷ [])

-- n = n + 1; if (n == 128) f(); on_message();
abbrev null_at_128 : Program
null_at_128 =
    of_body (set n (two 0 B.Add (value n) (num (pos 1))) ∷ If (two 0 B.Equal (value n) (num (pos 128))) call_f [] ∷ itself ∷ [])

-- while (1) { }
abbrev forever : Program
forever = of_body (While (num (pos 1)) (Block []) ∷ [])

traps :
    (seen dangling ≡ trap X.BadPointer 1)
    × (seen null_target ≡ trap X.BadPointer 1)
    × (seen end_target ≡ trap X.BadPointer 1)
    × (seen past_end ≡ trap X.PtrRange 1)
    × (seen null_order ≡ trap X.PtrOrder 1)
    × (seen two_objects ≡ trap X.PtrOrder 1)
    × (seen (of_body (free address_of_n ∷ [])) ≡ trap X.BadFree 1)
    × (seen (of_body (set (out_arg (pos 6)) (num (pos 1)) ∷ [])) ≡ trap X.BadIndex 1)
    × (seen (of_body (set (out_arg (negsuc 0)) (num (pos 1)) ∷ [])) ≡ trap X.BadIndex 1)
    × (seen (of_body (set n (two 0 B.ShiftLeft (num (pos 1)) (num (pos 32))) ∷ [])) ≡ trap X.BadShift 1)
    × (seen (of_body (set n (two 0 B.Divide (num (pos 1)) (value n)) ∷ [])) ≡ trap X.DivZero 1)
    × (seen (of_body (call_f ∷ [])) ≡ trap X.BadCall 1)
    × (seen (of_body (Call (record { callee = C.Panic; args = num (pos 3) ∷ [] }) ∷ [])) ≡ trap (X.Panic (pos 3)) 1)
    × (seen inactive ≡ trap X.UnionMember 1)
unfolding V.shape-the_row-Value-0 V.hidden-the_row-Value-0 V.shown-the_row-Value-0 V.shape-the_row-Value-1 V.hidden-the_row-Value-1 V.shown-the_row-Value-1 E.shape-the_row-TypedExpr-1 E.hidden-the_row-TypedExpr-1 E.shape-the_row-TypedPlace-0 E.hidden-the_row-TypedPlace-0 S.shape-the_row-TypedStmt-0 S.hidden-the_row-TypedStmt-0 S.shape-the_row-TypedStmt-1 S.hidden-the_row-TypedStmt-1 denote.Hole.Carrier.hidden Rattle.src_tree.specs.declared.value.Value.TheViews.out-Value denote.Hole.Carrier.out denote.Hole.Carrier.shown
traps = (refl, refl, refl, refl, refl, refl, refl, refl, refl, refl, refl, refl, refl, refl)

-- the 129th frame, and before that check the null callee
frames : (seen (of_body (itself ∷ [])) ≡ trap X.Depth 128) × (seen null_at_128 ≡ trap X.BadCall 128)
unfolding V.shape-the_row-Value-0 V.hidden-the_row-Value-0 V.shown-the_row-Value-0 V.shape-the_row-Value-1 V.hidden-the_row-Value-1 V.shown-the_row-Value-1 E.shape-the_row-TypedExpr-1 E.hidden-the_row-TypedExpr-1 E.shape-the_row-TypedPlace-0 E.hidden-the_row-TypedPlace-0 S.shape-the_row-TypedStmt-0 S.hidden-the_row-TypedStmt-0 S.shape-the_row-TypedStmt-1 S.hidden-the_row-TypedStmt-1 denote.Hole.Carrier.hidden Rattle.src_tree.specs.declared.value.Value.TheViews.out-Value denote.Hole.Carrier.out denote.Hole.Carrier.shown
frames = (refl, refl)

-- one tick for the entry and one for each turn
budget : call forever world (initial_store forever) 1 [] 20 ≡ Trapped X.Budget 0
unfolding V.shape-the_row-Value-0 V.hidden-the_row-Value-0 V.shown-the_row-Value-0 V.shape-the_row-Value-1 V.hidden-the_row-Value-1 V.shown-the_row-Value-1 E.shape-the_row-TypedExpr-1 E.hidden-the_row-TypedExpr-1 E.shape-the_row-TypedPlace-0 E.hidden-the_row-TypedPlace-0 S.shape-the_row-TypedStmt-0 S.hidden-the_row-TypedStmt-0 S.shape-the_row-TypedStmt-1 S.hidden-the_row-TypedStmt-1 denote.Hole.Carrier.hidden Rattle.src_tree.specs.declared.value.Value.TheViews.out-Value denote.Hole.Carrier.out denote.Hole.Carrier.shown
budget = refl
