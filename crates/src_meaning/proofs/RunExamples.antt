-- Programs run by computation.
use Rattle.std.proofs.Common.{◌≡◌, refl, ℕ, ℤ, pos, negsuc, List, [], ◌∷◌, ◌++◌, Some, None, true, false}
use Rattle.lu_base.specs.declared.message.Message.{Message}
use Rattle.lu_base.specs.declared.trap.Trap.TheVariants as X
use Rattle.src_tree.specs.declared.value.Value as V1
use Rattle.src_tree.specs.declared.value.Value.TheBlock as V
use Rattle.src_tree.specs.declared.expr.ExprKind.TheBlock as E
use Rattle.src_tree.specs.declared.stmt.TypedStmt.TheBlock as S
use Rattle.src_tree.specs.declared.expr.ExprKind.{Number, Local, AddressOf, Decay, Convert, Cast, Unary}
use Rattle.src_tree.specs.declared.expr.BinaryOperator.TheVariants as B
use Rattle.src_tree.specs.declared.expr.UnaryOperator.TheVariants as U
use Rattle.src_tree.specs.declared.expr.PlaceKind.{Deref, Arrow, Item, Element, Field, Member}
use Rattle.src_tree.specs.declared.stmt.TypedStmt.{TypedStmt, Assign, SetLocal, Call, If, For, Block, Declare, Break, Continue, Return}
use Rattle.src_tree.specs.declared.stmt.Callee.TheVariants as C
use Rattle.src_tree.specs.declared.stmt.Rhs.TheVariants as R
use Rattle.src_tree.specs.declared.program.Function.{Function}
use Rattle.src_tree.specs.declared.program.Program.{Program}
use Rattle.src_tree.specs.declared.value.ObjectKind as O'
use Rattle.src_tree.specs.declared.value.ObjectKind.TheVariants as O
use Rattle.src_tree.specs.declared.value.Object.{Object}
use Rattle.src_tree.specs.declared.value.Store.{Store}
use Rattle.src_tree.specs.declared.expr.TypedExpr.{TypedExpr}
use Rattle.src_tree.specs.declared.expr.TypedPlace.{TypedPlace}
use Rattle.std.specs.Prelude.{slice_get}
use Rattle.std.specs.Option.{option_map}
use Rattle.src_meaning.specs.Weight.{weight}
use Rattle.src_meaning.specs.Objects.{addresses, has_room}
use Rattle.src_meaning.proofs.Sample.{parts, program, num, long, expr, at, two, value, global, out_type, out_arg, set, set_local, reply, Seen, sends, trap, seen}

-- m_out.type = 1; m_out.arg[0] = -7 / 2; .. ; send(m_in.source);
abbrev integers : Program
integers =
    program [] []
    (set out_type (num (pos 1))
    ∷ set (out_arg (pos 0)) (two 0 B.Divide (expr 0 (Unary U.Minus (num (pos 7)))) (num (pos 2)))
    ∷ set (out_arg (pos 1)) (two 0 B.Remainder (expr 0 (Unary U.Minus (num (pos 7)))) (num (pos 2)))
    ∷ set (out_arg (pos 2)) (expr 0 (Convert (expr 4 (Cast (num (pos 300))))))
    ∷ set (out_arg (pos 3)) (two 0 B.Less (expr 7 (Convert (expr 0 (Unary U.Minus (num (pos 1)))))) (expr 7 (Number (pos 1))))
    ∷ set (out_arg (pos 4)) (expr 0 (Convert (expr 3 (Cast (num (pos 200))))))
    ∷ set (out_arg (pos 5)) (two 0 B.ShiftRight (expr 0 (Unary U.Minus (num (pos 8)))) (num (pos 1)))
    ∷ reply
    ∷ []) []

runs_integers : seen integers ≡ sends ((pos 100, record { source = pos 1; kind = pos 1; arg = negsuc 2 ∷ negsuc 0 ∷ pos 44 ∷ pos 0 ∷ negsuc 55 ∷ negsuc 3 ∷ [] }) ∷ []) 1
unfolding V.shape-the_row-Value-0 V.hidden-the_row-Value-0 V.shown-the_row-Value-0 V.shape-the_row-Value-1 V.hidden-the_row-Value-1 V.shown-the_row-Value-1 E.shape-the_row-TypedExpr-1 E.hidden-the_row-TypedExpr-1 E.shape-the_row-TypedPlace-0 E.hidden-the_row-TypedPlace-0 S.shape-the_row-TypedStmt-0 S.hidden-the_row-TypedStmt-0 S.shape-the_row-TypedStmt-1 S.hidden-the_row-TypedStmt-1 denote.Hole.Carrier.hidden Rattle.src_tree.specs.declared.value.Value.TheViews.out-Value denote.Hole.Carrier.out denote.Hole.Carrier.shown
runs_integers = refl

abbrev answers : List ℤ → Message
answers args = record { source = pos 1; kind = pos 0; arg = args }

-- one answer to the sender
abbrev answered : List ℤ → ℕ → Seen
answered args used = sends ((pos 100, answers args) ∷ []) used

abbrev int_local : ℕ → TypedExpr
int_local x = expr 0 (Local x)

abbrev plus_one : TypedExpr → TypedExpr
plus_one e = two 0 B.Add e (num (pos 1))

-- for (x = 0; x < count; x = x + 1) body
abbrev count_up : ℕ → ℤ → TypedStmt → TypedStmt
count_up x count body =
    For (set_local x (num (pos 0)) ∷ []) (Some (two 0 B.Less (int_local x) (num count))) (set_local x (plus_one (int_local x)) ∷ []) body

abbrev n : TypedPlace
n = global 0 2

-- int n; .. int i; for (i = 0; i < 10; i = i + 1) { n = n + 1; } m_out.arg[0] = n;
abbrev loop : Program
loop =
    program (0 ∷ []) (0 ∷ []) (Declare 0 None ∷ count_up 0 (pos 10) (Block (set n (plus_one (value n)) ∷ [])) ∷ set (out_arg (pos 0)) (value n) ∷ reply ∷ []) []

-- for (i = 0; i < 5; i = i + 1) { if (i == 1) continue; if (i == 3) break; n = n + i; }
abbrev jumps : Program
jumps =
    program (0 ∷ []) (0 ∷ [])
    (count_up 0 (pos 5)
    (Block
    (If (two 0 B.Equal (int_local 0) (num (pos 1))) Continue []
    ∷ If (two 0 B.Equal (int_local 0) (num (pos 3))) Break []
    ∷ set n (two 0 B.Add (value n) (int_local 0))
    ∷ []))
    ∷ set (out_arg (pos 0)) (value n)
    ∷ reply
    ∷ []) []

-- for (i = 0; i < 2; i = i + 1) { int x; m_out.arg[i] = x; x = 7; } m_out.arg[2] = x;
abbrev fresh_local : Program
fresh_local =
    program [] (0 ∷ 0 ∷ [])
    (count_up 0 (pos 2)
    (Block
    (Declare 1 None
    ∷ set (at 0 (Element (at 2 (Field (global 1 1) 2)) (expr 8 (Convert (int_local 0))))) (int_local 1)
    ∷ set_local 1 (num (pos 7))
    ∷ []))
    ∷ set (out_arg (pos 2)) (int_local 1)
    ∷ reply
    ∷ []) []

-- int factorial(int k) { int r; if (k < 2) return 1; r = factorial(k - 1); return k * r; }
abbrev factorial : Function
factorial = record {
  name = 2;
  params = 0 ∷ [];
  ret = Some 0;
  locals = 0 ∷ [];
  body =
      Declare 1 None
      ∷ If (two 0 B.Less (int_local 0) (num (pos 2))) (Return (Some (R.Value (num (pos 1))))) []
      ∷ SetLocal 1 (R.Call (record { callee = C.Function 2; args = two 0 B.Subtract (int_local 0) (num (pos 1)) ∷ [] }) 0)
      ∷ Return (Some (R.Value (two 0 B.Multiply (int_local 0) (int_local 1))))
      ∷ [];
}

-- int nothing(void) { }
abbrev nothing : Function
nothing = record { name = 2; params = []; ret = Some 0; locals = []; body = [] }

abbrev calls : Program
calls =
    program [] []
    (Assign (out_arg (pos 0)) (R.Call (record { callee = C.Function 2; args = num (pos 5) ∷ [] }) 0)
    ∷ set (out_arg (pos 1)) (num (pos 9))
    ∷ Assign (out_arg (pos 1)) (R.Call (record { callee = C.Function 3; args = [] }) 0)
    ∷ reply
    ∷ [])
    (factorial ∷ nothing ∷ [])

-- union val u; int x; x = 4; u.p = &x; m_out.arg[0] = *u.p; u.i = 3; m_out.arg[1] = u.i;
abbrev member : ℕ → ℕ → TypedPlace
member t k = at t (Member (global 13 2) k)

abbrev union : Program
union =
    program (13 ∷ 0 ∷ []) []
    (set (global 0 3) (num (pos 4))
    ∷ set (member 10 1) (expr 10 (AddressOf (global 0 3)))
    ∷ set (out_arg (pos 0)) (value (at 0 (Deref (value (member 10 1)))))
    ∷ set (member 0 0) (num (pos 3))
    ∷ set (out_arg (pos 1)) (value (member 0 0))
    ∷ reply
    ∷ []) []

-- struct node tab[8]; struct node *p;
abbrev tab : TypedPlace
tab = global 16 2

abbrev p : TypedPlace
p = global 12 3

abbrev first : TypedExpr
first = expr 12 (Decay tab)

abbrev node : ℤ → TypedPlace
node i = at 11 (Element tab (long i))

abbrev number : TypedPlace → TypedPlace
number q = at 0 (Field q 0)

-- p = &tab[8]; p - tab; tab < p; p == &tab[8]; tab[1].n = 5; p = &tab[1]; tab[0] = *p; p->n = 6; tab[0].n; p[0].n; p - 1 == tab
abbrev array : Program
array =
    program (16 ∷ 12 ∷ []) []
    (set p (expr 12 (AddressOf (node (pos 8))))
    ∷ set (out_arg (pos 0)) (two 0 B.PointerDifference (value p) first)
    ∷ set (out_arg (pos 1)) (two 0 B.Less first (value p))
    ∷ set (out_arg (pos 2)) (two 0 B.Equal (value p) (expr 12 (AddressOf (node (pos 8)))))
    ∷ set (number (node (pos 1))) (num (pos 5))
    ∷ set p (expr 12 (AddressOf (node (pos 1))))
    ∷ set (node (pos 0)) (value (at 11 (Deref (value p))))
    ∷ set (number (at 11 (Arrow (value p)))) (num (pos 6))
    ∷ set (out_arg (pos 3)) (value (number (node (pos 0))))
    ∷ set (out_arg (pos 4)) (value (number (at 11 (Item (value p) (long (pos 0))))))
    ∷ set (out_arg (pos 5)) (two 0 B.Equal (two 12 B.PointerSubtract (value p) (long (pos 1))) first)
    ∷ reply
    ∷ []) []

-- struct node *a; struct node *b; each new and with the same next, which a changes and b reads
abbrev new_node : TypedPlace → TypedStmt
new_node to = Assign to (R.Call (record { callee = C.Malloc 1; args = [] }) 12)

abbrev next : TypedPlace → TypedPlace
next q = at 12 (Field (at 11 (Arrow (value q))) 1)

abbrev shared : Program
shared =
    program (12 ∷ 12 ∷ []) []
    (new_node (global 12 2)
    ∷ new_node (global 12 3)
    ∷ new_node (next (global 12 2))
    ∷ set (next (global 12 3)) (value (next (global 12 2)))
    ∷ set (number (at 11 (Arrow (value (next (global 12 2)))))) (num (pos 9))
    ∷ set (out_arg (pos 0)) (value (number (at 11 (Arrow (value (next (global 12 3)))))))
    ∷ reply
    ∷ []) []

-- int *p; without a dereference: p = &*p; p = &p[0]; p = p + 0; m_out.arg[0] = p == 0; m_out.arg[1] = p - p; m_out.arg[2] = p < p;
abbrev null : TypedPlace
null = global 10 2

abbrev nulls : Program
nulls =
    program (10 ∷ []) []
    (set null (expr 10 (AddressOf (at 0 (Deref (value null)))))
    ∷ set null (expr 10 (AddressOf (at 0 (Item (value null) (long (pos 0))))))
    ∷ set null (two 10 B.PointerAdd (value null) (long (pos 0)))
    ∷ set (out_arg (pos 0)) (two 0 B.Equal (value null) (expr 10 (Convert (num (pos 0)))))
    ∷ set (out_arg (pos 1)) (two 0 B.PointerDifference (value null) (value null))
    ∷ set (out_arg (pos 2)) (two 0 B.Less (value null) (value null))
    ∷ reply
    ∷ []) []

-- for (i = 0; i < 17; i = i + 1) { m_out.arg[0] = send(2); m_out.arg[1] = send(1000); }
abbrev many_sends : Program
many_sends =
    program (0 ∷ 0 ∷ []) (0 ∷ [])
    (count_up 0 (pos 17)
    (Block
    (Assign n (R.Call (record { callee = C.Send; args = num (pos 2) ∷ [] }) 0)
    ∷ Assign (global 0 3) (R.Call (record { callee = C.Send; args = num (pos 1000) ∷ [] }) 0)
    ∷ []))
    ∷ Call (record { callee = C.Panic; args = two 0 B.Add (two 0 B.Multiply (value n) (num (pos 10))) (value (global 0 3)) ∷ [] })
    ∷ []) []

runs :
    (seen loop ≡ answered (pos 10 ∷ pos 0 ∷ pos 0 ∷ pos 0 ∷ pos 0 ∷ pos 0 ∷ []) 11)
    × (seen jumps ≡ answered (pos 2 ∷ pos 0 ∷ pos 0 ∷ pos 0 ∷ pos 0 ∷ pos 0 ∷ []) 4)
    × (seen fresh_local ≡ answered (pos 0 ∷ pos 0 ∷ pos 7 ∷ pos 0 ∷ pos 0 ∷ pos 0 ∷ []) 3)
    × (seen calls ≡ answered (pos 120 ∷ pos 0 ∷ pos 0 ∷ pos 0 ∷ pos 0 ∷ pos 0 ∷ []) 7)
    × (seen union ≡ answered (pos 4 ∷ pos 3 ∷ pos 0 ∷ pos 0 ∷ pos 0 ∷ pos 0 ∷ []) 1)
    × (seen array ≡ answered (pos 8 ∷ pos 1 ∷ pos 1 ∷ pos 5 ∷ pos 6 ∷ pos 1 ∷ []) 1)
    × (seen shared ≡ answered (pos 9 ∷ pos 0 ∷ pos 0 ∷ pos 0 ∷ pos 0 ∷ pos 0 ∷ []) 1)
    × (seen nulls ≡ answered (pos 1 ∷ pos 0 ∷ pos 0 ∷ pos 0 ∷ pos 0 ∷ pos 0 ∷ []) 1)
    × (seen many_sends ≡ trap (X.Panic (negsuc 11)) 18)
unfolding V.shape-the_row-Value-0 V.hidden-the_row-Value-0 V.shown-the_row-Value-0 V.shape-the_row-Value-1 V.hidden-the_row-Value-1 V.shown-the_row-Value-1 E.shape-the_row-TypedExpr-1 E.hidden-the_row-TypedExpr-1 E.shape-the_row-TypedPlace-0 E.hidden-the_row-TypedPlace-0 S.shape-the_row-TypedStmt-0 S.hidden-the_row-TypedStmt-0 S.shape-the_row-TypedStmt-1 S.hidden-the_row-TypedStmt-1 denote.Hole.Carrier.hidden Rattle.src_tree.specs.declared.value.Value.TheViews.out-Value denote.Hole.Carrier.out denote.Hole.Carrier.shown
runs = (refl, refl, refl, refl, refl, refl, refl, refl, refl)

-- a declaration 1, the loop 18, the assignment 6, the call 4
weight_of_loop : option_map weight (slice_get loop.functions 1) ≡ Some 29
unfolding V.shape-the_row-Value-0 V.hidden-the_row-Value-0 V.shown-the_row-Value-0 V.shape-the_row-Value-1 V.hidden-the_row-Value-1 V.shown-the_row-Value-1 E.shape-the_row-TypedExpr-1 E.hidden-the_row-TypedExpr-1 E.shape-the_row-TypedPlace-0 E.hidden-the_row-TypedPlace-0 S.shape-the_row-TypedStmt-0 S.hidden-the_row-TypedStmt-0 S.shape-the_row-TypedStmt-1 S.hidden-the_row-TypedStmt-1 denote.Hole.Carrier.hidden Rattle.src_tree.specs.declared.value.Value.TheViews.out-Value denote.Hole.Carrier.out denote.Hole.Carrier.shown
weight_of_loop = refl

-- objects without their elements
abbrev bare : O'.ObjectKind → ℕ → ℕ → Object
bare kind elem count = record { kind = kind; elem = elem; count = count; elements = Some [] }

abbrev globals : List Object
globals = bare O.Global 1 1 ∷ bare O.Global 1 1 ∷ bare O.Global 12 1 ∷ []

abbrev nodes : Store
nodes = record { objects = globals ++ (bare (O.Heap 1) 11 1 ∷ bare (O.Heap 1) 11 1 ∷ bare (O.Heap 1) 11 1 ∷ bare (O.Heap 1) 11 1 ∷ []) }

addresses_of_nodes : addresses parts nodes ≡ 4096 ∷ 4144 ∷ 4192 ∷ 4224 ∷ 4256 ∷ 4288 ∷ 4320 ∷ []
addresses_of_nodes = refl

abbrev full : Store
full = record { objects = globals ++ bare (O.Heap 2) 3 4194303 ∷ [] }

-- the heap has room for 4,194,304 bytes
room : (has_room parts full (bare (O.Heap 2) 3 1) ≡ true) × (has_room parts full (bare (O.Heap 2) 3 2) ≡ false)
room = (refl, refl)
