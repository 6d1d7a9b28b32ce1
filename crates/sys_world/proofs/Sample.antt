-- Short words for small programs and setups, of which the worked examples are made.
use Rattle.std.proofs.Common.{ℕ, ℤ, pos, Bool, List, [], ◌∷◌, Some, None}
use Rattle.std.specs.Prelude.{codes}
use Rattle.lu_base.specs.declared.world.World.{World}
use Rattle.c_types.specs.declared.parts.Parts.{Parts}
use Rattle.c_types.specs.declared.parts.Ty.TheVariants as T
use Rattle.c_types.specs.declared.parts.IntKind.TheVariants as K
use Rattle.src_tree.specs.declared.expr.TypedExpr.{TypedExpr}
use Rattle.src_tree.specs.declared.expr.TypedPlace.{TypedPlace}
use Rattle.src_tree.specs.declared.expr.ExprKind.{ExprKind, Number, Local, Load, Convert, Binary}
use Rattle.src_tree.specs.declared.expr.BinaryOperator.{BinaryOperator}
use Rattle.src_tree.specs.declared.expr.BinaryOperator.TheVariants as B
use Rattle.src_tree.specs.declared.expr.PlaceKind.{PlaceKind, Global, Element, Field}
use Rattle.src_tree.specs.declared.stmt.Callee.TheVariants as C
use Rattle.src_tree.specs.declared.stmt.Rhs.TheVariants as R
use Rattle.src_tree.specs.declared.stmt.TypedStmt.{TypedStmt, Assign, SetLocal, Call, For, Block}
use Rattle.src_tree.specs.declared.program.Init.TheVariants as I
use Rattle.src_tree.specs.declared.program.Global as G
use Rattle.src_tree.specs.declared.program.Function.{Function}
use Rattle.src_tree.specs.declared.program.Program.{Program}
use Rattle.lu_lines.specs.Line.{Text}
use Rattle.sched_file.specs.declared.event.Event.{Event}
use Rattle.sched_file.specs.declared.event.Event.TheVariants as event
use Rattle.lu_image.specs.Pairing.{pairing_of}
use Rattle.sys_world.specs.Setup.{ServerSetup, UpdateSetup, SystemSetup}

-- int, int[6], struct message, long long
abbrev pub parts : Parts
parts = record {
  pointer = 4;
  types = T.Int K.Int ∷ T.Array 0 6 ∷ T.Struct 0 ∷ T.Int K.LongLong ∷ [];
  structs = record { tag = 0; fields = record { name = 1; ty = 0 } ∷ record { name = 2; ty = 0 } ∷ record { name = 3; ty = 1 } ∷ [] } ∷ [];
  unions = [];
  signatures = record { result = None; params = [] } ∷ [];
}

abbrev pub names : List Text
names =
    codes "message"
    ∷ codes "source"
    ∷ codes "type"
    ∷ codes "arg"
    ∷ codes "m_in"
    ∷ codes "m_out"
    ∷ codes "init"
    ∷ codes "on_message"
    ∷ codes "n"
    ∷ codes "i"
    ∷ []

abbrev pub expr : ℕ → ExprKind → TypedExpr
expr t kind = record { ty = t; kind = kind }

abbrev pub at : ℕ → PlaceKind → TypedPlace
at t kind = record { ty = t; kind = kind }

abbrev pub num : ℤ → TypedExpr
num z = expr 0 (Number z)

abbrev pub value : TypedPlace → TypedExpr
value q = expr q.ty (Load q)

abbrev pub two : BinaryOperator → TypedExpr → TypedExpr → TypedExpr
two op a b = expr 0 (Binary op a b)

abbrev pub arg : ℕ → ℕ → TypedPlace
arg g i = at 0 (Element (at 1 (Field (at 2 (Global g)) 2)) (expr 3 (Convert (num (pos i)))))

abbrev pub kind : ℕ → TypedPlace
kind g = at 0 (Field (at 2 (Global g)) 1)

abbrev pub in_source : TypedExpr
in_source = value (at 0 (Field (at 2 (Global 0)) 0))

abbrev pub set : TypedPlace → TypedExpr → TypedStmt
set q e = Assign q (R.Value e)

-- send(m_in.source);
abbrev pub send_back : TypedStmt
send_back = Call (record { callee = C.Send; args = in_source ∷ [] })

abbrev pub global : ℕ → ℕ → G.Global
global name t = record { name = name; ty = t; init = I.Zero }

abbrev pub function : ℕ → List ℕ → List TypedStmt → Function
function name locals body = record { name = name; params = []; ret = None; locals = locals; body = body }

-- an `init` that does nothing, and the locals and the body of `on_message`; globals from number 2 on
abbrev pub program : List G.Global → List ℕ → List TypedStmt → Program
program globals locals body = record {
  names = names;
  types = parts;
  globals = global 4 2 ∷ global 5 2 ∷ globals;
  functions = function 6 [] [] ∷ function 7 locals body ∷ [];
  sites = [];
}

abbrev pub world : World
world = record { own = pos 1; servers = pos 1 ∷ [] }

abbrev pub server : Text → Program → ServerSetup
server name p = record { name = name; world = world; version = 1; program = p }

abbrev pub one_server : Text → Program → List Event → SystemSetup
one_server name p events = record { servers = server name p ∷ []; updates = []; events = events }

abbrev pub sends : ℕ → ℕ → ℤ → Event
sends client kind argument =
    event.Send (pos client) 0 (record {
      source = pos client;
      kind = pos kind;
      arg = argument ∷ pos 0 ∷ pos 0 ∷ pos 0 ∷ pos 0 ∷ pos 0 ∷ [];
    })

abbrev pub runs : ℕ → Event
runs ticks = event.Run 0 ticks

abbrev pub arguments : ℤ → List ℤ
arguments z = z ∷ pos 0 ∷ pos 0 ∷ pos 0 ∷ pos 0 ∷ pos 0 ∷ []

-- the global n of that type
abbrev pub n_of : ℕ → TypedPlace
n_of t = at t (Global 2)

-- int n; for (i = 0; i < 10; i = i + 1) { n = n + 1; } m_out.type = 1; m_out.arg[0] = n; send(m_in.source);
abbrev pub i : TypedExpr
i = expr 0 (Local 0)

abbrev pub set_i : TypedExpr → TypedStmt
set_i e = SetLocal 0 (R.Value e)

abbrev pub looping : Program
looping =
    program (global 8 0 ∷ []) (0 ∷ [])
    (For (set_i (num (pos 0)) ∷ []) (Some (two B.Less i (num (pos 10)))) (set_i (two B.Add i (num (pos 1))) ∷ []) (Block (set (n_of 0) (two B.Add (value (n_of 0)) (num (pos 1))) ∷ []))
    ∷ set (kind 1) (num (pos 1))
    ∷ set (arg 1 0) (value (n_of 0))
    ∷ send_back
    ∷ [])

-- n = n + m_in.arg[0]; m_out.type = m_in.type + 100; m_out.arg[0] = n; send(m_in.source);
abbrev pub adding : Program
adding =
    program (global 8 0 ∷ []) []
    (set (n_of 0) (two B.Add (value (n_of 0)) (value (arg 0 0)))
    ∷ set (kind 1) (two B.Add (value (kind 0)) (num (pos 100)))
    ∷ set (arg 1 0) (value (n_of 0))
    ∷ send_back
    ∷ [])

-- the same with long long n
abbrev pub wide : TypedExpr → TypedExpr
wide e = expr 3 (Convert e)

abbrev pub adding_wide : Program
adding_wide =
    program (global 8 3 ∷ []) []
    (set (n_of 3) (expr 3 (Binary B.Add (value (n_of 3)) (wide (value (arg 0 0)))))
    ∷ set (kind 1) (two B.Add (value (kind 0)) (num (pos 100)))
    ∷ set (arg 1 0) (expr 0 (Convert (value (n_of 3))))
    ∷ send_back
    ∷ [])

-- an update u of the only server, with the filter 1
abbrev pub update : Program → Program → Bool → UpdateSetup
update old new gated = record {
  name = codes "u";
  server = 0;
  world = world;
  from = 1;
  to = 2;
  old_program = old;
  new_program = new;
  pairing = pairing_of old new [];
  filter = num (pos 1);
  hold = [];
  tries = 100;
  gated = gated;
}

abbrev pub updated : Text → UpdateSetup → List Event → SystemSetup
updated name u events = record { servers = server name u.old_program ∷ []; updates = u ∷ []; events = events }
