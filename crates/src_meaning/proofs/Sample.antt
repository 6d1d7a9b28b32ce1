-- A table of types and short words for expressions, of which the worked examples are made.
use Rattle.std.proofs.Common.{ℕ, ℤ, pos, List, [], ◌∷◌, None}
use Rattle.std.specs.Prelude.{codes}
use Rattle.c_types.specs.declared.parts.Parts.{Parts}
use Rattle.c_types.specs.declared.parts.FieldDef.{FieldDef}
use Rattle.c_types.specs.declared.parts.Ty.TheVariants as T
use Rattle.c_types.specs.declared.parts.IntKind.TheVariants as K
use Rattle.src_tree.specs.declared.expr.TypedExpr.{TypedExpr}
use Rattle.src_tree.specs.declared.expr.TypedPlace.{TypedPlace}
use Rattle.src_tree.specs.declared.expr.ExprKind.{ExprKind, Number, Local, Load, Convert, Binary}
use Rattle.src_tree.specs.declared.expr.BinaryOperator.{BinaryOperator}
use Rattle.src_tree.specs.declared.expr.PlaceKind.{PlaceKind, Global, Element, Field}
use Rattle.src_tree.specs.declared.stmt.Callee.TheVariants as C
use Rattle.src_tree.specs.declared.stmt.Rhs.TheVariants as R
use Rattle.src_tree.specs.declared.stmt.TypedStmt.{TypedStmt, Assign, SetLocal, Call}
use Rattle.src_tree.specs.declared.program.Init.TheVariants as I
use Rattle.src_tree.specs.declared.program.Global as G
use Rattle.src_tree.specs.declared.program.Function.{Function}
use Rattle.src_tree.specs.declared.program.Program.{Program}
use Rattle.lu_base.specs.declared.message.Message.{Message}
use Rattle.lu_base.specs.declared.trap.Trap.{Trap}
use Rattle.lu_base.specs.declared.world.World.{World}
use Rattle.lu_base.specs.Sending.{Sent}
use Rattle.src_meaning.specs.Sending.{zero_message}
use Rattle.src_meaning.specs.Delivery.{Delivered, Ends, Dies, deliver}
use Rattle.src_meaning.specs.Initial.{initial_store}

-- struct message, and struct node { int n; struct node *next; }
abbrev pub message_fields : List FieldDef
message_fields = record { name = 0; ty = 0 } ∷ record { name = 0; ty = 0 } ∷ record { name = 0; ty = 2 } ∷ []

abbrev pub node_fields : List FieldDef
node_fields = record { name = 0; ty = 0 } ∷ record { name = 0; ty = 12 } ∷ []

-- union val { int i; int *p; }
abbrev pub members : List FieldDef
members = record { name = 0; ty = 0 } ∷ record { name = 0; ty = 10 } ∷ []

abbrev pub parts : Parts
parts = record {
  pointer = 4;
  types =
      T.Int K.Int
      ∷ T.Struct 0
      ∷ T.Array 0 6
      ∷ T.Int K.Char
      ∷ T.Int K.UChar
      ∷ T.Int K.Short
      ∷ T.Int K.UShort
      ∷ T.Int K.UInt
      ∷ T.Int K.LongLong
      ∷ T.Int K.ULongLong
      ∷ T.Pointer 0
      ∷ T.Struct 1
      ∷ T.Pointer 11
      ∷ T.Union 0
      ∷ T.VoidPointer
      ∷ T.Function 0
      ∷ T.Array 11 8
      ∷ T.Array 3 4
      ∷ [];
  structs = record { tag = 0; fields = message_fields } ∷ record { tag = 1; fields = node_fields } ∷ [];
  unions = record { tag = 2; fields = members } ∷ [];
  signatures = record { result = None; params = [] } ∷ [];
}

abbrev pub expr : ℕ → ExprKind → TypedExpr
expr t kind = record { ty = t; kind = kind }

abbrev pub at : ℕ → PlaceKind → TypedPlace
at t kind = record { ty = t; kind = kind }

abbrev pub num : ℤ → TypedExpr
num z = expr 0 (Number z)

abbrev pub long : ℤ → TypedExpr
long z = expr 8 (Convert (num z))

abbrev pub local : ℕ → TypedExpr
local x = expr 0 (Local x)

abbrev pub two : ℕ → BinaryOperator → TypedExpr → TypedExpr → TypedExpr
two t op a b = expr t (Binary op a b)

abbrev pub value : TypedPlace → TypedExpr
value q = expr q.ty (Load q)

abbrev pub global : ℕ → ℕ → TypedPlace
global t g = at t (Global g)

abbrev pub out_type : TypedPlace
out_type = at 0 (Field (global 1 1) 1)

abbrev pub out_arg : ℤ → TypedPlace
out_arg i = at 0 (Element (at 2 (Field (global 1 1) 2)) (long i))

abbrev pub in_source : TypedExpr
in_source = value (at 0 (Field (global 1 0) 0))

abbrev pub set : TypedPlace → TypedExpr → TypedStmt
set q e = Assign q (R.Value e)

abbrev pub set_local : ℕ → TypedExpr → TypedStmt
set_local x e = SetLocal x (R.Value e)

abbrev pub reply : TypedStmt
reply = Call (record { callee = C.Send; args = in_source ∷ [] })

abbrev pub init_name : List ℕ
init_name = codes "init"

abbrev pub on_message_name : List ℕ
on_message_name = codes "on_message"

abbrev pub function : ℕ → List ℕ → List TypedStmt → Function
function name locals body = record { name = name; params = []; ret = None; locals = locals; body = body }

abbrev pub zero_global : ℕ → G.Global
zero_global t = record { name = 2; ty = t; init = I.Zero }

-- globals after `m_in` and `m_out`, the locals and the body of `on_message`, and further functions
abbrev pub program : List ℕ → List ℕ → List TypedStmt → List Function → Program
program globals locals body more = record {
  names = init_name ∷ on_message_name ∷ [] ∷ [];
  types = parts;
  globals = zero_global 1 ∷ zero_global 1 ∷ Rattle.std.specs.Prelude.map zero_global globals;
  functions = function 0 [] [] ∷ function 1 locals body ∷ more;
  sites = record { function = 1; ordinal = 0; elem = 0 } ∷ record { function = 1; ordinal = 1; elem = 11 } ∷ record { function = 1; ordinal = 2; elem = 3 } ∷ [];
}

abbrev pub world : World
world = record { own = pos 1; servers = pos 1 ∷ pos 2 ∷ [] }

abbrev pub client : Message
client = record zero_message { source = pos 100 }

-- what a delivery to the initial store gives: the trap or the sends, and the ticks
pub data Seen : Type 0 where
  sends : List Sent → ℕ → Seen
  trap : Trap → ℕ → Seen

abbrev pub seen_of : Delivered → Seen
seen_of (Ends store out n) = sends out n
seen_of (Dies t n) = trap t n

abbrev pub seen : Program → Seen
seen p = seen_of (deliver p world (initial_store p) client)
