-- Initialisers of globals as the rules ask for them, with their depth.
use Rattle.std.specs.Prelude.{ℕ, ◌+◌, ◌-◌, if◌then◌else◌, slice_get, option_map, Bool, true, false, ◌&&◌, nat_eq, nat_lt, nat_le, is_some, List, [], ◌∷◌, length, Option, Some, None}
use Rattle.std.specs.Option.{option_map_or}
use Rattle.c_types.specs.Tables.{fields_of}
use Rattle.c_types.specs.declared.parts.Ty.{Ty}
use Rattle.c_types.specs.declared.parts.Ty.TheVariants as T
use Rattle.c_types.specs.declared.parts.IntKind.{IntKind}
use Rattle.c_types.specs.declared.parts.IntKind.TheVariants as K
use Rattle.c_types.specs.declared.parts.Parts.{Parts}
use Rattle.src_tree.specs.declared.expr.TypedExpr.{TypedExpr}
use Rattle.src_tree.specs.declared.expr.ExprKind.{ExprKind, AddressOf', Decay'}
use Rattle.src_tree.specs.declared.expr.PlaceKind.{PlaceKind, Global, Row_of-TypedPlace, end_of-TypedPlace, more_of-TypedPlace}
use Rattle.src_tree.specs.declared.program.Init.{Init, Zero, One, Text, List', Row_of-Init, end_of-Init, more_of-Init}
use Rattle.src_tree.specs.declared.program.Program.{Program}
use Rattle.src_meaning.specs.Initial.{initial_scope}
use Rattle.src_meaning.specs.Constant.{constant_value, if_ok}
use Rattle.src_meaning.specs.ValidTypes.{ty, is_scalar}
use Rattle.src_meaning.specs.ValidExpression.{Declarations, is_expr}
use Rattle.src_meaning.specs.ValidStatement.{has_depth}

-- what an initialiser or a filter may name
abbrev pub globals_alone : Program → Declarations
globals_alone p = record { program = p; params = []; locals = [] }

abbrev pub place_is_before : ℕ → PlaceKind → Bool
place_is_before g (Global h) = nat_lt h g
place_is_before g _ = true

abbrev pub row_is_before : {m : _} → ℕ → Row_of-TypedPlace m → Bool
row_is_before g end_of-TypedPlace = true
row_is_before g (more_of-TypedPlace t kind rest) = place_is_before g kind

-- an address is that of a global before g
abbrev pub is_before : ℕ → ExprKind → Bool
is_before g (AddressOf' m e) = row_is_before g e
is_before g (Decay' m e) = row_is_before g e
is_before g _ = true

-- an expression that names globals and functions alone
abbrev pub is_typed : Program → TypedExpr → Bool
is_typed p e = is_expr (globals_alone p) e.ty e.kind

-- a constant that doesn't trap
abbrev pub has_value : Program → TypedExpr → Bool
has_value p e = is_some (if_ok (constant_value (initial_scope p) e))

-- a constant of the scalar type t
abbrev pub is_constant_of : Program → ℕ → ℕ → TypedExpr → Bool
is_constant_of p g t e =
    is_typed p e && (nat_eq e.ty t && (is_scalar (ty p.types t) && (has_value p e && is_before g e.kind)))

abbrev pub is_character : Option Ty → Bool
is_character (Some (T.Int K.Char)) = true
is_character (Some (T.Int K.UChar)) = true
is_character _ = false

-- an array of chars that is long enough
abbrev pub takes_bytes : Parts → Option Ty → ℕ → Bool
takes_bytes p (Some (T.Array u n)) count = is_character (ty p u) && nat_le count n
takes_bytes p _ count = false

abbrev pub is_not_empty : {m : _} → Row_of-Init m → Bool
is_not_empty end_of-Init = false
is_not_empty (more_of-Init x rest) = true

abbrev pub item_type_in : Parts → Option Ty → ℕ → Option ℕ
item_type_in p (Some (T.Array u n)) k = if nat_lt k n then Some u else None
item_type_in p (Some (T.Struct s)) k = option_map (λ f. f.ty) (slice_get (fields_of p s) k)
item_type_in p _ k = None

-- the type of element k of an array or of field k of a struct
abbrev pub item_type : Parts → ℕ → ℕ → Option ℕ
item_type p t k = item_type_in p (ty p t) k

abbrev mutual
  -- an initialiser of the type t for global g with this room
  pub is_initialiser : Program → ℕ → ℕ → ℕ → Init → Bool
  is_initialiser p g room t Zero = false
  is_initialiser p g room t (One e) = is_constant_of p g t e && has_depth room e
  is_initialiser p g room t (Text bytes) = nat_lt 0 room && takes_bytes p.types (ty p.types t) (length bytes)
  is_initialiser p g room t (List' m inits) = nat_lt 0 room && (is_not_empty inits && are_items p g (room - 1) t 0 inits)

  -- the items of the type t from number k on, between braces, at most as many as it has
  pub are_items : {m : _} → Program → ℕ → ℕ → ℕ → ℕ → Row_of-Init m → Bool
  are_items p g room t k end_of-Init = true
  are_items p g room t k (more_of-Init x rest) =
      option_map_or (λ u. is_initialiser p g room u x) (item_type p.types t k) false && are_items p g room t (k + 1) rest

-- item k of the type t
abbrev pub is_item : Program → ℕ → ℕ → ℕ → ℕ → Init → Bool
is_item p g room t k x = option_map_or (λ u. is_initialiser p g room u x) (item_type p.types t k) false

-- the items as a list
abbrev pub are_listed : Program → ℕ → ℕ → ℕ → ℕ → List Init → Bool
are_listed p g room t k [] = true
are_listed p g room t k (x ∷ xs) = is_item p g room t k x && are_listed p g room t (k + 1) xs

abbrev pub is_no_empty_list : List Init → Bool
is_no_empty_list [] = false
is_no_empty_list (x ∷ xs) = true

-- the room of a global's initialiser
abbrev pub initial_room : ℕ
initial_room = 64

-- a global with an initialiser or without one
abbrev pub is_start : Program → ℕ → ℕ → Init → Bool
is_start p g t Zero = true
is_start p g t init = is_initialiser p g initial_room t init
