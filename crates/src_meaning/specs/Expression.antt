-- What an expression and a place give in a store, by recursion on the text, evaluated from left to right.
use Rattle.std.specs.Prelude.{ℕ, ◌+◌, ◌*◌, Bool, true, false, nat_eq, nat_lt, if◌then◌else◌, ℤ, pos, negsuc, List, [], ◌∷◌, Option, Some, Ok, Err, slice_get}
use Rattle.lu_spec.specs.Then.{then_do}
use Rattle.lu_base.specs.declared.trap.Trap.TheVariants.{BadIndex, UnionMember, BadCode}
use Rattle.c_types.specs.declared.parts.Parts.{Parts}
use Rattle.c_types.specs.declared.parts.Ty.{Ty}
use Rattle.c_types.specs.declared.parts.Ty.TheVariants as T
use Rattle.c_types.specs.declared.path.Step.TheVariants.{Index, Field, Member}
use Rattle.c_types.specs.Layout.{size_of}
use Rattle.c_types.specs.Numbering.{is_array}
use Rattle.src_tree.specs.declared.value.Value.{Value, Int, Function, out-Value}
use Rattle.src_tree.specs.declared.value.Value.TheOpen as V
use Rattle.src_tree.specs.declared.value.Store.{Store}
use Rattle.src_tree.specs.declared.expr.LogicalOperator.{LogicalOperator}
use Rattle.src_tree.specs.declared.expr.LogicalOperator.TheVariants.{And, Or}
use Rattle.src_tree.specs.declared.expr.BinaryOperator.TheVariants.{PointerAdd}
use Rattle.src_tree.specs.declared.expr.ExprKind.{ExprKind, Number, SizeOf, Local, Function as Function_name, Load', AddressOf', Decay', Cast', Convert', Unary', Binary', Logical', Conditional', Row_of-TypedExpr, end_of-TypedExpr, more_of-TypedExpr}
use Rattle.src_tree.specs.declared.expr.PlaceKind.{PlaceKind, Global, Deref', Arrow', Item', Element', Field', Member', Row_of-TypedPlace, end_of-TypedPlace, more_of-TypedPlace}
use Rattle.src_meaning.specs.Paths.{Layer}
use Rattle.src_meaning.specs.Objects.{Gives, or_trap, Place, place, inside, value_at, target, address_at}
use Rattle.src_meaning.specs.Operators.{with_int, is_true, converted, flagged, unary, binary}

-- what expressions read: the program's types, the store, and the parameters and locals of the function
pub record Scope : Type 0 where
  pub types : Parts
  pub store : Store
  pub locals : List Value

abbrev pub with_store : Scope → Store → Scope
with_store at store = record { types = at.types; store = store; locals = at.locals }

-- the place of a global of type t: of an array the whole, else the only element
abbrev pub global_place : Parts → ℕ → ℕ → Place
global_place p t g = if is_array (slice_get p.types t) then place g [] else place g (Index 0 ∷ [])

abbrev pub length_in : Option Ty → ℕ
length_in (Some (T.Array t n)) = n
length_in _ = 0

-- the number of elements of an array type
abbrev pub length_of : Parts → ℕ → ℕ
length_of p t = length_in (slice_get p.types t)

abbrev pub index_within : ℕ → ℤ → Gives ℕ
index_within n (pos i) = if nat_lt i n then Ok i else Err BadIndex
index_within n (negsuc i) = Err BadIndex

-- an index below n
abbrev pub index_below : ℕ → Value → Gives ℕ
index_below n v = with_int v (index_within n)

abbrev pub is_active : ℕ → Layer → Bool
is_active k (V.Union active body) = nat_eq k active
is_active k _ = false

-- the member of the union at a place, if it is active
abbrev pub active_member : Store → Place → ℕ → Gives Place
active_member store at k =
    then_do (value_at store at) (λ v. if is_active k (out-Value v) then Ok (inside at (Member k)) else Err UnionMember)

-- the operand on the right counts only where the left one doesn't decide
abbrev pub logical : LogicalOperator → Gives Bool → Gives Bool → Gives Bool
logical And a b = then_do a (λ x. if x then b else Ok false)
logical Or a b = then_do a (λ x. if x then Ok true else b)

abbrev pub chosen : Gives Bool → Gives Value → Gives Value → Gives Value
chosen c a b = then_do c (λ x. if x then a else b)

abbrev pub expr_type : {m : _} → Row_of-TypedExpr m → ℕ
expr_type end_of-TypedExpr = 0
expr_type (more_of-TypedExpr ty kind rest) = ty

abbrev pub place_type : {m : _} → Row_of-TypedPlace m → ℕ
place_type end_of-TypedPlace = 0
place_type (more_of-TypedPlace ty kind rest) = ty

-- `p + i`, of a pointer of type t
abbrev pub pointer_plus : Scope → ℕ → Gives Value → Gives Value → Gives Value
pointer_plus at t p i = then_do p (λ v. then_do i (λ w. binary at.types at.store t t PointerAdd v w))

abbrev mutual
  -- the value of an expression of type t
  pub value_of : Scope → ℕ → ExprKind → Gives Value
  value_of at t (Number z) = Ok (Int z)
  value_of at t (SizeOf u) = Ok (Int (pos (size_of at.types u)))
  value_of at t (Local x) = or_trap BadCode (slice_get at.locals x)
  value_of at t (Function_name f) = Ok (Function f)
  value_of at t (Load' m e) = then_do (place_at at e) (value_at at.store)
  value_of at t (AddressOf' m e) = address_of at e
  value_of at t (Decay' m e) = then_do (place_at at e) (λ q. address_at at.types at.store q 0)
  value_of at t (Cast' m e) = then_do (value_at_row at e) (converted at.types t)
  value_of at t (Convert' m e) = then_do (value_at_row at e) (converted at.types t)
  value_of at t (Unary' op m e) = then_do (value_at_row at e) (unary at.types t op)
  value_of at t (Binary' op m a n b) =
      then_do (value_at_row at a) (λ v. then_do (value_at_row at b) (λ w. binary at.types at.store t (expr_type a) op v w))
  value_of at t (Logical' op m a n b) =
      flagged (logical op (then_do (value_at_row at a) is_true) (then_do (value_at_row at b) is_true))
  value_of at t (Conditional' m c n a k b) =
      chosen (then_do (value_at_row at c) is_true) (value_at_row at a) (value_at_row at b)

  pub value_at_row : {m : _} → Scope → Row_of-TypedExpr m → Gives Value
  value_at_row at end_of-TypedExpr = Err BadCode
  value_at_row at (more_of-TypedExpr ty kind rest) = value_of at ty kind

  -- a place of type t that is read
  pub place_of : Scope → ℕ → PlaceKind → Gives Place
  place_of at t (Global g) = Ok (global_place at.types t g)
  place_of at t (Deref' m e) = then_do (value_at_row at e) (target at.types at.store t)
  place_of at t (Arrow' m e) = then_do (value_at_row at e) (target at.types at.store t)
  place_of at t (Item' m p n i) =
      then_do (pointer_plus at (expr_type p) (value_at_row at p) (value_at_row at i)) (target at.types at.store t)
  place_of at t (Element' m a n i) =
      then_do (place_at at a) (λ q. then_do (value_at_row at i) (λ v. then_do (index_below (length_of at.types (place_type a)) v) (λ k. Ok (inside q (Index k)))))
  place_of at t (Field' m e k) = then_do (place_at at e) (λ q. Ok (inside q (Field k)))
  place_of at t (Member' m e k) = then_do (place_at at e) (λ q. active_member at.store q k)

  pub place_at : {m : _} → Scope → Row_of-TypedPlace m → Gives Place
  place_at at end_of-TypedPlace = Err BadCode
  place_at at (more_of-TypedPlace ty kind rest) = place_of at ty kind

  -- the address of a place: `&*e` is e, `&p[i]` is `p + i`, and `&a[n]` the end of an array of n elements
  pub address_of : {m : _} → Scope → Row_of-TypedPlace m → Gives Value
  address_of at end_of-TypedPlace = Err BadCode
  address_of at (more_of-TypedPlace t (Deref' m e) rest) = value_at_row at e
  address_of at (more_of-TypedPlace t (Item' m p n i) rest) =
      pointer_plus at (expr_type p) (value_at_row at p) (value_at_row at i)
  address_of at (more_of-TypedPlace t (Element' m a n i) rest) =
      then_do (place_at at a) (λ q. then_do (value_at_row at i) (λ v. then_do (index_below (length_of at.types (place_type a) + 1) v) (λ k. address_at at.types at.store q (k * size_of at.types t))))
  address_of at (more_of-TypedPlace t (Global g) rest) = address_at at.types at.store (global_place at.types t g) 0
  address_of at (more_of-TypedPlace t (Arrow' m e) rest) =
      then_do (then_do (value_at_row at e) (target at.types at.store t)) (λ q. address_at at.types at.store q 0)
  address_of at (more_of-TypedPlace t (Field' m e k) rest) =
      then_do (place_at at e) (λ q. address_at at.types at.store (inside q (Field k)) 0)
  address_of at (more_of-TypedPlace t (Member' m e k) rest) =
      then_do (then_do (place_at at e) (λ q. active_member at.store q k)) (λ q. address_at at.types at.store q 0)
