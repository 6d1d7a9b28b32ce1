-- Places: what they are made of, and their addresses.
use Rattle.std.specs.Prelude.{ℕ, Bool, true, false, Option, Some, None, Ok, Err, if◌then◌else◌}
use Rattle.std.specs.Option.{option_map}
use Rattle.lu_spec.specs.Then.{then_do}
use Rattle.c_types.specs.declared.parts.IntKind.{IntKind}
use Rattle.c_types.specs.declared.parts.Ty.TheVariants as T
use Rattle.c_types.specs.declared.parts.Parts.{Parts}
use Rattle.c_ast.specs.declared.expr.UnaryOperator.{UnaryOperator}
use Rattle.c_ast.specs.declared.expr.UnaryOperator.TheVariants.{Dereference}
use Rattle.c_ast.specs.Trees.{Expression, Num, Char, Var, Paren, Size, At, Part as Member, Prefix, Convert, Op, Cond}
use Rattle.src_tree.specs.declared.expr.TypedExpr.{TypedExpr}
use Rattle.src_tree.specs.declared.expr.TypedPlace.{TypedPlace}
use Rattle.src_tree.specs.declared.expr.ExprKind as E
use Rattle.src_tree.specs.declared.expr.PlaceKind.{PlaceKind}
use Rattle.src_tree.specs.declared.expr.PlaceKind as P
use Rattle.c_check_scope.specs.declared.members.Part.{Part}
use Rattle.c_check_scope.specs.Kinds.{kind_of, element_of, target_of as target_in}
use Rattle.c_check_scope.specs.Operations.{long_type}
use Rattle.c_check_expr.specs.declared.denoted.Denoted.{Denoted}
use Rattle.c_check_expr.specs.declared.denoted.Denoted.TheVariants as D
use Rattle.c_check_expr.specs.declared.places.Base.{Base}
use Rattle.c_check_expr.specs.declared.places.Base.TheVariants as B
use Rattle.c_check_scope.specs.declared.scope.Scope.{Scope}
use Rattle.c_check_scope.specs.declared.scope.Meaning.{Meaning}
use Rattle.c_check_scope.specs.declared.scope.Meaning.TheVariants.{Global, Local}
use Rattle.c_check_scope.specs.declared.rule.Rule.TheVariants.{NotPlace, NoAddress, NoField, NoPointer, Operands}
use Rattle.c_check_scope.specs.Rules.{Rules, Checked, both, or_rule, only, union}
use Rattle.c_check_scope.specs.Names.{Text, meaning_of, part_named}
use Rattle.c_check_expr.specs.Denoted.{type_at, number, value, value_of, valued, converted}

abbrev pub place : ℕ → PlaceKind → TypedPlace
place ty kind = record { ty = ty; kind = kind }

abbrev pub placed : ℕ → PlaceKind → Bool → Denoted
placed ty kind inside = D.Place (place ty kind) inside

-- the type to which a pointer to an object points
unfoldable pub target_of : Parts → TypedExpr → Option ℕ
target_of p e = target_in (type_at p e.ty)

-- ---- `base [ index ]`

unfoldable pub pointer_base : Parts → Checked TypedExpr → Checked Base
pointer_base p e = then_do e (λ v. or_rule NoPointer (option_map (B.Pointer v) (target_of p v)))

abbrev pub place_base : Parts → TypedPlace → Bool → Option ℕ → Checked Base
place_base p q inside None = pointer_base p (value_of p (D.Place q inside))
place_base p q inside (Some t) = Ok (B.Array q inside t)

-- an array place stays a place; else a pointer to an object
unfoldable pub based : Parts → Checked Denoted → Checked Base
based p (Ok (D.Place q inside)) = place_base p q inside (element_of (type_at p q.ty))
based p base = pointer_base p (valued p base)

abbrev pub index_in : Parts → TypedExpr → Option IntKind → Checked TypedExpr
index_in p e None = Err (only Operands)
index_in p e (Some kind) = Ok (converted (number p long_type) e)

-- an index is an integer, as a long long
unfoldable pub index_of : Parts → Checked TypedExpr → Checked TypedExpr
index_of p index = then_do index (λ e. index_in p e (kind_of (type_at p e.ty)))

-- an element of an array lies inside a union where the array does
unfoldable pub item : Base → TypedExpr → Denoted
item (B.Array q inside t) i = placed t (P.Element q i) inside
item (B.Pointer e t) i = placed t (P.Item e i) false

unfoldable pub element : Parts → Checked Denoted → Checked Denoted → Checked Denoted
element p base index =
    then_do (both (based p base) (index_of p (valued p index))) (λ x. Ok (item x.0 x.1))

-- ---- `base . name` and `base -> name`

-- a member of a union lies inside it, and a field of a struct where the struct does
unfoldable pub part_place : TypedPlace → Bool → Part → Denoted
part_place q inside f =
    if f.in_union then placed f.ty (P.Member q f.index) true else placed f.ty (P.Field q f.index) inside

unfoldable pub part_within : Scope → TypedPlace → Bool → Text → Checked Denoted
part_within scope q inside x =
    or_rule NoField (option_map (part_place q inside) (part_named scope (type_at scope.types q.ty) x))

-- what is no place has no part
unfoldable pub no_part : Checked TypedExpr → Rules
no_part (Err r) = r
no_part (Ok e) = only NoField

unfoldable pub part : Scope → Checked Denoted → Text → Checked Denoted
part scope (Ok (D.Place q inside)) x = part_within scope q inside x
part scope base x = Err (no_part (valued scope.types base))

abbrev pub arrow_to : Scope → TypedExpr → Text → Option ℕ → Checked Denoted
arrow_to scope e x None = Err (only NoField)
arrow_to scope e x (Some t) = part_within scope (place t (P.Arrow e)) false x

unfoldable pub arrow : Scope → Checked Denoted → Text → Checked Denoted
arrow scope base x = then_do (valued scope.types base) (λ e. arrow_to scope e x (target_of scope.types e))

-- ---- `* e` and `& e`

unfoldable pub dereferenced : Parts → Checked Denoted → Checked Denoted
dereferenced p d =
    then_do (valued p d) (λ e. or_rule NoPointer (option_map (λ t. placed t (P.Deref e) false) (target_of p e)))

unfoldable pub is_variable : Option Meaning → Bool
is_variable (Some (Global g t)) = true
is_variable (Some (Local k t)) = true
is_variable _ = false

unfoldable pub is_dereference : UnaryOperator → Bool
is_dereference Dereference = true
is_dereference _ = false

-- a variable's name, `*e`, `e[i]`, `e.f` or `e->f`, of whatever type
unfoldable pub has_form : Scope → Expression → Bool
has_form scope (Var x) = is_variable (meaning_of scope x)
has_form scope (Paren e) = has_form scope e
has_form scope (At b i) = true
has_form scope (Member b a x) = true
has_form scope (Prefix op e) = is_dereference op
has_form scope (Num n) = false
has_form scope (Char c) = false
has_form scope (Size name) = false
has_form scope (Convert name e) = false
has_form scope (Op op a b) = false
has_form scope (Cond c a b) = false

abbrev pub address_in : Parts → TypedPlace → Bool → Option ℕ → Checked Denoted
address_in p q inside (Some t) = Err (only NotPlace)
address_in p q inside None =
    if inside then Err (only NoAddress) else Ok (D.Value (value (number p (T.Pointer q.ty)) (E.AddressOf q)))

-- the address of a place other than an array, a local, and a place inside a union
unfoldable pub address_of : Parts → Denoted → Checked Denoted
address_of p (D.Place q inside) = address_in p q inside (element_of (type_at p q.ty))
address_of p (D.Local k t) = Err (only NoAddress)
address_of p _ = Err (only NotPlace)

-- what breaks a rule where a place should stand breaks one more unless it has the form of a place
unfoldable pub unplaced : Bool → Rules → Rules
unplaced form r = if form then r else union r (only NotPlace)

unfoldable pub addressed : Parts → Bool → Checked Denoted → Checked Denoted
addressed p form (Err r) = Err (unplaced form r)
addressed p form (Ok d) = address_of p d
