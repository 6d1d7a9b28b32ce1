-- What an expression denotes in a scope, by recursion on its text; parentheses have no meaning.
use Rattle.std.specs.Prelude.{ℕ, zero, suc, nat_eq, pos, Bool, true, false, ◌&&◌, ◌||◌, not, Option, Some, None, Ok, Err, if◌then◌else◌}
use Rattle.lu_spec.specs.Then.{then_do}
use Rattle.c_types.specs.declared.parts.IntKind.{IntKind}
use Rattle.c_types.specs.declared.parts.IntKind.TheVariants as K
use Rattle.c_types.specs.declared.parts.Ty.{Ty}
use Rattle.c_types.specs.declared.parts.Ty.TheVariants as T
use Rattle.c_types.specs.declared.parts.Parts.{Parts}
use Rattle.c_ast.specs.declared.token.NumberKind.{NumberKind}
use Rattle.c_ast.specs.declared.token.NumberKind.TheVariants as N
use Rattle.c_ast.specs.declared.token.Number.{Number}
use Rattle.c_ast.specs.declared.types.UnsignedType.{UnsignedType}
use Rattle.c_ast.specs.declared.types.UnsignedType.TheVariants as U
use Rattle.c_ast.specs.declared.types.TagKind.{TagKind}
use Rattle.c_ast.specs.declared.types.TagKind.TheVariants.{Struct, Union}
use Rattle.c_ast.specs.declared.types.BaseType.{BaseType}
use Rattle.c_ast.specs.declared.types.BaseType.TheVariants as B
use Rattle.c_ast.specs.declared.types.TypeName.{TypeName}
use Rattle.c_ast.specs.declared.expr.Access.{Access}
use Rattle.c_ast.specs.declared.expr.Access.TheVariants.{Dot, Arrow}
use Rattle.c_ast.specs.declared.expr.UnaryOperator.{UnaryOperator}
use Rattle.c_ast.specs.declared.expr.UnaryOperator.TheVariants.{Negate, Complement, Not, Dereference, AddressOf}
use Rattle.c_ast.specs.Trees.{Expression, Num, Char, Var, Paren, Size, At, Part, Prefix, Convert, Op, Cond}
use Rattle.src_tree.specs.declared.expr.TypedExpr.{TypedExpr}
use Rattle.src_tree.specs.declared.expr.UnaryOperator.TheVariants as M
use Rattle.src_tree.specs.declared.expr.ExprKind as E
use Rattle.src_tree.specs.declared.expr.PlaceKind as P
use Rattle.c_check_scope.specs.Operations.{int_type}
use Rattle.c_check_expr.specs.declared.denoted.Denoted.{Denoted}
use Rattle.c_check_expr.specs.declared.denoted.Denoted.TheVariants as D
use Rattle.c_check_scope.specs.declared.scope.Scope.{Scope}
use Rattle.c_check_scope.specs.declared.scope.Meaning.{Meaning}
use Rattle.c_check_scope.specs.declared.scope.Meaning.TheVariants as S
use Rattle.c_check_scope.specs.declared.scope.Tag.{Tag}
use Rattle.c_check_scope.specs.declared.rule.Rule.TheVariants.{UnknownTag, VoidValue, Undeclared}
use Rattle.c_check_scope.specs.Rules.{Checked, only}
use Rattle.c_check_scope.specs.Names.{Text, meaning_of, tag_of}
use Rattle.c_check_expr.specs.Denoted.{number as type_number, value, valued}
use Rattle.c_check_expr.specs.Places.{placed, element, part, arrow, dereferenced, has_form, addressed}
use Rattle.c_check_expr.specs.Operations.{result_of, promotion, inverted, operated, cast, conditional}

-- ---- numbers and names

unfoldable pub number_kind : NumberKind → IntKind
number_kind N.Int = K.Int
number_kind N.UnsignedInt = K.UInt
number_kind N.LongLong = K.LongLong
number_kind N.UnsignedLongLong = K.ULongLong

abbrev pub is_int : NumberKind → Bool
is_int N.Int = true
is_int _ = false

-- a number of value 0 and type int is the literal 0
unfoldable pub number : Parts → Number → Denoted
number p n =
    if nat_eq n.value 0 && is_int n.kind then D.Null else D.Value (value (type_number p (T.Int (number_kind n.kind))) (E.Number (pos n.value)))

unfoldable pub character : Parts → ℕ → Denoted
character p c = D.Value (value (type_number p int_type) (E.Number (pos c)))

unfoldable pub variable : Option Meaning → Checked Denoted
variable None = Err (only Undeclared)
variable (Some (S.Global g t)) = Ok (placed t (P.Global g) false)
variable (Some (S.Local k t)) = Ok (D.Local k t)
variable (Some (S.Function f g)) = Ok (D.Function f g)
variable (Some (S.BuiltIn which)) = Ok (D.BuiltIn which)

-- ---- the names of types

unfoldable pub unsigned_kind : UnsignedType → IntKind
unsigned_kind U.Plain = K.UInt
unsigned_kind U.Char = K.UChar
unsigned_kind U.Short = K.UShort
unsigned_kind U.Int = K.UInt
unsigned_kind U.LongLong = K.ULongLong

abbrev pub same_tag_kind : TagKind → TagKind → Bool
same_tag_kind Struct Struct = true
same_tag_kind Union Union = true
same_tag_kind _ _ = false

abbrev pub tag_type : TagKind → ℕ → Ty
tag_type Struct n = T.Struct n
tag_type Union n = T.Union n

-- a tag is one of that kind, and by value it is declared earlier
abbrev pub tag_found : Bool → TagKind → Option Tag → Checked Ty
tag_found by_value kind None = Err (only UnknownTag)
tag_found by_value kind (Some tag) =
    if not (same_tag_kind tag.kind kind) || by_value && not tag.is_declared then Err (only UnknownTag) else Ok (tag_type kind tag.number)

unfoldable pub tagged : Scope → Bool → TagKind → Text → Checked Ty
tagged scope by_value kind x = tag_found by_value kind (tag_of scope x)

unfoldable pub base_named : Scope → Bool → BaseType → Checked Ty
base_named scope by_value B.Void = Err (only VoidValue)
base_named scope by_value B.Char = Ok (T.Int K.Char)
base_named scope by_value B.Short = Ok (T.Int K.Short)
base_named scope by_value B.Int = Ok (T.Int K.Int)
base_named scope by_value B.LongLong = Ok (T.Int K.LongLong)
base_named scope by_value (B.Unsigned u) = Ok (T.Int (unsigned_kind u))
base_named scope by_value (B.Tagged kind x) = tagged scope by_value kind x

-- so many pointers to a type
unfoldable pub pointers : Parts → ℕ → ℕ → ℕ
pointers p zero t = t
pointers p (suc n) t = pointers p n (type_number p (T.Pointer t))

unfoldable pub starred : Parts → ℕ → Checked Ty → Checked ℕ
starred p stars base = then_do base (λ ty. Ok (pointers p stars (type_number p ty)))

-- the number of the type of a name; `void` stands only under a star
abbrev pub base_starred : Scope → BaseType → ℕ → Checked ℕ
base_starred scope B.Void zero = Err (only VoidValue)
base_starred scope B.Void (suc stars) = starred scope.types stars (Ok T.VoidPointer)
base_starred scope base stars = starred scope.types stars (base_named scope (nat_eq stars 0) base)

unfoldable pub named : Scope → TypeName → Checked ℕ
named scope name = base_starred scope name.base name.stars

unfoldable pub sized : Scope → TypeName → Checked Denoted
sized scope name = then_do (named scope name) (λ t. result_of (type_number scope.types (T.Int K.UInt)) (E.SizeOf t))

-- ---- expressions

unfoldable pub prefixed : Parts → UnaryOperator → Bool → Checked Denoted → Checked Denoted
prefixed p Negate form d = promotion p M.Minus d
prefixed p Complement form d = promotion p M.Complement d
prefixed p Not form d = inverted p d
prefixed p Dereference form d = dereferenced p d
prefixed p AddressOf form d = addressed p form d

unfoldable pub accessed : Scope → Checked Denoted → Access → Text → Checked Denoted
accessed scope base Dot x = part scope base x
accessed scope base Arrow x = arrow scope base x

-- what an expression denotes, or the rules that it breaks
unfoldable pub denoted : Scope → Expression → Checked Denoted
denoted scope (Num n) = Ok (number scope.types n)
denoted scope (Char c) = Ok (character scope.types c)
denoted scope (Var x) = variable (meaning_of scope x)
denoted scope (Paren e) = denoted scope e
denoted scope (Size name) = sized scope name
denoted scope (At base index) = element scope.types (denoted scope base) (denoted scope index)
denoted scope (Part base access x) = accessed scope (denoted scope base) access x
denoted scope (Prefix op e) = prefixed scope.types op (has_form scope e) (denoted scope e)
denoted scope (Convert name e) = cast scope.types (named scope name) (denoted scope e)
denoted scope (Op op a b) = operated scope.types op (denoted scope a) (denoted scope b)
denoted scope (Cond c a b) = conditional scope.types (denoted scope c) (denoted scope a) (denoted scope b)

-- the expression as a value with its type
abbrev pub typed : Scope → Expression → Checked TypedExpr
typed scope e = valued scope.types (denoted scope e)
