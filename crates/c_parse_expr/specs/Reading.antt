-- Reading types and expressions from left to right, one or two tokens ahead: what each function of src/ gives.
use Rattle.std.specs.Prelude.{ℕ, zero, suc, Bool, true, false, cond, ◌||◌, ◌&&◌, nat_eq, List, [], ◌∷◌, Option, Some, None}
use denote.Enum.Bare.{sameb}
use Rattle.c_ast.specs.declared.token.Token.{Token}
use Rattle.c_ast.specs.declared.token.Token.TheVariants as token
use Rattle.c_ast.specs.declared.token.Mark.{Mark}
use Rattle.c_ast.specs.declared.token.Mark.TheVariants as m
use Rattle.c_ast.specs.contracts.token.Mark as mark_enum
use Rattle.c_ast.specs.declared.token.Keyword.{Keyword}
use Rattle.c_ast.specs.declared.token.Keyword.TheVariants as k
use Rattle.c_ast.specs.contracts.token.Keyword as keyword_enum
use Rattle.c_ast.specs.declared.types.UnsignedType.{UnsignedType}
use Rattle.c_ast.specs.declared.types.UnsignedType.TheVariants as u
use Rattle.c_ast.specs.declared.types.TagKind.{TagKind}
use Rattle.c_ast.specs.declared.types.TagKind.TheVariants as tag
use Rattle.c_ast.specs.declared.types.BaseType.{BaseType}
use Rattle.c_ast.specs.declared.types.BaseType.TheVariants as base
use Rattle.c_ast.specs.declared.types.TypeName.{TypeName}
use Rattle.c_ast.specs.declared.expr.Access.{Access}
use Rattle.c_ast.specs.declared.expr.Access.TheVariants as access
use Rattle.c_ast.specs.declared.expr.UnaryOperator.{UnaryOperator}
use Rattle.c_ast.specs.declared.expr.UnaryOperator.TheVariants as unary_operator
use Rattle.c_ast.specs.declared.expr.BinaryOperator.{BinaryOperator}
use Rattle.c_ast.specs.declared.expr.BinaryOperator.TheVariants as binary
use Rattle.c_ast.specs.Trees.{Text, Expression, Num, Char, Var, Paren, Size, At, Part, Prefix, Convert, Op, Cond}
use Rattle.c_ast.specs.Grammar.{limit, star_limit, level}
use Rattle.c_parse_expr.specs.Reads.{Reader, ◌>>=◌, build, ◌⊳◌, choose, optional, one, climb, at_limit}

-- ---- one token

unfoldable pub same_mark : Mark → Mark → Bool
same_mark = sameb mark_enum.the_type

unfoldable pub same_keyword : Keyword → Keyword → Bool
same_keyword = sameb keyword_enum.the_type

abbrev pub is_mark : Mark → Token → Bool
is_mark m (token.Mark n) = same_mark n m
is_mark m _ = false

abbrev pub is_keyword : Keyword → Token → Bool
is_keyword k (token.Keyword n) = same_keyword n k
is_keyword k _ = false

abbrev pub sees : Mark → List Token → Bool
sees m [] = false
sees m (t ∷ ts) = is_mark m t

abbrev pub sees_keyword : Keyword → List Token → Bool
sees_keyword k [] = false
sees_keyword k (t ∷ ts) = is_keyword k t

abbrev pub picked : Bool → Option (Unit {0})
picked b = cond b (Some tt) None

abbrev pub pick_mark : Mark → Token → Option (Unit {0})
pick_mark m t = picked (is_mark m t)

abbrev pub pick_keyword : Keyword → Token → Option (Unit {0})
pick_keyword k t = picked (is_keyword k t)

unfoldable pub expect : Mark → Reader (Unit {0})
expect m = one (pick_mark m)

unfoldable pub expect_keyword : Keyword → Reader (Unit {0})
expect_keyword k = one (pick_keyword k)

abbrev pub pick_name : Token → Option Text
pick_name (token.Identifier x) = Some x
pick_name _ = None

unfoldable pub name : Reader Text
name = one pick_name

abbrev pub is_some : {A : Type 0} → Option A → Bool
is_some None = false
is_some (Some a) = true

-- the next token is picked
abbrev pub sees_one : {A : Type 0} → (Token → Option A) → List Token → Bool
sees_one pick [] = false
sees_one pick (t ∷ ts) = is_some (pick t)

-- ---- types

abbrev pub pick_unsigned : Token → Option UnsignedType
pick_unsigned (token.Keyword k.Char) = Some u.Char
pick_unsigned (token.Keyword k.Short) = Some u.Short
pick_unsigned (token.Keyword k.Int) = Some u.Int
pick_unsigned _ = None

abbrev pub pick_tag : Token → Option TagKind
pick_tag (token.Keyword k.Struct) = Some tag.Struct
pick_tag (token.Keyword k.Union) = Some tag.Union
pick_tag _ = None

abbrev pub pick_base : Token → Option BaseType
pick_base (token.Keyword k.Void) = Some base.Void
pick_base (token.Keyword k.Char) = Some base.Char
pick_base (token.Keyword k.Short) = Some base.Short
pick_base (token.Keyword k.Int) = Some base.Int
pick_base _ = None

unfoldable pub long_long : Reader (Unit {0} × Unit {0})
long_long = expect_keyword k.Long ⊳ expect_keyword k.Long

unfoldable pub unsigned_word : Reader UnsignedType
unsigned_word = choose (sees_keyword k.Long) (build (λ p. u.LongLong) long_long) (one pick_unsigned)

abbrev pub more_unsigned : List Token → Bool
more_unsigned ts = sees_keyword k.Long ts || sees_one pick_unsigned ts

abbrev pub plain_if_none : Option UnsignedType → UnsignedType
plain_if_none None = u.Plain
plain_if_none (Some w) = w

unfoldable pub unsigned_rest : Reader UnsignedType
unsigned_rest = build plain_if_none (optional more_unsigned unsigned_word)

unfoldable pub unsigned_type : Reader BaseType
unsigned_type = build (λ p. base.Unsigned p.1) (expect_keyword k.Unsigned ⊳ unsigned_rest)

unfoldable pub tagged : Reader BaseType
tagged = build (λ p. base.Tagged p.0 p.1) (one pick_tag ⊳ name)

unfoldable pub base_type : Reader BaseType
base_type =
    choose (sees_keyword k.Long) (build (λ p. base.LongLong) long_long)
    (choose (sees_keyword k.Unsigned) unsigned_type
    (choose (sees_one pick_tag) tagged (one pick_base)))

abbrev pub one_more : ℕ → Unit {0} → ℕ
one_more n s = suc n

unfoldable pub stars : Reader ℕ
stars = climb (sees m.Star) (expect m.Star) one_more star_limit 0

abbrev pub type_of : BaseType × ℕ → TypeName
type_of p = record { base = p.0; stars = p.1 }

unfoldable pub type_name : Reader TypeName
type_name = build type_of (base_type ⊳ stars)

-- a token with which a type begins
abbrev pub begins_type : List Token → Bool
begins_type ts = sees_keyword k.Long ts || sees_keyword k.Unsigned ts || sees_one pick_tag ts || sees_one pick_base ts

-- ---- expressions

abbrev pub pick_atom : Token → Option Expression
pick_atom (token.Number n) = Some (Num n)
pick_atom (token.Character c) = Some (Char c)
pick_atom (token.Identifier x) = Some (Var x)
pick_atom _ = None

unfoldable pub atom : Reader Expression
atom = one pick_atom

abbrev pub pick_access : Token → Option Access
pick_access (token.Mark m.Dot) = Some access.Dot
pick_access (token.Mark m.Arrow) = Some access.Arrow
pick_access _ = None

abbrev pub pick_unary : Token → Option UnaryOperator
pick_unary (token.Mark m.Minus) = Some unary_operator.Negate
pick_unary (token.Mark m.Tilde) = Some unary_operator.Complement
pick_unary (token.Mark m.Not) = Some unary_operator.Not
pick_unary (token.Mark m.Star) = Some unary_operator.Dereference
pick_unary (token.Mark m.Ampersand) = Some unary_operator.AddressOf
pick_unary _ = None

abbrev pub operator_of : Token → Option BinaryOperator
operator_of (token.Mark m.Star) = Some binary.Multiply
operator_of (token.Mark m.Slash) = Some binary.Divide
operator_of (token.Mark m.Percent) = Some binary.Remainder
operator_of (token.Mark m.Plus) = Some binary.Add
operator_of (token.Mark m.Minus) = Some binary.Subtract
operator_of (token.Mark m.ShiftLeft) = Some binary.ShiftLeft
operator_of (token.Mark m.ShiftRight) = Some binary.ShiftRight
operator_of (token.Mark m.Less) = Some binary.Less
operator_of (token.Mark m.LessEqual) = Some binary.LessEqual
operator_of (token.Mark m.Greater) = Some binary.Greater
operator_of (token.Mark m.GreaterEqual) = Some binary.GreaterEqual
operator_of (token.Mark m.EqualEqual) = Some binary.Equal
operator_of (token.Mark m.NotEqual) = Some binary.NotEqual
operator_of (token.Mark m.Ampersand) = Some binary.BitAnd
operator_of (token.Mark m.Caret) = Some binary.BitXor
operator_of (token.Mark m.Pipe) = Some binary.BitOr
operator_of (token.Mark m.LogicalAnd) = Some binary.And
operator_of (token.Mark m.LogicalOr) = Some binary.Or
operator_of _ = None

abbrev pub of_level : ℕ → Option BinaryOperator → Option BinaryOperator
of_level n None = None
of_level n (Some op) = cond (nat_eq (level op) n) (Some op) None

abbrev pub pick_operator : ℕ → Token → Option BinaryOperator
pick_operator n t = of_level n (operator_of t)

unfoldable pub group : Reader Expression → Reader Expression
group inner = build (λ p. Paren p.1.0) (expect m.LeftParen ⊳ (inner ⊳ expect m.RightParen))

unfoldable pub size_of : Reader Expression
size_of = build (λ p. Size p.1.1.0) (expect_keyword k.Sizeof ⊳ (expect m.LeftParen ⊳ (type_name ⊳ expect m.RightParen)))

unfoldable pub prim : Reader Expression → Reader Expression
prim inner = choose (sees m.LeftParen) (group inner) (choose (sees_keyword k.Sizeof) size_of atom)

pub data Step : Type 0 where
  Within : Expression → Step
  Of : Access → Text → Step

abbrev pub join_step : Expression → Step → Expression
join_step b (Within i) = At b i
join_step b (Of a x) = Part b a x

unfoldable pub index : Reader Expression → Reader Step
index inner = build (λ p. Within p.1.0) (expect m.LeftBracket ⊳ (inner ⊳ expect m.RightBracket))

unfoldable pub member : Reader Step
member = build (λ p. Of p.0 p.1) (one pick_access ⊳ name)

abbrev pub more_steps : List Token → Bool
more_steps ts = sees m.LeftBracket ts || sees_one pick_access ts

unfoldable pub step : Reader Expression → Reader Step
step inner = choose (sees m.LeftBracket) (index inner) member

unfoldable pub steps : Reader Expression → Expression → Reader Expression
steps inner base ts = climb more_steps (step inner) join_step limit base ts

unfoldable pub postfix : Reader Expression → Reader Expression
postfix inner ts = prim inner ts >>= (λ b. steps inner b.0 b.1)

abbrev pub more_links : ℕ → List Token → Bool
more_links n = sees_one (pick_operator n)

unfoldable pub link : ℕ → Reader Expression → Reader (BinaryOperator × Expression)
link n operand = one (pick_operator n) ⊳ operand

abbrev pub join_link : Expression → BinaryOperator × Expression → Expression
join_link a p = Op p.0 a p.1

unfoldable pub links : ℕ → Reader Expression → Expression → Reader Expression
links n operand base ts = climb (more_links n) (link n operand) join_link limit base ts

unfoldable pub chain : ℕ → Reader Expression → Reader Expression
chain n operand ts = operand ts >>= (λ a. links n operand a.0 a.1)

-- the first so many levels of chains
unfoldable pub levels : ℕ → Reader Expression → Reader Expression
levels zero operand = operand
levels (suc n) operand = chain (suc (suc n)) (levels n operand)

-- what stands behind a condition
unfoldable pub branches : Reader Expression → Reader (Expression × Expression)
branches inner = build (λ p. (p.1.0, p.1.1.1)) (expect m.Question ⊳ (inner ⊳ (expect m.Colon ⊳ inner)))

unfoldable pub branches_if_any : Reader Expression → Reader (Option (Expression × Expression))
branches_if_any inner = optional (sees m.Question) (branches inner)

abbrev pub conditional : Expression → Option (Expression × Expression) → Expression
conditional c None = c
conditional c (Some p) = Cond c p.0 p.1

unfoldable pub whole : Reader Expression → Reader Expression → Reader Expression
whole inner operand = build (λ p. conditional p.0 p.1) (operand ⊳ branches_if_any inner)

-- a token with which an expression begins
abbrev pub begins : List Token → Bool
begins ts = sees m.LeftParen ts || sees_keyword k.Sizeof ts || sees_one pick_atom ts || sees_one pick_unary ts

-- a parenthesis and a type
abbrev pub sees_cast : List Token → Bool
sees_cast [] = false
sees_cast (t ∷ ts) = is_mark m.LeftParen t && begins_type ts

unfoldable pub prefixed : Reader Expression → Reader Expression
prefixed operand = build (λ p. Prefix p.0 p.1) (one pick_unary ⊳ operand)

unfoldable pub cast : Reader Expression → Reader Expression
cast operand = build (λ p. Convert p.1.0 p.1.1.1) (expect m.LeftParen ⊳ (type_name ⊳ (expect m.RightParen ⊳ operand)))

unfoldable pub unary_by : Reader Expression → Reader Expression → Reader Expression
unary_by operand inner = choose (sees_one pick_unary) (prefixed operand) (choose sees_cast (cast operand) (postfix inner))

unfoldable mutual
  pub unary : ℕ → Reader Expression
  unary zero ts = at_limit begins ts
  unary (suc room) ts = unary_by (unary room) (expr room) ts

  pub expr : ℕ → Reader Expression
  expr zero ts = at_limit begins ts
  expr (suc room) ts = whole (expr room) (levels 10 (unary room)) ts
