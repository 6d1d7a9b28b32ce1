-- Reading declarations from left to right: what each function of src/ gives.
use Rattle.std.specs.Prelude.{ℕ, zero, suc, Bool, true, false, not, ◌||◌, ◌&&◌, List, [], ◌∷◌, length, Option, Some, None}
use Rattle.c_ast.specs.declared.token.Token.{Token}
use Rattle.c_ast.specs.declared.token.Token.TheVariants as token
use Rattle.c_ast.specs.declared.token.Number.{Number}
use Rattle.c_ast.specs.declared.token.Mark.TheVariants as m
use Rattle.c_ast.specs.declared.types.TagKind.TheVariants as tag
use Rattle.c_ast.specs.declared.types.BaseType.{BaseType}
use Rattle.c_ast.specs.declared.types.BaseType.TheVariants as base
use Rattle.c_ast.specs.declared.types.TypeName.{TypeName}
use Rattle.c_ast.specs.Trees.{Text, Expression, Parameters, Statements, Object, Data, Pointer, Initializer, Single, Bytes, Braces, initializers_of, Declaration, Record, Global, Prototype, Definition}
use Rattle.c_ast.specs.Grammar.{limit}
use Rattle.c_parse_expr.specs.Reads.{Reader, build, ◌⊳◌, then_by, give, choose, optional, one, at_limit, climb, snoc, some_of}
use Rattle.c_parse_expr.specs.Reading.{is_mark, sees, sees_one, expect, name, begins, base_type, stars, type_of, type_name, expr}
use Rattle.c_parse.specs.Parameters.{params}
use Rattle.c_parse.specs.Statements.{more_items, block}

-- ---- initialisers

abbrev pub pick_text : Token → Option Text
pick_text (token.Text b) = Some b
pick_text _ = None

-- a comma that isn't the last
abbrev pub sees_next : List Token → Bool
sees_next [] = false
sees_next (t ∷ ts) = is_mark m.Comma t && not (sees m.RightBrace ts)

unfoldable pub next_init : Reader Initializer → Reader Initializer
next_init init = build (λ p. p.1) (expect m.Comma ⊳ init)

unfoldable pub inits : Reader Initializer → Reader (List Initializer)
inits init = some_of init sees_next (next_init init)

unfoldable pub last_comma : Reader Bool
last_comma = choose (sees m.Comma) (build (λ u. true) (expect m.Comma)) (give false)

unfoldable pub init_braces : Reader Initializer → Reader Initializer
init_braces init = build (λ p. Braces (initializers_of p.1.0) p.1.1.0) (expect m.LeftBrace ⊳ (inits init ⊳ (last_comma ⊳ expect m.RightBrace)))

abbrev pub begins_init : List Token → Bool
begins_init ts = sees m.LeftBrace ts || sees_one pick_text ts || begins ts

unfoldable pub init_text : Reader Initializer
init_text = build Bytes (one pick_text)

unfoldable pub init_by : Reader Expression → Reader Initializer → Reader Initializer
init_by inner init = choose (sees m.LeftBrace) (init_braces init) (choose (sees_one pick_text) init_text (build Single inner))

unfoldable pub init : ℕ → Reader Initializer
init zero ts = at_limit begins_init ts
init (suc room) ts = init_by (expr room) (init room) ts

unfoldable pub initial_value : Reader Initializer
initial_value = build (λ p. p.1) (expect m.Assign ⊳ init limit)

unfoldable pub initial : Reader (Option Initializer)
initial = optional (sees m.Assign) initial_value

-- ---- objects

abbrev pub pick_number : Token → Option Number
pick_number (token.Number n) = Some n
pick_number _ = None

unfoldable pub array_length : Reader Number
array_length = build (λ p. p.1.0) (expect m.LeftBracket ⊳ (one pick_number ⊳ expect m.RightBracket))

unfoldable pub length_if_any : Reader (Option Number)
length_if_any = optional (sees m.LeftBracket) array_length

-- parameters in parentheses
unfoldable pub signature : Reader Parameters
signature = build (λ p. p.1.0) (expect m.LeftParen ⊳ (params limit ⊳ expect m.RightParen))

abbrev pub Sized : Type 0
Sized = Text × Option Number

unfoldable pub sized : Reader Sized
sized = name ⊳ length_if_any

-- a pointer to a function: its name, length and parameters
unfoldable pub pointer : Reader (Sized × Parameters)
pointer = build (λ p. (p.1.1.0, p.1.1.1.1)) (expect m.LeftParen ⊳ (expect m.Star ⊳ (sized ⊳ (expect m.RightParen ⊳ signature))))

abbrev pub data_by : TypeName → Sized → Object
data_by t p = Data t p.0 p.1

abbrev pub pointer_by : TypeName → Sized × Parameters → Object
pointer_by t p = Pointer t p.0.0 p.0.1 p.1

-- what follows a field's type
unfoldable pub field_rest : TypeName → Reader Object
field_rest t = choose (sees m.LeftParen) (build (pointer_by t) pointer) (build (data_by t) sized)

unfoldable pub field : Reader Object
field = build (λ p. p.0.1) (then_by type_name field_rest ⊳ expect m.Semicolon)

unfoldable pub fields : Reader (List Object)
fields ts = climb more_items field snoc (length ts) [] ts

unfoldable pub record_fields : Reader (List Object)
record_fields = build (λ p. p.1.0) (expect m.LeftBrace ⊳ (fields ⊳ (expect m.RightBrace ⊳ expect m.Semicolon)))

-- ---- declarations

unfoldable pub start_or_end : Reader (Option Initializer)
start_or_end = build (λ p. p.0) (initial ⊳ expect m.Semicolon)

-- a semicolon, or a body
unfoldable pub body_if_any : Reader (Option Statements)
body_if_any = choose (sees m.Semicolon) (build (λ u. None) (expect m.Semicolon)) (build Some (block limit))

-- what follows a declaration's type
pub data Rest : Type 0 where
  PointerRest : Sized × Parameters → Option Initializer → Rest
  FunctionRest : Text → Parameters → Option Statements → Rest
  DataRest : Text → Option Number → Option Initializer → Rest

unfoldable pub pointer_rest : Reader Rest
pointer_rest = build (λ p. PointerRest p.0 p.1) (pointer ⊳ start_or_end)

unfoldable pub function_rest : Text → Reader Rest
function_rest x = build (λ p. FunctionRest x p.0 p.1) (signature ⊳ body_if_any)

unfoldable pub data_rest : Text → Reader Rest
data_rest x = build (λ p. DataRest x p.0 p.1) (length_if_any ⊳ start_or_end)

unfoldable pub named_rest : Text → Reader Rest
named_rest x = choose (sees m.LeftParen) (function_rest x) (data_rest x)

unfoldable pub rest : Reader Rest
rest = choose (sees m.LeftParen) pointer_rest (build (λ p. p.1) (then_by name named_rest))

abbrev pub declaration_by : TypeName → Rest → Declaration
declaration_by t (PointerRest p i) = Global (pointer_by t p) i
declaration_by t (FunctionRest x ps None) = Prototype t x ps
declaration_by t (FunctionRest x ps (Some body)) = Definition t x ps body
declaration_by t (DataRest x n i) = Global (Data t x n) i

-- what follows a declaration's type without stars
pub data After : Type 0 where
  Fields : List Object → After
  Starred : ℕ → Rest → After

abbrev pub is_tagged : BaseType → Bool
is_tagged (base.Tagged t x) = true
is_tagged _ = false

-- the type is a struct's or union's that is declared here
abbrev pub declares : BaseType → List Token → Bool
declares b ts = is_tagged b && sees m.LeftBrace ts

unfoldable pub after : BaseType → Reader After
after b = choose (declares b) (build Fields record_fields) (build (λ p. Starred p.0 p.1) (stars ⊳ rest))

abbrev pub record_by : BaseType → List Object → Declaration
record_by (base.Tagged t x) fs = Record t x fs
record_by _ fs = Record tag.Struct [] fs

abbrev pub declaration_after : BaseType → After → Declaration
declaration_after b (Fields fs) = record_by b fs
declaration_after b (Starred n r) = declaration_by (type_of (b, n)) r

unfoldable pub decl : Reader Declaration
decl = build (λ p. declaration_after p.0 p.1) (then_by base_type after)
