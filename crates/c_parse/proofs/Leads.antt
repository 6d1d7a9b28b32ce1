-- How the first token tells statements apart.
use Rattle.std.proofs.Common.{◌≡◌, refl, ap, ℕ, Bool, true, false, not, List, [], ◌∷◌, cond, arith}
use Rattle.c_ast.specs.declared.token.Token.{Token}
use Rattle.c_ast.specs.declared.token.Token.TheVariants as token
use Rattle.c_ast.specs.declared.token.Mark.TheVariants as m
use Rattle.c_ast.specs.declared.token.Keyword.TheVariants as k
use Rattle.c_ast.specs.declared.types.TagKind.TheVariants as tag
use Rattle.c_ast.specs.declared.types.BaseType.{BaseType}
use Rattle.c_ast.specs.declared.types.BaseType.TheVariants as base
use Rattle.c_ast.specs.declared.expr.UnaryOperator.{UnaryOperator}
use Rattle.c_ast.specs.declared.expr.UnaryOperator.TheVariants as unary_operator
use Rattle.c_ast.specs.Trees.{Expression, Num, Char, Var, Paren, Size, At, Part, Prefix, Convert, Op, Cond, Statement, Block, Empty, Local, Assign, Call, If, IfElse, While, For, Break, Continue, Return}
use Rattle.c_ast.specs.Cells.{none, less}
use Rattle.c_ast.specs.Grammar.{cells, unary_mark, parameter_cells, statement_cells}
use Rattle.c_parse_expr.specs.Reading.{same_mark, same_keyword, is_mark, is_keyword, sees, sees_keyword, begins_type}
use Rattle.c_parse_expr.proofs.Exact.{Opens, Heads, opens_left, leads_left, leads_opens}
use Rattle.c_parse_expr.proofs.Sorts.{at_head, mark_is, mark_self}
use Rattle.c_parse_expr.proofs.TypeNames.{base_lead}
use Rattle.c_parse_expr.proofs.Postfixes.{lead, opens_lead}
use Rattle.c_parse.specs.Statements.{more_items, begins_keyword}
use Rattle.c_parse.proofs.Params.{param_type, param_leads}

-- ---- the first token of a statement

abbrev pub statement_lead : Statement → Token
statement_lead (Block ss) = token.Mark m.LeftBrace
statement_lead Empty = token.Mark m.Semicolon
statement_lead (Local p r) = base_lead (param_type p).base
statement_lead (Assign e r) = lead e
statement_lead (Call f es) = lead f
statement_lead (If c a) = token.Keyword k.If
statement_lead (IfElse c a b) = token.Keyword k.If
statement_lead (While c a) = token.Keyword k.While
statement_lead (For i c n a) = token.Keyword k.For
statement_lead Break = token.Keyword k.Break
statement_lead Continue = token.Keyword k.Continue
statement_lead (Return r) = token.Keyword k.Return

-- with room, no limit is passed at it
pub opens_statement : (s : Statement) (room : ℕ) (ts : List Token) → Opens (statement_cells s room) ts → Heads (statement_lead s) ts
opens_statement (Block ss) room ts o = leads_opens (token.Mark m.LeftBrace) (none (less room)) (statement_cells (Block ss) room) ts (refl, refl) o
opens_statement Empty room ts o = leads_opens (token.Mark m.Semicolon) (none room) (statement_cells Empty room) ts (refl, refl) o
opens_statement (Local p r) room ts o = leads_opens (base_lead (param_type p).base) (none room) (statement_cells (Local p r) room) ts (leads_left (base_lead (param_type p).base) (none room) (parameter_cells p room) _ (param_leads p room)) o
opens_statement (Assign e r) room ts o = opens_lead e room ts (opens_left (cells e room) _ ts o)
opens_statement (Call f es) room ts o = opens_lead f room ts (opens_left (cells f room) _ ts o)
opens_statement (If c a) room ts o = leads_opens (token.Keyword k.If) (none room) (statement_cells (If c a) room) ts (refl, refl) o
opens_statement (IfElse c a b) room ts o = leads_opens (token.Keyword k.If) (none room) (statement_cells (IfElse c a b) room) ts (refl, refl) o
opens_statement (While c a) room ts o = leads_opens (token.Keyword k.While) (none room) (statement_cells (While c a) room) ts (refl, refl) o
opens_statement (For i c n a) room ts o = leads_opens (token.Keyword k.For) (none room) (statement_cells (For i c n a) room) ts (refl, refl) o
opens_statement Break room ts o = leads_opens (token.Keyword k.Break) (none room) (statement_cells Break room) ts (refl, refl) o
opens_statement Continue room ts o = leads_opens (token.Keyword k.Continue) (none room) (statement_cells Continue room) ts (refl, refl) o
opens_statement (Return r) room ts o = leads_opens (token.Keyword k.Return) (none room) (statement_cells (Return r) room) ts (refl, refl) o

-- ---- which statement it is

abbrev pub sort_by : Bool → Bool → Bool → Bool → ℕ
sort_by a b c d = cond a 0 (cond b 1 (cond c 2 (cond d 3 4)))

abbrev pub first_sort : List Token → ℕ
first_sort ts = sort_by (sees m.LeftBrace ts) (sees m.Semicolon ts) (begins_type ts) (begins_keyword ts)

abbrev pub keyword_by : Bool → Bool → Bool → Bool → Bool → ℕ
keyword_by a b c d e = cond a 0 (cond b 1 (cond c 2 (cond d 3 (cond e 4 5))))

abbrev pub keyword_sort : List Token → ℕ
keyword_sort ts = keyword_by (sees_keyword k.If ts) (sees_keyword k.While ts) (sees_keyword k.For ts) (sees_keyword k.Break ts) (sees_keyword k.Continue ts)

abbrev pub statement_sort : Statement → ℕ
statement_sort (Block ss) = 0
statement_sort Empty = 1
statement_sort (Local p r) = 2
statement_sort (Assign e r) = 4
statement_sort (Call f es) = 4
statement_sort _ = 3

abbrev pub statement_keyword : Statement → ℕ
statement_keyword (If c a) = 0
statement_keyword (IfElse c a b) = 0
statement_keyword (While c a) = 1
statement_keyword (For i c n a) = 2
statement_keyword Break = 3
statement_keyword Continue = 4
statement_keyword _ = 5

unary_sorted : (s : UnaryOperator) (rest : List Token) → first_sort (token.Mark (unary_mark s) ∷ rest) ≡ 4
unfolding same_mark same_keyword
unary_sorted unary_operator.Negate rest = refl
unary_sorted unary_operator.Complement rest = refl
unary_sorted unary_operator.Not rest = refl
unary_sorted unary_operator.Dereference rest = refl
unary_sorted unary_operator.AddressOf rest = refl

expression_sorted : (e : Expression) (rest : List Token) → first_sort (lead e ∷ rest) ≡ 4
unfolding same_mark same_keyword
expression_sorted (Num n) rest = refl
expression_sorted (Char n) rest = refl
expression_sorted (Var n) rest = refl
expression_sorted (Paren a) rest = refl
expression_sorted (Size a) rest = refl
expression_sorted (At b i) rest = expression_sorted b rest
expression_sorted (Part b a x) rest = expression_sorted b rest
expression_sorted (Prefix s a) rest = unary_sorted s rest
expression_sorted (Convert s a) rest = refl
expression_sorted (Op op a b) rest = expression_sorted a rest
expression_sorted (Cond c a b) rest = expression_sorted c rest

base_sorted : (b : BaseType) (rest : List Token) → first_sort (base_lead b ∷ rest) ≡ 2
unfolding same_mark same_keyword
base_sorted base.Void rest = refl
base_sorted base.Char rest = refl
base_sorted base.Short rest = refl
base_sorted base.Int rest = refl
base_sorted base.LongLong rest = refl
base_sorted (base.Unsigned w) rest = refl
base_sorted (base.Tagged tag.Struct x) rest = refl
base_sorted (base.Tagged tag.Union x) rest = refl

pub statement_sorted : (s : Statement) (rest : List Token) → first_sort (statement_lead s ∷ rest) ≡ statement_sort s
unfolding same_mark same_keyword
statement_sorted (Block ss) rest = refl
statement_sorted Empty rest = refl
statement_sorted (Local p r) rest = base_sorted (param_type p).base rest
statement_sorted (Assign e r) rest = expression_sorted e rest
statement_sorted (Call f es) rest = expression_sorted f rest
statement_sorted (If c a) rest = refl
statement_sorted (IfElse c a b) rest = refl
statement_sorted (While c a) rest = refl
statement_sorted (For i c n a) rest = refl
statement_sorted Break rest = refl
statement_sorted Continue rest = refl
statement_sorted (Return r) rest = refl

pub keyword_sorted : (s : Statement) → statement_sort s ≡ 3 → (rest : List Token) → keyword_sort (statement_lead s ∷ rest) ≡ statement_keyword s
unfolding same_keyword
keyword_sorted (If c a) e rest = refl
keyword_sorted (IfElse c a b) e rest = refl
keyword_sorted (While c a) e rest = refl
keyword_sorted (For i c n a) e rest = refl
keyword_sorted Break e rest = refl
keyword_sorted Continue e rest = refl
keyword_sorted (Return r) e rest = refl
keyword_sorted (Block ss) e rest = absurd (omega arith)
keyword_sorted Empty e rest = absurd (omega arith)
keyword_sorted (Local p r) e rest = absurd (omega arith)
keyword_sorted (Assign a r) e rest = absurd (omega arith)
keyword_sorted (Call f es) e rest = absurd (omega arith)

-- ---- what may follow

unary_more : (s : UnaryOperator) (rest : List Token) → more_items (token.Mark (unary_mark s) ∷ rest) ≡ true
unfolding same_mark
unary_more unary_operator.Negate rest = refl
unary_more unary_operator.Complement rest = refl
unary_more unary_operator.Not rest = refl
unary_more unary_operator.Dereference rest = refl
unary_more unary_operator.AddressOf rest = refl

expression_more : (e : Expression) (rest : List Token) → more_items (lead e ∷ rest) ≡ true
unfolding same_mark
expression_more (Num n) rest = refl
expression_more (Char n) rest = refl
expression_more (Var n) rest = refl
expression_more (Paren a) rest = refl
expression_more (Size a) rest = refl
expression_more (At b i) rest = expression_more b rest
expression_more (Part b a x) rest = expression_more b rest
expression_more (Prefix s a) rest = unary_more s rest
expression_more (Convert s a) rest = refl
expression_more (Op op a b) rest = expression_more a rest
expression_more (Cond c a b) rest = expression_more c rest

pub base_more : (b : BaseType) (rest : List Token) → more_items (base_lead b ∷ rest) ≡ true
base_more base.Void rest = refl
base_more base.Char rest = refl
base_more base.Short rest = refl
base_more base.Int rest = refl
base_more base.LongLong rest = refl
base_more (base.Unsigned w) rest = refl
base_more (base.Tagged t x) rest = refl

pub statement_more : (s : Statement) (rest : List Token) → more_items (statement_lead s ∷ rest) ≡ true
unfolding same_mark
statement_more (Block ss) rest = refl
statement_more Empty rest = refl
statement_more (Local p r) rest = base_more (param_type p).base rest
statement_more (Assign e r) rest = expression_more e rest
statement_more (Call f es) rest = expression_more f rest
statement_more (If c a) rest = refl
statement_more (IfElse c a b) rest = refl
statement_more (While c a) rest = refl
statement_more (For i c n a) rest = refl
statement_more Break rest = refl
statement_more Continue rest = refl
statement_more (Return r) rest = refl

expression_not_else : (e : Expression) (rest : List Token) → sees_keyword k.Else (lead e ∷ rest) ≡ false
unfolding same_keyword
expression_not_else (Num n) rest = refl
expression_not_else (Char n) rest = refl
expression_not_else (Var n) rest = refl
expression_not_else (Paren a) rest = refl
expression_not_else (Size a) rest = refl
expression_not_else (At b i) rest = expression_not_else b rest
expression_not_else (Part b a x) rest = expression_not_else b rest
expression_not_else (Prefix s a) rest = refl
expression_not_else (Convert s a) rest = refl
expression_not_else (Op op a b) rest = expression_not_else a rest
expression_not_else (Cond c a b) rest = expression_not_else c rest

base_not_else : (b : BaseType) (rest : List Token) → sees_keyword k.Else (base_lead b ∷ rest) ≡ false
unfolding same_keyword
base_not_else base.Void rest = refl
base_not_else base.Char rest = refl
base_not_else base.Short rest = refl
base_not_else base.Int rest = refl
base_not_else base.LongLong rest = refl
base_not_else (base.Unsigned w) rest = refl
base_not_else (base.Tagged tag.Struct x) rest = refl
base_not_else (base.Tagged tag.Union x) rest = refl

pub statement_not_else : (s : Statement) (rest : List Token) → sees_keyword k.Else (statement_lead s ∷ rest) ≡ false
unfolding same_keyword
statement_not_else (Block ss) rest = refl
statement_not_else Empty rest = refl
statement_not_else (Local p r) rest = base_not_else (param_type p).base rest
statement_not_else (Assign e r) rest = expression_not_else e rest
statement_not_else (Call f es) rest = expression_not_else f rest
statement_not_else (If c a) rest = refl
statement_not_else (IfElse c a b) rest = refl
statement_not_else (While c a) rest = refl
statement_not_else (For i c n a) rest = refl
statement_not_else Break rest = refl
statement_not_else Continue rest = refl
statement_not_else (Return r) rest = refl

pub end_not_else : (ts : List Token) → more_items ts ≡ false → sees_keyword k.Else ts ≡ false
end_not_else [] e = refl
end_not_else (t ∷ ts) e = go (is_mark m.RightBrace t) refl e
  where
    go : (b : Bool) → is_mark m.RightBrace t ≡ b → not b ≡ false → is_keyword k.Else t ≡ false
    go true h e = ap (is_keyword k.Else) (mark_is m.RightBrace t h)
    go false h e = cc

pub brace_ends : (ts : List Token) → Heads (token.Mark m.RightBrace) ts → more_items ts ≡ false
brace_ends ts h = at_head more_items (token.Mark m.RightBrace) ts h false (λ rest. ap not (mark_self m.RightBrace))
