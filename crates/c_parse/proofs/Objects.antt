-- Reading fields and a declaration's names is exact.
use Rattle.std.proofs.Common.{◌≡◌, ◌∙◌, refl, sym, ap, subst, suc, ◌<◌, Bool, true, false, List, [], ◌∷◌, ◌++◌, length, append_assoc, Option, Some, None, Ok, Err, arith}
use Rattle.c_ast.specs.declared.token.Token.{Token}
use Rattle.c_ast.specs.declared.token.Token.TheVariants as token
use Rattle.c_ast.specs.declared.token.Number.{Number}
use Rattle.c_ast.specs.declared.token.Mark.TheVariants as m
use Rattle.c_ast.specs.declared.types.TypeName.{TypeName}
use Rattle.c_ast.specs.Trees.{Parameters, NoParameter, Object, Data, Pointer}
use Rattle.c_ast.specs.Cells.{Cell}
use Rattle.c_ast.specs.Grammar.{limit, type_cells, parameters_cells, length_cells, object_cells, objects_cells}
use Rattle.c_parse_expr.specs.Reads.{Reads, made, build, ◌⊳◌, then_by, one}
use Rattle.c_parse_expr.specs.Reading.{same_mark, sees, name, type_name}
use Rattle.c_parse_expr.proofs.Exact.{Kind, Exact, Sound, Opens, Heads, both, both_on, seq, seq_on, narrow, choose_exact, option_kind, option_exact, option_well, one_kind, one_exact, opens_left, leads_opens}
use Rattle.c_parse_expr.proofs.Chains.{list_well, list_cells, list_kind, listed_exact, shorter}
use Rattle.c_parse_expr.proofs.Sorts.{token_opens, mark_kind, expect_exact, name_kind, name_exact, at_head, mark_self}
use Rattle.c_parse_expr.proofs.TypeNames.{type_kind, type_stops, type_exact, type_opens}
use Rattle.c_parse_expr.proofs.Postfixes.{zero_number}
use Rattle.c_parse.specs.Statements.{more_items}
use Rattle.c_parse.specs.Declarations.{pick_number, array_length, length_if_any, signature, Sized, sized, pointer, data_by, pointer_by, field_rest, field, fields, record_fields}
use Rattle.c_parse.proofs.Params.{params_kind, params_exact, params_before_close, type_before_paren, type_before_name}
use Rattle.c_parse.proofs.Rights.{other_mark}
use Rattle.c_parse.proofs.Leads.{base_more, brace_ends}

abbrev number_kind : Kind Number
number_kind = one_kind (λ n. Unit {0}) token.Number

number_exact : (ts : List Token) → Exact number_kind ts (one pick_number ts)
number_exact ts = one_exact (λ n. Unit {0}) token.Number pick_number (λ n w. refl) from ts
  where
    from : (t : Token) (n : Number) → pick_number t ≡ Some n → Unit {0} × (t ≡ token.Number n)
    from (token.Number x) n e = (tt, cc)
    from (token.Identifier x) n e = cc
    from (token.Keyword x) n e = cc
    from (token.Reserved x) n e = cc
    from (token.Text x) n e = cc
    from (token.Character x) n e = cc
    from (token.Mark x) n e = cc

abbrev array_kind : Kind Number
array_kind = record { well = λ n. Unit {0}; cells = λ n. (token.Mark m.LeftBracket, false) ∷ (token.Number n, false) ∷ (token.Mark m.RightBracket, false) ∷ []; stops = λ n rest. Unit {0} }

array_exact : (ts : List Token) → Exact array_kind ts (array_length ts)
unfolding array_length
array_exact ts =
    narrow (both (mark_kind m.LeftBracket) (both number_kind (mark_kind m.RightBracket))) array_kind (λ p. p.1.0) ts (λ p w. tt) (λ p w. refl) (λ p rest w s. tt) (λ p rest w s. tt) (λ n w o. ((tt, (n, tt)), refl, (tt, (tt, tt)))) _
    (seq (mark_kind m.LeftBracket) (both number_kind (mark_kind m.RightBracket)) (λ t u ts w v o. tt) ((zero_number, tt), (tt, tt)) ts _ _ (expect_exact m.LeftBracket ts)
    (λ t rest r s. seq number_kind (mark_kind m.RightBracket) (λ t u ts w v o. tt) (tt, tt) rest _ _ (number_exact rest) (λ t rest r s. expect_exact m.RightBracket rest)))

abbrev pub length_kind : Kind (Option Number)
length_kind = option_kind (sees m.LeftBracket) array_kind

pub length_exact : (ts : List Token) → Exact length_kind ts (length_if_any ts)
unfolding length_if_any
length_exact ts =
    option_exact (sees m.LeftBracket) array_kind (λ n ts w o. at_head (sees m.LeftBracket) (token.Mark m.LeftBracket) ts (leads_opens (token.Mark m.LeftBracket) false (array_kind.cells n) ts (refl, refl) o) true (λ rest. mark_self m.LeftBracket)) ts array_length (λ e. array_exact ts)

pub length_spelled : (o : Option Number) → length_cells o (suc limit) ≡ length_kind.cells o
length_spelled None = refl
length_spelled (Some n) = refl

pub length_any : (o : Option Number) → option_well array_kind o
length_any None = tt
length_any (Some n) = tt

pub length_ends : (o : Option Number) (ts : List Token) → sees m.LeftBracket ts ≡ false → length_kind.stops o ts
length_ends None ts h = h
length_ends (Some n) ts h = tt

abbrev pub signature_cells : Parameters → List Cell
signature_cells ps = (token.Mark m.LeftParen, false) ∷ parameters_cells ps limit ++ ((token.Mark m.RightParen, false) ∷ [])

abbrev pub signature_kind : Kind Parameters
signature_kind = record { well = λ ps. Unit {0}; cells = signature_cells; stops = λ ps rest. Unit {0} }

pub signature_exact : (ts : List Token) → Exact signature_kind ts (signature ts)
unfolding signature
signature_exact ts =
    narrow (both (mark_kind m.LeftParen) (both (params_kind limit) (mark_kind m.RightParen))) signature_kind (λ p. p.1.0) ts (λ p w. tt) (λ p w. refl) (λ p rest w s. tt) (λ p rest w s. tt) (λ ps w o. ((tt, (ps, tt)), refl, (tt, (tt, tt)))) _
    (seq (mark_kind m.LeftParen) (both (params_kind limit) (mark_kind m.RightParen)) (λ t u ts w v o. tt) ((NoParameter, tt), (tt, tt)) ts _ _ (expect_exact m.LeftParen ts)
    (λ t rest r s. seq (params_kind limit) (mark_kind m.RightParen) (λ ps u ts w v o. params_before_close ps ts (token_opens (token.Mark m.RightParen) u ts o)) (tt, tt) rest _ _ (params_exact limit rest) (λ t rest r s. expect_exact m.RightParen rest)))

abbrev pub sized_cells : Sized → List Cell
sized_cells p = (token.Identifier p.0, false) ∷ length_cells p.1 (suc limit)

abbrev pub sized_kind : Kind Sized
sized_kind = record { well = λ p. Unit {0}; cells = sized_cells; stops = λ p rest. length_kind.stops p.1 rest }

pub sized_exact : (ts : List Token) → Exact sized_kind ts (sized ts)
unfolding sized
sized_exact ts =
    subst (Exact sized_kind ts) (same ((name ⊳ length_if_any) ts))
    (narrow (both name_kind length_kind) sized_kind (λ p. p) ts (λ p w. tt) (λ p w. ap (λ c. (token.Identifier p.0, false) ∷ c) (length_spelled p.1)) (λ p rest w h. h) (λ p rest w h. h) (λ p w o. (p, refl, (tt, length_any p.1))) _
    (seq name_kind length_kind (λ t u ts w v o. tt) (None, tt) ts _ _ (name_exact ts) (λ t rest r s. length_exact rest)))
  where
    same : (r : Reads Sized) → made (λ (p : Sized). p) r ≡ r
    same (Ok p) = refl
    same (Err f) = refl

abbrev pub pointer_cells : Sized × Parameters → List Cell
pointer_cells p = (token.Mark m.LeftParen, false) ∷ (token.Mark m.Star, false) ∷ sized_cells p.0 ++ ((token.Mark m.RightParen, false) ∷ signature_cells p.1)

abbrev pub pointer_kind : Kind (Sized × Parameters)
pointer_kind = record { well = λ p. Unit {0}; cells = pointer_cells; stops = λ p rest. Unit {0} }

pub pointer_exact : (ts : List Token) → Exact pointer_kind ts (pointer ts)
unfolding pointer same_mark
pointer_exact ts =
    narrow (both (mark_kind m.LeftParen) (both (mark_kind m.Star) (both sized_kind (both (mark_kind m.RightParen) signature_kind)))) pointer_kind (λ p. (p.1.1.0, p.1.1.1.1)) ts (λ p w. tt) (λ p w. refl) (λ p rest w s. tt) (λ p rest w s. tt)
    (λ p w o. ((tt, (tt, (p.0, (tt, p.1)))), refl, (tt, (tt, (tt, (tt, tt)))))) _
    (seq (mark_kind m.LeftParen) (both (mark_kind m.Star) (both sized_kind (both (mark_kind m.RightParen) signature_kind))) (λ t u ts w v o. tt) ((tt, (([], None), (tt, NoParameter))), (tt, (tt, (tt, tt)))) ts _ _ (expect_exact m.LeftParen ts)
    (λ t rest r s. seq (mark_kind m.Star) (both sized_kind (both (mark_kind m.RightParen) signature_kind)) (λ t u ts w v o. tt) ((([], None), (tt, NoParameter)), (tt, (tt, tt))) rest _ _ (expect_exact m.Star rest)
    (λ t rest r s. seq sized_kind (both (mark_kind m.RightParen) signature_kind) glue ((tt, NoParameter), (tt, tt)) rest _ _ (sized_exact rest)
    (λ t rest r s. seq (mark_kind m.RightParen) signature_kind (λ t u ts w v o. tt) (NoParameter, tt) rest _ _ (expect_exact m.RightParen rest) (λ t rest r s. signature_exact rest)))))
  where
    glue : (p : Sized) (u : Unit {0} × Parameters) (ts : List Token) → Unit {0} → Unit {0} × Unit {0} → Opens ((both (mark_kind m.RightParen) signature_kind).cells u) ts → length_kind.stops p.1 ts
    glue p u ts w v o = length_ends p.1 ts (other_mark m.RightParen m.LeftBracket refl ts (leads_opens (token.Mark m.RightParen) false ((both (mark_kind m.RightParen) signature_kind).cells u) ts (refl, refl) o))

-- ---- fields

abbrev pub object_type : Object → TypeName
object_type (Data t x n) = t
object_type (Pointer t x n ps) = t

abbrev object_rest : Object → List Cell
object_rest (Data t x n) = sized_cells (x, n)
object_rest (Pointer t x n ps) = pointer_cells ((x, n), ps)

abbrev object_stops : Object → List Token → Type 0
object_stops (Data t x n) rest = length_kind.stops n rest
object_stops (Pointer t x n ps) rest = Unit {0}

abbrev is_pointer : Object → Bool
is_pointer (Data t x n) = false
is_pointer (Pointer t x n ps) = true

abbrev rest_kind : TypeName → Kind Object
rest_kind t = record { well = λ o. object_type o ≡ t; cells = object_rest; stops = object_stops }

rest_sees : (o : Object) (ts : List Token) → Opens (object_rest o) ts → sees m.LeftParen ts ≡ is_pointer o
unfolding same_mark
rest_sees (Data t x n) ts o = at_head (sees m.LeftParen) (token.Identifier x) ts (leads_opens (token.Identifier x) false (object_rest (Data t x n)) ts (refl, refl) o) false (λ rest. refl)
rest_sees (Pointer t x n ps) ts o = at_head (sees m.LeftParen) (token.Mark m.LeftParen) ts (leads_opens (token.Mark m.LeftParen) false (object_rest (Pointer t x n ps)) ts (refl, refl) o) true (λ rest. refl)

rest_exact : (t : TypeName) (ts : List Token) → Exact (rest_kind t) ts (field_rest t ts)
unfolding field_rest
rest_exact t ts =
    choose_exact (rest_kind t) ts (sees m.LeftParen) (build (pointer_by t) pointer) (build (data_by t) sized)
    (λ e. narrow pointer_kind (rest_kind t) (pointer_by t) ts (λ p w. refl) (λ p w. refl) (λ p rest w s. tt) (λ p rest w s. tt) (λ o w q. pointers o w (sym (rest_sees o ts q) ∙ e)) _ (pointer_exact ts))
    (λ e. narrow sized_kind (rest_kind t) (data_by t) ts (λ p w. refl) (λ p w. refl) (λ p rest w s. s) (λ p rest w s. s) (λ o w q. datas o w (sym (rest_sees o ts q) ∙ e)) _ (sized_exact ts))
  where
    pointers : (o : Object) → object_type o ≡ t → is_pointer o ≡ true → (p : Sized × Parameters) × (pointer_by t p ≡ o) × Unit {0}
    pointers (Pointer s x n ps) w e = (((x, n), ps), ap (λ s. Pointer s x n ps) (sym w), tt)
    pointers (Data s x n) w e = absurd (cc)

    datas : (o : Object) → object_type o ≡ t → is_pointer o ≡ false → (p : Sized) × (data_by t p ≡ o) × Unit {0}
    datas (Data s x n) w e = ((x, n), ap (λ s. Data s x n) (sym w), tt)
    datas (Pointer s x n ps) w e = absurd (cc)

type_glue : (t : TypeName) (o : Object) (ts : List Token) → Opens (object_rest o) ts → type_stops limit t ts
type_glue t (Data s x n) ts o = type_before_name limit t x ts (leads_opens (token.Identifier x) false (object_rest (Data s x n)) ts (refl, refl) o)
type_glue t (Pointer s x n ps) ts o = type_before_paren limit t ts (leads_opens (token.Mark m.LeftParen) false (object_rest (Pointer s x n ps)) ts (refl, refl) o)

pub object_spelled : (o : Object) → object_cells o (suc limit) ≡ type_cells (object_type o) (suc limit) ++ object_rest o
object_spelled (Data t x n) = refl
object_spelled (Pointer t x n ps) = refl

abbrev object_kind : Kind (TypeName × Object)
object_kind = both_on (type_kind limit) rest_kind

object_exact : (ts : List Token) → Exact object_kind ts (then_by type_name field_rest ts)
object_exact ts = seq_on (type_kind limit) rest_kind (λ t o ts w v q. type_glue t o ts q) (λ t w. (Data t [] None, refl)) ts _ _ (type_exact limit ts) (λ t rest r s. rest_exact t rest)

abbrev pub field_kind : Kind Object
field_kind = record { well = λ o. Unit {0}; cells = λ o. object_cells o (suc limit) ++ ((token.Mark m.Semicolon, false) ∷ []); stops = λ o rest. Unit {0} }

field_exact : (ts : List Token) → Exact field_kind ts (field ts)
unfolding field same_mark
field_exact ts =
    narrow (both object_kind (mark_kind m.Semicolon)) field_kind (λ p. p.0.1) ts (λ p w. tt) (λ p w. spelled p.0.0 p.0.1 w.0.1) (λ p rest w s. tt) (λ p rest w s. tt) (λ o w q. (((object_type o, o), tt), refl, ((tt, refl), tt))) _
    (seq object_kind (mark_kind m.Semicolon) (λ p u ts w v o. ends p.1 ts (token_opens (token.Mark m.Semicolon) u ts o)) (tt, tt) ts _ _ (object_exact ts) (λ t rest r s. expect_exact m.Semicolon rest))
  where
    spelled : (t : TypeName) (o : Object) → object_type o ≡ t → object_cells o (suc limit) ++ ((token.Mark m.Semicolon, false) ∷ []) ≡ (type_cells t (suc limit) ++ object_rest o) ++ ((token.Mark m.Semicolon, false) ∷ [])
    spelled t o w = ap (λ c. c ++ ((token.Mark m.Semicolon, false) ∷ [])) (object_spelled o ∙ ap (λ t. type_cells t (suc limit) ++ object_rest o) w)

    ends : (o : Object) (ts : List Token) → Heads (token.Mark m.Semicolon) ts → object_stops o ts
    ends (Data t x n) ts h = length_ends n ts (other_mark m.Semicolon m.LeftBracket refl ts h)
    ends (Pointer t x n ps) ts h = tt

field_more : (o : Object) (ts : List Token) → Opens (field_kind.cells o) ts → more_items ts ≡ true
field_more o ts q = type_opens limit more_items true (object_type o) (object_rest o) ts (subst (λ c. Opens c ts) (object_spelled o) (opens_left (object_cells o (suc limit)) ((token.Mark m.Semicolon, false) ∷ []) ts q)) (base_more (object_type o).base)

abbrev after_fields : List Token → Type 0
after_fields rest = more_items rest ≡ false

abbrev fields_kind : Kind (List Object)
fields_kind = list_kind field_kind after_fields

fields_exact : (ts : List Token) → Exact fields_kind ts (fields ts)
unfolding fields
fields_exact ts =
    listed_exact field_kind more_items field after_fields (λ ts. Unit {0}) (λ o ts w q. field_more o ts q) refl (λ o u ts w v q. tt) (λ o ts w h. tt) (λ o ts h. tt) (λ ts b e. e) (λ ts h. h) (λ ts e. field_exact ts) (length ts) ts (omega arith) tt

fields_spelled : (os : List Object) → objects_cells os (suc limit) ≡ list_cells field_kind os
fields_spelled [] = refl
fields_spelled (o ∷ os) = ap (λ c. object_cells o (suc limit) ++ ((token.Mark m.Semicolon, false) ∷ c)) (fields_spelled os) ∙ sym (append_assoc (object_cells o (suc limit)) ((token.Mark m.Semicolon, false) ∷ []) (list_cells field_kind os))

all_fields : (os : List Object) → list_well field_kind os
all_fields [] = tt
all_fields (o ∷ os) = (tt, all_fields os)

abbrev pub record_cells : List Object → List Cell
record_cells os = (token.Mark m.LeftBrace, false) ∷ objects_cells os (suc limit) ++ ((token.Mark m.RightBrace, false) ∷ (token.Mark m.Semicolon, false) ∷ [])

abbrev pub record_kind : Kind (List Object)
record_kind = record { well = λ os. Unit {0}; cells = record_cells; stops = λ os rest. Unit {0} }

pub record_exact : (ts : List Token) → Exact record_kind ts (record_fields ts)
unfolding record_fields
record_exact ts =
    narrow (both (mark_kind m.LeftBrace) (both fields_kind (both (mark_kind m.RightBrace) (mark_kind m.Semicolon)))) record_kind (λ p. p.1.0) ts (λ p w. tt)
    (λ p w. ap (λ c. (token.Mark m.LeftBrace, false) ∷ c ++ ((token.Mark m.RightBrace, false) ∷ (token.Mark m.Semicolon, false) ∷ [])) (fields_spelled p.1.0)) (λ p rest w s. tt) (λ p rest w s. tt)
    (λ os w o. ((tt, (os, (tt, tt))), refl, (tt, (all_fields os, (tt, tt))))) _
    (seq (mark_kind m.LeftBrace) (both fields_kind (both (mark_kind m.RightBrace) (mark_kind m.Semicolon))) (λ t u ts w v o. tt) (([], (tt, tt)), (tt, (tt, tt))) ts _ _ (expect_exact m.LeftBrace ts)
    (λ t rest r s. seq fields_kind (both (mark_kind m.RightBrace) (mark_kind m.Semicolon)) (λ os u ts w v o. brace_ends ts (leads_opens (token.Mark m.RightBrace) false ((both (mark_kind m.RightBrace) (mark_kind m.Semicolon)).cells u) ts (refl, refl) o)) ((tt, tt), (tt, tt)) rest _ _ (fields_exact rest)
    (λ t rest r s. seq (mark_kind m.RightBrace) (mark_kind m.Semicolon) (λ t u ts w v o. tt) (tt, tt) rest _ _ (expect_exact m.RightBrace rest) (λ t rest r s. expect_exact m.Semicolon rest))))

-- ---- what is read takes a token at least

pub field_falls : (ts : List Token) (o : Object) (rest : List Token) → field ts ≡ Ok (o, rest) → length rest < length ts
field_falls ts o rest e =
    let known : Sound field_kind ts (Ok (o, rest)) = subst (Sound field_kind ts) e (field_exact ts).sound in
    shorter (field_kind.cells o) ts rest (λ h. let f = field_more o [] h in cc) known.1
