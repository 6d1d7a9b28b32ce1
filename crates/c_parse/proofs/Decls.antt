-- Reading a declaration is exact.
use Rattle.std.proofs.Common.{◌≡◌, ◌∙◌, refl, sym, ap, ℕ, zero, suc, Bool, true, false, List, [], ◌∷◌, ◌++◌, append_assoc, Option, Some, None}
use Rattle.std.specs.Prelude.{◌&&◌}
use Rattle.c_ast.specs.declared.token.Token.{Token}
use Rattle.c_ast.specs.declared.token.Token.TheVariants as token
use Rattle.c_ast.specs.declared.token.Number.{Number}
use Rattle.c_ast.specs.declared.token.Mark.{Mark}
use Rattle.c_ast.specs.declared.token.Mark.TheVariants as m
use Rattle.c_ast.specs.declared.types.UnsignedType.TheVariants as u
use Rattle.c_ast.specs.declared.types.BaseType.{BaseType}
use Rattle.c_ast.specs.declared.types.BaseType.TheVariants as base
use Rattle.c_ast.specs.declared.types.TypeName.{TypeName}
use Rattle.c_ast.specs.Trees.{Text, Parameters, Statements, Object, Data, Pointer, Initializer, Declaration, Record, Global, Prototype, Definition}
use Rattle.c_ast.specs.Cells.{Cell}
use Rattle.c_ast.specs.Grammar.{limit, star_limit, base_cells, star_cells, type_cells, length_cells, AreStatements, block_cells, IsInitializerIfAny, initial_cells, IsDeclaration, declaration_cells}
use Rattle.c_parse_expr.specs.Reads.{made, build, ◌⊳◌, then_by}
use Rattle.c_parse_expr.specs.Reading.{same_mark, same_keyword, sees, more_unsigned, expect, name, base_type, stars, type_of}
use Rattle.c_parse_expr.proofs.Exact.{Kind, Exact, Opens, both, both_on, seq, seq_on, narrow, choose_exact, leads_opens}
use Rattle.c_parse_expr.proofs.Sorts.{token_opens, mark_kind, expect_exact, name_kind, name_exact, at_head, mark_self}
use Rattle.c_parse_expr.proofs.TypeNames.{base_kind, base_stops, base_exact, stars_kind, stars_exact}
use Rattle.c_parse.specs.Statements.{block}
use Rattle.c_parse.specs.Declarations.{start_or_end, body_if_any, Sized, record_fields, Rest, PointerRest, FunctionRest, DataRest, pointer_rest, function_rest, data_rest, named_rest, rest, declaration_by, After, Fields, Starred, is_tagged, declares, after, declaration_after, decl}
use Rattle.c_parse.proofs.Params.{and_false}
use Rattle.c_parse.proofs.Rights.{other_mark}
use Rattle.c_parse.proofs.Stmts.{block_kind, block_exact}
use Rattle.c_parse.proofs.Inits.{initial_kind, initial_exact, initial_ends, initial_spelled, initial_any, any_initial}
use Rattle.c_parse.proofs.Objects.{length_kind, length_exact, length_spelled, length_any, length_ends, signature_cells, signature_kind, signature_exact, pointer_cells, pointer_kind, pointer_exact, record_cells, record_kind, record_exact}

-- ---- ends of declarations

abbrev end_cells : Option Initializer → List Cell
end_cells i = initial_cells i (suc limit) ++ ((token.Mark m.Semicolon, false) ∷ [])

abbrev end_kind : Kind (Option Initializer)
end_kind = record { well = IsInitializerIfAny; cells = end_cells; stops = λ i rest. Unit {0} }

end_exact : (ts : List Token) → Exact end_kind ts (start_or_end ts)
unfolding start_or_end
end_exact ts =
    narrow (both initial_kind (mark_kind m.Semicolon)) end_kind (λ p. p.0) ts (λ p w. initial_any p.0 w.0) (λ p w. ap (λ c. c ++ ((token.Mark m.Semicolon, false) ∷ [])) (initial_spelled p.0)) (λ p rest w s. tt) (λ p rest w s. tt) (λ i w o. ((i, tt), refl, (any_initial i w, tt))) _
    (seq initial_kind (mark_kind m.Semicolon) (λ i u ts w v o. initial_ends i ts (token_opens (token.Mark m.Semicolon) u ts o)) (tt, tt) ts _ _ (initial_exact ts) (λ t rest r s. expect_exact m.Semicolon rest))

abbrev body_well : Option Statements → Type 0
body_well None = Unit {0}
body_well (Some ss) = AreStatements ss

abbrev body_cells : Option Statements → List Cell
body_cells None = (token.Mark m.Semicolon, false) ∷ []
body_cells (Some ss) = block_cells ss limit

abbrev body_kind : Kind (Option Statements)
body_kind = record { well = body_well; cells = body_cells; stops = λ o rest. Unit {0} }

abbrev is_none : {A : Type 0} → Option A → Bool
is_none None = true
is_none (Some a) = false

body_sees : (o : Option Statements) (ts : List Token) → Opens (body_cells o) ts → sees m.Semicolon ts ≡ is_none o
unfolding same_mark
body_sees None ts o = at_head (sees m.Semicolon) (token.Mark m.Semicolon) ts (leads_opens (token.Mark m.Semicolon) false (body_cells None) ts (refl, refl) o) true (λ rest. refl)
body_sees (Some ss) ts o = other_mark m.LeftBrace m.Semicolon refl ts (leads_opens (token.Mark m.LeftBrace) false (body_cells (Some ss)) ts (refl, refl) o)

body_exact : (ts : List Token) → Exact body_kind ts (body_if_any ts)
unfolding body_if_any
body_exact ts =
    choose_exact body_kind ts (sees m.Semicolon) (build (λ u. None) (expect m.Semicolon)) (build Some (block limit))
    (λ e. narrow (mark_kind m.Semicolon) body_kind (λ u. None) ts (λ u w. tt) (λ u w. refl) (λ u rest w s. tt) (λ u rest w s. tt) (λ o w q. nones o (sym (body_sees o ts q) ∙ e)) _ (expect_exact m.Semicolon ts))
    (λ e. narrow (block_kind limit) body_kind Some ts (λ ss w. w) (λ ss w. refl) (λ ss rest w s. tt) (λ ss rest w s. tt) (λ o w q. somes o w (sym (body_sees o ts q) ∙ e)) _ (block_exact limit ts))
  where
    nones : (o : Option Statements) → is_none o ≡ true → (u : Unit {0}) × (◌≡◌ {A = Option Statements} None o) × Unit {0}
    nones None e = (tt, refl, tt)
    nones (Some ss) e = absurd (cc)

    somes : (o : Option Statements) → body_well o → is_none o ≡ false → (ss : Statements) × (Some ss ≡ o) × AreStatements ss
    somes (Some ss) w e = (ss, refl, w)
    somes None w e = absurd (cc)

-- ---- what follows a declaration's type

abbrev rest_well : Rest → Type 0
rest_well (PointerRest p i) = IsInitializerIfAny i
rest_well (FunctionRest x ps body) = body_well body
rest_well (DataRest x n i) = IsInitializerIfAny i

abbrev named_cells : Rest → List Cell
named_cells (PointerRest p i) = []
named_cells (FunctionRest x ps body) = signature_cells ps ++ body_cells body
named_cells (DataRest x n i) = length_cells n (suc limit) ++ end_cells i

abbrev rest_cells : Rest → List Cell
rest_cells (PointerRest p i) = pointer_cells p ++ end_cells i
rest_cells (FunctionRest x ps body) = (token.Identifier x, false) ∷ named_cells (FunctionRest x ps body)
rest_cells (DataRest x n i) = (token.Identifier x, false) ∷ named_cells (DataRest x n i)

abbrev rest_kind : Kind Rest
rest_kind = record { well = rest_well; cells = rest_cells; stops = λ r rest. Unit {0} }

-- that of this name
abbrev named_well : Text → Rest → Type 0
named_well x (PointerRest p i) = ⊥
named_well x (FunctionRest y ps body) = (y ≡ x) × body_well body
named_well x (DataRest y n i) = (y ≡ x) × IsInitializerIfAny i

abbrev named_kind : Text → Kind Rest
named_kind x = record { well = named_well x; cells = named_cells; stops = λ r rest. Unit {0} }

abbrev is_function : Rest → Bool
is_function (FunctionRest x ps body) = true
is_function _ = false

end_opens : (i : Option Initializer) (b : Mark) → Rattle.c_parse_expr.specs.Reading.is_mark b (token.Mark m.Assign) ≡ false → Rattle.c_parse_expr.specs.Reading.is_mark b (token.Mark m.Semicolon) ≡ false → (ts : List Token) → Opens (end_cells i) ts → sees b ts ≡ false
end_opens None b p q ts o = other_mark m.Semicolon b q ts (leads_opens (token.Mark m.Semicolon) false (end_cells None) ts (refl, refl) o)
end_opens (Some i) b p q ts o = other_mark m.Assign b p ts (leads_opens (token.Mark m.Assign) false (end_cells (Some i)) ts (refl, refl) o)

named_sees : (x : Text) (r : Rest) (ts : List Token) → named_well x r → Opens (named_cells r) ts → sees m.LeftParen ts ≡ is_function r
unfolding same_mark
named_sees x (PointerRest p i) ts w o = absurd w
named_sees x (FunctionRest y ps body) ts w o = at_head (sees m.LeftParen) (token.Mark m.LeftParen) ts (leads_opens (token.Mark m.LeftParen) false (named_cells (FunctionRest y ps body)) ts (refl, refl) o) true (λ rest. refl)
named_sees x (DataRest y None i) ts w o = end_opens i m.LeftParen refl refl ts o
named_sees x (DataRest y (Some n) i) ts w o = other_mark m.LeftBracket m.LeftParen refl ts (leads_opens (token.Mark m.LeftBracket) false (named_cells (DataRest y (Some n) i)) ts (refl, refl) o)

named_exact : (x : Text) (ts : List Token) → Exact (named_kind x) ts (named_rest x ts)
unfolding named_rest function_rest data_rest same_mark
named_exact x ts = choose_exact (named_kind x) ts (sees m.LeftParen) (function_rest x) (data_rest x) functions datas
  where
    pick_function : (r : Rest) → named_well x r → is_function r ≡ true → (p : Parameters × Option Statements) × (FunctionRest x p.0 p.1 ≡ r) × (Unit {0} × body_well p.1)
    pick_function (FunctionRest y ps body) w e = ((ps, body), ap (λ y. FunctionRest y ps body) (sym w.0), (tt, w.1))
    pick_function (PointerRest p i) w e = absurd w
    pick_function (DataRest y n i) w e = absurd (cc)

    pick_data : (r : Rest) → named_well x r → is_function r ≡ false → (p : Option Number × Option Initializer) × (DataRest x p.0 p.1 ≡ r) × (length_kind.well p.0 × IsInitializerIfAny p.1)
    pick_data (DataRest y n i) w e = ((n, i), ap (λ y. DataRest y n i) (sym w.0), (length_any n, w.1))
    pick_data (PointerRest p i) w e = absurd w
    pick_data (FunctionRest y ps body) w e = absurd (cc)

    functions : sees m.LeftParen ts ≡ true → Exact (named_kind x) ts (function_rest x ts)
    functions e =
        narrow (both signature_kind body_kind) (named_kind x) (λ p. FunctionRest x p.0 p.1) ts (λ p w. (refl, w.1)) (λ p w. refl) (λ p rest w s. tt) (λ p rest w s. tt) (λ r w o. pick_function r w (sym (named_sees x r ts w o) ∙ e)) _
        (seq signature_kind body_kind (λ t u ts w v o. tt) (None, tt) ts _ _ (signature_exact ts) (λ t rest r s. body_exact rest))

    datas : sees m.LeftParen ts ≡ false → Exact (named_kind x) ts (data_rest x ts)
    datas e =
        narrow (both length_kind end_kind) (named_kind x) (λ p. DataRest x p.0 p.1) ts (λ p w. (refl, w.1)) (λ p w. ap (λ c. c ++ end_cells p.1) (length_spelled p.0)) (λ p rest w s. tt) (λ p rest w s. tt) (λ r w o. pick_data r w (sym (named_sees x r ts w o) ∙ e)) _
        (seq length_kind end_kind (λ n i ts w v o. length_ends n ts (end_opens i m.LeftBracket refl refl ts o)) (None, tt) ts _ _ (length_exact ts) (λ t rest r s. end_exact rest))

abbrev is_pointer : Rest → Bool
is_pointer (PointerRest p i) = true
is_pointer _ = false

rest_sees : (r : Rest) (ts : List Token) → Opens (rest_cells r) ts → sees m.LeftParen ts ≡ is_pointer r
unfolding same_mark
rest_sees (PointerRest p i) ts o = at_head (sees m.LeftParen) (token.Mark m.LeftParen) ts (leads_opens (token.Mark m.LeftParen) false (rest_cells (PointerRest p i)) ts (refl, refl) o) true (λ rest. refl)
rest_sees (FunctionRest x ps body) ts o = at_head (sees m.LeftParen) (token.Identifier x) ts (leads_opens (token.Identifier x) false (rest_cells (FunctionRest x ps body)) ts (refl, refl) o) false (λ rest. refl)
rest_sees (DataRest x n i) ts o = at_head (sees m.LeftParen) (token.Identifier x) ts (leads_opens (token.Identifier x) false (rest_cells (DataRest x n i)) ts (refl, refl) o) false (λ rest. refl)

rest_exact : (ts : List Token) → Exact rest_kind ts (rest ts)
unfolding rest pointer_rest
rest_exact ts = choose_exact rest_kind ts (sees m.LeftParen) pointer_rest (build (λ p. p.1) (then_by name named_rest)) pointers named
  where
    pick_pointer : (r : Rest) → rest_well r → is_pointer r ≡ true → (p : (Sized × Parameters) × Option Initializer) × (PointerRest p.0 p.1 ≡ r) × (Unit {0} × IsInitializerIfAny p.1)
    pick_pointer (PointerRest p i) w e = ((p, i), refl, (tt, w))
    pick_pointer (FunctionRest x ps body) w e = absurd (cc)
    pick_pointer (DataRest x n i) w e = absurd (cc)

    pointers : sees m.LeftParen ts ≡ true → Exact rest_kind ts (pointer_rest ts)
    pointers e =
        narrow (both pointer_kind end_kind) rest_kind (λ p. PointerRest p.0 p.1) ts (λ p w. w.1) (λ p w. refl) (λ p rest w s. tt) (λ p rest w s. tt) (λ r w o. pick_pointer r w (sym (rest_sees r ts o) ∙ e)) _
        (seq pointer_kind end_kind (λ t u ts w v o. tt) (None, tt) ts _ _ (pointer_exact ts) (λ t rest r s. end_exact rest))

    fits : (x : Text) (r : Rest) → named_well x r → rest_well r
    fits x (PointerRest p i) w = absurd w
    fits x (FunctionRest y ps body) w = w.1
    fits x (DataRest y n i) w = w.1

    spelled : (x : Text) (r : Rest) → named_well x r → rest_cells r ≡ (token.Identifier x, false) ∷ named_cells r
    spelled x (PointerRest p i) w = absurd w
    spelled x (FunctionRest y ps body) w = ap (λ y. (token.Identifier y, false) ∷ named_cells (FunctionRest [] ps body)) w.0
    spelled x (DataRest y n i) w = ap (λ y. (token.Identifier y, false) ∷ named_cells (DataRest [] n i)) w.0

    pick_named : (r : Rest) → rest_well r → is_pointer r ≡ false → (p : Text × Rest) × (p.1 ≡ r) × (Unit {0} × named_well p.0 p.1)
    pick_named (FunctionRest x ps body) w e = ((x, FunctionRest x ps body), refl, (tt, (refl, w)))
    pick_named (DataRest x n i) w e = ((x, DataRest x n i), refl, (tt, (refl, w)))
    pick_named (PointerRest p i) w e = absurd (cc)

    named : sees m.LeftParen ts ≡ false → Exact rest_kind ts (made (λ (p : Text × Rest). p.1) (then_by name named_rest ts))
    named e =
        narrow (both_on name_kind named_kind) rest_kind (λ p. p.1) ts (λ p w. fits p.0 p.1 w.1) (λ p w. spelled p.0 p.1 w.1) (λ p rest w s. tt) (λ p rest w s. tt) (λ r w o. pick_named r w (sym (rest_sees r ts o) ∙ e)) _
        (seq_on name_kind named_kind (λ t u ts w v o. tt) (λ x w. (DataRest x None None, (refl, tt))) ts _ _ (name_exact ts) (λ x rest r s. named_exact x rest))

-- ---- what follows a declaration's type without stars

abbrev after_well : BaseType → After → Type 0
after_well b (Fields fs) = is_tagged b ≡ true
after_well b (Starred n r) = rest_well r

abbrev after_cells : After → List Cell
after_cells (Fields fs) = record_cells fs
after_cells (Starred n r) = star_cells n star_limit (suc limit) ++ rest_cells r

abbrev after_kind : BaseType → Kind After
after_kind b = record { well = after_well b; cells = after_cells; stops = λ a rest. Unit {0} }

rest_lead : Rest → Token
rest_lead (PointerRest p i) = token.Mark m.LeftParen
rest_lead (FunctionRest x ps body) = token.Identifier x
rest_lead (DataRest x n i) = token.Identifier x

rest_opens : {A : Type 0} (f : List Token → A) (v : A) → ((rest : List Token) → f (token.Mark m.LeftParen ∷ rest) ≡ v) → ((x : Text) (rest : List Token) → f (token.Identifier x ∷ rest) ≡ v) → (r : Rest) (ts : List Token) → Opens (rest_cells r) ts → f ts ≡ v
rest_opens f v a b (PointerRest p i) ts o = at_head f (token.Mark m.LeftParen) ts (leads_opens (token.Mark m.LeftParen) false (rest_cells (PointerRest p i)) ts (refl, refl) o) v a
rest_opens f v a b (FunctionRest x ps body) ts o = at_head f (token.Identifier x) ts (leads_opens (token.Identifier x) false (rest_cells (FunctionRest x ps body)) ts (refl, refl) o) v (b x)
rest_opens f v a b (DataRest x n i) ts o = at_head f (token.Identifier x) ts (leads_opens (token.Identifier x) false (rest_cells (DataRest x n i)) ts (refl, refl) o) v (b x)

starred_opens : {A : Type 0} (f : List Token → A) (v : A) → ((rest : List Token) → f (token.Mark m.Star ∷ rest) ≡ v) → ((rest : List Token) → f (token.Mark m.LeftParen ∷ rest) ≡ v) → ((x : Text) (rest : List Token) → f (token.Identifier x ∷ rest) ≡ v)
    → (n : ℕ) (r : Rest) (ts : List Token) → Opens (star_cells n star_limit (suc limit) ++ rest_cells r) ts → f ts ≡ v
starred_opens f v s a b zero r ts o = rest_opens f v a b r ts o
starred_opens f v s a b (suc n) r ts o =
    at_head f (token.Mark m.Star) ts (leads_opens (token.Mark m.Star) false (star_cells (suc n) star_limit (suc limit) ++ rest_cells r) ts (refl, refl) o) v s

declares_fields : (b : BaseType) (fs : List Object) (ts : List Token) → is_tagged b ≡ true → Opens (record_cells fs) ts → declares b ts ≡ true
declares_fields b fs ts w o = ap (λ c. c && sees m.LeftBrace ts) w ∙ at_head (sees m.LeftBrace) (token.Mark m.LeftBrace) ts (leads_opens (token.Mark m.LeftBrace) false (record_cells fs) ts (refl, refl) o) true (λ rest. mark_self m.LeftBrace)

declares_not : (b : BaseType) (n : ℕ) (r : Rest) (ts : List Token) → Opens (after_cells (Starred n r)) ts → declares b ts ≡ false
unfolding same_mark
declares_not b n r ts o = and_false (is_tagged b) (sees m.LeftBrace ts) (starred_opens (sees m.LeftBrace) false (λ rest. refl) (λ rest. refl) (λ x rest. refl) n r ts o)

abbrev is_fields : After → Bool
is_fields (Fields fs) = true
is_fields (Starred n r) = false

after_sees : (b : BaseType) (a : After) (ts : List Token) → after_well b a → Opens (after_cells a) ts → declares b ts ≡ is_fields a
after_sees b (Fields fs) ts w o = declares_fields b fs ts w o
after_sees b (Starred n r) ts w o = declares_not b n r ts o

and_left : (a b : Bool) → (a && b) ≡ true → a ≡ true
and_left true b e = refl
and_left false b e = cc

after_exact : (b : BaseType) (ts : List Token) → Exact (after_kind b) ts (after b ts)
unfolding after same_mark
after_exact b ts = choose_exact (after_kind b) ts (declares b) (build Fields record_fields) (build (λ p. Starred p.0 p.1) (stars ⊳ rest)) records others
  where
    pick_fields : (a : After) → after_well b a → is_fields a ≡ true → (fs : List Object) × (Fields fs ≡ a) × Unit {0}
    pick_fields (Fields fs) w e = (fs, refl, tt)
    pick_fields (Starred n r) w e = absurd (cc)

    pick_starred : (a : After) → after_well b a → is_fields a ≡ false → (p : ℕ × Rest) × (Starred p.0 p.1 ≡ a) × (Unit {0} × rest_well p.1)
    pick_starred (Starred n r) w e = ((n, r), refl, (tt, w))
    pick_starred (Fields fs) w e = absurd (cc)

    records : declares b ts ≡ true → Exact (after_kind b) ts (made Fields (record_fields ts))
    records e = narrow record_kind (after_kind b) Fields ts (λ fs w. and_left (is_tagged b) (sees m.LeftBrace ts) e) (λ fs w. refl) (λ fs rest w s. tt) (λ fs rest w s. tt) (λ a w o. pick_fields a w (sym (after_sees b a ts w o) ∙ e)) _ (record_exact ts)

    others : declares b ts ≡ false → Exact (after_kind b) ts (made (λ (p : ℕ × Rest). Starred p.0 p.1) ((stars ⊳ rest) ts))
    others e =
        narrow (both (stars_kind limit) rest_kind) (after_kind b) (λ p. Starred p.0 p.1) ts (λ p w. w.1) (λ p w. refl) (λ p rest w s. tt) (λ p rest w s. tt) (λ a w o. pick_starred a w (sym (after_sees b a ts w o) ∙ e)) _
        (seq (stars_kind limit) rest_kind (λ n r ts w v o. rest_opens (sees m.Star) false (λ rest. refl) (λ x rest. refl) r ts o) (DataRest [] None None, tt) ts _ _ (stars_exact limit ts) (λ t rest r s. rest_exact rest))

-- ---- declarations

base_ends : (b : BaseType) (ts : List Token) → more_unsigned ts ≡ false → base_stops b ts
base_ends (base.Unsigned u.Plain) ts f = f
base_ends (base.Unsigned u.Char) ts f = tt
base_ends (base.Unsigned u.Short) ts f = tt
base_ends (base.Unsigned u.Int) ts f = tt
base_ends (base.Unsigned u.LongLong) ts f = tt
base_ends base.Void ts f = tt
base_ends base.Char ts f = tt
base_ends base.Short ts f = tt
base_ends base.Int ts f = tt
base_ends base.LongLong ts f = tt
base_ends (base.Tagged t x) ts f = tt

after_ends : (b : BaseType) (a : After) (ts : List Token) → Opens (after_cells a) ts → base_stops b ts
unfolding same_mark same_keyword
after_ends b (Fields fs) ts o = base_ends b ts (at_head more_unsigned (token.Mark m.LeftBrace) ts (leads_opens (token.Mark m.LeftBrace) false (record_cells fs) ts (refl, refl) o) false (λ rest. refl))
after_ends b (Starred n r) ts o = base_ends b ts (starred_opens more_unsigned false (λ rest. refl) (λ rest. refl) (λ x rest. refl) n r ts o)

abbrev pub declaration_kind : Kind Declaration
declaration_kind = record { well = IsDeclaration; cells = λ d. declaration_cells d (suc limit); stops = λ d rest. Unit {0} }

pub decl_exact : (ts : List Token) → Exact declaration_kind ts (decl ts)
unfolding decl
decl_exact ts =
    narrow (both_on (base_kind limit) after_kind) declaration_kind (λ p. declaration_after p.0 p.1) ts (λ p w. fits p.0 p.1 w.1) (λ p w. spelled p.0 p.1 w.1) (λ p rest w s. tt) (λ p rest w s. tt) (λ d w o. back d w) _
    (seq_on (base_kind limit) after_kind (λ b a ts w v o. after_ends b a ts o) (λ b w. (Starred 0 (DataRest [] None None), tt)) ts _ _ (base_exact limit ts) (λ b rest r s. after_exact b rest))
  where
    rest_fits : (t : TypeName) (r : Rest) → rest_well r → IsDeclaration (declaration_by t r)
    rest_fits t (PointerRest p i) w = w
    rest_fits t (FunctionRest x ps None) w = tt
    rest_fits t (FunctionRest x ps (Some ss)) w = w
    rest_fits t (DataRest x n i) w = w

    fits : (b : BaseType) (a : After) → after_well b a → IsDeclaration (declaration_after b a)
    fits (base.Tagged t x) (Fields fs) w = tt
    fits base.Void (Fields fs) w = absurd (cc)
    fits base.Char (Fields fs) w = absurd (cc)
    fits base.Short (Fields fs) w = absurd (cc)
    fits base.Int (Fields fs) w = absurd (cc)
    fits base.LongLong (Fields fs) w = absurd (cc)
    fits (base.Unsigned u) (Fields fs) w = absurd (cc)
    fits b (Starred n r) w = rest_fits (type_of (b, n)) r w

    rest_spelled : (t : TypeName) (r : Rest) → declaration_cells (declaration_by t r) (suc limit) ≡ type_cells t (suc limit) ++ rest_cells r
    rest_spelled t (PointerRest p i) = append_assoc (type_cells t (suc limit)) (pointer_cells p) (end_cells i)
    rest_spelled t (DataRest x n i) = append_assoc (type_cells t (suc limit)) ((token.Identifier x, false) ∷ length_cells n (suc limit)) (end_cells i)
    rest_spelled t (FunctionRest x ps None) = append_assoc (type_cells t (suc limit)) ((token.Identifier x, false) ∷ signature_cells ps) ((token.Mark m.Semicolon, false) ∷ [])
    rest_spelled t (FunctionRest x ps (Some ss)) = append_assoc (type_cells t (suc limit)) ((token.Identifier x, false) ∷ signature_cells ps) (block_cells ss limit)

    spelled : (b : BaseType) (a : After) → after_well b a → declaration_cells (declaration_after b a) (suc limit) ≡ base_cells b (suc limit) ++ after_cells a
    spelled (base.Tagged t x) (Fields fs) w = refl
    spelled base.Void (Fields fs) w = absurd (cc)
    spelled base.Char (Fields fs) w = absurd (cc)
    spelled base.Short (Fields fs) w = absurd (cc)
    spelled base.Int (Fields fs) w = absurd (cc)
    spelled base.LongLong (Fields fs) w = absurd (cc)
    spelled (base.Unsigned u) (Fields fs) w = absurd (cc)
    spelled b (Starred n r) w = rest_spelled (type_of (b, n)) r ∙ append_assoc (base_cells b (suc limit)) (star_cells n star_limit (suc limit)) (rest_cells r)

    back : (d : Declaration) → IsDeclaration d → (p : BaseType × After) × (declaration_after p.0 p.1 ≡ d) × (Unit {0} × after_well p.0 p.1)
    back (Record t x fs) w = ((base.Tagged t x, Fields fs), refl, (tt, refl))
    back (Global (Data t x n) i) w = ((t.base, Starred t.stars (DataRest x n i)), refl, (tt, w))
    back (Global (Pointer t x n ps) i) w = ((t.base, Starred t.stars (PointerRest ((x, n), ps) i)), refl, (tt, w))
    back (Prototype t x ps) w = ((t.base, Starred t.stars (FunctionRest x ps None)), refl, (tt, tt))
    back (Definition t x ps body) w = ((t.base, Starred t.stars (FunctionRest x ps (Some body))), refl, (tt, w))
