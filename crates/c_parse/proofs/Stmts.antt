-- Reading a statement is exact.
use Rattle.std.proofs.Common.{◌≡◌, ◌∙◌, refl, sym, ap, subst, ℕ, zero, suc, ◌<◌, Bool, true, false, List, [], ◌∷◌, ◌++◌, length, append_assoc, Option, Some, None, Ok, cond, arith}
use Rattle.std.specs.Prelude.{◌||◌}
use Rattle.std.proofs.lemmas.List.{append-nil}
use Rattle.c_ast.specs.declared.token.Token.{Token}
use Rattle.c_ast.specs.declared.token.Token.TheVariants as token
use Rattle.c_ast.specs.declared.token.Mark.{Mark}
use Rattle.c_ast.specs.declared.token.Mark.TheVariants as m
use Rattle.c_ast.specs.declared.token.Keyword.{Keyword}
use Rattle.c_ast.specs.declared.token.Keyword.TheVariants as k
use Rattle.c_ast.specs.declared.types.BaseType.{BaseType}
use Rattle.c_ast.specs.Trees.{Expression, Num, Parameter, Plain, Parameters, Right, Value, Setting, Statement, Block, Empty, Local, Assign, Call, If, IfElse, While, For, Break, Continue, Return, Statements, Done, Then, statements_of}
use Rattle.c_ast.specs.Cells.{Cell, tokens, PassesLimit}
use Rattle.c_ast.specs.Grammar.{rank, cells, IsExpression, IsRightIfAny, IsSettingIfAny, setting_cells_if_any, IsExpressionIfAny, cells_if_any, parameter_cells, is_open, IsStatement, AreStatements, statement_cells, block_cells, statements_cells}
use Rattle.c_parse_expr.specs.Reads.{Reader, made, ◌⊳◌, unless, at_limit}
use Rattle.c_parse_expr.specs.Reading.{same_mark, same_keyword, sees, sees_keyword, expect, begins, begins_type, unary, expr}
use Rattle.c_parse_expr.proofs.Exact.{Kind, Exact, Sound, Opens, Heads, both, both_with, two_exact, seq, narrow, option_kind, option_exact, option_well, option_cells, unless_kind, unless_exact, limit_exact, opens_left, leads_left, leads_opens, leads_hot}
use Rattle.c_parse_expr.proofs.Chains.{list_well, list_cells, list_kind, listed_exact, shorter}
use Rattle.c_parse_expr.proofs.Sorts.{token_opens, mark_kind, keyword_kind, expect_exact, expect_keyword_exact, at_head, sees_heads, sees_keyword_heads, mark_is, mark_self, keyword_self, keyword_is, grip, before_mark}
use Rattle.c_parse_expr.proofs.TypeNames.{base_lead, base_begins}
use Rattle.c_parse_expr.proofs.Postfixes.{kind, rank_small, lead, leads, opens_lead, zero_number}
use Rattle.c_parse_expr.proofs.Exprs.{begins_lead, begun, unary_exact, expr_exact}
use Rattle.c_parse.specs.Parameters.{params}
use Rattle.c_parse.specs.Statements.{setting, otherwise, otherwise_if_any, if_by, branch, repeat, Head, head, counted, more_items, body, braces, begins_keyword, by_keyword, begins_statement, by_first, block, stmt, Tail, Assigned, Called, statement_by, empty, local, simple, leave, break_off, go_on}
use Rattle.c_parse.proofs.Params.{param_type, param_leads, params_kind, params_exact, type_begun}
use Rattle.c_parse.proofs.Rights.{semicolon_no, close_no, statement_kind, local_exact, setting_kind, setting_exact, tail_well, simple_exact, leave_exact, break_exact, continue_exact, empty_exact, condition_kind, condition_exact}
use Rattle.c_parse.proofs.Leads.{brace_ends, end_not_else, first_sort, keyword_by, keyword_sort, keyword_sorted, opens_statement, sort_by, statement_keyword, statement_lead, statement_more, statement_not_else, statement_sort, statement_sorted}

-- ---- blocks

abbrev listed : Statements → List Statement
listed Done = []
listed (Then s ss) = s ∷ listed ss

listed_is : (ss : Statements) → statements_of (listed ss) ≡ ss
listed_is Done = refl
listed_is (Then s ss) = ap (Then s) (listed_is ss)

module _ (room : ℕ) (stmt : Reader Statement) (stmts : (ts : List Token) → Exact (statement_kind room) ts (stmt ts)) where
  abbrev after_body : List Token → Type 0
  after_body rest = more_items rest ≡ false

  abbrev body_kind : Kind (List Statement)
  body_kind = list_kind (statement_kind room) after_body

  body_exact : (ts : List Token) → Exact body_kind ts (body stmt ts)
  unfolding body
  body_exact ts =
      listed_exact (statement_kind room) more_items stmt after_body (λ ts. Unit {0})
      (λ s ts w o. at_head more_items (statement_lead s) ts (opens_statement s room ts o) true (statement_more s)) refl
      (λ s u ts w v o open_. at_head (sees_keyword k.Else) (statement_lead u) ts (opens_statement u room ts o) false (statement_not_else u))
      (λ s ts w h open_. end_not_else ts h) (λ s ts h. tt) (λ ts b e. e) (λ ts h. h) (λ ts e. stmts ts) (length ts) ts (omega arith) tt

  listed_cells : (ss : List Statement) → statements_cells (statements_of ss) room ≡ list_cells (statement_kind room) ss
  listed_cells [] = refl
  listed_cells (s ∷ ss) = ap (λ c. statement_cells s room ++ c) (listed_cells ss)

  are_listed : (ss : List Statement) → list_well (statement_kind room) ss → AreStatements (statements_of ss)
  are_listed [] w = tt
  are_listed (s ∷ ss) w = (w.0, are_listed ss w.1)

  listed_are : (ss : Statements) → AreStatements ss → list_well (statement_kind room) (listed ss)
  listed_are Done w = tt
  listed_are (Then s ss) w = (w.0, listed_are ss w.1)

  abbrev braces_kind : Kind Statements
  braces_kind = record { well = AreStatements; cells = λ ss. (token.Mark m.LeftBrace, false) ∷ statements_cells ss room ++ ((token.Mark m.RightBrace, false) ∷ []); stops = λ ss rest. Unit {0} }

  pub braces_exact : (ts : List Token) → Exact braces_kind ts (braces stmt ts)
  unfolding braces
  braces_exact ts =
      narrow (both (mark_kind m.LeftBrace) (both body_kind (mark_kind m.RightBrace))) braces_kind (λ p. statements_of p.1.0) ts
      (λ p w. are_listed p.1.0 w.1.0) (λ p w. ap (λ c. (token.Mark m.LeftBrace, false) ∷ c ++ ((token.Mark m.RightBrace, false) ∷ [])) (listed_cells p.1.0)) (λ p rest w s. tt) (λ p rest w s. tt)
      (λ ss w o. ((tt, (listed ss, tt)), listed_is ss, (tt, (listed_are ss w, tt)))) _
      (seq (mark_kind m.LeftBrace) (both body_kind (mark_kind m.RightBrace)) (λ t u ts w v o. tt) (([], tt), (tt, tt)) ts _ _ (expect_exact m.LeftBrace ts)
      (λ t rest r s. seq body_kind (mark_kind m.RightBrace) (λ ss u ts w v o. brace_ends ts (token_opens (token.Mark m.RightBrace) u ts o)) (tt, tt) rest _ _ (body_exact rest) (λ t rest r s. expect_exact m.RightBrace rest)))

-- ---- the statements, within a room

module _ (n : ℕ) (inner : Reader Expression) (inners : (ts : List Token) → Exact (kind 12 n) ts (inner ts)) (operand : Reader Expression) (operands : (ts : List Token) → Exact (kind 1 (suc n)) ts (operand ts))
    (stmt : Reader Statement) (stmts : (ts : List Token) → Exact (statement_kind n) ts (stmt ts)) where
  -- ---- if

  abbrev else_kind : Statement → Kind Statement
  else_kind a = record { well = λ b. (is_open a ≡ false) × IsStatement b; cells = λ b. (token.Keyword k.Else, false) ∷ statement_cells b n; stops = λ b rest. is_open b ≡ true → sees_keyword k.Else rest ≡ false }

  else_opens : (a b : Statement) (ts : List Token) → Opens ((else_kind a).cells b) ts → sees_keyword k.Else ts ≡ true
  else_opens a b ts o = at_head (sees_keyword k.Else) (token.Keyword k.Else) ts (leads_opens (token.Keyword k.Else) false ((else_kind a).cells b) ts (refl, refl) o) true (λ rest. keyword_self k.Else)

  otherwise_exact : (a : Statement) → is_open a ≡ false → (ts : List Token) → Exact (else_kind a) ts (otherwise stmt ts)
  unfolding otherwise
  otherwise_exact a closed ts =
      narrow (both (keyword_kind k.Else) (statement_kind n)) (else_kind a) (λ p. p.1) ts (λ p w. (closed, w.1)) (λ p w. refl) (λ p rest w h. h) (λ p rest w h. h) (λ b w o. ((tt, b), refl, (tt, w.1))) _
      (seq (keyword_kind k.Else) (statement_kind n) (λ t u ts w v o. tt) (Empty, tt) ts _ _ (expect_keyword_exact k.Else ts) (λ t rest r s. stmts rest))

  abbrev tail_option : Statement → Kind (Option Statement)
  tail_option a = option_kind (sees_keyword k.Else) (else_kind a)

  closed_by : (a : Statement) (ts : List Token) → (is_open a ≡ true → sees_keyword k.Else ts ≡ false) → sees_keyword k.Else ts ≡ true → is_open a ≡ false
  closed_by a ts before e = go (is_open a) refl
    where
      go : (b : Bool) → is_open a ≡ b → b ≡ false
      go true h = let f = before h in cc
      go false h = refl

  tail_option_exact : (a : Statement) (ts : List Token) → (is_open a ≡ true → sees_keyword k.Else ts ≡ false) → Exact (tail_option a) ts (otherwise_if_any stmt ts)
  unfolding otherwise_if_any
  tail_option_exact a ts before = option_exact (sees_keyword k.Else) (else_kind a) (λ b ts w o. else_opens a b ts o) ts (otherwise stmt) (λ e. otherwise_exact a (closed_by a ts before e) ts)

  abbrev arms : Kind (Statement × Option Statement)
  arms = both_with (statement_kind n) tail_option (λ p rest. (tail_option p.0).stops p.1 rest)

  arms_exact : (ts : List Token) → Exact arms ts ((stmt ⊳ otherwise_if_any stmt) ts)
  arms_exact ts =
      two_exact (statement_kind n) tail_option (λ p rest. (tail_option p.0).stops p.1 rest) met met_hot (λ a o rest h. h) (λ a o rest r h. h) (λ a w. (None, tt)) ts _ _ (stmts ts) (λ a rest r s. tail_option_exact a rest s)
    where
      met : (a : Statement) (o : Option Statement) (rest : List Token) → IsStatement a → (tail_option a).well o → (tail_option a).stops o rest → is_open a ≡ true → sees_keyword k.Else (tokens ((tail_option a).cells o) ++ rest) ≡ false
      met a None rest w v s h = s
      met a (Some b) rest w v s h = let f = v.0 in cc

      met_hot : (a : Statement) (o : Option Statement) (ts : List Token) → IsStatement a → (tail_option a).well o → PassesLimit ((tail_option a).cells o) ts → is_open a ≡ true → sees_keyword k.Else ts ≡ false
      met_hot a None ts w v h q = absurd h
      met_hot a (Some b) ts w v h q = let f = v.0 in cc

  abbrev conditional_kind : Keyword → Kind (Unit {0} × Expression)
  conditional_kind word = both (keyword_kind word) (condition_kind n inner inners)

  branch_exact : (ts : List Token) → ((s : Statement) → IsStatement s → Opens (statement_cells s (suc n)) ts → (p : Expression × (Statement × Option Statement)) × (if_by p.0 p.1.0 p.1.1 ≡ s) × (IsExpression p.0 × (IsStatement p.1.0 × (tail_option p.1.0).well p.1.1)))
      → Exact (statement_kind (suc n)) ts (branch inner stmt ts)
  unfolding branch
  branch_exact ts back =
      narrow (both (keyword_kind k.If) (both (condition_kind n inner inners) arms)) (statement_kind (suc n)) (λ p. if_by p.1.0 p.1.1.0 p.1.1.1) ts
      (λ p w. fits p.1.0 p.1.1.0 p.1.1.1 w.1.0 w.1.1.0 w.1.1.1) (λ p w. spelled p.1.0 p.1.1.0 p.1.1.1) (λ p rest w h. ends p.1.0 p.1.1.0 p.1.1.1 rest h) (λ p rest w h. ended p.1.0 p.1.1.0 p.1.1.1 rest h)
      (λ s w o. let b = back s w o in ((tt, b.0), b.1, (tt, b.2))) _
      (seq (keyword_kind k.If) (both (condition_kind n inner inners) arms) (λ t u ts w v o. tt) ((Num zero_number, (Empty, None)), (tt, (tt, tt))) ts _ _ (expect_keyword_exact k.If ts)
      (λ t rest r s. seq (condition_kind n inner inners) arms (λ t u ts w v o. tt) ((Empty, None), (tt, tt)) rest _ _ (condition_exact n inner inners rest) (λ t rest r s. arms_exact rest)))
    where
      fits : (c : Expression) (a : Statement) (o : Option Statement) → IsExpression c → IsStatement a → (tail_option a).well o → IsStatement (if_by c a o)
      fits c a None w v u = (w, v)
      fits c a (Some b) w v u = (w, v, u.0, u.1)

      spelled : (c : Expression) (a : Statement) (o : Option Statement) → statement_cells (if_by c a o) (suc n) ≡ (token.Keyword k.If, false) ∷ ((token.Mark m.LeftParen, false) ∷ cells c n ++ ((token.Mark m.RightParen, false) ∷ [])) ++ (statement_cells a n ++ (tail_option a).cells o)
      spelled c a None =
          ap (λ x. (token.Keyword k.If, false) ∷ (token.Mark m.LeftParen, false) ∷ x) (ap (λ x. cells c n ++ ((token.Mark m.RightParen, false) ∷ x)) (sym (append-nil (statement_cells a n))) ∙ sym (append_assoc (cells c n) ((token.Mark m.RightParen, false) ∷ []) (statement_cells a n ++ [])))
      spelled c a (Some b) = ap (λ x. (token.Keyword k.If, false) ∷ (token.Mark m.LeftParen, false) ∷ x) (sym (append_assoc (cells c n) ((token.Mark m.RightParen, false) ∷ []) (statement_cells a n ++ (tail_option a).cells (Some b))))

      ends : (c : Expression) (a : Statement) (o : Option Statement) (rest : List Token) → (tail_option a).stops o rest → is_open (if_by c a o) ≡ true → sees_keyword k.Else rest ≡ false
      ends c a None rest h q = h
      ends c a (Some b) rest h q = h q

      ended : (c : Expression) (a : Statement) (o : Option Statement) (rest : List Token) → (is_open (if_by c a o) ≡ true → sees_keyword k.Else rest ≡ false) → (tail_option a).stops o rest
      ended c a None rest h = h refl
      ended c a (Some b) rest h = h

  -- ---- loops

  loop_exact : (ts : List Token) → ((s : Statement) → IsStatement s → Opens (statement_cells s (suc n)) ts → (p : Expression × Statement) × (While p.0 p.1 ≡ s) × (IsExpression p.0 × IsStatement p.1)) → Exact (statement_kind (suc n)) ts (repeat inner stmt ts)
  unfolding repeat
  loop_exact ts back =
      narrow (both (keyword_kind k.While) (both (condition_kind n inner inners) (statement_kind n))) (statement_kind (suc n)) (λ p. While p.1.0 p.1.1) ts
      (λ p w. w.1) (λ p w. ap (λ x. (token.Keyword k.While, false) ∷ (token.Mark m.LeftParen, false) ∷ x) (sym (append_assoc (cells p.1.0 n) ((token.Mark m.RightParen, false) ∷ []) (statement_cells p.1.1 n)))) (λ p rest w h. h) (λ p rest w h. h)
      (λ s w o. let b = back s w o in ((tt, b.0), b.1, (tt, b.2))) _
      (seq (keyword_kind k.While) (both (condition_kind n inner inners) (statement_kind n)) (λ t u ts w v o. tt) ((Num zero_number, Empty), (tt, tt)) ts _ _ (expect_keyword_exact k.While ts)
      (λ t rest r s. seq (condition_kind n inner inners) (statement_kind n) (λ t u ts w v o. tt) (Empty, tt) rest _ _ (condition_exact n inner inners rest) (λ t rest r s. stmts rest)))

  abbrev set_kind : Mark → Kind (Option Setting)
  set_kind e = unless_kind (sees e) (setting_kind n inner inners)

  set_exact : (e : Mark) → ((x : Expression) (ts : List Token) → Heads (lead x) ts → sees e ts ≡ false) → (ts : List Token) → Exact (set_kind e) ts (unless (sees e) (setting operand inner) ts)
  set_exact e apart ts = unless_exact (sees e) (setting_kind n inner inners) (λ s ts w o. apart s.place ts (opens_lead s.place (suc n) ts (opens_left (cells s.place (suc n)) _ ts o))) ts (setting operand inner) (λ h. setting_exact n inner inners operand operands ts)

  set_ends : (e : Mark) → 12 < Rattle.c_parse_expr.proofs.Sorts.grip_of (token.Mark e) → (o : Option Setting) (ts : List Token) → Heads (token.Mark e) ts → (set_kind e).stops o ts
  set_ends e far None ts h = at_head (sees e) (token.Mark e) ts h true (λ rest. mark_self e)
  set_ends e far (Some s) ts h = before_mark 12 e far ts h

  abbrev test_kind : Kind (Option Expression)
  test_kind = unless_kind (sees m.Semicolon) (kind 12 n)

  test_exact : (ts : List Token) → Exact test_kind ts (unless (sees m.Semicolon) inner ts)
  test_exact ts = unless_exact (sees m.Semicolon) (kind 12 n) (λ e ts w o. semicolon_no e ts (opens_lead e n ts o)) ts inner (λ h. inners ts)

  test_ends : (o : Option Expression) (ts : List Token) → Heads (token.Mark m.Semicolon) ts → test_kind.stops o ts
  test_ends None ts h = at_head (sees m.Semicolon) (token.Mark m.Semicolon) ts h true (λ rest. mark_self m.Semicolon)
  test_ends (Some e) ts h = before_mark 12 m.Semicolon (omega arith) ts h

  abbrev head_well : Head → Type 0
  head_well p = IsSettingIfAny p.0 × (IsExpressionIfAny p.1.0 × IsSettingIfAny p.1.1)

  abbrev head_cells : Head → List Cell
  head_cells p =
      (token.Mark m.LeftParen, false) ∷ setting_cells_if_any p.0 (suc n)
      ++ ((token.Mark m.Semicolon, false) ∷ cells_if_any p.1.0 (suc n) ++ ((token.Mark m.Semicolon, false) ∷ setting_cells_if_any p.1.1 (suc n) ++ ((token.Mark m.RightParen, false) ∷ [])))

  abbrev head_kind : Kind Head
  head_kind = record { well = head_well; cells = head_cells; stops = λ p rest. Unit {0} }

  set_fits : (o : Option Setting) → option_well (setting_kind n inner inners) o → IsSettingIfAny o
  set_fits None w = tt
  set_fits (Some s) w = w

  fits_set : (o : Option Setting) → IsSettingIfAny o → option_well (setting_kind n inner inners) o
  fits_set None w = tt
  fits_set (Some s) w = w

  set_spelled : (o : Option Setting) → setting_cells_if_any o (suc n) ≡ option_cells (setting_kind n inner inners) o
  set_spelled None = refl
  set_spelled (Some s) = refl

  test_fits : (o : Option Expression) → option_well (kind 12 n) o → IsExpressionIfAny o
  test_fits None w = tt
  test_fits (Some e) w = w.0

  fits_test : (o : Option Expression) → IsExpressionIfAny o → option_well (kind 12 n) o
  fits_test None w = tt
  fits_test (Some e) w = (w, rank_small e)

  test_spelled : (o : Option Expression) → cells_if_any o (suc n) ≡ option_cells (kind 12 n) o
  test_spelled None = refl
  test_spelled (Some e) = refl

  abbrev semi : Kind (Unit {0})
  semi = mark_kind m.Semicolon

  abbrev paren : Kind (Unit {0})
  paren = mark_kind m.RightParen

  abbrev four : Kind (Option Setting × Unit {0})
  four = both (set_kind m.RightParen) paren

  abbrev three : Kind (Unit {0} × (Option Setting × Unit {0}))
  three = both semi four

  abbrev two : Kind (Option Expression × (Unit {0} × (Option Setting × Unit {0})))
  two = both test_kind three

  abbrev one_more : Kind (Unit {0} × (Option Expression × (Unit {0} × (Option Setting × Unit {0}))))
  one_more = both semi two

  abbrev all_parts : Kind (Option Setting × (Unit {0} × (Option Expression × (Unit {0} × (Option Setting × Unit {0})))))
  all_parts = both (set_kind m.Semicolon) one_more

  four_exact : (ts : List Token) → Exact four ts ((unless (sees m.RightParen) (setting operand inner) ⊳ expect m.RightParen) ts)
  four_exact ts = seq (set_kind m.RightParen) paren (λ o u ts w v q. set_ends m.RightParen (omega arith) o ts (token_opens (token.Mark m.RightParen) u ts q)) (tt, tt) ts _ _ (set_exact m.RightParen close_no ts) (λ t rest r s. expect_exact m.RightParen rest)

  semi_first : {U : Type 0} (Y : Kind U) (u : Unit {0} × U) (ts : List Token) → Opens ((both semi Y).cells u) ts → Heads (token.Mark m.Semicolon) ts
  semi_first Y u ts o = leads_opens (token.Mark m.Semicolon) false ((both semi Y).cells u) ts (refl, refl) o

  all_exact : (ts : List Token)
      → Exact all_parts ts ((unless (sees m.Semicolon) (setting operand inner) ⊳ (expect m.Semicolon ⊳ (unless (sees m.Semicolon) inner ⊳ (expect m.Semicolon ⊳ (unless (sees m.RightParen) (setting operand inner) ⊳ expect m.RightParen))))) ts)
  all_exact ts =
      seq (set_kind m.Semicolon) one_more (λ o u ts w v q. set_ends m.Semicolon (omega arith) o ts (semi_first two u ts q)) ((tt, (None, (tt, (None, tt)))), (tt, (tt, (tt, (tt, tt))))) ts _ _ (set_exact m.Semicolon semicolon_no ts)
      (λ t rest r s. seq semi two (λ t u ts w v o. tt) ((None, (tt, (None, tt))), (tt, (tt, (tt, tt)))) rest _ _ (expect_exact m.Semicolon rest)
      (λ t rest r s. seq test_kind three (λ o u ts w v q. test_ends o ts (semi_first four u ts q)) ((tt, (None, tt)), (tt, (tt, tt))) rest _ _ (test_exact rest)
      (λ t rest r s. seq semi four (λ t u ts w v o. tt) ((None, tt), (tt, tt)) rest _ _ (expect_exact m.Semicolon rest) (λ t rest r s. four_exact rest))))

  head_exact : (ts : List Token) → Exact head_kind ts (head operand inner ts)
  unfolding head
  head_exact ts =
      narrow (both (mark_kind m.LeftParen) all_parts) head_kind (λ p. (p.1.0, (p.1.1.1.0, p.1.1.1.1.1.0))) ts
      (λ p w. (set_fits p.1.0 w.1.0, (test_fits p.1.1.1.0 w.1.1.1.0, set_fits p.1.1.1.1.1.0 w.1.1.1.1.1.0)))
      (λ p w i. (token.Mark m.LeftParen, false) ∷ set_spelled p.1.0 i ++ ((token.Mark m.Semicolon, false) ∷ test_spelled p.1.1.1.0 i ++ ((token.Mark m.Semicolon, false) ∷ set_spelled p.1.1.1.1.1.0 i ++ ((token.Mark m.RightParen, false) ∷ []))))
      (λ p rest w s. tt) (λ p rest w s. tt)
      (λ p w o. ((tt, (p.0, (tt, (p.1.0, (tt, (p.1.1, tt)))))), refl, (tt, (fits_set p.0 w.0, (tt, (fits_test p.1.0 w.1.0, (tt, (fits_set p.1.1 w.1.1, tt)))))))) _
      (seq (mark_kind m.LeftParen) all_parts (λ t u ts w v o. tt) ((None, (tt, (None, (tt, (None, tt))))), (tt, (tt, (tt, (tt, (tt, tt)))))) ts _ _ (expect_exact m.LeftParen ts) (λ t rest r s. all_exact rest))

  for_spelled : (p : Head) (a : Statement) → statement_cells (For p.0 p.1.0 p.1.1 a) (suc n) ≡ (token.Keyword k.For, false) ∷ head_cells p ++ statement_cells a n
  for_spelled p a =
      let i = setting_cells_if_any p.0 (suc n) in
      let c = cells_if_any p.1.0 (suc n) in
      let x = setting_cells_if_any p.1.1 (suc n) in
      let last = append_assoc x ((token.Mark m.RightParen, false) ∷ []) (statement_cells a n) in
      let mid = append_assoc c ((token.Mark m.Semicolon, false) ∷ x ++ ((token.Mark m.RightParen, false) ∷ [])) (statement_cells a n) in
      let all = append_assoc i ((token.Mark m.Semicolon, false) ∷ c ++ ((token.Mark m.Semicolon, false) ∷ x ++ ((token.Mark m.RightParen, false) ∷ []))) (statement_cells a n) in
      ap (λ r. (token.Keyword k.For, false) ∷ (token.Mark m.LeftParen, false) ∷ r)
      (sym (all ∙ ap (λ r. i ++ ((token.Mark m.Semicolon, false) ∷ r)) (mid ∙ ap (λ r. c ++ ((token.Mark m.Semicolon, false) ∷ r)) last)))

  for_exact : (ts : List Token) → ((s : Statement) → IsStatement s → Opens (statement_cells s (suc n)) ts → (p : Head × Statement) × (For p.0.0 p.0.1.0 p.0.1.1 p.1 ≡ s) × (head_well p.0 × IsStatement p.1)) → Exact (statement_kind (suc n)) ts (counted operand inner stmt ts)
  unfolding counted
  for_exact ts back =
      narrow (both (keyword_kind k.For) (both head_kind (statement_kind n))) (statement_kind (suc n)) (λ p. For p.1.0.0 p.1.0.1.0 p.1.0.1.1 p.1.1) ts
      (λ p w. (w.1.0.0, w.1.0.1.0, w.1.0.1.1, w.1.1)) (λ p w. for_spelled p.1.0 p.1.1) (λ p rest w h. h) (λ p rest w h. h) (λ s w o. let b = back s w o in ((tt, b.0), b.1, (tt, b.2))) _
      (seq (keyword_kind k.For) (both head_kind (statement_kind n)) (λ t u ts w v o. tt) (((None, (None, None)), Empty), ((tt, (tt, tt)), tt)) ts _ _ (expect_keyword_exact k.For ts)
      (λ t rest r s. seq head_kind (statement_kind n) (λ t u ts w v o. tt) (Empty, tt) rest _ _ (head_exact rest) (λ t rest r s. stmts rest)))

  -- ---- by keyword

  sorted_by : (s : Statement) (ts : List Token) (i : ℕ) → first_sort ts ≡ i → Opens (statement_cells s (suc n)) ts → statement_sort s ≡ i
  sorted_by s ts i e o = sym (at_head first_sort (statement_lead s) ts (opens_statement s (suc n) ts o) (statement_sort s) (statement_sorted s)) ∙ e

  worded_by : (s : Statement) (ts : List Token) (i : ℕ) → first_sort ts ≡ 3 → keyword_sort ts ≡ i → Opens (statement_cells s (suc n)) ts → (statement_sort s ≡ 3) × (statement_keyword s ≡ i)
  worded_by s ts i f e o =
      let three = sorted_by s ts 3 f o in
      (three, sym (at_head keyword_sort (statement_lead s) ts (opens_statement s (suc n) ts o) (statement_keyword s) (keyword_sorted s three)) ∙ e)

  by_keyword_exact : (ts : List Token) → first_sort ts ≡ 3 → Exact (statement_kind (suc n)) ts (by_keyword operand inner stmt ts)
  unfolding by_keyword
  by_keyword_exact ts f = go (sees_keyword k.If ts) (sees_keyword k.While ts) (sees_keyword k.For ts) (sees_keyword k.Break ts) (sees_keyword k.Continue ts) refl
    where
      ifs : (s : Statement) → IsStatement s → statement_sort s ≡ 3 → statement_keyword s ≡ 0 → (p : Expression × (Statement × Option Statement)) × (if_by p.0 p.1.0 p.1.1 ≡ s) × (IsExpression p.0 × (IsStatement p.1.0 × (tail_option p.1.0).well p.1.1))
      ifs (If c a) w e h = ((c, (a, None)), refl, (w.0, (w.1, tt)))
      ifs (IfElse c a b) w e h = ((c, (a, Some b)), refl, (w.0, (w.1, (w.2, w.3))))
      ifs (Block ss) w e h = absurd (omega arith)
      ifs _ w e h = absurd (omega arith)

      whiles : (s : Statement) → IsStatement s → statement_sort s ≡ 3 → statement_keyword s ≡ 1 → (p : Expression × Statement) × (While p.0 p.1 ≡ s) × (IsExpression p.0 × IsStatement p.1)
      whiles (While c a) w e h = ((c, a), refl, w)
      whiles (Block ss) w e h = absurd (omega arith)
      whiles _ w e h = absurd (omega arith)

      fors : (s : Statement) → IsStatement s → statement_sort s ≡ 3 → statement_keyword s ≡ 2 → (p : Head × Statement) × (For p.0.0 p.0.1.0 p.0.1.1 p.1 ≡ s) × (head_well p.0 × IsStatement p.1)
      fors (For i c x a) w e h = (((i, (c, x)), a), refl, ((w.0, (w.1, w.2)), w.3))
      fors (Block ss) w e h = absurd (omega arith)
      fors _ w e h = absurd (omega arith)

      breaks : (s : Statement) → statement_sort s ≡ 3 → statement_keyword s ≡ 3 → Break ≡ s
      breaks Break e h = refl
      breaks (Block ss) e h = absurd (omega arith)
      breaks _ e h = absurd (omega arith)

      continues : (s : Statement) → statement_sort s ≡ 3 → statement_keyword s ≡ 4 → Continue ≡ s
      continues Continue e h = refl
      continues (Block ss) e h = absurd (omega arith)
      continues _ e h = absurd (omega arith)

      returns : (s : Statement) → IsStatement s → statement_sort s ≡ 3 → statement_keyword s ≡ 5 → (o : Option Right) × (Return o ≡ s) × IsRightIfAny o
      returns (Return o) w e h = (o, refl, w)
      returns (Block ss) w e h = absurd (omega arith)
      returns _ w e h = absurd (omega arith)

      go : (a b c d e : Bool) → keyword_sort ts ≡ keyword_by a b c d e
          → Exact (statement_kind (suc n)) ts (cond a (branch inner stmt ts) (cond b (repeat inner stmt ts) (cond c (counted operand inner stmt ts) (cond d (break_off ts) (cond e (go_on ts) (leave inner ts))))))
      go true b c d e q = branch_exact ts (λ s w o. let h = worded_by s ts 0 f q o in ifs s w h.0 h.1)
      go false true c d e q = loop_exact ts (λ s w o. let h = worded_by s ts 1 f q o in whiles s w h.0 h.1)
      go false false true d e q = for_exact ts (λ s w o. let h = worded_by s ts 2 f q o in fors s w h.0 h.1)
      go false false false true e q = break_exact n inner inners ts (λ s w o. let h = worded_by s ts 3 f q o in breaks s h.0 h.1)
      go false false false false true q = continue_exact n inner inners ts (λ s w o. let h = worded_by s ts 4 f q o in continues s h.0 h.1)
      go false false false false false q = leave_exact n inner inners ts (λ s w o. let h = worded_by s ts 5 f q o in returns s w h.0 h.1)

-- ---- where no room is left

abbrev pub block_kind : ℕ → Kind Statements
block_kind room = record { well = AreStatements; cells = λ ss. block_cells ss room; stops = λ ss rest. Unit {0} }

block_none : (ts : List Token) → Exact (block_kind zero) ts (at_limit (sees m.LeftBrace) ts)
block_none ts =
    limit_exact (block_kind zero) (sees m.LeftBrace) ts (λ ss w o. leads_hot (token.Mark m.LeftBrace) (block_cells ss zero) ts (refl, refl) (heads ss o)) (λ ss w o. at_head (sees m.LeftBrace) (token.Mark m.LeftBrace) ts (heads ss o) true (λ rest. mark_self m.LeftBrace))
    (λ h. (Done, tt, leads_hot (token.Mark m.LeftBrace) (block_cells Done zero) ts (refl, refl) (sees_heads m.LeftBrace ts h)))
  where
    heads : (ss : Statements) → Opens (block_cells ss zero) ts → Heads (token.Mark m.LeftBrace) ts
    heads ss o = leads_opens (token.Mark m.LeftBrace) true (block_cells ss zero) ts (refl, refl) o

hot_expression : (e : Expression) (more : List Cell) (ts : List Token) → Heads (lead e) ts → PassesLimit (cells e zero ++ more) ts
hot_expression e more ts h = leads_hot (lead e) (cells e zero ++ more) ts (leads_left (lead e) true (cells e zero) more (leads e zero)) h

hot_statement : (s : Statement) (ts : List Token) → Heads (statement_lead s) ts → PassesLimit (statement_cells s zero) ts
hot_statement (Block ss) ts h = leads_hot (token.Mark m.LeftBrace) (statement_cells (Block ss) zero) ts (refl, refl) h
hot_statement Empty ts h = leads_hot (token.Mark m.Semicolon) (statement_cells Empty zero) ts (refl, refl) h
hot_statement (Local p r) ts h = leads_hot (base_lead (param_type p).base) (statement_cells (Local p r) zero) ts (leads_left (base_lead (param_type p).base) true (parameter_cells p zero) _ (param_leads p zero)) h
hot_statement (Assign e r) ts h = hot_expression e _ ts h
hot_statement (Call f es) ts h = hot_expression f _ ts h
hot_statement (If c a) ts h = leads_hot (token.Keyword k.If) (statement_cells (If c a) zero) ts (refl, refl) h
hot_statement (IfElse c a b) ts h = leads_hot (token.Keyword k.If) (statement_cells (IfElse c a b) zero) ts (refl, refl) h
hot_statement (While c a) ts h = leads_hot (token.Keyword k.While) (statement_cells (While c a) zero) ts (refl, refl) h
hot_statement (For i c x a) ts h = leads_hot (token.Keyword k.For) (statement_cells (For i c x a) zero) ts (refl, refl) h
hot_statement Break ts h = leads_hot (token.Keyword k.Break) (statement_cells Break zero) ts (refl, refl) h
hot_statement Continue ts h = leads_hot (token.Keyword k.Continue) (statement_cells Continue zero) ts (refl, refl) h
hot_statement (Return r) ts h = leads_hot (token.Keyword k.Return) (statement_cells (Return r) zero) ts (refl, refl) h

or_true : (a b : Bool) → b ≡ true → (a || b) ≡ true
or_true true b e = refl
or_true false b e = e

expression_begins : (e : Expression) (ts : List Token) → begins_statement (lead e ∷ ts) ≡ true
expression_begins e ts = or_true (sees m.LeftBrace (lead e ∷ ts) || sees m.Semicolon (lead e ∷ ts) || begins_type (lead e ∷ ts) || begins_keyword (lead e ∷ ts)) (begins (lead e ∷ ts)) (begins_lead e ts)

or_left : (a b : Bool) → a ≡ true → (a || b) ≡ true
or_left true b e = refl
or_left false b e = cc

type_begins : (b : BaseType) (ts : List Token) → begins_statement (base_lead b ∷ ts) ≡ true
type_begins b ts =
    or_left (sees m.LeftBrace (base_lead b ∷ ts) || sees m.Semicolon (base_lead b ∷ ts) || begins_type (base_lead b ∷ ts) || begins_keyword (base_lead b ∷ ts)) (begins (base_lead b ∷ ts))
    (or_left (sees m.LeftBrace (base_lead b ∷ ts) || sees m.Semicolon (base_lead b ∷ ts) || begins_type (base_lead b ∷ ts)) (begins_keyword (base_lead b ∷ ts))
    (or_true (sees m.LeftBrace (base_lead b ∷ ts) || sees m.Semicolon (base_lead b ∷ ts)) (begins_type (base_lead b ∷ ts)) (base_begins b ts)))

statement_begins : (s : Statement) (ts : List Token) → begins_statement (statement_lead s ∷ ts) ≡ true
unfolding same_mark same_keyword
statement_begins (Block ss) ts = refl
statement_begins Empty ts = refl
statement_begins (Local p r) ts = type_begins (param_type p).base ts
statement_begins (Assign e r) ts = expression_begins e ts
statement_begins (Call f es) ts = expression_begins f ts
statement_begins (If c a) ts = refl
statement_begins (IfElse c a b) ts = refl
statement_begins (While c a) ts = refl
statement_begins (For i c x a) ts = refl
statement_begins Break ts = refl
statement_begins Continue ts = refl
statement_begins (Return r) ts = refl

begun_keyword : (ts : List Token) → begins_keyword ts ≡ true → (s : Statement) × IsStatement s × Heads (statement_lead s) ts
begun_keyword ts e = go (sees_keyword k.If ts) (sees_keyword k.While ts) (sees_keyword k.For ts) (sees_keyword k.Break ts) (sees_keyword k.Continue ts) (sees_keyword k.Return ts) refl refl refl refl refl refl e
  where
    go : (a b c d f g : Bool) → sees_keyword k.If ts ≡ a → sees_keyword k.While ts ≡ b → sees_keyword k.For ts ≡ c → sees_keyword k.Break ts ≡ d → sees_keyword k.Continue ts ≡ f → sees_keyword k.Return ts ≡ g → (a || b || c || d || f || g) ≡ true
        → (s : Statement) × IsStatement s × Heads (statement_lead s) ts
    go true b c d f g p q r s t v e = (If (Num zero_number) Empty, (tt, tt), sees_keyword_heads k.If ts p)
    go false true c d f g p q r s t v e = (While (Num zero_number) Empty, (tt, tt), sees_keyword_heads k.While ts q)
    go false false true d f g p q r s t v e = (For None None None Empty, (tt, tt, tt, tt), sees_keyword_heads k.For ts r)
    go false false false true f g p q r s t v e = (Break, tt, sees_keyword_heads k.Break ts s)
    go false false false false true g p q r s t v e = (Continue, tt, sees_keyword_heads k.Continue ts t)
    go false false false false false true p q r s t v e = (Return None, tt, sees_keyword_heads k.Return ts v)
    go false false false false false false p q r s t v e = cc

begun_statement : (ts : List Token) → begins_statement ts ≡ true → (s : Statement) × IsStatement s × Heads (statement_lead s) ts
begun_statement ts e = go (sees m.LeftBrace ts) (sees m.Semicolon ts) (begins_type ts) (begins_keyword ts) refl refl refl refl e
  where
    go : (a b c d : Bool) → sees m.LeftBrace ts ≡ a → sees m.Semicolon ts ≡ b → begins_type ts ≡ c → begins_keyword ts ≡ d → (a || b || c || d || begins ts) ≡ true → (s : Statement) × IsStatement s × Heads (statement_lead s) ts
    go true b c d p q r s e = (Block Done, tt, sees_heads m.LeftBrace ts p)
    go false true c d p q r s e = (Empty, tt, sees_heads m.Semicolon ts q)
    go false false true d p q r s e = let b = type_begun ts r in (Local (Plain (record { base = b.0; stars = 0 }) []) None, tt, b.1)
    go false false false true p q r s e = begun_keyword ts s
    go false false false false p q r s e = let b = begun ts e in (Assign b.0 (Value (Num zero_number)), (b.2, b.1, tt), b.3)

statement_none : (ts : List Token) → Exact (statement_kind zero) ts (at_limit begins_statement ts)
statement_none ts =
    limit_exact (statement_kind zero) begins_statement ts (λ s w o. hot_statement s ts (opens_statement s zero ts o)) (λ s w o. at_head begins_statement (statement_lead s) ts (opens_statement s zero ts o) true (statement_begins s))
    (λ h. let b = begun_statement ts h in (b.0, b.1, hot_statement b.0 ts b.2))

-- ---- by the first token

module _ (n : ℕ) (params : Reader Parameters) (readers : (ts : List Token) → Exact (params_kind n) ts (params ts)) (inner : Reader Expression) (inners : (ts : List Token) → Exact (kind 12 n) ts (inner ts))
    (operand : Reader Expression) (operands : (ts : List Token) → Exact (kind 1 (suc n)) ts (operand ts)) (block : Reader Statements) (blocks : (ts : List Token) → Exact (block_kind n) ts (block ts))
    (stmt : Reader Statement) (stmts : (ts : List Token) → Exact (statement_kind n) ts (stmt ts)) where
  by_first_exact : (ts : List Token) → Exact (statement_kind (suc n)) ts (by_first params operand inner block stmt ts)
  unfolding by_first
  by_first_exact ts = go (sees m.LeftBrace ts) (sees m.Semicolon ts) (begins_type ts) (begins_keyword ts) refl
    where
      sort : (s : Statement) (i : ℕ) → first_sort ts ≡ i → Opens (statement_cells s (suc n)) ts → statement_sort s ≡ i
      sort s i e o = sorted_by n inner inners operand operands stmt stmts s ts i e o

      blocks_only : (s : Statement) → IsStatement s → statement_sort s ≡ 0 → (ss : Statements) × (Block ss ≡ s) × AreStatements ss
      blocks_only (Block ss) w e = (ss, refl, w)
      blocks_only Empty w e = absurd (omega arith)
      blocks_only _ w e = absurd (omega arith)

      empties : (s : Statement) → statement_sort s ≡ 1 → Empty ≡ s
      empties Empty e = refl
      empties (Block ss) e = absurd (omega arith)
      empties _ e = absurd (omega arith)

      locals : (s : Statement) → IsStatement s → statement_sort s ≡ 2 → (p : Parameter × (Option Right × Unit {0})) × (Local p.0 p.1.0 ≡ s) × IsRightIfAny p.1.0
      locals (Local p r) w e = ((p, (r, tt)), refl, w)
      locals (Block ss) w e = absurd (omega arith)
      locals _ w e = absurd (omega arith)

      simples : (s : Statement) → IsStatement s → statement_sort s ≡ 4 → (p : Expression × Tail) × (statement_by p.0 p.1 ≡ s) × ((IsExpression p.0 × (rank p.0 < 2)) × tail_well n inner inners operand operands p.0 p.1)
      simples (Assign a r) w e = ((a, Assigned r), refl, ((w.1, w.0), w.2))
      simples (Call f es) w e = ((f, Called es), refl, ((w.1, omega arith), (w.0, w.2)))
      simples (Block ss) w e = absurd (omega arith)
      simples _ w e = absurd (omega arith)

      go : (a b c d : Bool) → first_sort ts ≡ sort_by a b c d → Exact (statement_kind (suc n)) ts (cond a (made Block (block ts)) (cond b (empty ts) (cond c (local params inner ts) (cond d (by_keyword operand inner stmt ts) (simple operand inner ts)))))
      go true b c d e =
          narrow (block_kind n) (statement_kind (suc n)) Block ts (λ ss w. w) (λ ss w. refl) (λ ss rest w h q. absurd (cc)) (λ ss rest w h. tt) (λ s w o. blocks_only s w (sort s 0 e o)) _ (blocks ts)
      go false true c d e = empty_exact n inner inners ts (λ s w o. empties s (sort s 1 e o))
      go false false true d e = local_exact n inner inners params readers ts (λ s w o. locals s w (sort s 2 e o))
      go false false false true e = by_keyword_exact n inner inners operand operands stmt stmts ts e
      go false false false false e = simple_exact n inner inners operand operands ts (λ s w o. simples s w (sort s 4 e o))

mutual
  unfolding block stmt

  pub block_exact : (room : ℕ) (ts : List Token) → Exact (block_kind room) ts (block room ts)
  block_exact zero ts = block_none ts
  block_exact (suc room) ts = braces_exact room (stmt room) (stmt_exact room) ts

  pub stmt_exact : (room : ℕ) (ts : List Token) → Exact (statement_kind room) ts (stmt room ts)
  stmt_exact zero ts = statement_none ts
  stmt_exact (suc room) ts = by_first_exact room (params room) (params_exact room) (expr room) (expr_exact room) (unary room) (unary_exact room) (block room) (block_exact room) (stmt room) (stmt_exact room) ts

-- ---- what is read takes a token at least

pub stmt_falls : (room : ℕ) (ts : List Token) (s : Statement) (rest : List Token) → stmt room ts ≡ Ok (s, rest) → length rest < length ts
stmt_falls room ts s rest e =
    let known : Sound (statement_kind room) ts (Ok (s, rest)) = subst (Sound (statement_kind room) ts) e (stmt_exact room ts).sound in
    shorter (statement_cells s room) ts rest (λ h. opens_statement s room [] h) known.1
