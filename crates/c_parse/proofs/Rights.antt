-- Reading calls, right sides and statements without a statement in them is exact.
use Rattle.std.proofs.Common.{◌≡◌, ◌∙◌, refl, sym, ap, subst, ℕ, suc, ◌<◌, Bool, true, false, List, [], ◌∷◌, ◌++◌, length, Option, Some, None, Ok, Err, cond, arith}
use Rattle.std.specs.Prelude.{◌&&◌}
use Rattle.std.proofs.lemmas.Bool.Decides.{nat_tests}
use Rattle.std.proofs.lemmas.List.{append-nil}
use Rattle.c_ast.specs.declared.token.Token.{Token}
use Rattle.c_ast.specs.declared.token.Token.TheVariants as token
use Rattle.c_ast.specs.declared.token.Mark.{Mark}
use Rattle.c_ast.specs.declared.token.Mark.TheVariants as m
use Rattle.c_ast.specs.declared.token.Keyword.TheVariants as k
use Rattle.c_ast.specs.declared.fault.Fault.TheVariants.{Syntax}
use Rattle.c_ast.specs.Trees.{Expression, Num, Parameter, Parameters, Right, Invoke, Value, Setting, Statement, Empty, Local, Break, Continue, Return}
use Rattle.c_ast.specs.Cells.{Cell}
use Rattle.c_ast.specs.Grammar.{rank, cells, IsExpression, AreExpressions, more_arguments, argument_cells, call_cells, IsRight, right_cells, IsRightIfAny, right_cells_if_any, start_cells, IsSetting, setting_cells, parameter_cells, is_open, IsStatement, statement_cells}
use Rattle.c_parse_expr.specs.Reads.{Reader, made, ◌⊳◌, unless}
use Rattle.c_parse_expr.specs.Reading.{same_mark, same_keyword, is_mark, sees, sees_keyword, expect, begins, expr}
use Rattle.c_parse_expr.proofs.Exact.{Kind, Exact, Sound, IsHot, Opens, Heads, Leads, Glue_some, both, both_on, both_keep, keep_stops, seq, seq_on, seq_keep, narrow, widen, choose_exact, option_kind, option_exact, option_well, option_cells, option_stops, unless_kind, unless_exact, unless_stops, opens_heads, opens_left, leads_left, leads_opens}
use Rattle.c_parse_expr.proofs.Chains.{list_well, list_cells, some_kind, some_exact, if_any_kind, if_any_exact, shorter}
use Rattle.c_parse_expr.proofs.Sorts.{token_opens, mark_kind, keyword_kind, expect_exact, expect_keyword_exact, at_head, mark_is, mark_self, grip, before_mark}
use Rattle.c_parse_expr.proofs.Postfixes.{kind, rank_small, lead, opens_lead, glue_mark, zero_number, some_expression}
use Rattle.c_parse_expr.proofs.Exprs.{begins_lead, expr_exact}
use Rattle.c_parse.specs.Statements.{next_argument, some_arguments, arguments, call, is_postfix, calls, right_by, call_if_any, right, start_value, start, local, setting, Tail, Assigned, Called, assigned, called, only_after, tail, statement_by, simple, leave, break_off, go_on, empty, condition}
use Rattle.c_parse.proofs.Params.{and_false, params_kind, param_kind, param_exact}

-- a mark with which no expression begins
pub not_lead : (m : Mark) → begins (token.Mark m ∷ []) ≡ false → (e : Expression) (ts : List Token) → Heads (lead e) ts → sees m ts ≡ false
not_lead m apart e [] h = absurd h
not_lead m apart e (t ∷ ts) h = go (is_mark m t) refl
  where
    go : (b : Bool) → is_mark m t ≡ b → b ≡ false
    go false q = refl
    go true q =
        let is : lead e ≡ token.Mark m = h ∙ mark_is m t q in
        let yes : begins (token.Mark m ∷ []) ≡ true = ap (λ x. begins (x ∷ [])) (sym is) ∙ begins_lead e [] in
        cc

pub semicolon_no : (e : Expression) (ts : List Token) → Heads (lead e) ts → sees m.Semicolon ts ≡ false
unfolding same_mark same_keyword
semicolon_no e ts h = not_lead m.Semicolon refl e ts h

pub close_no : (e : Expression) (ts : List Token) → Heads (lead e) ts → sees m.RightParen ts ≡ false
unfolding same_mark same_keyword
close_no e ts h = not_lead m.RightParen refl e ts h

-- one mark is not another
pub other_mark : (a b : Mark) → is_mark b (token.Mark a) ≡ false → (ts : List Token) → Heads (token.Mark a) ts → sees b ts ≡ false
other_mark a b apart ts h = at_head (sees b) (token.Mark a) ts h false (λ rest. apart)

pub postfix_rank : (e : Expression) → is_postfix e ≡ true → rank e < 1
postfix_rank e h = grind (arith, nat_tests)

pub rank_postfix : (e : Expression) → rank e < 1 → is_postfix e ≡ true
rank_postfix e h = grind (arith, nat_tests)

abbrev pub statement_kind : ℕ → Kind Statement
statement_kind room = record { well = IsStatement; cells = λ s. statement_cells s room; stops = λ s rest. is_open s ≡ true → sees_keyword k.Else rest ≡ false }

-- in a statement whose expressions have this room
module _ (n : ℕ) (inner : Reader Expression) (inners : (ts : List Token) → Exact (kind 12 n) ts (inner ts)) where
  -- ---- calls

  abbrev next_kind : Kind Expression
  next_kind = record { well = IsExpression; cells = λ e. (token.Mark m.Comma, false) ∷ cells e n; stops = λ e rest. 12 < grip rest }

  pub next_exact : (ts : List Token) → Exact next_kind ts (next_argument inner ts)
  unfolding next_argument
  next_exact ts =
      narrow (both (mark_kind m.Comma) (kind 12 n)) next_kind (λ p. p.1) ts (λ p w. w.1.0) (λ p w. refl) (λ p rest w h. h) (λ p rest w h. h) (λ e w o. ((tt, e), refl, (tt, (w, rank_small e)))) _
      (seq (mark_kind m.Comma) (kind 12 n) (λ t u ts w v o. tt) (some_expression 12 n) ts _ _ (expect_exact m.Comma ts) (λ t rest r s. inners rest))

  abbrev after_arguments : List Token → Type 0
  after_arguments rest = (12 < grip rest) × (sees m.Comma rest ≡ false)

  next_opens : (e : Expression) (ts : List Token) → Opens (next_kind.cells e) ts → Heads (token.Mark m.Comma) ts
  next_opens e ts o = leads_opens (token.Mark m.Comma) false (next_kind.cells e) ts (refl, refl) o

  comma_seen : (e : Expression) (ts : List Token) → IsExpression e → Opens (next_kind.cells e) ts → sees m.Comma ts ≡ true
  comma_seen e ts w o = at_head (sees m.Comma) (token.Mark m.Comma) ts (next_opens e ts o) true (λ rest. mark_self m.Comma)

  comma_grip : (e : Expression) (ts : List Token) → Opens (next_kind.cells e) ts → 12 < grip ts
  comma_grip e ts o = before_mark 12 m.Comma (omega arith) ts (next_opens e ts o)

  abbrev some_arguments_kind : Kind (List Expression)
  some_arguments_kind = some_kind (kind 12 n) next_kind after_arguments

  some_arguments_exact : (ts : List Token) → Exact some_arguments_kind ts (some_arguments inner ts)
  unfolding some_arguments
  some_arguments_exact ts =
      some_exact next_kind (sees m.Comma) (next_argument inner) after_arguments (λ ts. 12 < grip ts) comma_seen refl (λ s u ts w v o. comma_grip u ts o) (λ s ts w h. h.0) (λ s ts h. h) (λ ts b e. (b, e)) (λ ts h. h.1) (λ ts e. next_exact ts)
      (kind 12 n) (λ s ts w h. h.0) (λ s u ts w v o. comma_grip u ts o) (λ s ts h. h) inner ts (inners ts)

  abbrev arguments_stop : List Expression → List Token → Type 0
  arguments_stop [] rest = sees m.RightParen rest ≡ true
  arguments_stop (e ∷ es) rest = after_arguments rest

  abbrev arguments_kind : Kind (List Expression)
  arguments_kind = record { well = AreExpressions; cells = λ es. argument_cells es (suc n); stops = arguments_stop }

  some_open : (es : List Expression) (ts : List Token) → some_arguments_kind.well es → Opens (some_arguments_kind.cells es) ts → sees m.RightParen ts ≡ false
  some_open [] ts w o = absurd w
  some_open (e ∷ es) ts w o = close_no e ts (opens_lead e n ts (opens_left (cells e n) (list_cells next_kind es) ts o))

  more_cells : (es : List Expression) → more_arguments es (suc n) ≡ list_cells next_kind es
  more_cells [] = refl
  more_cells (e ∷ es) = ap (λ c. (token.Mark m.Comma, false) ∷ cells e n ++ c) (more_cells es)

  nexts_are : (es : List Expression) → list_well next_kind es → AreExpressions es
  nexts_are [] w = tt
  nexts_are (e ∷ es) w = (w.0, nexts_are es w.1)

  are_nexts : (es : List Expression) → AreExpressions es → list_well next_kind es
  are_nexts [] w = tt
  are_nexts (e ∷ es) w = (w.0, are_nexts es w.1)

  arguments_exact : (ts : List Token) → Exact arguments_kind ts (arguments inner ts)
  unfolding arguments
  arguments_exact ts =
      widen (if_any_kind (sees m.RightParen) some_arguments_kind) arguments_kind ts fits spelled ends ended (λ es w o. back es w) _
      (if_any_exact (sees m.RightParen) some_arguments_kind refl (λ w. w) some_open ts (some_arguments inner) (λ e. some_arguments_exact ts))
    where
      fits : (es : List Expression) → (if_any_kind (sees m.RightParen) some_arguments_kind).well es → AreExpressions es
      fits [] w = tt
      fits (e ∷ es) w = (w.0.0, nexts_are es w.1)

      spelled : (es : List Expression) → (if_any_kind (sees m.RightParen) some_arguments_kind).well es → argument_cells es (suc n) ≡ some_arguments_kind.cells es
      spelled [] w = refl
      spelled (e ∷ es) w = ap (λ c. cells e n ++ c) (more_cells es)

      ends : (es : List Expression) (rest : List Token) → (if_any_kind (sees m.RightParen) some_arguments_kind).well es → (if_any_kind (sees m.RightParen) some_arguments_kind).stops es rest → arguments_stop es rest
      ends [] rest w h = h
      ends (e ∷ es) rest w h = h

      ended : (es : List Expression) (rest : List Token) → (if_any_kind (sees m.RightParen) some_arguments_kind).well es → arguments_stop es rest → (if_any_kind (sees m.RightParen) some_arguments_kind).stops es rest
      ended [] rest w h = h
      ended (e ∷ es) rest w h = h

      back : (es : List Expression) → AreExpressions es → (if_any_kind (sees m.RightParen) some_arguments_kind).well es
      back [] w = tt
      back (e ∷ es) w = ((w.0, rank_small e), are_nexts es w.1)

  abbrev call_kind : Kind (List Expression)
  call_kind = record { well = AreExpressions; cells = λ es. call_cells es (suc n); stops = λ es rest. Unit {0} }

  call_opens : (es : List Expression) (more : List Cell) (ts : List Token) → Opens (call_cells es (suc n) ++ more) ts → Heads (token.Mark m.LeftParen) ts
  call_opens es more ts o = leads_opens (token.Mark m.LeftParen) false (call_cells es (suc n) ++ more) ts (refl, refl) o

  arguments_end : (es : List Expression) (ts : List Token) → Heads (token.Mark m.RightParen) ts → arguments_stop es ts
  unfolding same_mark
  arguments_end [] ts h = at_head (sees m.RightParen) (token.Mark m.RightParen) ts h true (λ rest. refl)
  arguments_end (e ∷ es) ts h = (before_mark 12 m.RightParen (omega arith) ts h, other_mark m.RightParen m.Comma refl ts h)

  call_exact : (ts : List Token) → Exact call_kind ts (call inner ts)
  unfolding call
  call_exact ts =
      narrow (both (mark_kind m.LeftParen) (both arguments_kind (mark_kind m.RightParen))) call_kind (λ p. p.1.0) ts (λ p w. w.1.0) (λ p w. refl) (λ p rest w s. tt) (λ p rest w s. tt) (λ es w o. ((tt, (es, tt)), refl, (tt, (w, tt)))) _
      (seq (mark_kind m.LeftParen) (both arguments_kind (mark_kind m.RightParen)) (λ t u ts w v o. tt) (([], tt), (tt, tt)) ts _ _ (expect_exact m.LeftParen ts)
      (λ t rest r s. seq arguments_kind (mark_kind m.RightParen) (λ es u ts w v o. arguments_end es ts (token_opens (token.Mark m.RightParen) u ts o)) (tt, tt) rest _ _ (arguments_exact rest) (λ t rest r s. expect_exact m.RightParen rest)))

  -- ---- right sides

  abbrev pub right_stops : Right → List Token → Type 0
  right_stops (Value e) rest = (12 < grip rest) × (calls e rest ≡ false)
  right_stops (Invoke f es) rest = Unit {0}

  abbrev pub right_kind : Kind Right
  right_kind = record { well = IsRight; cells = λ r. right_cells r (suc n); stops = right_stops }

  -- the call of an expression
  abbrev called_kind : Expression → Kind (List Expression)
  called_kind e = record { well = λ es. (rank e < 1) × AreExpressions es; cells = λ es. call_cells es (suc n); stops = λ es rest. Unit {0} }

  calls_seen : (e : Expression) (es : List Expression) (ts : List Token) → (called_kind e).well es → Opens (call_cells es (suc n)) ts → calls e ts ≡ true
  calls_seen e es ts w o =
      ap (λ b. b && sees m.LeftParen ts) (rank_postfix e w.0) ∙ at_head (sees m.LeftParen) (token.Mark m.LeftParen) ts (leads_opens (token.Mark m.LeftParen) false (call_cells es (suc n)) ts (refl, refl) o) true (λ rest. mark_self m.LeftParen)

  both_true : (a b : Bool) → (a && b) ≡ true → a ≡ true
  both_true true b h = refl
  both_true false b h = cc

  call_if_any_exact : (e : Expression) (ts : List Token) → Exact (option_kind (calls e) (called_kind e)) ts (call_if_any inner e ts)
  unfolding call_if_any
  call_if_any_exact e ts =
      option_exact (calls e) (called_kind e) (calls_seen e) ts (call inner)
      (λ h. widen call_kind (called_kind e) ts (λ es w. (postfix_rank e (both_true (is_postfix e) (sees m.LeftParen ts) h), w)) (λ es w. refl) (λ es rest w s. tt) (λ es rest w s. tt) (λ es w o. w.1) _ (call_exact ts))

  pub right_exact : (ts : List Token) → Exact right_kind ts (right inner ts)
  unfolding right
  right_exact ts =
      narrow (both_keep (kind 12 n) (λ e. option_kind (calls e) (called_kind e))) right_kind (λ p. right_by p.0 p.1) ts (λ p w. fits p.0 p.1 w) (λ p w. spelled p.0 p.1) (λ p rest w h. ends p.0 p.1 rest h) (λ p rest w h. ended p.0 p.1 rest h) (λ r w o. back r w) _
      (seq_keep (kind 12 n) (λ e. option_kind (calls e) (called_kind e)) glue (λ e w. (None, tt)) ts _ _ (inners ts) (λ e rest r s. call_if_any_exact e rest))
    where
      glue : Glue_some (kind 12 n) (λ e. option_kind (calls e) (called_kind e))
      glue e None c cs ts w v q h = cc
      glue e (Some es) c cs ts w v q h = let first : (token.Mark m.LeftParen, false) ≡ c = cc in before_mark 12 m.LeftParen (omega arith) ts (subst (λ t. Heads t ts) (sym (ap (λ c. c.0) first)) h)

      fits : (e : Expression) (o : Option (List Expression)) → (IsExpression e × (rank e < 13)) × (option_kind (calls e) (called_kind e)).well o → IsRight (right_by e o)
      fits e None w = w.0.0
      fits e (Some es) w = (w.1.0, w.0.0, w.1.1)

      spelled : (e : Expression) (o : Option (List Expression)) → right_cells (right_by e o) (suc n) ≡ cells e n ++ (option_kind (calls e) (called_kind e)).cells o
      spelled e None = sym (append-nil (cells e n))
      spelled e (Some es) = refl

      ends : (e : Expression) (o : Option (List Expression)) (rest : List Token) → keep_stops (kind 12 n) (λ e. option_kind (calls e) (called_kind e)) (e, o) rest → right_stops (right_by e o) rest
      ends e None rest h = (h.0 refl, h.1)
      ends e (Some es) rest h = tt

      ended : (e : Expression) (o : Option (List Expression)) (rest : List Token) → right_stops (right_by e o) rest → keep_stops (kind 12 n) (λ e. option_kind (calls e) (called_kind e)) (e, o) rest
      ended e None rest h = ((λ q. h.0), h.1)
      ended e (Some es) rest h = ((λ q. cc), tt)

      back : (r : Right) → IsRight r → (p : Expression × Option (List Expression)) × (right_by p.0 p.1 ≡ r) × ((IsExpression p.0 × (rank p.0 < 13)) × (option_kind (calls p.0) (called_kind p.0)).well p.1)
      back (Value e) w = ((e, None), refl, ((w, rank_small e), tt))
      back (Invoke f es) w = ((f, Some es), refl, ((w.1, rank_small f), (w.0, w.2)))

  -- what ends each right side
  pub right_ends : (r : Right) (ts : List Token) → Heads (token.Mark m.Semicolon) ts → right_stops r ts
  unfolding same_mark
  right_ends (Value e) ts h = (before_mark 12 m.Semicolon (omega arith) ts h, and_false (is_postfix e) (sees m.LeftParen ts) (other_mark m.Semicolon m.LeftParen refl ts h))
  right_ends (Invoke f es) ts h = tt

  some_right : (r : Right) × IsRight r
  some_right = (Value (Num zero_number), tt)

  -- ---- a value that may be absent

  abbrev start_value_kind : Kind Right
  start_value_kind = record { well = IsRight; cells = λ r. (token.Mark m.Assign, false) ∷ right_cells r (suc n); stops = right_stops }

  start_value_exact : (ts : List Token) → Exact start_value_kind ts (start_value inner ts)
  unfolding start_value
  start_value_exact ts =
      narrow (both (mark_kind m.Assign) right_kind) start_value_kind (λ p. p.1) ts (λ p w. w.1) (λ p w. refl) (λ p rest w h. h) (λ p rest w h. h) (λ r w o. ((tt, r), refl, (tt, w))) _
      (seq (mark_kind m.Assign) right_kind (λ t u ts w v o. tt) some_right ts _ _ (expect_exact m.Assign ts) (λ t rest r s. right_exact rest))

  abbrev start_kind : Kind (Option Right)
  start_kind = option_kind (sees m.Assign) start_value_kind

  start_exact : (ts : List Token) → Exact start_kind ts (start inner ts)
  unfolding start
  start_exact ts =
      option_exact (sees m.Assign) start_value_kind (λ r ts w o. at_head (sees m.Assign) (token.Mark m.Assign) ts (leads_opens (token.Mark m.Assign) false (start_value_kind.cells r) ts (refl, refl) o) true (λ rest. mark_self m.Assign)) ts (start_value inner) (λ e. start_value_exact ts)

  start_ends : (o : Option Right) (ts : List Token) → Heads (token.Mark m.Semicolon) ts → start_kind.stops o ts
  unfolding same_mark
  start_ends None ts h = other_mark m.Semicolon m.Assign refl ts h
  start_ends (Some r) ts h = right_ends r ts h

  start_spelled : (o : Option Right) → start_cells o (suc n) ≡ start_kind.cells o
  start_spelled None = refl
  start_spelled (Some r) = refl

  any_right : (o : Option Right) → option_well start_value_kind o → IsRightIfAny o
  any_right None w = tt
  any_right (Some r) w = w

  right_any : (o : Option Right) → IsRightIfAny o → option_well start_value_kind o
  right_any None w = tt
  right_any (Some r) w = w

  -- ---- statements

  pub local_exact : (params : Reader Parameters) (readers : (ts : List Token) → Exact (params_kind n) ts (params ts)) (ts : List Token)
      → ((s : Statement) → IsStatement s → Opens (statement_cells s (suc n)) ts → (p : Parameter × (Option Right × Unit {0})) × (Local p.0 p.1.0 ≡ s) × IsRightIfAny p.1.0)
      → Exact (statement_kind (suc n)) ts (local params inner ts)
  unfolding local
  local_exact params readers ts back =
      narrow (both (param_kind n params readers) (both start_kind (mark_kind m.Semicolon))) (statement_kind (suc n)) (λ p. Local p.0 p.1.0) ts (λ p w. any_right p.1.0 w.1.0) (λ p w. ap (λ c. parameter_cells p.0 (suc n) ++ (c ++ ((token.Mark m.Semicolon, false) ∷ []))) (start_spelled p.1.0))
      (λ p rest w s o. absurd (cc)) (λ p rest w s. tt) (λ s w o. let b = back s w o in (b.0, b.1, (tt, (right_any b.0.1.0 b.2, tt)))) _
      (seq (param_kind n params readers) (both start_kind (mark_kind m.Semicolon)) (λ t u ts w v o. tt) ((None, tt), (tt, tt)) ts _ _ (param_exact n params readers ts)
      (λ t rest r s. seq start_kind (mark_kind m.Semicolon) (λ o u ts w v q. start_ends o ts (token_opens (token.Mark m.Semicolon) u ts q)) (tt, tt) rest _ _ (start_exact rest) (λ t rest r s. expect_exact m.Semicolon rest)))

  abbrev pub setting_kind : Kind Setting
  setting_kind = record { well = IsSetting; cells = λ s. setting_cells s (suc n); stops = λ s rest. 12 < grip rest }

  module _ (operand : Reader Expression) (operands : (ts : List Token) → Exact (kind 1 (suc n)) ts (operand ts)) where
    pub setting_exact : (ts : List Token) → Exact setting_kind ts (setting operand inner ts)
    unfolding setting
    setting_exact ts =
        narrow (both (kind 1 (suc n)) (both (mark_kind m.Assign) (kind 12 n))) setting_kind (λ p. record { place = p.0; value = p.1.1 }) ts (λ p w. (w.0.1, w.0.0, w.1.1.0)) (λ p w. refl) (λ p rest w h. h) (λ p rest w h. h)
        (λ s w o. ((s.place, (tt, s.value)), refl, ((w.1, w.0), (tt, (w.2, rank_small s.value))))) _
        (seq (kind 1 (suc n)) (both (mark_kind m.Assign) (kind 12 n)) (λ e u ts w v o. before_mark 1 m.Assign (omega arith) ts (leads_opens (token.Mark m.Assign) false ((both (mark_kind m.Assign) (kind 12 n)).cells u) ts (refl, refl) o)) ((tt, Num zero_number), (tt, (tt, omega arith))) ts _ _ (operands ts)
        (λ t rest r s. seq (mark_kind m.Assign) (kind 12 n) (λ t u ts w v o. tt) (some_expression 12 n) rest _ _ (expect_exact m.Assign rest) (λ t rest r s. inners rest)))

    -- ---- what follows a place or a callee

    abbrev pub tail_well : Expression → Tail → Type 0
    tail_well e (Assigned r) = IsRight r
    tail_well e (Called es) = (rank e < 1) × AreExpressions es

    abbrev tail_cells : Tail → List Cell
    tail_cells (Assigned r) = (token.Mark m.Assign, false) ∷ right_cells r (suc n) ++ ((token.Mark m.Semicolon, false) ∷ [])
    tail_cells (Called es) = call_cells es (suc n) ++ ((token.Mark m.Semicolon, false) ∷ [])

    abbrev tail_kind : Expression → Kind Tail
    tail_kind e = record { well = tail_well e; cells = tail_cells; stops = λ t rest. Unit {0} }

    abbrev is_assigned : Tail → Bool
    is_assigned (Assigned r) = true
    is_assigned (Called es) = false

    tail_sees : (t : Tail) (ts : List Token) → Opens (tail_cells t) ts → sees m.Assign ts ≡ is_assigned t
    unfolding same_mark
    tail_sees (Assigned r) ts o = at_head (sees m.Assign) (token.Mark m.Assign) ts (leads_opens (token.Mark m.Assign) false (tail_cells (Assigned r)) ts (refl, refl) o) true (λ rest. refl)
    tail_sees (Called es) ts o = other_mark m.LeftParen m.Assign refl ts (call_opens es ((token.Mark m.Semicolon, false) ∷ []) ts o)

    assigned_exact : (e : Expression) (ts : List Token) → sees m.Assign ts ≡ true → Exact (tail_kind e) ts (assigned inner ts)
    unfolding assigned
    assigned_exact e ts h =
        narrow (both (mark_kind m.Assign) (both right_kind (mark_kind m.Semicolon))) (tail_kind e) (λ p. Assigned p.1.0) ts (λ p w. w.1.0) (λ p w. refl) (λ p rest w s. tt) (λ p rest w s. tt) (λ t w o. back t w (sym (tail_sees t ts o) ∙ h)) _
        (seq (mark_kind m.Assign) (both right_kind (mark_kind m.Semicolon)) (λ t u ts w v o. tt) ((some_right.0, tt), (some_right.1, tt)) ts _ _ (expect_exact m.Assign ts)
        (λ t rest r s. seq right_kind (mark_kind m.Semicolon) (λ r u ts w v o. right_ends r ts (token_opens (token.Mark m.Semicolon) u ts o)) (tt, tt) rest _ _ (right_exact rest) (λ t rest r s. expect_exact m.Semicolon rest)))
      where
        back : (t : Tail) → tail_well e t → is_assigned t ≡ true → (p : Unit {0} × (Right × Unit {0})) × (Assigned p.1.0 ≡ t) × (Unit {0} × (IsRight p.1.0 × Unit {0}))
        back (Assigned r) w q = ((tt, (r, tt)), refl, (tt, (w, tt)))
        back (Called es) w q = absurd (cc)

    called_exact : (e : Expression) (ts : List Token) → sees m.Assign ts ≡ false → Exact (tail_kind e) ts (only_after (is_postfix e) (called inner) ts)
    unfolding called
    called_exact e ts h = go (is_postfix e) refl
      where
        pick : (t : Tail) → tail_well e t → is_assigned t ≡ false → (es : List Expression) × (Called es ≡ t) × ((rank e < 1) × AreExpressions es)
        pick (Called es) w q = (es, refl, w)
        pick (Assigned r) w q = absurd (cc)

        never : is_postfix e ≡ false → (t : Tail) → tail_well e t → Opens (tail_cells t) ts → ⊥
        never q t w o = let b = pick t w (sym (tail_sees t ts o) ∙ h) in let yes = rank_postfix e b.2.0 in cc

        go : (b : Bool) → is_postfix e ≡ b → Exact (tail_kind e) ts (cond b (made (λ (p : List Expression × Unit {0}). Called p.0) ((call inner ⊳ expect m.Semicolon) ts)) (Err Syntax))
        go true q =
            narrow (both call_kind (mark_kind m.Semicolon)) (tail_kind e) (λ p. Called p.0) ts (λ p w. (postfix_rank e q, w.0)) (λ p w. refl) (λ p rest w s. tt) (λ p rest w s. tt) (λ t w o. let b = pick t w (sym (tail_sees t ts o) ∙ h) in ((b.0, tt), b.1, (b.2.1, tt))) _
            (seq call_kind (mark_kind m.Semicolon) (λ t u ts w v o. tt) (tt, tt) ts _ _ (call_exact ts) (λ t rest r s. expect_exact m.Semicolon rest))
        go false q = record {
          only = λ t rest w f s c. absurd (never q t w (Rattle.c_parse_expr.proofs.Exact.opens_spelled (tail_cells t) ts rest f));
          sound = λ x. never q x.0 x.1 (Rattle.c_parse_expr.proofs.Exact.opens_hot (tail_cells x.0) ts x.2);
        }

    tail_exact : (e : Expression) (ts : List Token) → Exact (tail_kind e) ts (tail inner e ts)
    unfolding tail
    tail_exact e ts = choose_exact (tail_kind e) ts (sees m.Assign) (assigned inner) (only_after (is_postfix e) (called inner)) (assigned_exact e ts) (called_exact e ts)

    pub simple_exact : (ts : List Token) → ((s : Statement) → IsStatement s → Opens (statement_cells s (suc n)) ts → (p : Expression × Tail) × (statement_by p.0 p.1 ≡ s) × ((IsExpression p.0 × (rank p.0 < 2)) × tail_well p.0 p.1)) → Exact (statement_kind (suc n)) ts (simple operand inner ts)
    unfolding simple
    simple_exact ts back =
        narrow (both_on (kind 1 (suc n)) tail_kind) (statement_kind (suc n)) (λ p. statement_by p.0 p.1) ts (λ p w. fits p.0 p.1 w) (λ p w. spelled p.0 p.1) (λ p rest w h. ends p.0 p.1 rest) (λ p rest w h. tt) back _
        (seq_on (kind 1 (suc n)) tail_kind glue (λ e w. (Assigned some_right.0, some_right.1)) ts _ _ (operands ts) (λ e rest r s. tail_exact e rest))
      where
        glue : (e : Expression) (t : Tail) (ts : List Token) → (kind 1 (suc n)).well e → tail_well e t → Opens (tail_cells t) ts → 1 < grip ts
        glue e (Assigned r) ts w v o = before_mark 1 m.Assign (omega arith) ts (leads_opens (token.Mark m.Assign) false (tail_cells (Assigned r)) ts (refl, refl) o)
        glue e (Called es) ts w v o = before_mark 1 m.LeftParen (omega arith) ts (call_opens es ((token.Mark m.Semicolon, false) ∷ []) ts o)

        fits : (e : Expression) (t : Tail) → (IsExpression e × (rank e < 2)) × tail_well e t → IsStatement (statement_by e t)
        fits e (Assigned r) w = (w.0.1, w.0.0, w.1)
        fits e (Called es) w = (w.1.0, w.0.0, w.1.1)

        spelled : (e : Expression) (t : Tail) → statement_cells (statement_by e t) (suc n) ≡ cells e (suc n) ++ tail_cells t
        spelled e (Assigned r) = refl
        spelled e (Called es) = refl

        ends : (e : Expression) (t : Tail) (rest : List Token) → is_open (statement_by e t) ≡ true → sees_keyword k.Else rest ≡ false
        ends e (Assigned r) rest h = absurd (cc)
        ends e (Called es) rest h = absurd (cc)

  -- ---- the end of a function or of a turn

  abbrev value_kind : Kind (Option Right)
  value_kind = unless_kind (sees m.Semicolon) right_kind

  right_open : (r : Right) (ts : List Token) → IsRight r → Opens (right_cells r (suc n)) ts → sees m.Semicolon ts ≡ false
  right_open (Value e) ts w o = semicolon_no e ts (opens_lead e n ts o)
  right_open (Invoke f es) ts w o = semicolon_no f ts (opens_lead f n ts (opens_left (cells f n) (call_cells es (suc n)) ts o))

  value_exact : (ts : List Token) → Exact value_kind ts (unless (sees m.Semicolon) (right inner) ts)
  value_exact ts = unless_exact (sees m.Semicolon) right_kind right_open ts (right inner) (λ e. right_exact ts)

  value_ends : (o : Option Right) (ts : List Token) → Heads (token.Mark m.Semicolon) ts → value_kind.stops o ts
  value_ends None ts h = at_head (sees m.Semicolon) (token.Mark m.Semicolon) ts h true (λ rest. mark_self m.Semicolon)
  value_ends (Some r) ts h = right_ends r ts h

  value_spelled : (o : Option Right) → right_cells_if_any o (suc n) ≡ value_kind.cells o
  value_spelled None = refl
  value_spelled (Some r) = refl

  value_any : (o : Option Right) → option_well right_kind o → IsRightIfAny o
  value_any None w = tt
  value_any (Some r) w = w

  any_value : (o : Option Right) → IsRightIfAny o → option_well right_kind o
  any_value None w = tt
  any_value (Some r) w = w

  pub leave_exact : (ts : List Token) → ((s : Statement) → IsStatement s → Opens (statement_cells s (suc n)) ts → (o : Option Right) × (Return o ≡ s) × IsRightIfAny o) → Exact (statement_kind (suc n)) ts (leave inner ts)
  unfolding leave
  leave_exact ts back =
      narrow (both (keyword_kind k.Return) (both value_kind (mark_kind m.Semicolon))) (statement_kind (suc n)) (λ p. Return p.1.0) ts (λ p w. value_any p.1.0 w.1.0) (λ p w. ap (λ c. (token.Keyword k.Return, false) ∷ c ++ ((token.Mark m.Semicolon, false) ∷ [])) (value_spelled p.1.0))
      (λ p rest w s o. absurd (cc)) (λ p rest w s. tt) (λ s w o. let b = back s w o in ((tt, (b.0, tt)), b.1, (tt, (any_value b.0 b.2, tt)))) _
      (seq (keyword_kind k.Return) (both value_kind (mark_kind m.Semicolon)) (λ t u ts w v o. tt) ((None, tt), (tt, tt)) ts _ _ (expect_keyword_exact k.Return ts)
      (λ t rest r s. seq value_kind (mark_kind m.Semicolon) (λ o u ts w v q. value_ends o ts (token_opens (token.Mark m.Semicolon) u ts q)) (tt, tt) rest _ _ (value_exact rest) (λ t rest r s. expect_exact m.Semicolon rest)))

  pub break_exact : (ts : List Token) → ((s : Statement) → IsStatement s → Opens (statement_cells s (suc n)) ts → Break ≡ s) → Exact (statement_kind (suc n)) ts (break_off ts)
  unfolding break_off
  break_exact ts back =
      narrow (both (keyword_kind k.Break) (mark_kind m.Semicolon)) (statement_kind (suc n)) (λ p. Break) ts (λ p w. tt) (λ p w. refl) (λ p rest w s o. absurd (cc)) (λ p rest w s. tt) (λ s w o. ((tt, tt), back s w o, (tt, tt))) _
      (seq (keyword_kind k.Break) (mark_kind m.Semicolon) (λ t u ts w v o. tt) (tt, tt) ts _ _ (expect_keyword_exact k.Break ts) (λ t rest r s. expect_exact m.Semicolon rest))

  pub continue_exact : (ts : List Token) → ((s : Statement) → IsStatement s → Opens (statement_cells s (suc n)) ts → Continue ≡ s) → Exact (statement_kind (suc n)) ts (go_on ts)
  unfolding go_on
  continue_exact ts back =
      narrow (both (keyword_kind k.Continue) (mark_kind m.Semicolon)) (statement_kind (suc n)) (λ p. Continue) ts (λ p w. tt) (λ p w. refl) (λ p rest w s o. absurd (cc)) (λ p rest w s. tt) (λ s w o. ((tt, tt), back s w o, (tt, tt))) _
      (seq (keyword_kind k.Continue) (mark_kind m.Semicolon) (λ t u ts w v o. tt) (tt, tt) ts _ _ (expect_keyword_exact k.Continue ts) (λ t rest r s. expect_exact m.Semicolon rest))

  pub empty_exact : (ts : List Token) → ((s : Statement) → IsStatement s → Opens (statement_cells s (suc n)) ts → Empty ≡ s) → Exact (statement_kind (suc n)) ts (empty ts)
  unfolding empty
  empty_exact ts back = narrow (mark_kind m.Semicolon) (statement_kind (suc n)) (λ u. Empty) ts (λ u w. tt) (λ u w. refl) (λ u rest w s o. absurd (cc)) (λ u rest w s. tt) (λ s w o. (tt, back s w o, tt)) _ (expect_exact m.Semicolon ts)

  -- ---- a condition

  abbrev pub condition_kind : Kind Expression
  condition_kind = record { well = IsExpression; cells = λ c. (token.Mark m.LeftParen, false) ∷ cells c n ++ ((token.Mark m.RightParen, false) ∷ []); stops = λ c rest. Unit {0} }

  pub condition_exact : (ts : List Token) → Exact condition_kind ts (condition inner ts)
  unfolding condition
  condition_exact ts =
      narrow (both (mark_kind m.LeftParen) (both (kind 12 n) (mark_kind m.RightParen))) condition_kind (λ p. p.1.0) ts (λ p w. w.1.0.0) (λ p w. refl) (λ p rest w s. tt) (λ p rest w s. tt) (λ c w o. ((tt, (c, tt)), refl, (tt, ((w, rank_small c), tt)))) _
      (seq (mark_kind m.LeftParen) (both (kind 12 n) (mark_kind m.RightParen)) (λ t u ts w v o. tt) ((Num zero_number, tt), ((tt, omega arith), tt)) ts _ _ (expect_exact m.LeftParen ts)
      (λ t rest r s. seq (kind 12 n) (mark_kind m.RightParen) (glue_mark 12 n m.RightParen (mark_kind m.RightParen) (omega arith) (token_opens (token.Mark m.RightParen))) (tt, tt) rest _ _ (inners rest) (λ t rest r s. expect_exact m.RightParen rest)))

-- ---- what is read takes a token at least

pub argument_falls : (room : ℕ) (ts : List Token) (e : Expression) (rest : List Token) → next_argument (expr room) ts ≡ Ok (e, rest) → length rest < length ts
argument_falls room ts e rest h =
    let X = next_kind room (expr room) (expr_exact room) in
    let known : Sound X ts (Ok (e, rest)) = subst (Sound X ts) h (next_exact room (expr room) (expr_exact room) ts).sound in
    shorter (X.cells e) ts rest (λ h. h) known.1
