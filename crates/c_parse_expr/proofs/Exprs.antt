-- Reading an expression is exact.
use Rattle.std.proofs.Common.{◌≡◌, ◌≢◌, ◌∙◌, refl, sym, ap, subst, ℕ, zero, suc, ◌-◌, ◌<◌, ◌≤◌, Bool, true, false, ◌⊎◌, inl, inr, List, [], ◌∷◌, ◌++◌, Option, Some, None, cond, nat_eq, arith}
use Rattle.std.proofs.lemmas.Bool.Decides.{nat_tests}
use Rattle.std.proofs.lemmas.List.{append-nil}
use Rattle.std.specs.Prelude.{◌||◌, ◌&&◌}
use Rattle.c_ast.specs.declared.token.Token.{Token}
use Rattle.c_ast.specs.declared.token.Token.TheVariants as token
use Rattle.c_ast.specs.declared.token.Mark.{Mark}
use Rattle.c_ast.specs.declared.token.Mark.TheVariants as m
use Rattle.c_ast.specs.declared.token.Keyword.TheVariants as k
use Rattle.c_ast.specs.declared.types.TypeName.{TypeName}
use Rattle.c_ast.specs.declared.expr.UnaryOperator.{UnaryOperator}
use Rattle.c_ast.specs.declared.expr.UnaryOperator.TheVariants as unary_operator
use Rattle.c_ast.specs.declared.expr.BinaryOperator.{BinaryOperator}
use Rattle.c_ast.specs.Trees.{Expression, Num, Char, Var, Paren, Size, At, Part, Prefix, Convert, Op, Cond}
use Rattle.c_ast.specs.Cells.{Cell, tokens, PassesLimit, KeepsLimits, none, less}
use Rattle.c_ast.specs.Grammar.{limit, type_cells, cells, rank, links, IsExpression, unary_mark, binary_mark, level}
use Rattle.c_parse_expr.specs.Reads.{Reader, one, at_limit}
use Rattle.c_parse_expr.specs.Reading
use Rattle.c_parse_expr.specs.Reading.{is_mark, same_mark, is_keyword, same_keyword, sees, sees_keyword, sees_one, is_some, expect, name, pick_atom, atom, pick_access, pick_unary, operator_of, of_level, pick_operator, type_name, begins_type, group, size_of, prim, Step, Within, Of, join_step, index, member, more_steps, step, postfix, more_links, link, join_link, chain, branches, branches_if_any, conditional, whole, begins, sees_cast, prefixed, cast, unary_by, unary, expr, levels}
use Rattle.c_parse_expr.proofs.Exact.{Kind, Exact, IsHot, Opens, Heads, Leads, both, both_keep, keep_stops, seq, seq_keep, narrow, widen, option_kind, option_exact, one_kind, one_exact, limit_exact, opens_heads, opens_left, leads_hot}
use Rattle.c_parse_expr.proofs.Chains.{many_kind, many, many_exact, chain_exact, Parts, one_part, last_part}
use Rattle.c_parse_expr.proofs.Sorts.{token_opens, mark_is, mark_self, mark_kind, keyword_kind, expect_exact, expect_keyword_exact, name_kind, name_exact, at_head, opened, sees_heads, sees_keyword_heads, is_some_is, grip_of, grip, heads_grip, more_steps_grip, question_grip, links_grip, before_mark, operator_of_mark, operator_grip, level_small, operator_from, eq_test, of_level_some, loose}
use Rattle.c_parse_expr.proofs.TypeNames.{type_kind, type_exact, type_opens, base_begins}
use Rattle.c_parse_expr.proofs.Postfixes.{glue_mark, int_type, kind, lead, leads, opens_lead, postfix_exact, rank_small, some_expression, type_before, zero_number}

-- ---- chains

module _ (j room : ℕ) (unary_or_more : 1 ≤ j) (below : suc j < 12) (operand : Reader Expression) (operands : (ts : List Token) → Exact (kind j (suc room)) ts (operand ts)) where
  grips : (ts : List Token) → more_links (suc j) ts ≡ nat_eq (grip ts) (suc j)
  grips ts = links_grip (suc j) (omega arith) below ts

  abbrev operator_kind : Kind BinaryOperator
  operator_kind = one_kind (λ op. level op ≡ suc j) (λ op. token.Mark (binary_mark op))

  operator_exact : (ts : List Token) → Exact operator_kind ts (one (pick_operator (suc j)) ts)
  operator_exact ts = one_exact (λ op. level op ≡ suc j) (λ op. token.Mark (binary_mark op)) (pick_operator (suc j)) picked from ts
    where
      picked : (op : BinaryOperator) → level op ≡ suc j → pick_operator (suc j) (token.Mark (binary_mark op)) ≡ Some op
      picked op w = ap (of_level (suc j)) (operator_of_mark op) ∙ ap (λ b. cond b (Some op) None) (eq_test (level op) (suc j) w)

      from : (t : Token) (op : BinaryOperator) → pick_operator (suc j) t ≡ Some op → (level op ≡ suc j) × (t ≡ token.Mark (binary_mark op))
      from t op e = let s = of_level_some (suc j) (operator_of t) op e in (s.1, operator_from t op s.0)

  abbrev link_well : BinaryOperator × Expression → Type 0
  link_well p = (level p.0 ≡ suc j) × (IsExpression p.1 × (rank p.1 < suc j))

  abbrev link_cells : Bool → BinaryOperator × Expression → List Cell
  link_cells hot p = (token.Mark (binary_mark p.0), hot) ∷ cells p.1 (suc room)

  abbrev link_kind : Bool → Kind (BinaryOperator × Expression)
  link_kind hot = record { well = link_well; cells = link_cells hot; stops = λ p rest. j < grip rest }

  link_exact : (ts : List Token) → Exact (link_kind false) ts (link (suc j) operand ts)
  unfolding Reading.link
  link_exact ts = seq operator_kind (kind j (suc room)) (λ t u ts w v m. tt) (some_expression j (suc room)) ts _ _ (operator_exact ts) (λ t rest r s. operands rest)

  abbrev after_links : List Token → Type 0
  after_links rest = suc j < grip rest

  link_begins : (p : BinaryOperator × Expression) (hot : Bool) (ts : List Token) → link_well p → Opens (link_cells hot p) ts → more_links (suc j) ts ≡ true
  link_begins p hot ts w o = grips ts ∙ eq_test (grip ts) (suc j) (heads_grip (token.Mark (binary_mark p.0)) ts (opens_heads (token.Mark (binary_mark p.0), hot) (cells p.1 (suc room)) ts o) ∙ operator_grip p.0 ∙ w.0)

  link_over : (ts : List Token) → more_links (suc j) ts ≡ true → IsHot (link_kind true) ts
  link_over [] e = cc
  link_over (t ∷ ts) e =
      let found = is_some_is (pick_operator (suc j) t) e in
      let s = of_level_some (suc j) (operator_of t) found.0 found.1 in
      ((found.0, Num zero_number), (s.1, (tt, omega arith)), (sym (operator_from t found.0 s.0), inl refl))

  link_grips : (p : BinaryOperator × Expression) (hot : Bool) (ts : List Token) → link_well p → Opens (link_cells hot p) ts → j < grip ts
  link_grips p hot ts w o = let e = link_begins p hot ts w o in let g = grips ts in grind (arith, nat_tests)

  links_exact : (n : ℕ) (ts : List Token) → j < grip ts → Exact (many_kind link_kind after_links n) ts (many (more_links (suc j)) (link (suc j) operand) n ts)
  links_exact n ts b =
      many_exact link_kind (more_links (suc j)) (link (suc j) operand) after_links (λ ts. j < grip ts) (λ n ts. Unit {0})
      (λ p w. w) link_begins (λ p u hot ts w v h. link_grips u hot ts v h) (λ p ts w h. omega arith) (λ p ts h. h)
      (λ ts b e. let g = grips ts in grind (arith, nat_tests))
      (λ ts h. let g = grips ts in grind (arith, nat_tests))
      (λ ts b e. link_over ts e) (λ p ts b e w c. let h = c.0 in cc) (λ n p ts rest b w e. tt) (λ n ts b e. link_exact ts)
      n ts tt b

  links_none : (t : Expression) → IsExpression t × (rank t < suc j) → links (suc j) t ≡ 0
  links_none (Op op a b) w = ap (λ c. cond c (suc (links (suc j) a)) 0) (let apart : nat_eq (suc j) (level op) ≡ false = grind (arith, nat_tests, w.1) in apart)
  links_none (Num n) w = refl
  links_none _ w = refl

  abbrev IsBinary : Expression → Bool
  IsBinary (Op op a b) = true
  IsBinary _ = false

  no_part : (t : Expression) → IsExpression t → rank t < suc j → Parts join_link (kind j (suc room)) link_kind after_links t
  no_part t w h = one_part join_link (kind j (suc room)) link_kind after_links t (w, h)

  chain_parts : (t : Expression) → IsExpression t × (rank t < suc (suc j)) → Parts join_link (kind j (suc room)) link_kind after_links t
  chain_parts (Op op a b) w = go (nat_eq (level op) (suc j)) refl (λ h. chain_parts a h)
    where
      go : (e : Bool) → nat_eq (level op) (suc j) ≡ e → ((IsExpression a × (rank a < suc (suc j))) → Parts join_link (kind j (suc room)) link_kind after_links a) → Parts join_link (kind j (suc room)) link_kind after_links (Op op a b)
      go true e ih =
          let same : level op ≡ suc j = grind (arith, nat_tests) in
          let left : rank a < suc (suc j) = omega (arith, w.0.0) in
          let right : rank b < suc j = omega (arith, w.0.1) in
          last_part join_link (kind j (suc room)) link_kind after_links a (op, b) (ih (w.0.2, left)) (same, (w.0.3, right))
      go false e ih =
          let apart : level op ≢ suc j = grind (arith, nat_tests) in
          let small : level op < suc j = omega (arith, w.1) in
          one_part join_link (kind j (suc room)) link_kind after_links (Op op a b) (w.0, small)
  chain_parts (Num n) w = no_part (Num n) w.0 (omega arith)
  chain_parts (Char n) w = no_part (Char n) w.0 (omega arith)
  chain_parts (Var n) w = no_part (Var n) w.0 (omega arith)
  chain_parts (Paren a) w = no_part (Paren a) w.0 (omega arith)
  chain_parts (Size a) w = no_part (Size a) w.0 (omega arith)
  chain_parts (At b i) w = no_part (At b i) w.0 (omega arith)
  chain_parts (Part b a x) w = no_part (Part b a x) w.0 (omega arith)
  chain_parts (Prefix s x) w = no_part (Prefix s x) w.0 (omega arith)
  chain_parts (Convert s x) w = no_part (Convert s x) w.0 (omega arith)
  chain_parts (Cond c a b) w = absurd (omega arith)

  chains_exact : (ts : List Token) → Exact (kind (suc j) (suc room)) ts (chain (suc j) operand ts)
  unfolding chain Reading.links
  chains_exact ts =
      chain_exact join_link (kind j (suc room)) (kind (suc j) (suc room)) link_kind after_links (links (suc j)) limit
      (λ t w. (w.0, omega arith)) (λ t w. refl) links_none grows counts spelled (λ t ts w h. omega arith) (λ t p hot ts w v o. link_grips p hot ts v o) chain_parts (λ t rest h. h) (λ t rest h. h) ts (operand ts) (more_links (suc j)) (link (suc j) operand)
      (operands ts) (λ t rest r s. links_exact limit rest s)
    where
      grows : (t : Expression) (p : BinaryOperator × Expression) → IsExpression t × (rank t < suc (suc j)) → link_well p → IsExpression (join_link t p) × (rank (join_link t p) < suc (suc j))
      grows t p w v = ((omega arith, omega arith, w.0, v.1.0), omega arith)

      counts : (t : Expression) (p : BinaryOperator × Expression) → IsExpression t × (rank t < suc (suc j)) → link_well p → links (suc j) (join_link t p) ≡ suc (links (suc j) t)
      counts t p w v = ap (λ c. cond c (suc (links (suc j) t)) 0) (eq_test (suc j) (level p.0) (sym v.0))

      spelled : (t : Expression) (p : BinaryOperator × Expression) → IsExpression t × (rank t < suc (suc j)) → link_well p → cells (join_link t p) (suc room) ≡ cells t (suc room) ++ link_cells (none (limit - links (suc j) t)) p
      spelled t p w v =
          ap (λ n. cells t (suc room) ++ (Rattle.c_ast.specs.Cells.link (binary_mark p.0) (limit - links n t) (suc room) ∷ cells p.1 (suc room))) v.0
          ∙ ap (λ c. cells t (suc room) ++ c) (joined (binary_mark p.0) (limit - links (suc j) t) (cells p.1 (suc room)))
        where
          joined : (m : Mark) (n : ℕ) (more : List Cell) → (Rattle.c_ast.specs.Cells.link m n (suc room) ∷ more) ≡ (token.Mark m, none n) ∷ more
          joined m zero more = refl
          joined m (suc n) more = refl

module _ (room : ℕ) (operand : Reader Expression) (operands : (ts : List Token) → Exact (kind 1 (suc room)) ts (operand ts)) where
  levels_exact : (n : ℕ) → n < 11 → (ts : List Token) → Exact (kind (suc n) (suc room)) ts (levels n operand ts)
  unfolding levels
  levels_exact zero h ts = operands ts
  levels_exact (suc n) h ts = chains_exact (suc n) room (omega arith) (omega arith) (levels n operand) (levels_exact n (omega arith)) ts

-- ---- a condition and its branches

module _ (room : ℕ) (inner : Reader Expression) (inners : (ts : List Token) → Exact (kind 12 room) ts (inner ts)) where
  abbrev branches_kind : Kind (Expression × Expression)
  branches_kind = record {
    well = λ p. IsExpression p.0 × IsExpression p.1;
    cells = λ p. (token.Mark m.Question, false) ∷ cells p.0 room ++ ((token.Mark m.Colon, false) ∷ cells p.1 room);
    stops = λ p rest. 12 < grip rest;
  }

  branches_exact : (ts : List Token) → Exact branches_kind ts (branches inner ts)
  unfolding branches
  branches_exact ts =
      narrow (both (mark_kind m.Question) (both (kind 12 room) (both (mark_kind m.Colon) (kind 12 room)))) branches_kind (λ p. (p.1.0, p.1.1.1)) ts
      (λ p w. (w.1.0.0, w.1.1.1.0)) (λ p w. refl) (λ p rest w h. h) (λ p rest w h. h) (λ p w o. ((tt, (p.0, (tt, p.1))), refl, (tt, ((w.0, rank_small p.0), (tt, (w.1, rank_small p.1)))))) _
      (seq (mark_kind m.Question) (both (kind 12 room) (both (mark_kind m.Colon) (kind 12 room))) (λ t u ts w v m. tt) ((Num zero_number, (tt, Num zero_number)), ((tt, omega arith), (tt, (tt, omega arith)))) ts _ _ (expect_exact m.Question ts)
      (λ t rest r s. seq (kind 12 room) (both (mark_kind m.Colon) (kind 12 room)) (glue_mark 12 room m.Colon (both (mark_kind m.Colon) (kind 12 room)) (omega arith) (λ u ts o. opens_heads _ _ ts o)) ((tt, Num zero_number), (tt, (tt, omega arith))) rest _ _ (inners rest)
      (λ t rest r s. seq (mark_kind m.Colon) (kind 12 room) (λ t u ts w v m. tt) (Num zero_number, (tt, omega arith)) rest _ _ (expect_exact m.Colon rest) (λ t rest r s. inners rest))))

  branches_begin : (p : Expression × Expression) (ts : List Token) → IsExpression p.0 × IsExpression p.1 → Opens (branches_kind.cells p) ts → sees m.Question ts ≡ true
  branches_begin p ts w o = opened (sees m.Question) _ _ ts o true (λ rest. mark_self m.Question)

  abbrev tail_kind : Kind (Option (Expression × Expression))
  tail_kind = option_kind (sees m.Question) branches_kind

  tail_exact : (ts : List Token) → Exact tail_kind ts (branches_if_any inner ts)
  unfolding branches_if_any
  tail_exact ts = option_exact (sees m.Question) branches_kind branches_begin ts (branches inner) (λ e. branches_exact ts)

  whole_exact : (operand : Reader Expression) → ((ts : List Token) → Exact (kind 11 (suc room)) ts (operand ts)) → (ts : List Token) → Exact (kind 12 (suc room)) ts (whole inner operand ts)
  unfolding whole
  whole_exact operand operands ts =
      narrow (both_keep (kind 11 (suc room)) (λ t. tail_kind)) (kind 12 (suc room)) (λ p. conditional p.0 p.1) ts
      (λ p w. fits p.0 p.1 w) (λ p w. spelled p.0 p.1) (λ p rest w h. ends p.0 p.1 rest h) (λ p rest w h. ended p.0 p.1 rest h) (λ t w o. back t w) _
      (seq_keep (kind 11 (suc room)) (λ t. tail_kind) glue (λ t w. (None, tt)) ts (operand ts) _ (operands ts) (λ t rest r s. tail_exact rest))
    where
      glue : (t : Expression) (o : Option (Expression × Expression)) (c : Cell) (cs : List Cell) (ts : List Token) → (kind 11 (suc room)).well t → tail_kind.well o → tail_kind.cells o ≡ c ∷ cs → Heads c.0 ts → 11 < grip ts
      glue t None c cs ts w v e h = cc
      glue t (Some p) c cs ts w v e h = let first : (token.Mark m.Question, false) ≡ c = cc in before_mark 11 m.Question (omega arith) ts (subst (λ t. Heads t ts) (sym (ap (λ c. c.0) first)) h)

      fits : (t : Expression) (o : Option (Expression × Expression)) → (IsExpression t × (rank t < 12)) × tail_kind.well o → IsExpression (conditional t o) × (rank (conditional t o) < 13)
      fits t None w = (w.0.0, rank_small t)
      fits t (Some q) w = ((w.0.1, w.0.0, w.1.0, w.1.1), omega arith)

      spelled : (t : Expression) (o : Option (Expression × Expression)) → cells (conditional t o) (suc room) ≡ cells t (suc room) ++ tail_kind.cells o
      spelled t None = sym (append-nil (cells t (suc room)))
      spelled t (Some q) = refl

      ends : (t : Expression) (o : Option (Expression × Expression)) (rest : List Token) → keep_stops (kind 11 (suc room)) (λ t. tail_kind) (t, o) rest → 12 < grip rest
      ends t None rest h = let a = h.0 refl in let e : sees m.Question rest ≡ false = h.1 in let g = question_grip rest in grind (arith, nat_tests)
      ends t (Some q) rest h = h.1

      ended : (t : Expression) (o : Option (Expression × Expression)) (rest : List Token) → 12 < grip rest → keep_stops (kind 11 (suc room)) (λ t. tail_kind) (t, o) rest
      ended t None rest h = ((λ e. omega arith), (let g = question_grip rest in grind (arith, nat_tests)))
      ended t (Some q) rest h = ((λ e. cc), h)

      small : (op : BinaryOperator) → level op < 12
      small op = level_small op

      back : (t : Expression) → IsExpression t × (rank t < 13) → (p : Expression × Option (Expression × Expression)) × (conditional p.0 p.1 ≡ t) × ((IsExpression p.0 × (rank p.0 < 12)) × tail_kind.well p.1)
      back (Cond c a b) w = ((c, Some (a, b)), refl, ((w.0.1, w.0.0), (w.0.2, w.0.3)))
      back (Num n) w = ((Num n, None), refl, ((w.0, omega arith), tt))
      back (Char n) w = ((Char n, None), refl, ((w.0, omega arith), tt))
      back (Var n) w = ((Var n, None), refl, ((w.0, omega arith), tt))
      back (Paren a) w = ((Paren a, None), refl, ((w.0, omega arith), tt))
      back (Size a) w = ((Size a, None), refl, ((w.0, omega arith), tt))
      back (At b i) w = ((At b i, None), refl, ((w.0, omega arith), tt))
      back (Part b a x) w = ((Part b a x, None), refl, ((w.0, omega arith), tt))
      back (Prefix s x) w = ((Prefix s x, None), refl, ((w.0, omega arith), tt))
      back (Convert s x) w = ((Convert s x, None), refl, ((w.0, omega arith), tt))
      back (Op op a b) w = ((Op op a b, None), refl, ((w.0, small op), tt))

-- ---- where no room is left

unary_begins : (s : UnaryOperator) (ts : List Token) → begins (token.Mark (unary_mark s) ∷ ts) ≡ true
unfolding same_mark same_keyword
unary_begins unary_operator.Negate ts = refl
unary_begins unary_operator.Complement ts = refl
unary_begins unary_operator.Not ts = refl
unary_begins unary_operator.Dereference ts = refl
unary_begins unary_operator.AddressOf ts = refl

pub begins_lead : (t : Expression) (ts : List Token) → begins (lead t ∷ ts) ≡ true
unfolding same_mark same_keyword
begins_lead (Num n) ts = refl
begins_lead (Char n) ts = refl
begins_lead (Var n) ts = refl
begins_lead (Paren a) ts = refl
begins_lead (Size a) ts = refl
begins_lead (At b i) ts = begins_lead b ts
begins_lead (Part b a x) ts = begins_lead b ts
begins_lead (Prefix s e) ts = unary_begins s ts
begins_lead (Convert s a) ts = refl
begins_lead (Op op a b) ts = begins_lead a ts
begins_lead (Cond c a b) ts = begins_lead c ts

pub opens_begins : (t : Expression) (room : ℕ) (ts : List Token) → Opens (cells t room) ts → begins ts ≡ true
opens_begins t room ts o = at_head begins (lead t) ts (opens_lead t room ts o) true (begins_lead t)

unary_from : (t : Token) (s : UnaryOperator) → pick_unary t ≡ Some s → t ≡ token.Mark (unary_mark s)
unary_from (token.Mark x) s e = at x s e
  where
    at : (x : Mark) (s : UnaryOperator) → pick_unary (token.Mark x) ≡ Some s → token.Mark x ≡ token.Mark (unary_mark s)
    at m.Minus s e = let is : unary_operator.Negate ≡ s = cc in ap (λ s. token.Mark (unary_mark s)) is
    at m.Tilde s e = let is : unary_operator.Complement ≡ s = cc in ap (λ s. token.Mark (unary_mark s)) is
    at m.Not s e = let is : unary_operator.Not ≡ s = cc in ap (λ s. token.Mark (unary_mark s)) is
    at m.Star s e = let is : unary_operator.Dereference ≡ s = cc in ap (λ s. token.Mark (unary_mark s)) is
    at m.Ampersand s e = let is : unary_operator.AddressOf ≡ s = cc in ap (λ s. token.Mark (unary_mark s)) is
    at _ s e = cc
unary_from (token.Identifier x) s e = cc
unary_from (token.Keyword x) s e = cc
unary_from (token.Reserved x) s e = cc
unary_from (token.Number x) s e = cc
unary_from (token.Character x) s e = cc
unary_from (token.Text x) s e = cc

-- a token with which an expression begins is the first of one
pub begun : (ts : List Token) → begins ts ≡ true → (e : Expression) × IsExpression e × (rank e < 2) × Heads (lead e) ts
begun [] h = cc
begun (t ∷ ts) h = go (is_mark m.LeftParen t) (is_keyword k.Sizeof t) (pick_atom t) (pick_unary t) refl refl refl refl h
  where
    atom_lead : (x : Token) (e : Expression) → pick_atom x ≡ Some e → IsExpression e × (rank e < 2) × (lead e ≡ x)
    atom_lead (token.Number n) e h = let is : Num n ≡ e = cc in subst (λ e. IsExpression e × (rank e < 2) × (lead e ≡ token.Number n)) is (tt, omega arith, refl)
    atom_lead (token.Character n) e h = let is : Char n ≡ e = cc in subst (λ e. IsExpression e × (rank e < 2) × (lead e ≡ token.Character n)) is (tt, omega arith, refl)
    atom_lead (token.Identifier n) e h = let is : Var n ≡ e = cc in subst (λ e. IsExpression e × (rank e < 2) × (lead e ≡ token.Identifier n)) is (tt, omega arith, refl)
    atom_lead (token.Mark x) e h = cc
    atom_lead (token.Keyword x) e h = cc
    atom_lead (token.Reserved x) e h = cc
    atom_lead (token.Text x) e h = cc

    go : (a b : Bool) (c : Option Expression) (d : Option UnaryOperator) → is_mark m.LeftParen t ≡ a → is_keyword k.Sizeof t ≡ b → pick_atom t ≡ c → pick_unary t ≡ d → (a || b || is_some c || is_some d) ≡ true
        → (e : Expression) × IsExpression e × (rank e < 2) × Heads (lead e) (t ∷ ts)
    go true b c d p q r s h = (Paren (Num zero_number), tt, omega arith, sym (mark_is m.LeftParen t p))
    go false true c d p q r s h = (Size int_type, tt, omega arith, sym (Rattle.c_parse_expr.proofs.Sorts.keyword_is k.Sizeof t q))
    go false false (Some e) d p q r s h = let k = atom_lead t e r in (e, k.0, k.1, k.2)
    go false false None (Some o) p q r s h = (Prefix o (Num zero_number), (omega arith, tt), omega arith, sym (unary_from t o s))
    go false false None None p q r s h = cc

no_room : (n room : ℕ) → 1 ≤ n → less room ≡ zero → (ts : List Token) → Exact (kind n room) ts (at_limit begins ts)
no_room n room some e ts = limit_exact (kind n room) begins ts (λ t w o. hot t (opens_lead t room ts o)) (λ t w o. opens_begins t room ts o) there
  where
    hot : (t : Expression) → Heads (lead t) ts → PassesLimit (cells t room) ts
    hot t h = leads_hot (lead t) (cells t room) ts (subst (λ b. Leads (lead t) (none b) (cells t room)) e (leads t room)) h

    there : begins ts ≡ true → IsHot (kind n room) ts
    there h = let b = begun ts h in (b.0, (b.1, omega (arith, b.2)), hot b.0 b.3)

-- ---- unary

unary_picked : (s : UnaryOperator) → pick_unary (token.Mark (unary_mark s)) ≡ Some s
unary_picked unary_operator.Negate = refl
unary_picked unary_operator.Complement = refl
unary_picked unary_operator.Not = refl
unary_picked unary_operator.Dereference = refl
unary_picked unary_operator.AddressOf = refl

abbrev prefix_kind : Kind UnaryOperator
prefix_kind = one_kind (λ s. Unit {0}) (λ s. token.Mark (unary_mark s))

prefix_exact : (ts : List Token) → Exact prefix_kind ts (one pick_unary ts)
prefix_exact ts = one_exact (λ s. Unit {0}) (λ s. token.Mark (unary_mark s)) pick_unary (λ s w. unary_picked s) (λ t s e. (tt, unary_from t s e)) ts

lead_postfix : (t : Expression) → IsExpression t → rank t < 1 → is_some (pick_unary (lead t)) ≡ false
lead_postfix (Num n) w h = refl
lead_postfix (Char n) w h = refl
lead_postfix (Var n) w h = refl
lead_postfix (Paren a) w h = refl
lead_postfix (Size a) w h = refl
lead_postfix (At b i) w h = lead_postfix b w.1 w.0
lead_postfix (Part b a x) w h = lead_postfix b w.1 w.0
lead_postfix (Prefix s a) w h = absurd (omega arith)
lead_postfix (Convert s a) w h = absurd (omega arith)
lead_postfix (Op op a b) w h = absurd (omega arith)
lead_postfix (Cond c a b) w h = absurd (omega arith)

unary_not_type : (s : UnaryOperator) (ts : List Token) → begins_type (token.Mark (unary_mark s) ∷ ts) ≡ false
unfolding same_keyword
unary_not_type unary_operator.Negate ts = refl
unary_not_type unary_operator.Complement ts = refl
unary_not_type unary_operator.Not ts = refl
unary_not_type unary_operator.Dereference ts = refl
unary_not_type unary_operator.AddressOf ts = refl

-- no expression begins as a type does
pub lead_not_type : (t : Expression) (ts : List Token) → begins_type (lead t ∷ ts) ≡ false
unfolding same_keyword
lead_not_type (Num n) ts = refl
lead_not_type (Char n) ts = refl
lead_not_type (Var n) ts = refl
lead_not_type (Paren a) ts = refl
lead_not_type (Size a) ts = refl
lead_not_type (At b i) ts = lead_not_type b ts
lead_not_type (Part b a x) ts = lead_not_type b ts
lead_not_type (Prefix s a) ts = unary_not_type s ts
lead_not_type (Convert s a) ts = refl
lead_not_type (Op op a b) ts = lead_not_type a ts
lead_not_type (Cond c a b) ts = lead_not_type c ts

-- what stands behind a first token at which no limit is passed
second : (x : Token) (cs : List Cell) (t : Token) (ts : List Token) → Opens ((x, false) ∷ cs) (t ∷ ts) → Opens cs ts
second x cs t ts o = elim o.1 [ inl e ↦ absurd (cc) | inr h ↦ h ]

paren_cast : (ts : List Token) → sees_cast (token.Mark m.LeftParen ∷ ts) ≡ begins_type ts
paren_cast ts = ap (λ b. b && begins_type ts) (mark_self m.LeftParen)

not_paren : (t : Token) (ts : List Token) → is_mark m.LeftParen t ≡ false → sees_cast (t ∷ ts) ≡ false
not_paren t ts e = ap (λ b. b && begins_type ts) e

postfix_no_cast : (t : Expression) (room : ℕ) (ts : List Token) → IsExpression t → rank t < 1 → Opens (cells t (suc (suc room))) ts → sees_cast ts ≡ false
unfolding same_mark
postfix_no_cast (Num n) room ts w h o = at_head sees_cast (token.Number n) ts (opens_lead (Num n) (suc (suc room)) ts o) false (λ rest. refl)
postfix_no_cast (Char n) room ts w h o = at_head sees_cast (token.Character n) ts (opens_lead (Char n) (suc (suc room)) ts o) false (λ rest. refl)
postfix_no_cast (Var n) room ts w h o = at_head sees_cast (token.Identifier n) ts (opens_lead (Var n) (suc (suc room)) ts o) false (λ rest. refl)
postfix_no_cast (Size a) room ts w h o = at_head sees_cast (token.Keyword k.Sizeof) ts (opens_lead (Size a) (suc (suc room)) ts o) false (λ rest. refl)
postfix_no_cast (Paren a) room [] w h o = refl
postfix_no_cast (Paren a) room (t ∷ ts) w h o =
    let behind = second (token.Mark m.LeftParen) (cells a room ++ ((token.Mark m.RightParen, false) ∷ [])) t ts o in
    let not : begins_type ts ≡ false = at_head begins_type (lead a) ts (opens_lead a room ts (opens_left (cells a room) _ ts behind)) false (lead_not_type a) in
    ap (λ x. sees_cast (x ∷ ts)) (sym o.0) ∙ paren_cast ts ∙ not
postfix_no_cast (At b i) room ts w h o = postfix_no_cast b room ts w.1 w.0 (opens_left (cells b (suc (suc room))) _ ts o)
postfix_no_cast (Part b a x) room ts w h o = postfix_no_cast b room ts w.1 w.0 (opens_left (cells b (suc (suc room))) _ ts o)
postfix_no_cast (Prefix s a) room ts w h o = absurd (omega arith)
postfix_no_cast (Convert s a) room ts w h o = absurd (omega arith)
postfix_no_cast (Op op a b) room ts w h o = absurd (omega arith)
postfix_no_cast (Cond c a b) room ts w h o = absurd (omega arith)

cast_opens : (a : TypeName) (e : Expression) (room : ℕ) (ts : List Token) → Opens (cells (Convert a e) (suc (suc room))) ts → sees_cast ts ≡ true
cast_opens a e room [] o = absurd o
cast_opens a e room (t ∷ ts) o =
    let behind = second (token.Mark m.LeftParen) (type_cells a (suc room) ++ ((token.Mark m.RightParen, false) ∷ cells e (suc room))) t ts o in
    ap (λ x. sees_cast (x ∷ ts)) (sym o.0) ∙ paren_cast ts ∙ type_opens room begins_type true a ((token.Mark m.RightParen, false) ∷ cells e (suc room)) ts behind (base_begins a.base)

abbrev unary_sort_by : Bool → Bool → ℕ
unary_sort_by a b = cond a 0 (cond b 1 2)

abbrev unary_sorted : List Token → ℕ
unary_sorted ts = unary_sort_by (sees_one pick_unary ts) (sees_cast ts)

abbrev unary_sort : Expression → ℕ
unary_sort (Prefix s e) = 0
unary_sort (Convert t e) = 1
unary_sort _ = 2

unary_sees : (t : Expression) (ts : List Token) → Heads (lead t) ts → sees_one pick_unary ts ≡ is_some (pick_unary (lead t))
unary_sees t ts h = at_head (sees_one pick_unary) (lead t) ts h _ (λ rest. refl)

postfix_sort : (t : Expression) → rank t < 1 → unary_sort t ≡ 2
postfix_sort (Prefix s e) h = absurd (omega arith)
postfix_sort (Convert s e) h = absurd (omega arith)
postfix_sort (Num n) h = refl
postfix_sort _ h = refl

grip_apart : (ts : List Token) → 0 < grip ts → 1 < grip ts
grip_apart [] h = omega arith
grip_apart (t ∷ ts) h = go (operator_of t) (loose t) (Rattle.c_parse_expr.proofs.Sorts.loose_is t) h
  where
    go : (o : Option BinaryOperator) (n : ℕ) → (n ≡ 0) ⊎ ((n ≡ 12) ⊎ (n ≡ 13)) → 0 < Rattle.c_parse_expr.proofs.Sorts.grip_by o n → 1 < Rattle.c_parse_expr.proofs.Sorts.grip_by o n
    go (Some op) n e h = omega arith
    go None n (inl e) h = absurd (omega arith)
    go None n (inr (inl e)) h = omega arith
    go None n (inr (inr e)) h = omega arith

module _ (room : ℕ) (operand : Reader Expression) (operands : (ts : List Token) → Exact (kind 1 (suc room)) ts (operand ts)) (inner : Reader Expression) (inners : (ts : List Token) → Exact (kind 12 room) ts (inner ts)) where
  postfixes : (t : Expression) (ts : List Token) → IsExpression t → rank t < 1 → Opens (cells t (suc (suc room))) ts → unary_sorted ts ≡ unary_sort t
  postfixes t ts w h o =
      (λ i. unary_sort_by ((unary_sees t ts (opens_lead t (suc (suc room)) ts o) ∙ lead_postfix t w h) i) (postfix_no_cast t room ts w h o i)) ∙ sym (postfix_sort t h)

  unary_sorts : (t : Expression) (ts : List Token) → IsExpression t → rank t < 2 → Opens (cells t (suc (suc room))) ts → unary_sorted ts ≡ unary_sort t
  unary_sorts (Prefix s e) ts w h o = ap (λ b. unary_sort_by b (sees_cast ts)) (unary_sees (Prefix s e) ts (opens_lead (Prefix s e) (suc (suc room)) ts o) ∙ ap is_some (unary_picked s))
  unary_sorts (Convert a e) ts w h o = (λ i. unary_sort_by (unary_sees (Convert a e) ts (opens_lead (Convert a e) (suc (suc room)) ts o) i) (cast_opens a e room ts o i))
  unary_sorts (Op op a b) ts w h o = absurd (omega arith)
  unary_sorts (Cond c a b) ts w h o = absurd (omega arith)
  unary_sorts (Num n) ts w h o = postfixes (Num n) ts w (omega arith) o
  unary_sorts (Char n) ts w h o = postfixes (Char n) ts w (omega arith) o
  unary_sorts (Var n) ts w h o = postfixes (Var n) ts w (omega arith) o
  unary_sorts (Paren a) ts w h o = postfixes (Paren a) ts w (omega arith) o
  unary_sorts (Size a) ts w h o = postfixes (Size a) ts w (omega arith) o
  unary_sorts (At b i) ts w h o = postfixes (At b i) ts w (omega arith) o
  unary_sorts (Part b a x) ts w h o = postfixes (Part b a x) ts w (omega arith) o

  prefixed_exact : (ts : List Token) → unary_sorted ts ≡ 0 → Exact (kind 1 (suc (suc room))) ts (prefixed operand ts)
  unfolding prefixed
  prefixed_exact ts e =
      narrow (both prefix_kind (kind 1 (suc room))) (kind 1 (suc (suc room))) (λ p. Prefix p.0 p.1) ts
      (λ p w. ((w.1.1, w.1.0), omega arith)) (λ p w. refl) (λ p rest w h. h) (λ p rest w h. h) (λ t w o. back t w (sym (unary_sorts t ts w.0 w.1 o) ∙ e)) _
      (seq prefix_kind (kind 1 (suc room)) (λ t u ts w v m. tt) (some_expression 1 (suc room)) ts _ _ (prefix_exact ts) (λ t rest r s. operands rest))
    where
      back : (t : Expression) → IsExpression t × (rank t < 2) → unary_sort t ≡ 0 → (p : UnaryOperator × Expression) × (Prefix p.0 p.1 ≡ t) × (Unit {0} × (IsExpression p.1 × (rank p.1 < 2)))
      back (Prefix s a) w e = ((s, a), refl, (tt, (w.0.1, w.0.0)))
      back (Num n) w e = absurd (omega arith)
      back _ w e = absurd (omega arith)

  cast_exact : (ts : List Token) → unary_sorted ts ≡ 1 → Exact (kind 1 (suc (suc room))) ts (cast operand ts)
  unfolding cast
  cast_exact ts e =
      narrow (both (mark_kind m.LeftParen) (both (type_kind room) (both (mark_kind m.RightParen) (kind 1 (suc room))))) (kind 1 (suc (suc room))) (λ p. Convert p.1.0 p.1.1.1) ts
      (λ p w. ((w.1.1.1.1, w.1.1.1.0), omega arith)) (λ p w. refl) (λ p rest w h. h) (λ p rest w h. h) (λ t w o. back t w (sym (unary_sorts t ts w.0 w.1 o) ∙ e)) _
      (seq (mark_kind m.LeftParen) (both (type_kind room) (both (mark_kind m.RightParen) (kind 1 (suc room)))) (λ t u ts w v m. tt) ((int_type, (tt, Num zero_number)), (tt, (tt, (tt, omega arith)))) ts _ _ (expect_exact m.LeftParen ts)
      (λ t rest r s. seq (type_kind room) (both (mark_kind m.RightParen) (kind 1 (suc room))) (λ t u ts w v o. type_before room t ts (opens_heads _ _ ts o)) ((tt, Num zero_number), (tt, (tt, omega arith))) rest _ _ (type_exact room rest)
      (λ t rest r s. seq (mark_kind m.RightParen) (kind 1 (suc room)) (λ t u ts w v m. tt) (some_expression 1 (suc room)) rest _ _ (expect_exact m.RightParen rest) (λ t rest r s. operands rest))))
    where
      back : (t : Expression) → IsExpression t × (rank t < 2) → unary_sort t ≡ 1 → (p : Unit {0} × (TypeName × (Unit {0} × Expression))) × (Convert p.1.0 p.1.1.1 ≡ t) × (Unit {0} × (Unit {0} × (Unit {0} × (IsExpression p.1.1.1 × (rank p.1.1.1 < 2)))))
      back (Convert a x) w e = ((tt, (a, (tt, x))), refl, (tt, (tt, (tt, (w.0.1, w.0.0)))))
      back (Num n) w e = absurd (omega arith)
      back _ w e = absurd (omega arith)

  plain_exact : (ts : List Token) → unary_sorted ts ≡ 2 → Exact (kind 1 (suc (suc room))) ts (postfix inner ts)
  plain_exact ts e =
      widen (kind 0 (suc (suc room))) (kind 1 (suc (suc room))) ts (λ t w. (w.0, omega arith)) (λ t w. refl) (λ t rest w h. grip_apart rest h) (λ t rest w h. omega arith) (λ t w o. back t w (sym (unary_sorts t ts w.0 w.1 o) ∙ e)) _
      (postfix_exact room inner inners ts)
    where
      back : (t : Expression) → IsExpression t × (rank t < 2) → unary_sort t ≡ 2 → IsExpression t × (rank t < 1)
      back (Num n) w e = (w.0, omega arith)
      back (Char n) w e = (w.0, omega arith)
      back (Var n) w e = (w.0, omega arith)
      back (Paren a) w e = (w.0, omega arith)
      back (Size a) w e = (w.0, omega arith)
      back (At b i) w e = (w.0, omega arith)
      back (Part b a x) w e = (w.0, omega arith)
      back (Prefix s x) w e = absurd (omega arith)
      back (Convert s x) w e = absurd (omega arith)
      back (Op op a b) w e = absurd (omega arith)
      back (Cond c a b) w e = absurd (omega arith)

  one_unary : (ts : List Token) → Exact (kind 1 (suc (suc room))) ts (unary_by operand inner ts)
  unfolding unary_by
  one_unary ts = go (sees_one pick_unary ts) (sees_cast ts) refl
    where
      go : (a b : Bool) → unary_sorted ts ≡ unary_sort_by a b → Exact (kind 1 (suc (suc room))) ts (cond a (prefixed operand ts) (cond b (cast operand ts) (postfix inner ts)))
      go true b e = prefixed_exact ts e
      go false true e = cast_exact ts e
      go false false e = plain_exact ts e

mutual
  unfolding unary expr

  pub unary_exact : (room : ℕ) (ts : List Token) → Exact (kind 1 (suc room)) ts (unary room ts)
  unary_exact zero ts = no_room 1 (suc zero) (omega arith) refl ts
  unary_exact (suc room) ts = one_unary room (unary room) (unary_exact room) (expr room) (expr_exact room) ts

  pub expr_exact : (room : ℕ) (ts : List Token) → Exact (kind 12 room) ts (expr room ts)
  expr_exact zero ts = no_room 12 zero (omega arith) refl ts
  expr_exact (suc room) ts = whole_exact room (expr room) (expr_exact room) (levels 10 (unary room)) (levels_exact room (unary room) (unary_exact room) 10 (omega arith)) ts
