-- Reading an initialiser is exact.
use Rattle.std.proofs.Common.{◌≡◌, ◌≢◌, ◌∙◌, refl, sym, ap, subst, ℕ, zero, suc, ◌<◌, Bool, true, false, not, List, [], ◌∷◌, ◌++◌, length, Option, Some, None, Ok, Err, cond, arith, inl, inr}
use Rattle.std.specs.Prelude.{◌||◌, ◌&&◌}
use Rattle.c_ast.specs.declared.token.Token.{Token}
use Rattle.c_ast.specs.declared.token.Token.TheVariants as token
use Rattle.c_ast.specs.declared.token.Mark.TheVariants as m
use Rattle.c_ast.specs.declared.fault.Fault.TheVariants.{Syntax, TooDeep}
use Rattle.c_ast.specs.declared.expr.UnaryOperator.{UnaryOperator}
use Rattle.c_ast.specs.declared.expr.UnaryOperator.TheVariants as unary_operator
use Rattle.c_ast.specs.Trees.{Text, Expression, Num, Char, Var, Paren, Size, At, Part, Prefix, Convert, Op, Cond, Initializer, Single, Bytes, Braces, Initializers, NoMore, Next, initializers_of}
use Rattle.c_ast.specs.Cells.{Cell, tokens, PassesLimit, KeepsLimits, none, less}
use Rattle.c_ast.specs.Grammar.{limit, rank, cells, unary_mark, IsExpression, comma_cells, IsInitializer, AreInitializers, initializer_cells, more_initializers, IsInitializerIfAny, initial_cells}
use Rattle.c_parse_expr.specs.Reads.{Reads, Reader, made, build, ◌⊳◌, give, one, at_limit}
use Rattle.c_parse_expr.specs.Reading.{same_mark, is_mark, sees, sees_one, is_some, expect, begins, expr}
use Rattle.c_parse_expr.proofs.Exact.{Kind, Exact, Sound, IsHot, Opens, Heads, Leads, both, seq, narrow, choose_exact, option_kind, option_exact, option_well, option_cells, option_stops, one_kind, one_exact, limit_exact, opens_left, leads_left, leads_opens, leads_hot}
use Rattle.c_parse_expr.proofs.Chains.{list_well, list_cells, some_well, some_cells, shorter}
use Rattle.c_parse_expr.proofs.Sorts.{token_opens, mark_kind, expect_exact, at_head, sees_heads, mark_self, grip, before_mark}
use Rattle.c_parse_expr.proofs.Postfixes.{kind, rank_small, lead, leads, opens_lead}
use Rattle.c_parse_expr.proofs.Exprs.{begins_lead, begun, expr_exact}
use Rattle.c_parse.specs.Declarations.{pick_text, sees_next, next_init, inits, last_comma, init_braces, begins_init, init_text, init_by, init, initial_value, initial}
use Rattle.c_parse.proofs.Lists.{last_stops, some_kept, some_kept_exact}
use Rattle.c_parse.proofs.Rights.{other_mark}

abbrev pub init_stops : Initializer → List Token → Type 0
init_stops (Single e) rest = 12 < grip rest
init_stops _ rest = Unit {0}

abbrev pub init_kind : ℕ → Kind Initializer
init_kind room = record { well = IsInitializer; cells = λ i. initializer_cells i room; stops = init_stops }

-- what ends each initialiser
pub init_ends : (i : Initializer) (ts : List Token) → 12 < grip ts → init_stops i ts
init_ends (Single e) ts h = h
init_ends (Bytes b) ts h = tt
init_ends (Braces is comma) ts h = tt

abbrev init_lead : Initializer → Token
init_lead (Single e) = lead e
init_lead (Bytes b) = token.Text b
init_lead (Braces is comma) = token.Mark m.LeftBrace

opens_init : (i : Initializer) (room : ℕ) (ts : List Token) → Opens (initializer_cells i room) ts → Heads (init_lead i) ts
opens_init (Single e) room ts o = opens_lead e (less room) ts o
opens_init (Bytes b) room ts o = leads_opens (token.Text b) (none room) (initializer_cells (Bytes b) room) ts (refl, refl) o
opens_init (Braces is comma) room ts o = leads_opens (token.Mark m.LeftBrace) (none room) (initializer_cells (Braces is comma) room) ts (refl, refl) o

-- ---- which initialiser it is

abbrev sort_by : Bool → Bool → ℕ
sort_by a b = cond a 0 (cond b 1 2)

abbrev first_sort : List Token → ℕ
first_sort ts = sort_by (sees m.LeftBrace ts) (sees_one pick_text ts)

abbrev init_sort : Initializer → ℕ
init_sort (Braces is comma) = 0
init_sort (Bytes b) = 1
init_sort (Single e) = 2

unary_sorted : (s : UnaryOperator) (rest : List Token) → first_sort (token.Mark (unary_mark s) ∷ rest) ≡ 2
unfolding same_mark
unary_sorted unary_operator.Negate rest = refl
unary_sorted unary_operator.Complement rest = refl
unary_sorted unary_operator.Not rest = refl
unary_sorted unary_operator.Dereference rest = refl
unary_sorted unary_operator.AddressOf rest = refl

expression_sorted : (e : Expression) (rest : List Token) → first_sort (lead e ∷ rest) ≡ 2
unfolding same_mark
expression_sorted (Num n) rest = refl
expression_sorted (Char n) rest = refl
expression_sorted (Var n) rest = refl
expression_sorted (Paren a) rest = refl
expression_sorted (Size a) rest = refl
expression_sorted (At b i) rest = expression_sorted b rest
expression_sorted (Part b a x) rest = expression_sorted b rest
expression_sorted (Prefix s a) rest = unary_sorted s rest
expression_sorted (Convert s a) rest = refl
expression_sorted (Op op a b) rest = expression_sorted a rest
expression_sorted (Cond c a b) rest = expression_sorted c rest

init_sorted : (i : Initializer) (rest : List Token) → first_sort (init_lead i ∷ rest) ≡ init_sort i
unfolding same_mark
init_sorted (Single e) rest = expression_sorted e rest
init_sorted (Bytes b) rest = refl
init_sorted (Braces is comma) rest = refl

-- no initialiser begins with a closing brace
unary_not_brace : (s : UnaryOperator) (rest : List Token) → sees m.RightBrace (token.Mark (unary_mark s) ∷ rest) ≡ false
unfolding same_mark
unary_not_brace unary_operator.Negate rest = refl
unary_not_brace unary_operator.Complement rest = refl
unary_not_brace unary_operator.Not rest = refl
unary_not_brace unary_operator.Dereference rest = refl
unary_not_brace unary_operator.AddressOf rest = refl

expression_not_brace : (e : Expression) (rest : List Token) → sees m.RightBrace (lead e ∷ rest) ≡ false
unfolding same_mark
expression_not_brace (Num n) rest = refl
expression_not_brace (Char n) rest = refl
expression_not_brace (Var n) rest = refl
expression_not_brace (Paren a) rest = refl
expression_not_brace (Size a) rest = refl
expression_not_brace (At b i) rest = expression_not_brace b rest
expression_not_brace (Part b a x) rest = expression_not_brace b rest
expression_not_brace (Prefix s a) rest = unary_not_brace s rest
expression_not_brace (Convert s a) rest = refl
expression_not_brace (Op op a b) rest = expression_not_brace a rest
expression_not_brace (Cond c a b) rest = expression_not_brace c rest

init_not_brace : (i : Initializer) (rest : List Token) → sees m.RightBrace (init_lead i ∷ rest) ≡ false
unfolding same_mark
init_not_brace (Single e) rest = expression_not_brace e rest
init_not_brace (Bytes b) rest = refl
init_not_brace (Braces is comma) rest = refl

-- what stands behind a first token at which no limit is passed
second : (x : Token) (cs : List Cell) (t : Token) (ts : List Token) → Opens ((x, false) ∷ cs) (t ∷ ts) → Opens cs ts
second x cs t ts o = elim o.1 [ inl e ↦ absurd (cc) | inr h ↦ h ]

comma_next : (ts : List Token) → sees_next (token.Mark m.Comma ∷ ts) ≡ not (sees m.RightBrace ts)
comma_next ts = ap (λ b. b && not (sees m.RightBrace ts)) (mark_self m.Comma)

not_next : (x : Token) → is_mark m.Comma x ≡ false → (ts : List Token) → Heads x ts → sees_next ts ≡ false
not_next x apart ts h = at_head sees_next x ts h false (λ rest. ap (λ b. b && not (sees m.RightBrace rest)) apart)

abbrev listed : Initializers → List Initializer
listed NoMore = []
listed (Next i is) = i ∷ listed is

listed_is : (is : Initializers) → initializers_of (listed is) ≡ is
listed_is NoMore = refl
listed_is (Next i is) = ap (Next i) (listed_is is)

-- ---- braces

module _ (n : ℕ) (inner : Reader Initializer) (inners : (ts : List Token) → Exact (init_kind n) ts (inner ts)) where
  abbrev next_kind : Kind Initializer
  next_kind = record { well = IsInitializer; cells = λ i. (token.Mark m.Comma, false) ∷ initializer_cells i n; stops = init_stops }

  next_exact : (ts : List Token) → Exact next_kind ts (next_init inner ts)
  unfolding next_init
  next_exact ts =
      narrow (both (mark_kind m.Comma) (init_kind n)) next_kind (λ p. p.1) ts (λ p w. w.1) (λ p w. refl) (λ p rest w h. h) (λ p rest w h. h) (λ i w o. ((tt, i), refl, (tt, w))) _
      (seq (mark_kind m.Comma) (init_kind n) (λ t u ts w v o. tt) (Bytes [], tt) ts _ _ (expect_exact m.Comma ts) (λ t rest r s. inners rest))

  next_opens : (i : Initializer) (ts : List Token) → IsInitializer i → Opens (next_kind.cells i) ts → sees_next ts ≡ true
  next_opens i [] w o = absurd o
  next_opens i (t ∷ ts) w o =
      let behind = second (token.Mark m.Comma) (initializer_cells i n) t ts o in
      ap (λ x. sees_next (x ∷ ts)) (sym o.0) ∙ comma_next ts ∙ ap not (at_head (sees m.RightBrace) (init_lead i) ts (opens_init i n ts behind) false (init_not_brace i))

  comma_first : (i : Initializer) (ts : List Token) → Opens (next_kind.cells i) ts → Heads (token.Mark m.Comma) ts
  comma_first i ts o = leads_opens (token.Mark m.Comma) false (next_kind.cells i) ts (refl, refl) o

  glued : (s u : Initializer) (ts : List Token) → IsInitializer s → IsInitializer u → Opens (next_kind.cells u) ts → init_stops s ts
  glued s u ts w v o = init_ends s ts (before_mark 12 m.Comma (omega arith) ts (comma_first u ts o))

  abbrev inits_kind : Kind (List Initializer)
  inits_kind = some_kept next_kind sees_next (next_init inner) next_opens refl glued (λ ts e. next_exact ts) (init_kind n) glued

  inits_exact : (ts : List Token) → Exact inits_kind ts (inits inner ts)
  unfolding inits
  inits_exact ts = some_kept_exact next_kind sees_next (next_init inner) next_opens refl glued (λ ts e. next_exact ts) (init_kind n) glued inner ts (inners ts)

  -- a last comma, and the closing brace
  abbrev comma_kind : Kind Bool
  comma_kind = record { well = λ b. Unit {0}; cells = λ b. comma_cells b (suc n); stops = λ b rest. b ≡ false → sees m.Comma rest ≡ false }

  comma_exact : (ts : List Token) → Exact comma_kind ts (last_comma ts)
  unfolding last_comma
  comma_exact ts = choose_exact comma_kind ts (sees m.Comma) (build (λ u. true) (expect m.Comma)) (give false) there absent
    where
      without : (b : Bool) → Opens (comma_cells b (suc n)) ts → sees m.Comma ts ≡ false → b ≡ false
      without false o e = refl
      without true o e = let h = at_head (sees m.Comma) (token.Mark m.Comma) ts (leads_opens (token.Mark m.Comma) false (comma_cells true (suc n)) ts (refl, refl) o) true (λ rest. mark_self m.Comma) in cc

      absent : sees m.Comma ts ≡ false → Exact comma_kind ts (Ok (false, ts))
      absent e = record { only = onlies; sound = (tt, refl, (λ h. e), λ h. cool h.0 h.2) }
        where
          onlies : (b : Bool) (rest : List Token) → Unit {0} → ts ≡ tokens (comma_cells b (suc n)) ++ rest → (b ≡ false → sees m.Comma rest ≡ false) → KeepsLimits (comma_cells b (suc n)) → ◌≡◌ {A = Reads Bool} (Ok (false, ts)) (Ok (b, rest))
          onlies false rest w f s c = ap (λ x. Ok (false, x)) f
          onlies true rest w f s c = absurd (let h = without true (Rattle.c_parse_expr.proofs.Exact.opens_spelled (comma_cells true (suc n)) ts rest f) e in cc)

          cool : (b : Bool) → PassesLimit (comma_cells b (suc n)) ts → ⊥
          cool false h = h
          cool true h = let k = without true (Rattle.c_parse_expr.proofs.Exact.opens_hot (comma_cells true (suc n)) ts h) e in cc

      there : sees m.Comma ts ≡ true → Exact comma_kind ts (made (λ u. true) (expect m.Comma ts))
      there e = record { only = onlies; sound = sounds (expect m.Comma ts) (expect_exact m.Comma ts).sound }
        where
          onlies : (b : Bool) (rest : List Token) → Unit {0} → ts ≡ tokens (comma_cells b (suc n)) ++ rest → (b ≡ false → sees m.Comma rest ≡ false) → KeepsLimits (comma_cells b (suc n)) → made (λ u. true) (expect m.Comma ts) ≡ Ok (b, rest)
          onlies false rest w f s c = absurd (let h : sees m.Comma ts ≡ false = ap (sees m.Comma) f ∙ s refl in cc)
          onlies true rest w f s c = ap (made (λ (u : Unit {0}). true)) ((expect_exact m.Comma ts).only tt rest tt f tt c)

          cool : (IsHot (mark_kind m.Comma) ts → ⊥) → (b : Bool) → PassesLimit (comma_cells b (suc n)) ts → ⊥
          cool h false k = k
          cool h true k = h (tt, tt, k)

          sounds : (r : Reads (Unit {0})) → Sound (mark_kind m.Comma) ts r → Sound comma_kind ts (made (λ u. true) r)
          sounds (Ok p) h = (tt, h.1, (λ f. absurd (cc)), λ k. cool h.3 k.0 k.2)
          sounds (Err Syntax) h = λ k. cool h k.0 k.2
          sounds (Err TooDeep) h = (true, tt, h.2)

  abbrev end_kind : Kind (Bool × Unit {0})
  end_kind = both comma_kind (mark_kind m.RightBrace)

  end_exact : (ts : List Token) → Exact end_kind ts ((last_comma ⊳ expect m.RightBrace) ts)
  unfolding same_mark
  end_exact ts = seq comma_kind (mark_kind m.RightBrace) (λ b u ts w v o e. other_mark m.RightBrace m.Comma refl ts (token_opens (token.Mark m.RightBrace) u ts o)) (tt, tt) ts _ _ (comma_exact ts) (λ t rest r s. expect_exact m.RightBrace rest)

  -- nothing of the list follows, and no expression goes on
  end_opens : (p : Bool × Unit {0}) (ts : List Token) → Opens (end_kind.cells p) ts → (sees_next ts ≡ false) × (12 < grip ts)
  unfolding same_mark
  end_opens (false, u) ts o = let h = token_opens (token.Mark m.RightBrace) tt ts o in (not_next (token.Mark m.RightBrace) refl ts h, before_mark 12 m.RightBrace (omega arith) ts h)
  end_opens (true, u) [] o = absurd o
  end_opens (true, u) (t ∷ ts) o =
      let behind = second (token.Mark m.Comma) ((token.Mark m.RightBrace, false) ∷ []) t ts o in
      let brace = at_head (sees m.RightBrace) (token.Mark m.RightBrace) ts (token_opens (token.Mark m.RightBrace) tt ts behind) true (λ rest. mark_self m.RightBrace) in
      (ap (λ x. sees_next (x ∷ ts)) (sym o.0) ∙ comma_next ts ∙ ap not brace, before_mark 12 m.Comma (omega arith) (t ∷ ts) o.0)

  last_ends : (l : List Initializer) (ts : List Token) → 12 < grip ts → last_stops next_kind l ts
  last_ends [] ts h = tt
  last_ends (i ∷ []) ts h = init_ends i ts h
  last_ends (i ∷ (j ∷ is)) ts h = last_ends (j ∷ is) ts h

  list_ends : (l : List Initializer) (ts : List Token) → some_well (init_kind n) next_kind l → (sees_next ts ≡ false) × (12 < grip ts) → inits_kind.stops l ts
  list_ends [] ts w h = h.0
  list_ends (i ∷ []) ts w h = (h.0, init_ends i ts h.1)
  list_ends (i ∷ (j ∷ is)) ts w h = (h.0, last_ends (j ∷ is) ts h.1)

  more_cells : (l : List Initializer) → more_initializers (initializers_of l) (suc n) ≡ list_cells next_kind l
  more_cells [] = refl
  more_cells (i ∷ is) = ap (λ c. (token.Mark m.Comma, false) ∷ initializer_cells i n ++ c) (more_cells is)

  are_listed : (l : List Initializer) → list_well next_kind l → AreInitializers (initializers_of l)
  are_listed [] w = tt
  are_listed (i ∷ is) w = (w.0, are_listed is w.1)

  listed_are : (is : Initializers) → AreInitializers is → list_well next_kind (listed is)
  listed_are NoMore w = tt
  listed_are (Next i is) w = (w.0, listed_are is w.1)

  braces_exact : (ts : List Token) → ((i : Initializer) → IsInitializer i → Opens (initializer_cells i (suc n)) ts → (p : Initializers × Bool) × (Braces p.0 p.1 ≡ i) × IsInitializer (Braces p.0 p.1)) → Exact (init_kind (suc n)) ts (init_braces inner ts)
  unfolding init_braces
  braces_exact ts back =
      narrow (both (mark_kind m.LeftBrace) (both inits_kind end_kind)) (init_kind (suc n)) (λ p. Braces (initializers_of p.1.0) p.1.1.0) ts
      (λ p w. fits p.1.0 w.1.0) (λ p w. spelled p.1.0 p.1.1.0 w.1.0) (λ p rest w s. tt) (λ p rest w s. tt) (λ i w o. let b = back i w o in again b.0.0 b.0.1 i b.1 b.2) _
      (seq (mark_kind m.LeftBrace) (both inits_kind end_kind) (λ t u ts w v o. tt) ((Bytes [] ∷ [], (false, tt)), ((tt, tt), (tt, tt))) ts _ _ (expect_exact m.LeftBrace ts)
      (λ t rest r s. seq inits_kind end_kind (λ l p ts w v o. list_ends l ts w (end_opens p ts o)) ((false, tt), (tt, tt)) rest _ _ (inits_exact rest) (λ t rest r s. end_exact rest)))
    where
      fits : (l : List Initializer) → some_well (init_kind n) next_kind l → (initializers_of l ≢ NoMore) × AreInitializers (initializers_of l)
      fits [] w = absurd w
      fits (i ∷ is) w = ((λ e. cc), (w.0, are_listed is w.1))

      spelled : (l : List Initializer) (c : Bool) → some_well (init_kind n) next_kind l → initializer_cells (Braces (initializers_of l) c) (suc n) ≡ (token.Mark m.LeftBrace, false) ∷ some_cells (init_kind n) next_kind l ++ (comma_cells c (suc n) ++ ((token.Mark m.RightBrace, false) ∷ []))
      spelled [] c w = absurd w
      spelled (i ∷ is) c w = ap (λ x. (token.Mark m.LeftBrace, false) ∷ (initializer_cells i n ++ x) ++ (comma_cells c (suc n) ++ ((token.Mark m.RightBrace, false) ∷ []))) (more_cells is)

      again : (is : Initializers) (c : Bool) (i : Initializer) → Braces is c ≡ i → (is ≢ NoMore) × AreInitializers is
          → (p : Unit {0} × (List Initializer × (Bool × Unit {0}))) × (Braces (initializers_of p.1.0) p.1.1.0 ≡ i) × (Unit {0} × (some_well (init_kind n) next_kind p.1.0 × (Unit {0} × Unit {0})))
      again NoMore c i e w = absurd (w.0 refl)
      again (Next j js) c i e w = ((tt, (j ∷ listed js, (c, tt))), ap (λ l. Braces (Next j l) c) (listed_is js) ∙ e, (tt, ((w.1.0, listed_are js w.1.1), (tt, tt))))

-- ---- strings

abbrev text_kind : Kind Text
text_kind = one_kind (λ b. Unit {0}) token.Text

text_exact : (ts : List Token) → Exact text_kind ts (one pick_text ts)
text_exact ts = one_exact (λ b. Unit {0}) token.Text pick_text (λ b w. refl) from ts
  where
    from : (t : Token) (b : Text) → pick_text t ≡ Some b → Unit {0} × (t ≡ token.Text b)
    from (token.Text x) b e = (tt, cc)
    from (token.Identifier x) b e = cc
    from (token.Keyword x) b e = cc
    from (token.Reserved x) b e = cc
    from (token.Number x) b e = cc
    from (token.Character x) b e = cc
    from (token.Mark x) b e = cc

text_from : (t : Token) (b : Text) → pick_text t ≡ Some b → t ≡ token.Text b
text_from (token.Text x) b e = cc
text_from (token.Identifier x) b e = cc
text_from (token.Keyword x) b e = cc
text_from (token.Reserved x) b e = cc
text_from (token.Number x) b e = cc
text_from (token.Character x) b e = cc
text_from (token.Mark x) b e = cc

-- ---- where no room is left

or_true : (a b : Bool) → b ≡ true → (a || b) ≡ true
or_true true b e = refl
or_true false b e = e

init_begins : (i : Initializer) (ts : List Token) → begins_init (init_lead i ∷ ts) ≡ true
unfolding same_mark
init_begins (Single e) ts = or_true (sees m.LeftBrace (lead e ∷ ts) || sees_one pick_text (lead e ∷ ts)) (begins (lead e ∷ ts)) (begins_lead e ts)
init_begins (Bytes b) ts = refl
init_begins (Braces is comma) ts = refl

hot_init : (i : Initializer) (ts : List Token) → Heads (init_lead i) ts → PassesLimit (initializer_cells i zero) ts
hot_init (Single e) ts h = leads_hot (lead e) (cells e zero) ts (leads e zero) h
hot_init (Bytes b) ts h = leads_hot (token.Text b) (initializer_cells (Bytes b) zero) ts (refl, refl) h
hot_init (Braces is comma) ts h = leads_hot (token.Mark m.LeftBrace) (initializer_cells (Braces is comma) zero) ts (refl, refl) h

begun_init : (ts : List Token) → begins_init ts ≡ true → (i : Initializer) × IsInitializer i × Heads (init_lead i) ts
begun_init [] h = cc
begun_init (t ∷ ts) h = go (is_mark m.LeftBrace t) (pick_text t) refl refl h
  where
    go : (a : Bool) (o : Option Text) → is_mark m.LeftBrace t ≡ a → pick_text t ≡ o → (a || is_some o || begins (t ∷ ts)) ≡ true → (i : Initializer) × IsInitializer i × Heads (init_lead i) (t ∷ ts)
    go true o p q h = (Braces (Next (Bytes []) NoMore) false, ((λ e. cc), (tt, tt)), sees_heads m.LeftBrace (t ∷ ts) p)
    go false (Some b) p q h = (Bytes b, tt, sym (text_from t b q))
    go false None p q h = let b = begun (t ∷ ts) h in (Single b.0, b.1, b.3)

init_none : (ts : List Token) → Exact (init_kind zero) ts (at_limit begins_init ts)
init_none ts =
    limit_exact (init_kind zero) begins_init ts (λ i w o. hot_init i ts (opens_init i zero ts o)) (λ i w o. at_head begins_init (init_lead i) ts (opens_init i zero ts o) true (init_begins i))
    (λ h. let b = begun_init ts h in (b.0, b.1, hot_init b.0 ts b.2))

-- ---- initialisers

module _ (n : ℕ) (inner : Reader Expression) (inners : (ts : List Token) → Exact (kind 12 n) ts (inner ts)) (init : Reader Initializer) (inits : (ts : List Token) → Exact (init_kind n) ts (init ts)) where
  init_by_exact : (ts : List Token) → Exact (init_kind (suc n)) ts (init_by inner init ts)
  unfolding init_by init_text
  init_by_exact ts = go (sees m.LeftBrace ts) (sees_one pick_text ts) refl
    where
      sort : (i : Initializer) (j : ℕ) → first_sort ts ≡ j → Opens (initializer_cells i (suc n)) ts → init_sort i ≡ j
      sort i j e o = sym (at_head first_sort (init_lead i) ts (opens_init i (suc n) ts o) (init_sort i) (init_sorted i)) ∙ e

      lists : (i : Initializer) → IsInitializer i → init_sort i ≡ 0 → (p : Initializers × Bool) × (Braces p.0 p.1 ≡ i) × IsInitializer (Braces p.0 p.1)
      lists (Braces is comma) w e = ((is, comma), refl, w)
      lists (Bytes b) w e = absurd (omega arith)
      lists (Single x) w e = absurd (omega arith)

      texts : (i : Initializer) → init_sort i ≡ 1 → (b : Text) × (Bytes b ≡ i) × Unit {0}
      texts (Bytes b) e = (b, refl, tt)
      texts (Braces is comma) e = absurd (omega arith)
      texts (Single x) e = absurd (omega arith)

      singles : (i : Initializer) → IsInitializer i → init_sort i ≡ 2 → (x : Expression) × (Single x ≡ i) × (IsExpression x × (rank x < 13))
      singles (Single x) w e = (x, refl, (w, rank_small x))
      singles (Braces is comma) w e = absurd (omega arith)
      singles (Bytes b) w e = absurd (omega arith)

      go : (a b : Bool) → first_sort ts ≡ sort_by a b → Exact (init_kind (suc n)) ts (cond a (init_braces init ts) (cond b (made Bytes (one pick_text ts)) (made Single (inner ts))))
      go true b e = braces_exact n init inits ts (λ i w o. lists i w (sort i 0 e o))
      go false true e = narrow text_kind (init_kind (suc n)) Bytes ts (λ b w. tt) (λ b w. refl) (λ b rest w s. tt) (λ b rest w s. tt) (λ i w o. texts i (sort i 1 e o)) _ (text_exact ts)
      go false false e = narrow (kind 12 n) (init_kind (suc n)) Single ts (λ x w. w.0) (λ x w. refl) (λ x rest w h. h) (λ x rest w h. h) (λ i w o. singles i w (sort i 2 e o)) _ (inners ts)

pub init_exact : (room : ℕ) (ts : List Token) → Exact (init_kind room) ts (init room ts)
unfolding init
init_exact zero ts = init_none ts
init_exact (suc room) ts = init_by_exact room (expr room) (expr_exact room) (init room) (init_exact room) ts

-- ---- an initialiser that may be absent

abbrev value_kind : Kind Initializer
value_kind = record { well = IsInitializer; cells = λ i. (token.Mark m.Assign, false) ∷ initializer_cells i limit; stops = init_stops }

value_exact : (ts : List Token) → Exact value_kind ts (initial_value ts)
unfolding initial_value
value_exact ts =
    narrow (both (mark_kind m.Assign) (init_kind limit)) value_kind (λ p. p.1) ts (λ p w. w.1) (λ p w. refl) (λ p rest w h. h) (λ p rest w h. h) (λ i w o. ((tt, i), refl, (tt, w))) _
    (seq (mark_kind m.Assign) (init_kind limit) (λ t u ts w v o. tt) (Bytes [], tt) ts _ _ (expect_exact m.Assign ts) (λ t rest r s. init_exact limit rest))

abbrev pub initial_kind : Kind (Option Initializer)
initial_kind = option_kind (sees m.Assign) value_kind

pub initial_exact : (ts : List Token) → Exact initial_kind ts (initial ts)
unfolding initial
initial_exact ts =
    option_exact (sees m.Assign) value_kind (λ i ts w o. at_head (sees m.Assign) (token.Mark m.Assign) ts (leads_opens (token.Mark m.Assign) false (value_kind.cells i) ts (refl, refl) o) true (λ rest. mark_self m.Assign)) ts initial_value (λ e. value_exact ts)

pub initial_ends : (o : Option Initializer) (ts : List Token) → Heads (token.Mark m.Semicolon) ts → initial_kind.stops o ts
unfolding same_mark
initial_ends None ts h = other_mark m.Semicolon m.Assign refl ts h
initial_ends (Some i) ts h = init_ends i ts (before_mark 12 m.Semicolon (omega arith) ts h)

pub initial_spelled : (o : Option Initializer) → initial_cells o (suc limit) ≡ initial_kind.cells o
initial_spelled None = refl
initial_spelled (Some i) = refl

pub initial_any : (o : Option Initializer) → option_well value_kind o → IsInitializerIfAny o
initial_any None w = tt
initial_any (Some i) w = w

pub any_initial : (o : Option Initializer) → IsInitializerIfAny o → option_well value_kind o
any_initial None w = tt
any_initial (Some i) w = w

-- ---- what is read takes a token at least

pub next_init_falls : (room : ℕ) (ts : List Token) (i : Initializer) (rest : List Token) → next_init (init room) ts ≡ Ok (i, rest) → length rest < length ts
next_init_falls room ts i rest e =
    let X = next_kind room (init room) (init_exact room) in
    let known : Sound X ts (Ok (i, rest)) = subst (Sound X ts) e (next_exact room (init room) (init_exact room) ts).sound in
    shorter (X.cells i) ts rest (λ h. h) known.1
