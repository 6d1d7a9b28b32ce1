-- Reading a postfix is exact.
use Rattle.std.proofs.Common.{◌≡◌, ◌∙◌, refl, sym, ap, subst, ℕ, zero, suc, ◌-◌, ◌<◌, Bool, true, false, inl, List, [], ◌∷◌, ◌++◌, Option, Some, None, cond, arith}
use Rattle.std.proofs.lemmas.Bool.Decides.{nat_tests}
use Rattle.std.specs.Prelude.{◌||◌}
use Rattle.c_ast.specs.declared.token.Token.{Token}
use Rattle.c_ast.specs.declared.token.Token.TheVariants as token
use Rattle.c_ast.specs.declared.token.Number.{Number}
use Rattle.c_ast.specs.declared.token.NumberKind.TheVariants as kind_of_number
use Rattle.c_ast.specs.declared.token.Mark.{Mark}
use Rattle.c_ast.specs.declared.token.Mark.TheVariants as m
use Rattle.c_ast.specs.declared.token.Keyword.TheVariants as k
use Rattle.c_ast.specs.declared.types.BaseType.TheVariants as base
use Rattle.c_ast.specs.declared.types.TypeName.{TypeName}
use Rattle.c_ast.specs.declared.expr.Access.{Access}
use Rattle.c_ast.specs.declared.expr.Access.TheVariants as access
use Rattle.c_ast.specs.Trees.{Text, Expression, Num, Char, Var, Paren, Size, At, Part, Prefix, Convert, Op, Cond}
use Rattle.c_ast.specs.Cells.{Cell, tokens, PassesLimit, KeepsLimits, none, less}
use Rattle.c_ast.specs.Grammar.{limit, cells, rank, steps, IsExpression, access_mark, unary_mark}
use Rattle.c_parse_expr.specs.Reads.{Reader, one}
use Rattle.c_parse_expr.specs.Reading
use Rattle.c_parse_expr.specs.Reading.{is_mark, same_mark, is_keyword, same_keyword, sees, sees_keyword, sees_one, is_some, expect, name, pick_atom, atom, pick_access, pick_unary, operator_of, of_level, pick_operator, type_name, begins_type, group, size_of, prim, Step, Within, Of, join_step, index, member, more_steps, step, postfix, more_links, link, join_link, chain, branches, branches_if_any, conditional, whole, begins, sees_cast, prefixed, cast, unary_by, unary, expr, levels}
use Rattle.c_parse_expr.proofs.Exact.{Kind, Exact, IsHot, Opens, Heads, Leads, Glue, both, seq, narrow, widen, choose_exact, one_kind, one_exact, leads_left, leads_opens}
use Rattle.c_parse_expr.proofs.Chains.{many_kind, many, many_exact, chain_exact, Parts, one_part, last_part}
use Rattle.c_parse_expr.proofs.Sorts.{token_opens, mark_is, mark_self, mark_kind, keyword_kind, expect_exact, expect_keyword_exact, name_kind, name_exact, at_head, opened, grip_of, grip, more_steps_grip, before_mark, level_small}
use Rattle.c_parse_expr.proofs.TypeNames.{type_kind, type_exact, type_ends, type_opens, base_lead, base_begins}

-- ---- expressions by rank

-- the expressions of this rank and below
abbrev pub kind : ℕ → ℕ → Kind Expression
kind n room = record {
  well = λ t. IsExpression t × (rank t < suc n);
  cells = λ t. cells t room;
  stops = λ t rest. n < grip rest;
}

abbrev pub IsPrim : Expression → Type 0
IsPrim (Num n) = Unit {0}
IsPrim (Char c) = Unit {0}
IsPrim (Var x) = Unit {0}
IsPrim (Paren e) = Unit {0}
IsPrim (Size t) = Unit {0}
IsPrim _ = ⊥

abbrev pub prim_kind : ℕ → Kind Expression
prim_kind room = record {
  well = λ t. IsExpression t × IsPrim t;
  cells = λ t. cells t room;
  stops = λ t rest. Unit {0};
}

pub rank_small : (t : Expression) → rank t < 13
rank_small (Op op a b) = let h = level_small op in omega arith
rank_small (Num n) = omega arith
rank_small _ = omega arith

abbrev pub lead : Expression → Token
lead (Num n) = token.Number n
lead (Char c) = token.Character c
lead (Var x) = token.Identifier x
lead (Paren e) = token.Mark m.LeftParen
lead (Size t) = token.Keyword k.Sizeof
lead (At b i) = lead b
lead (Part b a x) = lead b
lead (Prefix s e) = token.Mark (unary_mark s)
lead (Convert t e) = token.Mark m.LeftParen
lead (Op op a b) = lead a
lead (Cond c a b) = lead c

pub leads : (t : Expression) (room : ℕ) → Leads (lead t) (none (less room)) (cells t room)
leads (Num n) room = (refl, refl)
leads (Char n) room = (refl, refl)
leads (Var n) room = (refl, refl)
leads (Paren e) room = (refl, refl)
leads (Size t) room = (refl, refl)
leads (Prefix s e) room = (refl, refl)
leads (Convert t e) room = (refl, refl)
leads (At b i) room = leads_left (lead b) (none (less room)) (cells b room) _ (leads b room)
leads (Part b a x) room = leads_left (lead b) (none (less room)) (cells b room) _ (leads b room)
leads (Op op a b) room = leads_left (lead a) (none (less room)) (cells a room) _ (leads a room)
leads (Cond c a b) room = leads_left (lead c) (none (less room)) (cells c room) _ (leads c room)

pub opens_lead : (t : Expression) (room : ℕ) (ts : List Token) → Opens (cells t room) ts → Heads (lead t) ts
opens_lead t room ts o = leads_opens (lead t) (none (less room)) (cells t room) ts (leads t room) o

-- an expression before a mark that doesn't go on with it
pub glue_mark : {U : Type 0} (n room : ℕ) (m : Mark) (Y : Kind U) → n < grip_of (token.Mark m) → ((u : U) (ts : List Token) → Opens (Y.cells u) ts → Heads (token.Mark m) ts) → Glue (kind n room) Y
glue_mark n room m Y h first t u ts w v o = before_mark n m h ts (first u ts o)

pub type_before : (n : ℕ) (t : TypeName) (ts : List Token) → Heads (token.Mark m.RightParen) ts → Rattle.c_parse_expr.proofs.TypeNames.type_stops n t ts
unfolding same_mark same_keyword
type_before n t ts h = type_ends n t ts (at_head (sees m.Star) (token.Mark m.RightParen) ts h false (λ rest. refl)) (at_head Reading.more_unsigned (token.Mark m.RightParen) ts h false (λ rest. refl))

pub zero_number : Number
zero_number = record { value = 0; kind = kind_of_number.Int }

pub int_type : TypeName
int_type = record { base = base.Int; stars = 0 }

pub some_expression : (n room : ℕ) → (t : Expression) × (kind n room).well t
some_expression n room = (Num zero_number, (tt, omega arith))

-- ---- what stands between a postfix and a name

abbrev access_kind : Kind Access
access_kind = one_kind (λ a. Unit {0}) (λ a. token.Mark (access_mark a))

access_at : (x : Mark) (a : Access) → pick_access (token.Mark x) ≡ Some a → token.Mark x ≡ token.Mark (access_mark a)
access_at m.Dot a e = let is : access.Dot ≡ a = cc in ap (λ a. token.Mark (access_mark a)) is
access_at m.Arrow a e = let is : access.Arrow ≡ a = cc in ap (λ a. token.Mark (access_mark a)) is
access_at _ a e = cc

access_from : (t : Token) (a : Access) → pick_access t ≡ Some a → t ≡ token.Mark (access_mark a)
access_from (token.Mark x) a e = access_at x a e
access_from (token.Identifier x) a e = cc
access_from (token.Keyword x) a e = cc
access_from (token.Reserved x) a e = cc
access_from (token.Number x) a e = cc
access_from (token.Character x) a e = cc
access_from (token.Text x) a e = cc

access_picked : (a : Access) → pick_access (token.Mark (access_mark a)) ≡ Some a
access_picked access.Dot = refl
access_picked access.Arrow = refl

access_exact : (ts : List Token) → Exact access_kind ts (one pick_access ts)
access_exact ts = one_exact (λ a. Unit {0}) (λ a. token.Mark (access_mark a)) pick_access (λ a w. access_picked a) (λ t a e. (tt, access_from t a e)) ts

-- ---- prims

abbrev prim_sort_by : Bool → Bool → ℕ
prim_sort_by a b = cond a 0 (cond b 1 2)

abbrev prim_sorted : List Token → ℕ
prim_sorted ts = prim_sort_by (sees m.LeftParen ts) (sees_keyword k.Sizeof ts)

abbrev prim_sort : Expression → ℕ
prim_sort (Paren e) = 0
prim_sort (Size t) = 1
prim_sort _ = 2

module _ (room : ℕ) (inner : Reader Expression) (inners : (ts : List Token) → Exact (kind 12 room) ts (inner ts)) where
  prims_sort : (t : Expression) (ts : List Token) → IsPrim t → Opens (cells t (suc (suc room))) ts → prim_sorted ts ≡ prim_sort t
  unfolding same_mark same_keyword
  prims_sort (Num n) ts w o = at_head prim_sorted (token.Number n) ts (opens_lead (Num n) (suc (suc room)) ts o) 2 (λ rest. refl)
  prims_sort (Char n) ts w o = at_head prim_sorted (token.Character n) ts (opens_lead (Char n) (suc (suc room)) ts o) 2 (λ rest. refl)
  prims_sort (Var n) ts w o = at_head prim_sorted (token.Identifier n) ts (opens_lead (Var n) (suc (suc room)) ts o) 2 (λ rest. refl)
  prims_sort (Paren e) ts w o = at_head prim_sorted (token.Mark m.LeftParen) ts (opens_lead (Paren e) (suc (suc room)) ts o) 0 (λ rest. refl)
  prims_sort (Size t) ts w o = at_head prim_sorted (token.Keyword k.Sizeof) ts (opens_lead (Size t) (suc (suc room)) ts o) 1 (λ rest. refl)
  prims_sort (At b i) ts w o = absurd w
  prims_sort (Part b a x) ts w o = absurd w
  prims_sort (Prefix s e) ts w o = absurd w
  prims_sort (Convert t e) ts w o = absurd w
  prims_sort (Op op a b) ts w o = absurd w
  prims_sort (Cond c a b) ts w o = absurd w

  group_exact : (ts : List Token) → prim_sorted ts ≡ 0 → Exact (prim_kind (suc (suc room))) ts (group inner ts)
  unfolding group
  group_exact ts e =
      narrow (both (mark_kind m.LeftParen) (both (kind 12 room) (mark_kind m.RightParen))) (prim_kind (suc (suc room))) (λ p. Paren p.1.0) ts
      (λ p w. (w.1.0.0, tt)) (λ p w. refl) (λ p rest w s. tt) (λ p rest w s. tt) (λ t w o. back t w (sym (prims_sort t ts w.1 o) ∙ e)) _
      (seq (mark_kind m.LeftParen) (both (kind 12 room) (mark_kind m.RightParen)) (λ t u ts w v o. tt) ((Num zero_number, tt), ((tt, omega arith), tt)) ts _ _ (expect_exact m.LeftParen ts)
      (λ t rest r s. seq (kind 12 room) (mark_kind m.RightParen) (glue_mark 12 room m.RightParen (mark_kind m.RightParen) (omega arith) (token_opens (token.Mark m.RightParen))) (tt, tt) rest _ _ (inners rest) (λ t rest r s. expect_exact m.RightParen rest)))
    where
      back : (t : Expression) → IsExpression t × IsPrim t → prim_sort t ≡ 0 → (p : Unit {0} × (Expression × Unit {0})) × (Paren p.1.0 ≡ t) × (Unit {0} × ((IsExpression p.1.0 × (rank p.1.0 < 13)) × Unit {0}))
      back (Paren a) w e = ((tt, (a, tt)), refl, (tt, ((w.0, rank_small a), tt)))
      back (Num n) w e = absurd (omega arith)
      back _ w e = absurd (omega arith)

  size_exact : (ts : List Token) → prim_sorted ts ≡ 1 → Exact (prim_kind (suc (suc room))) ts (size_of ts)
  unfolding size_of
  size_exact ts e =
      narrow (both (keyword_kind k.Sizeof) (both (mark_kind m.LeftParen) (both (type_kind room) (mark_kind m.RightParen)))) (prim_kind (suc (suc room))) (λ p. Size p.1.1.0) ts
      (λ p w. (tt, tt)) (λ p w. refl) (λ p rest w s. tt) (λ p rest w s. tt) (λ t w o. back t w (sym (prims_sort t ts w.1 o) ∙ e)) _
      (seq (keyword_kind k.Sizeof) (both (mark_kind m.LeftParen) (both (type_kind room) (mark_kind m.RightParen))) (λ t u ts w v o. tt) ((tt, (int_type, tt)), (tt, (tt, tt))) ts _ _ (expect_keyword_exact k.Sizeof ts)
      (λ t rest r s. seq (mark_kind m.LeftParen) (both (type_kind room) (mark_kind m.RightParen)) (λ t u ts w v o. tt) ((int_type, tt), (tt, tt)) rest _ _ (expect_exact m.LeftParen rest)
      (λ t rest r s. seq (type_kind room) (mark_kind m.RightParen) (λ t u ts w v o. type_before room t ts (token_opens (token.Mark m.RightParen) u ts o)) (tt, tt) rest _ _ (type_exact room rest) (λ t rest r s. expect_exact m.RightParen rest))))
    where
      back : (t : Expression) → IsExpression t × IsPrim t → prim_sort t ≡ 1 → (p : Unit {0} × (Unit {0} × (TypeName × Unit {0}))) × (Size p.1.1.0 ≡ t) × (Unit {0} × (Unit {0} × (Unit {0} × Unit {0})))
      back (Size a) w e = ((tt, (tt, (a, tt))), refl, (tt, (tt, (tt, tt))))
      back (Num n) w e = absurd (omega arith)
      back _ w e = absurd (omega arith)

  abbrev IsAtom : Expression → Type 0
  IsAtom (Num n) = Unit {0}
  IsAtom (Char n) = Unit {0}
  IsAtom (Var x) = Unit {0}
  IsAtom _ = ⊥

  atom_exact : (ts : List Token) → prim_sorted ts ≡ 2 → Exact (prim_kind (suc (suc room))) ts (atom ts)
  unfolding atom
  atom_exact ts e =
      widen (one_kind IsAtom lead) (prim_kind (suc (suc room))) ts fits spelled (λ t rest w s. tt) (λ t rest w s. tt) (λ t w o. back t w (sym (prims_sort t ts w.1 o) ∙ e)) _ (one_exact IsAtom lead pick_atom picked from ts)
    where
      fits : (t : Expression) → IsAtom t → IsExpression t × IsPrim t
      fits (Num n) w = (tt, tt)
      fits (Char n) w = (tt, tt)
      fits (Var x) w = (tt, tt)
      fits (Paren e) w = absurd w
      fits _ w = absurd w

      spelled : (t : Expression) → IsAtom t → cells t (suc (suc room)) ≡ (lead t, false) ∷ []
      spelled (Num n) w = refl
      spelled (Char n) w = refl
      spelled (Var x) w = refl
      spelled (Paren e) w = absurd w
      spelled _ w = absurd w

      picked : (t : Expression) → IsAtom t → pick_atom (lead t) ≡ Some t
      picked (Num n) w = refl
      picked (Char n) w = refl
      picked (Var x) w = refl
      picked (Paren e) w = absurd w
      picked _ w = absurd w

      from : (x : Token) (t : Expression) → pick_atom x ≡ Some t → IsAtom t × (x ≡ lead t)
      from (token.Number n) t e = let is : Num n ≡ t = cc in subst (λ t. IsAtom t × (token.Number n ≡ lead t)) is (tt, refl)
      from (token.Character n) t e = let is : Char n ≡ t = cc in subst (λ t. IsAtom t × (token.Character n ≡ lead t)) is (tt, refl)
      from (token.Identifier n) t e = let is : Var n ≡ t = cc in subst (λ t. IsAtom t × (token.Identifier n ≡ lead t)) is (tt, refl)
      from (token.Mark m) t e = cc
      from (token.Keyword m) t e = cc
      from (token.Reserved m) t e = cc
      from (token.Text m) t e = cc

      back : (t : Expression) → IsExpression t × IsPrim t → prim_sort t ≡ 2 → IsAtom t
      back (Num n) w e = tt
      back (Char n) w e = tt
      back (Var x) w e = tt
      back (Paren a) w e = absurd (omega arith)
      back (Size a) w e = absurd (omega arith)
      back (At b i) w e = absurd w.1
      back (Part b a x) w e = absurd w.1
      back (Prefix s x) w e = absurd w.1
      back (Convert s x) w e = absurd w.1
      back (Op op a b) w e = absurd w.1
      back (Cond c a b) w e = absurd w.1

  prim_exact : (ts : List Token) → Exact (prim_kind (suc (suc room))) ts (prim inner ts)
  unfolding prim
  prim_exact ts = go (sees m.LeftParen ts) (sees_keyword k.Sizeof ts) refl
    where
      go : (a b : Bool) → prim_sorted ts ≡ prim_sort_by a b → Exact (prim_kind (suc (suc room))) ts (cond a (group inner ts) (cond b (size_of ts) (atom ts)))
      go true b e = group_exact ts e
      go false true e = size_exact ts e
      go false false e = atom_exact ts e

  -- ---- the steps of a postfix

  abbrev step_well : Step → Type 0
  step_well (Within i) = IsExpression i
  step_well (Of a x) = Unit {0}

  abbrev step_cells : Bool → Step → List Cell
  step_cells hot (Within i) = (token.Mark m.LeftBracket, hot) ∷ cells i room ++ ((token.Mark m.RightBracket, false) ∷ [])
  step_cells hot (Of a x) = (token.Mark (access_mark a), hot) ∷ (token.Identifier x, false) ∷ []

  abbrev step_kind : Bool → Kind Step
  step_kind hot = record { well = step_well; cells = step_cells hot; stops = λ s rest. Unit {0} }

  abbrev is_within : Step → Bool
  is_within (Within i) = true
  is_within (Of a x) = false

  access_not_bracket : (a : Access) → is_mark m.LeftBracket (token.Mark (access_mark a)) ≡ false
  unfolding same_mark
  access_not_bracket access.Dot = refl
  access_not_bracket access.Arrow = refl

  access_more : (a : Access) (rest : List Token) → more_steps (token.Mark (access_mark a) ∷ rest) ≡ true
  unfolding same_mark
  access_more access.Dot rest = refl
  access_more access.Arrow rest = refl

  bracket_more : (rest : List Token) → more_steps (token.Mark m.LeftBracket ∷ rest) ≡ true
  unfolding same_mark
  bracket_more rest = refl

  step_within : (hot : Bool) (s : Step) (ts : List Token) → Opens (step_cells hot s) ts → sees m.LeftBracket ts ≡ is_within s
  step_within hot (Within i) ts o = opened (sees m.LeftBracket) _ _ ts o true (λ rest. mark_self m.LeftBracket)
  step_within hot (Of a x) ts o = opened (sees m.LeftBracket) (token.Mark (access_mark a), hot) ((token.Identifier x, false) ∷ []) ts o false (λ rest. access_not_bracket a)

  index_exact : (ts : List Token) → sees m.LeftBracket ts ≡ true → Exact (step_kind false) ts (index inner ts)
  unfolding index
  index_exact ts e =
      narrow (both (mark_kind m.LeftBracket) (both (kind 12 room) (mark_kind m.RightBracket))) (step_kind false) (λ p. Within p.1.0) ts
      (λ p w. w.1.0.0) (λ p w. refl) (λ p rest w s. tt) (λ p rest w s. tt) (λ s w o. back s w (sym (step_within false s ts o) ∙ e)) _
      (seq (mark_kind m.LeftBracket) (both (kind 12 room) (mark_kind m.RightBracket)) (λ t u ts w v o. tt) ((Num zero_number, tt), ((tt, omega arith), tt)) ts _ _ (expect_exact m.LeftBracket ts)
      (λ t rest r s. seq (kind 12 room) (mark_kind m.RightBracket) (glue_mark 12 room m.RightBracket (mark_kind m.RightBracket) (omega arith) (token_opens (token.Mark m.RightBracket))) (tt, tt) rest _ _ (inners rest) (λ t rest r s. expect_exact m.RightBracket rest)))
    where
      back : (s : Step) → step_well s → is_within s ≡ true → (p : Unit {0} × (Expression × Unit {0})) × (Within p.1.0 ≡ s) × (Unit {0} × ((IsExpression p.1.0 × (rank p.1.0 < 13)) × Unit {0}))
      back (Within i) w e = ((tt, (i, tt)), refl, (tt, ((w, rank_small i), tt)))
      back (Of a x) w e = absurd (cc)

  member_exact : (ts : List Token) → sees m.LeftBracket ts ≡ false → Exact (step_kind false) ts (member ts)
  unfolding member
  member_exact ts e =
      narrow (both access_kind name_kind) (step_kind false) (λ p. Of p.0 p.1) ts (λ p w. tt) (λ p w. refl) (λ p rest w s. tt) (λ p rest w s. tt) (λ s w o. back s (sym (step_within false s ts o) ∙ e)) _
      (seq access_kind name_kind (λ t u ts w v o. tt) ([], tt) ts _ _ (access_exact ts) (λ t rest r s. name_exact rest))
    where
      back : (s : Step) → is_within s ≡ false → (p : Access × Text) × (Of p.0 p.1 ≡ s) × (Unit {0} × Unit {0})
      back (Of a x) e = ((a, x), refl, (tt, tt))
      back (Within i) e = absurd (cc)

  step_exact : (ts : List Token) → Exact (step_kind false) ts (step inner ts)
  unfolding step
  step_exact ts = choose_exact (step_kind false) ts (sees m.LeftBracket) (index inner) member (index_exact ts) (member_exact ts)

  step_begins : (s : Step) (hot : Bool) (ts : List Token) → step_well s → Opens (step_cells hot s) ts → more_steps ts ≡ true
  step_begins (Within i) hot ts w o = opened more_steps _ _ ts o true bracket_more
  step_begins (Of a x) hot ts w o = opened more_steps (token.Mark (access_mark a), hot) ((token.Identifier x, false) ∷ []) ts o true (access_more a)

  step_over : (ts : List Token) → more_steps ts ≡ true → IsHot (step_kind true) ts
  step_over [] e = cc
  step_over (t ∷ ts) e = go (is_mark m.LeftBracket t) (pick_access t) refl refl e
    where
      go : (a : Bool) (o : Option Access) → is_mark m.LeftBracket t ≡ a → pick_access t ≡ o → (a || is_some o) ≡ true → IsHot (step_kind true) (t ∷ ts)
      go true o p q e = (Within (Num zero_number), tt, (sym (mark_is m.LeftBracket t p), inl refl))
      go false (Some a) p q e = (Of a [], tt, (sym (access_from t a q), inl refl))
      go false None p q e = cc

  step_marked : (s : Step) → KeepsLimits (step_cells true s) → ⊥
  step_marked (Within i) c = let h = c.0 in cc
  step_marked (Of a x) c = let h = c.0 in cc

  abbrev after_step : List Token → Type 0
  after_step rest = 0 < grip rest

  steps_exact : (n : ℕ) (ts : List Token) → Exact (many_kind step_kind after_step n) ts (many more_steps (step inner) n ts)
  steps_exact n ts =
      many_exact step_kind more_steps (step inner) after_step (λ ts. Unit {0}) (λ n ts. Unit {0})
      (λ s w. w) step_begins (λ s u hot ts w v h. tt) (λ s ts w h. tt) (λ s ts h. tt)
      (λ ts b e. let g = more_steps_grip ts in grind (arith, nat_tests))
      (λ ts h. let g = more_steps_grip ts in grind (arith, nat_tests))
      (λ ts b e. step_over ts e) (λ s ts b e w c. step_marked s c) (λ n s ts rest b w e. tt) (λ n ts b e. step_exact ts)
      n ts tt tt

  steps_none : (t : Expression) → IsExpression t × IsPrim t → steps t ≡ 0
  steps_none (At b i) w = absurd w.1
  steps_none (Part b a x) w = absurd w.1
  steps_none (Num n) w = refl
  steps_none _ w = refl

  prim_postfix : (t : Expression) → IsExpression t × IsPrim t → IsExpression t × (rank t < 1)
  prim_postfix (Num n) w = (w.0, omega arith)
  prim_postfix (Char n) w = (w.0, omega arith)
  prim_postfix (Var x) w = (w.0, omega arith)
  prim_postfix (Paren a) w = (w.0, omega arith)
  prim_postfix (Size a) w = (w.0, omega arith)
  prim_postfix (At b i) w = absurd w.1
  prim_postfix (Part b a x) w = absurd w.1
  prim_postfix (Prefix s x) w = absurd w.1
  prim_postfix (Convert s x) w = absurd w.1
  prim_postfix (Op op a b) w = absurd w.1
  prim_postfix (Cond c a b) w = absurd w.1

  parts : (t : Expression) → IsExpression t × (rank t < 1) → Parts join_step (prim_kind (suc (suc room))) step_kind after_step t
  parts (At b i) w = last_part join_step (prim_kind (suc (suc room))) step_kind after_step b (Within i) (parts b (w.0.1, w.0.0)) w.0.2
  parts (Part b a x) w = last_part join_step (prim_kind (suc (suc room))) step_kind after_step b (Of a x) (parts b (w.0.1, w.0.0)) tt
  parts (Num n) w = one_part join_step (prim_kind (suc (suc room))) step_kind after_step (Num n) (tt, tt)
  parts (Char n) w = one_part join_step (prim_kind (suc (suc room))) step_kind after_step (Char n) (tt, tt)
  parts (Var n) w = one_part join_step (prim_kind (suc (suc room))) step_kind after_step (Var n) (tt, tt)
  parts (Paren a) w = one_part join_step (prim_kind (suc (suc room))) step_kind after_step (Paren a) (w.0, tt)
  parts (Size a) w = one_part join_step (prim_kind (suc (suc room))) step_kind after_step (Size a) (tt, tt)
  parts (Prefix s x) w = absurd (omega arith)
  parts (Convert s x) w = absurd (omega arith)
  parts (Op op a b) w = absurd (omega arith)
  parts (Cond c a b) w = absurd (omega arith)

  linked : (m : Mark) (n : ℕ) (more : List Cell) → (Rattle.c_ast.specs.Cells.link m n (suc room) ∷ more) ≡ (token.Mark m, none n) ∷ more
  linked m zero more = refl
  linked m (suc n) more = refl

  pub postfix_exact : (ts : List Token) → Exact (kind 0 (suc (suc room))) ts (postfix inner ts)
  unfolding postfix Reading.steps
  postfix_exact ts =
      chain_exact join_step (prim_kind (suc (suc room))) (kind 0 (suc (suc room))) step_kind after_step steps limit
      prim_postfix (λ t w. refl) steps_none grows counts spelled (λ t ts w h. tt) (λ t s hot ts w v o. tt) parts (λ t rest h. h) (λ t rest h. h) ts (prim inner ts) more_steps (step inner)
      (prim_exact ts) (λ t rest r s. steps_exact limit rest)
    where
      grows : (t : Expression) (s : Step) → IsExpression t × (rank t < 1) → step_well s → IsExpression (join_step t s) × (rank (join_step t s) < 1)
      grows t (Within i) w v = ((w.1, w.0, v), omega arith)
      grows t (Of a x) w v = ((w.1, w.0), omega arith)

      counts : (t : Expression) (s : Step) → IsExpression t × (rank t < 1) → step_well s → steps (join_step t s) ≡ suc (steps t)
      counts t (Within i) w v = refl
      counts t (Of a x) w v = refl

      spelled : (t : Expression) (s : Step) → IsExpression t × (rank t < 1) → step_well s → cells (join_step t s) (suc (suc room)) ≡ cells t (suc (suc room)) ++ step_cells (none (limit - steps t)) s
      spelled t (Within i) w v = ap (λ c. cells t (suc (suc room)) ++ c) (linked m.LeftBracket (limit - steps t) (cells i room ++ ((token.Mark m.RightBracket, false) ∷ [])))
      spelled t (Of a x) w v = ap (λ c. cells t (suc (suc room)) ++ c) (linked (access_mark a) (limit - steps t) ((token.Identifier x, false) ∷ []))
