-- Reading parameters is exact.
use Rattle.std.proofs.Common.{◌≡◌, ◌∙◌, refl, sym, ap, subst, ℕ, zero, suc, ◌<◌, Bool, true, false, List, [], ◌∷◌, ◌++◌, length, append_assoc, Option, Some, None, Ok, Err, cond, nat_eq, arith}
use Rattle.std.specs.Prelude.{◌&&◌, ◌||◌}
use Rattle.std.proofs.lemmas.Bool.Decides.{nat_tests}
use Rattle.std.proofs.lemmas.List.{append-nil}
use Rattle.c_ast.specs.declared.token.Token.{Token}
use Rattle.c_ast.specs.declared.token.Token.TheVariants as token
use Rattle.c_ast.specs.declared.token.Mark.TheVariants as m
use Rattle.c_ast.specs.declared.token.Keyword.TheVariants as k
use Rattle.c_ast.specs.declared.types.TagKind.{TagKind}
use Rattle.c_ast.specs.declared.types.UnsignedType.TheVariants as u
use Rattle.c_ast.specs.declared.types.BaseType.{BaseType}
use Rattle.c_ast.specs.declared.types.BaseType.TheVariants as base
use Rattle.c_ast.specs.declared.types.TypeName.{TypeName}
use Rattle.c_ast.specs.Trees.{Text, Parameter, Plain, Function, Parameters, NoParameter, Also, parameters_of}
use Rattle.c_ast.specs.Cells.{Cell, tokens, PassesLimit, none}
use Rattle.c_ast.specs.Grammar.{star_limit, base_cells, star_cells, type_cells, parameter_cells, parameters_cells, more_parameters}
use Rattle.c_parse_expr.specs.Reads.{Reads, Reader, made, build, ◌⊳◌, choose, unless, some_of, list_if_any, at_limit}
use Rattle.c_parse_expr.specs.Reading.{same_mark, same_keyword, is_keyword, sees, is_some, pick_tag, pick_base, more_unsigned, type_name, begins_type}
use Rattle.c_parse_expr.proofs.Exact.{Kind, Exact, Sound, IsHot, Opens, Heads, Leads, both, both_with, two_exact, seq, narrow, widen, choose_exact, limit_exact, opens_heads, opens_left, opens_all, opens_hot, leads_left, leads_opens, leads_hot}
use Rattle.c_parse_expr.proofs.Chains.{list_well, list_cells, some_kind, some_exact, if_any_kind, if_any_exact, shorter}
use Rattle.c_parse_expr.proofs.Sorts.{token_opens, mark_kind, expect_exact, name_kind, name_exact, at_head, opened, sees_heads, mark_self, keyword_is}
use Rattle.c_parse_expr.proofs.TypeNames.{type_kind, type_stops, type_exact, type_ends, type_opens, base_lead, base_leads, base_begins}
use Rattle.c_parse.specs.Parameters.{Declarator, plain_declarator, function_declarator, declarator, parameter_by, param, next_param, is_void_base, is_void, alone, first_param, some_params, params_after, params_by, params}

pub and_false : (a b : Bool) → b ≡ false → (a && b) ≡ false
and_false true b e = e
and_false false b e = refl

-- what stands before a mark or a name ends a type
pub type_before : (n : ℕ) (t : TypeName) (x : Token) → ((rest : List Token) → sees m.Star (x ∷ rest) ≡ false) → ((rest : List Token) → more_unsigned (x ∷ rest) ≡ false) → (ts : List Token) → Heads x ts → type_stops n t ts
type_before n t x a b ts h = type_ends n t ts (at_head (sees m.Star) x ts h false a) (at_head more_unsigned x ts h false b)

pub type_before_paren : (n : ℕ) (t : TypeName) (ts : List Token) → Heads (token.Mark m.LeftParen) ts → type_stops n t ts
unfolding same_mark same_keyword
type_before_paren n t ts h = type_before n t (token.Mark m.LeftParen) (λ rest. refl) (λ rest. refl) ts h

pub type_before_close : (n : ℕ) (t : TypeName) (ts : List Token) → Heads (token.Mark m.RightParen) ts → type_stops n t ts
unfolding same_mark same_keyword
type_before_close n t ts h = type_before n t (token.Mark m.RightParen) (λ rest. refl) (λ rest. refl) ts h

pub type_before_name : (n : ℕ) (t : TypeName) (x : Text) (ts : List Token) → Heads (token.Identifier x) ts → type_stops n t ts
unfolding same_mark same_keyword
type_before_name n t x ts h = type_before n t (token.Identifier x) (λ rest. refl) (λ rest. refl) ts h

-- ---- kinds

abbrev pub params_stop : Parameters → List Token → Type 0
params_stop NoParameter rest = sees m.RightParen rest ≡ true
params_stop (Also p ps) rest = sees m.Comma rest ≡ false

abbrev pub params_kind : ℕ → Kind Parameters
params_kind room = record { well = λ ps. Unit {0}; cells = λ ps. parameters_cells ps room; stops = params_stop }

pub params_before_close : (ps : Parameters) (ts : List Token) → Heads (token.Mark m.RightParen) ts → params_stop ps ts
unfolding same_mark
params_before_close NoParameter ts h = at_head (sees m.RightParen) (token.Mark m.RightParen) ts h true (λ rest. refl)
params_before_close (Also p ps) ts h = at_head (sees m.Comma) (token.Mark m.RightParen) ts h false (λ rest. refl)

abbrev pub param_type : Parameter → TypeName
param_type (Plain t x) = t
param_type (Function t x ps) = t

abbrev pub param_declarator : Parameter → Declarator
param_declarator (Plain t x) = (x, None)
param_declarator (Function t x ps) = (x, Some ps)

param_again : (p : Parameter) → parameter_by (param_type p) (param_declarator p) ≡ p
param_again (Plain t x) = refl
param_again (Function t x ps) = refl

abbrev listed : Parameters → List Parameter
listed NoParameter = []
listed (Also p ps) = p ∷ listed ps

listed_is : (ps : Parameters) → parameters_of (listed ps) ≡ ps
listed_is NoParameter = refl
listed_is (Also p ps) = ap (Also p) (listed_is ps)

module _ (n : ℕ) (inner : Reader Parameters) (inners : (ts : List Token) → Exact (params_kind n) ts (inner ts)) where
  abbrev declarator_cells : Declarator → List Cell
  declarator_cells (x, None) = (token.Identifier x, false) ∷ []
  declarator_cells (x, Some ps) =
      (token.Mark m.LeftParen, false) ∷ (token.Mark m.Star, false) ∷ (token.Identifier x, false) ∷ (token.Mark m.RightParen, false) ∷ (token.Mark m.LeftParen, false) ∷ parameters_cells ps n ++ ((token.Mark m.RightParen, false) ∷ [])

  abbrev declarator_kind : Kind Declarator
  declarator_kind = record { well = λ d. Unit {0}; cells = declarator_cells; stops = λ d rest. Unit {0} }

  abbrev is_function : Declarator → Bool
  is_function (x, None) = false
  is_function (x, Some ps) = true

  declarator_sees : (d : Declarator) (ts : List Token) → Opens (declarator_cells d) ts → sees m.LeftParen ts ≡ is_function d
  unfolding same_mark
  declarator_sees (x, None) ts o = opened (sees m.LeftParen) (token.Identifier x, false) [] ts o false (λ rest. refl)
  declarator_sees (x, Some ps) ts o = at_head (sees m.LeftParen) (token.Mark m.LeftParen) ts (leads_opens (token.Mark m.LeftParen) false (declarator_cells (x, Some ps)) ts (refl, refl) o) true (λ rest. refl)

  declarator_lead : Declarator → Token
  declarator_lead (x, None) = token.Identifier x
  declarator_lead (x, Some ps) = token.Mark m.LeftParen

  type_glue : (t : TypeName) (d : Declarator) (ts : List Token) → Opens (declarator_cells d) ts → type_stops n t ts
  type_glue t (x, None) ts o = type_before_name n t x ts (opens_heads (token.Identifier x, false) [] ts o)
  type_glue t (x, Some ps) ts o = type_before_paren n t ts (leads_opens (token.Mark m.LeftParen) false (declarator_cells (x, Some ps)) ts (refl, refl) o)

  plain_exact : (ts : List Token) → sees m.LeftParen ts ≡ false → Exact declarator_kind ts (plain_declarator ts)
  unfolding plain_declarator
  plain_exact ts e = narrow name_kind declarator_kind (λ x. (x, None)) ts (λ x w. tt) (λ x w. refl) (λ x rest w s. tt) (λ x rest w s. tt) (λ d w o. back d (sym (declarator_sees d ts o) ∙ e)) _ (name_exact ts)
    where
      back : (d : Declarator) → is_function d ≡ false → (x : Text) × (◌≡◌ {A = Declarator} (x, None) d) × Unit {0}
      back (x, None) e = (x, refl, tt)
      back (x, Some ps) e = absurd (cc)

  abbrev closing : Kind (Unit {0})
  closing = mark_kind m.RightParen

  abbrev opening : Kind (Unit {0})
  opening = mark_kind m.LeftParen

  function_exact : (ts : List Token) → sees m.LeftParen ts ≡ true → Exact declarator_kind ts (function_declarator inner ts)
  unfolding function_declarator
  function_exact ts e =
      narrow (both opening (both (mark_kind m.Star) (both name_kind (both closing (both opening (both (params_kind n) closing)))))) declarator_kind (λ p. (p.1.1.0, Some p.1.1.1.1.1.0)) ts
      (λ p w. tt) (λ p w. refl) (λ p rest w s. tt) (λ p rest w s. tt) (λ d w o. back d (sym (declarator_sees d ts o) ∙ e)) _
      (seq opening (both (mark_kind m.Star) (both name_kind (both closing (both opening (both (params_kind n) closing))))) (λ t u ts w v o. tt) ((tt, ([], (tt, (tt, (NoParameter, tt))))), (tt, (tt, (tt, (tt, (tt, tt)))))) ts _ _ (expect_exact m.LeftParen ts)
      (λ t rest r s. seq (mark_kind m.Star) (both name_kind (both closing (both opening (both (params_kind n) closing)))) (λ t u ts w v o. tt) (([], (tt, (tt, (NoParameter, tt)))), (tt, (tt, (tt, (tt, tt))))) rest _ _ (expect_exact m.Star rest)
      (λ t rest r s. seq name_kind (both closing (both opening (both (params_kind n) closing))) (λ t u ts w v o. tt) ((tt, (tt, (NoParameter, tt))), (tt, (tt, (tt, tt)))) rest _ _ (name_exact rest)
      (λ t rest r s. seq closing (both opening (both (params_kind n) closing)) (λ t u ts w v o. tt) ((tt, (NoParameter, tt)), (tt, (tt, tt))) rest _ _ (expect_exact m.RightParen rest)
      (λ t rest r s. seq opening (both (params_kind n) closing) (λ t u ts w v o. tt) ((NoParameter, tt), (tt, tt)) rest _ _ (expect_exact m.LeftParen rest)
      (λ t rest r s. seq (params_kind n) closing (λ ps u ts w v o. params_before_close ps ts (token_opens (token.Mark m.RightParen) u ts o)) (tt, tt) rest _ _ (inners rest) (λ t rest r s. expect_exact m.RightParen rest)))))))
    where
      back : (d : Declarator) → is_function d ≡ true → (p : Unit {0} × (Unit {0} × (Text × (Unit {0} × (Unit {0} × (Parameters × Unit {0})))))) × (◌≡◌ {A = Declarator} (p.1.1.0, Some p.1.1.1.1.1.0) d) × (Unit {0} × (Unit {0} × (Unit {0} × (Unit {0} × (Unit {0} × (Unit {0} × Unit {0}))))))
      back (x, Some ps) e = ((tt, (tt, (x, (tt, (tt, (ps, tt)))))), refl, (tt, (tt, (tt, (tt, (tt, (tt, tt)))))))
      back (x, None) e = absurd (cc)

  declarator_exact : (ts : List Token) → Exact declarator_kind ts (declarator inner ts)
  unfolding declarator
  declarator_exact ts = choose_exact declarator_kind ts (sees m.LeftParen) (function_declarator inner) plain_declarator (function_exact ts) (plain_exact ts)

  -- ---- one parameter

  abbrev pub param_kind : Kind Parameter
  param_kind = record { well = λ p. Unit {0}; cells = λ p. parameter_cells p (suc n); stops = λ p rest. Unit {0} }

  by_cells : (t : TypeName) (d : Declarator) → parameter_cells (parameter_by t d) (suc n) ≡ type_cells t (suc n) ++ declarator_cells d
  by_cells t (x, None) = refl
  by_cells t (x, Some ps) = refl

  own_cells : (p : Parameter) → parameter_cells p (suc n) ≡ type_cells (param_type p) (suc n) ++ declarator_cells (param_declarator p)
  own_cells (Plain t x) = refl
  own_cells (Function t x ps) = refl

  pub param_exact : (ts : List Token) → Exact param_kind ts (param inner ts)
  unfolding param
  param_exact ts =
      narrow (both (type_kind n) declarator_kind) param_kind (λ p. parameter_by p.0 p.1) ts (λ p w. tt) (λ p w. by_cells p.0 p.1) (λ p rest w s. tt) (λ p rest w s. tt) (λ p w o. ((param_type p, param_declarator p), param_again p, (tt, tt))) _
      (seq (type_kind n) declarator_kind (λ t d ts w v o. type_glue t d ts o) (([], None), tt) ts _ _ (type_exact n ts) (λ t rest r s. declarator_exact rest))

  pub param_opens : {A : Type 0} (f : List Token → A) (v : A) (p : Parameter) (more : List Cell) (ts : List Token) → Opens (parameter_cells p (suc n) ++ more) ts → ((rest : List Token) → f (base_lead (param_type p).base ∷ rest) ≡ v) → f ts ≡ v
  param_opens f v p more ts o h = type_opens n f v (param_type p) (declarator_cells (param_declarator p)) ts (subst (λ c. Opens c ts) (own_cells p) (opens_left (parameter_cells p (suc n)) more ts o)) h

  -- ---- the others of a list

  abbrev next_kind : Kind Parameter
  next_kind = record { well = λ p. Unit {0}; cells = λ p. (token.Mark m.Comma, false) ∷ parameter_cells p (suc n); stops = λ p rest. Unit {0} }

  next_exact : (ts : List Token) → Exact next_kind ts (next_param inner ts)
  unfolding next_param
  next_exact ts =
      narrow (both (mark_kind m.Comma) param_kind) next_kind (λ p. p.1) ts (λ p w. tt) (λ p w. refl) (λ p rest w s. tt) (λ p rest w s. tt) (λ p w o. ((tt, p), refl, (tt, tt))) _
      (seq (mark_kind m.Comma) param_kind (λ t u ts w v o. tt) (Plain (record { base = base.Int; stars = 0 }) [], tt) ts _ _ (expect_exact m.Comma ts) (λ t rest r s. param_exact rest))

  abbrev no_comma : List Token → Type 0
  no_comma rest = sees m.Comma rest ≡ false

  next_opens : (p : Parameter) (ts : List Token) → Unit {0} → Opens (next_kind.cells p) ts → sees m.Comma ts ≡ true
  next_opens p ts w o = at_head (sees m.Comma) (token.Mark m.Comma) ts (leads_opens (token.Mark m.Comma) false (next_kind.cells p) ts (refl, refl) o) true (λ rest. mark_self m.Comma)

  -- the first of a list, whose type was read
  abbrev first_kind : TypeName → Kind Parameter
  first_kind t = record { well = λ p. param_type p ≡ t; cells = λ p. declarator_cells (param_declarator p); stops = λ p rest. Unit {0} }

  first_exact : (t : TypeName) (ts : List Token) → Exact (first_kind t) ts (first_param inner t ts)
  unfolding first_param
  first_exact t ts = narrow declarator_kind (first_kind t) (parameter_by t) ts (λ d w. typed d) (λ d w. same d) (λ d rest w s. tt) (λ d rest w s. tt) (λ p w o. (param_declarator p, ap (λ t. parameter_by t (param_declarator p)) (sym w) ∙ param_again p, tt)) _ (declarator_exact ts)
    where
      typed : (d : Declarator) → param_type (parameter_by t d) ≡ t
      typed (x, None) = refl
      typed (x, Some ps) = refl

      same : (d : Declarator) → declarator_cells (param_declarator (parameter_by t d)) ≡ declarator_cells d
      same (x, None) = refl
      same (x, Some ps) = refl

  abbrev some_params_kind : TypeName → Kind (List Parameter)
  some_params_kind t = some_kind (first_kind t) next_kind no_comma

  some_params_exact : (t : TypeName) (ts : List Token) → Exact (some_params_kind t) ts (some_params inner t ts)
  unfolding some_params
  some_params_exact t ts =
      some_exact next_kind (sees m.Comma) (next_param inner) no_comma (λ ts. Unit {0}) next_opens refl (λ s u ts w v o. tt) (λ s ts w h. tt) (λ s ts h. tt) (λ ts b e. e) (λ ts h. h) (λ ts e. next_exact ts)
      (first_kind t) (λ s ts w h. tt) (λ s u ts w v o. tt) (λ s ts h. tt) (first_param inner t) ts (first_exact t ts)

  some_opens : (t : TypeName) (l : List Parameter) (ts : List Token) → (some_params_kind t).well l → Opens ((some_params_kind t).cells l) ts → alone t ts ≡ false
  unfolding same_mark
  some_opens t [] ts w o = absurd w
  some_opens t (p ∷ ps) ts w o = and_false (is_void t) (sees m.RightParen ts) (not_close (param_declarator p) (opens_left (declarator_cells (param_declarator p)) (list_cells next_kind ps) ts o))
    where
      not_close : (d : Declarator) → Opens (declarator_cells d) ts → sees m.RightParen ts ≡ false
      not_close (x, None) o = opened (sees m.RightParen) (token.Identifier x, false) [] ts o false (λ rest. refl)
      not_close (x, Some ps) o = at_head (sees m.RightParen) (token.Mark m.LeftParen) ts (leads_opens (token.Mark m.LeftParen) false (declarator_cells (x, Some ps)) ts (refl, refl) o) false (λ rest. refl)

  abbrev after_well : TypeName → List Parameter → Type 0
  after_well t [] = is_void t ≡ true
  after_well t (p ∷ ps) = (some_params_kind t).well (p ∷ ps)

  abbrev after_stop : List Parameter → List Token → Type 0
  after_stop [] rest = sees m.RightParen rest ≡ true
  after_stop (p ∷ ps) rest = no_comma rest

  abbrev after_kind : TypeName → Kind (List Parameter)
  after_kind t = record { well = after_well t; cells = (some_params_kind t).cells; stops = after_stop }

  after_exact : (t : TypeName) (ts : List Token) → Exact (after_kind t) ts (params_after inner t ts)
  unfolding params_after
  after_exact t ts = go (is_void t) refl
    where
      go : (b : Bool) → is_void t ≡ b → Exact (after_kind t) ts (made list_if_any (cond (alone t ts) (Ok (None, ts)) (made Some (some_params inner t ts))))
      go true e = widen (if_any_kind (alone t) (some_params_kind t)) (after_kind t) ts fits (λ l w. refl) ends ended back _ (if_any_exact (alone t) (some_params_kind t) refl (λ w. w) (some_opens t) ts (some_params inner t) (λ h. some_params_exact t ts))
        where
          fits : (l : List Parameter) → (if_any_kind (alone t) (some_params_kind t)).well l → after_well t l
          fits [] w = e
          fits (p ∷ ps) w = w

          ends : (l : List Parameter) (rest : List Token) → (if_any_kind (alone t) (some_params_kind t)).well l → (if_any_kind (alone t) (some_params_kind t)).stops l rest → after_stop l rest
          ends [] rest w h = ap (λ b. b && sees m.RightParen rest) (sym e) ∙ h
          ends (p ∷ ps) rest w h = h

          ended : (l : List Parameter) (rest : List Token) → (if_any_kind (alone t) (some_params_kind t)).well l → after_stop l rest → (if_any_kind (alone t) (some_params_kind t)).stops l rest
          ended [] rest w h = ap (λ b. b && sees m.RightParen rest) e ∙ h
          ended (p ∷ ps) rest w h = h

          back : (l : List Parameter) → after_well t l → Opens ((some_params_kind t).cells l) ts → (if_any_kind (alone t) (some_params_kind t)).well l
          back [] w o = tt
          back (p ∷ ps) w o = w
      go false e =
          subst (Exact (after_kind t) ts) (sym (ap (λ b. made list_if_any (cond b (Ok (None, ts)) (made Some (some_params inner t ts)))) apart ∙ unmade (some_params inner t ts)))
          (widen (some_params_kind t) (after_kind t) ts fits (λ l w. refl) ends ended back _ (some_params_exact t ts))
        where
          apart : alone t ts ≡ false
          apart = ap (λ b. b && sees m.RightParen ts) e

          unmade : (r : Reads (List Parameter)) → made list_if_any (made Some r) ≡ r
          unmade (Ok p) = refl
          unmade (Err f) = refl

          fits : (l : List Parameter) → (some_params_kind t).well l → after_well t l
          fits [] w = absurd w
          fits (p ∷ ps) w = w

          ends : (l : List Parameter) (rest : List Token) → (some_params_kind t).well l → no_comma rest → after_stop l rest
          ends [] rest w h = absurd w
          ends (p ∷ ps) rest w h = h

          ended : (l : List Parameter) (rest : List Token) → (some_params_kind t).well l → after_stop l rest → no_comma rest
          ended [] rest w h = absurd w
          ended (p ∷ ps) rest w h = h

          back : (l : List Parameter) → after_well t l → Opens ((some_params_kind t).cells l) ts → (some_params_kind t).well l
          back [] w o = absurd (cc)
          back (p ∷ ps) w o = w

  -- ---- lists

  void_cells : (t : TypeName) → is_void t ≡ true → type_cells t (suc n) ≡ (token.Keyword k.Void, false) ∷ []
  void_cells t e = go t.base t.stars e
    where
      go : (b : BaseType) (s : ℕ) → (is_void_base b && nat_eq s 0) ≡ true → base_cells b (suc n) ++ star_cells s star_limit (suc n) ≡ (token.Keyword k.Void, false) ∷ []
      go base.Void zero e = refl
      go base.Void (suc s) e = absurd (grind (arith, nat_tests))
      go base.Char s e = absurd (cc)
      go base.Short s e = absurd (cc)
      go base.Int s e = absurd (cc)
      go base.LongLong s e = absurd (cc)
      go (base.Unsigned w) s e = absurd (cc)
      go (base.Tagged t x) s e = absurd (cc)

  more_cells : (l : List Parameter) → more_parameters (parameters_of l) (suc n) ≡ list_cells next_kind l
  more_cells [] = refl
  more_cells (p ∷ ps) = ap (λ c. (token.Mark m.Comma, false) ∷ parameter_cells p (suc n) ++ c) (more_cells ps)

  all_next : (l : List Parameter) → list_well next_kind l
  all_next [] = tt
  all_next (p ∷ ps) = (tt, all_next ps)

  abbrev both_kind : Kind (TypeName × List Parameter)
  both_kind = both_with (type_kind n) after_kind (λ p rest. after_stop p.1 rest)

  list_exact : (ts : List Token) → Exact both_kind ts (Rattle.c_parse_expr.specs.Reads.then_by type_name (params_after inner) ts)
  list_exact ts =
      two_exact (type_kind n) after_kind (λ p rest. after_stop p.1 rest) met met_hot (λ t l rest h. h) (λ t l rest r h. h)
      (λ t w. (parameter_by t ([], None) ∷ [], (refl, tt))) ts (type_name ts) (λ p. params_after inner p.0 p.1) (type_exact n ts) (λ t rest r s. after_exact t rest)
    where
      first_opens : (t : TypeName) (p : Parameter) (ps : List Parameter) (ts : List Token) → Opens ((some_params_kind t).cells (p ∷ ps)) ts → type_stops n t ts
      first_opens t p ps ts o = type_glue t (param_declarator p) ts (opens_left (declarator_cells (param_declarator p)) (list_cells next_kind ps) ts o)

      met : (t : TypeName) (l : List Parameter) (rest : List Token) → Unit {0} → after_well t l → after_stop l rest → type_stops n t (tokens ((some_params_kind t).cells l) ++ rest)
      met t [] rest w v s = type_before_close n t rest (sees_heads m.RightParen rest s)
      met t (p ∷ ps) rest w v s = first_opens t p ps _ (opens_all ((some_params_kind t).cells (p ∷ ps)) rest)

      met_hot : (t : TypeName) (l : List Parameter) (ts : List Token) → Unit {0} → after_well t l → PassesLimit ((some_params_kind t).cells l) ts → type_stops n t ts
      met_hot t [] ts w v h = absurd h
      met_hot t (p ∷ ps) ts w v h = first_opens t p ps ts (opens_hot ((some_params_kind t).cells (p ∷ ps)) ts h)

  pub some_room : (ts : List Token) → Exact (params_kind (suc n)) ts (params_by inner ts)
  unfolding params_by
  some_room ts = narrow both_kind (params_kind (suc n)) (λ p. parameters_of p.1) ts (λ p w. tt) (λ p w. spelled p.0 p.1 w.1) (λ p rest w h. ends p.1 rest h) (λ p rest w h. ended p.1 rest h) (λ ps w o. back ps) _ (list_exact ts)
    where
      spelled : (t : TypeName) (l : List Parameter) → after_well t l → parameters_cells (parameters_of l) (suc n) ≡ type_cells t (suc n) ++ (some_params_kind t).cells l
      spelled t [] w = sym (append-nil (type_cells t (suc n)) ∙ void_cells t w)
      spelled t (p ∷ ps) w =
          ap (λ c. c ++ more_parameters (parameters_of ps) (suc n)) (own_cells p)
          ∙ ap (λ c. (type_cells (param_type p) (suc n) ++ declarator_cells (param_declarator p)) ++ c) (more_cells ps)
          ∙ append_assoc (type_cells (param_type p) (suc n)) (declarator_cells (param_declarator p)) (list_cells next_kind ps)
          ∙ ap (λ t. type_cells t (suc n) ++ (declarator_cells (param_declarator p) ++ list_cells next_kind ps)) w.0

      ends : (l : List Parameter) (rest : List Token) → after_stop l rest → params_stop (parameters_of l) rest
      ends [] rest h = h
      ends (p ∷ ps) rest h = h

      ended : (l : List Parameter) (rest : List Token) → params_stop (parameters_of l) rest → after_stop l rest
      ended [] rest h = h
      ended (p ∷ ps) rest h = h

      back : (ps : Parameters) → (p : TypeName × List Parameter) × (parameters_of p.1 ≡ ps) × (Unit {0} × after_well p.0 p.1)
      back NoParameter = ((record { base = base.Void; stars = 0 }, []), refl, (tt, refl))
      back (Also p ps) = ((param_type p, p ∷ listed ps), ap (Also p) (listed_is ps), (tt, (refl, all_next (listed ps))))

-- ---- where no room is left

-- a token with which a type begins is the first of one
pub type_begun : (ts : List Token) → begins_type ts ≡ true → (b : BaseType) × Heads (base_lead b) ts
type_begun [] h = cc
type_begun (t ∷ ts) h = go (is_keyword k.Long t) (is_keyword k.Unsigned t) (pick_tag t) (pick_base t) refl refl refl refl h
  where
    go : (a b : Bool) (c : Option TagKind) (d : Option BaseType) → is_keyword k.Long t ≡ a → is_keyword k.Unsigned t ≡ b → pick_tag t ≡ c → pick_base t ≡ d → (a || b || is_some c || is_some d) ≡ true → (b : BaseType) × Heads (base_lead b) (t ∷ ts)
    go true b c d p q r s h = (base.LongLong, sym (keyword_is k.Long t p))
    go false true c d p q r s h = (base.Unsigned u.Plain, sym (keyword_is k.Unsigned t q))
    go false false (Some x) d p q r s h = (base.Tagged x [], sym (Rattle.c_parse_expr.proofs.TypeNames.tag_from t x r).1)
    go false false None (Some x) p q r s h = (x, sym (Rattle.c_parse_expr.proofs.TypeNames.base_from t x s).1)
    go false false None None p q r s h = cc

pub type_leads : (t : TypeName) (room : ℕ) → Leads (base_lead t.base) (none room) (type_cells t room)
type_leads t room = leads_left (base_lead t.base) (none room) (base_cells t.base room) (star_cells t.stars star_limit room) (base_leads t.base room)

pub param_leads : (p : Parameter) (room : ℕ) → Leads (base_lead (param_type p).base) (none room) (parameter_cells p room)
param_leads (Plain t x) room = leads_left (base_lead t.base) (none room) (type_cells t room) _ (type_leads t room)
param_leads (Function t x ps) room = leads_left (base_lead t.base) (none room) (type_cells t room) _ (type_leads t room)

abbrev params_lead : Parameters → Token
params_lead NoParameter = token.Keyword k.Void
params_lead (Also p ps) = base_lead (param_type p).base

params_leads : (ps : Parameters) (room : ℕ) → Leads (params_lead ps) (none room) (parameters_cells ps room)
params_leads NoParameter room = (refl, refl)
params_leads (Also p ps) room = leads_left (base_lead (param_type p).base) (none room) (parameter_cells p room) (more_parameters ps room) (param_leads p room)

params_begin : (ps : Parameters) (rest : List Token) → begins_type (params_lead ps ∷ rest) ≡ true
params_begin NoParameter rest = base_begins base.Void rest
params_begin (Also p ps) rest = base_begins (param_type p).base rest

no_room : (ts : List Token) → Exact (params_kind zero) ts (at_limit begins_type ts)
no_room ts =
    limit_exact (params_kind zero) begins_type ts (λ ps w o. leads_hot (params_lead ps) (parameters_cells ps zero) ts (params_leads ps zero) (heads ps o)) (λ ps w o. at_head begins_type (params_lead ps) ts (heads ps o) true (params_begin ps)) there
  where
    heads : (ps : Parameters) → Opens (parameters_cells ps zero) ts → Heads (params_lead ps) ts
    heads ps o = leads_opens (params_lead ps) true (parameters_cells ps zero) ts (params_leads ps zero) o

    there : begins_type ts ≡ true → IsHot (params_kind zero) ts
    there h =
        let b = type_begun ts h in
        let t : TypeName = record { base = b.0; stars = 0 } in
        (Also (Plain t []) NoParameter, tt, leads_hot (base_lead b.0) (parameters_cells (Also (Plain t []) NoParameter) zero) ts (params_leads (Also (Plain t []) NoParameter) zero) b.1)

pub params_exact : (room : ℕ) (ts : List Token) → Exact (params_kind room) ts (params room ts)
unfolding params
params_exact zero ts = no_room ts
params_exact (suc room) ts = some_room room (params room) (params_exact room) ts

-- ---- what is read takes a token at least

pub next_falls : (room : ℕ) (ts : List Token) (p : Parameter) (rest : List Token) → next_param (params room) ts ≡ Ok (p, rest) → length rest < length ts
next_falls room ts p rest e =
    let X = next_kind room (params room) (params_exact room) in
    let known : Sound X ts (Ok (p, rest)) = subst (Sound X ts) e (next_exact room (params room) (params_exact room) ts).sound in
    shorter (X.cells p) ts rest (λ h. h) known.1
