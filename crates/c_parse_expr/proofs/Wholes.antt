-- Reading a whole expression, and why a text has one at most.
use Rattle.std.proofs.Common.{◌≡◌, ◌≢◌, ◌∙◌, ◌↔◌, refl, sym, ap, subst, ℕ, suc, inl, inr, List, [], ◌∷◌, ◌++◌, Result, Ok, Err, true, false, length, nat_eq, arith}
use Rattle.std.specs.Prelude.{IfOk}
use Rattle.std.proofs.lemmas.List.{append-nil}
use Rattle.std.proofs.lemmas.Bool.Decides.{nat_tests}
use Rattle.c_ast.specs.declared.token.Token.{Token}
use Rattle.c_ast.specs.declared.fault.Fault.{Fault}
use Rattle.c_ast.specs.declared.fault.Fault.TheVariants.{Syntax, TooDeep}
use Rattle.c_ast.specs.declared.expr.Expr.{Expr}
use Rattle.c_ast.specs.Trees.{Expression, expression}
use Rattle.c_ast.specs.Cells.{tokens, PassesLimit}
use Rattle.c_ast.specs.Grammar.{limit, cells}
use Rattle.c_ast.specs.Program.{IsSpelledExpression, IsDeepExpression, IsRefusedExpression}
use Rattle.c_parse_expr.specs.declared.error.ReadError.{ReadError}
use Rattle.c_parse_expr.specs.declared.error.ReadError.TheVariants as read
use Rattle.c_parse_expr.specs.declared.error.ParseError.{ParseError}
use Rattle.c_parse_expr.specs.declared.error.ParseError.TheVariants as error
use Rattle.c_parse_expr.specs.Reads.{Fails}
use Rattle.c_parse_expr.specs.Reading.{expr}
use Rattle.c_parse_expr.specs.Answers.{located_error, RefusesExpression, OnlyExpression, OnlyRefusedExpression}
use Rattle.c_parse_expr.proofs.Exact.{Sound, cold_or_hot}
use Rattle.c_parse_expr.proofs.Postfixes.{kind, rank_small}
use Rattle.c_parse_expr.proofs.Exprs.{expr_exact}

known : (text : List Token) (e : Expression) (rest : List Token) → expr limit text ≡ Ok (e, rest) → Sound (kind 12 limit) text (Ok (e, rest))
known text e rest r = subst (Sound (kind 12 limit) text) r (expr_exact limit text).sound

pub spelled : (text : List Token) (e : Expression) (rest : List Token) → expr limit text ≡ Ok (e, rest) → rest ≡ [] → IsSpelledExpression text e
spelled text e rest r none =
    let s = known text e rest r in
    let whole : text ≡ tokens (cells e limit) = s.1 ∙ ap (λ x. tokens (cells e limit) ++ x) none ∙ append-nil (tokens (cells e limit)) in
    elim (cold_or_hot (cells e limit) rest) as (λ h. IsSpelledExpression text e) [
      | inl c ↦ ((s.0.0, c), whole)
      | inr h ↦ absurd (s.3 (e, s.0, subst (PassesLimit (cells e limit)) (sym s.1) h))
    ]

is_read : (text : List Token) (e : Expression) → IsSpelledExpression text e → expr limit text ≡ Ok (e, [])
is_read text e w = (expr_exact limit text).only e [] (w.0.0, rank_small e) (w.1 ∙ sym (append-nil (tokens (cells e limit)))) (omega arith) w.0.1

pub one_expression : (text : List Token) (a b : Expression) → IsSpelledExpression text a → IsSpelledExpression text b → a ≡ b
one_expression text a b w v = let x = is_read text a w in let y = is_read text b v in let same : ◌≡◌ {A = Expression × List Token} (a, []) (b, []) = cc in ap (λ p. p.0) same

not_deep : {f : Fault} (text : List Token) → f ≡ Syntax → (IsDeepExpression text → ⊥) → (f ≡ TooDeep) ↔ IsDeepExpression text
not_deep text is n = (λ h. absurd (cc), λ h. absurd (n h))

pub left_over : (text : List Token) (e : Expression) (rest : List Token) → expr limit text ≡ Ok (e, rest) → rest ≢ [] → IsRefusedExpression text Syntax
left_over text e rest r some = record {
  none = λ x w. let y = is_read text x w in let same : ◌≡◌ {A = Expression × List Token} (e, rest) (x, []) = cc in some (ap (λ p. p.1) same);
  deep = not_deep text refl (λ h. (known text e rest r).3 (h.0, (h.1, rank_small h.0), h.2));
}

refused : (text : List Token) (f : Fault) → expr limit text ≡ Err f → IsRefusedExpression text f
refused text f r = record { none = λ x w. let y = is_read text x w in cc; deep = deep f r }
  where
    deep : (f : Fault) → expr limit text ≡ Err f → (f ≡ TooDeep) ↔ IsDeepExpression text
    deep Syntax r = let s : Sound (kind 12 limit) text (Err Syntax) = subst (Sound (kind 12 limit) text) r (expr_exact limit text).sound in not_deep text refl (λ h. s (h.0, (h.1, rank_small h.0), h.2))
    deep TooDeep r = let s : Sound (kind 12 limit) text (Err TooDeep) = subst (Sound (kind 12 limit) text) r (expr_exact limit text).sound in (λ h. (s.0, s.1.0, s.2), λ h. refl)

pub refuses : (text : List Token) (e : ReadError) → Fails e (expr limit text) → RefusesExpression text (Err (located_error 1 e))
refuses text read.Memory f = tt
refuses text (read.Refused Syntax) f = (refl, refused text Syntax f)
refuses text (read.Refused TooDeep) f = (refl, refused text TooDeep f)

pub one_fault : (text : List Token) (f g : Fault) → IsRefusedExpression text f → IsRefusedExpression text g → f ≡ g
one_fault text TooDeep g p q = sym (q.deep.1 (p.deep.0 refl))
one_fault text Syntax TooDeep p q = p.deep.1 (q.deep.0 refl)
one_fault text Syntax Syntax p q = refl

pub answers_only : (text : List Token) (r : Result Expr ParseError) → IfOk r (λ e. IsSpelledExpression text (expression e)) → RefusesExpression text r → (x : Expression) → IsSpelledExpression text x → OnlyExpression x r
answers_only text (Ok e) h k x w = one_expression text (expression e) x h w
answers_only text (Err error.Memory) h k x w = tt
answers_only text (Err (error.Syntax n)) h k x w = k.1.none x w
answers_only text (Err (error.TooDeep n)) h k x w = k.1.none x w

pub answers_kind : (text : List Token) (r : Result Expr ParseError) → IfOk r (λ e. IsSpelledExpression text (expression e)) → RefusesExpression text r → (f : Fault) → IsRefusedExpression text f → OnlyRefusedExpression f r
answers_kind text (Ok e) h k f w = w.none (expression e) h
answers_kind text (Err error.Memory) h k f w = tt
answers_kind text (Err (error.Syntax n)) h k f w = one_fault text f Syntax w k.1
answers_kind text (Err (error.TooDeep n)) h k f w = one_fault text f TooDeep w k.1

pub empty : (ts : List Token) → nat_eq (length ts) 0 ≡ true → ts ≡ []
empty [] e = refl
empty (t ∷ ts) e = absurd (no (length ts) e)
  where
    no : (n : ℕ) → nat_eq (suc n) 0 ≡ true → ⊥
    no n e = grind (arith, nat_tests)

pub not_empty : (ts : List Token) → nat_eq (length ts) 0 ≡ false → ts ≢ []
not_empty [] h e = cc
not_empty (t ∷ ts) h e = cc
