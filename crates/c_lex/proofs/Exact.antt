-- The answer of a reading is the only right one.
use Rattle.std.proofs.Common.{◌≡◌, ◌⊎◌, ℕ, List, Result, Ok, Err, IfOk, IfErr, MatchResult, sym, ◌∙◌, ap, inl, inr}
use Rattle.c_ast.specs.declared.token.Token.{Token}
use Rattle.c_ast.specs.Lexeme.{Text}
use Rattle.c_ast.specs.Lexical.{IsTokenized, HasBadByte, HasBadNumber, line_behind, column_behind}
use Rattle.c_lex.specs.declared.error.LexError.{LexError}
use Rattle.c_lex.specs.declared.error.LexError.TheVariants.{BadByte, BadNumber, Memory}
use Rattle.c_lex.specs.Refusal.{IsRefused}
use Rattle.c_lex.proofs.Pieces.{one_list, stuck_or_read, one_place, stops_at_byte, stops_at_number, byte_or_number}

refused-unread : (text : Text) (ts : List Token) (e : LexError) → IsTokenized text ts → IsRefused text e → ⊥
refused-unread text ts (BadByte line column) read r = stuck_or_read text r.before HasBadByte ts stops_at_byte r.stuck read
refused-unread text ts (BadNumber line column) read r = stuck_or_read text r.before HasBadNumber ts stops_at_number r.stuck read
refused-unread text ts Memory read r = r

same-refusal : (text : Text) (e f : LexError) → IsRefused text e → IsRefused text f → e ≡ f
same-refusal text (BadByte l c) (BadByte m d) a b =
    let same = one_place text a.before b.before HasBadByte HasBadByte stops_at_byte stops_at_byte a.stuck b.stuck in
    at (a.line_is ∙ ap line_behind same.0 ∙ sym b.line_is) (a.column_is ∙ ap column_behind same.0 ∙ sym b.column_is)
  where
    at : {l m c d : ℕ} → l ≡ m → c ≡ d → BadByte l c ≡ BadByte m d
    at p q = cc
same-refusal text (BadNumber l c) (BadNumber m d) a b =
    let same = one_place text a.before b.before HasBadNumber HasBadNumber stops_at_number stops_at_number a.stuck b.stuck in
    at (a.line_is ∙ ap line_behind same.0 ∙ sym b.line_is) (a.column_is ∙ ap column_behind same.0 ∙ sym b.column_is)
  where
    at : {l m c d : ℕ} → l ≡ m → c ≡ d → BadNumber l c ≡ BadNumber m d
    at p q = cc
same-refusal text (BadByte l c) (BadNumber m d) a b =
    let same = one_place text a.before b.before HasBadByte HasBadNumber stops_at_byte stops_at_number a.stuck b.stuck in absurd (byte_or_number same.1.0 same.1.1 same.1.2)
same-refusal text (BadNumber l c) (BadByte m d) a b =
    let same = one_place text b.before a.before HasBadByte HasBadNumber stops_at_byte stops_at_number b.stuck a.stuck in absurd (byte_or_number same.1.0 same.1.1 same.1.2)
same-refusal text Memory f a b = absurd a
same-refusal text (BadByte l c) Memory a b = absurd b
same-refusal text (BadNumber l c) Memory a b = absurd b

-- what the clauses of a reading say of its answer, where `items` are those of its tokens
pub only : {V : Type 0} (items : V → List Token) (text : Text) (r : Result V LexError)
    → IfOk r (λ v. IsTokenized text (items v)) → IfErr r (λ e. (e ≡ Memory) ⊎ IsRefused text e)
    → (ts : List Token) → IsTokenized text ts → MatchResult r (λ v. items v ≡ ts) (λ e. e ≡ Memory)
only items text (Ok v) found refused ts read = one_list text (items v) ts found read
only items text (Err e) found (inl m) ts read = m
only items text (Err e) found (inr r) ts read = absurd (refused-unread text ts e read r)

pub first : {V : Type 0} (items : V → List Token) (text : Text) (r : Result V LexError)
    → IfOk r (λ v. IsTokenized text (items v)) → IfErr r (λ e. (e ≡ Memory) ⊎ IsRefused text e)
    → (e : LexError) → IsRefused text e → (r ≡ Err e) ⊎ (r ≡ Err Memory)
first items text (Ok v) found refused e is = absurd (refused-unread text (items v) e found is)
first items text (Err f) found (inl m) e is = inr (ap (λ x. Err x) m)
first items text (Err f) found (inr r) e is = inl (ap (λ x. Err x) (same-refusal text f e r is))
