-- Pieces that are read one after another.
use Rattle.std.proofs.Common.{true, false, true≢false, ◌≡◌, ◌≢◌, ◌⊎◌, ◌≤◌, ◌<◌, ℕ, ◌+◌, ◌-◌, List, [], ◌∷◌, ◌++◌, length, take, drop, Option, Some, None, IsSome, refl, sym, ◌∙◌, ap, subst, inl, inr, arith, append_assoc, length-append, length-drop, drop-drop}
use Rattle.std.proofs.lemmas.List.Elements.{filter_map-append}
use Rattle.std.proofs.Math.Seq.{drop-append_seam}
use Rattle.c_ast.specs.declared.token.Token.{Token}
use Rattle.c_ast.specs.Lexeme.{Text, Meaning, no_number, unclosed, lexeme}
use Rattle.c_ast.specs.Lexical.{IsLongest, Piece, Reads, IsTokenized, IsStuck, BeginsWith, HasBadByte, HasBadNumber, meaning_of, tokens_of, bytes_of, line_behind, column_behind}
use Rattle.std.specs.Option.{option_to_list}
use Rattle.std.proofs.lemmas.List.{take_rest}
use Rattle.c_lex.specs.Front.{IsFront}
use Rattle.c_lex.specs.Refusal.{IsStuckAt}
use Rattle.c_lex.proofs.Readings.{absurd-of}

-- one more piece
pub Reads-more : (pieces : List Piece) (text before after front : Text) (t : Option Token) → Reads pieces text before → before ≡ front ++ after → IsLongest front after (meaning_of t)
    → Reads (pieces ++ (front, t) ∷ []) text after
Reads-more [] text before after front t read e longest = (after, read ∙ e, longest, refl)
Reads-more (p ∷ pieces) text before after front t read e longest = (read.0, read.1, read.2, Reads-more pieces read.0 before after front t read.3 e longest)

abbrev token_of : Piece → Option Token
token_of p = p.1

pub tokens-more : (pieces : List Piece) (front : Text) (t : Option Token) → tokens_of (pieces ++ (front, t) ∷ []) ≡ tokens_of pieces ++ tokens_of ((front, t) ∷ [])
tokens-more pieces front t = filter_map-append token_of pieces ((front, t) ∷ [])

-- what has been read up to a place
abbrev pub ReadUpTo : Text → ℕ → List Token → Type 0
ReadUpTo text at tokens = (pieces : List Piece) × Reads pieces text (drop at text) × (tokens_of pieces ≡ tokens) × (at ≤ length text)

pub read-piece : (text : Text) (at len : ℕ) (tokens new : List Token) (t : Option Token) → ReadUpTo text at tokens → IsFront (drop at text) len (meaning_of t)
    → tokens ++ tokens_of (([], t) ∷ []) ≡ new → ReadUpTo text (at + len) new
read-piece text at len tokens new t (pieces, read, are, within) f e =
    let seam : drop len (drop at text) ≡ f.rest = ap (λ n. drop n (drop at text)) (sym f.size) ∙ ap (drop (length f.front)) f.split ∙ drop-append_seam f.front f.rest in
    let behind : f.rest ≡ drop (at + len) text = sym seam ∙ drop-drop len at text in
    let sizes : length (drop at text) ≡ length f.front + length f.rest = ap length f.split ∙ length-append f.front f.rest in
    let all : length (drop at text) ≡ length text - at = length-drop at text in
    let size : length f.front ≡ len = f.size in (
      pieces ++ (f.front, t) ∷ [],
      subst (λ r. Reads (pieces ++ (f.front, t) ∷ []) text r) behind (Reads-more pieces text (drop at text) f.rest f.front t read f.split f.longest),
      tokens-more pieces f.front t ∙ ap (λ ts. ts ++ tokens_of ((f.front, t) ∷ [])) are ∙ e,
      omega arith,
    )

-- ---- the bytes that were read

pub Reads-bytes : (pieces : List Piece) (text rest : Text) → Reads pieces text rest → text ≡ bytes_of pieces ++ rest
Reads-bytes [] text rest read = read
Reads-bytes (p ∷ pieces) text rest read = read.1 ∙ ap (λ r. p.0 ++ r) (Reads-bytes pieces read.0 rest read.3) ∙ sym (append_assoc p.0 (bytes_of pieces) rest)

take-seam : (front rest : Text) → take (length front) (front ++ rest) ≡ front
take-seam [] rest = refl
take-seam (b ∷ front) rest = ap (λ bs. b ∷ bs) (take-seam front rest)

-- the bytes that were read are those before the place
pub read-bytes : (text : Text) (at : ℕ) (pieces : List Piece) → Reads pieces text (drop at text) → at ≤ length text → bytes_of pieces ≡ take at text
read-bytes text at pieces read within =
    let split : text ≡ bytes_of pieces ++ drop at text = Reads-bytes pieces text (drop at text) read in
    let sizes : length text ≡ length (bytes_of pieces) + length (drop at text) = ap length split ∙ length-append (bytes_of pieces) (drop at text) in
    let left : length (drop at text) ≡ length text - at = length-drop at text in
    let size : length (bytes_of pieces) ≡ at = omega arith in
    sym (take-seam (bytes_of pieces) (drop at text)) ∙ ap (take (length (bytes_of pieces))) (sym split) ∙ ap (λ n. take n text) size

-- ---- a text is read in one way

-- of two fronts one goes on behind the other
record Splits (a b c d : Text) : Type 0 where
  more : Text
  front : c ≡ a ++ more
  rest : b ≡ more ++ d

two_fronts : (a b c d : Text) → a ++ b ≡ c ++ d → Splits a b c d ⊎ Splits c d a b
two_fronts [] b c d e = inl (record { more = c; front = refl; rest = e })
two_fronts (x ∷ a) b [] d e = inr (record { more = x ∷ a; front = refl; rest = sym e })
two_fronts (x ∷ a) b (y ∷ c) d e =
    let head : x ≡ y = cc in
    elim (two_fronts a b c d (let t : a ++ b ≡ c ++ d = cc in t)) [
      | inl s ↦ inl (record { more = s.more; front = ap (λ bs. y ∷ bs) s.front ∙ ap (λ z. z ∷ (a ++ s.more)) (sym head); rest = s.rest })
      | inr s ↦ inr (record { more = s.more; front = ap (λ bs. x ∷ bs) s.front ∙ ap (λ z. z ∷ (c ++ s.more)) head; rest = s.rest })
    ]

is_some-of : {A : Type 0} (o : Option A) (a : A) → o ≡ Some a → IsSome o
is_some-of o a e = subst IsSome (sym e) refl

append-nil : (text : Text) → text ++ [] ≡ text
append-nil [] = refl
append-nil (b ∷ text) = ap (λ bs. b ∷ bs) (append-nil text)

-- the two longest fronts are one
record Same (a b c d : Text) (m n : Meaning) : Type 0 where
  front : a ≡ c
  rest : b ≡ d
  meaning : m ≡ n

some-one : (m n : Meaning) → Some m ≡ Some n → m ≡ n
some-one m n e = cc

same_from : (a b c d : Text) (m n : Meaning) → IsLongest a b m → IsLongest c d n → Splits a b c d → Same a b c d m n
same_from a b c d m n la lc s =
    let none : s.more ≡ [] = la.longest s.more d s.rest (is_some-of (lexeme (a ++ s.more)) n (sym (ap lexeme s.front) ∙ lc.stands)) in
    let front : a ≡ c = sym (s.front ∙ ap (λ r. a ++ r) none ∙ append-nil a) in
    record { front = front; rest = s.rest ∙ ap (λ r. r ++ d) none; meaning = some-one m n (sym la.stands ∙ ap lexeme front ∙ lc.stands) }

same_longest : (a b c d : Text) (m n : Meaning) → a ++ b ≡ c ++ d → IsLongest a b m → IsLongest c d n → Same a b c d m n
same_longest a b c d m n e la lc = elim (two_fronts a b c d e) [
  | inl s ↦ same_from a b c d m n la lc s
  | inr s ↦ let r : Same c d a b n m = same_from c d a b n m lc la s in record { front = sym r.front; rest = sym r.rest; meaning = sym r.meaning }
]

-- no piece is read at the front of the text
abbrev pub Stops : Text → Type 0
Stops text = (front after : Text) (t : Option Token) → text ≡ front ++ after → IsLongest front after (meaning_of t) → ⊥

same-token : (t u : Option Token) → meaning_of t ≡ meaning_of u → t ≡ u
same-token (Some t) (Some u) e = cc
same-token (Some t) None e = absurd (let k : Some t ≡ None = cc in absurd-of (sym k))
same-token None (Some u) e = absurd (let k : Some u ≡ None = cc in absurd-of (sym k))
same-token None None e = refl

record SameReading (ps qs : List Piece) (r s : Text) : Type 0 where
  pieces : ps ≡ qs
  rest : r ≡ s

same_reading : (ps qs : List Piece) (text r s : Text) → Reads ps text r → Reads qs text s → Stops r → Stops s → SameReading ps qs r s
same_reading [] [] text r s p q stop_r stop_s = record { pieces = refl; rest = sym p ∙ q }
same_reading [] (q ∷ qs) text r s p read stop_r stop_s = absurd (stop_r q.0 read.0 q.1 (sym p ∙ read.1) read.2)
same_reading (p ∷ ps) [] text r s read q stop_r stop_s = absurd (stop_s p.0 read.0 p.1 (sym q ∙ read.1) read.2)
same_reading (p ∷ ps) (q ∷ qs) text r s one_way other stop_r stop_s =
    let same : Same p.0 one_way.0 q.0 other.0 (meaning_of p.1) (meaning_of q.1) = same_longest p.0 one_way.0 q.0 other.0 (meaning_of p.1) (meaning_of q.1) (sym one_way.1 ∙ other.1) one_way.2 other.2 in
    let more : SameReading ps qs r s = same_reading ps qs one_way.0 r s one_way.3 (subst (λ t. Reads qs t s) (sym same.rest) other.3) stop_r stop_s in
    let tokens : p.1 ≡ q.1 = same-token p.1 q.1 same.meaning in
    let piece : p ≡ q = pair-is same.front tokens in
    record { pieces = ap (λ x. x ∷ ps) piece ∙ ap (λ xs. q ∷ xs) more.pieces; rest = more.rest }
  where
    pair-is : {p q : Piece} → p.0 ≡ q.0 → p.1 ≡ q.1 → p ≡ q
    pair-is e f = λ i. (e i, f i)

-- ---- where the reading ends

stops_at_end : Stops []
stops_at_end [] after t e longest = absurd-of longest.stands
stops_at_end (b ∷ front) after t e longest = absurd (let k : true ≡ false = cc in true≢false k)

stops_by_meaning : (m : Meaning) (text : Text) → BeginsWith m text → ((t : Option Token) → m ≡ meaning_of t → ⊥) → Stops text
stops_by_meaning m text begins other front after t e longest =
    let same : Same begins.front begins.rest front after m (meaning_of t) = same_longest begins.front begins.rest front after m (meaning_of t) (sym begins.split ∙ e) begins.longest longest in
    other t same.meaning

unclosed-other : (t : Option Token) → unclosed ≡ meaning_of t → ⊥
unclosed-other (Some t) e = let k : true ≡ false = cc in true≢false k
unclosed-other None e = let k : true ≡ false = cc in true≢false k

no_number-other : (t : Option Token) → no_number ≡ meaning_of t → ⊥
no_number-other (Some t) e = let k : true ≡ false = cc in true≢false k
no_number-other None e = let k : true ≡ false = cc in true≢false k

pub stops_at_byte : (text : Text) → HasBadByte text → Stops text
stops_at_byte text (inl none) front after t e longest = absurd-of (sym (none front after e) ∙ longest.stands)
stops_at_byte text (inr begins) front after t e longest = stops_by_meaning unclosed text begins unclosed-other front after t e longest

pub stops_at_number : (text : Text) → HasBadNumber text → Stops text
stops_at_number text begins = stops_by_meaning no_number text begins no_number-other

pub byte_or_number : (text : Text) → HasBadByte text → HasBadNumber text → ⊥
byte_or_number text (inl none) begins = absurd-of (sym (none begins.front begins.rest begins.split) ∙ begins.longest.stands)
byte_or_number text (inr opened) begins =
    let same : Same opened.front opened.rest begins.front begins.rest unclosed no_number = same_longest opened.front opened.rest begins.front begins.rest unclosed no_number (sym opened.split ∙ begins.split) opened.longest begins.longest in
    let e : unclosed ≡ no_number = same.meaning in
    let k : true ≡ false = cc in true≢false k

-- a text has one list of tokens
pub one_list : (text : Text) (ts us : List Token) → IsTokenized text ts → IsTokenized text us → ts ≡ us
one_list text ts us a b =
    let same : SameReading a.pieces b.pieces [] [] = same_reading a.pieces b.pieces text [] [] a.read b.read stops_at_end stops_at_end in
    sym a.are ∙ ap tokens_of same.pieces ∙ b.are

-- what has tokens isn't stuck
pub stuck_or_read : (text before : Text) (Fails : Text → Type 0) (ts : List Token) → ((t : Text) → Fails t → Stops t) → IsStuck text before Fails → IsTokenized text ts → ⊥
stuck_or_read text before Fails ts stop s a =
    let same : SameReading s.pieces a.pieces s.rest [] = same_reading s.pieces a.pieces text s.rest [] s.read a.read (stop s.rest s.fails) stops_at_end in
    s.remain same.rest

-- a reading is stuck in one place
pub one_place : (text before behind : Text) (F G : Text → Type 0) → ((t : Text) → F t → Stops t) → ((t : Text) → G t → Stops t) → IsStuck text before F → IsStuck text behind G
    → (before ≡ behind) × ((t : Text) × F t × G t)
one_place text before behind F G stop_f stop_g s u =
    let same : SameReading s.pieces u.pieces s.rest u.rest = same_reading s.pieces u.pieces text s.rest u.rest s.read u.read (stop_f s.rest s.fails) (stop_g u.rest u.fails) in
    (sym s.behind ∙ ap bytes_of same.pieces ∙ u.behind, (u.rest, subst F same.rest s.fails, u.fails))

one_token : (t : Option Token) → tokens_of (([], t) ∷ []) ≡ option_to_list t
one_token (Some t) = refl
one_token None = refl

pub read-on : (text : Text) (at len : ℕ) (tokens new : List Token) (t : Option Token) → ReadUpTo text at tokens → IsFront (take (length text - at) (drop at text)) len (meaning_of t)
    → new ≡ tokens ++ option_to_list t → ReadUpTo text (at + len) new
read-on text at len tokens new t read f e =
    read-piece text at len tokens new t read (subst (λ r. IsFront r len (meaning_of t)) (take_rest text at) f) (ap (λ ts. tokens ++ ts) (one_token t) ∙ sym e)

some-remain : (text : Text) (at : ℕ) → at < length text → drop at text ≢ []
some-remain text at h e = let sizes : length (drop at text) ≡ length text - at = length-drop at text in let none : length (drop at text) ≡ 0 = ap length e in absurd (omega arith)

pub stuck-at : (text : Text) (at : ℕ) (tokens : List Token) (Fails : Text → Type 0) (line column : ℕ) → ReadUpTo text at tokens → at < length text → Fails (take (length text - at) (drop at text))
    → line ≡ line_behind (take at text) → column ≡ column_behind (take at text) → IsStuckAt text Fails line column
stuck-at text at tokens Fails line column (pieces, read, are, within) h fails l k = record {
  before = take at text;
  stuck = record { pieces = pieces; rest = drop at text; read = read; behind = read-bytes text at pieces read within; remain = some-remain text at h; fails = subst Fails (take_rest text at) fails };
  line_is = l;
  column_is = k;
}
