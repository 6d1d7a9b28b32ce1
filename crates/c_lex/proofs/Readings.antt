-- Characters and strings: reading behind the opening quote finds the one front that ends with the closing quote.
use Rattle.std.proofs.Common.{◌≡◌, ℕ, suc, ◌+◌, ◌<◌, Bool, true, false, cond, ◌&&◌, ◌==◌, [], ◌∷◌, ◌++◌, length, drop, slice_index, Option, Some, None, IsSome, option_map, refl, sym, ◌∙◌, ap, subst, inl, arith, length-append, append_assoc}
use Rattle.std.proofs.Common.{true≢false}
use Rattle.c_ast.specs.Lexeme.{Text, Meaning, one, lexeme, escaped, is_plain, where_true_value, plain_character, escaped_character, character_body, joined, closing, string_body}
use Rattle.c_ast.specs.Lexical.{BeginsWithNone, HasBadByte}
use Rattle.c_lex.specs.Front.{IsFront, plain_end, escaped_end, character_end, with_element, one_longer, string_from, string_end}
use Rattle.c_ast.specs.declared.token.Token.TheVariants as token

pub absurd-of : {A : Type 0} {a : A} → None ≡ Some a → ⊥
absurd-of h = let e : true ≡ false = cc in absurd (cc)

-- the text begins with n bytes that stand for a
pub record Splits {A : Type 0} (whole : Text → Option A) (text : Text) (a : A) (n : ℕ) : Type 0 where
  pub front : Text
  pub rest : Text
  pub split : text ≡ front ++ rest
  pub size : length front ≡ n
  pub stands : whole front ≡ Some a

-- `read` finds the front of a text that `whole` takes
pub record IsReading {A : Type 0} (whole : Text → Option A) (read : Text → Option (A × ℕ)) : Type 0 where
  pub complete : (front rest : Text) (a : A) → whole front ≡ Some a → read (front ++ rest) ≡ Some (a, length front)
  pub sound : (text : Text) (a : A) (n : ℕ) → read text ≡ Some (a, n) → Splits whole text a n

no_more : (front more : Text) → length front ≡ length (front ++ more) → more ≡ []
no_more front [] h = refl
no_more front (x ∷ more) h = absurd (omega (arith, length-append front (x ∷ more), h))

some_map : {A B : Type 0} (f : A → B) (o : Option A) → IsSome (option_map f o) → IsSome o
some_map f (Some a) h = refl
some_map f None h = h

abbrev second_of : {A : Type 0} → Option (A × ℕ) → ℕ
second_of None = 0
second_of (Some p) = p.1

pub longest_of : {A : Type 0} (whole : Text → Option A) (read : Text → Option (A × ℕ)) → IsReading whole read
    → (front rest more after : Text) (a b : A) → whole front ≡ Some a → rest ≡ more ++ after → whole (front ++ more) ≡ Some b → more ≡ []
longest_of {A} whole read reading front rest more after a b h e k =
    let one_way : read (front ++ rest) ≡ Some (a, length front) = reading.complete front rest a h in
    let other : read ((front ++ more) ++ after) ≡ Some (b, length (front ++ more)) = reading.complete (front ++ more) after b k in
    let same : front ++ rest ≡ (front ++ more) ++ after = ap (λ r. front ++ r) e ∙ sym (append_assoc front more after) in
    no_more front more (ap second_of (sym one_way ∙ ap read same ∙ other))

pub none_of : {A : Type 0} (whole : Text → Option A) (read : Text → Option (A × ℕ)) → IsReading whole read
    → (front rest : Text) (a : A) → read (front ++ rest) ≡ None → whole front ≡ Some a → ⊥
none_of {A} whole read reading front rest a none h = absurd-of (sym none ∙ reading.complete front rest a h)

-- behind a quote stands what `whole` takes
pub record Opens {A : Type 0} (quote : ℕ) (whole : Text → Option A) (means : A → Meaning) : Type 0 where
  pub is : (bs : Text) → lexeme (quote ∷ bs) ≡ option_map means (whole bs)

some_value : {A B : Type 0} (f : A → B) (o : Option A) → IsSome (option_map f o) → (a : A) × (o ≡ Some a)
some_value f (Some a) h = (a, refl)
some_value f None h = absurd (true≢false (sym h))

pub opened-front : {A : Type 0} (quote : ℕ) (whole : Text → Option A) (read : Text → Option (A × ℕ)) (means : A → Meaning) → IsReading whole read → Opens quote whole means
    → (text : Text) (a : A) (n : ℕ) → read text ≡ Some (a, n) → IsFront (quote ∷ text) (1 + n) (means a)
opened-front {A} quote whole read means reading opens text a n h =
    let s : Splits whole text a n = reading.sound text a n h in
    record {
      front = quote ∷ s.front;
      rest = s.rest;
      split = ap (λ bs. quote ∷ bs) s.split;
      size = let e : length s.front ≡ n = s.size in omega arith;
      some = omega arith;
      longest = record {
        stands = opens.is s.front ∙ ap (option_map means) s.stands;
        longest = λ more after e some.
            let v : (b : A) × (whole (s.front ++ more) ≡ Some b) = some_value means (whole (s.front ++ more)) (subst IsSome (opens.is (s.front ++ more)) some) in
            longest_of whole read reading s.front s.rest more after a v.0 s.stands e v.1;
      };
    }

pub none_map : {A B : Type 0} (f : A → B) (o : Option A) → ((a : A) → o ≡ Some a → ⊥) → option_map f o ≡ None
none_map f None h = refl
none_map f (Some a) h = absurd (h a refl)

pub opened-none : {A : Type 0} (quote : ℕ) (whole : Text → Option A) (read : Text → Option (A × ℕ)) (means : A → Meaning) → IsReading whole read → Opens quote whole means
    → (text : Text) → read text ≡ None → BeginsWithNone (quote ∷ text)
opened-none quote whole read means reading opens text none [] rest e = refl
opened-none {A} quote whole read means reading opens text none (b ∷ front) rest e =
    let head : quote ≡ b = cc in
    let tail : text ≡ front ++ rest = cc in
    subst (λ q. lexeme (q ∷ front) ≡ None) head
    (opens.is front ∙ none_map means (whole front) (λ a h. none_of whole read reading front rest a (sym (ap read tail) ∙ none) h))

-- ---- characters

character-opens : Opens 39 character_body (λ c. one (token.Character c))
character-opens = record { is = λ bs. refl }

string-opens : Opens 34 (string_body false) (λ text. one (token.Text text))
string-opens = record { is = λ bs. refl }

abbrev pub with_length : ℕ → ℕ → ℕ × ℕ
with_length n c = (c, n)

abbrev pub some_with : {A : Type 0} → A → ℕ → Option (A × ℕ)
some_with a n = Some (a, n)

abbrev first_of_pair : {A : Type 0} → A × ℕ → A
first_of_pair p = p.0

pub some_first : {A : Type 0} (a b : A) (m n : ℕ) → some_with a m ≡ some_with b n → a ≡ b
some_first a b m n h = let e : Some a ≡ Some b = ap (option_map first_of_pair) h in cc

pub some_second : {A : Type 0} (a b : A) (m n : ℕ) → some_with a m ≡ some_with b n → m ≡ n
some_second a b m n h = ap second_of h

map_some : (n : ℕ) (o : Option ℕ) (a : ℕ) → o ≡ Some a → option_map (with_length n) o ≡ Some (a, n)
map_some n o a h = ap (option_map (with_length n)) h

cond_map : (t : Bool) (o : Option ℕ) (n a : ℕ) → cond t o None ≡ Some a → cond t (option_map (with_length n) o) None ≡ Some (a, n)
cond_map true o n a h = map_some n o a h
cond_map false o n a h = absurd (absurd-of h)

plain_map : (t : Bool) (b a : ℕ) → where_true_value t b ≡ Some a → cond t (some_with b 2) None ≡ Some (a, 2)
plain_map true b a h = ap (λ o. option_map (with_length 2) o) h
plain_map false b a h = absurd (absurd-of h)

escaped-complete : (front rest : Text) (a : ℕ) → escaped_character front ≡ Some a → escaped_end (front ++ rest) ≡ Some (a, suc (length front))
escaped-complete [] rest a h = absurd (absurd-of h)
escaped-complete (b ∷ []) rest a h = absurd (absurd-of h)
escaped-complete (b ∷ q ∷ []) rest a h = cond_map (q == 39) (escaped b) 3 a h
escaped-complete (b ∷ q ∷ x ∷ xs) rest a h = absurd (absurd-of h)

plain-complete : (b : ℕ) (front rest : Text) (a : ℕ) → plain_character b front ≡ Some a → plain_end b (front ++ rest) ≡ Some (a, suc (length front))
plain-complete b [] rest a h = absurd (absurd-of h)
plain-complete b (q ∷ []) rest a h = plain_map (is_plain 39 b && q == 39) b a h
plain-complete b (q ∷ x ∷ xs) rest a h = absurd (absurd-of h)

choose-complete : (t : Bool) (b : ℕ) (front rest : Text) (a : ℕ) → cond t (escaped_character front) (plain_character b front) ≡ Some a
    → cond t (escaped_end (front ++ rest)) (plain_end b (front ++ rest)) ≡ Some (a, suc (length front))
choose-complete true b front rest a h = escaped-complete front rest a h
choose-complete false b front rest a h = plain-complete b front rest a h

character-complete : (front rest : Text) (a : ℕ) → character_body front ≡ Some a → character_end (front ++ rest) ≡ Some (a, length front)
character-complete [] rest a h = absurd (absurd-of h)
character-complete (b ∷ front) rest a h = choose-complete (b == 92) b front rest a h

-- the text is a front that `take` makes of its length, and the rest
pub record Cut {A : Type 0} (whole : Text → Option A) (text : Text) (a : A) (n : ℕ) : Type 0 where
  pub front : Text
  pub rest : Text
  pub split : text ≡ front ++ rest
  pub size : suc (length front) ≡ n
  pub stands : whole front ≡ Some a

cond_unmap : (t : Bool) (o : Option ℕ) (m n a : ℕ) → cond t (option_map (with_length m) o) None ≡ Some (a, n) → (t ≡ true) × (o ≡ Some a) × (m ≡ n)
cond_unmap true (Some c) m n a h = (refl, ap (λ v. Some v) (some_first c a m n h), some_second c a m n h)
cond_unmap true None m n a h = absurd (absurd-of h)
cond_unmap false o m n a h = absurd (absurd-of h)

escaped-sound : (text : Text) (a n : ℕ) → escaped_end text ≡ Some (a, n) → Cut escaped_character text a n
escaped-sound [] a n h = absurd (absurd-of h)
escaped-sound (b ∷ []) a n h = absurd (absurd-of h)
escaped-sound (b ∷ q ∷ rest) a n h =
    let u : ((q == 39) ≡ true) × (escaped b ≡ Some a) × (3 ≡ n) = cond_unmap (q == 39) (escaped b) 3 n a h in
    record { front = b ∷ q ∷ []; rest = rest; split = refl; size = u.2; stands = ap (λ t. cond t (escaped b) None) u.0 ∙ u.1 }

plain_unmap : (t : Bool) (b a n : ℕ) → cond t (some_with b 2) None ≡ Some (a, n) → (where_true_value t b ≡ Some a) × (2 ≡ n)
plain_unmap true b a n h = (ap (λ v. Some v) (some_first b a 2 n h), some_second b a 2 n h)
plain_unmap false b a n h = absurd (absurd-of h)

plain-sound : (b : ℕ) (text : Text) (a n : ℕ) → plain_end b text ≡ Some (a, n) → Cut (plain_character b) text a n
plain-sound b [] a n h = absurd (absurd-of h)
plain-sound b (q ∷ rest) a n h =
    let u : (where_true_value (is_plain 39 b && q == 39) b ≡ Some a) × (2 ≡ n) = plain_unmap (is_plain 39 b && q == 39) b a n h in
    record { front = q ∷ []; rest = rest; split = refl; size = u.1; stands = u.0 }

choose-sound : (t : Bool) (b : ℕ) (text : Text) (a n : ℕ) → cond t (escaped_end text) (plain_end b text) ≡ Some (a, n)
    → Cut (λ front. cond t (escaped_character front) (plain_character b front)) text a n
choose-sound true b text a n h = let s : Cut escaped_character text a n = escaped-sound text a n h in
    record { front = s.front; rest = s.rest; split = s.split; size = s.size; stands = s.stands }
choose-sound false b text a n h = let s : Cut (plain_character b) text a n = plain-sound b text a n h in
    record { front = s.front; rest = s.rest; split = s.split; size = s.size; stands = s.stands }

character-sound : (text : Text) (a n : ℕ) → character_end text ≡ Some (a, n) → Splits character_body text a n
character-sound [] a n h = absurd (absurd-of h)
character-sound (b ∷ text) a n h =
    let s : Cut (λ front. cond (b == 92) (escaped_character front) (plain_character b front)) text a n = choose-sound (b == 92) b text a n h in
    record { front = b ∷ s.front; rest = s.rest; split = ap (λ bs. b ∷ bs) s.split; size = s.size; stands = s.stands }

character-reading : IsReading character_body character_end
character-reading = record { complete = character-complete; sound = character-sound }

-- ---- strings

with-complete : (o : Option ℕ) (p : Option Text) (q : Option (Text × ℕ)) (n : ℕ) (vs : Text) → ((ws : Text) → p ≡ Some ws → q ≡ Some (ws, n)) → joined o p ≡ Some vs → with_element o q ≡ Some (vs, suc n)
with-complete None p q n vs ih h = absurd (absurd-of h)
with-complete (Some b) None q n vs ih h = absurd (absurd-of h)
with-complete (Some b) (Some ws) q n vs ih h = ap (option_map (λ r. (b ∷ r.0, suc r.1))) (ih ws refl) ∙ ap (λ v. option_map (λ w. (w, suc n)) v) h

step-complete : (t e p : Bool) (b : ℕ) (front rest vs : Text)
    → ((ws : Text) → string_body true front ≡ Some ws → string_from true (front ++ rest) ≡ Some (ws, length front))
    → ((ws : Text) → string_body false front ≡ Some ws → string_from false (front ++ rest) ≡ Some (ws, length front))
    → cond t (closing front) (cond e (string_body true front) (cond p (joined (Some b) (string_body false front)) None)) ≡ Some vs
    → cond t (Some ([], 1)) (cond e (option_map one_longer (string_from true (front ++ rest))) (cond p (with_element (Some b) (string_from false (front ++ rest))) None)) ≡ Some (vs, suc (length front))
step-complete true e p b [] rest vs escaped_ih plain_ih h = cc
step-complete true e p b (x ∷ front) rest vs escaped_ih plain_ih h = absurd (absurd-of h)
step-complete false true p b front rest vs escaped_ih plain_ih h = ap (option_map one_longer) (escaped_ih vs h)
step-complete false false true b front rest vs escaped_ih plain_ih h = with-complete (Some b) (string_body false front) (string_from false (front ++ rest)) (length front) vs plain_ih h
step-complete false false false b front rest vs escaped_ih plain_ih h = absurd (absurd-of h)

string-complete : (is_escaped : Bool) (front rest vs : Text) → string_body is_escaped front ≡ Some vs → string_from is_escaped (front ++ rest) ≡ Some (vs, length front)
string-complete t [] rest vs h = absurd (absurd-of h)
string-complete true (b ∷ front) rest vs h = with-complete (escaped b) (string_body false front) (string_from false (front ++ rest)) (length front) vs (λ ws k. string-complete false front rest ws k) h
string-complete false (b ∷ front) rest vs h =
    step-complete (b == 34) (b == 92) (is_plain 34 b) b front rest vs (λ ws k. string-complete true front rest ws k) (λ ws k. string-complete false front rest ws k) h

-- what was read with an element in front is that element and what was read
record WithElement (o : Option ℕ) (q : Option (Text × ℕ)) (vs : Text) (n : ℕ) : Type 0 where
  b : ℕ
  ws : Text
  m : ℕ
  element : o ≡ Some b
  read : q ≡ Some (ws, m)
  bytes : b ∷ ws ≡ vs
  size : suc m ≡ n

with-inverse : (o : Option ℕ) (q : Option (Text × ℕ)) (vs : Text) (n : ℕ) → with_element o q ≡ Some (vs, n) → WithElement o q vs n
with-inverse None q vs n h = absurd (absurd-of h)
with-inverse (Some b) None vs n h = absurd (absurd-of h)
with-inverse (Some b) (Some r) vs n h = record { b = b; ws = r.0; m = r.1; element = refl; read = refl; bytes = some_first (b ∷ r.0) vs (suc r.1) n h; size = some_second (b ∷ r.0) vs (suc r.1) n h }

with-sound : (whole : Text → Option Text) (x : ℕ) (o : Option ℕ) (q : Option (Text × ℕ)) (text vs : Text) (n : ℕ)
    → ((front ws : Text) (b : ℕ) → o ≡ Some b → string_body false front ≡ Some ws → whole (x ∷ front) ≡ Some (b ∷ ws))
    → ((ws : Text) (m : ℕ) → q ≡ Some (ws, m) → Splits (string_body false) text ws m)
    → with_element o q ≡ Some (vs, n) → Splits whole (x ∷ text) vs n
with-sound whole x o q text vs n stands ih h =
    let w : WithElement o q vs n = with-inverse o q vs n h in
    let s : Splits (string_body false) text w.ws w.m = ih w.ws w.m w.read in
    record {
      front = x ∷ s.front;
      rest = s.rest;
      split = ap (λ bs. x ∷ bs) s.split;
      size = let e : length s.front ≡ w.m = s.size in let f : suc w.m ≡ n = w.size in omega arith;
      stands = stands s.front w.ws w.b w.element s.stands ∙ ap (λ v. Some v) w.bytes;
    }

record Longer (q : Option (Text × ℕ)) (vs : Text) (n : ℕ) : Type 0 where
  m : ℕ
  read : q ≡ Some (vs, m)
  size : suc m ≡ n

longer-inverse : (q : Option (Text × ℕ)) (vs : Text) (n : ℕ) → option_map one_longer q ≡ Some (vs, n) → Longer q vs n
longer-inverse None vs n h = absurd (absurd-of h)
longer-inverse (Some r) vs n h = record { m = r.1; read = ap (λ v. some_with v r.1) (some_first r.0 vs (suc r.1) n h); size = some_second r.0 vs (suc r.1) n h }

step-sound : (t e p : Bool) (b : ℕ) (text vs : Text) (n : ℕ) → (b == 34) ≡ t → (b == 92) ≡ e → is_plain 34 b ≡ p
    → ((ws : Text) (m : ℕ) → string_from true text ≡ Some (ws, m) → Splits (string_body true) text ws m)
    → ((ws : Text) (m : ℕ) → string_from false text ≡ Some (ws, m) → Splits (string_body false) text ws m)
    → cond t (some_with [] 1) (cond e (option_map one_longer (string_from true text)) (cond p (with_element (Some b) (string_from false text)) None)) ≡ Some (vs, n)
    → Splits (string_body false) (b ∷ text) vs n
step-sound true e p b text vs n is_quote is_backslash plain escaped_ih plain_ih h = record {
  front = b ∷ [];
  rest = text;
  split = refl;
  size = some_second [] vs 1 n h;
  stands = ap (λ t. cond t (closing []) (cond (b == 92) (string_body true []) (cond (is_plain 34 b) (joined (Some b) (string_body false [])) None))) is_quote ∙ ap (λ v. Some v) (some_first [] vs 1 n h);
}
step-sound false true p b text vs n is_quote is_backslash plain escaped_ih plain_ih h =
    let u : Longer (string_from true text) vs n = longer-inverse (string_from true text) vs n h in
    let s : Splits (string_body true) text vs u.m = escaped_ih vs u.m u.read in
    record {
      front = b ∷ s.front;
      rest = s.rest;
      split = ap (λ bs. b ∷ bs) s.split;
      size = let e : length s.front ≡ u.m = s.size in let f : suc u.m ≡ n = u.size in omega arith;
      stands = ap (λ t. cond t (closing s.front) (cond (b == 92) (string_body true s.front) (cond (is_plain 34 b) (joined (Some b) (string_body false s.front)) None))) is_quote
          ∙ ap (λ t. cond t (string_body true s.front) (cond (is_plain 34 b) (joined (Some b) (string_body false s.front)) None)) is_backslash
          ∙ s.stands;
    }
step-sound false false true b text vs n is_quote is_backslash plain escaped_ih plain_ih h =
    with-sound (string_body false) b (Some b) (string_from false text) text vs n
    (λ front ws c e k.
    ap (λ t. cond t (closing front) (cond (b == 92) (string_body true front) (cond (is_plain 34 b) (joined (Some b) (string_body false front)) None))) is_quote
    ∙ ap (λ t. cond t (string_body true front) (cond (is_plain 34 b) (joined (Some b) (string_body false front)) None)) is_backslash
    ∙ ap (λ t. cond t (joined (Some b) (string_body false front)) None) plain
    ∙ ap (λ o. joined (Some b) o) k
    ∙ ap (λ o. joined o (Some ws)) e)
    plain_ih h
step-sound false false false b text vs n is_quote is_backslash plain escaped_ih plain_ih h = absurd (absurd-of h)

string-sound : (is_escaped : Bool) (text vs : Text) (n : ℕ) → string_from is_escaped text ≡ Some (vs, n) → Splits (string_body is_escaped) text vs n
string-sound t [] vs n h = absurd (absurd-of h)
string-sound true (b ∷ text) vs n h =
    with-sound (string_body true) b (escaped b) (string_from false text) text vs n
    (λ front ws c e k. ap (λ o. joined o (string_body false front)) e ∙ ap (λ o. joined (Some c) o) k)
    (λ ws m k. string-sound false text ws m k) h
string-sound false (b ∷ text) vs n h =
    step-sound (b == 34) (b == 92) (is_plain 34 b) b text vs n refl refl refl (λ ws m k. string-sound true text ws m k) (λ ws m k. string-sound false text ws m k) h

string-reading : IsReading (string_body false) string_end
string-reading = record { complete = string-complete false; sound = string-sound false }

-- ---- at a text with its opening quote

pub character-front : (text : Text) (a n : ℕ) → 0 < length text → slice_index text 0 ≡ 39 → character_end (drop 1 text) ≡ some_with a n → IsFront text (1 + n) (one (token.Character a))
character-front [] a n some q h = absurd (omega arith)
character-front (b ∷ text) a n some q h =
    subst (λ x. IsFront (x ∷ text) (1 + n) (one (token.Character a))) (sym q)
    (opened-front 39 character_body character_end (λ c. one (token.Character c)) character-reading character-opens text a n h)

pub character-none : (text : Text) → 0 < length text → slice_index text 0 ≡ 39 → character_end (drop 1 text) ≡ None → HasBadByte text
character-none [] some q h = absurd (omega arith)
character-none (b ∷ text) some q h =
    subst (λ x. HasBadByte (x ∷ text)) (sym q) (inl (opened-none 39 character_body character_end (λ c. one (token.Character c)) character-reading character-opens text h))

pub string-front : (text bytes : Text) (n : ℕ) → 0 < length text → slice_index text 0 ≡ 34 → string_end (drop 1 text) ≡ some_with bytes n → IsFront text (1 + n) (one (token.Text bytes))
string-front [] bytes n some q h = absurd (omega arith)
string-front (b ∷ text) bytes n some q h =
    subst (λ x. IsFront (x ∷ text) (1 + n) (one (token.Text bytes))) (sym q)
    (opened-front 34 (string_body false) string_end (λ c. one (token.Text c)) string-reading string-opens text bytes n h)

pub string-none : (text : Text) → 0 < length text → slice_index text 0 ≡ 34 → string_end (drop 1 text) ≡ None → HasBadByte text
string-none [] some q h = absurd (omega arith)
string-none (b ∷ text) some q h =
    subst (λ x. HasBadByte (x ∷ text)) (sym q) (inl (opened-none 34 (string_body false) string_end (λ c. one (token.Text c)) string-reading string-opens text h))

pub ruleset quoted_facts = (character-front, character-none, string-front, string-none)
