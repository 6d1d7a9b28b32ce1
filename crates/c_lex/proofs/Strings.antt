-- A string is read element by element.
use Rattle.std.proofs.Common.{◌≡◌, ◌≤◌, ◌<◌, ℕ, suc, ◌+◌, ◌-◌, Bool, true, false, cond, ◌==◌, [], ◌∷◌, ◌++◌, length, drop, slice_index, Option, Some, None, option_map, refl, sym, ◌∙◌, ap, subst, arith, append_assoc, length-drop, drop-drop, get_or-drop}
use Rattle.c_ast.specs.Lexeme.{Text, escaped, is_plain}
use Rattle.c_lex.specs.Front.{element, escaped_element, plain_element, with_element, one_longer, string_from, string_end, behind}
use Rattle.c_lex.proofs.Readings.{absurd-of, with_length, some_with, some_first, some_second}

longer_twice : (b : ℕ) (o : Option (Text × ℕ)) → option_map one_longer (with_element (Some b) o) ≡ behind (b ∷ []) 2 o
longer_twice b None = refl
longer_twice b (Some r) = ap (λ n. some_with (b ∷ r.0) n) (let e : suc (suc r.1) ≡ 2 + r.1 = omega arith in e)

longer_once : (b : ℕ) (o : Option (Text × ℕ)) → with_element (Some b) o ≡ behind (b ∷ []) 1 o
longer_once b None = refl
longer_once b (Some r) = ap (λ n. some_with (b ∷ r.0) n) (let e : suc r.1 ≡ 1 + r.1 = omega arith in e)

-- the element in front, and the string behind it
record Step (text : Text) (b n : ℕ) : Type 0 where
  pub is : string_end text ≡ behind (b ∷ []) n (string_end (drop n text))
  pub some : 0 < n
  pub within : n ≤ length text

escape_step : (x b n : ℕ) (text : Text) → escaped_element text ≡ some_with b n → (x == 34) ≡ false → (x == 92) ≡ true → Step (x ∷ text) b n
escape_step x b n [] h q e = absurd (absurd-of h)
escape_step x b n (y ∷ text) h q e = by_value (escaped y) refl h
  where
    by_value : (o : Option ℕ) → escaped y ≡ o → option_map (with_length 2) o ≡ some_with b n → Step (x ∷ y ∷ text) b n
    by_value None k m = absurd (absurd-of m)
    by_value (Some c) k m =
        let value : c ≡ b = some_first c b 2 n m in
        let two : 2 ≡ n = some_second c b 2 n m in
        subst (λ j. Step (x ∷ y ∷ text) b j) two (subst (λ a. Step (x ∷ y ∷ text) a 2) value (record {
          is = ap (λ t. cond t (some_with [] 1) (cond (x == 92) (option_map one_longer (string_from true (y ∷ text))) (cond (is_plain 34 x) (with_element (Some x) (string_from false (y ∷ text))) None))) q
              ∙ ap (λ t. cond t (option_map one_longer (string_from true (y ∷ text))) (cond (is_plain 34 x) (with_element (Some x) (string_from false (y ∷ text))) None)) e
              ∙ ap (λ o. option_map one_longer (with_element o (string_from false text))) k
              ∙ longer_twice c (string_from false text);
          some = omega arith;
          within = omega arith;
        }))

plain_step : (x b n : ℕ) (text : Text) → plain_element 34 x ≡ some_with b n → (x == 34) ≡ false → (x == 92) ≡ false → Step (x ∷ text) b n
plain_step x b n text h q e = by_value (is_plain 34 x) refl h
  where
    by_value : (t : Bool) → is_plain 34 x ≡ t → cond t (some_with x 1) None ≡ some_with b n → Step (x ∷ text) b n
    by_value false k m = absurd (absurd-of m)
    by_value true k m =
        subst (λ j. Step (x ∷ text) b j) (some_second x b 1 n m) (subst (λ a. Step (x ∷ text) a 1) (some_first x b 1 n m) (record {
          is = ap (λ t. cond t (some_with [] 1) (cond (x == 92) (option_map one_longer (string_from true text)) (cond (is_plain 34 x) (with_element (Some x) (string_from false text)) None))) q
              ∙ ap (λ t. cond t (option_map one_longer (string_from true text)) (cond (is_plain 34 x) (with_element (Some x) (string_from false text)) None)) e
              ∙ ap (λ t. cond t (with_element (Some x) (string_from false text)) None) k
              ∙ longer_once x (string_from false text);
          some = omega arith;
          within = omega arith;
        }))

element_step : (text : Text) (b n : ℕ) → element 34 text ≡ some_with b n → (slice_index text 0 == 34) ≡ false → Step text b n
element_step [] b n h q = absurd (absurd-of h)
element_step (x ∷ text) b n h q = by_case (x == 92) refl h
  where
    by_case : (t : Bool) → (x == 92) ≡ t → cond t (escaped_element text) (plain_element 34 x) ≡ some_with b n → Step (x ∷ text) b n
    by_case true e m = escape_step x b n text m q e
    by_case false e m = plain_step x b n text m q e

behind-behind : (bytes : Text) (b m n : ℕ) (o : Option (Text × ℕ)) → behind bytes m (behind (b ∷ []) n o) ≡ behind (bytes ++ b ∷ []) (m + n) o
behind-behind bytes b m n None = refl
behind-behind bytes b m n (Some r) =
    ap (λ v. some_with v (m + (n + r.1))) (sym (append_assoc bytes (b ∷ []) r.0)) ∙ ap (λ k. some_with ((bytes ++ b ∷ []) ++ r.0) k) (let e : m + (n + r.1) ≡ m + n + r.1 = omega arith in e)

not_quote : (text : Text) (at : ℕ) → (slice_index text at ≡ 34 → ⊥) → (slice_index (drop at text) 0 == 34) ≡ false
not_quote text at h = let e : slice_index (drop at text) 0 ≡ slice_index text at = get_or-drop at text 0 0 ∙ ap (slice_index text) (let k : at + 0 ≡ at = omega arith in k) in
    let f : slice_index (drop at text) 0 ≡ 34 → ⊥ = λ k. h (sym e ∙ k) in differ (slice_index (drop at text) 0) f
  where
    differ : (x : ℕ) → (x ≡ 34 → ⊥) → (x == 34) ≡ false
    differ x h = grind arith

-- one more element is read
pub string-next : (text bytes new : Text) (at b n : ℕ) → (string_end text ≡ behind bytes at (string_end (drop at text))) × (at ≤ length text)
    → (slice_index text at ≡ 34 → ⊥) → element 34 (drop at text) ≡ some_with b n → new ≡ bytes ++ b ∷ []
    → (string_end text ≡ behind new (at + n) (string_end (drop (at + n) text))) × (at + n ≤ length text)
string-next text bytes new at b n invariant q h grown =
    let s : Step (drop at text) b n = element_step (drop at text) b n h (not_quote text at q) in (
      invariant.0 ∙ ap (behind bytes at) s.is ∙ behind-behind bytes b at n (string_end (drop n (drop at text)))
          ∙ ap (λ t. behind (bytes ++ b ∷ []) (at + n) (string_end t)) (drop-drop n at text)
          ∙ ap (λ bs. behind bs (at + n) (string_end (drop (at + n) text))) (sym grown),
      (let w : n ≤ length (drop at text) = s.within in let k : length (drop at text) ≡ length text - at = length-drop at text in let i : at ≤ length text = invariant.1 in omega arith),
    )

none_escape : (x : ℕ) (text : Text) → escaped_element text ≡ None → (x == 34) ≡ false → (x == 92) ≡ true → string_end (x ∷ text) ≡ None
none_escape x [] h q e = let t : (x == 34) ≡ false = q in let u : (x == 92) ≡ true = e in rw (t, u)
none_escape x (y ∷ text) h q e = let t : (x == 34) ≡ false = q in let u : (x == 92) ≡ true = e in rw (t, u) (by_value (escaped y) h)
  where
    by_value : (o : Option ℕ) → option_map (with_length 2) o ≡ None → option_map one_longer (with_element o (string_from false text)) ≡ None
    by_value None m = refl
    by_value (Some c) m = absurd (absurd-of (sym m))

none_plain : (x : ℕ) (text : Text) → plain_element 34 x ≡ None → (x == 34) ≡ false → (x == 92) ≡ false → string_end (x ∷ text) ≡ None
none_plain x text h q e =
    ap (λ t. cond t (some_with [] 1) (cond (x == 92) (option_map one_longer (string_from true text)) (cond (is_plain 34 x) (with_element (Some x) (string_from false text)) None))) q
    ∙ ap (λ t. cond t (option_map one_longer (string_from true text)) (cond (is_plain 34 x) (with_element (Some x) (string_from false text)) None)) e
    ∙ by_value (is_plain 34 x) h
  where
    by_value : (t : Bool) → cond t (some_with x 1) None ≡ None → cond t (with_element (Some x) (string_from false text)) None ≡ None
    by_value false m = refl
    by_value true m = absurd (absurd-of (sym m))

no_element : (text : Text) → element 34 text ≡ None → (slice_index text 0 == 34) ≡ false → string_end text ≡ None
no_element [] h q = refl
no_element (x ∷ text) h q = by_case (x == 92) refl h
  where
    by_case : (t : Bool) → (x == 92) ≡ t → cond t (escaped_element text) (plain_element 34 x) ≡ None → string_end (x ∷ text) ≡ None
    by_case true e m = none_escape x text m q e
    by_case false e m = none_plain x text m q e

-- the string isn't complete
pub string-stops : (text bytes : Text) (at : ℕ) → string_end text ≡ behind bytes at (string_end (drop at text))
    → (slice_index text at ≡ 34 → ⊥) → element 34 (drop at text) ≡ None → string_end text ≡ None
string-stops text bytes at invariant q h = invariant ∙ ap (behind bytes at) (no_element (drop at text) h (not_quote text at q))
