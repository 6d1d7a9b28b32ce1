-- The functions with which a valid program handles messages: by name there is just one.
use Rattle.std.proofs.Common.{◌≡◌, ◌∙◌, refl, ap, sym, subst, Bool, true, false, ◌&&◌, ◌||◌, not, cond, ℕ, zero, suc, ◌+◌, List, [], ◌∷◌, Option, Some, None, arith, nat_eq, codes}
use Rattle.std.specs.Prelude.{slice_get}
use Rattle.std.specs.List.{list_any, position_or_len}
use Rattle.std.specs.Option.{option_map, option_map_or}
use Rattle.std.specs.Str.{bytes_eq}
use Rattle.std.proofs.lemmas.Bool.Decides.{nat_tests}
use Rattle.src_tree.specs.declared.program.Function.{Function}
use Rattle.src_tree.specs.declared.program.Program.{Program}
use Rattle.src_meaning.specs.Delivery.{same_bytes, is_named, find_named}
use Rattle.src_meaning.specs.Valid.{IsValid, is_few, is_empty, is_handler, is_nothing, has_few_entries, has_handlers, has_valid_types, has_valid_globals, has_valid_functions}
use Rattle.src_meaning.specs.ValidNames.{are_names, are_distinct, functions_differ, globals_differ, is_called, names_differ}
use Rattle.src_meaning.proofs.LayoutLengths.{and_left, and_right}

equal_bytes : (xs ys : List ℕ) → same_bytes xs ys ≡ true → xs ≡ ys
equal_bytes [] [] h = refl
equal_bytes [] (y ∷ ys) h = absurd (cc)
equal_bytes (x ∷ xs) [] h = absurd (cc)
equal_bytes (x ∷ xs) (y ∷ ys) h =
    let same : x ≡ y = let e = and_left (nat_eq x y) (same_bytes xs ys) h in grind (arith, nat_tests, e) in
    let rest = equal_bytes xs ys (and_right (nat_eq x y) (same_bytes xs ys) h) in
    cc

bytes_itself : (xs : List ℕ) → same_bytes xs xs ≡ true
bytes_itself [] = refl
bytes_itself (x ∷ xs) =
    let one : nat_eq x x ≡ true = grind (arith, nat_tests) in ap (λ b. b && same_bytes xs xs) one ∙ bytes_itself xs

equal_word : (xs ys : List ℕ) → bytes_eq xs ys ≡ true → xs ≡ ys
equal_word [] [] h = refl
equal_word [] (y ∷ ys) h = absurd (cc)
equal_word (x ∷ xs) [] h = absurd (cc)
equal_word (x ∷ xs) (y ∷ ys) h =
    let same : x ≡ y = let e = and_left (nat_eq x y) (bytes_eq xs ys) h in grind (arith, nat_tests, e) in
    let rest = equal_word xs ys (and_right (nat_eq x y) (bytes_eq xs ys) h) in
    cc

word_itself : (xs : List ℕ) → bytes_eq xs xs ≡ true
word_itself [] = refl
word_itself (x ∷ xs) =
    let one : nat_eq x x ≡ true = grind (arith, nat_tests) in ap (λ b. b && bytes_eq xs xs) one ∙ word_itself xs

-- no two of distinct names are equal
none_such : (x : List ℕ) (xs : List (List ℕ)) (k : ℕ) → list_any (bytes_eq x) xs ≡ false → slice_get xs k ≡ Some x → ⊥
none_such x [] k h e = absurd (cc)
none_such x (y ∷ xs) zero h e =
    let same : y ≡ x = cc in
    let there : bytes_eq x y ≡ true = ap (bytes_eq x) same ∙ word_itself x in
    absurd (no (bytes_eq x y) (list_any (bytes_eq x) xs) there h)
  where
    no : (a b : Bool) → a ≡ true → a || b ≡ false → ⊥
    no a b h g = cc
none_such x (y ∷ xs) (suc k) h e = none_such x xs k (right (bytes_eq x y) (list_any (bytes_eq x) xs) h) e
  where
    right : (a b : Bool) → a || b ≡ false → b ≡ false
    right true b h = absurd (cc)
    right false b h = h

not_true : (b : Bool) → not b ≡ true → b ≡ false
not_true true h = absurd (cc)
not_true false h = refl

one_number : (xs : List (List ℕ)) (m n : ℕ) (word : List ℕ) → are_distinct xs ≡ true → slice_get xs m ≡ Some word → slice_get xs n ≡ Some word → m ≡ n
one_number [] m n word h e f = absurd (cc)
one_number (x ∷ xs) zero zero word h e f = refl
one_number (x ∷ xs) zero (suc n) word h e f =
    let same : x ≡ word = cc in
    absurd (none_such x xs n (not_true (list_any (bytes_eq x) xs) (and_left (not (list_any (bytes_eq x) xs)) (are_distinct xs) h)) (f ∙ ap Some (sym same)))
one_number (x ∷ xs) (suc m) zero word h e f =
    let same : x ≡ word = cc in
    absurd (none_such x xs m (not_true (list_any (bytes_eq x) xs) (and_left (not (list_any (bytes_eq x) xs)) (are_distinct xs) h)) (e ∙ ap Some (sym same)))
one_number (x ∷ xs) (suc m) (suc n) word h e f =
    ap suc (one_number xs m n word (and_right (not (list_any (bytes_eq x) xs)) (are_distinct xs) h) e f)

module _ (names : List (List ℕ)) (word : List ℕ) (n : ℕ) where
  called : is_called names n word ≡ true → slice_get names n ≡ Some word
  called h = by (slice_get names n) refl h
    where
      by : (o : Option (List ℕ)) → slice_get names n ≡ o → option_map_or (bytes_eq word) o false ≡ true → slice_get names n ≡ Some word
      by None e h = absurd (cc)
      by (Some text) e h = e ∙ ap Some (sym (equal_word word text h))

module _ (names : List (List ℕ)) (word : List ℕ) (f : Function) where
  named : is_named names word f ≡ true → slice_get names f.name ≡ Some word
  named h = by (slice_get names f.name) refl h
    where
      by : (o : Option (List ℕ)) → slice_get names f.name ≡ o → elim o as (λ _. Bool) [ None ↦ false | Some text ↦ same_bytes text word ] ≡ true → slice_get names f.name ≡ Some word
      by None e h = absurd (cc)
      by (Some text) e h = e ∙ ap Some (equal_bytes text word h)

  is_so_named : slice_get names f.name ≡ Some word → is_named names word f ≡ true
  is_so_named e = ap (λ o. elim o as (λ _. Bool) [ None ↦ false | Some text ↦ same_bytes text word ]) e ∙ bytes_itself word

-- the handler of a name
pub record Handler (p : Program) (word : List ℕ) (fs : List Function) : Type 0 where
  pub number : ℕ
  pub function : Function
  pub at : slice_get fs number ≡ Some function
  pub position : position_or_len (is_handler p word) fs ≡ number
  pub found : find_named p.names word fs ≡ Some number
  pub no_params : function.params ≡ []
  pub no_result : function.ret ≡ None

module _ (p : Program) (word : List ℕ) (names : are_distinct p.names ≡ true) where
  same_name : (f d : Function) (fs : List Function) (k : ℕ) → slice_get fs k ≡ Some d → f.name ≡ d.name → list_any (λ h. nat_eq f.name h.name) fs ≡ true
  same_name f d [] k e same = absurd (cc)
  same_name f d (y ∷ fs) zero e same =
      let is : y ≡ d = cc in
      let one : nat_eq f.name y.name ≡ true = let n : f.name ≡ y.name = same ∙ ap (λ (d : Function). d.name) (sym is) in grind (arith, nat_tests, n) in
      ap (λ b. b || list_any (λ h. nat_eq f.name h.name) fs) one
  same_name f d (y ∷ fs) (suc k) e same = right (nat_eq f.name y.name) _ (same_name f d fs k e same)
    where
      right : (a b : Bool) → b ≡ true → a || b ≡ true
      right true b h = refl
      right false b h = h

  empty_list : (xs : List ℕ) → is_empty xs ≡ true → xs ≡ []
  empty_list [] h = refl
  empty_list (x ∷ xs) h = absurd (cc)

  no_value : (o : Option ℕ) → is_nothing o ≡ true → o ≡ None
  no_value None h = refl
  no_value (Some t) h = absurd (cc)

  handler_of : (fs : List Function) → functions_differ fs ≡ true → list_any (is_handler p word) fs ≡ true → Handler p word fs
  handler_of [] differ h = absurd (cc)
  handler_of (f ∷ fs) differ h =
      by (is_handler p word f) refl h (handler_of fs (and_right (not (list_any (λ h. nat_eq f.name h.name) fs)) (functions_differ fs) differ))
    where
      position : (b : Bool) → is_handler p word f ≡ b → position_or_len (is_handler p word) (f ∷ fs) ≡ cond (not b) (1 + position_or_len (is_handler p word) fs) 0
      position b e = ap (λ b. cond (not b) (1 + position_or_len (is_handler p word) fs) 0) e

      by : (b : Bool) → is_handler p word f ≡ b → b || list_any (is_handler p word) fs ≡ true → (list_any (is_handler p word) fs ≡ true → Handler p word fs) → Handler p word (f ∷ fs)
      by true e h later =
          let named_so = called p.names word f.name (and_left (is_called p.names f.name word) (is_empty f.params && is_nothing f.ret) e) in
          let rest = and_right (is_called p.names f.name word) (is_empty f.params && is_nothing f.ret) e in
          record {
            number = 0;
            function = f;
            at = refl;
            position = position true e;
            found = ap (λ b. cond b (Some 0) (option_map suc (find_named p.names word fs))) (is_so_named p.names word f named_so);
            no_params = empty_list f.params (and_left (is_empty f.params) (is_nothing f.ret) rest);
            no_result = no_value f.ret (and_right (is_empty f.params) (is_nothing f.ret) rest);
          }
      by false e h later =
          let r = later h in
          let one : 1 + r.number ≡ suc r.number = omega arith in
          record {
            number = suc r.number;
            function = r.function;
            at = r.at;
            position = position false e ∙ (ap (λ n. 1 + n) r.position ∙ one);
            found = ap (λ b. cond b (Some 0) (option_map suc (find_named p.names word fs))) (other r (is_named p.names word f) refl) ∙ ap (option_map suc) r.found;
            no_params = r.no_params;
            no_result = r.no_result;
          }
        where
          found_name : (fs : List Function) (k : ℕ) (d : Function) → find_named p.names word fs ≡ Some k → slice_get fs k ≡ Some d → slice_get p.names d.name ≡ Some word
          found_name [] k d e g = absurd (cc)
          found_name (y ∷ fs) k d e g = here (is_named p.names word y) refl k e g (λ k e g. found_name fs k d e g)
            where
              here : (b : Bool) → is_named p.names word y ≡ b → (k : ℕ) → cond b (Some 0) (option_map suc (find_named p.names word fs)) ≡ Some k → slice_get (y ∷ fs) k ≡ Some d → ((k : ℕ) → find_named p.names word fs ≡ Some k → slice_get fs k ≡ Some d → slice_get p.names d.name ≡ Some word) → slice_get p.names d.name ≡ Some word
              here true q zero e g later = let same : y ≡ d = cc in subst (λ d. slice_get p.names d.name ≡ Some word) same (named p.names word y q)
              here true q (suc k) e g later = absurd (cc)
              here false q k e g later = deeper (find_named p.names word fs) refl k e g
                where
                  deeper : (o : Option ℕ) → find_named p.names word fs ≡ o → (k : ℕ) → option_map suc o ≡ Some k → slice_get (y ∷ fs) k ≡ Some d → slice_get p.names d.name ≡ Some word
                  deeper None q k e g = absurd (cc)
                  deeper (Some m) q zero e g = absurd (cc)
                  deeper (Some m) q (suc k) e g = let same : m ≡ k = cc in later k (q ∙ ap Some same) g

          other : (r : Handler p word fs) (b : Bool) → is_named p.names word f ≡ b → is_named p.names word f ≡ false
          other r false q = q
          other r true q =
              let here = named p.names word f q in
              let there = found_name fs r.number r.function r.found r.at in
              let same = one_number p.names f.name r.function.name word names here there in
              let none = not_true (list_any (λ h. nat_eq f.name h.name) fs) (and_left (not (list_any (λ h. nat_eq f.name h.name) fs)) (functions_differ fs) differ) in
              let some = same_name f r.function fs r.number r.at same in
              absurd (no (list_any (λ h. nat_eq f.name h.name) fs) none some)
            where
              no : (b : Bool) → b ≡ false → b ≡ true → ⊥
              no b h g = cc

module _ (p : Program) (valid : IsValid p) where
  rules_2 : has_few_entries p && (names_differ p.globals p.functions && (has_valid_types p && (has_valid_globals p && has_valid_functions p))) ≡ true
  rules_2 = and_right (are_names p.names) _ valid.rules

  rules_3 : names_differ p.globals p.functions && (has_valid_types p && (has_valid_globals p && has_valid_functions p)) ≡ true
  rules_3 = and_right (has_few_entries p) _ rules_2

  names : are_distinct p.names ≡ true
  names = and_right _ (are_distinct p.names) (and_right _ _ (and_left (are_names p.names) _ valid.rules))

  differ : functions_differ p.functions ≡ true
  differ =
      and_left (functions_differ p.functions) _ (and_right (globals_differ p.globals) _ (and_left (names_differ p.globals p.functions) _ rules_3))

  handlers : has_handlers p ≡ true
  handlers =
      let f = and_right (has_valid_globals p) (has_valid_functions p) (and_right (has_valid_types p) _ (and_right (names_differ p.globals p.functions) _ rules_3)) in
      and_left (has_handlers p) _ (and_right _ _ (and_right (is_few p.functions) _ f))

  pub init_handler : Handler p (codes "init") p.functions
  init_handler = handler_of p (codes "init") names p.functions differ (and_left _ _ handlers)

  pub message_handler : Handler p (codes "on_message") p.functions
  message_handler = handler_of p (codes "on_message") names p.functions differ (and_right (list_any (is_handler p (codes "init")) p.functions) _ handlers)
