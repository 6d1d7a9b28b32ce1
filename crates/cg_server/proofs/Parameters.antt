-- The functions that a server calls by itself: `init`, `on_message` and those of filters, none of which has parameters.
use Rattle.std.proofs.Common.{◌≡◌, ◌∙◌, refl, ap, sym, Bool, true, false, ◌&&◌, ◌||◌, cond, ℕ, zero, suc, ◌+◌, ◌<◌, ◌≤◌, List, [], ◌∷◌, length, map, Option, Some, None, arith, nat_lt}
use Rattle.std.specs.Prelude.{slice_get, not, codes, position, unwrap_or}
use Rattle.std.specs.List.{list_any, list_all, position_or_len}
use Rattle.std.proofs.lemmas.List.{length-map}
use Rattle.std.proofs.lemmas.Bool.Decides.{nat_tests}
use Rattle.c_types.specs.declared.parts.Signature.{Signature}
use Rattle.c_types.proofs.ShapeLaws.{get-after, get-before, get-map, some_within}
use Rattle.src_tree.specs.declared.program.Function.{Function}
use Rattle.src_tree.specs.declared.program.Program.{Program}
use Rattle.src_tree.specs.Signatures.{same_numbers, same_result}
use Rattle.src_meaning.specs.Valid.{is_few, is_function, has_few_locals, is_signature_known, is_handler, has_handlers, is_empty, is_nothing, is_body}
use Rattle.src_meaning.specs.ValidNames.{is_free, is_called}
use Rattle.src_meaning.proofs.LayoutLengths.{and_left, and_right}
use Rattle.bm_code.specs.Accepted.{HasParameters}
use Rattle.cg_stmt.specs.Functions.{is_signature, signature_number, machine_function, filter_function}
use Rattle.cg_program.specs.Compiled.{Source, IsSource, target_of, machine_functions, machine_code}
use Rattle.cg_program.proofs.Rules.{at_most, few_entries, functions_valid, few_functions}
use Rattle.cg_server.specs.Deliveries.{handler_number, filter_number}

-- the first that passes a test
record Found {A : Type 0} (test : A → Bool) (xs : List A) : Type 0 where
  entry : A
  is : slice_get xs (position_or_len test xs) ≡ Some entry
  holds : test entry ≡ true

found : {A : Type 0} (test : A → Bool) (xs : List A) → list_any test xs ≡ true → Found test xs
found test [] h = absurd (cc)
found test (x ∷ xs) h = by (test x) refl h (found test xs)
  where
    by : (b : Bool) → test x ≡ b → b || list_any test xs ≡ true → (list_any test xs ≡ true → Found test xs) → Found test (x ∷ xs)
    by true e h rest = record {
      entry = x;
      is = ap (λ b. slice_get (x ∷ xs) (cond (not b) (1 + position_or_len test xs) 0)) e;
      holds = e;
    }
    by false e h rest =
        let r = rest h in
        let next : 1 + position_or_len test xs ≡ suc (position_or_len test xs) = omega arith in
        record {
          entry = r.entry;
          is = ap (λ b. slice_get (x ∷ xs) (cond (not b) (1 + position_or_len test xs) 0)) e ∙ (ap (slice_get (x ∷ xs)) next ∙ r.is);
          holds = r.holds;
        }

at_most_all : {A : Type 0} (test : A → Bool) (xs : List A) → position_or_len test xs ≤ length xs
at_most_all test [] = omega arith
at_most_all test (x ∷ xs) = by (test x) (at_most_all test xs)
  where
    by : (b : Bool) → position_or_len test xs ≤ length xs → cond (not b) (1 + position_or_len test xs) 0 ≤ suc (length xs)
    by true h = omega arith
    by false h = omega (arith, h)

-- the position, and else the length
pub or_all : {A : Type 0} (test : A → Bool) (xs : List A) → unwrap_or (position test xs) (length xs) ≡ position_or_len test xs
or_all test xs = by (nat_lt (position_or_len test xs) (length xs)) refl
  where
    by : (b : Bool) → nat_lt (position_or_len test xs) (length xs) ≡ b → unwrap_or (cond b (Some (position_or_len test xs)) None) (length xs) ≡ position_or_len test xs
    by true e = refl
    by false e = let low = at_most_all test xs in grind (arith, nat_tests, e, low)

each : {A : Type 0} (test : A → Bool) (xs : List A) (k : ℕ) (x : A) → list_all test xs ≡ true → slice_get xs k ≡ Some x → test x ≡ true
each test [] k x h e = absurd (cc)
each test (y ∷ xs) zero x h e = let same : y ≡ x = cc in ap test (sym same) ∙ and_left (test y) (list_all test xs) h
each test (y ∷ xs) (suc k) x h e = each test xs k x (and_right (test y) (list_all test xs) h) e

-- the signature of functions without parameters and without a result
record Plain (ss : List Signature) : Type 0 where
  signature : Signature
  has : slice_get ss (signature_number ss None []) ≡ Some signature
  none : length signature.params ≡ 0

plain : (ss : List Signature) → list_any (λ s. is_signature s None []) ss ≡ true → Plain ss
plain [] h = absurd (cc)
plain (s ∷ ss) h = by (is_signature s None []) refl h (plain ss)
  where
    no_params : (l : List ℕ) → same_numbers [] l ≡ true → length l ≡ 0
    no_params [] e = refl
    no_params (x ∷ l) e = absurd (cc)

    by : (b : Bool) → is_signature s None [] ≡ b → b || list_any (λ s. is_signature s None []) ss ≡ true → (list_any (λ s. is_signature s None []) ss ≡ true → Plain ss) → Plain (s ∷ ss)
    by true e h rest = record {
      signature = s;
      has = ap (λ b. slice_get (s ∷ ss) (cond b 0 (signature_number ss None [] + 1))) e;
      none = no_params s.params (and_right (same_result None s.result) (same_numbers [] s.params) e);
    }
    by false e h rest =
        let r = rest h in
        let next : signature_number ss None [] + 1 ≡ suc (signature_number ss None []) = omega arith in
        record {
          signature = r.signature;
          has = ap (λ b. slice_get (s ∷ ss) (cond b 0 (signature_number ss None [] + 1))) e ∙ (ap (slice_get (s ∷ ss)) next ∙ r.has);
          none = r.none;
        }

no_result : (r : Option ℕ) → is_nothing r ≡ true → r ≡ None
no_result None h = refl
no_result (Some t) h = absurd (cc)

empty : (l : List ℕ) → is_empty l ≡ true → l ≡ []
empty [] h = refl
empty (x ∷ l) h = absurd (cc)

module _ (s : Source) (is : IsSource s) where
  abbrev p : Program
  p = s.program

  known : (k : ℕ) (f : Function) → slice_get p.functions k ≡ Some f → is_signature_known p f ≡ true
  known k f e =
      let all = and_left (list_all (is_function p) p.functions) _ (and_right (is_few p.functions) _ (functions_valid p is.valid)) in
      let h = each (is_function p) p.functions k f all e in
      and_left (is_signature_known p f) (is_body p f) (and_right _ _ (and_right _ _ (and_right (has_few_locals f) _ (and_right (is_free p.names f.name) _ h))))

  handlers : has_handlers p ≡ true
  handlers = and_left (has_handlers p) _ (and_right (list_all (is_function p) p.functions) _ (and_right (is_few p.functions) _ (functions_valid p is.valid)))

  pub has_init : list_any (is_handler p (codes "init")) p.functions ≡ true
  has_init = and_left (list_any (is_handler p (codes "init")) p.functions) _ handlers

  pub has_on_message : list_any (is_handler p (codes "on_message")) p.functions ≡ true
  has_on_message = and_right (list_any (is_handler p (codes "init")) p.functions) _ handlers

  module _ (word : List ℕ) (some : list_any (is_handler p word) p.functions ≡ true) where
    handler : Found (is_handler p word) p.functions
    handler = found (is_handler p word) p.functions some

    abbrev f : Function
    f = handler.entry

    bare : is_empty f.params && is_nothing f.ret ≡ true
    bare = and_right (is_called p.names f.name word) _ handler.holds

    params : f.params ≡ []
    params = empty f.params (and_left (is_empty f.params) (is_nothing f.ret) bare)

    result : f.ret ≡ None
    result = no_result f.ret (and_right (is_empty f.params) (is_nothing f.ret) bare)

    signed : Plain p.types.signatures
    signed =
        plain p.types.signatures (ap (λ r. list_any (λ s. is_signature s r []) p.types.signatures) (sym result) ∙ (ap (λ l. list_any (λ s. is_signature s f.ret l) p.types.signatures) (sym params) ∙ known (position_or_len (is_handler p word) p.functions) f handler.is))

    pub handler_parameters : HasParameters (machine_code s) (handler_number s word) 0
    handler_parameters = record {
      declared = machine_function (target_of p) f;
      signature = signed.signature;
      is = get-before (map (machine_function (target_of p)) p.functions) (map (filter_function (target_of p) (length p.names)) s.filters) (handler_number s word) (machine_function (target_of p) f) (get-map (machine_function (target_of p)) p.functions (handler_number s word) f handler.is);
      has = ap (λ r. slice_get p.types.signatures (signature_number p.types.signatures r f.params)) result ∙ (ap (λ l. slice_get p.types.signatures (signature_number p.types.signatures None l)) params ∙ signed.has);
      parameters = signed.none;
    }

  pub filter_parameters : (k : ℕ) → k < length s.filters → HasParameters (machine_code s) (filter_number s k) 0
  filter_parameters k low =
      let e = some_within s.filters k low in
      let g = signed (codes "init") has_init in
      let long = length-map p.functions (machine_function (target_of p)) in
      record {
        declared = filter_function (target_of p) (length p.names) e.0;
        signature = g.signature;
        is = ap (λ n. slice_get (machine_functions s) (n + k)) (sym long) ∙ (get-after (map (machine_function (target_of p)) p.functions) (map (filter_function (target_of p) (length p.names)) s.filters) k ∙ get-map (filter_function (target_of p) (length p.names)) s.filters k e.0 e.1);
        has = g.has;
        parameters = g.none;
      }

  pub few : length p.functions ≤ 4096
  few = few_functions p is.valid

  pub number_low : (word : List ℕ) → handler_number s word ≤ 4096
  number_low word = let low = at_most_all (is_handler p word) p.functions in let all = few in omega (arith, low, all)

  pub few_sites : length p.sites ≤ 4096
  few_sites =
      at_most (length p.sites) 4096 (and_right (is_few p.types.unions) _ (and_right (is_few p.types.structs) _ (few_entries p is.valid)))
