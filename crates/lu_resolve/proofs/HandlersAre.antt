-- Handlers that are found by their names are such as a pairing may have.
use Rattle.std.proofs.Common.{◌≡◌, ◌∙◌, refl, sym, ap, subst, ℕ, ◌<◌, Bool, true, false, ◌&&◌, not, nat_eq, List, [], ◌∷◌, ◌++◌, length, Option, Some, None, is_some, Result, Ok, arith}
use Rattle.std.specs.Prelude.{map, slice_get}
use Rattle.std.specs.List.{list_all, list_any}
use Rattle.std.specs.Option.{option_map_or, option_map}
use Rattle.std.proofs.lemmas.List.{length-map}
use Rattle.std.proofs.lemmas.List.Folds.{list_all-append, list_any-append}
use Rattle.std.proofs.lemmas.Option.{slice_get-map, slice_get-get_or}
use Rattle.lu_spec.specs.Then.{then_do}
use Rattle.lu_spec.proofs.ThenLemmas.{then_some, then_ok}
use Rattle.lu_lines.specs.Line.{Text}
use Rattle.c_types.specs.declared.parts.Signature.{Signature}
use Rattle.c_types.specs.declared.parts.TagDef.{TagDef}
use Rattle.c_types.proofs.Lists.{and_left, and_right}
use Rattle.src_tree.specs.declared.program.Function.{Function}
use Rattle.src_tree.specs.declared.program.Program.{Program}
use Rattle.plan_file.specs.declared.plan.Handler as Planned
use Rattle.lu_image.specs.declared.handler.Handler.{Handler}
use Rattle.lu_image.specs.Names.{entry_at, find, struct_names, function_names}
use Rattle.lu_image.specs.Pairs.{takes_forms, are_distinct, is_plain}
use Rattle.lu_pair.specs.Outlines.{signature_of}
use Rattle.lu_pair.proofs.Finding.{find-within}
use Rattle.lu_load_lines.specs.declared.refusal.NameKind.{NameKind}
use Rattle.lu_load_lines.specs.declared.refusal.NameKind.TheVariants as kind
use Rattle.lu_resolve.specs.declared.error.ResolveError.{ResolveError}
use Rattle.lu_resolve.specs.Handlers.{or_nosuch, number_if, function_where, paired_struct, has_handler, handler_unless, handler_of, handlers_onto, last_of}
use Rattle.lu_resolve.proofs.Tests.{neither, first_not, second_not, both, nat_eq-sym}

or_nosuch-ok : {A : Type 0} (k : NameKind) (name : Text) (o : Option A) (a : A) → or_nosuch k name o ≡ Ok a → o ≡ Some a
or_nosuch-ok k name None a e = absurd (cc)
or_nosuch-ok k name (Some b) a e = let same : b ≡ a = cc in ap Some same

number_if-some : (test : Bool) (n m : ℕ) → number_if test n ≡ Some m → (test ≡ true) × (n ≡ m)
number_if-some true n m e = (refl, cc)
number_if-some false n m e = absurd (cc)

-- a function that is found passes the test
pub function-passes : (p : Program) (test : Signature → Bool) (name : Text) (f : ℕ) → function_where p test name ≡ Some f
    → option_map_or test (slice_get (map signature_of p.functions) f) false ≡ true
function-passes p test name f e =
    let a = then_some (find name (function_names p)) (λ k. number_if (option_map_or (λ g. test (signature_of g)) (slice_get p.functions k) false) k) f e in
    let b = number_if-some (option_map_or (λ g. test (signature_of g)) (slice_get p.functions a.0) false) a.0 f a.2 in
    let moved : option_map_or (λ g. test (signature_of g)) (slice_get p.functions f) false ≡ true = ap (λ k. option_map_or (λ g. test (signature_of g)) (slice_get p.functions k) false) (sym b.1) ∙ b.0 in
    ap (λ o. option_map_or test o false) (slice_get-map signature_of p.functions f) ∙ (by (slice_get p.functions f) ∙ moved)
  where
    by : (o : Option Function) → option_map_or test (option_map signature_of o) false ≡ option_map_or (λ g. test (signature_of g)) o false
    by None = refl
    by (Some g) = refl

-- such a handler as the pairing of two programs may have
abbrev pub is_good : Program → List (Option ℕ) → Handler → Bool
is_good new pairs h =
    is_some (slice_get new.types.structs h.form) && option_map_or (takes_forms new.types h.form (entry_at pairs h.structure)) (slice_get (map signature_of new.functions) h.function) false

some-within : {A : Type 0} (xs : List A) (k : ℕ) → k < length xs → is_some (slice_get xs k) ≡ true
some-within [] k low = absurd (omega arith)
some-within (x ∷ xs) k low = ap is_some (slice_get-get_or (x ∷ xs) k x low)

unless-ok : (b : Bool) (name : Text) (g h : Handler) → handler_unless b name g ≡ Ok h → (b ≡ false) × (g ≡ h)
unless-ok true name g h e = absurd (cc)
unless-ok false name g h e = (refl, cc)

-- what is known of a handler that is found
pub record IsFound (new : Program) (pairs : List (Option ℕ)) (earlier : List Handler) (h : Handler) : Type 0 where
  pub good : is_good new pairs h ≡ true
  pub other : has_handler earlier h.structure ≡ false

module _ (old new : Program) (pairs : List (Option ℕ)) where
  found : (earlier : List Handler) (p : Planned.Handler) (h : Handler) → handler_of old new pairs earlier p ≡ Ok h → IsFound new pairs earlier h
  found earlier p h e =
      let last : (s : ℕ) → (form : ℕ) → (f : ℕ) → Result Handler ResolveError = λ s form f. handler_unless (has_handler earlier s) p.old (record { structure = s; form = form; function = f }) in
      let third = λ (s : ℕ) (form : ℕ). then_do (or_nosuch kind.Handler p.function (function_where new (takes_forms new.types form (entry_at pairs s)) p.function)) (last s form) in
      let second = λ (s : ℕ). then_do (or_nosuch kind.Handler p.old_form (find p.old_form (struct_names new))) (third s) in
      let a = then_ok (or_nosuch kind.Handler p.old (paired_struct old pairs p.old)) second h e in
      let b = then_ok (or_nosuch kind.Handler p.old_form (find p.old_form (struct_names new))) (third a.0) h a.2 in
      let c = then_ok (or_nosuch kind.Handler p.function (function_where new (takes_forms new.types b.0 (entry_at pairs a.0)) p.function)) (last a.0 b.0) h b.2 in
      let d = unless-ok (has_handler earlier a.0) p.old (record { structure = a.0; form = b.0; function = c.0 }) h c.2 in
      let form_low : b.0 < length new.types.structs =
      omega (arith, find-within p.old_form (struct_names new) b.0 (or_nosuch-ok kind.Handler p.old_form (find p.old_form (struct_names new)) b.0 b.1), length-map {B = Option (List ℕ)} new.types.structs (λ (t : TagDef). slice_get new.names t.tag)) in
      let passes = function-passes new (takes_forms new.types b.0 (entry_at pairs a.0)) p.function c.0
      (or_nosuch-ok kind.Handler p.function (function_where new (takes_forms new.types b.0 (entry_at pairs a.0)) p.function) c.0 c.1) in
      let made : IsFound new pairs earlier (record { structure = a.0; form = b.0; function = c.0 }) = record {
        good = both (is_some (slice_get new.types.structs b.0)) _ (some-within new.types.structs b.0 form_low) passes;
        other = d.0;
      } in
      let P : Handler → Type 0 = λ x. IsFound new pairs earlier x in
      subst P d.1 made

  distinct-behind : (hs : List Handler) (h : Handler) → are_distinct hs ≡ true → has_handler hs h.structure ≡ false → are_distinct (hs ++ h ∷ []) ≡ true
  distinct-behind [] h distinct other = refl
  distinct-behind (g ∷ gs) h distinct other =
      let here : nat_eq g.structure h.structure ≡ false = first_not (nat_eq g.structure h.structure) (has_handler gs h.structure) other in
      let none : list_any (λ (x : Handler). nat_eq x.structure g.structure) gs ≡ false =
      by (list_any (λ (x : Handler). nat_eq x.structure g.structure) gs) (and_left (not (list_any (λ (x : Handler). nat_eq x.structure g.structure) gs)) _ distinct) in
      let all : list_any (λ (x : Handler). nat_eq x.structure g.structure) (gs ++ h ∷ []) ≡ false =
      list_any-append (λ (x : Handler). nat_eq x.structure g.structure) gs (h ∷ [])
      ∙ neither (list_any (λ (x : Handler). nat_eq x.structure g.structure) gs) _ none
      (neither (nat_eq h.structure g.structure) false (nat_eq-sym h.structure g.structure ∙ here) refl) in
      both (not (list_any (λ (x : Handler). nat_eq x.structure g.structure) (gs ++ h ∷ []))) _ (ap not all)
      (distinct-behind gs h (and_right (not (list_any (λ (x : Handler). nat_eq x.structure g.structure) gs)) _ distinct)
      (second_not (nat_eq g.structure h.structure) (has_handler gs h.structure) other))
    where
      by : (b : Bool) → not b ≡ true → b ≡ false
      by true e = absurd (cc)
      by false e = refl

  -- handlers that are found one after another are such, and of different structs
  pub handlers-good : (done : List Handler) (ps : List Planned.Handler) (out : List Handler) → list_all (is_good new pairs) done ≡ true → are_distinct done ≡ true
      → handlers_onto old new pairs done ps ≡ Ok out → (list_all (is_good new pairs) out ≡ true) × (are_distinct out ≡ true)
  handlers-good done [] out good distinct e =
      let same : done ≡ out = cc in
      (ap (list_all (is_good new pairs)) (sym same) ∙ good, ap are_distinct (sym same) ∙ distinct)
  handlers-good done (p ∷ ps) out good distinct e =
      let a = then_ok (handler_of old new pairs done p) (λ h. handlers_onto old new pairs (done ++ h ∷ []) ps) out e in
      let is = found done p a.0 a.1 in
      handlers-good (done ++ a.0 ∷ []) ps out
      (list_all-append (is_good new pairs) done (a.0 ∷ []) ∙ both (list_all (is_good new pairs) done) _ good (both (is_good new pairs a.0) true is.good refl))
      (distinct-behind done a.0 distinct is.other) a.2

-- the function that is called last has no parameters and no result
pub last-good : (new : Program) (name : Option Text) (f : Option ℕ) → last_of new name ≡ Ok f
    → (n : ℕ) → f ≡ Some n → option_map_or is_plain (slice_get (map signature_of new.functions) n) false ≡ true
last-good new None f e n is = absurd (let none : let r : Result (Option ℕ) ResolveError = Ok None in r ≡ Ok f = e in let eq : Some n ≡ f = sym is in cc)
last-good new (Some name) f e n is =
    let a = then_ok (or_nosuch kind.After name (function_where new is_plain name)) (λ k. Ok (Some k)) f e in
    let same : a.0 ≡ n = cc in
    function-passes new is_plain name n (or_nosuch-ok kind.After name (function_where new is_plain name) a.0 a.1 ∙ ap Some same)
