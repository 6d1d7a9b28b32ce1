-- The machine takes the code of a source.
use Rattle.std.proofs.Common.{◌≡◌, ◌∙◌, refl, sym, ap, subst, ℕ, zero, suc, ◌+◌, ◌-◌, ◌<◌, ◌≤◌, Bool, true, false, ◌||◌, cond, nat_eq, nat_lt, nat_le, List, [], ◌∷◌, ◌++◌, length, map, Option, Some, None, slice_get, codes, length-append, arith}
use Rattle.std.specs.List.{list_all, list_any}
use Rattle.std.proofs.lemmas.List.{length-map}
use Rattle.std.proofs.lemmas.Option.{slice_get_within}
use Rattle.std.proofs.lemmas.Bool.Decides.{nat_tests}
use Rattle.c_types.specs.declared.parts.Parts.{Parts}
use Rattle.c_types.specs.declared.parts.Signature.{Signature}
use Rattle.c_types.specs.declared.parts.TagDef.{TagDef}
use Rattle.c_types.specs.declared.parts.Ty.{Ty}
use Rattle.c_types.specs.Layout.{greatest, size_of}
use Rattle.src_tree.specs.declared.expr.TypedExpr.{TypedExpr}
use Rattle.src_tree.specs.declared.program.Function.{Function}
use Rattle.src_tree.specs.declared.program.Global as Text
use Rattle.src_tree.specs.declared.program.Program.{Program}
use Rattle.src_tree.specs.declared.program.Site.{Site}
use Rattle.src_tree.specs.Signatures.{same_numbers, same_result}
use Rattle.src_meaning.specs.Valid.{is_few, is_tag, are_tags, is_field, is_global, are_globals, are_within, has_messages, is_function, has_few_locals, is_signature_known, is_handler, has_handlers, is_empty, is_nothing, is_object_site, is_body}
use Rattle.src_meaning.specs.ValidNames.{is_name, is_free, is_called}
use Rattle.src_meaning.specs.ValidNumbering.{are_in_order, is_numbered}
use Rattle.src_meaning.specs.ValidTable.{has_types}
use Rattle.src_meaning.specs.ValidTypes.{is_declared_object, is_declared_object_in, is_starred, greatest_params, greatest_stars}
use Rattle.src_meaning.proofs.LayoutLengths.{and_left, and_right}
use Rattle.bm_code.specs.Accepted.{AreNamed, IsAcceptedFunction, IsAcceptedGlobal, IsAcceptedSite, IsAccepted, global_bytes}
use Rattle.cg_stmt.specs.Functions.{is_signature, signature_number, machine_function, filter_function}
use Rattle.cg_program.specs.Compiled.{Source, IsSource, target_of, machine_global, machine_site, machine_functions, machine_code}
use Rattle.cg_program.proofs.InitialLengths.{global_whole}
use Rattle.cg_program.proofs.Rules.{at_most, few_entries, types_valid, globals_valid, functions_valid}

below : (a b : ℕ) → nat_lt a b ≡ true → a < b
below a b h = grind (arith, nat_tests, h)

-- what holds of all holds of each
each : {A : Type 0} (test : A → Bool) (xs : List A) (k : ℕ) (x : A) → list_all test xs ≡ true → slice_get xs k ≡ Some x → test x ≡ true
each test [] k x h e = cc
each test (y ∷ xs) zero x h e = let same : y ≡ x = cc in ap test (sym same) ∙ and_left (test y) (list_all test xs) h
each test (y ∷ xs) (suc k) x h e = each test xs k x (and_right (test y) (list_all test xs) h) e

-- of what holds of some, there is one
record Found {A : Type 0} (test : A → Bool) (xs : List A) : Type 0 where
  at : ℕ
  entry : A
  is : slice_get xs at ≡ Some entry
  holds : test entry ≡ true

find : {A : Type 0} (test : A → Bool) (xs : List A) → list_any test xs ≡ true → Found test xs
find test [] h = cc
find test (x ∷ xs) h = by (test x) refl h (find test xs)
  where
    later : Found test xs → Found test (x ∷ xs)
    later f = record { at = suc f.at; entry = f.entry; is = f.is; holds = f.holds }

    by : (b : Bool) → test x ≡ b → b || list_any test xs ≡ true → (list_any test xs ≡ true → Found test xs) → Found test (x ∷ xs)
    by true e h rest = record { at = 0; entry = x; is = refl; holds = e }
    by false e h rest = later (rest h)

in_map : {A B : Type 0} (f : A → B) (P : B → Type 0) (xs : List A) → ((k : ℕ) (x : A) → slice_get xs k ≡ Some x → P (f x)) → (k : ℕ) (y : B) → slice_get (map f xs) k ≡ Some y → P y
in_map f P [] all k y e = cc
in_map f P (x ∷ xs) all zero y e = let same : f x ≡ y = cc in subst P same (all 0 x refl)
in_map f P (x ∷ xs) all (suc k) y e = in_map f P xs (λ k x h. all (suc k) x h) k y e

in_both : {B : Type 0} (P : B → Type 0) (xs ys : List B) → ((k : ℕ) (x : B) → slice_get xs k ≡ Some x → P x) → ((k : ℕ) (y : B) → slice_get ys k ≡ Some y → P y) → (k : ℕ) (z : B) → slice_get (xs ++ ys) k ≡ Some z → P z
in_both P [] ys one alt k z e = alt k z e
in_both P (x ∷ xs) ys one alt zero z e = one 0 z e
in_both P (x ∷ xs) ys one alt (suc k) z e = in_both P xs ys (λ k x h. one (suc k) x h) alt k z e

numbers_long : (xs ys : List ℕ) → same_numbers xs ys ≡ true → length xs ≡ length ys
numbers_long [] [] h = refl
numbers_long [] (y ∷ ys) h = cc
numbers_long (x ∷ xs) [] h = cc
numbers_long (x ∷ xs) (y ∷ ys) h = let rest = numbers_long xs ys (and_right (nat_eq x y) (same_numbers xs ys) h) in omega (arith, rest)

-- where some signature has a result and parameters, that of the number does
record Signed (ss : List Signature) (ret : Option ℕ) (params : List ℕ) : Type 0 where
  signature : Signature
  has : slice_get ss (signature_number ss ret params) ≡ Some signature
  parameters : length params ≡ length signature.params

signed : (ss : List Signature) (ret : Option ℕ) (params : List ℕ) → list_any (λ s. is_signature s ret params) ss ≡ true → Signed ss ret params
signed [] ret params h = cc
signed (s ∷ ss) ret params h = by (is_signature s ret params) refl h (signed ss ret params)
  where
    by : (b : Bool) → is_signature s ret params ≡ b → b || list_any (λ s. is_signature s ret params) ss ≡ true → (list_any (λ s. is_signature s ret params) ss ≡ true → Signed ss ret params) → Signed (s ∷ ss) ret params
    by true e h below_it = record {
      signature = s;
      has = ap (λ b. slice_get (s ∷ ss) (cond b 0 (signature_number ss ret params + 1))) e;
      parameters = numbers_long params s.params (and_right (same_result ret s.result) (same_numbers params s.params) e);
    }
    by false e h below_it =
        let rest = below_it h in
        let more : signature_number ss ret params + 1 ≡ suc (signature_number ss ret params) = omega arith in
        record {
          signature = rest.signature;
          has = ap (λ b. slice_get (s ∷ ss) (cond b 0 (signature_number ss ret params + 1))) e ∙ ap (slice_get (s ∷ ss)) more ∙ rest.has;
          parameters = rest.parameters;
        }

-- a type that a text declares is in the table
starred_some : (p : Parts) (n : ℕ) (o : Option Ty) → is_starred p n o ≡ true → (ty : Ty) × (o ≡ Some ty)
starred_some p n None h = cc
starred_some p n (Some ty) h = (ty, refl)

object_some : (p : Parts) (room : ℕ) (o : Option Ty) → is_declared_object_in p room o ≡ true → (ty : Ty) × (o ≡ Some ty)
object_some p zero None h = cc
object_some p (suc room) None h = cc
object_some p room (Some ty) h = (ty, refl)

module _ (s : Source) (is : IsSource s) where
  abbrev p : Program
  p = s.program

  named : (n : ℕ) → is_free p.names n ≡ true → n < length p.names
  named n h = below n (length p.names) (and_left (is_name p.names n) _ h)

  tags_hold : are_tags p ≡ true
  tags_hold = and_left (are_tags p) _ (and_right (has_types p.types) _ (types_valid p is.valid))

  tag_named : (t : TagDef) → is_tag p t ≡ true → AreNamed (length p.names) t
  tag_named t h = record {
    tag_named = below t.tag (length p.names) (and_left (is_name p.names t.tag) _ h);
    fields = λ k f e. below f.name (length p.names) (and_left (is_name p.names f.name) _ (each (is_field p) t.fields k f (and_right (is_few t.fields) _ (and_right (is_name p.names t.tag) _ h)) e));
  }

  function_holds : (k : ℕ) (f : Function) → slice_get p.functions k ≡ Some f → is_function p f ≡ true
  function_holds k f e =
      each (is_function p) p.functions k f (and_left (list_all (is_function p) p.functions) _ (and_right (is_few p.functions) _ (functions_valid p is.valid))) e

  signature_of : (f : Function) → is_function p f ≡ true → Signed p.types.signatures f.ret f.params
  signature_of f h =
      let known = and_left (is_signature_known p f) (is_body p f) (and_right _ _ (and_right _ _ (and_right (has_few_locals f) _ (and_right (is_free p.names f.name) _ h)))) in
      signed p.types.signatures f.ret f.params known

  function_accepted : (k : ℕ) (f : Function) → slice_get p.functions k ≡ Some f → IsAcceptedFunction (machine_code s) (machine_function (target_of p) f)
  function_accepted k f e =
      let h = function_holds k f e in
      let g = signature_of f h in
      let name = named f.name (and_left (is_free p.names f.name) _ h) in
      let few = and_left (has_few_locals f) _ (and_right (is_free p.names f.name) _ h) in
      let locals = at_most (length f.params + length f.locals) 256 (and_right (nat_le (length f.params) greatest_params) _ few) in
      let params = g.parameters in
      record {
        name = omega (arith, name);
        signature = g.signature;
        has = g.has;
        parameters = omega (arith, params);
        locals = locals;
        height = omega arith;
      }

  -- `init` has the signature of a filter's function
  handler_signed : Signed p.types.signatures None []
  handler_signed =
      let handlers = and_left (has_handlers p) _ (and_right (list_all (is_function p) p.functions) _ (and_right (is_few p.functions) _ (functions_valid p is.valid))) in
      let init = find (is_handler p (codes "init")) p.functions (and_left (list_any (is_handler p (codes "init")) p.functions) _ handlers) in
      let plain = and_right (is_called p.names init.entry.name (codes "init")) _ init.holds in
      let none = no_result init.entry.ret (and_right (is_empty init.entry.params) _ plain) in
      let nothing = no_params init.entry.params (and_left (is_empty init.entry.params) _ plain) in
      let g = signature_of init.entry (function_holds init.at init.entry init.is) in
      subst (λ r. Signed p.types.signatures r []) none (subst (λ l. Signed p.types.signatures init.entry.ret l) nothing g)
    where
      no_result : (r : Option ℕ) → is_nothing r ≡ true → r ≡ None
      no_result None h = refl
      no_result (Some t) h = cc

      no_params : (l : List ℕ) → is_empty l ≡ true → l ≡ []
      no_params [] h = refl
      no_params (x ∷ l) h = cc

  filter_accepted : (e : TypedExpr) → IsAcceptedFunction (machine_code s) (filter_function (target_of p) (length p.names) e)
  filter_accepted e =
      let g = handler_signed in
      let params = g.parameters in
      record {
        name = omega arith;
        signature = g.signature;
        has = g.has;
        parameters = omega (arith, params);
        locals = omega arith;
        height = omega arith;
      }

  functions_long : length (machine_functions s) ≡ length p.functions + length s.filters
  functions_long =
      length-append (map (machine_function (target_of p)) p.functions) (map (filter_function (target_of p) (length p.names)) s.filters)
      ∙ ap (λ n. n + length (map (filter_function (target_of p) (length p.names)) s.filters)) (length-map p.functions (machine_function (target_of p)))
      ∙ ap (λ n. length p.functions + n) (length-map s.filters (filter_function (target_of p) (length p.names)))

  few_functions : length p.functions ≤ 4096
  few_functions = at_most (length p.functions) 4096 (and_left (is_few p.functions) _ (functions_valid p is.valid))

  globals_hold : are_globals p 0 p.globals ≡ true
  globals_hold =
      and_left (are_globals p 0 p.globals) _ (and_right (has_messages p p.globals) _ (and_right (is_few p.globals) _ (globals_valid p is.valid)))

  globals_fit : are_within p greatest p.globals ≡ true
  globals_fit =
      and_right (are_globals p 0 p.globals) _ (and_right (has_messages p p.globals) _ (and_right (is_few p.globals) _ (globals_valid p is.valid)))

  whole : (g : ℕ) (d : Text.Global) → is_global p g d ≡ true → length (machine_global p d).bytes ≡ size_of p.types d.ty
  whole g d h = global_whole p is.valid.built g d (and_right (is_declared_object p.types 65 d.ty) _ (and_right (is_free p.names d.name) _ h))

  global_accepted : (g : ℕ) (ds : List Text.Global) → are_globals p g ds ≡ true → (k : ℕ) (d : Text.Global) → slice_get ds k ≡ Some d → IsAcceptedGlobal (machine_code s) (machine_global p d)
  global_accepted g [] h k d e = cc
  global_accepted g (c ∷ ds) h (suc k) d e = global_accepted (g + 1) ds (and_right (is_global p g c) _ h) k d e
  global_accepted g (c ∷ ds) h zero d e =
      let same : c ≡ d = cc in
      let here : is_global p g d ≡ true = ap (is_global p g) (sym same) ∙ and_left (is_global p g c) _ h in
      let declared = and_left (is_declared_object p.types 65 d.ty) _ (and_right (is_free p.names d.name) _ here) in
      let ty = object_some p.types 65 (slice_get p.types.types d.ty) declared in
      record {
        name = named d.name (and_left (is_free p.names d.name) _ here);
        known = slice_get_within p.types.types d.ty ty.0 ty.1;
        whole = whole g d here;
      }

  bytes_within : (g room : ℕ) (ds : List Text.Global) → are_globals p g ds ≡ true → are_within p room ds ≡ true → global_bytes (map (machine_global p) ds) ≤ room
  bytes_within g room [] h w = omega arith
  bytes_within g room (d ∷ ds) h w =
      let here = whole g d (and_left (is_global p g d) _ h) in
      let fits = at_most (size_of p.types d.ty) room (and_left (nat_le (size_of p.types d.ty) room) _ w) in
      let rest = bytes_within (g + 1) (room - size_of p.types d.ty) ds (and_right (is_global p g d) _ h) (and_right (nat_le (size_of p.types d.ty) room) _ w) in
      omega (arith, here, fits, rest)

  site_accepted : (k : ℕ) (d : Site) → slice_get p.sites k ≡ Some d → IsAcceptedSite (machine_code s) (machine_site d)
  site_accepted k d e =
      let on = and_right (has_handlers p) _ (and_right (list_all (is_function p) p.functions) _ (and_right (is_few p.functions) _ (functions_valid p is.valid))) in
      let named_type = each (is_object_site p) p.sites k d (and_left (list_all (is_object_site p) p.sites) _ on) e in
      let ty = starred_some p.types greatest_stars (slice_get p.types.types d.elem) named_type in
      let numbered = and_right (list_all (is_object_site p) p.sites) (is_numbered p.sites p.functions) on in
      let function : d.function < length p.functions = below d.function (length p.functions) (each (λ (d : Site). nat_lt d.function (length p.functions)) p.sites k d (and_left (list_all (λ (d : Site). nat_lt d.function (length p.functions)) p.sites) _ (and_right (are_in_order None p.sites) _ numbered)) e) in
      let long = functions_long in
      record {
        function = omega (arith, function, long);
        known = slice_get_within p.types.types d.elem ty.0 ty.1;
      }

  -- the machine's program of a source is one that the machine takes
  pub accepted : IsAccepted (machine_code s)
  accepted =
      let long = functions_long in
      let few = few_functions in
      let filters = is.few in
      record {
        structs = λ k t e. tag_named t (each (is_tag p) p.types.structs k t (and_left (list_all (is_tag p) p.types.structs) _ tags_hold) e);
        unions = λ k t e. tag_named t (each (is_tag p) p.types.unions k t (and_right (list_all (is_tag p) p.types.structs) _ tags_hold) e);
        functions = in_both (IsAcceptedFunction (machine_code s)) _ _ (in_map (machine_function (target_of p)) (IsAcceptedFunction (machine_code s)) p.functions function_accepted) (in_map (filter_function (target_of p) (length p.names)) (IsAcceptedFunction (machine_code s)) s.filters (λ k e h. filter_accepted e));
        function_count = omega (arith, long, few, filters);
        globals = in_map (machine_global p) (IsAcceptedGlobal (machine_code s)) p.globals (global_accepted 0 p.globals globals_hold);
        global_count = let n = length-map p.globals (machine_global p) in let few = at_most (length p.globals) 4096 (and_left (is_few p.globals) _ (globals_valid p is.valid)) in omega (arith, n, few);
        global_size = let fits = bytes_within 0 greatest p.globals globals_hold globals_fit in omega (arith, fits);
        sites = in_map machine_site (IsAcceptedSite (machine_code s)) p.sites site_accepted;
        site_count = let n = length-map p.sites machine_site in let few = at_most (length p.sites) 4096 (and_right (is_few p.types.unions) _ (and_right (is_few p.types.structs) _ (few_entries p is.valid))) in omega (arith, n, few);
        filter_count = filters;
        filters_last = omega (arith, long);
      }
