-- What is known of a valid program.
use Rattle.std.proofs.Common.{◌||◌, ◌≡◌, ◌∙◌, refl, ap, sym, Bool, true, false, ◌&&◌, cond, ℕ, zero, suc, ◌+◌, ◌^◌, ◌<◌, ◌≤◌, List, [], ◌∷◌, length, Some, None, arith, nat_lt, nat_le}
use Rattle.std.specs.Prelude.{slice_get}
use Rattle.std.specs.List.{list_all, list_any}
use Rattle.std.proofs.lemmas.Bool.Decides.{nat_tests}
use Rattle.c_types.specs.declared.parts.Signature.{Signature}
use Rattle.c_types.specs.Layout.{size_of}
use Rattle.src_tree.specs.declared.program.Function.{Function}
use Rattle.src_tree.specs.declared.program.Site.{Site}
use Rattle.src_tree.specs.declared.program.Program.{Program}
use Rattle.src_tree.specs.Signatures.{has_signature, same_numbers, same_result}
use Rattle.src_meaning.specs.Valid.{IsValid, is_function, is_signature, has_few_locals, is_signature_known, is_body, declarations_of, has_few_entries, has_valid_types, has_valid_globals, has_valid_functions, has_handlers, has_messages, is_object_site, are_tags, is_few, greatest_count}
use Rattle.src_meaning.specs.ValidNumbering.{are_in_order, is_numbered}
use Rattle.src_meaning.specs.ValidTypes.{is_scalar, is_result, is_named, is_declared_scalar}
use Rattle.src_meaning.specs.ValidTable.{has_types}
use Rattle.src_meaning.specs.ValidNames.{are_names, names_differ}
use Rattle.src_meaning.specs.ValidStatement.{are_statements}
use Rattle.src_meaning.proofs.LayoutLengths.{and_left, and_right}
use Rattle.cg_sim.proofs.Locals.{locals_scalar, numbered_at, named_known, named_size}
use Rattle.cg_stmt.specs.Functions.{signature_number}
use Rattle.cg_sim.proofs.Stacks.{numbers_same, results_same}

all_at : {A : Type 0} (f : A → Bool) (xs : List A) (n : ℕ) (x : A) → list_all f xs ≡ true → slice_get xs n ≡ Some x → f x ≡ true
all_at f [] n x h e = absurd (cc)
all_at f (y ∷ xs) zero x h e = let same : y ≡ x = cc in ap f (sym same) ∙ and_left (f y) (list_all f xs) h
all_at f (y ∷ xs) (suc n) x h e = all_at f xs n x (and_right (f y) (list_all f xs) h) e

at_most : (a b : ℕ) → nat_le a b ≡ true → a ≤ b
at_most a b h = grind (arith, nat_tests, h)

-- the first of these signatures that the function has
pub record Signed (f : Function) (gs : List Signature) : Type 0 where
  pub signature : Signature
  pub is : slice_get gs (signature_number gs f.ret f.params) ≡ Some signature
  pub result : signature.result ≡ f.ret
  pub params : signature.params ≡ f.params

found : (f : Function) (gs : List Signature) → list_any (has_signature f) gs ≡ true → Signed f gs
found f [] h = absurd (cc)
found f (s ∷ gs) h = by (λ q. found f gs q) (has_signature f s) refl h
  where
    by : (list_any (has_signature f) gs ≡ true → Signed f gs) → (b : Bool) → has_signature f s ≡ b → b || list_any (has_signature f) gs ≡ true → Signed f (s ∷ gs)
    by later true q h = record {
      signature = s;
      is = ap (λ b. slice_get (s ∷ gs) (cond b 0 (signature_number gs f.ret f.params + 1))) q;
      result = sym (results_same f.ret s.result (and_left (same_result f.ret s.result) (same_numbers f.params s.params) q));
      params = sym (numbers_same f.params s.params (and_right (same_result f.ret s.result) (same_numbers f.params s.params) q));
    }
    by later false q h =
        let r = later h in
        let up : signature_number gs f.ret f.params + 1 ≡ suc (signature_number gs f.ret f.params) = omega arith in
        record {
          signature = r.signature;
          is = ap (λ b. slice_get (s ∷ gs) (cond b 0 (signature_number gs f.ret f.params + 1))) q ∙ (ap (slice_get (s ∷ gs)) up ∙ r.is);
          result = r.result;
          params = r.params;
        }

-- the parts of the rules
module _ (p : Program) (valid : IsValid p) where
  rules_2 : has_few_entries p && (names_differ p.globals p.functions && (has_valid_types p && (has_valid_globals p && has_valid_functions p))) ≡ true
  rules_2 = and_right (are_names p.names) _ valid.rules

  rules_4 : has_valid_types p && (has_valid_globals p && has_valid_functions p) ≡ true
  rules_4 = and_right (names_differ p.globals p.functions) _ (and_right (has_few_entries p) _ rules_2)

  pub signature_valid : (n : ℕ) (s : Signature) → slice_get p.types.signatures n ≡ Some s → is_signature p.types s ≡ true
  signature_valid n s e =
      all_at (is_signature p.types) p.types.signatures n s (and_right (are_tags p) _ (and_right (has_types p.types) _ (and_left (has_valid_types p) _ rules_4))) e

  functions : list_all (is_function p) p.functions ≡ true
  functions =
      let f = and_right (has_valid_globals p) (has_valid_functions p) (and_right (has_valid_types p) _ rules_4) in
      and_left (list_all (is_function p) p.functions) _ (and_right (is_few p.functions) _ f)

  last_rules : list_all (is_object_site p) p.sites && is_numbered p.sites p.functions ≡ true
  last_rules =
      let f = and_right (has_valid_globals p) (has_valid_functions p) (and_right (has_valid_types p) _ rules_4) in
      and_right (has_handlers p) _ (and_right (list_all (is_function p) p.functions) _ (and_right (is_few p.functions) _ f))

  pub site_size : (n : ℕ) (s : Site) → slice_get p.sites n ≡ Some s → 0 < size_of p.types s.elem
  site_size n s e =
      named_size p valid.built s.elem (all_at (is_object_site p) p.sites n s (and_left (list_all (is_object_site p) p.sites) _ last_rules) e)

  pub site_known : (n : ℕ) (s : Site) → slice_get p.sites n ≡ Some s → s.elem < length p.types.types
  site_known n s e =
      named_known p s.elem (all_at (is_object_site p) p.sites n s (and_left (list_all (is_object_site p) p.sites) _ last_rules) e)

  pub messages_valid : has_messages p p.globals ≡ true
  messages_valid =
      let g = and_left (has_valid_globals p) (has_valid_functions p) (and_right (has_valid_types p) _ rules_4) in
      and_left (has_messages p p.globals) _ (and_right (is_few p.globals) _ g)

  pub few_functions : length p.functions < 2 ^ 31
  few_functions =
      let f = and_right (has_valid_globals p) (has_valid_functions p) (and_right (has_valid_types p) _ rules_4) in
      let n = at_most (length p.functions) greatest_count (and_left (is_few p.functions) _ f) in
      omega (arith, n)

  -- what stands in a function's rules after its name
  after_name : (g : ℕ) (gd : Function) → slice_get p.functions g ≡ Some gd → has_few_locals gd && (is_result p.types gd.ret && (list_all (is_declared_scalar p.types 64) gd.params && (is_signature_known p gd && is_body p gd))) ≡ true
  after_name g gd e = and_right _ _ (all_at (is_function p) p.functions g gd functions e)

  pub few_params : (g : ℕ) (gd : Function) → slice_get p.functions g ≡ Some gd → length gd.params ≤ 64
  few_params g gd e = at_most (length gd.params) 64 (and_left (nat_le (length gd.params) 64) _ (and_left (has_few_locals gd) _ (after_name g gd e)))

  pub few_in_signature : (n : ℕ) (s : Signature) → slice_get p.types.signatures n ≡ Some s → length s.params ≤ 64
  few_in_signature n s e =
      at_most (length s.params) 64 (and_left (nat_le (length s.params) 64) _ (and_right (is_result p.types s.result) _ (signature_valid n s e)))

  pub result_scalar : (g : ℕ) (gd : Function) (u : ℕ) → slice_get p.functions g ≡ Some gd → gd.ret ≡ Some u → is_scalar (slice_get p.types.types u) ≡ true
  result_scalar g gd u e q =
      let r = and_left (is_result p.types gd.ret) _ (and_right (has_few_locals gd) _ (after_name g gd e)) in
      and_right (is_named p.types u) (is_scalar (slice_get p.types.types u)) (ap (is_result p.types) (sym q) ∙ r)

  pub body_valid : (g : ℕ) (gd : Function) → slice_get p.functions g ≡ Some gd → are_statements (declarations_of p gd) gd.ret false 63 gd.body ≡ true
  body_valid g gd e =
      and_right (is_signature_known p gd) (is_body p gd) (and_right (list_all (is_declared_scalar p.types 64) gd.params) _ (and_right (is_result p.types gd.ret) _ (and_right (has_few_locals gd) _ (after_name g gd e))))

  pub locals_valid : (g : ℕ) (gd : Function) → slice_get p.functions g ≡ Some gd → list_all (λ u. is_scalar (slice_get p.types.types u)) gd.locals ≡ true
  locals_valid g gd e =
      let numbered = and_right (list_all (λ s. nat_lt s.function (length p.functions)) p.sites) _ (and_right (are_in_order None p.sites) _ (and_right (list_all (is_object_site p) p.sites) _ last_rules)) in
      locals_scalar p gd (0 + g) 63 (numbered_at p.sites 0 g p.functions gd numbered e) (body_valid g gd e)

  -- a function's signature stands in the table at the number that its code has
  pub signature_found : (g : ℕ) (gd : Function) → slice_get p.functions g ≡ Some gd → Signed gd p.types.signatures
  signature_found g gd e =
      found gd p.types.signatures (and_left (is_signature_known p gd) (is_body p gd) (and_right (list_all (is_declared_scalar p.types 64) gd.params) _ (and_right (is_result p.types gd.ret) _ (and_right (has_few_locals gd) _ (after_name g gd e)))))

  -- its parameters are scalars
  pub params_valid : (g : ℕ) (gd : Function) → slice_get p.functions g ≡ Some gd → list_all (λ u. is_scalar (slice_get p.types.types u)) gd.params ≡ true
  params_valid g gd e = scalars gd.params (and_left (list_all (is_declared_scalar p.types 64) gd.params) _ (and_right (is_result p.types gd.ret) _ (and_right (has_few_locals gd) _ (after_name g gd e))))
    where
      scalars : (us : List ℕ) → list_all (is_declared_scalar p.types 64) us ≡ true → list_all (λ u. is_scalar (slice_get p.types.types u)) us ≡ true
      scalars [] h = refl
      scalars (u ∷ us) h =
          let one = and_left (is_declared_scalar p.types 64 u) (list_all (is_declared_scalar p.types 64) us) h in
          let here : is_scalar (slice_get p.types.types u) ≡ true = and_left (is_scalar (slice_get p.types.types u)) _ one in
          let rest = scalars us (and_right (is_declared_scalar p.types 64 u) (list_all (is_declared_scalar p.types 64) us) h) in
          cc
