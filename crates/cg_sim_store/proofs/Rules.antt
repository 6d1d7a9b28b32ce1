-- What is known of the globals of a valid program.
use Rattle.std.proofs.Common.{◌≡◌, refl, subst, true, ◌&&◌, ℕ, zero, suc, ◌+◌, ◌<◌, ◌≤◌, List, [], ◌∷◌, length, Option, Some, None, arith}
use Rattle.std.specs.Prelude.{slice_get}
use Rattle.std.proofs.lemmas.Option.{slice_get_within}
use Rattle.std.proofs.lemmas.Bool.Decides.{nat_tests}
use Rattle.c_types.specs.declared.parts.Parts.{Parts}
use Rattle.c_types.specs.declared.parts.Ty.{Ty}
use Rattle.src_tree.specs.declared.program.Global as Text
use Rattle.src_tree.specs.declared.program.Program.{Program}
use Rattle.src_meaning.specs.Valid.{IsValid, is_few, is_global, are_globals, are_within, has_few_entries, has_messages, has_valid_types, has_valid_globals, has_valid_functions}
use Rattle.src_meaning.specs.ValidInitialiser.{is_start}
use Rattle.src_meaning.specs.ValidNames.{are_names, names_differ, is_free}
use Rattle.src_meaning.specs.ValidTypes.{is_declared_object, is_declared_object_in}
use Rattle.src_meaning.proofs.LayoutLengths.{and_left, and_right}

global_at : (p : Program) (i : ℕ) (gs : List Text.Global) (k : ℕ) (g : Text.Global) → are_globals p i gs ≡ true → slice_get gs k ≡ Some g → is_global p (i + k) g ≡ true
global_at p i [] k g h e = absurd (cc)
global_at p i (d ∷ gs) zero g h e =
    let same : d ≡ g = cc in
    let here : i ≡ i + 0 = omega arith in
    subst (λ n. is_global p n g ≡ true) here (subst (λ d. is_global p i d ≡ true) same (and_left (is_global p i d) (are_globals p (i + 1) gs) h))
global_at p i (d ∷ gs) (suc k) g h e =
    let there : i + 1 + k ≡ i + suc k = omega arith in
    subst (λ n. is_global p n g ≡ true) there (global_at p (i + 1) gs k g (and_right (is_global p i d) (are_globals p (i + 1) gs) h) e)

-- a type that a global may have is a type of the table
declared_known : (p : Parts) (t : ℕ) → is_declared_object p 65 t ≡ true → t < length p.types
declared_known p t h = by (slice_get p.types t) refl h
  where
    by : (o : Option Ty) → slice_get p.types t ≡ o → is_declared_object_in p 65 o ≡ true → t < length p.types
    by None e h = absurd (cc)
    by (Some ty) e h = slice_get_within p.types t ty e

module _ (p : Program) (valid : IsValid p) where
  rules : has_valid_globals p ≡ true
  rules =
      let last = has_valid_globals p && has_valid_functions p in
      let types = has_valid_types p && last in
      let differ = names_differ p.globals p.functions && types in
      let few = has_few_entries p && differ in
      and_left (has_valid_globals p) (has_valid_functions p) (and_right (has_valid_types p) last (and_right (names_differ p.globals p.functions) types (and_right (has_few_entries p) differ (and_right (are_names p.names) few valid.rules))))

  last_rules : are_globals p 0 p.globals && are_within p 1048576 p.globals ≡ true
  last_rules = and_right (has_messages p p.globals) _ (and_right (is_few p.globals) _ rules)

  pub few_globals : length p.globals ≤ 4096
  few_globals = let few = and_left (is_few p.globals) _ rules in grind (arith, nat_tests, few)

  pub within_size : are_within p 1048576 p.globals ≡ true
  within_size = and_right (are_globals p 0 p.globals) _ last_rules

  pub messages_valid : has_messages p p.globals ≡ true
  messages_valid = and_left (has_messages p p.globals) _ (and_right (is_few p.globals) _ rules)

  module _ (k : ℕ) (g : Text.Global) (at : slice_get p.globals k ≡ Some g) where
    is_valid_global : is_global p k g ≡ true
    is_valid_global =
        let same : 0 + k ≡ k = omega arith in
        subst (λ n. is_global p n g ≡ true) same (global_at p 0 p.globals k g (and_left (are_globals p 0 p.globals) (are_within p 1048576 p.globals) last_rules) at)

    pub global_known : g.ty < length p.types.types
    global_known = declared_known p.types g.ty (and_left (is_declared_object p.types 65 g.ty) _ (and_right (is_free p.names g.name) _ is_valid_global))

    pub global_starts : is_start p k g.ty g.init ≡ true
    global_starts = and_right (is_declared_object p.types 65 g.ty) _ (and_right (is_free p.names g.name) _ is_valid_global)
