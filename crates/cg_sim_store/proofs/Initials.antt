-- The initial value of a global has the global's type.
use Rattle.std.proofs.Common.{◌≡◌, ◌∙◌, refl, sym, ap, subst, ℕ, zero, suc, ◌+◌, ◌-◌, ◌<◌, ◌≤◌, Bool, true, false, ◌&&◌, cond, nat_eq, nat_lt, nat_le, List, [], ◌∷◌, length, map, replicate, Option, Some, None, Ok, Err, slice_get, arith}
use Rattle.std.specs.Prelude.{pos}
use Rattle.std.specs.List.{list_all}
use Rattle.std.specs.Option.{option_map_or}
use Rattle.std.proofs.lemmas.Option.{slice_get-map, slice_get_within}
use Rattle.std.proofs.lemmas.Bool.Decides.{nat_tests}
use Rattle.c_types.specs.declared.parts.FieldDef.{FieldDef}
use Rattle.c_types.specs.declared.parts.IntKind.{IntKind}
use Rattle.c_types.specs.declared.parts.Ty.{Ty}
use Rattle.c_types.specs.declared.parts.Ty.TheVariants as T
use Rattle.c_types.specs.Tables.{fields_of}
use Rattle.c_types.proofs.Numbered.{element_known, field_known}
use Rattle.src_tree.specs.declared.value.Value.{Value, Int, Struct, Array}
use Rattle.src_tree.specs.declared.value.Value.TheVariants.{outs-Struct, outs-Array}
use Rattle.src_tree.specs.declared.value.Store.{Store}
use Rattle.src_tree.specs.declared.expr.TypedExpr.{TypedExpr}
use Rattle.src_tree.specs.declared.program.Init.{Init, Zero, One, Text as Bytes_text, List', Row_of-Init, end_of-Init, more_of-Init}
use Rattle.src_tree.specs.declared.program.Global as Text
use Rattle.src_tree.specs.declared.program.Program.{Program}
use Rattle.src_meaning.specs.Paths.{zero_of}
use Rattle.src_meaning.specs.Objects.{Gives}
use Rattle.src_meaning.specs.Constant.{constant_value}
use Rattle.src_meaning.specs.Integers.{wrapped}
use Rattle.src_meaning.specs.ValidTypes.{is_scalar}
use Rattle.src_meaning.specs.ValidStatement.{has_depth}
use Rattle.src_meaning.specs.ValidInitialiser.{is_character, takes_bytes, item_type_in, item_type, is_constant_of, is_initialiser, are_items, is_start, initial_room, is_typed, has_value, is_before}
use Rattle.src_meaning.specs.Initial.{byte_in, item_types_in, item_types, composed_in, text_items, or_other, global_object, zero_globals, initial_scope, initial_value, initial_items, initial_object, initial_store}
use Rattle.src_meaning.specs.Store.{IsStore, has_type, layer_has_type, fields_have_types}
use Rattle.src_meaning.specs.Valid.{IsValid}
use Rattle.src_meaning.proofs.LayoutLengths.{and_left, and_right}
use Rattle.src_laws.proofs.ZeroValues.{zero_typed}
use Rattle.src_laws.proofs.Extended.{and_in, Extends, type_kept}
use Rattle.cg_state.proofs.Typed.{Typed, typed_is, typed_int}
use Rattle.cg_state.proofs.Words.{wrapped_held}
use Rattle.cg_sim_store.specs.Stores.{InitialIsStore}
use Rattle.cg_sim_store.proofs.Rules.{global_known, global_starts}
use Rattle.cg_sim_store.proofs.Starts.{globals_store}
use Rattle.cg_sim_store.proofs.Constants.{constant_typed}

module _ (p : Program) (valid : IsValid p) where
  abbrev zeros : Store
  zeros = zero_globals p

  abbrev Has : ℕ → Value → Type 0
  Has t v = Typed p valid.built zeros t v

  -- values of these types, in order
  abbrev Have : List ℕ → List Value → Type 0
  Have [] [] = Unit {0}
  Have (t ∷ ts) (v ∷ vs) = Has t v × Have ts vs
  Have _ _ = ⊥

  zero_has : (t : ℕ) → t < length p.types.types → Has t (zero_of p.types t)
  zero_has t lt = zero_typed p valid.built zeros t lt

  -- types of the table
  AreKnown : List ℕ → Type 0
  AreKnown ts = (j u : ℕ) → slice_get ts j ≡ Some u → u < length p.types.types

  zeros_have : (ts : List ℕ) → AreKnown ts → Have ts (map (zero_of p.types) ts)
  unfolding AreKnown
  zeros_have [] known = tt
  zeros_have (t ∷ ts) known = (zero_has t (known 0 t refl), zeros_have ts (λ j u e. known (suc j) u e))

  -- arrays and structs of values of their types
  items_have : (u n : ℕ) (vs : List Value) → Have (replicate n u) vs → nat_eq (length vs) n && list_all (has_type p zeros u) vs ≡ true
  items_have u zero [] h = refl
  items_have u zero (v ∷ vs) h = absurd h
  items_have u (suc n) [] h = absurd h
  items_have u (suc n) (v ∷ vs) h =
      let rest = items_have u n vs h.1 in
      let same : length vs ≡ n = let e = and_left (nat_eq (length vs) n) (list_all (has_type p zeros u) vs) rest in grind (arith, nat_tests, e) in
      let count : nat_eq (length (v ∷ vs)) (suc n) ≡ true = let e : length (v ∷ vs) ≡ suc n = omega (arith, same) in grind (arith, nat_tests, e) in
      and_in _ _ count (and_in (has_type p zeros u v) _ h.0 (and_right (nat_eq (length vs) n) (list_all (has_type p zeros u) vs) rest))

  fields_have : (fs : List FieldDef) (vs : List Value) → Have (map (λ (f : FieldDef). f.ty) fs) vs → fields_have_types (has_type p zeros) fs vs ≡ true
  fields_have [] [] h = refl
  fields_have [] (v ∷ vs) h = absurd h
  fields_have (f ∷ fs) [] h = absurd h
  fields_have (f ∷ fs) (v ∷ vs) h = and_in (has_type p zeros f.ty v) _ h.0 (fields_have fs vs h.1)

  module _ (t : ℕ) (lt : t < length p.types.types) where
    composed_has : (o : Option Ty) → slice_get p.types.types t ≡ o → (vs : List Value) → Have (item_types_in p.types o) vs → Has t (composed_in (zero_of p.types t) o vs)
    composed_has (Some (T.Array u n)) e vs h =
        typed_is p valid.built zeros t (T.Array u n) e (Array vs)
        ∙ (ap (λ l. layer_has_type p zeros (has_type p zeros) (T.Array u n) l) (outs-Array vs) ∙ items_have u n vs h)
    composed_has (Some (T.Struct n)) e vs h =
        typed_is p valid.built zeros t (T.Struct n) e (Struct vs)
        ∙ (ap (λ l. layer_has_type p zeros (has_type p zeros) (T.Struct n) l) (outs-Struct vs) ∙ fields_have (fields_of p.types n) vs h)
    composed_has None e vs h = zero_has t lt
    composed_has (Some (T.Int k)) e vs h = zero_has t lt
    composed_has (Some (T.Pointer u)) e vs h = zero_has t lt
    composed_has (Some T.VoidPointer) e vs h = zero_has t lt
    composed_has (Some (T.Function g)) e vs h = zero_has t lt
    composed_has (Some (T.Union u)) e vs h = zero_has t lt

  text_have : (u : ℕ) (kind : IntKind) → slice_get p.types.types u ≡ Some (T.Int kind) → (n : ℕ) (bytes : List ℕ) → length bytes ≤ n → Have (replicate n u) (text_items p.types (replicate n u) bytes)
  text_have u kind e zero [] h = tt
  text_have u kind e zero (b ∷ bs) h = absurd (omega arith)
  text_have u kind e (suc n) [] h = (zero_has u (slice_get_within p.types.types u (T.Int kind) e), text_have u kind e n [] (omega arith))
  text_have u kind e (suc n) (b ∷ bs) h =
      let character = typed_int p valid.built zeros u kind (wrapped kind (pos b)) e (wrapped_held kind (pos b)) in
      (subst (λ o. Has u (Int (byte_in o b))) (sym e) character, text_have u kind e n bs (omega (arith, h)))

  text_fits : (o : Option Ty) (bytes : List ℕ) → takes_bytes p.types o (length bytes) ≡ true → Have (item_types_in p.types o) (text_items p.types (item_types_in p.types o) bytes)
  text_fits (Some (T.Array u n)) bytes h =
      character (slice_get p.types.types u) refl (and_left (is_character (slice_get p.types.types u)) (nat_le (length bytes) n) h)
    where
      few : length bytes ≤ n
      few = let l = and_right (is_character (slice_get p.types.types u)) (nat_le (length bytes) n) h in grind (arith, nat_tests, l)

      character : (o : Option Ty) → slice_get p.types.types u ≡ o → is_character o ≡ true → Have (replicate n u) (text_items p.types (replicate n u) bytes)
      character (Some (T.Int kind)) q c = text_have u kind q n bytes few
      character None q c = cc
      character (Some (T.Pointer v)) q c = cc
      character (Some T.VoidPointer) q c = cc
      character (Some (T.Function g)) q c = cc
      character (Some (T.Struct s)) q c = cc
      character (Some (T.Union v)) q c = cc
      character (Some (T.Array v m)) q c = cc
  text_fits None bytes h = cc
  text_fits (Some (T.Int k)) bytes h = cc
  text_fits (Some (T.Pointer u)) bytes h = cc
  text_fits (Some T.VoidPointer) bytes h = cc
  text_fits (Some (T.Function g)) bytes h = cc
  text_fits (Some (T.Struct s)) bytes h = cc
  text_fits (Some (T.Union u)) bytes h = cc

  -- element or field k of a type by its number, and its type
  repeated : (n u j : ℕ) (t : ℕ) → slice_get (replicate n u) j ≡ Some t → u ≡ t
  repeated zero u j t e = cc
  repeated (suc n) u zero t e = cc
  repeated (suc n) u (suc j) t e = repeated n u j t e

  field_at : (fs : List FieldDef) (j u : ℕ) → slice_get (map (λ (f : FieldDef). f.ty) fs) j ≡ Some u → (f : FieldDef) × (slice_get fs j ≡ Some f) × (f.ty ≡ u)
  field_at [] j u e = cc
  field_at (f ∷ fs) zero u e = let same : f.ty ≡ u = cc in (f, refl, same)
  field_at (f ∷ fs) (suc j) u e = field_at fs j u e

  items_known : (t : ℕ) (o : Option Ty) → slice_get p.types.types t ≡ o → AreKnown (item_types_in p.types o)
  unfolding AreKnown
  items_known t (Some (T.Array u n)) e = λ j w q.
      let same = repeated n u j w q in
      subst (λ u. u < length p.types.types) same (element_known p.types valid.built.numbered t u n e)
  items_known t (Some (T.Struct s)) e = λ j w q.
      let f = field_at (fields_of p.types s) j w q in
      subst (λ u. u < length p.types.types) f.2 (field_known p.types valid.built.numbered s j f.0 f.1)
  items_known t None e = λ j w q. cc
  items_known t (Some (T.Int k)) e = λ j w q. cc
  items_known t (Some (T.Pointer u)) e = λ j w q. cc
  items_known t (Some T.VoidPointer) e = λ j w q. cc
  items_known t (Some (T.Function g)) e = λ j w q. cc
  items_known t (Some (T.Union u)) e = λ j w q. cc

  item_at : (o : Option Ty) (k : ℕ) → slice_get (item_types_in p.types o) k ≡ item_type_in p.types o k
  item_at None k = refl
  item_at (Some (T.Array u n)) k = in_array n k
    where
      in_array : (n k : ℕ) → slice_get (replicate n u) k ≡ cond (nat_lt k n) (Some u) None
      in_array zero k = let no : nat_lt k 0 ≡ false = grind (arith, nat_tests) in ap (λ b. cond b (Some u) None) (sym no)
      in_array (suc n) zero = let yes_it : nat_lt 0 (suc n) ≡ true = grind (arith, nat_tests) in ap (λ b. cond b (Some u) None) (sym yes_it)
      in_array (suc n) (suc k) = in_array n k ∙ ap (λ b. cond b (Some u) None) (same (nat_lt k n) refl)
        where
          same : (b : Bool) → nat_lt k n ≡ b → nat_lt k n ≡ nat_lt (suc k) (suc n)
          same true h = grind (arith, nat_tests)
          same false h = grind (arith, nat_tests)
  item_at (Some (T.Struct s)) k = slice_get-map (λ (f : FieldDef). f.ty) (fields_of p.types s) k
  item_at (Some (T.Int kind)) k = refl
  item_at (Some (T.Pointer u)) k = refl
  item_at (Some T.VoidPointer) k = refl
  item_at (Some (T.Function g)) k = refl
  item_at (Some (T.Union u)) k = refl

  -- a constant of the type
  constant_has : (g room t : ℕ) (e : TypedExpr) → room ≤ 64 → t < length p.types.types → is_constant_of p g t e && has_depth room e ≡ true → Has t (or_other (zero_of p.types t) (constant_value (initial_scope p) e))
  constant_has g room t e few lt h = by (constant_value (initial_scope p) e) refl
    where
      rules : is_constant_of p g t e ≡ true
      rules = and_left (is_constant_of p g t e) (has_depth room e) h

      last : nat_eq e.ty t && (is_scalar (slice_get p.types.types t) && (has_value p e && is_before g e.kind)) ≡ true
      last = and_right (is_typed p e) _ rules

      same : e.ty ≡ t
      same = let q = and_left (nat_eq e.ty t) _ last in grind (arith, nat_tests, q)

      scalar : is_scalar (slice_get p.types.types e.ty) ≡ true
      scalar = subst (λ t. is_scalar (slice_get p.types.types t) ≡ true) (sym same) (and_left (is_scalar (slice_get p.types.types t)) _ (and_right (nat_eq e.ty t) _ last))

      by : (r : Gives Value) → constant_value (initial_scope p) e ≡ r → Has t (or_other (zero_of p.types t) r)
      by (Err trap) q = zero_has t lt
      by (Ok v) q = subst (λ t. Has t v) same (constant_typed p valid e (and_left (is_typed p e) _ rules) scalar (room - 1) (omega (arith, few)) (and_right (is_constant_of p g t e) (has_depth room e) h) v q)

  mutual
    unfolding AreKnown

    -- a valid initialiser's value has its type
    init_has : (g room t : ℕ) (init : Init) → room ≤ 64 → t < length p.types.types → is_initialiser p g room t init ≡ true → Has t (initial_value (initial_scope p) t init)
    init_has g room t Zero few lt h = cc
    init_has g room t (One e) few lt h = constant_has g room t e few lt h
    init_has g room t (Bytes_text bytes) few lt h =
        composed_has t lt (slice_get p.types.types t) refl _ (text_fits (slice_get p.types.types t) bytes (and_right (nat_lt 0 room) _ h))
    init_has g room t (List' m inits) few lt h =
        composed_has t lt (slice_get p.types.types t) refl _ (row_has g (room - 1) t 0 inits (item_types p.types t) (omega (arith, few)) (items_known t (slice_get p.types.types t) refl) (λ j. (let same : j ≡ 0 + j = omega arith in item_at (slice_get p.types.types t) j ∙ ap (item_type p.types t) same)) (and_right _ (are_items p g (room - 1) t 0 inits) (and_right (nat_lt 0 room) _ h)))

    row_has : {m : _} (g room t k : ℕ) (row : Row_of-Init m) (ts : List ℕ) → room ≤ 64 → AreKnown ts → ((j : ℕ) → slice_get ts j ≡ item_type p.types t (k + j)) → are_items p g room t k row ≡ true → Have ts (initial_items (initial_scope p) ts row)
    row_has g room t k end_of-Init ts few known at h = zeros_have ts known
    row_has g room t k (more_of-Init x rest) [] few known at h = tt
    row_has g room t k (more_of-Init x rest) (u ∷ ts) few known at h =
        let here : k ≡ k + 0 = omega arith in
        let found : item_type p.types t k ≡ Some u = ap (item_type p.types t) here ∙ sym (at 0) in
        let one : option_map_or (λ u. is_initialiser p g room u x) (item_type p.types t k) false ≡ true = and_left _ (are_items p g room t (k + 1) rest) h in
        let head : is_initialiser p g room u x ≡ true = ap (λ o. option_map_or (λ u. is_initialiser p g room u x) o false) (sym found) ∙ one in
        let next : (j : ℕ) → slice_get ts j ≡ item_type p.types t (k + 1 + j) = λ j. (let more : k + suc j ≡ k + 1 + j = omega arith in at (suc j) ∙ ap (item_type p.types t) more) in
        (init_has g room u x few (known 0 u refl) head, row_has g room t (k + 1) rest ts few (λ j u e. known (suc j) u e) next (and_right (option_map_or (λ u. is_initialiser p g room u x) (item_type p.types t k) false) (are_items p g room t (k + 1) rest) h))

  start_has : (g t : ℕ) (init : Init) → t < length p.types.types → is_start p g t init ≡ true → Has t (initial_value (initial_scope p) t init)
  start_has g t Zero lt h = zero_has t lt
  start_has g t (One e) lt h = init_has g initial_room t (One e) (omega arith) lt h
  start_has g t (Bytes_text bytes) lt h = init_has g initial_room t (Bytes_text bytes) (omega arith) lt h
  start_has g t (List' m inits) lt h = init_has g initial_room t (List' m inits) (omega arith) lt h

  -- the objects of the initial store are those of the zero globals, but for their values
  same_objects : (gs : List Text.Global) → Extends (map (λ (g : Text.Global). global_object p.types g.ty (zero_of p.types g.ty)) gs) (map (initial_object p) gs)
  same_objects [] = tt
  same_objects (g ∷ gs) = (refl, refl, same_objects gs)

  pub initial_is_store : IsStore p (initial_store p)
  initial_is_store =
      globals_store p valid (λ g. initial_value (initial_scope p) g.ty g.init) (λ k g e. type_kept p zeros (initial_store p) (same_objects p.globals) g.ty (initial_value (initial_scope p) g.ty g.init) (start_has k g.ty g.init (global_known p valid k g e) (global_starts p valid k g e)))

pub initials : InitialIsStore
initials p valid = initial_is_store p valid
