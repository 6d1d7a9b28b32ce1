-- In a store with the same objects and perhaps more, scalars keep their types and their words.
use Rattle.std.proofs.Common.{◌≡◌, ◌∙◌, refl, ap, sym, subst, true, ℕ, ◌+◌, List, [], ◌∷◌, length, map, Option, Some, None}
use Rattle.std.specs.Prelude.{slice_get}
use Rattle.std.specs.Option.{option_map_or}
use Rattle.c_types.specs.declared.parts.Ty.{Ty}
use Rattle.c_types.specs.declared.parts.Ty.TheVariants as T
use Rattle.src_tree.specs.declared.value.Value.{Value, Null, Function}
use Rattle.src_tree.specs.declared.value.Store.{Store}
use Rattle.src_tree.specs.declared.program.Program.{Program}
use Rattle.src_meaning.specs.Objects.{addresses}
use Rattle.cg_state.specs.Represents.{address_in}
use Rattle.lu_base.specs.declared.limits.TheConstants.{FIRST_ADDRESS}
use Rattle.src_meaning.specs.Store.{is_address}
use Rattle.src_meaning.specs.ValidTypes.{is_scalar}
use Rattle.c_types.specs.Refusal.{IsBuilt}
use Rattle.cg_state.proofs.Typed.{Typed, typed_int, APointer, null, to, no_function, to_function, typed_pointer, typed_void, typed_function, object_of}
use Rattle.cg_state.proofs.Memory.{stands}
use Rattle.src_laws.proofs.Extended.{Extends, address_stays, address_kept}
use Rattle.cg_sim_expr.proofs.Matching.{word, AScalar, a_scalar, is_object_address}
use Rattle.cg_sim_expr.proofs.Matching.{an_integer, an_address, a_name}

-- values of scalar types
abbrev pub AllTyped : (p : Program) → IsBuilt p.types → Store → List ℕ → List Value → Type 0
AllTyped p built t [] [] = Unit {0}
AllTyped p built t (u ∷ us) (v ∷ vs) = (is_scalar (slice_get p.types.types u) ≡ true) × Typed p built t u v × AllTyped p built t us vs
AllTyped p built t _ _ = ⊥

module _ (p : Program) (built : IsBuilt p.types) (s s' : Store) (kept : Extends s.objects s'.objects) where
  pub kept_word_of : (o k : ℕ) → is_address p s o k ≡ true → address_in (addresses p.types s') o ≡ address_in (addresses p.types s) o
  kept_word_of o k h =
      let x = object_of p built s o k h in
      let st = stands (length p.sites) p.types FIRST_ADDRESS s.objects o x.object x.is in
      let there = address_stays p.types FIRST_ADDRESS s.objects s'.objects o st.address kept st.is in
      ap (λ q. option_map_or (λ n. n) q 0) (there ∙ sym st.is)

  -- a scalar keeps its type and its word
  pub kept_scalar : (u : ℕ) (v : Value) → AScalar p built s u v → Typed p built s u v → Typed p built s' u v × (word p built s' v ≡ word p built s v)
  kept_scalar u v (an_integer kind e i) h =
      subst (λ v. Typed p built s' u v × (word p built s' v ≡ word p built s v)) (sym i.is) (typed_int p built s' u kind i.number e i.held, refl)
  kept_scalar u v (an_address e q) h = by (slice_get p.types.types u) refl e v q
    where
      kept_pointer : (v : Value) → APointer p built s v → APointer p built s' v × (word p built s' v ≡ word p built s v)
      kept_pointer v null = (null, refl)
      kept_pointer v (to o k q) = (to o k (address_kept p s s' kept o k q), ap (λ n. n + k) (kept_word_of o k q))

      by : (o : Option Ty) → slice_get p.types.types u ≡ o → is_object_address o ≡ true → (v : Value) → APointer p built s v → Typed p built s' u v × (word p built s' v ≡ word p built s v)
      by (Some (T.Pointer w)) e i v q = let r = kept_pointer v q in (typed_pointer p built s' u w v e r.0, r.1)
      by (Some T.VoidPointer) e i v q = let r = kept_pointer v q in (typed_void p built s' u v e r.0, r.1)
      by (Some (T.Function g)) e i v q = absurd (cc)
      by (Some (T.Int kind)) e i v q = absurd (cc)
      by (Some (T.Struct k)) e i v q = absurd (cc)
      by (Some (T.Union k)) e i v q = absurd (cc)
      by (Some (T.Array w n)) e i v q = absurd (cc)
      by None e i v q = absurd (cc)
  kept_scalar u v (a_name g e no_function) h = (typed_function p built s' u g Null e no_function, refl)
  kept_scalar u v (a_name g e (to_function f q)) h = (typed_function p built s' u g (Function f) e (to_function f q), refl)

  pub kept_all : (us : List ℕ) (vs : List Value) → AllTyped p built s us vs → AllTyped p built s' us vs × (map (word p built s') vs ≡ map (word p built s) vs)
  kept_all [] [] h = (tt, refl)
  kept_all [] (v ∷ vs) h = absurd h
  kept_all (u ∷ us) [] h = absurd h
  kept_all (u ∷ us) (v ∷ vs) h =
      let one = kept_scalar u v (a_scalar p built s u v h.0 h.1) h.1 in
      let rest = kept_all us vs h.2 in
      ((h.0, one.0, rest.0), ap (λ w. w ∷ map (word p built s') vs) one.1 ∙ ap (λ ws. word p built s v ∷ ws) rest.1)
