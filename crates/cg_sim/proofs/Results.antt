-- What a call gives, which has a type but perhaps no number of a type, and how it is converted.
use Rattle.std.proofs.Common.{◌≡◌, refl, sym, subst, true, ℕ, List, [], ◌∷◌, Option, Some, None, arith}
use Rattle.std.specs.Prelude.{slice_get, ℤ}
use Rattle.std.proofs.lemmas.Bool.Decides.{nat_tests}
use Rattle.c_types.specs.declared.parts.Ty.{Ty}
use Rattle.c_types.specs.declared.parts.Ty.TheVariants as T
use Rattle.c_types.specs.declared.parts.IntKind.{IntKind}
use Rattle.src_tree.specs.declared.value.Value.{Value, Int}
use Rattle.src_tree.specs.declared.value.Store.{Store}
use Rattle.src_tree.specs.declared.program.Program.{Program}
use Rattle.src_meaning.specs.Integers.{is_held}
use Rattle.src_meaning.specs.Operators.{converted, converted_to}
use Rattle.src_meaning.specs.ValidTypes.{is_scalar, converts, ty}
use Rattle.cg_expr.specs.Pieces.{normal}
use Rattle.cg_state.proofs.Words.{held_word}
use Rattle.c_types.specs.Refusal.{IsBuilt}
use Rattle.cg_state.proofs.Typed.{Typed, an_int, APointer, null, to, a_pointer, a_void_pointer, AFunction, no_function, to_function, a_function, typed_pointer, typed_void, typed_function}
use Rattle.cg_sim_expr.proofs.Matching.{word, run, Matches, int_matches}

module _ (p : Program) (built : IsBuilt p.types) (s : Store) where
  -- no value, or a value of a scalar type
  pub data AResult : Option Ty → Option Value → Type 0 where
    no_result : AResult None None
    int_result : (kind : IntKind) (z : ℤ) → is_held kind z ≡ true → AResult (Some (T.Int kind)) (Some (Int z))
    pointer_result : (w : ℕ) (v : Value) → APointer p built s v → AResult (Some (T.Pointer w)) (Some v)
    void_result : (v : Value) → APointer p built s v → AResult (Some T.VoidPointer) (Some v)
    name_result : (g : ℕ) (v : Value) → AFunction p built s g v → AResult (Some (T.Function g)) (Some v)

  -- a value of a scalar type by its number
  pub typed_result : (u : ℕ) (v : Value) → is_scalar (slice_get p.types.types u) ≡ true → Typed p built s u v → AResult (ty p.types u) (Some v)
  typed_result u v sc h = by (slice_get p.types.types u) refl sc
    where
      by : (o : Option Ty) → slice_get p.types.types u ≡ o → is_scalar o ≡ true → AResult o (Some v)
      by (Some (T.Int kind)) e sc = let i = an_int p built s u kind v e h in subst (λ v. AResult (Some (T.Int kind)) (Some v)) (sym i.is) (int_result kind i.number i.held)
      by (Some (T.Pointer w)) e sc = pointer_result w v (a_pointer p built s u w v e h)
      by (Some T.VoidPointer) e sc = void_result v (a_void_pointer p built s u v e h)
      by (Some (T.Function g)) e sc = name_result g v (a_function p built s u g v e h)
      by (Some (T.Struct k)) e sc = absurd (cc)
      by (Some (T.Union k)) e sc = absurd (cc)
      by (Some (T.Array w n)) e sc = absurd (cc)
      by None e sc = absurd (cc)

  -- a result that converts is a value, and code converts it
  pub record Converted (u : ℕ) (rest : List ℕ) (r : Option Value) : Type 0 where
    pub value : Value
    pub is : r ≡ Some value
    pub matches : Matches p built s u rest (converted p.types u value) (run p built s (normal (ty p.types u)) (word p built s value ∷ rest))

  pub result_converts : (o : Option Ty) (u : ℕ) (rest : List ℕ) (r : Option Value) → AResult o r → converts o (ty p.types u) ≡ true → Converted u rest r
  result_converts o u rest r h c = by o r (ty p.types u) refl h c
    where
      pointer_to : (v : Value) (w : ℕ) → slice_get p.types.types u ≡ Some (T.Pointer w) → APointer p built s v → Matches p built s u rest (converted_to (Some (T.Pointer w)) v) (run p built s [] (word p built s v ∷ rest))
      pointer_to v w e null = (typed_pointer p built s u w _ e null, refl)
      pointer_to v w e (to o k q) = (typed_pointer p built s u w _ e (to o k q), refl)

      void_to : (v : Value) → slice_get p.types.types u ≡ Some T.VoidPointer → APointer p built s v → Matches p built s u rest (converted_to (Some T.VoidPointer) v) (run p built s [] (word p built s v ∷ rest))
      void_to v e null = (typed_void p built s u _ e null, refl)
      void_to v e (to o k q) = (typed_void p built s u _ e (to o k q), refl)

      name_to : (v : Value) (g : ℕ) → slice_get p.types.types u ≡ Some (T.Function g) → AFunction p built s g v → Matches p built s u rest (converted_to (Some (T.Function g)) v) (run p built s [] (word p built s v ∷ rest))
      name_to v g e no_function = (typed_function p built s u g _ e no_function, refl)
      name_to v g e (to_function f q) = (typed_function p built s u g _ e (to_function f q), refl)

      done : (v : Value) (t : Ty) → slice_get p.types.types u ≡ Some t → Matches p built s u rest (converted_to (Some t) v) (run p built s (normal (Some t)) (word p built s v ∷ rest)) → Converted u rest (Some v)
      done v t e m = record { value = v; is = refl; matches = subst (λ o. Matches p built s u rest (converted_to o v) (run p built s (normal o) (word p built s v ∷ rest))) (sym e) m }

      by : (o : Option Ty) (r : Option Value) (q : Option Ty) → slice_get p.types.types u ≡ q → AResult o r → converts o q ≡ true → Converted u rest r
      by _ _ (Some (T.Int k)) e (int_result j z h) c = record { value = Int z; is = refl; matches = subst (λ o. Matches p built s u rest (converted_to o (Int z)) (run p built s (normal (ty p.types u)) (word p built s (Int z) ∷ rest))) (sym e) (int_matches p built s u k z rest e (held_word j z h)) }
      by _ _ _ e (int_result j z h) c = absurd (cc)
      by _ _ (Some (T.Pointer x)) e (pointer_result w v h) c = done v (T.Pointer x) e (pointer_to v x e h)
      by _ _ (Some T.VoidPointer) e (pointer_result w v h) c = done v T.VoidPointer e (void_to v e h)
      by _ _ _ e (pointer_result w v h) c = absurd (cc)
      by _ _ (Some (T.Pointer x)) e (void_result v h) c = done v (T.Pointer x) e (pointer_to v x e h)
      by _ _ (Some T.VoidPointer) e (void_result v h) c = done v T.VoidPointer e (void_to v e h)
      by _ _ _ e (void_result v h) c = absurd (cc)
      by _ _ (Some (T.Function k)) e (name_result g v h) c =
          let same : g ≡ k = grind (arith, nat_tests, c) in
          done v (T.Function k) e (name_to v k e (subst (λ g. AFunction p built s g v) same h))
      by _ _ _ e (name_result g v h) c = absurd (cc)
      by _ _ _ e no_result c = absurd (cc)
