-- Values of scalar types, and their words.
use Rattle.std.proofs.Common.{length, ◌≡◌, ◌∙◌, refl, sym, true, false, ℕ, ◌+◌, ◌≤◌, arith, [], Option, Some, None}
use Rattle.std.specs.Prelude.{slice_get, ℤ, nat_le}
use Rattle.std.specs.Option.{option_map_or}
use Rattle.std.proofs.lemmas.Bool.Decides.{nat_tests}
use Rattle.c_types.specs.declared.parts.Ty.{Ty}
use Rattle.c_types.specs.declared.parts.Ty.TheVariants as T
use Rattle.c_types.specs.declared.parts.IntKind.{IntKind}
use Rattle.c_types.specs.Refusal.{IsBuilt}
use Rattle.src_tree.specs.declared.value.Value.{Value, Int, Null, Pointer, Function, Struct', Array', Union', out-Value}
use Rattle.src_tree.specs.declared.value.Store.{Store}
use Rattle.src_tree.specs.declared.program.Program.{Program}
use Rattle.src_meaning.specs.Integers.{is_held}
use Rattle.src_meaning.specs.Store.{has_type, layer_has_type, is_address, is_function}
use Rattle.src_tree.specs.declared.value.Object.{Object}
use Rattle.lu_base.specs.declared.limits.TheConstants.{FIRST_ADDRESS}
use Rattle.src_meaning.specs.Objects.{object_size, addresses}
use Rattle.src_meaning.proofs.LayoutLengths.{has_type-is}
use Rattle.cg_state.specs.Represents.{address_in}
use Rattle.cg_state.proofs.Memory.{stands, address_is}

module _ (p : Program) (built : IsBuilt p.types) (store : Store) where
  abbrev pub Typed : ℕ → Value → Type 0
  Typed t v = has_type p store t v ≡ true

  pub typed_is : (t : ℕ) (ty : Ty) → slice_get p.types.types t ≡ Some ty → (v : Value) → has_type p store t v ≡ layer_has_type p store (has_type p store) ty (out-Value v)
  typed_is t ty e v = has_type-is p store built [] t ty e v

  -- an integer
  pub record AnInt (kind : IntKind) (v : Value) : Type 0 where
    pub number : ℤ
    pub is : v ≡ Int number
    pub held : is_held kind number ≡ true

  int_in : (kind : IntKind) (v : Value) → layer_has_type p store (has_type p store) (T.Int kind) (out-Value v) ≡ true → AnInt kind v
  unfolding out-Value denote.Hole.Carrier.out
  int_in kind (Int z) h = record { number = z; is = refl; held = h }
  int_in kind Null h = absurd (cc)
  int_in kind (Pointer o k) h = absurd (cc)
  int_in kind (Function f) h = absurd (cc)
  int_in kind (Struct' m vs) h = absurd (cc)
  int_in kind (Array' m vs) h = absurd (cc)
  int_in kind (Union' k m body) h = absurd (cc)

  pub an_int : (t : ℕ) (kind : IntKind) (v : Value) → slice_get p.types.types t ≡ Some (T.Int kind) → Typed t v → AnInt kind v
  an_int t kind v e h = int_in kind v (sym (typed_is t (T.Int kind) e v) ∙ h)

  pub typed_int : (t : ℕ) (kind : IntKind) (z : ℤ) → slice_get p.types.types t ≡ Some (T.Int kind) → is_held kind z ≡ true → Typed t (Int z)
  unfolding out-Value denote.Hole.Carrier.out
  typed_int t kind z e h = typed_is t (T.Int kind) e (Int z) ∙ h

  -- null or a pointer to an object
  pub data APointer : Value → Type 0 where
    null : APointer Null
    to : (o k : ℕ) → is_address p store o k ≡ true → APointer (Pointer o k)

  -- null or a function of a signature
  pub data AFunction (g : ℕ) : Value → Type 0 where
    no_function : AFunction g Null
    to_function : (f : ℕ) → is_function p g f ≡ true → AFunction g (Function f)

  pointer_in : (w : ℕ) (v : Value) → layer_has_type p store (has_type p store) (T.Pointer w) (out-Value v) ≡ true → APointer v
  unfolding out-Value denote.Hole.Carrier.out
  pointer_in w Null h = null
  pointer_in w (Pointer o k) h = to o k h
  pointer_in w (Int z) h = absurd (cc)
  pointer_in w (Function f) h = absurd (cc)
  pointer_in w (Struct' m vs) h = absurd (cc)
  pointer_in w (Array' m vs) h = absurd (cc)
  pointer_in w (Union' k m body) h = absurd (cc)

  void_in : (v : Value) → layer_has_type p store (has_type p store) T.VoidPointer (out-Value v) ≡ true → APointer v
  unfolding out-Value denote.Hole.Carrier.out
  void_in Null h = null
  void_in (Pointer o k) h = to o k h
  void_in (Int z) h = absurd (cc)
  void_in (Function f) h = absurd (cc)
  void_in (Struct' m vs) h = absurd (cc)
  void_in (Array' m vs) h = absurd (cc)
  void_in (Union' k m body) h = absurd (cc)

  function_in : (g : ℕ) (v : Value) → layer_has_type p store (has_type p store) (T.Function g) (out-Value v) ≡ true → AFunction g v
  unfolding out-Value denote.Hole.Carrier.out
  function_in g Null h = no_function
  function_in g (Function f) h = to_function f h
  function_in g (Int z) h = absurd (cc)
  function_in g (Pointer o k) h = absurd (cc)
  function_in g (Struct' m vs) h = absurd (cc)
  function_in g (Array' m vs) h = absurd (cc)
  function_in g (Union' k m body) h = absurd (cc)

  pub a_pointer : (t w : ℕ) (v : Value) → slice_get p.types.types t ≡ Some (T.Pointer w) → Typed t v → APointer v
  a_pointer t w v e h = pointer_in w v (sym (typed_is t (T.Pointer w) e v) ∙ h)

  pub a_void_pointer : (t : ℕ) (v : Value) → slice_get p.types.types t ≡ Some T.VoidPointer → Typed t v → APointer v
  a_void_pointer t v e h = void_in v (sym (typed_is t T.VoidPointer e v) ∙ h)

  pub a_function : (t g : ℕ) (v : Value) → slice_get p.types.types t ≡ Some (T.Function g) → Typed t v → AFunction g v
  a_function t g v e h = function_in g v (sym (typed_is t (T.Function g) e v) ∙ h)

  pub typed_pointer : (t w : ℕ) (v : Value) → slice_get p.types.types t ≡ Some (T.Pointer w) → APointer v → Typed t v
  unfolding out-Value denote.Hole.Carrier.out
  typed_pointer t w v e null = typed_is t (T.Pointer w) e Null
  typed_pointer t w v e (to o k h) = typed_is t (T.Pointer w) e (Pointer o k) ∙ h

  pub typed_void : (t : ℕ) (v : Value) → slice_get p.types.types t ≡ Some T.VoidPointer → APointer v → Typed t v
  unfolding out-Value denote.Hole.Carrier.out
  typed_void t v e null = typed_is t T.VoidPointer e Null
  typed_void t v e (to o k h) = typed_is t T.VoidPointer e (Pointer o k) ∙ h

  pub typed_function : (t g : ℕ) (v : Value) → slice_get p.types.types t ≡ Some (T.Function g) → AFunction g v → Typed t v
  unfolding out-Value denote.Hole.Carrier.out
  typed_function t g v e no_function = typed_is t (T.Function g) e Null
  typed_function t g v e (to_function f h) = typed_is t (T.Function g) e (Function f) ∙ h

  -- the object of a pointer
  pub record Object_of (o k : ℕ) : Type 0 where
    pub object : Object
    pub is : slice_get store.objects o ≡ Some object
    pub within : k ≤ object_size p.types object

  pub object_of : (o k : ℕ) → is_address p store o k ≡ true → Object_of o k
  object_of o k h = by (slice_get store.objects o) refl h
    where
      by : (q : Option Object) → slice_get store.objects o ≡ q → option_map_or (λ x. nat_le k (object_size p.types x)) q false ≡ true → Object_of o k
      by None e h = absurd (cc)
      by (Some x) e h = record { object = x; is = e; within = grind (arith, nat_tests, h) }

  -- a pointer's word isn't 0
  pub object_address : (o k : ℕ) → is_address p store o k ≡ true → FIRST_ADDRESS ≤ address_in (addresses p.types store) o + k
  object_address o k h =
      let x = object_of o k h in
      let st = stands (length p.sites) p.types FIRST_ADDRESS store.objects o x.object x.is in
      omega (arith, st.above, address_is (length p.sites) p.types store o x.object x.is)
