-- What the machine loads is the word of the value that stands there, and what it checks is a place.
use Rattle.std.proofs.Common.{inl, inr, ◌≡◌, ◌∙◌, refl, ap, sym, subst, Bool, true, false, ◌&&◌, cond, ℕ, zero, suc, ◌+◌, ◌-◌, ◌/◌, ◌%◌, ◌^◌, ◌<◌, ◌≤◌, List, [], ◌∷◌, length, Option, Some, None, Result, Ok, Err, arith, nat_lt}
use Rattle.std.specs.Prelude.{slice_get, find, is_some, ℤ}
use Rattle.std.specs.Int.{w16, w32, w64, from_le_bytes, to_le_bytes}
use Rattle.std.specs.Option.{option_map, option_map_or}
use Rattle.std.proofs.Math.Nat.{mod-eq_of_lt}
use Rattle.std.proofs.lemmas.Bool.Decides.{nat_tests}
use Rattle.std.proofs.lemmas.Option.{slice_get_within}
use Rattle.std.proofs.lemmas.Nat.{from_le_bytes-to_le_bytes_4, from_le_bytes-to_le_bytes_8}
use Rattle.lu_spec.specs.Then.{then_option, then_do}
use Rattle.lu_spec.specs.LittleEndian.{little_endian}
use Rattle.lu_base.specs.declared.trap.Trap.{Trap}
use Rattle.lu_base.specs.declared.trap.Trap.TheVariants.{BadPointer}
use Rattle.c_types.specs.Refusal.{IsBuilt}
use Rattle.c_types.specs.declared.parts.IntKind.{IntKind}
use Rattle.c_types.specs.declared.parts.IntKind.TheVariants as K
use Rattle.c_types.specs.declared.parts.Ty.{Ty}
use Rattle.c_types.specs.declared.parts.Ty.TheVariants as T
use Rattle.c_types.specs.declared.path.Step.{Step}
use Rattle.c_types.specs.declared.path.Step.TheVariants.{Index}
use Rattle.c_types.specs.Layout.{IsPointerSize, size_of, int_size}
use Rattle.c_types.specs.Place.{place, object_place}
use Rattle.c_types.specs.declared.parts.Parts.{Parts}
use Rattle.c_types.specs.Descent.{part, descend, find_place}
use Rattle.c_types.proofs.ObjectLaws.{element-of, find_place-sound}
use Rattle.c_types.proofs.ShapeLaws.{shape_of-is}
use Rattle.src_tree.specs.declared.value.Value.{Value, Null, Pointer, out-Value}
use Rattle.src_tree.specs.declared.value.Object.{Object}
use Rattle.src_tree.specs.declared.value.Store.{Store}
use Rattle.src_tree.specs.declared.program.Program.{Program}
use Rattle.src_meaning.specs.Integers.{residue, from_bits, bits_of, is_held}
use Rattle.src_meaning.specs.Paths.{element_part}
use Rattle.lu_base.specs.declared.limits.TheConstants.{FIRST_ADDRESS}
use Rattle.src_meaning.specs.Objects.{Gives, or_trap, Place, value_at, target, target_in, object_size, is_live, addresses}
use Rattle.src_meaning.specs.Objects as objects
use Rattle.src_meaning.specs.Store.{IsStore}
use Rattle.src_meaning.specs.ValidTypes.{is_scalar, points_to, ty}
use Rattle.src_meaning.specs.ValueBytes.{bytes_of}
use Rattle.src_laws.proofs.Sizes.{pointer-is}
use Rattle.src_meaning.proofs.LayoutLengths.{bytes_of-is, typed_within}
use Rattle.bm_alu.specs.Words.{of_signed, extended}
use Rattle.bm_isa.specs.declared.instr.Instr.{Instr}
use Rattle.bm_code.specs.Access.{Scalar, scalars, scalar_size, scalar_word, number_of, read_at}
use Rattle.bm_code.specs.Access as access
use Rattle.bm_code.specs.Frames.{some_or, bad}
use Rattle.bm_code.specs.Pointers.{is_place}
use Rattle.bm_objects.specs.Table.{reaches}
use Rattle.cg_state.specs.Represents.{content_of, rows_of, row_of}
use Rattle.cg_expr.specs.Pieces.{pointer_size, int_number, pointer_number, function_number, deref_last}
use Rattle.cg_expr.specs.Sizes.{load_last}
use Rattle.cg_state.specs.Runs.{IsPlain}
use Rattle.cg_state.proofs.Typed.{Typed, AnInt, an_int, APointer, null, to, a_pointer, a_void_pointer, AFunction, no_function, to_function, object_of}
use Rattle.cg_state.proofs.Words.{residue_of_word, extended_is, residue_below, wrapped_of_held}
use Rattle.cg_sim_expr.proofs.Matching.{word, run, Matches, AScalar, a_scalar}
use Rattle.cg_state.proofs.Memory.{stands, find_row, find_none, address_is}
use Rattle.cg_state.proofs.Places.{IsPart, place_word, place_word_is, value_is, read_part, path_part, elements_typed, item_part}

number_1 : (x : ℕ) → x < 2 ^ 8 → number_of (little_endian 1 x) ≡ x
unfolding little_endian
number_1 x h = omega arith

number_2 : (x : ℕ) → x < 2 ^ 16 → number_of (little_endian 2 x) ≡ x
unfolding little_endian
number_2 x h = omega arith

pub number_4 : (x : ℕ) → x < 2 ^ 32 → number_of (little_endian 4 x) ≡ x
unfolding little_endian
number_4 x h = omega (arith, from_le_bytes-to_le_bytes_4 x h)

number_8 : (x : ℕ) → x < 2 ^ 64 → number_of (little_endian 8 x) ≡ x
unfolding little_endian
number_8 x h = omega (arith, from_le_bytes-to_le_bytes_8 x h)

pub number_is : (kind : IntKind) (x : ℕ) → x < 2 ^ bits_of kind → number_of (little_endian (int_size kind) x) ≡ x
number_is K.Char x h = number_1 x h
number_is K.UChar x h = number_1 x h
number_is K.Short x h = number_2 x h
number_is K.UShort x h = number_2 x h
number_is K.Int x h = number_4 x h
number_is K.UInt x h = number_4 x h
number_is K.LongLong x h = number_8 x h
number_is K.ULongLong x h = number_8 x h

bits_fit : (kind : IntKind) → 2 ^ bits_of kind ≤ 2 ^ 64
bits_fit K.Char = omega arith
bits_fit K.UChar = omega arith
bits_fit K.Short = omega arith
bits_fit K.UShort = omega arith
bits_fit K.Int = omega arith
bits_fit K.UInt = omega arith
bits_fit K.LongLong = omega arith
bits_fit K.ULongLong = omega arith

-- the bits of a number of a type, extended
pub extended_bits : (kind : IntKind) (z : ℤ) → is_held kind z ≡ true → extended kind (residue kind z) ≡ of_signed z
extended_bits kind z h =
    let low = residue_below kind z in
    let fits : residue kind z < 2 ^ 64 = omega (arith, low, bits_fit kind) in
    extended_is kind (residue kind z) fits
    ∙ ap of_signed (ap (from_bits kind) (residue_of_word kind (residue kind z) fits ∙ mod-eq_of_lt low) ∙ wrapped_of_held kind z h)

scalar_of : (kind : IntKind) → slice_get scalars (int_number kind) ≡ Some (access.Integer kind)
scalar_of K.Char = refl
scalar_of K.UChar = refl
scalar_of K.Short = refl
scalar_of K.UShort = refl
scalar_of K.Int = refl
scalar_of K.UInt = refl
scalar_of K.LongLong = refl
scalar_of K.ULongLong = refl

lt_zero : (n : ℕ) → nat_lt n 0 ≡ false
lt_zero n = grind (arith, nat_tests)

within_list : {A : Type 0} (n count : ℕ) (vs : List A) → nat_lt n count ≡ true → length vs ≡ count → n < length vs
within_list n count vs h e = grind (arith, nat_tests, h, e)

pub some_count : (p : Parts) (elem n k u : ℕ) (path : List Step) → find_place p elem n k u ≡ Some path → 0 < n
some_count p elem zero k u path f =
    let size = size_of p elem in
    let none : find_place p elem 0 k u ≡ None = ap (λ b. then_option (cond b (Some (part (Index (k / size)) elem (k % size))) None) (λ q. option_map (λ path. q.step ∷ path) (descend p (length p.types) q.ty q.rest u))) (lt_zero (k / size)) in
    let bad_ : None ≡ Some path = sym none ∙ f in
    absurd (cc)
some_count p elem (suc n) k u path f = omega arith

-- a kind of scalars of so many bytes, whose words are the numbers that stand there
pub record IsPlainKind (k w : ℕ) : Type 0 where
  pub scalar : Scalar
  pub at : slice_get scalars k ≡ Some scalar
  pub size : scalar_size scalar ≡ w
  pub plain : (n : ℕ) → scalar_word scalar n ≡ n

pub pointer_kind : (w : ℕ) → IsPointerSize w → IsPlainKind (pointer_number w) w
pointer_kind w (inl e) = subst (λ w. IsPlainKind (pointer_number w) w) (sym e) (record { scalar = access.Address 4; at = refl; size = refl; plain = λ n. refl })
pointer_kind w (inr e) = subst (λ w. IsPlainKind (pointer_number w) w) (sym e) (record { scalar = access.Address 8; at = refl; size = refl; plain = λ n. refl })

pub function_kind : (w : ℕ) → IsPointerSize w → IsPlainKind (function_number w) w
function_kind w (inl e) = subst (λ w. IsPlainKind (function_number w) w) (sym e) (record { scalar = access.FunctionWord 4; at = refl; size = refl; plain = λ n. refl })
function_kind w (inr e) = subst (λ w. IsPlainKind (function_number w) w) (sym e) (record { scalar = access.FunctionWord 8; at = refl; size = refl; plain = λ n. refl })

-- an address or a function's word in as many bytes as a pointer has
pub number_pointer : (w x : ℕ) → IsPointerSize w → x < 2 ^ 32 → number_of (little_endian w x) ≡ x
number_pointer w x (inl e) h = subst (λ w. number_of (little_endian w x) ≡ x) (sym e) (number_4 x h)
number_pointer w x (inr e) h = subst (λ w. number_of (little_endian w x) ≡ x) (sym e) (number_8 x (omega (arith, h)))

module _ (p : Program) (built : IsBuilt p.types) (s : Store) (ok : IsStore p s) where
  -- words of pointers and functions fit 4 bytes
  pub record SmallWords : Type 0 where
    pub pointers : (v : Value) → APointer p built s v → word p built s v < 2 ^ 32
    pub functions : (g : ℕ) (v : Value) → AFunction p built s g v → word p built s v < 2 ^ 32

  pub size_is : (u : ℕ) (t : Ty) (n : ℕ) → slice_get p.types.types u ≡ Some t → (Rattle.c_types.specs.Layout.shape_step p.types (Rattle.c_types.specs.Layout.shape_of p.types) t).size ≡ n → size_of p.types u ≡ n
  size_is u t n e h = ap (λ (x : Rattle.c_types.specs.declared.shape.Shape.Shape). x.size) (shape_of-is p.types built u t e) ∙ h

  load_word : (k : ℕ) (sc : Scalar) (a w : ℕ) (bytes rest : List ℕ) → slice_get scalars k ≡ Some sc → read_at (content_of p.types s) (rows_of p s) a (scalar_size sc) ≡ Some bytes → scalar_word sc (number_of bytes) ≡ w → run p built s (Rattle.bm_isa.specs.declared.instr.Instr.TheVariants.Load k ∷ []) (a ∷ rest) ≡ Ok (w ∷ rest)
  load_word k sc a w bytes rest e r h =
      ap (λ o. then_do (then_do (some_or o bad (λ sc. some_or (read_at (content_of p.types s) (rows_of p s) a (scalar_size sc)) bad (λ bytes. Ok (scalar_word sc (number_of bytes))))) (λ v. Ok (v ∷ rest))) (run p built s [])) e
      ∙ (ap (λ o. then_do (then_do (some_or o bad (λ bytes. Ok (scalar_word sc (number_of bytes)))) (λ v. Ok (v ∷ rest))) (run p built s [])) r ∙ ap (λ w. Ok (w ∷ rest)) h)

  -- a load gives the word of the part there
  pub load_is : (small : SmallWords) (u : ℕ) (q : Place) (h : IsPart p built s ok u q) (rest : List ℕ) → is_scalar (slice_get p.types.types u) ≡ true → run p built s (load_last (pointer_size p.types) (ty p.types u)) (place_word p built s ok q ∷ rest) ≡ Ok (word p built s h.value ∷ rest)
  unfolding out-Value denote.Hole.Carrier.out
  load_is small u q h rest sc = by (slice_get p.types.types u) refl sc (a_scalar p built s u h.value sc h.is_typed)
    where
      a : ℕ
      a = place_word p built s ok q

      bytes_as : (t : Ty) (l : List ℕ) → slice_get p.types.types u ≡ Some t → Rattle.src_meaning.specs.ValueBytes.bytes_step p.types (addresses p.types s) (bytes_of p.types (addresses p.types s)) t h.value ≡ l → bytes_of p.types (addresses p.types s) u h.value ≡ l
      bytes_as t l e g = bytes_of-is p s built (addresses p.types s) u t e h.value ∙ g

      read_as : (n : ℕ) (l : List ℕ) → size_of p.types u ≡ n → bytes_of p.types (addresses p.types s) u h.value ≡ l → read_at (content_of p.types s) (rows_of p s) (place_word p built s ok q) n ≡ Some l
      read_as n l e g = subst (λ n. read_at (content_of p.types s) (rows_of p s) (place_word p built s ok q) n ≡ Some l) e (read_part p built s ok u q h ∙ ap Some g)

      pointer_bytes : (v : Value) → APointer p built s v → Rattle.src_meaning.specs.ValueBytes.pointer_in (addresses p.types s) (out-Value v) ≡ word p built s v
      pointer_bytes v null = refl
      pointer_bytes v (to o k g) = refl

      function_bytes : (g : ℕ) (v : Value) → AFunction p built s g v → Rattle.src_meaning.specs.ValueBytes.pointer_in (addresses p.types s) (out-Value v) ≡ word p built s v
      function_bytes g v no_function = refl
      function_bytes g v (to_function f i) = refl

      w : ℕ
      w = p.types.pointer

      wide : IsPointerSize w
      wide = pointer-is p.types built

      -- a pointer or a function
      plain_is : (k : ℕ) → IsPlainKind k w → size_of p.types u ≡ w → bytes_of p.types (addresses p.types s) u h.value ≡ little_endian w (word p built s h.value) → word p built s h.value < 2 ^ 32 → run p built s (Rattle.bm_isa.specs.declared.instr.Instr.TheVariants.Load k ∷ []) (a ∷ rest) ≡ Ok (word p built s h.value ∷ rest)
      plain_is k kind size bytes low =
          load_word k kind.scalar a (word p built s h.value) (little_endian w (word p built s h.value)) rest kind.at (read_as (scalar_size kind.scalar) _ (size ∙ sym kind.size) bytes) (kind.plain _ ∙ number_pointer w (word p built s h.value) wide low)

      by : (o : Option Ty) → slice_get p.types.types u ≡ o → is_scalar o ≡ true → AScalar p built s u h.value → run p built s (load_last w o) (place_word p built s ok q ∷ rest) ≡ Ok (word p built s h.value ∷ rest)
      by (Some (T.Int kind)) e sc v =
          let i = an_int p built s u kind h.value e h.is_typed in
          let low = residue_below kind i.number in
          let bytes = bytes_as (T.Int kind) (little_endian (int_size kind) (residue kind i.number)) e (ap (λ v. little_endian (int_size kind) (Rattle.src_meaning.specs.ValueBytes.int_in kind (out-Value v))) i.is) in
          load_word (int_number kind) (access.Integer kind) (place_word p built s ok q) (word p built s h.value) (little_endian (int_size kind) (residue kind i.number)) rest (scalar_of kind) (read_as (int_size kind) _ (size_is u (T.Int kind) (int_size kind) e refl) bytes) (ap (extended kind) (number_is kind (residue kind i.number) low) ∙ (extended_bits kind i.number i.held ∙ sym (ap (word p built s) i.is)))
      by (Some (T.Pointer u')) e sc v =
          let q = a_pointer p built s u u' h.value e h.is_typed in
          let bytes = bytes_as (T.Pointer u') (little_endian w (word p built s h.value)) e (ap (little_endian w) (pointer_bytes h.value q)) in
          plain_is (pointer_number w) (pointer_kind w wide) (size_is u (T.Pointer u') w e refl) bytes (small.pointers h.value q)
      by (Some T.VoidPointer) e sc v =
          let q = a_void_pointer p built s u h.value e h.is_typed in
          let bytes = bytes_as T.VoidPointer (little_endian w (word p built s h.value)) e (ap (little_endian w) (pointer_bytes h.value q)) in
          plain_is (pointer_number w) (pointer_kind w wide) (size_is u T.VoidPointer w e refl) bytes (small.pointers h.value q)
      by (Some (T.Function g)) e sc v =
          let q = Rattle.cg_state.proofs.Typed.a_function p built s u g h.value e h.is_typed in
          let bytes = bytes_as (T.Function g) (little_endian w (word p built s h.value)) e (ap (little_endian w) (function_bytes g h.value q)) in
          plain_is (function_number w) (function_kind w wide) (size_is u (T.Function g) w e refl) bytes (small.functions g h.value q)
      by (Some (T.Struct k)) e sc v = absurd (cc)
      by (Some (T.Union k)) e sc v = absurd (cc)
      by (Some (T.Array w n)) e sc v = absurd (cc)
      by None e sc v = absurd (cc)

  pub load_matches : (small : SmallWords) (u : ℕ) (q : Place) → IsPart p built s ok u q → (rest : List ℕ) → is_scalar (slice_get p.types.types u) ≡ true → Matches p built s u rest (value_at s q) (run p built s (load_last (pointer_size p.types) (ty p.types u)) (place_word p built s ok q ∷ rest))
  load_matches small u q h rest sc =
      subst (λ r. Matches p built s u rest r (run p built s (load_last (pointer_size p.types) (ty p.types u)) (place_word p built s ok q ∷ rest))) (sym (value_is p built s ok u q h)) (subst (Matches p built s u rest (Ok h.value)) (sym (load_is small u q h rest sc)) (h.is_typed, refl))

  -- what code makes of the stack is the place's word on the rest, or the same trap
  abbrev pub Places : ℕ → List ℕ → Gives Place → Result (List ℕ) Trap → Type 0
  Places u rest (Ok q) (Ok stack) = IsPart p built s ok u q × (stack ≡ place_word p built s ok q ∷ rest)
  Places u rest (Err t) (Err w) = IsPlain t × (w ≡ t)
  Places u rest _ _ = ⊥

  module _ (u o k : ℕ) (x : Object) (e : slice_get s.objects o ≡ Some x) (within : k ≤ object_size p.types x) (known : u < length p.types.types) (rest : List ℕ) where
    -- where a pointer goes, when the object is live and has such a place
    found_part : (vs : List Value) (path : List Step) → x.elements ≡ Some vs → find_place p.types x.elem x.count k u ≡ Some path → IsPart p built s ok u (objects.place o path)
    found_part vs path live found =
        let all = elements_typed p built s ok o x vs e live in
        let count = some_count p.types x.elem x.count k u path found in
        let first = item_part p built s ok x.elem vs 0 all.1 (omega (arith, all.0, count)) in
        let elem = typed_within p s (length p.types.types) x.elem first.0 first.2 in
        let sound = find_place-sound p.types built x.elem x.count k u path (slice_get_within p.types.types x.elem elem.0 elem.1) found in
        let el = element-of p.types x.elem x.count path (place u k) sound.leads in
        let lt = within_list el.number x.count vs el.within all.0 in
        let item = item_part p built s ok x.elem vs el.number all.1 lt in
        let out = subst (λ l. Rattle.std.specs.List.list_any Rattle.c_types.specs.Place.is_member l ≡ false) el.path_is sound.outside in
        let part = path_part p built s ok el.steps x.elem item.0 el.last item.2 el.rest out in
        record {
          object = x;
          elements = vs;
          at = e;
          live = live;
          offset = k;
          leads = sound.leads;
          value = part.0;
          is = subst (λ l. element_part vs l ≡ Some part.0) (sym el.path_is) (ap (λ o. then_option o (λ v. Rattle.src_meaning.specs.Paths.part_at v el.steps)) item.1 ∙ part.1);
          is_typed = subst (λ t. Typed p built s t part.0) el.ty part.2;
        }

    abbrev a : ℕ
    a = (stands (length p.sites) p.types FIRST_ADDRESS s.objects o x e).address

    row_is : find (reaches (a + k)) (rows_of p s) ≡ Some (row_of (length p.sites) p.types a x)
    row_is = find_row (length p.sites) p.types FIRST_ADDRESS s.objects o k x e within

    checked_is : run p built s (deref_last u) ((a + k) ∷ rest) ≡ then_do (then_do (cond (is_live x && is_some (find_place p.types x.elem x.count k u)) (Ok (a + k)) (Err BadPointer)) (λ v. Ok (v ∷ rest))) (run p built s [])
    checked_is =
        let back : a + k - a ≡ k = omega arith in
        let lt = Rattle.cg_state.proofs.Tests.lt_true u (length p.types.types) known in
        ap (λ b. then_do (then_do (cond b (cond (is_place p.types u (a + k) (find (reaches (a + k)) (rows_of p s))) (Ok (a + k)) (Err BadPointer)) bad) (λ v. Ok (v ∷ rest))) (run p built s [])) lt
        ∙ (ap (λ r. then_do (then_do (cond (is_place p.types u (a + k) r) (Ok (a + k)) (Err BadPointer)) (λ v. Ok (v ∷ rest))) (run p built s [])) row_is
        ∙ ap (λ n. then_do (then_do (cond (is_live x && is_some (find_place p.types x.elem x.count n u)) (Ok (a + k)) (Err BadPointer)) (λ v. Ok (v ∷ rest))) (run p built s [])) back)

    live_of : (l : Option (List Value)) → x.elements ≡ l → is_live x ≡ true → (vs : List Value) × (x.elements ≡ Some vs)
    live_of None e h = absurd (dead (ap (λ l. elim l as (λ _. Bool) [ None ↦ false | Some elements ↦ true ]) e) h)
      where
        dead : {b : Bool} → b ≡ false → b ≡ true → ⊥
        dead h g = absurd (cc)
    live_of (Some vs) e h = (vs, e)

    by_case : (b : Bool) (f : Option (List Step)) → (b ≡ true → (path : List Step) → f ≡ Some path → IsPart p built s ok u (objects.place o path) × (a + k ≡ place_word p built s ok (objects.place o path))) → Places u rest (or_trap BadPointer (cond b (option_map (objects.place o) f) None)) (then_do (then_do (cond (b && is_some f) (Ok (a + k)) (Err BadPointer)) (λ v. Ok (v ∷ rest))) (run p built s []))
    by_case true (Some path) h = let q = h refl path refl in (q.0, ap (λ w. w ∷ rest) q.1)
    by_case true None h = (tt, refl)
    by_case false f h = (tt, refl)

    placed : (path : List Step) (vs : List Value) (live : x.elements ≡ Some vs) (found : find_place p.types x.elem x.count k u ≡ Some path) → a + k ≡ place_word p built s ok (objects.place o path)
    unfolding found_part
    placed path vs live found = sym (place_word_is p built s ok u (objects.place o path) (found_part vs path live found))

    -- a pointer's check, against the place to which it goes
    pub pointer_places : Places u rest (target p.types s u (Pointer o k)) (run p built s (deref_last u) (word p built s (Pointer o k) ∷ rest))
    pointer_places =
        let address = ap (λ n. n + k) (address_is (length p.sites) p.types s o x e) in
        let goes : target p.types s u (Pointer o k) ≡ or_trap BadPointer (cond (is_live x) (option_map (objects.place o) (find_place p.types x.elem x.count k u)) None) = ap (λ q. or_trap BadPointer (then_option q (target_in p.types u o k))) e in
        subst (λ n. Places u rest (target p.types s u (Pointer o k)) (run p built s (deref_last u) (n ∷ rest))) (sym address) (subst (Places u rest (target p.types s u (Pointer o k))) (sym checked_is) (subst (λ t. Places u rest t (then_do (then_do (cond (is_live x && is_some (find_place p.types x.elem x.count k u)) (Ok (a + k)) (Err BadPointer)) (λ v. Ok (v ∷ rest))) (run p built s []))) (sym goes) (by_case (is_live x) (find_place p.types x.elem x.count k u) (λ alive path found.
        let vs = live_of x.elements refl alive in
        (found_part vs.0 path vs.1 found, placed path vs.0 vs.1 found)))))

  null_places : (u : ℕ) (known : u < length p.types.types) (rest : List ℕ) → Places u rest (target p.types s u Null) (run p built s (deref_last u) (0 ∷ rest))
  null_places u known rest =
      let lt = Rattle.cg_state.proofs.Tests.lt_true u (length p.types.types) known in
      let none = find_none (length p.sites) p.types FIRST_ADDRESS 0 s.objects (omega arith) in
      let is : run p built s (deref_last u) (0 ∷ rest) ≡ Err BadPointer = ap (λ b. then_do (then_do (cond b (cond (is_place p.types u 0 (find (reaches 0) (rows_of p s))) (Ok 0) (Err BadPointer)) bad) (λ v. Ok (v ∷ rest))) (run p built s [])) lt ∙ ap (λ r. then_do (then_do (cond (is_place p.types u 0 r) (Ok 0) (Err BadPointer)) (λ v. Ok (v ∷ rest))) (run p built s [])) none in
      subst (Places u rest (target p.types s u Null)) (sym is) (tt, refl)

  -- a dereference of a pointer to the type u
  pub deref_places : (u a : ℕ) (v : Value) (rest : List ℕ) → u < length p.types.types → points_to (slice_get p.types.types a) u ≡ true → Typed p built s a v → Places u rest (target p.types s u v) (run p built s (deref_last u) (word p built s v ∷ rest))
  deref_places u a v rest known points h = by (slice_get p.types.types a) refl points
    where
      case : (v : Value) → APointer p built s v → Places u rest (target p.types s u v) (run p built s (deref_last u) (word p built s v ∷ rest))
      case v null = null_places u known rest
      case v (to o k i) = let x = object_of p built s o k i in pointer_places u o k x.object x.is x.within known rest

      by : (t : Option Ty) → slice_get p.types.types a ≡ t → points_to t u ≡ true → Places u rest (target p.types s u v) (run p built s (deref_last u) (word p built s v ∷ rest))
      by (Some (T.Pointer w)) e points = case v (a_pointer p built s a w v e h)
      by _ e points = absurd (cc)
