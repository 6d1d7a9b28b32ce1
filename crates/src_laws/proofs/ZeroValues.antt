-- The zero value of a type has the type, and its bytes are zeros.
use Rattle.std.proofs.Common.{◌≡◌, ◌∙◌, refl, ap, sym, subst, Bool, true, ◌&&◌, ℕ, zero, suc, ◌+◌, ◌-◌, ◌*◌, ◌%◌, ◌^◌, ◌<◌, List, [], ◌∷◌, ◌++◌, length, map, replicate, Some, arith, nat_eq, length-append}
use Rattle.std.proofs.lemmas.List.{length-replicate}
use Rattle.std.specs.Prelude.{slice_get, Contains, pos}
use Rattle.std.specs.List.{list_all}
use Rattle.std.proofs.lemmas.Bool.Decides.{nat_tests}
use Rattle.std.specs.Int.{byte_at, bytes_low_first}
use Rattle.std.proofs.Math.Nat.{zero-div}
use Rattle.lu_spec.specs.LittleEndian.{little_endian}
use Rattle.c_types.specs.declared.parts.FieldDef.{FieldDef}
use Rattle.c_types.specs.declared.parts.IntKind.{IntKind}
use Rattle.c_types.specs.declared.parts.IntKind.TheVariants as K
use Rattle.c_types.specs.declared.parts.Ty.{Ty}
use Rattle.c_types.specs.declared.parts.Ty.TheVariants as T
use Rattle.c_types.specs.Chain.{field_types, held_in}
use Rattle.c_types.specs.Tables.{fields_of, members_of}
use Rattle.c_types.specs.Layout.{Shapes, int_size, shape_of, size_of, field_start, field_end, struct_shape, members_start, union_shape}
use Rattle.src_tree.specs.declared.value.Value.{Value, Union, out-Value}
use Rattle.src_tree.specs.declared.value.Value.TheVariants.{outs-Struct, outs-Array, outs-Union}
use Rattle.src_tree.specs.declared.value.Store.{Store}
use Rattle.src_tree.specs.declared.program.Program.{Program}
use Rattle.src_meaning.specs.Integers.{is_held, residue}
use Rattle.src_meaning.specs.Paths.{zero_of, zero_step, first_member}
use Rattle.src_meaning.specs.Store.{has_type, layer_has_type, fields_have_types, member_has_type}
use Rattle.src_meaning.specs.ValueBytes.{Addresses, Bytes, zeros, parts_in, fields_bytes, struct_bytes, items_bytes, union_bytes, bytes_step, bytes_of, elements_bytes}
use Rattle.src_meaning.proofs.InitialLemmas.{zero_of-is}
use Rattle.src_meaning.proofs.LayoutLengths.{has_type-is, bytes_of-is, length-bytes_of, head_in, tail_in}
use Rattle.src_laws.proofs.Induction.{type-induction, union-some}
use Rattle.c_types.specs.Refusal.{IsBuilt}

and_in : (a b : Bool) → a ≡ true → b ≡ true → (a && b) ≡ true
and_in a b h g = cc

zero_held : (kind : IntKind) → is_held kind (pos 0) ≡ true
zero_held K.Char = refl
zero_held K.UChar = refl
zero_held K.Short = refl
zero_held K.UShort = refl
zero_held K.Int = refl
zero_held K.UInt = refl
zero_held K.LongLong = refl
zero_held K.ULongLong = refl

-- bytes that are zeros
abbrev pub AreZero : List ℕ → Type 0
AreZero [] = Unit {0}
AreZero (x ∷ xs) = (x ≡ 0) × AreZero xs

pub zeros_zero : (n : ℕ) → AreZero (zeros n)
zeros_zero zero = tt
zeros_zero (suc n) = (refl, zeros_zero n)

pub both_zero : (xs ys : List ℕ) → AreZero xs → AreZero ys → AreZero (xs ++ ys)
both_zero [] ys h g = g
both_zero (x ∷ xs) ys h g = (h.0, both_zero xs ys h.1 g)

pub zeros_are : (xs : List ℕ) → AreZero xs → xs ≡ replicate (length xs) 0
zeros_are [] h = refl
zeros_are (x ∷ xs) h = ap (λ x. x ∷ xs) h.0 ∙ ap (λ l. 0 ∷ l) (zeros_are xs h.1)

int_zero : (kind : IntKind) → AreZero (little_endian (int_size kind) (residue kind (pos 0)))
unfolding little_endian
int_zero K.Char = (refl, tt)
int_zero K.UChar = (refl, tt)
int_zero K.Short = (refl, (refl, tt))
int_zero K.UShort = (refl, (refl, tt))
int_zero K.Int = (refl, (refl, (refl, (refl, tt))))
int_zero K.UInt = (refl, (refl, (refl, (refl, tt))))
int_zero K.LongLong = (refl, (refl, (refl, (refl, (refl, (refl, (refl, (refl, tt))))))))
int_zero K.ULongLong = (refl, (refl, (refl, (refl, (refl, (refl, (refl, (refl, tt))))))))

low_zero : (i n : ℕ) → AreZero (bytes_low_first i n 0)
low_zero i zero = tt
low_zero i (suc n) = (byte_zero i, low_zero (suc i) n)
  where
    byte_zero : (i : ℕ) → byte_at i 0 ≡ 0
    byte_zero zero = refl
    byte_zero (suc i) = ap (λ m. m % 256) (zero-div (256 ^ suc i))

word_zero : (n : ℕ) → AreZero (little_endian n 0)
unfolding little_endian
word_zero n = low_zero 0 n

module _ (p : Program) (built : IsBuilt p.types) (s : Store) where
  abbrev has : ℕ → Value → Bool
  has = has_type p s

  abbrev IsZeroTyped : ℕ → Type 0
  IsZeroTyped t = has t (zero_of p.types t) ≡ true

  fields_zero : (fs : List FieldDef) → ((u : ℕ) → Contains (field_types fs) u → IsZeroTyped u) → fields_have_types has fs (map (λ f. zero_of p.types f.ty) fs) ≡ true
  fields_zero [] below = refl
  fields_zero (d ∷ fs) below =
      and_in (has d.ty (zero_of p.types d.ty)) _ (below d.ty (head_in d fs)) (fields_zero fs (λ u c. below u (tail_in d fs u c)))

  items_zero : (u n : ℕ) → IsZeroTyped u → list_all (has u) (replicate n (zero_of p.types u)) ≡ true
  items_zero u zero h = refl
  items_zero u (suc n) h = and_in (has u (zero_of p.types u)) _ h (items_zero u n h)

  step_typed : (t : ℕ) (ty : Ty) → slice_get p.types.types t ≡ Some ty → ((u : ℕ) → Contains (held_in p.types (Some ty)) u → IsZeroTyped u) → layer_has_type p s has ty (out-Value (zero_step p.types (zero_of p.types) ty)) ≡ true
  unfolding out-Value denote.Hole.Carrier.out
  step_typed t (T.Int kind) e below = zero_held kind
  step_typed t (T.Pointer u) e below = refl
  step_typed t T.VoidPointer e below = refl
  step_typed t (T.Function g) e below = refl
  step_typed t (T.Struct n) e below =
      ap (λ l. layer_has_type p s has (T.Struct n) l) (outs-Struct (map (λ f. zero_of p.types f.ty) (fields_of p.types n))) ∙ fields_zero (fields_of p.types n) below
  step_typed t (T.Union n) e below = by (members_of p.types n) refl below
    where
      by : (ms : List FieldDef) → members_of p.types n ≡ ms → ((u : ℕ) → Contains (field_types ms) u → IsZeroTyped u) → layer_has_type p s has (T.Union n) (out-Value (first_member (zero_of p.types) ms)) ≡ true
      by [] q below = absurd (union-some p.types built t n e q)
      by (m ∷ ms) q below =
          ap (λ l. layer_has_type p s has (T.Union n) l) (outs-Union 0 (zero_of p.types m.ty)) ∙ (ap (λ ms. member_has_type has (slice_get ms 0) (zero_of p.types m.ty)) q ∙ below m.ty (head_in m ms))
  step_typed t (T.Array u n) e below =
      let long : length (replicate n (zero_of p.types u)) ≡ n = length-replicate {A = Value} n (zero_of p.types u) in
      let test : nat_eq (length (replicate n (zero_of p.types u))) n ≡ true = grind (arith, nat_tests, long) in
      ap (λ l. layer_has_type p s has (T.Array u n) l) (outs-Array (replicate n (zero_of p.types u))) ∙ and_in _ _ test (items_zero u n (below u (0, omega arith, refl)))

  -- the zero value of a type of the table has the type
  pub zero_typed : (t : ℕ) → t < length p.types.types → IsZeroTyped t
  zero_typed = type-induction p.types built IsZeroTyped (λ t ty e below.
      has_type-is p s built [] t ty e (zero_of p.types t)
      ∙ (ap (λ v. layer_has_type p s has ty (out-Value v)) (zero_of-is p.types built t ty e) ∙ step_typed t ty e below))

  pub zeros_typed : (t n : ℕ) → t < length p.types.types → list_all (has t) (replicate n (zero_of p.types t)) ≡ true
  zeros_typed t n lt = items_zero t n (zero_typed t lt)

  module _ (a : Addresses) where
    abbrev rec : Bytes
    rec = bytes_of p.types a

    abbrev known : Shapes
    known = shape_of p.types

    abbrev pub HasZeroBytes : ℕ → Type 0
    HasZeroBytes t = AreZero (rec t (zero_of p.types t))

    field_bytes_zero : (size : ℕ) (fs : List FieldDef) (end : ℕ) → ((u : ℕ) → Contains (field_types fs) u → HasZeroBytes u) → AreZero (fields_bytes known rec size fs (map (λ f. zero_of p.types f.ty) fs) end)
    field_bytes_zero size [] end below = zeros_zero (size - end)
    field_bytes_zero size (d ∷ fs) end below =
        both_zero (zeros (field_start known end d - end)) _ (zeros_zero (field_start known end d - end)) (both_zero (rec d.ty (zero_of p.types d.ty)) _ (below d.ty (head_in d fs)) (field_bytes_zero size fs (field_end known end d) (λ u c. below u (tail_in d fs u c))))

    item_bytes_zero : (u n : ℕ) → HasZeroBytes u → AreZero (items_bytes (rec u) (replicate n (zero_of p.types u)))
    item_bytes_zero u zero h = tt
    item_bytes_zero u (suc n) h = both_zero (rec u (zero_of p.types u)) _ h (item_bytes_zero u n h)

    step_bytes : (t : ℕ) (ty : Ty) → slice_get p.types.types t ≡ Some ty → ((u : ℕ) → Contains (held_in p.types (Some ty)) u → HasZeroBytes u) → AreZero (bytes_step p.types a rec ty (zero_step p.types (zero_of p.types) ty))
    unfolding out-Value denote.Hole.Carrier.out
    step_bytes t (T.Int kind) e below = int_zero kind
    step_bytes t (T.Pointer u) e below = word_zero p.types.pointer
    step_bytes t T.VoidPointer e below = word_zero p.types.pointer
    step_bytes t (T.Function g) e below = word_zero p.types.pointer
    step_bytes t (T.Struct n) e below =
        let fs = fields_of p.types n in
        subst (λ l. AreZero (struct_bytes known rec fs (parts_in l))) (sym (outs-Struct (map (λ f. zero_of p.types f.ty) fs))) (field_bytes_zero (struct_shape known fs).size fs 0 below)
    step_bytes t (T.Union n) e below = by (members_of p.types n) refl below
      where
        by : (ms : List FieldDef) → members_of p.types n ≡ ms → ((u : ℕ) → Contains (field_types ms) u → HasZeroBytes u) → AreZero (union_bytes known rec (members_of p.types n) (out-Value (first_member (zero_of p.types) ms)))
        by [] q below = absurd (union-some p.types built t n e q)
        by (m ∷ ms) q below =
            let body = zero_of p.types m.ty in
            subst (λ all. AreZero (union_bytes known rec all (out-Value (Union 0 body)))) (sym q) (subst (λ l. AreZero (union_bytes known rec (m ∷ ms) l)) (sym (outs-Union 0 body)) (both_zero (little_endian 4 0) _ (word_zero 4) (both_zero (zeros (members_start known (m ∷ ms) - 4)) _ (zeros_zero (members_start known (m ∷ ms) - 4)) (both_zero (rec m.ty body) _ (below m.ty (head_in m ms)) (zeros_zero ((union_shape known (m ∷ ms)).size - (members_start known (m ∷ ms) + (known m.ty).size)))))))
    step_bytes t (T.Array u n) e below =
        subst (λ l. AreZero (items_bytes (rec u) (parts_in l))) (sym (outs-Array (replicate n (zero_of p.types u)))) (item_bytes_zero u n (below u (0, omega arith, refl)))

    pub zero_bytes : (t : ℕ) → t < length p.types.types → HasZeroBytes t
    zero_bytes = type-induction p.types built HasZeroBytes (λ t ty e below.
        subst AreZero (sym (bytes_of-is p s built a t ty e (zero_of p.types t) ∙ ap (bytes_step p.types a rec ty) (zero_of-is p.types built t ty e))) (step_bytes t ty e below))

    -- the bytes of so many zero elements
    pub zero_elements : (t n : ℕ) → t < length p.types.types → elements_bytes p.types a t (replicate n (zero_of p.types t)) ≡ replicate (n * size_of p.types t) 0
    zero_elements t n lt =
        zeros_are (items_bytes (rec t) (replicate n (zero_of p.types t))) (item_bytes_zero t n (zero_bytes t lt)) ∙ ap (λ k. replicate k 0) (lengths n)
      where
        lengths : (n : ℕ) → length (items_bytes (rec t) (replicate n (zero_of p.types t))) ≡ n * size_of p.types t
        lengths zero = omega arith
        lengths (suc n) =
            let one = length-bytes_of p s built a t (zero_of p.types t) (zero_typed t lt) in
            let rest = lengths n in
            length-append (rec t (zero_of p.types t)) (items_bytes (rec t) (replicate n (zero_of p.types t))) ∙ sums (length (rec t (zero_of p.types t))) (length (items_bytes (rec t) (replicate n (zero_of p.types t)))) (size_of p.types t) n one rest
          where
            sums : (x y k n : ℕ) → x ≡ k → y ≡ n * k → x + y ≡ suc n * k
            sums x y k n e g = let next : suc n * k ≡ k + n * k = grind arith in omega (arith, e, g, next)
