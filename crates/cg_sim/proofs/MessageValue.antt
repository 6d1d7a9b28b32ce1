-- The value and the bytes of a struct message: its two ints, and its array of six.
use Rattle.std.proofs.Common.{◌≡◌, ◌∙◌, refl, ap, sym, subst, Bool, true, false, ◌&&◌, ℕ, suc, ◌+◌, ◌-◌, ◌*◌, ◌^◌, ◌<◌, List, [], ◌∷◌, ◌++◌, length, map, take, drop, Option, Some, None, arith, nat_eq, length-append, append_assoc}
use Rattle.std.specs.Prelude.{slice_get, ℤ, codes}
use Rattle.std.specs.List.{list_all}
use Rattle.std.specs.Int.{w32, cast_signed}
use Rattle.std.proofs.Math.Seq.{drop-append_seam, take-append_seam}
use Rattle.std.proofs.lemmas.Bool.Decides.{nat_tests}
use Rattle.lu_spec.specs.Then.{then_option}
use Rattle.lu_spec.specs.LittleEndian.{little_endian}
use Rattle.lu_spec.proofs.LittleEndianLemmas.{length-little_endian}
use Rattle.c_types.specs.declared.parts.FieldDef.{FieldDef}
use Rattle.c_types.specs.declared.parts.TagDef.{TagDef}
use Rattle.c_types.specs.declared.parts.IntKind.TheVariants as K
use Rattle.c_types.specs.declared.parts.Ty.{Ty}
use Rattle.c_types.specs.declared.parts.Ty.TheVariants as T
use Rattle.c_types.specs.declared.shape.Shape.{Shape}
use Rattle.c_types.specs.Tables.{fields_in, fields_of}
use Rattle.c_types.specs.Layout.{Shapes, shape, shape_of, field_start, field_end, struct_shape, next_multiple}
use Rattle.c_types.proofs.ShapeLaws.{shape_of-is}
use Rattle.src_tree.specs.declared.value.Value.{Value, Int, out-Value}
use Rattle.src_tree.specs.declared.value.Value.TheOpen as V
use Rattle.src_tree.specs.declared.value.Store.{Store}
use Rattle.src_tree.specs.declared.program.Program.{Program}
use Rattle.src_meaning.specs.Integers.{is_held, residue}
use Rattle.src_meaning.specs.Paths.{Layer}
use Rattle.src_meaning.specs.Store.{has_type, layer_has_type, fields_have_types}
use Rattle.src_meaning.specs.Sending.{ints_in, args_in, message_in}
use Rattle.src_meaning.specs.Valid.{is_int_named, is_int_array, are_message_fields, is_message_tag, is_message}
use Rattle.src_meaning.specs.ValidNames.{is_called}
use Rattle.src_meaning.specs.ValidTypes.{is_int}
use Rattle.src_meaning.specs.ValueBytes.{Addresses, Bytes, zeros, parts_in, fields_bytes, items_bytes, bytes_of}
use Rattle.src_meaning.proofs.LayoutLengths.{and_left, and_right, has_type-is, bytes_of-is}
use Rattle.bm_code.specs.Access.{number_of}
use Rattle.bm_code.specs.Services.{int_of, ints_of}
use Rattle.c_types.specs.Refusal.{IsBuilt}
use Rattle.cg_state.proofs.Typed.{Typed, an_int}
use Rattle.cg_state.proofs.Words.{residue_below, wrapped_of_held}
use Rattle.cg_sim_expr.proofs.Loads.{number_4}

-- the types of a struct message
pub record MessageType (p : Program) (u : ℕ) : Type 0 where
  pub n : ℕ
  pub is_struct : slice_get p.types.types u ≡ Some (T.Struct n)
  pub a : FieldDef
  pub b : FieldDef
  pub c : FieldDef
  pub fields : fields_of p.types n ≡ a ∷ b ∷ c ∷ []
  pub int_a : slice_get p.types.types a.ty ≡ Some (T.Int K.Int)
  pub int_b : slice_get p.types.types b.ty ≡ Some (T.Int K.Int)
  pub item : ℕ
  pub array_c : slice_get p.types.types c.ty ≡ Some (T.Array item 6)
  pub int_item : slice_get p.types.types item ≡ Some (T.Int K.Int)

int_is : (o : Option Ty) → is_int o ≡ true → o ≡ Some (T.Int K.Int)
int_is (Some (T.Int K.Int)) h = refl
int_is _ h = absurd (cc)

pub message_type : (p : Program) (u : ℕ) → is_message p (slice_get p.types.types u) ≡ true → MessageType p u
message_type p u h = by (slice_get p.types.types u) refl h
  where
    array_in : (d : FieldDef) (o : Option Ty) → slice_get p.types.types d.ty ≡ o → is_int_array p.types 6 o ≡ true → (e : ℕ) × (slice_get p.types.types d.ty ≡ Some (T.Array e 6)) × (slice_get p.types.types e ≡ Some (T.Int K.Int))
    array_in d (Some (T.Array e k)) q h =
        let six : k ≡ 6 = grind (arith, nat_tests, and_right (is_int (slice_get p.types.types e)) (nat_eq k 6) h) in
        (e, q ∙ ap (λ k. Some (T.Array e k)) six, int_is (slice_get p.types.types e) (and_left (is_int (slice_get p.types.types e)) (nat_eq k 6) h))
    array_in d _ q h = absurd (cc)

    in_fields : (n : ℕ) → slice_get p.types.types u ≡ Some (T.Struct n) → (fs : List FieldDef) → fields_of p.types n ≡ fs → are_message_fields p fs ≡ true → MessageType p u
    in_fields n e (a ∷ b ∷ c ∷ []) q h =
        let na = is_int_named p (codes "source") a in
        let nb = is_int_named p (codes "type") b in
        let nc = is_called p.names c.name (codes "arg") && is_int_array p.types 6 (slice_get p.types.types c.ty) in
        let h1 = and_left na (nb && nc) h in
        let r1 = and_right na (nb && nc) h in
        let h2 = and_left nb nc r1 in
        let r2 = and_right nb nc r1 in
        let arr = array_in c (slice_get p.types.types c.ty) refl (and_right (is_called p.names c.name (codes "arg")) (is_int_array p.types 6 (slice_get p.types.types c.ty)) r2) in
        record { n = n; is_struct = e; a = a; b = b; c = c; fields = q; int_a = int_is (slice_get p.types.types a.ty) (and_right (is_called p.names a.name (codes "source")) (is_int (slice_get p.types.types a.ty)) h1); int_b = int_is (slice_get p.types.types b.ty) (and_right (is_called p.names b.name (codes "type")) (is_int (slice_get p.types.types b.ty)) h2); item = arr.0; array_c = arr.1; int_item = arr.2 }
    in_fields n e [] q h = absurd (cc)
    in_fields n e (a ∷ []) q h = absurd (cc)
    in_fields n e (a ∷ b ∷ []) q h = absurd (cc)
    in_fields n e (a ∷ b ∷ c ∷ d ∷ fs) q h = absurd (cc)

    in_tag : (n : ℕ) → slice_get p.types.types u ≡ Some (T.Struct n) → (o : Option TagDef) → slice_get p.types.structs n ≡ o → is_message_tag p o ≡ true → MessageType p u
    in_tag n e None q h = absurd (cc)
    in_tag n e (Some d) q h = in_fields n e d.fields (ap fields_in q) (and_right (is_called p.names d.tag (codes "message")) (are_message_fields p d.fields) h)

    by : (o : Option Ty) → slice_get p.types.types u ≡ o → is_message p o ≡ true → MessageType p u
    by (Some (T.Struct n)) e h = in_tag n e (slice_get p.types.structs n) refl h
    by _ e h = absurd (cc)

-- ints and their bytes
abbrev pub int_bytes : List ℤ → List ℕ
int_bytes [] = []
int_bytes (z ∷ zs) = little_endian 4 (residue K.Int z) ++ int_bytes zs

abbrev pub AreInts : List ℤ → Type 0
AreInts [] = Unit {0}
AreInts (z ∷ zs) = (is_held K.Int z ≡ true) × AreInts zs

-- a number from its bytes, whatever comes after
pub int_read : (z : ℤ) (rest : List ℕ) → is_held K.Int z ≡ true → (int_of (little_endian 4 (residue K.Int z) ++ rest) ≡ z) × (drop 4 (little_endian 4 (residue K.Int z) ++ rest) ≡ rest)
int_read z rest h =
    let low : residue K.Int z < 2 ^ 32 = residue_below K.Int z in
    let four = length-little_endian 4 (residue K.Int z) in
    let front : take 4 (little_endian 4 (residue K.Int z) ++ rest) ≡ little_endian 4 (residue K.Int z) = subst (λ n. take n (little_endian 4 (residue K.Int z) ++ rest) ≡ little_endian 4 (residue K.Int z)) four (take-append_seam (little_endian 4 (residue K.Int z)) rest) in
    let back : drop 4 (little_endian 4 (residue K.Int z) ++ rest) ≡ rest = subst (λ n. drop n (little_endian 4 (residue K.Int z) ++ rest) ≡ rest) four (drop-append_seam (little_endian 4 (residue K.Int z)) rest) in
    (ap (λ l. cast_signed w32 (number_of l)) front ∙ (ap (cast_signed w32) (number_4 (residue K.Int z) low) ∙ wrapped_of_held K.Int z h), back)

pub ints_read : (zs : List ℤ) (rest : List ℕ) → AreInts zs → ints_of (length zs) (int_bytes zs ++ rest) ≡ zs
ints_read [] rest h = refl
ints_read (z ∷ zs) rest h =
    let r = int_read z (int_bytes zs ++ rest) h.0 in
    let joined = append_assoc (little_endian 4 (residue K.Int z)) (int_bytes zs) rest in
    ap (λ l. int_of l ∷ ints_of (length zs) (drop 4 l)) joined
    ∙ (ap (λ x. x ∷ ints_of (length zs) (drop 4 (little_endian 4 (residue K.Int z) ++ (int_bytes zs ++ rest)))) r.0
    ∙ (ap (λ l. z ∷ ints_of (length zs) l) r.1 ∙ ap (λ l. z ∷ l) (ints_read zs rest h.1)))

pub ints_are : (zs : List ℤ) → ints_in (map Int zs) ≡ Some zs
ints_are [] = refl
ints_are (z ∷ zs) = ap (λ o. then_option o (λ zs. Some (z ∷ zs))) (ints_are zs)

pub int_bytes_long : (zs : List ℤ) → length (int_bytes zs) ≡ length zs * 4
int_bytes_long [] = omega arith
int_bytes_long (z ∷ zs) =
    let rest = int_bytes_long zs in
    let four = length-little_endian 4 (residue K.Int z) in
    let both = length-append (little_endian 4 (residue K.Int z)) (int_bytes zs) in
    omega (arith, rest, four, both)

module _ (p : Program) (built : IsBuilt p.types) (s : Store) where
  -- what a value of a struct message is
  pub record IsMessageValue (v : Value) : Type 0 where
    pub source : ℤ
    pub kind : ℤ
    pub args : List ℤ
    pub arg : Value
    pub out : out-Value v ≡ V.Struct (Int source ∷ Int kind ∷ arg ∷ [])
    pub out_arg : out-Value arg ≡ V.Array (map Int args)
    pub held_source : is_held K.Int source ≡ true
    pub held_kind : is_held K.Int kind ≡ true
    pub held : AreInts args
    pub six : length args ≡ 6

  record Ints (vs : List Value) : Type 0 where
    numbers : List ℤ
    all : vs ≡ map Int numbers
    each : AreInts numbers

  all_ints : (e : ℕ) → slice_get p.types.types e ≡ Some (T.Int K.Int) → (vs : List Value) → list_all (has_type p s e) vs ≡ true → Ints vs
  all_ints e q [] h = record { numbers = []; all = refl; each = tt }
  all_ints e q (v ∷ vs) h =
      let i = an_int p built s e K.Int v q (and_left (has_type p s e v) (list_all (has_type p s e) vs) h) in
      let rest = all_ints e q vs (and_right (has_type p s e v) (list_all (has_type p s e) vs) h) in
      record { numbers = i.number ∷ rest.numbers; all = ap (λ v. v ∷ vs) i.is ∙ ap (λ l. Int i.number ∷ l) rest.all; each = (i.held, rest.each) }

  length_map : (zs : List ℤ) → length (map Int zs) ≡ length zs
  length_map [] = refl
  length_map (z ∷ zs) = ap suc (length_map zs)

  record SixInts (v : Value) : Type 0 where
    numbers : List ℤ
    is : out-Value v ≡ V.Array (map Int numbers)
    held : AreInts numbers
    six : length numbers ≡ 6

  six_ints : (t e : ℕ) (v : Value) → slice_get p.types.types t ≡ Some (T.Array e 6) → slice_get p.types.types e ≡ Some (T.Int K.Int) → Typed p built s t v → SixInts v
  six_ints t e v q g h = by (out-Value v) refl (sym (has_type-is p s built [] t (T.Array e 6) q v) ∙ h)
    where
      by : (l : Layer) → out-Value v ≡ l → layer_has_type p s (has_type p s) (T.Array e 6) l ≡ true → SixInts v
      by (V.Array vs) out h =
          let long : length vs ≡ 6 = grind (arith, nat_tests, and_left (nat_eq (length vs) 6) (list_all (has_type p s e) vs) h) in
          let all = all_ints e g vs (and_right (nat_eq (length vs) 6) (list_all (has_type p s e) vs) h) in
          record { numbers = all.numbers; is = out ∙ ap V.Array all.all; held = all.each; six = sym (length_map all.numbers) ∙ (ap length (sym all.all) ∙ long) }
      by (V.Int z) out h = absurd (cc)
      by V.Null out h = absurd (cc)
      by (V.Pointer o k) out h = absurd (cc)
      by (V.Function f) out h = absurd (cc)
      by (V.Struct vs) out h = absurd (cc)
      by (V.Union k body) out h = absurd (cc)

  module _ (u : ℕ) (m : MessageType p u) where
    pub message_value : (v : Value) → Typed p built s u v → IsMessageValue v
    message_value v h = by (out-Value v) refl (sym (has_type-is p s built [] u (T.Struct m.n) m.is_struct v) ∙ h)
      where
        in_struct : (vs : List Value) → out-Value v ≡ V.Struct vs → fields_have_types (has_type p s) (m.a ∷ m.b ∷ m.c ∷ []) vs ≡ true → IsMessageValue v
        in_struct (x ∷ y ∷ z ∷ []) out h =
            let hx = and_left (has_type p s m.a.ty x) _ h in
            let r1 = and_right (has_type p s m.a.ty x) _ h in
            let hy = and_left (has_type p s m.b.ty y) _ r1 in
            let hz = and_left (has_type p s m.c.ty z) true (and_right (has_type p s m.b.ty y) _ r1) in
            let ix = an_int p built s m.a.ty K.Int x m.int_a hx in
            let iy = an_int p built s m.b.ty K.Int y m.int_b hy in
            let six = six_ints m.c.ty m.item z m.array_c m.int_item hz in
            record { source = ix.number; kind = iy.number; args = six.numbers; arg = z; out = out ∙ (ap (λ x. V.Struct (x ∷ y ∷ z ∷ [])) ix.is ∙ ap (λ y. V.Struct (Int ix.number ∷ y ∷ z ∷ [])) iy.is); out_arg = six.is; held_source = ix.held; held_kind = iy.held; held = six.held; six = six.six }
        in_struct [] out h = absurd (cc)
        in_struct (x ∷ []) out h = absurd (none (has_type p s m.a.ty x) h)
          where
            none : (b : Bool) → b && false ≡ true → ⊥
            none true h = absurd (cc)
            none false h = absurd (cc)
        in_struct (x ∷ y ∷ []) out h = absurd (none (has_type p s m.a.ty x) (has_type p s m.b.ty y) h)
          where
            none : (a b : Bool) → a && (b && false) ≡ true → ⊥
            none true true h = absurd (cc)
            none true false h = absurd (cc)
            none false b h = absurd (cc)
        in_struct (x ∷ y ∷ z ∷ t ∷ vs) out h = absurd (none (has_type p s m.a.ty x) (has_type p s m.b.ty y) (has_type p s m.c.ty z) h)
          where
            none : (a b c : Bool) → a && (b && (c && false)) ≡ true → ⊥
            none true true true h = absurd (cc)
            none true true false h = absurd (cc)
            none true false c h = absurd (cc)
            none false b c h = absurd (cc)

        by : (l : Layer) → out-Value v ≡ l → layer_has_type p s (has_type p s) (T.Struct m.n) l ≡ true → IsMessageValue v
        by (V.Struct vs) out h = in_struct vs out (ap (λ fs. fields_have_types (has_type p s) fs vs) (sym m.fields) ∙ h)
        by (V.Int z) out h = absurd (cc)
        by V.Null out h = absurd (cc)
        by (V.Pointer o k) out h = absurd (cc)
        by (V.Function f) out h = absurd (cc)
        by (V.Array vs) out h = absurd (cc)
        by (V.Union k body) out h = absurd (cc)

    -- the message that it is
    pub message_in_value : (v : Value) (i : IsMessageValue v) → message_in (out-Value v) ≡ Some (record { source = i.source; kind = i.kind; arg = i.args })
    message_in_value v i =
        ap message_in i.out ∙ (ap (λ l. then_option (args_in l) (λ zs. Some (record { source = i.source; kind = i.kind; arg = zs }))) i.out_arg ∙ ap (λ o. then_option o (λ zs. Some (record { source = i.source; kind = i.kind; arg = zs }))) (ints_are i.args))

    -- its first 32 bytes
    module _ (a : Addresses) where
      abbrev rec : Bytes
      rec = bytes_of p.types a

      abbrev known : Shapes
      known = shape_of p.types

      int_shape : (t : ℕ) → slice_get p.types.types t ≡ Some (T.Int K.Int) → known t ≡ shape 4 4
      int_shape t e = shape_of-is p.types built t (T.Int K.Int) e

      array_shape : known m.c.ty ≡ shape (4 * 6) 4
      array_shape =
          shape_of-is p.types built m.c.ty (T.Array m.item 6) m.array_c ∙ ap (λ (x : Shape). shape (x.size * 6) x.align) (int_shape m.item m.int_item)

      int_in_bytes : (t : ℕ) (z : ℤ) → slice_get p.types.types t ≡ Some (T.Int K.Int) → rec t (Int z) ≡ little_endian 4 (residue K.Int z)
      unfolding out-Value denote.Hole.Carrier.out
      int_in_bytes t z e = bytes_of-is p s built a t (T.Int K.Int) e (Int z)

      items_in_bytes : (zs : List ℤ) → items_bytes (rec m.item) (map Int zs) ≡ int_bytes zs
      items_in_bytes [] = refl
      items_in_bytes (z ∷ zs) =
          ap (λ l. l ++ items_bytes (rec m.item) (map Int zs)) (int_in_bytes m.item z m.int_item) ∙ ap (λ l. little_endian 4 (residue K.Int z) ++ l) (items_in_bytes zs)

      -- a field of so many bytes from a place on that is a multiple of 4
      one_field : (size end size_f : ℕ) (f : FieldDef) (fs : List FieldDef) (x : Value) (vs : List Value) (l : List ℕ) → known f.ty ≡ shape size_f 4 → next_multiple end 4 ≡ end → rec f.ty x ≡ l → fields_bytes known rec size (f ∷ fs) (x ∷ vs) end ≡ l ++ fields_bytes known rec size fs vs (end + size_f)
      one_field size end size_f f fs x vs l shape_is even is =
          let start : field_start known end f ≡ end = ap (λ (x : Shape). next_multiple end x.align) shape_is ∙ even in
          let after : field_end known end f ≡ end + size_f = ap (λ n. n + (known f.ty).size) start ∙ ap (λ (x : Shape). end + x.size) shape_is in
          let none : field_start known end f - end ≡ 0 = omega (arith, start) in
          ap (λ n. zeros n ++ (rec f.ty x ++ fields_bytes known rec size fs vs (field_end known end f))) none
          ∙ (ap (λ n. rec f.ty x ++ fields_bytes known rec size fs vs n) after ∙ ap (λ m. m ++ fields_bytes known rec size fs vs (end + size_f)) is)

      pub message_bytes_are : (v : Value) (i : IsMessageValue v) → (rest : List ℕ) × (rec u v ≡ (little_endian 4 (residue K.Int i.source) ++ (little_endian 4 (residue K.Int i.kind) ++ int_bytes i.args)) ++ rest)
      message_bytes_are v i =
          let size = (struct_shape known (fields_of p.types m.n)).size in
          let last = fields_bytes known rec size [] [] (0 + 4 + 4 + 4 * 6) in
          let sa = little_endian 4 (residue K.Int i.source) in
          let sk = little_endian 4 (residue K.Int i.kind) in
          let whole = bytes_of-is p s built a u (T.Struct m.n) m.is_struct v in
          let array_bytes : rec m.c.ty i.arg ≡ int_bytes i.args = bytes_of-is p s built a m.c.ty (T.Array m.item 6) m.array_c i.arg ∙ (ap (λ l. items_bytes (rec m.item) (parts_in l)) i.out_arg ∙ items_in_bytes i.args) in (
            last,
            whole
                ∙ (ap (λ l. fields_bytes known rec size (fields_of p.types m.n) (parts_in l) 0) i.out
                ∙ (ap (λ fs. fields_bytes known rec size fs (Int i.source ∷ Int i.kind ∷ i.arg ∷ []) 0) m.fields
                ∙ (one_field size 0 4 m.a (m.b ∷ m.c ∷ []) (Int i.source) (Int i.kind ∷ i.arg ∷ []) sa (int_shape m.a.ty m.int_a) refl (int_in_bytes m.a.ty i.source m.int_a)
                ∙ (ap (λ l. sa ++ l) (one_field size (0 + 4) 4 m.b (m.c ∷ []) (Int i.kind) (i.arg ∷ []) sk (int_shape m.b.ty m.int_b) refl (int_in_bytes m.b.ty i.kind m.int_b))
                ∙ (ap (λ l. sa ++ (sk ++ l)) (one_field size (0 + 4 + 4) (4 * 6) m.c [] i.arg [] (int_bytes i.args) array_shape refl array_bytes)
                ∙ joined sa sk (int_bytes i.args) last))))),
          )
        where
          joined : (a b c d : List ℕ) → a ++ (b ++ (c ++ d)) ≡ (a ++ (b ++ c)) ++ d
          joined a b c d = simp append_assoc
