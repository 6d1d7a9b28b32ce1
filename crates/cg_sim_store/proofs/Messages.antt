-- Messages put into `m_in` and `m_out`.
use Rattle.std.proofs.Common.{◌≡◌, ◌∙◌, refl, ap, sym, subst, Bool, true, false, ◌&&◌, cond, ℕ, zero, suc, ◌+◌, ◌*◌, ◌<◌, max, List, [], ◌∷◌, ◌++◌, length, map, drop, Option, Some, None, Ok, arith, nat_eq, nat_lt, length-append, append_assoc}
use Rattle.std.specs.Prelude.{slice_get, ℤ, codes}
use Rattle.std.specs.List.{list_all}
use Rattle.std.specs.FinMap.{insert}
use Rattle.std.proofs.Math.Seq.{drop-append_seam}
use Rattle.std.proofs.lemmas.List.{append-nil}
use Rattle.std.proofs.lemmas.Bool.Decides.{nat_tests}
use Rattle.lu_spec.specs.Then.{then_option}
use Rattle.lu_spec.specs.LittleEndian.{little_endian}
use Rattle.lu_spec.proofs.LittleEndianLemmas.{length-little_endian}
use Rattle.lu_base.specs.declared.message.Message.{Message}
use Rattle.lu_base.specs.declared.limits.TheConstants.{FIRST_ADDRESS}
use Rattle.lu_base.specs.declared.trap.Trap.TheVariants.{BadCode}
use Rattle.c_types.specs.declared.parts.IntKind.TheVariants as K
use Rattle.c_types.specs.declared.parts.Ty.TheVariants as T
use Rattle.c_types.specs.declared.path.Step.TheVariants.{Index}
use Rattle.c_types.specs.declared.shape.Shape.{Shape}
use Rattle.c_types.specs.Layout.{shape, shape_of, size_of, next_multiple, struct_shape}
use Rattle.c_types.specs.Place as Part
use Rattle.c_types.specs.Refusal.{IsBuilt}
use Rattle.c_types.proofs.ShapeLaws.{shape_of-is}
use Rattle.src_tree.specs.declared.value.Value.{Value, Int, Struct, Array}
use Rattle.src_tree.specs.declared.value.Value.TheVariants.{outs-Struct, outs-Array}
use Rattle.src_tree.specs.declared.value.Object.{Object}
use Rattle.src_tree.specs.declared.value.Store.{Store}
use Rattle.src_tree.specs.declared.program.Global as Text
use Rattle.src_tree.specs.declared.program.Program.{Program}
use Rattle.src_meaning.specs.Integers.{residue, is_held}
use Rattle.src_meaning.specs.Initial.{elem_in, count_in, global_elem, global_count}
use Rattle.src_meaning.specs.Objects.{or_trap, place, store_with, with_object, with_elements, is_live, addresses}
use Rattle.src_meaning.specs.Paths.{with_element_part}
use Rattle.src_meaning.specs.Sending.{message_value}
use Rattle.src_meaning.specs.Store.{IsStore, has_type, layer_has_type, fields_have_types, is_global_object, are_objects}
use Rattle.src_meaning.specs.Valid.{IsValid, is_message, is_message_global, is_zero_start, has_messages}
use Rattle.src_meaning.specs.ValidNames.{is_called}
use Rattle.src_meaning.specs.ValueBytes.{Addresses, bytes_of, elements_bytes}
use Rattle.src_meaning.proofs.LayoutLengths.{and_left, and_right, length-bytes_of}
use Rattle.src_laws.proofs.Extended.{and_in}
use Rattle.src_laws.proofs.StoreLaws.{assigned_keeps, elements_typed}
use Rattle.bm_code.specs.Services.{int_of, ints_of, message_of}
use Rattle.cg_state.specs.Represents.{row_of, content_of}
use Rattle.cg_state.proofs.Memory.{stands}
use Rattle.cg_state.proofs.Stores.{insert_content, rows_same, end_same}
use Rattle.cg_state.proofs.Typed.{typed_is, typed_int}
use Rattle.cg_sim.proofs.MessageValue.{MessageType, message_type, int_bytes, AreInts, IsMessageValue, int_bytes_long, int_read, ints_read, message_bytes_are}
use Rattle.cg_sim_store.specs.Messages.{IsMessage, ints_bytes, message_bytes, MessagesHaveBytes, PutsMessage, TakeMessages}
use Rattle.cg_sim_store.proofs.Rules.{messages_valid}

same_bytes : (zs : List ℤ) → int_bytes zs ≡ ints_bytes zs
same_bytes [] = refl
same_bytes (z ∷ zs) = ap (λ l. little_endian 4 (residue K.Int z) ++ l) (same_bytes zs)

all_held : (zs : List ℤ) → list_all (is_held K.Int) zs ≡ true → AreInts zs
all_held [] h = tt
all_held (z ∷ zs) h = (and_left (is_held K.Int z) (list_all (is_held K.Int) zs) h, all_held zs (and_right (is_held K.Int z) (list_all (is_held K.Int) zs) h))

-- what the machine reads from the bytes
module _ (m : Message) (is : IsMessage m) where
  abbrev source : List ℕ
  source = little_endian 4 (residue K.Int m.source)

  abbrev kind : List ℕ
  kind = little_endian 4 (residue K.Int m.kind)

  front_is : source ++ (kind ++ int_bytes m.arg) ≡ message_bytes m
  front_is = ap (λ l. source ++ (kind ++ l)) (same_bytes m.arg)

  front_long : length (source ++ (kind ++ int_bytes m.arg)) ≡ 32
  front_long =
      let a = length-little_endian 4 (residue K.Int m.source) in
      let b = length-little_endian 4 (residue K.Int m.kind) in
      let c = int_bytes_long m.arg in
      let six = is.six in
      omega (arith, a, b, c, six, length-append source (kind ++ int_bytes m.arg), length-append kind (int_bytes m.arg))

  front_read : message_of (source ++ (kind ++ int_bytes m.arg)) ≡ m
  front_read =
      let front = source ++ (kind ++ int_bytes m.arg) in
      let a = length-little_endian 4 (residue K.Int m.source) in
      let b = length-little_endian 4 (residue K.Int m.kind) in
      let past : drop 4 front ≡ kind ++ int_bytes m.arg = subst (λ n. drop n front ≡ kind ++ int_bytes m.arg) a (drop-append_seam source (kind ++ int_bytes m.arg)) in
      let past_8 : drop 8 front ≡ int_bytes m.arg = eight (source ++ kind) (int_bytes m.arg) front (sym (append_assoc source kind (int_bytes m.arg))) (omega (arith, a, b, length-append source kind)) in
      let source_is : int_of front ≡ m.source = (int_read m.source (kind ++ int_bytes m.arg) is.source).0 in
      let kind_is : int_of (drop 4 front) ≡ m.kind = ap int_of past ∙ (int_read m.kind (int_bytes m.arg) is.kind).0 in
      let args_are : ints_of 6 (drop 8 front) ≡ m.arg = ap (ints_of 6) (past_8 ∙ sym (append-nil (int_bytes m.arg))) ∙ (ap (λ n. ints_of n (int_bytes m.arg ++ [])) (sym is.six) ∙ ints_read m.arg [] (all_held m.arg is.args)) in
      ap (λ z. record { source = z; kind = int_of (drop 4 front); arg = ints_of 6 (drop 8 front) }) source_is
      ∙ (ap (λ z. record { source = m.source; kind = z; arg = ints_of 6 (drop 8 front) }) kind_is
      ∙ ap (λ zs. record { source = m.source; kind = m.kind; arg = zs }) args_are)
    where
      eight : (a b l : List ℕ) → l ≡ a ++ b → length a ≡ 8 → drop 8 l ≡ b
      eight a b l e n = ap (drop 8) e ∙ subst (λ n. drop n (a ++ b) ≡ b) n (drop-append_seam a b)

-- the size of a struct of two ints and six
abbrev three : Shape → Shape → Shape → ℕ
three x y z =
    next_multiple (next_multiple (next_multiple (next_multiple 0 x.align + x.size) y.align + y.size) z.align + z.size) (max x.align (max y.align (max z.align 1)))

module _ (p : Program) (built : IsBuilt p.types) (u : ℕ) (t : MessageType p u) where
  int_shape : (w : ℕ) → slice_get p.types.types w ≡ Some (T.Int K.Int) → shape_of p.types w ≡ shape 4 4
  int_shape w e = shape_of-is p.types built w (T.Int K.Int) e

  array_shape : shape_of p.types t.c.ty ≡ shape 24 4
  array_shape =
      shape_of-is p.types built t.c.ty (T.Array t.item 6) t.array_c ∙ ap (λ (x : Shape). shape (x.size * 6) x.align) (int_shape t.item t.int_item)

  message_size : size_of p.types u ≡ 32
  message_size =
      ap (λ (s : Shape). s.size) (shape_of-is p.types built u (T.Struct t.n) t.is_struct)
      ∙ (ap (λ fs. (struct_shape (shape_of p.types) fs).size) t.fields
      ∙ (ap (λ x. three x (shape_of p.types t.b.ty) (shape_of p.types t.c.ty)) (int_shape t.a.ty t.int_a)
      ∙ (ap (λ y. three (shape 4 4) y (shape_of p.types t.c.ty)) (int_shape t.b.ty t.int_b) ∙ ap (λ z. three (shape 4 4) (shape 4 4) z) array_shape)))

  module _ (s : Store) (m : Message) (is : IsMessage m) where
    abbrev items : List Value
    items = map Int m.arg

    items_typed : (zs : List ℤ) → AreInts zs → list_all (has_type p s t.item) (map Int zs) ≡ true
    items_typed [] h = refl
    items_typed (z ∷ zs) h =
        and_in (has_type p s t.item (Int z)) _ (typed_int p built s t.item K.Int z t.int_item h.0) (items_typed zs h.1)

    length_map : (zs : List ℤ) → length (map Int zs) ≡ length zs
    length_map [] = refl
    length_map (z ∷ zs) = ap suc (length_map zs)

    array_typed : has_type p s t.c.ty (Array items) ≡ true
    array_typed =
        let six : length items ≡ 6 = length_map m.arg ∙ is.six in
        let count : nat_eq (length items) 6 ≡ true = grind (arith, nat_tests, six) in
        typed_is p built s t.c.ty (T.Array t.item 6) t.array_c (Array items)
        ∙ (ap (λ l. layer_has_type p s (has_type p s) (T.Array t.item 6) l) (outs-Array items) ∙ and_in (nat_eq (length items) 6) _ count (items_typed m.arg (all_held m.arg is.args)))

    abbrev parts : List Value
    parts = Int m.source ∷ Int m.kind ∷ Array items ∷ []

    -- the value of a message is one of the type
    message_typed : has_type p s u (message_value m) ≡ true
    message_typed =
        typed_is p built s u (T.Struct t.n) t.is_struct (Struct parts)
        ∙ (ap (λ l. layer_has_type p s (has_type p s) (T.Struct t.n) l) (outs-Struct parts)
        ∙ (ap (λ fs. fields_have_types (has_type p s) fs parts) t.fields
        ∙ and_in (has_type p s t.a.ty (Int m.source)) _ (typed_int p built s t.a.ty K.Int m.source t.int_a is.source) (and_in (has_type p s t.b.ty (Int m.kind)) _ (typed_int p built s t.b.ty K.Int m.kind t.int_b is.kind) (and_in (has_type p s t.c.ty (Array items)) true array_typed refl))))

    abbrev as_value : IsMessageValue p built s (message_value m)
    as_value = record {
      source = m.source;
      kind = m.kind;
      args = m.arg;
      arg = Array items;
      out = outs-Struct parts;
      out_arg = outs-Array items;
      held_source = is.source;
      held_kind = is.kind;
      held = all_held m.arg is.args;
      six = is.six;
    }

    value_bytes : (a : Addresses) → bytes_of p.types a u (message_value m) ≡ message_bytes m
    value_bytes a =
        let b = message_bytes_are p built s u t a (message_value m) as_value in
        let front = source m is ++ (kind m is ++ int_bytes m.arg) in
        let whole = length-bytes_of p s built a u (message_value m) message_typed in
        let size = message_size in
        let long = front_long m is in
        let joined = ap length b.1 in
        let none : length b.0 ≡ 0 = omega (arith, whole, size, long, joined, length-append front b.0) in
        b.1 ∙ (ap (λ l. front ++ l) (empty b.0 none) ∙ (append-nil front ∙ front_is m is))
      where
        empty : (l : List ℕ) → length l ≡ 0 → l ≡ []
        empty [] h = refl
        empty (x ∷ l) h = absurd (omega (arith, h))

pub messages_have_bytes : MessagesHaveBytes
messages_have_bytes p valid a u h m is =
    let t = message_type p u h in
    let none : Store = record { objects = [] } in
    record {
      bytes = value_bytes p valid.built u t none m is a;
      long = sym (ap length (front_is m is)) ∙ front_long m is;
      read = sym (ap message_of (front_is m is)) ∙ front_read m is;
    }

-- the object of a global for messages
record MessageObject (p : Program) (s : Store) (k : ℕ) : Type 0 where
  ty : ℕ
  type : MessageType p ty
  object : Object
  at : slice_get s.objects k ≡ Some object
  elem : object.elem ≡ ty
  count : object.count ≡ 1
  value : Value
  live : object.elements ≡ Some (value ∷ [])

module _ (p : Program) (valid : IsValid p) (s : Store) (ok : IsStore p s) where
  equal : (a b : ℕ) → nat_eq a b ≡ true → a ≡ b
  equal a b h = grind (arith, nat_tests, h)

  -- what a test says of the object of a global
  record IsObjectOf (g : Text.Global) (x : Object) : Type 0 where
    live : is_live x ≡ true
    elem : x.elem ≡ global_elem p.types g.ty
    count : x.count ≡ global_count p.types g.ty

  is_object_of : (g : Text.Global) (x : Object) → is_global_object p g x ≡ true → IsObjectOf g x
  is_object_of g x h =
      let same_elem = nat_eq x.elem (global_elem p.types g.ty) in
      let same_count = nat_eq x.count (global_count p.types g.ty) in
      let rest : is_live x && (same_elem && same_count) ≡ true = and_right _ _ h in
      let more = and_right (is_live x) (same_elem && same_count) rest in
      record {
        live = and_left (is_live x) (same_elem && same_count) rest;
        elem = equal x.elem (global_elem p.types g.ty) (and_left same_elem same_count more);
        count = equal x.count (global_count p.types g.ty) (and_right same_elem same_count more);
      }

  object_of : (k : ℕ) (word : List ℕ) (g : Text.Global) (x : Object) → slice_get s.objects k ≡ Some x → is_message_global p word g ≡ true → is_global_object p g x ≡ true → MessageObject p s k
  object_of k word g x at named h =
      let type = message_type p g.ty (and_left (is_message p (slice_get p.types.types g.ty)) (is_zero_start g.init) (and_right (is_called p.names g.name word) (is_message p (slice_get p.types.types g.ty) && is_zero_start g.init) named)) in
      let is = is_object_of g x h in
      by type (is.elem ∙ ap (elem_in g.ty) type.is_struct) (is.count ∙ ap count_in type.is_struct) x.elements refl is.live
    where
      by : MessageType p g.ty → x.elem ≡ g.ty → x.count ≡ 1 → (o : Option (List Value)) → x.elements ≡ o → elim o as (λ _. Bool) [ None ↦ false | Some elements ↦ true ] ≡ true → MessageObject p s k
      by type elem count None e l = absurd (cc)
      by type elem count (Some []) e l = let long = (elements_typed p s ok k x [] at e).0 in absurd (omega (arith, long, count))
      by type elem count (Some (v ∷ [])) e l = record { ty = g.ty; type = type; object = x; at = at; elem = elem; count = count; value = v; live = e }
      by type elem count (Some (v ∷ w ∷ vs)) e l = let long = (elements_typed p s ok k x (v ∷ w ∷ vs) at e).0 in absurd (omega (arith, long, count))

  message_object : (k : ℕ) → k < 2 → MessageObject p s k
  message_object k low = by p.globals s.objects refl (messages_valid p valid) ok.objects k low
    where
      by : (gs : List Text.Global) (xs : List Object) → s.objects ≡ xs → has_messages p gs ≡ true → are_objects p gs xs ≡ true → (k : ℕ) → k < 2 → MessageObject p s k
      by [] xs e h g k low = absurd (cc)
      by (a ∷ []) xs e h g k low = absurd (cc)
      by (a ∷ b ∷ rest) [] e h g k low = absurd (cc)
      by (a ∷ b ∷ rest) (x ∷ []) e h g k low = absurd (no (is_global_object p a x) g)
        where
          no : (t : Bool) → t && false ≡ true → ⊥
          no true h = cc
          no false h = cc
      by (a ∷ b ∷ rest) (x ∷ y ∷ xs) e h g zero low =
          object_of 0 (codes "m_in") a x (ap (λ l. slice_get l 0) e) (and_left (is_message_global p (codes "m_in") a) (is_message_global p (codes "m_out") b) h) (and_left (is_global_object p a x) _ g)
      by (a ∷ b ∷ rest) (x ∷ y ∷ xs) e h g (suc zero) low =
          object_of 1 (codes "m_out") b y (ap (λ l. slice_get l 1) e) (and_right (is_message_global p (codes "m_in") a) (is_message_global p (codes "m_out") b) h) (and_left (is_global_object p b y) _ (and_right (is_global_object p a x) _ g))
      by (a ∷ b ∷ rest) (x ∷ y ∷ xs) e h g (suc (suc k)) low = absurd (omega (arith, low))

  -- a message put there
  module _ (k : ℕ) (o : MessageObject p s k) (m : Message) (is : IsMessage m) where
    abbrev new : List Value
    new = message_value m ∷ []

    abbrev changed : Store
    changed = with_object s k (with_elements o.object (Some new))

    made : store_with s (place k (Index 0 ∷ [])) (message_value m) ≡ Ok changed
    made =
        ap (λ q. or_trap BadCode (then_option q (λ x. then_option x.elements (λ elements. then_option (with_element_part elements (Index 0 ∷ []) (message_value m)) (λ changed. Some (with_object s k (with_elements x (Some changed)))))))) o.at
        ∙ ap (λ q. or_trap BadCode (then_option q (λ elements. then_option (with_element_part elements (Index 0 ∷ []) (message_value m)) (λ changed. Some (with_object s k (with_elements o.object (Some changed))))))) o.live

    keeps : IsStore p changed
    keeps =
        let x = o.object in
        let test : nat_lt 0 x.count ≡ true = ap (nat_lt 0) o.count in
        assigned_keeps p valid.built s ok (place k (Index 0 ∷ [])) x (Part.place x.elem (0 * size_of p.types x.elem + 0)) (message_value m) changed o.at (ap (λ b. cond b (Some (Part.place x.elem (0 * size_of p.types x.elem + 0))) None) test) (subst (λ t. has_type p s t (message_value m) ≡ true) (sym o.elem) (message_typed p valid.built o.ty o.type s m is)) made

    puts : PutsMessage p s k m
    puts =
        let x = o.object in
        let sites = length p.sites in
        let a = addresses p.types s in
        let st = stands sites p.types FIRST_ADDRESS s.objects k x o.at in
        let bytes : elements_bytes p.types a x.elem new ≡ message_bytes m = append-nil (bytes_of p.types a x.elem (message_value m)) ∙ (ap (λ t. bytes_of p.types a t (message_value m)) o.elem ∙ value_bytes p valid.built o.ty o.type s m is a) in
        record {
          next = changed;
          is = made;
          store = keeps;
          row = row_of sites p.types st.address x;
          at = st.row;
          content = sym (ap (insert (content_of p.types s) st.address) bytes) ∙ insert_content sites p.types x (o.value ∷ []) new o.live s k o.at;
          rows = rows_same sites p.types x (o.value ∷ []) new o.live FIRST_ADDRESS s.objects k o.at;
          last = end_same sites p.types x (o.value ∷ []) new o.live FIRST_ADDRESS s.objects k o.at;
        }

pub take_messages : TakeMessages
take_messages p valid s ok k low m is = puts p valid s ok k (message_object p valid s ok k low) m is
