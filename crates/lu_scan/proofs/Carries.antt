-- The words in the bytes of a value go, in order, to the objects to which its carried pointers go.
use Rattle.std.proofs.Common.{◌≡◌, ◌∙◌, inl, inr, refl, ap, sym, subst, Bool, true, false, ◌&&◌, ℕ, zero, suc, ◌+◌, ◌-◌, ◌<◌, ◌≤◌, ◌^◌, List, [], ◌∷◌, ◌++◌, length, min, take, drop, Option, Some, None, slice_get, if◌then◌else◌, append_assoc, arith, nat_eq}
use Rattle.std.specs.Prelude.{Contains, flat_map}
use Rattle.std.specs.List.{list_all}
use Rattle.std.specs.Option.{option_map_or}
use Rattle.std.specs.Int.{from_le_bytes, w32}
use Rattle.std.proofs.Math.Seq.{drop-append_seam}
use Rattle.std.proofs.lemmas.Bool.Decides.{nat_tests}
use Rattle.std.proofs.lemmas.List.{length-append, length-replicate, length-take, take-append-drop}
use Rattle.std.proofs.lemmas.Nat.{from_le_bytes-to_le_bytes_4}
use Rattle.std.proofs.lemmas.Option.{slice_get_within}
use Rattle.lu_spec.specs.LittleEndian.{little_endian}
use Rattle.lu_spec.specs.Then.{then_option}
use Rattle.lu_spec.proofs.LittleEndianLemmas.{length-little_endian}
use Rattle.c_types.specs.declared.parts.FieldDef.{FieldDef}
use Rattle.c_types.specs.declared.parts.Ty.{Ty}
use Rattle.c_types.specs.declared.parts.Ty.TheVariants as T
use Rattle.c_types.specs.Chain.{field_types, held_by, held_in, is_settled}
use Rattle.c_types.specs.Tables.{members_of}
use Rattle.c_types.specs.Layout.{Shapes, IsPointerSize, shape_of, size_of, field_start, field_end, struct_shape, members_start, union_shape}
use Rattle.c_types.specs.Recursion.{at_type}
use Rattle.c_types.specs.Refusal.{IsBuilt}
use Rattle.c_types.proofs.Capped.{next_multiple-above}
use Rattle.c_types.proofs.Numbered.{pointer_sized, members_few}
use Rattle.c_types.proofs.PlaceLaws.{low}
use Rattle.c_types.proofs.Settled.{settled-edge}
use Rattle.c_types.proofs.ShapeLaws.{settled}
use Rattle.src_tree.specs.declared.program.Program.{Program}
use Rattle.src_tree.specs.declared.value.Store.{Store}
use Rattle.src_tree.specs.declared.value.Value.{Value, out-Value}
use Rattle.src_tree.specs.declared.value.Value.TheOpen as V
use Rattle.src_meaning.specs.Objects.{addresses}
use Rattle.src_meaning.specs.Paths.{Layer}
use Rattle.src_meaning.specs.Store.{has_type, layer_has_type, fields_have_types, is_address}
use Rattle.src_meaning.specs.ValueBytes.{Addresses, Bytes, zeros, pointer_in, parts_in, fields_bytes, items_bytes, body_bytes, union_bytes, bytes_step, bytes_of, elements_bytes}
use Rattle.src_meaning.proofs.LayoutLengths.{and_left, and_right, has_type-is, bytes_of-is, length-bytes_of, head_in, tail_in, field_in, array_layer, typed_within, member-within, member_known}
use Rattle.lu_image.specs.declared.handler.Handler.{Handler}
use Rattle.lu_image.specs.Correspondence.{pair_in}
use Rattle.lu_image_store.specs.Versions.{Versions, old_types, new_types, new_type, old_size, structs_pair, unions_pair, field_pairs, member_pairs}
use Rattle.lu_image_store.specs.Forms.{handler_of, old_fields, new_fields, form_pairs}
use Rattle.lu_image_store.specs.Carried as C
use Rattle.lu_image_store.proofs.Local.{carried_in-is}
use Rattle.lu_scan.specs.Scan.{word_at, word_list, pointer_words, pair_words, fields_words, struct_words, member_words, items_words, struct_pair_words, union_pair_words, array_words, struct_in, union_in, array_in, scan_step, no_words, words_in}
use Rattle.lu_scan.specs.Targets.{address_in, GoInTurn, AreWords}
use Rattle.lu_scan.specs.Laws.{WordsGo}

-- words
pub word_at-front : (a b c d : ℕ) (rest : List ℕ) → word_at (a ∷ b ∷ c ∷ d ∷ rest) ≡ from_le_bytes w32 (a ∷ b ∷ c ∷ d ∷ [])
word_at-front a b c d rest = refl

word_of_4 : (n : ℕ) (rest : List ℕ) → n < 2 ^ 32 → word_at (little_endian 4 n ++ rest) ≡ n
unfolding little_endian
word_of_4 n rest few = from_le_bytes-to_le_bytes_4 n few

word_of_8 : (n : ℕ) (rest : List ℕ) → n < 2 ^ 32 → word_at (little_endian 8 n ++ rest) ≡ n
unfolding little_endian
word_of_8 n rest few = from_le_bytes-to_le_bytes_4 n few

word_of : (w n : ℕ) (rest : List ℕ) → IsPointerSize w → n < 2 ^ 32 → word_at (little_endian w n ++ rest) ≡ n
word_of w n rest (inl e) few = subst (λ w. word_at (little_endian w n ++ rest) ≡ n) (sym e) (word_of_4 n rest few)
word_of w n rest (inr e) few = subst (λ w. word_at (little_endian w n ++ rest) ≡ n) (sym e) (word_of_8 n rest few)

drop_front : (front rest bytes : List ℕ) (n : ℕ) → length front ≡ n → bytes ≡ front ++ rest → drop n bytes ≡ rest
drop_front front rest bytes n long is =
    ap (λ k. drop k bytes) (sym long) ∙ (ap (drop (length front)) is ∙ drop-append_seam front rest)

items_append : (rec : Value → List ℕ) (vs ws : List Value) → items_bytes rec (vs ++ ws) ≡ items_bytes rec vs ++ items_bytes rec ws
items_append rec [] ws = refl
items_append rec (v ∷ vs) ws =
    ap (λ l. rec v ++ l) (items_append rec vs ws) ∙ sym (append_assoc (rec v) (items_bytes rec vs) (items_bytes rec ws))

all_taken : (n : ℕ) (typed : Value → Bool) (vs : List Value) → list_all typed vs ≡ true → list_all typed (take n vs) ≡ true
all_taken zero typed vs h = refl
all_taken (suc n) typed [] h = refl
all_taken (suc n) typed (v ∷ vs) h =
    both (typed v) (list_all typed (take n vs)) (and_left (typed v) (list_all typed vs) h) (all_taken n typed vs (and_right (typed v) (list_all typed vs) h))
  where
    both : (a b : Bool) → a ≡ true → b ≡ true → a && b ≡ true
    both a b e h = cc

module _ (m : Versions) (program : Program) (s : Store) where
  -- the program, with the pairing's old types
  abbrev pub p : Program
  p = record program { types = old_types m }

  module _ (built : IsBuilt (old_types m)) (fit : AreWords p s) where
    abbrev Turn : List ℕ → List ℕ → Type 0
    Turn = GoInTurn p s

    abbrev a : Addresses
    a = addresses (old_types m) s

    abbrev rec : Bytes
    rec = bytes_of (old_types m) a

    abbrev has : ℕ → Value → Bool
    has = has_type p s

    abbrev known : Shapes
    known = shape_of (old_types m)

    turn-append : (ws os us qs : List ℕ) → Turn ws os → Turn us qs → Turn (ws ++ us) (os ++ qs)
    turn-append [] [] us qs one two = two
    turn-append [] (o ∷ os) us qs one two = absurd one
    turn-append (w ∷ ws) [] us qs one two = absurd one
    turn-append (w ∷ ws) (o ∷ os) us qs one two = (one.0, turn-append ws os us qs one.1 two)

    -- a part of a type, among the bytes
    abbrev PartTurns : ℕ → (Option Ty → List ℕ → List ℕ) → (Option Ty → Value → List ℕ) → Type 0
    PartTurns t part carry = (new : Option Ty) (v : Value) (rest : List ℕ) → has t v ≡ true → Turn (part new (rec t v ++ rest)) (carry new v)

    pair_turns : (t : ℕ) (part : Option Ty → List ℕ → List ℕ) (carry : Option Ty → Value → List ℕ) → PartTurns t part carry → (v : Value) (rest bytes : List ℕ) → bytes ≡ rec t v ++ rest → has t v ≡ true → (g : Option FieldDef) → Turn (pair_words m part bytes g) (C.in_pair m carry v g)
    pair_turns t part carry turns v rest bytes is h None = tt
    pair_turns t part carry turns v rest bytes is h (Some g) =
        subst (λ b. Turn (part (new_type m g.ty) b) (carry (new_type m g.ty) v)) (sym is) (turns (new_type m g.ty) v rest h)

    module _ (part : ℕ → Option Ty → List ℕ → List ℕ) (carry : ℕ → Option Ty → Value → List ℕ) (to : List FieldDef) (size : ℕ) (bytes rest : List ℕ) where
      fields_turn : (fs : List FieldDef) → ((u : ℕ) → Contains (field_types fs) u → PartTurns u (part u) (carry u)) → (js : List (Option ℕ)) (vs : List Value) (end : ℕ) (front : List ℕ) → length front ≡ end → bytes ≡ front ++ (fields_bytes known rec size fs vs end ++ rest) → fields_have_types has fs vs ≡ true → Turn (fields_words m part to bytes fs js end) (C.in_fields m carry to fs js vs)
      fields_turn [] turns js vs end front long is h = tt
      fields_turn (f ∷ fs) turns [] vs end front long is h = tt
      fields_turn (f ∷ fs) turns (j ∷ js) [] end front long is h = absurd (cc)
      fields_turn (f ∷ fs) turns (j ∷ js) (v ∷ vs) end front long is h =
          let one : has f.ty v ≡ true = and_left (has f.ty v) (fields_have_types has fs vs) h in
          let more : fields_have_types has fs vs ≡ true = and_right (has f.ty v) (fields_have_types has fs vs) h in
          let start = field_start known end f in
          let above : end ≤ start = next_multiple-above end (known f.ty).align (low (old_types m) built f.ty) in
          let gap = zeros (start - end) in
          let tail = fields_bytes known rec size fs vs (field_end known end f) in
          let ahead : bytes ≡ (front ++ gap) ++ (rec f.ty v ++ (tail ++ rest)) =
          is ∙ (ap (λ l. front ++ l) (append_assoc gap (rec f.ty v ++ tail) rest ∙ ap (λ l. gap ++ l) (append_assoc (rec f.ty v) tail rest)) ∙ sym (append_assoc front gap (rec f.ty v ++ (tail ++ rest)))) in
          let reached : length (front ++ gap) ≡ start = simp (length-append, length-replicate) (omega (arith, long, above)) in
          let size : length (rec f.ty v) ≡ size_of (old_types m) f.ty = length-bytes_of p s built a f.ty v one in
          let passed : length ((front ++ gap) ++ rec f.ty v) ≡ field_end known end f = length-append (front ++ gap) (rec f.ty v) ∙ omega (arith, reached, size) in
          let here = pair_turns f.ty (part f.ty) (carry f.ty) (turns f.ty (head_in f fs)) v (tail ++ rest) (drop start bytes) (drop_front (front ++ gap) (rec f.ty v ++ (tail ++ rest)) bytes start reached ahead) one (then_option j (slice_get to)) in
          let later = fields_turn fs (λ u c. turns u (tail_in f fs u c)) js vs (field_end known end f) ((front ++ gap) ++ rec f.ty v) passed (ahead ∙ sym (append_assoc (front ++ gap) (rec f.ty v) (tail ++ rest))) more in
          turn-append (pair_words m (part f.ty) (drop start bytes) (then_option j (slice_get to))) (C.in_pair m (carry f.ty) v (then_option j (slice_get to))) (fields_words m part to bytes fs js (field_end known end f)) (C.in_fields m carry to fs js vs) here later

    -- items, one behind the other
    items_turn : (t : ℕ) (part : Option Ty → List ℕ → List ℕ) (carry : Option Ty → Value → List ℕ) → PartTurns t part carry → (new : Option Ty) (vs : List Value) (rest bytes : List ℕ) → bytes ≡ items_bytes (rec t) vs ++ rest → list_all (has t) vs ≡ true → Turn (items_words (part new) (size_of (old_types m) t) (length vs) bytes) (flat_map (carry new) vs)
    items_turn t part carry turns new [] rest bytes is h = tt
    items_turn t part carry turns new (v ∷ vs) rest bytes is h =
        let one : has t v ≡ true = and_left (has t v) (list_all (has t) vs) h in
        let ahead : bytes ≡ rec t v ++ (items_bytes (rec t) vs ++ rest) = is ∙ append_assoc (rec t v) (items_bytes (rec t) vs) rest in
        let here : Turn (part new bytes) (carry new v) = subst (λ b. Turn (part new b) (carry new v)) (sym ahead) (turns new v (items_bytes (rec t) vs ++ rest) one) in
        let size : length (rec t v) ≡ size_of (old_types m) t = length-bytes_of p s built a t v one in
        let later = items_turn t part carry turns new vs rest (drop (size_of (old_types m) t) bytes) (drop_front (rec t v) (items_bytes (rec t) vs ++ rest) bytes (size_of (old_types m) t) size ahead) (and_right (has t v) (list_all (has t) vs) h) in
        turn-append (part new bytes) (carry new v) (items_words (part new) (size_of (old_types m) t) (length vs) (drop (size_of (old_types m) t) bytes)) (flat_map (carry new) vs) here later

    -- the first items
    pub first_items_turn : (t : ℕ) (part : Option Ty → List ℕ → List ℕ) (carry : Option Ty → Value → List ℕ) → PartTurns t part carry → (new : Option Ty) (l : ℕ) (vs : List Value) (rest bytes : List ℕ) → bytes ≡ items_bytes (rec t) vs ++ rest → list_all (has t) vs ≡ true → Turn (items_words (part new) (size_of (old_types m) t) (min l (length vs)) bytes) (flat_map (carry new) (take l vs))
    first_items_turn t part carry turns new l vs rest bytes is h =
        let split : bytes ≡ items_bytes (rec t) (take l vs) ++ (items_bytes (rec t) (drop l vs) ++ rest) =
        is ∙ (ap (λ ws. items_bytes (rec t) ws ++ rest) (sym (take-append-drop l vs)) ∙ (ap (λ b. b ++ rest) (items_append (rec t) (take l vs) (drop l vs)) ∙ append_assoc (items_bytes (rec t) (take l vs)) (items_bytes (rec t) (drop l vs)) rest)) in
        subst (λ n. Turn (items_words (part new) (size_of (old_types m) t) n bytes) (flat_map (carry new) (take l vs))) (length-take l vs) (items_turn t part carry turns new (take l vs) (items_bytes (rec t) (drop l vs) ++ rest) bytes split (all_taken l (has t) vs h))

    -- what is known of the types that a type holds
    abbrev Below : ℕ → ℕ → Type 0
    Below n u = (handled : Bool) → PartTurns u (words_in m n u handled) (C.carried_in m u handled)

    -- a pointer
    word_turns : (w : ℕ) → IsPointerSize w → (o k : ℕ) (rest : List ℕ) → is_address p s o k ≡ true → Turn (word_list (word_at (little_endian w (address_in a o + k) ++ rest))) (o ∷ [])
    word_turns w sized o k rest h =
        let bounds = fit o k h in
        let word = address_in a o + k in
        let other : nat_eq word 0 ≡ false = grind (arith, nat_tests, bounds.0) in
        let listed : word_list word ≡ word ∷ [] = ap (λ b. if b then [] else word ∷ []) other in
        subst (λ ws. Turn ws (o ∷ [])) (sym (ap word_list (word_of w word rest sized bounds.1) ∙ listed)) ((k, h, refl), tt)

    null_turns : (w : ℕ) → IsPointerSize w → (rest : List ℕ) → Turn (word_list (word_at (little_endian w 0 ++ rest))) []
    null_turns w sized rest =
        subst (λ ws. Turn ws []) (sym (ap word_list (word_of w 0 rest sized (omega arith)))) tt

    pointer_turns : (u : ℕ) (new : Option Ty) (l : Layer) (rest : List ℕ) → layer_has_type p s has (T.Pointer u) l ≡ true → Turn (pointer_words new (little_endian (old_types m).pointer (pointer_in a l) ++ rest)) (C.in_pointer new l)
    pointer_turns u None l rest h = tt
    pointer_turns u (Some ty) V.Null rest h = null_turns (old_types m).pointer (pointer_sized (old_types m) built.numbered) rest
    pointer_turns u (Some ty) (V.Pointer o k) rest h = word_turns (old_types m).pointer (pointer_sized (old_types m) built.numbered) o k rest h
    pointer_turns u (Some ty) (V.Int z) rest h = absurd (cc)
    pointer_turns u (Some ty) (V.Function f) rest h = absurd (cc)
    pointer_turns u (Some ty) (V.Struct vs) rest h = absurd (cc)
    pointer_turns u (Some ty) (V.Array vs) rest h = absurd (cc)
    pointer_turns u (Some ty) (V.Union k body) rest h = absurd (cc)

    as_pointer : (l : Layer) → layer_has_type p s has T.VoidPointer l ≡ true → layer_has_type p s has (T.Pointer 0) l ≡ true
    as_pointer (V.Pointer o k) h = h
    as_pointer V.Null h = refl
    as_pointer (V.Int z) h = absurd (cc)
    as_pointer (V.Function f) h = absurd (cc)
    as_pointer (V.Struct vs) h = absurd (cc)
    as_pointer (V.Array vs) h = absurd (cc)
    as_pointer (V.Union k body) h = absurd (cc)

    if_turns : (b : Bool) (ws os : List ℕ) → Turn ws os → Turn (if b then ws else []) (if b then os else [])
    if_turns true ws os h = h
    if_turns false ws os h = tt

    module _ (n : ℕ) where
      -- a struct
      plain_turns : (n' : ℕ) (handled : Bool) (old r : ℕ) (js : List (Option ℕ)) (vs : List Value) (rest : List ℕ) → ((u : ℕ) → Contains (field_types (old_fields m old)) u → Below n u) → fields_have_types has (old_fields m old) vs ≡ true → Turn (fields_words m (λ t. words_in m n t handled) (new_fields m r) (fields_bytes known rec n' (old_fields m old) vs 0 ++ rest) (old_fields m old) js 0) (C.in_fields m (λ t. C.carried_in m t handled) (new_fields m r) (old_fields m old) js vs)
      plain_turns n' handled old r js vs rest below h =
          fields_turn (λ t. words_in m n t handled) (λ t. C.carried_in m t handled) (new_fields m r) n' (fields_bytes known rec n' (old_fields m old) vs 0 ++ rest) rest (old_fields m old) (λ u c. below u c handled) js vs 0 [] refl refl h

      struct_turns : (handled : Bool) (h : Option Handler) (old r : ℕ) (vs : List Value) (rest : List ℕ) → ((u : ℕ) → Contains (field_types (old_fields m old)) u → Below n u) → fields_have_types has (old_fields m old) vs ≡ true → Turn (struct_words m (words_in m n) handled h old r (fields_bytes known rec (struct_shape known (old_fields m old)).size (old_fields m old) vs 0 ++ rest)) (C.in_struct m (C.carried_in m) handled h old r vs)
      struct_turns true (Some h) old r vs rest below typed = plain_turns (struct_shape known (old_fields m old)).size false old h.form (form_pairs m old h.form) vs rest below typed
      struct_turns true None old r vs rest below typed = plain_turns (struct_shape known (old_fields m old)).size true old r (field_pairs m old) vs rest below typed
      struct_turns false (Some h) old r vs rest below typed = plain_turns (struct_shape known (old_fields m old)).size false old r (field_pairs m old) vs rest below typed
      struct_turns false None old r vs rest below typed = plain_turns (struct_shape known (old_fields m old)).size false old r (field_pairs m old) vs rest below typed

      struct_type_turns : (handled : Bool) (old : ℕ) (new : Option Ty) (l : Layer) (rest : List ℕ) → ((u : ℕ) → Contains (field_types (old_fields m old)) u → Below n u) → layer_has_type p s has (T.Struct old) l ≡ true → Turn (option_map_or (struct_pair_words m (words_in m n) handled old (fields_bytes known rec (struct_shape known (old_fields m old)).size (old_fields m old) (parts_in l) 0 ++ rest)) (struct_in new) []) (C.in_struct_type m (C.carried_in m) handled old new l)
      struct_type_turns handled old None l rest below h = tt
      struct_type_turns handled old (Some (T.Struct r)) (V.Struct vs) rest below h =
          if_turns (structs_pair m old r) (struct_words m (words_in m n) handled (handler_of m old) old r (fields_bytes known rec (struct_shape known (old_fields m old)).size (old_fields m old) vs 0 ++ rest)) (C.in_struct m (C.carried_in m) handled (handler_of m old) old r vs) (struct_turns handled (handler_of m old) old r vs rest below h)
      struct_type_turns handled old (Some (T.Struct r)) (V.Int z) rest below h = absurd (cc)
      struct_type_turns handled old (Some (T.Struct r)) V.Null rest below h = absurd (cc)
      struct_type_turns handled old (Some (T.Struct r)) (V.Pointer o k) rest below h = absurd (cc)
      struct_type_turns handled old (Some (T.Struct r)) (V.Function f) rest below h = absurd (cc)
      struct_type_turns handled old (Some (T.Struct r)) (V.Array vs) rest below h = absurd (cc)
      struct_type_turns handled old (Some (T.Struct r)) (V.Union k body) rest below h = absurd (cc)
      struct_type_turns handled old (Some (T.Int kind)) l rest below h = tt
      struct_type_turns handled old (Some (T.Pointer t)) l rest below h = tt
      struct_type_turns handled old (Some T.VoidPointer) l rest below h = tt
      struct_type_turns handled old (Some (T.Function g)) l rest below h = tt
      struct_type_turns handled old (Some (T.Union u)) l rest below h = tt
      struct_type_turns handled old (Some (T.Array t c)) l rest below h = tt

      -- an array
      array_type_turns : (handled : Bool) (t c : ℕ) (new : Option Ty) (l : Layer) (rest : List ℕ) → Below n t → layer_has_type p s has (T.Array t c) l ≡ true → Turn (option_map_or (array_words m (words_in m n t handled) t c (items_bytes (rec t) (parts_in l) ++ rest)) (array_in new) []) (C.in_array_type m (C.carried_in m t handled) new l)
      array_type_turns handled t c None l rest below h = tt
      array_type_turns handled t c (Some (T.Array u d)) (V.Array vs) rest below h =
          let parts = array_layer p s has t c (V.Array vs) h in
          subst (λ k. Turn (items_words (words_in m n t handled (new_type m u)) (size_of (old_types m) t) (min d k) (items_bytes (rec t) vs ++ rest)) (flat_map (C.carried_in m t handled (new_type m u)) (take d vs))) parts.0 (first_items_turn t (words_in m n t handled) (C.carried_in m t handled) (below handled) (new_type m u) d vs rest (items_bytes (rec t) vs ++ rest) refl parts.1)
      array_type_turns handled t c (Some (T.Array u d)) (V.Int z) rest below h = absurd (cc)
      array_type_turns handled t c (Some (T.Array u d)) V.Null rest below h = absurd (cc)
      array_type_turns handled t c (Some (T.Array u d)) (V.Pointer o k) rest below h = absurd (cc)
      array_type_turns handled t c (Some (T.Array u d)) (V.Function f) rest below h = absurd (cc)
      array_type_turns handled t c (Some (T.Array u d)) (V.Struct vs) rest below h = absurd (cc)
      array_type_turns handled t c (Some (T.Array u d)) (V.Union k body) rest below h = absurd (cc)
      array_type_turns handled t c (Some (T.Int kind)) l rest below h = tt
      array_type_turns handled t c (Some (T.Pointer u)) l rest below h = tt
      array_type_turns handled t c (Some T.VoidPointer) l rest below h = tt
      array_type_turns handled t c (Some (T.Function g)) l rest below h = tt
      array_type_turns handled t c (Some (T.Struct u)) l rest below h = tt
      array_type_turns handled t c (Some (T.Union u)) l rest below h = tt

      -- a union
      member_turns : (handled : Bool) (old r k : ℕ) (body : Value) (d : FieldDef) (bytes rest : List ℕ) → slice_get (members_of (old_types m) old) k ≡ Some d → Below n d.ty → has d.ty body ≡ true → bytes ≡ rec d.ty body ++ rest → Turn (member_words m (λ t. words_in m n t handled) old r k bytes) (C.in_union m (λ t. C.carried_in m t handled) old r k body)
      member_turns handled old r k body d bytes rest e below h is =
          let to = then_option (pair_in (member_pairs m old) k) (slice_get (members_of (new_types m) r)) in
          let words : Option FieldDef → List ℕ = λ o. option_map_or (λ f. pair_words m (words_in m n f.ty handled) bytes to) o [] in
          let objects : Option FieldDef → List ℕ = λ o. option_map_or (λ f. C.in_pair m (C.carried_in m f.ty handled) body to) o [] in
          subst (λ o. Turn (words o) (objects o)) (sym e) (pair_turns d.ty (words_in m n d.ty handled) (C.carried_in m d.ty handled) (below handled) body rest bytes is h to)

      union_turns : (handled : Bool) (old r k : ℕ) (body : Value) (rest : List ℕ) → ((u : ℕ) → Contains (field_types (members_of (old_types m) old)) u → Below n u) → layer_has_type p s has (T.Union old) (V.Union k body) ≡ true → Turn (union_pair_words m (λ t. words_in m n t handled) old (union_bytes known rec (members_of (old_types m) old) (V.Union k body) ++ rest) r) (C.in_union_type m (λ t. C.carried_in m t handled) old (Some (T.Union r)) (V.Union k body))
      union_turns handled old r k body rest below h =
          let ms = members_of (old_types m) old in
          let found = member_known p s has (slice_get ms k) body h in
          let d = found.0 in
          let low_start = member-within known (low (old_types m) built) rec ms k d found.1 in
          let few : k < 2 ^ 32 = (let inside = slice_get_within ms k d found.1 in let count = members_few (old_types m) built.numbered old in omega (arith, inside, count)) in
          let start = members_start known ms in
          let behind = zeros ((union_shape known ms).size - (start + (known d.ty).size)) in
          let bytes = union_bytes known rec ms (V.Union k body) ++ rest in
          let shown : union_bytes known rec ms (V.Union k body) ≡ little_endian 4 k ++ (zeros (start - 4) ++ (rec d.ty body ++ behind)) = ap (λ o. little_endian 4 k ++ (zeros (start - 4) ++ body_bytes known rec ms o body)) found.1 in
          let split : bytes ≡ little_endian 4 k ++ ((zeros (start - 4) ++ (rec d.ty body ++ behind)) ++ rest) = ap (λ b. b ++ rest) shown ∙ append_assoc (little_endian 4 k) (zeros (start - 4) ++ (rec d.ty body ++ behind)) rest in
          let number : word_at bytes ≡ k = ap word_at split ∙ word_of_4 k ((zeros (start - 4) ++ (rec d.ty body ++ behind)) ++ rest) few in
          let ahead : bytes ≡ (little_endian 4 k ++ zeros (start - 4)) ++ (rec d.ty body ++ (behind ++ rest)) =
          split ∙ (ap (λ b. little_endian 4 k ++ b) (append_assoc (zeros (start - 4)) (rec d.ty body ++ behind) rest ∙ ap (λ b. zeros (start - 4) ++ b) (append_assoc (rec d.ty body) behind rest)) ∙ sym (append_assoc (little_endian 4 k) (zeros (start - 4)) (rec d.ty body ++ (behind ++ rest)))) in
          let reached : length (little_endian 4 k ++ zeros (start - 4)) ≡ start = simp (length-append, length-replicate, length-little_endian) (omega (arith, low_start.0)) in
          let body_is : drop start bytes ≡ rec d.ty body ++ (behind ++ rest) = drop_front (little_endian 4 k ++ zeros (start - 4)) (rec d.ty body ++ (behind ++ rest)) bytes start reached ahead in
          let here = member_turns handled old r k body d (drop start bytes) (behind ++ rest) found.1 (below d.ty (field_in ms k d found.1)) found.2 body_is in
          if_turns (unions_pair m old r) (member_words m (λ t. words_in m n t handled) old r (word_at bytes) (drop start bytes)) (C.in_union m (λ t. C.carried_in m t handled) old r k body) (subst (λ j. Turn (member_words m (λ t. words_in m n t handled) old r j (drop start bytes)) (C.in_union m (λ t. C.carried_in m t handled) old r k body)) (sym number) here)

      union_type_turns : (handled : Bool) (old : ℕ) (new : Option Ty) (l : Layer) (rest : List ℕ) → ((u : ℕ) → Contains (field_types (members_of (old_types m) old)) u → Below n u) → layer_has_type p s has (T.Union old) l ≡ true → Turn (option_map_or (union_pair_words m (λ t. words_in m n t handled) old (union_bytes known rec (members_of (old_types m) old) l ++ rest)) (union_in new) []) (C.in_union_type m (λ t. C.carried_in m t handled) old new l)
      union_type_turns handled old None l rest below h = tt
      union_type_turns handled old (Some (T.Union r)) (V.Union k body) rest below h = union_turns handled old r k body rest below h
      union_type_turns handled old (Some (T.Union r)) (V.Int z) rest below h = absurd (cc)
      union_type_turns handled old (Some (T.Union r)) V.Null rest below h = absurd (cc)
      union_type_turns handled old (Some (T.Union r)) (V.Pointer o k) rest below h = absurd (cc)
      union_type_turns handled old (Some (T.Union r)) (V.Function f) rest below h = absurd (cc)
      union_type_turns handled old (Some (T.Union r)) (V.Struct vs) rest below h = absurd (cc)
      union_type_turns handled old (Some (T.Union r)) (V.Array vs) rest below h = absurd (cc)
      union_type_turns handled old (Some (T.Int kind)) l rest below h = tt
      union_type_turns handled old (Some (T.Pointer t)) l rest below h = tt
      union_type_turns handled old (Some T.VoidPointer) l rest below h = tt
      union_type_turns handled old (Some (T.Function g)) l rest below h = tt
      union_type_turns handled old (Some (T.Struct u)) l rest below h = tt
      union_type_turns handled old (Some (T.Array t c)) l rest below h = tt

      -- a value, by its type
      step_turns : (ty : Ty) → ((u : ℕ) → Contains (held_in (old_types m) (Some ty)) u → Below n u) → (handled : Bool) (new : Option Ty) (v : Value) (rest : List ℕ) → layer_has_type p s has ty (out-Value v) ≡ true → Turn (scan_step m (words_in m n) ty handled new (bytes_step (old_types m) a rec ty v ++ rest)) (C.carried_step m (C.carried_in m) ty handled new (out-Value v))
      step_turns (T.Int kind) below handled new v rest h = tt
      step_turns (T.Pointer u) below handled new v rest h = pointer_turns u new (out-Value v) rest h
      step_turns T.VoidPointer below handled new v rest h = pointer_turns 0 new (out-Value v) rest (as_pointer (out-Value v) h)
      step_turns (T.Function g) below handled new v rest h = tt
      step_turns (T.Struct old) below handled new v rest h = struct_type_turns handled old new (out-Value v) rest below h
      step_turns (T.Union old) below handled new v rest h = union_type_turns handled old new (out-Value v) rest below h
      step_turns (T.Array t c) below handled new v rest h = array_type_turns handled t c new (out-Value v) rest (below t (0, omega arith, refl)) h

    settled_turns : (n t : ℕ) → is_settled (held_by (old_types m)) n t ≡ true → Below n t
    settled_turns zero t settle handled new v rest h = absurd (cc)
    settled_turns (suc n) t settle handled new v rest h =
        let ty = typed_within p s (length (old_types m).types) t v h in
        let here = settled (old_types m) built t (slice_get_within (old_types m).types t ty.0 ty.1) in
        let below : (u : ℕ) → Contains (held_in (old_types m) (Some ty.0)) u → Below n u = λ u c. settled_turns n u (settled-edge (held_by (old_types m)) n t u settle (subst (λ o. Contains (held_in (old_types m) o) u) (sym ty.1) c)) in
        let typed : layer_has_type p s has ty.0 (out-Value v) ≡ true = sym (has_type-is p s built [] t ty.0 ty.1 v) ∙ h in
        let words : words_in m (suc n) t handled new (rec t v ++ rest) ≡ scan_step m (words_in m n) ty.0 handled new (bytes_step (old_types m) a rec ty.0 v ++ rest) = ap (λ o. at_type (scan_step m (words_in m n)) no_words o handled new (rec t v ++ rest)) ty.1 ∙ ap (λ b. scan_step m (words_in m n) ty.0 handled new (b ++ rest)) (bytes_of-is p s built a t ty.0 ty.1 v) in
        let objects : C.carried_in m t handled new v ≡ C.carried_step m (C.carried_in m) ty.0 handled new (out-Value v) = ap (λ f. f handled new v) (carried_in-is m t here ∙ ap (at_type (λ ty handled new v. C.carried_step m (C.carried_in m) ty handled new (out-Value v)) (λ handled new v. [])) ty.1) in
        subst (λ os. Turn (words_in m (suc n) t handled new (rec t v ++ rest)) os) (sym objects) (subst (λ ws. Turn ws (C.carried_step m (C.carried_in m) ty.0 handled new (out-Value v))) (sym words) (step_turns n ty.0 below handled new v rest typed))

    -- a value of a type of the table
    pub value_turns : (t : ℕ) → t < length (old_types m).types → Below (length (old_types m).types) t
    value_turns t lt = settled_turns (length (old_types m).types) t (settled (old_types m) built t lt)

-- in a store of a program that has these types
pub words_go : WordsGo
words_go m program s same built fit t lt handled new count vs rest typed =
    subst Statement (sym joined) (λ built fit lt typed. first_items_turn m program s built fit t (words_in m (length (old_types m).types) t handled) (C.carried_in m t handled) (value_turns m program s built fit t lt handled) new count vs rest (elements_bytes (old_types m) (addresses (old_types m) s) t vs ++ rest) refl typed) built fit lt typed
  where
    joined : program ≡ p m program s
    joined = ap (λ ts. record program { types = ts }) same

    Statement : Program → Type 0
    Statement q = IsBuilt q.types → AreWords q s → t < length q.types.types → list_all (has_type q s t) vs ≡ true → GoInTurn q s (items_words (words_in m (length q.types.types) t handled new) (old_size m t) (min count (length vs)) (elements_bytes q.types (addresses q.types s) t vs ++ rest)) (flat_map (C.carried_in m t handled new) (take count vs))
