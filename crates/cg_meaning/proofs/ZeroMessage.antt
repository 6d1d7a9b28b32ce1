-- The message of a program's initial store is zero.
use Rattle.std.proofs.Common.{◌≡◌, ◌∙◌, refl, ap, sym, true, ◌&&◌, ℕ, List, [], ◌∷◌, map, replicate, Option, Some, Ok, codes}
use Rattle.std.specs.Prelude.{slice_get, pos}
use Rattle.lu_spec.specs.Then.{then_option}
use Rattle.lu_base.specs.declared.trap.Trap.TheVariants.{BadCode}
use Rattle.c_types.specs.declared.parts.FieldDef.{FieldDef}
use Rattle.c_types.specs.declared.parts.IntKind.TheVariants as K
use Rattle.c_types.specs.declared.parts.Ty.TheVariants as T
use Rattle.c_types.specs.Refusal.{IsBuilt}
use Rattle.src_tree.specs.declared.value.Value.{Value, Int, Struct, Array}
use Rattle.src_tree.specs.declared.value.Object.{Object}
use Rattle.src_tree.specs.declared.value.Store.{Store}
use Rattle.src_tree.specs.declared.program.Init.{Init, Zero, One, Text as Bytes_text, List'}
use Rattle.src_tree.specs.declared.program.Global as Text
use Rattle.src_tree.specs.declared.program.Program.{Program}
use Rattle.src_meaning.specs.Delivery.{with_message}
use Rattle.src_meaning.specs.Initial.{elements_in, initial_scope, initial_value, initial_object, initial_store}
use Rattle.src_meaning.specs.Objects.{or_trap, with_elements, with_object}
use Rattle.src_meaning.specs.Paths.{zero_of, with_element_part}
use Rattle.src_meaning.specs.Sending.{zero_message, message_value, m_in}
use Rattle.src_meaning.specs.Valid.{IsValid, has_messages, is_message, is_message_global, is_zero_start}
use Rattle.src_meaning.specs.ValidNames.{is_called}
use Rattle.src_meaning.proofs.InitialLemmas.{zero_of-is}
use Rattle.src_meaning.proofs.LayoutLengths.{and_left, and_right}
use Rattle.cg_sim.proofs.MessageValue.{MessageType, message_type}
use Rattle.cg_sim_store.proofs.Rules.{messages_valid}

module _ (p : Program) (built : IsBuilt p.types) (u : ℕ) (t : MessageType p u) where
  zero_int : (w : ℕ) → slice_get p.types.types w ≡ Some (T.Int K.Int) → zero_of p.types w ≡ Int (pos 0)
  zero_int w e = zero_of-is p.types built w (T.Int K.Int) e

  zero_value : zero_of p.types u ≡ message_value zero_message
  zero_value =
      let a = zero_int t.a.ty t.int_a in
      let b = zero_int t.b.ty t.int_b in
      let c : zero_of p.types t.c.ty ≡ Array (replicate 6 (Int (pos 0))) = zero_of-is p.types built t.c.ty (T.Array t.item 6) t.array_c ∙ ap (λ v. Array (replicate 6 v)) (zero_int t.item t.int_item) in
      zero_of-is p.types built u (T.Struct t.n) t.is_struct
      ∙ (ap (λ fs. Struct (map (λ (f : FieldDef). zero_of p.types f.ty) fs)) t.fields
      ∙ (ap (λ v. Struct (v ∷ zero_of p.types t.b.ty ∷ zero_of p.types t.c.ty ∷ [])) a
      ∙ (ap (λ v. Struct (Int (pos 0) ∷ v ∷ zero_of p.types t.c.ty ∷ [])) b ∙ ap (λ v. Struct (Int (pos 0) ∷ Int (pos 0) ∷ v ∷ [])) c)))

zero_init : (init : Init) → is_zero_start init ≡ true → init ≡ Zero
zero_init Zero h = refl
zero_init (One e) h = absurd (cc)
zero_init (Bytes_text bytes) h = absurd (cc)
zero_init (List' m inits) h = absurd (cc)

pub zero_at_start : (p : Program) → IsValid p → with_message (initial_store p) zero_message ≡ Ok (initial_store p)
zero_at_start p valid = by p.globals (messages_valid p valid)
  where
    by : (gs : List Text.Global) → has_messages p gs ≡ true → with_message (record { objects = map (initial_object p) gs }) zero_message ≡ Ok (record { objects = map (initial_object p) gs })
    by [] h = absurd (cc)
    by (g ∷ []) h = absurd (cc)
    by (g ∷ b ∷ rest) h =
        let one = and_left (is_message_global p (codes "m_in") g) (is_message_global p (codes "m_out") b) h in
        let both = and_right (is_called p.names g.name (codes "m_in")) (is_message p (slice_get p.types.types g.ty) && is_zero_start g.init) one in
        let t = message_type p g.ty (and_left (is_message p (slice_get p.types.types g.ty)) (is_zero_start g.init) both) in
        let init = zero_init g.init (and_right (is_message p (slice_get p.types.types g.ty)) (is_zero_start g.init) both) in
        let value : initial_value (initial_scope p) g.ty g.init ≡ message_value zero_message = ap (initial_value (initial_scope p) g.ty) init ∙ zero_value p valid.built g.ty t in
        let x = initial_object p g in
        let elements : x.elements ≡ Some (message_value zero_message ∷ []) = ap (λ v. Some v) (ap (λ o. elements_in o (initial_value (initial_scope p) g.ty g.init)) t.is_struct ∙ ap (λ v. v ∷ []) value) in
        let others = map (initial_object p) (b ∷ rest) in
        let whole : List Object = x ∷ others in
        let s : Store = record { objects = whole } in
        let changed : Option (List Value) → Store = λ l. record { objects = with_elements x l ∷ others } in
        ap (λ l. or_trap BadCode (then_option l (λ elements. then_option (with_element_part elements m_in.path (message_value zero_message)) (λ made. Some (with_object s 0 (with_elements x (Some made))))))) elements
        ∙ ap (λ l. Ok (changed l)) (sym elements)
