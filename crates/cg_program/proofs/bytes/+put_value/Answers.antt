use Rattle.std.proofs.Common.{◌∙◌, ◌≡◌, sym, ap, ◌+◌, ◌-◌, ◌++◌, Some, slice_get, arith}
use Rattle.std.proofs.lemmas.Result.{on_ok_weaker}
use Rattle.std.proofs.lemmas.Grind.{common_steps}
use Rattle.lu_spec.specs.LittleEndian.{little_endian}
use Rattle.c_types.specs.Layout.{int_size, shape_of, size_of, next_multiple}
use Rattle.c_types.specs.declared.parts.Ty.TheVariants as T
use Rattle.src_meaning.specs.ValueBytes as spec
use Rattle.cg_program.specs.Parts.{fields_in}
use Rattle.cg_program.proofs.ByteLemmas.{field_next, field_none, fields_end, element-falls, value_is, struct_is, union_zero, union_without, union_with}
use Rattle.cg_program.proofs.bytes.+put_value.Goals as goal
use Rattle.cg_program.proofs.bytes.+put_value.Goals.{put_struct-in-Some+in_ok-start+in_ok-put_zeros+in_ok-put_value+in_ok-end, put_struct-in_default}

pub put_struct-loop-index-preserved : goal.put_struct-loop-index-preserved
put_struct-loop-index-preserved t c =
    let p = c.args.layout.now.types.now in
    let rec = spec.bytes_of p c.args.layout.now.addresses.now in
    let fs = fields_in p (slice_get p.types c.args.number) in
    let now = c.loop-index.bytes.items in
    let end = c.loop-index.end in
    elim c.match-field_at.branch [ put_struct-in-Some+in_ok-start+in_ok-put_zeros+in_ok-put_value+in_ok-end w ↦ field_next (shape_of p) rec (size_of p c.args.number) fs c.args.values.now c.loop-index.index c.index-values-index.result c.args.bytes.now.items now end c.loop-index-test.true c.index-values-index.is c.loop-index.invariant w.in-Some.field w.in_ok-start.start c.match-field_at.end w.put_zeros.new.bytes.items c.match-field_at.bytes.items (sym w.in-Some.ensures.value) (w.in_ok-start.ensures ∙ ap (next_multiple end) w.align_of.ensures.value) (w.end-is ∙ w.in_ok-end.ensures ∙ ap (λ n. w.in_ok-start.start + n) w.size_of.ensures) (w.in_ok-put_zeros.ensures ∙ ap (λ n. now ++ spec.zeros n) w.saturating_sub.ensures) (ap (λ v. v.items) w.bytes-is ∙ w.in_ok-put_value.ensures) | put_struct-in_default w ↦ field_none (shape_of p) rec (size_of p c.args.number) fs c.args.values.now c.loop-index.index c.index-values-index.result c.args.bytes.now.items now end c.loop-index-test.true c.index-values-index.is c.loop-index.invariant c.match-field_at.end c.match-field_at.bytes.items (sym w.in_default.ensures.value) w.end-is (ap (λ v. v.items) w.bytes-is) ]

pub put_struct-returns : goal.put_struct-returns
put_struct-returns t c =
    let p = c.args.layout.now.types.now in
    let rec = spec.bytes_of p c.args.layout.now.addresses.now in
    let fs = fields_in p (slice_get p.types c.args.number) in
    let now = c.loop-index.bytes.items in
    let end = c.loop-index.end in
    on_ok_weaker c.put_zeros-2.result (λ h. fields_end (shape_of p) rec (size_of p c.args.number) fs c.args.values.now c.loop-index.index c.args.bytes.now.items now c.put_zeros-2.new.bytes.items end c.loop-index-test.false c.loop-index.invariant (h ∙ ap (λ n. now ++ spec.zeros n) (c.saturating_sub-2.ensures ∙ ap (λ n. n - end) c.size_of-2.ensures))) c.put_zeros-2.ensures

pub put_union-returns-in_default : goal.put_union-returns-in_default
put_union-returns-in_default t c =
    let p = c.args.layout.now.types.now in
    let start = c.in_ok-start-in-Some.start in
    let first = c.put_number.new.bytes.items in
    let second = c.put_zeros-in-Some.new.bytes.items in
    on_ok_weaker c.put_zeros-in_default.result (λ h. union_without p c.parts-parts.ensures.built c.args.layout.now.addresses.now c.args.number c.args.tag c.requires c.args.value.now start c.in_ok-start-in-Some.ensures c.args.bytes.now.items first second c.in-Some.active c.in-Some.ensures c.in_ok-put_number-in-Some.ensures (c.in_ok-put_zeros-in-Some.ensures ∙ ap (λ n. first ++ spec.zeros n) c.saturating_sub.ensures) c.put_zeros-in_default.new.bytes.items c.in_default.ensures.value (h ∙ ap (λ n. second ++ spec.zeros n) (c.saturating_sub-in_default.ensures ∙ ap (λ n. n - start) c.size_of-size.ensures))) c.put_zeros-in_default.ensures

pub put_union-returns-in-None : goal.put_union-returns-in-None
put_union-returns-in-None t c =
    let p = c.args.layout.now.types.now in
    on_ok_weaker c.put_zeros.result (λ h. h ∙ ap (λ n. c.args.bytes.now.items ++ spec.zeros n) c.size_of-size.ensures ∙ ap (λ l. c.args.bytes.now.items ++ l) (union_zero p c.parts-parts.ensures.built c.args.layout.now.addresses.now c.args.number c.args.tag c.requires c.args.value.now c.in-None.ensures)) c.put_zeros.ensures

pub put_union-returns-in_ok-end-in-Some : goal.put_union-returns-in_ok-end-in-Some
put_union-returns-in_ok-end-in-Some t c =
    let p = c.args.layout.now.types.now in
    let start = c.in_ok-start-in-Some.start in
    let first = c.put_number.new.bytes.items in
    let second = c.put_zeros-in-Some.new.bytes.items in
    let third = c.put_value.new.bytes.items in
    on_ok_weaker c.put_zeros-in-Some-2.result (λ h. union_with p c.parts-parts.ensures.built c.args.layout.now.addresses.now c.args.number c.args.tag c.requires c.args.value.now start c.in_ok-start-in-Some.ensures c.args.bytes.now.items first second c.in-Some.active c.in-Some.ensures c.in_ok-put_number-in-Some.ensures (c.in_ok-put_zeros-in-Some.ensures ∙ ap (λ n. first ++ spec.zeros n) c.saturating_sub.ensures) third c.put_zeros-in-Some-2.new.bytes.items c.in-Some-field_at.member c.body_in.result.now c.in-Some-field_at.ensures.value c.body_in.ensures c.in_ok-put_value-in-Some.ensures (h ∙ ap (λ n. third ++ spec.zeros n) (c.saturating_sub-in-Some.ensures ∙ ap (λ n. n - c.in_ok-end-in-Some.end) c.size_of-size.ensures ∙ ap (λ n. size_of p c.args.number - n) (c.in_ok-end-in-Some.ensures ∙ ap (λ n. start + n) c.size_of.ensures)))) c.put_zeros-in-Some-2.ensures

pub put_value-put_items-requires : goal.put_value-put_items-requires
put_value-put_items-requires t c =
    let ty : slice_get c.args.layout.now.types.now.types c.args.number ≡ Some (T.Array c.in-Some-Array.elem c.in-Some-Array.field-0-1) = ap (λ q. slice_get q.types c.args.number) (sym c.parts.ensures.value) ∙ sym c.in-Some-Array.ensures ∙ ap Some c.in-Some-Array.field-0-is in
    let less = element-falls c.args.layout.now.types.now c.parts.ensures.built c.args.number c.in-Some-Array.elem c.in-Some-Array.field-0-1 ty in
    grind (arith, common_steps, less)

pub put_value-returns-in-Some-Int : goal.put_value-returns-in-Some-Int
put_value-returns-in-Some-Int t c =
    let p = c.args.layout.now.types.now in
    let kind = c.in-Some-Int.kind in
    let ty : slice_get p.types c.args.number ≡ Some (T.Int kind) = ap (λ q. slice_get q.types c.args.number) (sym c.parts.ensures.value) ∙ sym c.in-Some-Int.ensures ∙ ap Some c.in-Some-Int.field-0-is in
    on_ok_weaker c.put_number.result (λ h. h ∙ ap (λ l. c.args.bytes.now.items ++ l) (ap (λ n. little_endian n c.int_in.result) c.int_size.ensures.value ∙ ap (little_endian (int_size kind)) c.int_in.ensures ∙ sym (value_is p c.parts.ensures.built c.args.layout.now.addresses.now c.args.number (T.Int kind) ty c.args.value.now))) c.put_number.ensures

pub put_value-returns-in-Some-Pointer : goal.put_value-returns-in-Some-Pointer
put_value-returns-in-Some-Pointer t c =
    let p = c.args.layout.now.types.now in
    let ty : slice_get p.types c.args.number ≡ Some (T.Pointer c.in-Some-Pointer.field-0-0) = ap (λ q. slice_get q.types c.args.number) (sym c.parts.ensures.value) ∙ sym c.in-Some-Pointer.ensures ∙ ap Some c.in-Some-Pointer.field-0-is in
    on_ok_weaker c.put_pointer.result (λ h. h ∙ ap (λ l. c.args.bytes.now.items ++ l) (sym (value_is p c.parts.ensures.built c.args.layout.now.addresses.now c.args.number (T.Pointer c.in-Some-Pointer.field-0-0) ty c.args.value.now))) c.put_pointer.ensures

pub put_value-returns-in-Some-VoidPointer : goal.put_value-returns-in-Some-VoidPointer
put_value-returns-in-Some-VoidPointer t c =
    let p = c.args.layout.now.types.now in
    let ty : slice_get p.types c.args.number ≡ Some T.VoidPointer = ap (λ q. slice_get q.types c.args.number) (sym c.parts.ensures.value) ∙ sym c.in-Some-VoidPointer.ensures ∙ ap Some c.in-Some-VoidPointer.field-0-is in
    on_ok_weaker c.put_pointer-in-Some-VoidPointer.result (λ h. h ∙ ap (λ l. c.args.bytes.now.items ++ l) (sym (value_is p c.parts.ensures.built c.args.layout.now.addresses.now c.args.number T.VoidPointer ty c.args.value.now))) c.put_pointer-in-Some-VoidPointer.ensures

pub put_value-returns-in-Some-Function : goal.put_value-returns-in-Some-Function
put_value-returns-in-Some-Function t c =
    let p = c.args.layout.now.types.now in
    let ty : slice_get p.types c.args.number ≡ Some (T.Function c.in-Some-Function.field-0-0) = ap (λ q. slice_get q.types c.args.number) (sym c.parts.ensures.value) ∙ sym c.in-Some-Function.ensures ∙ ap Some c.in-Some-Function.field-0-is in
    on_ok_weaker c.put_pointer-in-Some-Function.result (λ h. h ∙ ap (λ l. c.args.bytes.now.items ++ l) (sym (value_is p c.parts.ensures.built c.args.layout.now.addresses.now c.args.number (T.Function c.in-Some-Function.field-0-0) ty c.args.value.now))) c.put_pointer-in-Some-Function.ensures

pub put_value-returns-in-Some-Struct : goal.put_value-returns-in-Some-Struct
put_value-returns-in-Some-Struct t c =
    let p = c.args.layout.now.types.now in
    let ty : slice_get p.types c.args.number ≡ Some (T.Struct c.in-Some-Struct.field-0-0) = ap (λ q. slice_get q.types c.args.number) (sym c.parts.ensures.value) ∙ sym c.in-Some-Struct.ensures ∙ ap Some c.in-Some-Struct.field-0-is in
    on_ok_weaker c.put_struct.result (λ h. h ∙ ap (λ l. c.args.bytes.now.items ++ l) (struct_is p c.parts.ensures.built c.args.layout.now.addresses.now c.args.number c.in-Some-Struct.field-0-0 ty c.args.value.now c.parts_in.result.now c.parts_in.ensures)) c.put_struct.ensures

pub put_value-returns-in-Some-Union : goal.put_value-returns-in-Some-Union
put_value-returns-in-Some-Union t c =
    let p = c.args.layout.now.types.now in
    let ty : slice_get p.types c.args.number ≡ Some (T.Union c.in-Some-Union.tag) = ap (λ q. slice_get q.types c.args.number) (sym c.parts.ensures.value) ∙ sym c.in-Some-Union.ensures ∙ ap Some c.in-Some-Union.field-0-is in
    on_ok_weaker c.put_union.result (λ h. h ∙ ap (λ l. c.args.bytes.now.items ++ l) (sym (value_is p c.parts.ensures.built c.args.layout.now.addresses.now c.args.number (T.Union c.in-Some-Union.tag) ty c.args.value.now))) c.put_union.ensures

pub put_value-returns-in-Some-Array : goal.put_value-returns-in-Some-Array
put_value-returns-in-Some-Array t c =
    let p = c.args.layout.now.types.now in
    let elem = c.in-Some-Array.elem in
    let ty : slice_get p.types c.args.number ≡ Some (T.Array elem c.in-Some-Array.field-0-1) = ap (λ q. slice_get q.types c.args.number) (sym c.parts.ensures.value) ∙ sym c.in-Some-Array.ensures ∙ ap Some c.in-Some-Array.field-0-is in
    on_ok_weaker c.put_items.result (λ h. h ∙ ap (λ l. c.args.bytes.now.items ++ l) (ap (spec.items_bytes (spec.bytes_of p c.args.layout.now.addresses.now elem)) c.parts_in-in-Some-Array.ensures ∙ sym (value_is p c.parts.ensures.built c.args.layout.now.addresses.now c.args.number (T.Array elem c.in-Some-Array.field-0-1) ty c.args.value.now))) c.put_items.ensures
