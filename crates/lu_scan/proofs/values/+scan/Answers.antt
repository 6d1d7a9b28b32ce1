use Rattle.std.proofs.Common.{◌≡◌, ◌∙◌, sym, ap, ℕ, ◌++◌, ◌+◌, drop, Some, slice_get, get_or}
use Rattle.std.proofs.lemmas.List.{append-nil}
use Rattle.std.proofs.lemmas.Option.{slice_get-get_or}
use Rattle.c_types.specs.declared.parts.FieldDef.{FieldDef}
use Rattle.std.proofs.lemmas.Result.{on_ok_weaker}
use Rattle.c_types.specs.declared.parts.Ty.TheVariants as T
use Rattle.lu_image_store.specs.Versions.{old_types, old_size}
use Rattle.lu_scan.specs.Scan.{words_in, fields_words, items_words}
use Rattle.lu_scan.specs.Given.{versions, pairs_between}
use Rattle.lu_scan.proofs.Steps.{struct_words-is, array_none-is, field_read, item_read}
use Rattle.lu_scan.proofs.values.+scan.Goals as goal

pub scan-returns-in-Some : goal.scan-returns-in-Some
scan-returns-in-Some t c =
    let m = versions c.args.programs.now in
    let ty : slice_get (old_types m).types c.args.part.ty ≡ Some (T.Struct c.in-Some-Struct.old) = ap (λ q. slice_get q.types c.args.part.ty) (sym c.parts.ensures.value) ∙ (sym c.find_type.ensures ∙ (c.in-Some-Struct.is ∙ ap Some c.in-Some-Struct.field-0-is)) in
    on_ok_weaker c.scan_struct.result (λ h. h ∙ ap (λ l. c.args.words.now.items ++ l) (sym (struct_words-is m c.args.depth c.args.part.ty c.if-depth-eq0.false c.args.part.handled c.args.part.new c.args.bytes.now c.in-Some-Struct.old c.in-Some.new ty c.in-Some.ensures))) c.scan_struct.ensures

pub scan-returns-in-None-array_in : goal.scan-returns-in-None-array_in
scan-returns-in-None-array_in t c =
    let m = versions c.args.programs.now in
    let ty : slice_get (old_types m).types c.args.part.ty ≡ Some (T.Array c.in-Some-Array.elem c.in-Some-Array.count) = ap (λ q. slice_get q.types c.args.part.ty) (sym c.parts.ensures.value) ∙ (sym c.find_type.ensures ∙ (c.in-Some-Array.is ∙ ap Some c.in-Some-Array.field-0-is)) in
    let none = array_none-is m c.args.depth c.args.part.ty c.if-depth-eq0.false c.args.part.handled c.args.part.new c.args.bytes.now c.in-Some-Array.elem c.in-Some-Array.count ty c.in-None-array_in.ensures in
    sym (ap (λ l. c.args.words.now.items ++ l) none ∙ append-nil c.args.words.now.items)

pub scan_items-loop-item-preserved : goal.scan_items-loop-item-preserved
scan_items-loop-item-preserved t c =
    let m = versions c.args.programs.now in
    let rest : c.bytes_from-rest.result.now ≡ drop (old_size m c.args.part.ty) c.loop-item.rest.now = c.bytes_from-rest.ensures ∙ ap (λ n. drop n c.loop-item.rest.now) c.size_of-size.ensures in
    item_read (words_in m c.args.depth c.args.part.ty c.args.part.handled c.args.part.new) (old_size m c.args.part.ty) c.args.count c.loop-item._item (c.args.words.now.items ++ items_words (words_in m c.args.depth c.args.part.ty c.args.part.handled c.args.part.new) (old_size m c.args.part.ty) c.args.count c.args.bytes.now) c.loop-item.words.items c.scan.new.words.items c.loop-item.rest.now c.bytes_from-rest.result.now c.loop-item-test.true c.loop-item.invariant c.in_ok-scan.ensures rest

pub scan_fields-loop-number-preserved : goal.scan_fields-loop-number-preserved
scan_fields-loop-number-preserved t c =
    let m = versions c.args.programs.now in
    let fs = c.args.fields.now.old.now in
    let js = pairs_between m fs c.args.fields.now.new.now c.args.fields.now.pairs in
    let part = λ (u : ℕ). words_in m c.args.depth u c.args.handled in
    let f : FieldDef = get_or fs c.loop-number.number (record { name = 0; ty = 0 }) in
    let at : slice_get fs c.loop-number.number ≡ Some f = slice_get-get_or fs c.loop-number.number (record { name = 0; ty = 0 }) c.loop-number-test.true in
    field_read m part c.args.fields.now.new.now c.args.bytes.now (c.args.words.now.items ++ fields_words m part c.args.fields.now.new.now c.args.bytes.now fs js 0) c.loop-number.words.items c.scan_pair.new.words.items fs js c.loop-number.number f c.loop-number.end c.in_ok-start.start c.in_ok-end.end c.paired_field-pair.result c.bytes_from.result.now at c.in_ok-start.ensures (c.in_ok-end.ensures ∙ ap (λ n. c.in_ok-start.start + n) c.size_of.ensures) c.paired_field-pair.ensures c.bytes_from.ensures c.loop-number.invariant c.in_ok-scan_pair.ensures
