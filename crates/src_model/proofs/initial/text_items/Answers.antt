use Rattle.std.proofs.Common.{◌∙◌, ◌≡◌, ℕ, refl, sym, ap, subst, List, [], ◌∷◌, ◌++◌, get_or, slice_get}
use Rattle.std.specs.Prelude.{IfOk}
use Rattle.src_tree.specs.declared.value.Value.{Value, Int}
use Rattle.src_meaning.specs.Initial.{byte_in, item_types}
use Rattle.src_meaning.proofs.InitialLemmas.{paired_start, paired_next, paired_same, paired_end, found}
use Rattle.src_model.proofs.initial.text_items.Goals as goal
use Rattle.src_model.proofs.initial.text_items.Goals.{in-Some+in_ok-push, in_default}

pub loop-byte-init : goal.loop-byte-init
loop-byte-init c =
    paired_start (λ t b. Int (byte_in (slice_get c.args.types.now.types t) b)) (item_types c.args.types.now c.args.number) c.args.bytes.now c.new-items.result c.new-items.ensures

pub loop-byte-preserved : goal.loop-byte-preserved
loop-byte-preserved c =
    let ts = item_types c.args.types.now c.args.number in
    let f = λ (t b : ℕ). Int (byte_in (slice_get c.args.types.now.types t) b) in
    let i = c.loop-byte.byte-index in
    let b = get_or c.args.bytes.now i 0 in
    elim c.match-item_type.branch [ in-Some+in_ok-push w ↦ paired_next f ts c.args.bytes.now i w.in-Some.ty b c.loop-byte.items c.match-item_type.items c.loop-byte.invariant (found c.args.bytes.now i 0 b c.loop-byte-test.true refl) (ap (slice_get ts) (sym c.len.ensures) ∙ sym w.in-Some.ensures.value) (w.items-is ∙ w.in_ok-push.ensures.ok ∙ ap (λ v. c.loop-byte.items ++ v ∷ []) w.byte_value.ensures) | in_default w ↦ paired_same f ts c.args.bytes.now i c.loop-byte.items c.match-item_type.items c.loop-byte.invariant (ap (slice_get ts) (sym c.len.ensures) ∙ sym w.in_default.ensures.value) w.items-is ]

pub returns : goal.returns
returns c =
    let ts = item_types c.args.types.now c.args.number in
    let f = λ (t b : ℕ). Int (byte_in (slice_get c.args.types.now.types t) b) in
    let P = λ (vs : List Value). IfOk c.with_zeros.result (λ items. items ≡ vs) in
    subst P (paired_end c.args.types.now f ts c.args.bytes.now c.loop-byte.byte-index c.loop-byte.items c.loop-byte.invariant c.loop-byte-test.false) c.with_zeros.ensures
