use Rattle.std.proofs.Common.{◌∙◌, ◌≡◌, sym, ap, subst, List, [], ◌∷◌, ◌++◌, slice_get}
use Rattle.std.specs.Prelude.{IfOk}
use Rattle.src_tree.specs.declared.value.Value.{Value}
use Rattle.src_meaning.specs.Initial.{item_types, composed, spread, initial_scope, initial_value}
use Rattle.src_meaning.proofs.InitialLemmas.{paired_start, paired_next, paired_same, paired_end, found, initial_value-List}
use Rattle.src_model.proofs.initial.+initial_value.Goals as goal
use Rattle.src_model.proofs.initial.+initial_value.Goals.{initial_items-in-Some+in_ok-initial_value+in_ok-push, initial_items-in_default}

pub initial_items-loop-init-init : goal.initial_items-loop-init-init
initial_items-loop-init-init t c =
    paired_start (initial_value (initial_scope c.args.p.now)) (item_types c.args.p.now.types c.args.number) c.args.inits.now c.new-items.result c.new-items.ensures

pub initial_items-loop-init-preserved : goal.initial_items-loop-init-preserved
initial_items-loop-init-preserved t c =
    let ts = item_types c.args.p.now.types c.args.number in
    let f = initial_value (initial_scope c.args.p.now) in
    let i = c.loop-init.init-index in
    elim c.match-item_type.branch [ initial_items-in-Some+in_ok-initial_value+in_ok-push w ↦ paired_next f ts c.args.inits.now i w.in-Some.ty c.init-item.result c.loop-init.items c.match-item_type.items c.loop-init.invariant (found c.args.inits.now i c.init-item.result c.init-item.result c.loop-init-test.true c.init-item.is) (ap (slice_get ts) (sym c.len.ensures) ∙ sym w.in-Some.ensures.value) (w.items-is ∙ w.in_ok-push.ensures.ok ∙ ap (λ v. c.loop-init.items ++ v ∷ []) w.in_ok-initial_value.ensures) | initial_items-in_default w ↦ paired_same f ts c.args.inits.now i c.loop-init.items c.match-item_type.items c.loop-init.invariant (ap (slice_get ts) (sym c.len.ensures) ∙ sym w.in_default.ensures.value) w.items-is ]

pub initial_items-returns : goal.initial_items-returns
initial_items-returns t c =
    let ts = item_types c.args.p.now.types c.args.number in
    let f = initial_value (initial_scope c.args.p.now) in
    let P = λ (vs : List Value). IfOk c.with_zeros.result (λ items. items ≡ vs) in
    subst P (paired_end c.args.p.now.types f ts c.args.inits.now c.loop-init.init-index c.loop-init.items c.loop-init.invariant c.loop-init-test.false) c.with_zeros.ensures

pub initial_value-returns-in_ok-items-in-List : goal.initial_value-returns-in_ok-items-in-List
initial_value-returns-in_ok-items-in-List t c =
    let p = c.args.p.now.types in
    let f = initial_value (initial_scope c.args.p.now) in
    let items : c.in_ok-items-in-List.items ≡ spread p f (item_types p c.args.number) c.in-List.inits = c.in_ok-items-in-List.ensures ∙ ap (spread p f (item_types p c.args.number)) c.as_slice-in-List.ensures in
    let P = λ (v : Value). IfOk c.composed-in-List.result (λ value. value ≡ v) in
    subst P (ap (composed p c.args.number) items ∙ sym (initial_value-List (initial_scope c.args.p.now) c.args.number c.in-List.inits) ∙ ap (f c.args.number) (sym c.in-List.is)) c.composed-in-List.ensures
