use Rattle.std.proofs.Common.{◌∙◌, sym, ap, ◌<◌, ◌∷◌, ◌++◌, [], Some, slice_get, arith}
use Rattle.std.proofs.lemmas.Grind.{common_steps}
use Rattle.c_types.specs.Tables.{members_of}
use Rattle.c_types.specs.Recursion.{depth}
use Rattle.src_meaning.specs.Paths.{zero_of}
use Rattle.src_meaning.specs.Initial.{item_types}
use Rattle.src_meaning.proofs.InitialLemmas.{zero_struct, zero_array, zero_union, member-falls, filled_more, filled_full}
use Rattle.src_model.proofs.initial.+zero_value.Goals as goal

pub with_zeros-loop-ty-preserved : goal.with_zeros-loop-ty-preserved
with_zeros-loop-ty-preserved t c =
    let ts = item_types c.args.types.now c.args.number in
    filled_more (zero_of c.args.types.now) c.args.first ts c.loop-ty.items c.push.new.self c.in-Some.ty c.loop-ty.invariant (ap (slice_get ts) (sym c.len.ensures) ∙ sym c.in-Some.ensures.value) (c.in_ok-push.ensures.ok ∙ ap (λ v. c.loop-ty.items ++ v ∷ []) c.in_ok-zero_value.ensures)

pub with_zeros-returns : goal.with_zeros-returns
with_zeros-returns t c =
    let ts = item_types c.args.types.now c.args.number in
    filled_full (zero_of c.args.types.now) c.args.first ts c.loop-ty.items c.loop-ty.invariant (ap (slice_get ts) (sym c.len.ensures) ∙ sym c.in_default.ensures.value)

pub zero_value-zero_value-requires : goal.zero_value-zero_value-requires
zero_value-zero_value-requires t c =
    let less : depth c.args.types.now c.in-Some.member.now.ty < depth c.args.types.now c.args.number = member-falls c.args.types.now c.parts.ensures.built c.args.number c.in-Some-Union.tag c.in-Some.member.now (ap (λ p. slice_get p.types c.args.number) (sym c.parts.ensures.value) ∙ sym c.in-Some-Union.ensures ∙ ap Some c.in-Some-Union.field-0-is) (sym (c.in-Some.ensures.value ∙ ap (λ ms. slice_get ms 0) (c.members_of.ensures ∙ ap (λ p. members_of p c.in-Some-Union.tag) c.parts-in-Some-Union.ensures.value))) in
    grind (arith, common_steps, less)

pub zero_value-returns-in_ok-fields-in-Some-Struct :
    goal.zero_value-returns-in_ok-fields-in-Some-Struct
zero_value-returns-in_ok-fields-in-Some-Struct t c =
    zero_struct c.args.types.now c.parts.ensures.built c.args.number _ c.in_ok-fields-in-Some-Struct.fields (ap (λ p. slice_get p.types c.args.number) (sym c.parts.ensures.value) ∙ sym c.in-Some-Struct.ensures ∙ ap Some c.in-Some-Struct.field-0-is) (rw c.new.ensures at c.in_ok-fields-in-Some-Struct.ensures)

pub zero_value-returns-in_ok-elements-in-Some-Array :
    goal.zero_value-returns-in_ok-elements-in-Some-Array
zero_value-returns-in_ok-elements-in-Some-Array t c =
    zero_array c.args.types.now c.parts.ensures.built c.args.number _ _ c.in_ok-elements-in-Some-Array.elements (ap (λ p. slice_get p.types c.args.number) (sym c.parts.ensures.value) ∙ sym c.in-Some-Array.ensures ∙ ap Some c.in-Some-Array.field-0-is) (rw c.new-in-Some-Array.ensures at c.in_ok-elements-in-Some-Array.ensures)

pub zero_value-returns-in_ok-new-in-Some : goal.zero_value-returns-in_ok-new-in-Some
zero_value-returns-in_ok-new-in-Some t c =
    zero_union c.args.types.now c.parts.ensures.built c.args.number c.in-Some-Union.tag c.in-Some.member.now c.in_ok-new-in-Some.field-0 (ap (λ p. slice_get p.types c.args.number) (sym c.parts.ensures.value) ∙ sym c.in-Some-Union.ensures ∙ ap Some c.in-Some-Union.field-0-is) (sym (c.in-Some.ensures.value ∙ ap (λ ms. slice_get ms 0) (c.members_of.ensures ∙ ap (λ p. members_of p c.in-Some-Union.tag) c.parts-in-Some-Union.ensures.value))) (c.in_ok-new-in-Some.ensures ∙ c.in_ok-body-in-Some.ensures)
