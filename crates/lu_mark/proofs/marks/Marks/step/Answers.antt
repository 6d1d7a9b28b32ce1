use Rattle.std.proofs.Common.{◌≡◌, ◌∙◌, sym, subst, ap, ◌+◌, ◌≢◌, length, arith, ◌<◌}
use Rattle.std.specs.Prelude.{◌↔◌}
use Rattle.lu_mark.specs.declared.marks.WalkState.TheVariants.{Done, More}
use Rattle.lu_mark.specs.Marking.{state_of}
use Rattle.lu_mark.specs.Walks.{GoesOn}
use Rattle.lu_mark.proofs.Kept.{few_in, step_within, one_more, one_more-is_marking}
use Rattle.lu_mark.proofs.Walking.{done-state, done-goes_on, done-left, more-goes_on, more-left}
use Rattle.lu_mark.proofs.marks.Marks.step.Goals as goal

pub overflow_add-self : goal.overflow_add-self
overflow_add-self c =
    let within = step_within c.args.self.now _ c.args.targets.now (c.self.view_is ∙ c.mark_all.ensures) c.requires.more in
    let few = few_in _ c.self.invariant.0 in
    omega (arith, within, few, c.self.invariant.2)

pub invariant_of-self : goal.invariant_of-self
invariant_of-self c =
    (one_more-is_marking c.args.self.now _ c.args.targets.now (c.self.view_is ∙ c.mark_all.ensures) c.requires.more c.self.invariant.0, c.self.invariant.1, c.self.invariant.2)

pub invariant_of-self-else-self-len : goal.invariant_of-self-else-self-len
invariant_of-self-else-self-len c =
    (one_more-is_marking c.args.self.now _ c.args.targets.now (c.self.view_is ∙ c.mark_all.ensures) c.requires.more c.self.invariant.0, c.self.invariant.1, c.self.invariant.2)

pub returns-then-self-len-clause-state : goal.returns-then-self-len-clause-state
returns-then-self-len-clause-state c =
    let ok = one_more-is_marking c.args.self.now _ c.args.targets.now (c.self.view_is ∙ c.mark_all.ensures) c.requires.more c.self.invariant.0 in
    let all : c.self.inside.walked + 1 ≡ length c.self.inside.marked.items = omega (arith, c.if-self-len.true, c.len.ensures, c.self.inside.marked.ok.0) in
    done-state c.args.self.now c.args.targets.now _ (ap one_more (c.self.view_is ∙ c.mark_all.ensures)) ok all ∙ ap state_of (sym c.order.ensures)

pub returns-then-self-len-clause-goes_on : goal.returns-then-self-len-clause-goes_on
returns-then-self-len-clause-goes_on c = λ g y walk at are.
    let ok = one_more-is_marking c.args.self.now _ c.args.targets.now (c.self.view_is ∙ c.mark_all.ensures) c.requires.more c.self.invariant.0 in
    let all : c.self.inside.walked + 1 ≡ length c.self.inside.marked.items = omega (arith, c.if-self-len.true, c.len.ensures, c.self.inside.marked.ok.0) in
    subst (λ m. GoesOn g m Done) (sym c.order.ensures) (done-goes_on c.args.self.now c.args.targets.now _ (ap one_more (c.self.view_is ∙ c.mark_all.ensures)) ok g y walk at are all)

pub returns-else-self-len-clause-goes_on : goal.returns-else-self-len-clause-goes_on
returns-else-self-len-clause-goes_on c = λ g y walk at are.
    let ok = one_more-is_marking c.args.self.now _ c.args.targets.now (c.self.view_is ∙ c.mark_all.ensures) c.requires.more c.self.invariant.0 in
    let more : c.self.inside.walked + 1 ≢ length c.self.inside.marked.items = λ e. c.if-self-len.false (omega (arith, e, c.len.ensures, c.self.inside.marked.ok.0)) in
    more-goes_on c.args.self.now c.args.targets.now _ (ap one_more (c.self.view_is ∙ c.mark_all.ensures)) ok g y walk at are more

pub returns-then-self-len-clause-more : goal.returns-then-self-len-clause-more
returns-then-self-len-clause-more c =
    let ok = one_more-is_marking c.args.self.now _ c.args.targets.now (c.self.view_is ∙ c.mark_all.ensures) c.requires.more c.self.invariant.0 in
    let all : c.self.inside.walked + 1 ≡ length c.self.inside.marked.items = omega (arith, c.if-self-len.true, c.len.ensures, c.self.inside.marked.ok.0) in
    subst (λ m. (Done ≡ More) ↔ (m.walked < length m.marked)) (sym c.order.ensures) (done-left c.args.self.now c.args.targets.now _ (ap one_more (c.self.view_is ∙ c.mark_all.ensures)) ok all)

pub returns-else-self-len-clause-more : goal.returns-else-self-len-clause-more
returns-else-self-len-clause-more c =
    let ok = one_more-is_marking c.args.self.now _ c.args.targets.now (c.self.view_is ∙ c.mark_all.ensures) c.requires.more c.self.invariant.0 in
    let more : c.self.inside.walked + 1 ≢ length c.self.inside.marked.items = λ e. c.if-self-len.false (omega (arith, e, c.len.ensures, c.self.inside.marked.ok.0)) in
    more-left c.args.self.now c.args.targets.now _ (ap one_more (c.self.view_is ∙ c.mark_all.ensures)) ok more
