use Rattle.std.proofs.Common.{◌≡◌, ◌∙◌, ap, sym, Some}
use Rattle.std.specs.Prelude.{slice_get}
use Rattle.c_types.specs.declared.parts.Ty.TheVariants.{Array}
use Rattle.bm_cpu.proofs.GlobalLemmas.{array_known}
use Rattle.bm_cpu.proofs.objects.elements_of.Goals as goal

pub returns-in-Some-Array-clause-known : goal.returns-in-Some-Array-clause-known
returns-in-Some-Array-clause-known c =
    let types = c.args.code.now.types in
    let arm = c.in-Some-Array in
    let array : arm.field-0 ≡ Array arm.elem arm.count = cc in
    let at : slice_get types.types c.args.ty ≡ Some (Array arm.elem arm.count) = ap (λ p. slice_get p.types c.args.ty) (sym c.parts.ensures.value) ∙ (sym arm.ensures ∙ ap Some array) in
    array_known types c.args.ty arm.elem arm.count c.parts.ensures.built.numbered at
