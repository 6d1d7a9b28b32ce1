use Rattle.std.proofs.Common.{◌≡◌, ◌∙◌, sym, ap, true, ◌&&◌, nat_eq, arith}
use Rattle.std.proofs.lemmas.Bool.Decides.{nat_tests}
use Rattle.c_types.specs.declared.shape.Shape.{Shape}
use Rattle.c_types.specs.Layout.{shape}
use Rattle.c_types.proofs.Lists.{same-pointwise, and_left, and_right}
use Rattle.c_types.proofs.rounds.same_shapes.Goals as goal

same_shape : (a b : Shape) → nat_eq a.size b.size && nat_eq a.align b.align ≡ true → a ≡ b
same_shape a b h =
    let size : nat_eq a.size b.size ≡ true = and_left (nat_eq a.size b.size) (nat_eq a.align b.align) h in
    let align : nat_eq a.align b.align ≡ true = and_right (nat_eq a.size b.size) (nat_eq a.align b.align) h in
    let s : a.size ≡ b.size = grind (arith, nat_tests) in
    let l : a.align ≡ b.align = grind (arith, nat_tests) in
    ap (λ x. shape x a.align) s ∙ ap (shape b.size) l

pub returns : goal.returns
returns c = λ e. same-pointwise _ same_shape _ _ (sym c.eq.ensures ∙ e)
