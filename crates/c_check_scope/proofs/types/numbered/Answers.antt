use Rattle.std.proofs.Common.{◌≡◌, ◌∙◌, sym, ap, ◌<◌, ◌∷◌, ◌++◌, [], false, length, get_or, take, arith}
use Rattle.std.specs.Prelude.{if◌then◌else◌}
use Rattle.std.specs.List.{list_any}
use Rattle.std.proofs.lemmas.List.{take_more}
use Rattle.indexmap.specs.IndexSet.{insert_key}
use Rattle.c_types.specs.contracts.parts.TyPartialEq.TheImpl.{eq-value}
use Rattle.c_types.specs.declared.parts.IntKind.TheVariants.{Char}
use Rattle.c_types.specs.declared.parts.Ty.TheVariants.{Int}
use Rattle.c_check_scope.proofs.Distinct.{fresh}
use Rattle.c_check_scope.proofs.types.numbered.Goals as goal

pub loop-ty-preserved : goal.loop-ty-preserved
loop-ty-preserved c =
    let types = c.args.parts.now.types in
    let n = c.loop-ty.ty-index in
    let t = get_or types n (Int Char) in
    let within : n < length types = omega (arith, c.loop-ty-test.true, ap length c.as_slice-ty-items.ensures) in
    let new : list_any (eq-value.it t) (take n types) ≡ false = fresh c.args.parts.now c.requires n (Int Char) within in
    c.in_ok-insert.ensures.keys
    ∙ ap (λ l. insert_key eq-value.it c.loop-ty.numbers.keys (get_or l n (Int Char))) c.as_slice-ty-items.ensures
    ∙ ap (λ ks. insert_key eq-value.it ks t) c.loop-ty.invariant
    ∙ ap (λ b. if b then take n types else take n types ++ t ∷ []) new
    ∙ sym (take_more types n (Int Char) within)
