use Rattle.std.proofs.Common.{Bool, true, false, slice_get, subst}
use Rattle.std.specs.Prelude.{MatchBool}
use Rattle.c_types.specs.Chain.{Chain, pointed_by, IsPointer}
use Rattle.c_types.proofs.MarkLemmas.{points_decided}
use Rattle.c_types.proofs.cycles.points_to_itself.Goals as goal

both : (P Q : Type 0) (b : Bool) → P → MatchBool b Q (Q → ⊥) → MatchBool b (P × Q) (P × Q → ⊥)
both P Q true a h = (a, h)
both P Q false a h = λ c. h c.1

pub returns-then-is_pointer : goal.returns-then-is_pointer
returns-then-is_pointer c =
    let p = c.args.parts.now in
    let pointer : IsPointer (slice_get p.types c.args.number) = subst IsPointer c.find_type.ensures c.if-is_pointer.ensures in
    both _ (Chain (pointed_by p) c.args.number c.args.number) _ pointer (points_decided p c.requires.numbered c.args.number c.requires.known _ c.leads_to_itself.ensures)
