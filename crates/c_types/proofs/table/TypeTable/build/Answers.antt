use Rattle.std.proofs.Common.{◌∙◌, ap, subst, length}
use Rattle.std.specs.Prelude.{MatchOption}
use Rattle.c_types.specs.Chain.{IsCyclic}
use Rattle.c_types.specs.Refusal.{IsDuplicate}
use Rattle.c_types.specs.Words.{NoneIs, IsLeast}
use Rattle.c_types.specs.Rounds.{shape_at}
use Rattle.c_types.specs.Kept.{AreCapped}
use Rattle.c_types.proofs.Alignment.{IsAlignment-low}
use Rattle.c_types.proofs.Numbered.{pointer_aligned}
use Rattle.c_types.proofs.Capped.{rounds-capped}
use Rattle.c_types.proofs.KeptLemmas.{shapes-exact}
use Rattle.c_types.proofs.table.TypeTable.build.Goals as goal

pub first_too_big-requires-clause-shapes : goal.first_too_big-requires-clause-shapes
first_too_big-requires-clause-shapes c t =
    ap (λ shapes. shape_at shapes t) (c.deref.ensures.value ∙ c.in_ok-shapes.ensures.value)
    ∙ rounds-capped c.args.parts (IsAlignment-low (pointer_aligned c.args.parts c.requires)) (length c.args.parts.types) t

pub invariant_of-result : goal.invariant_of-result
invariant_of-result c =
    let p = c.args.parts in
    let capped : AreCapped p c.in_ok-shapes.shapes.items =
    λ t. ap (λ shapes. shape_at shapes t) c.in_ok-shapes.ensures.value ∙ rounds-capped p (IsAlignment-low (pointer_aligned p c.requires)) (length p.types) t
    in
    record {
      built = record {
        numbered = c.requires;
        distinct = subst (λ o. MatchOption o (NoneIs (IsDuplicate p)) (IsLeast (IsDuplicate p))) c.in_default.is c.in_ok-number.ensures;
        full = c.in_default-first_empty.ensures;
        acyclic = subst (λ o. MatchOption o (NoneIs (IsCyclic p)) (IsLeast (IsCyclic p))) c.in_default-2.is c.in_ok-number-2.ensures;
        small = c.in_default-first_too_big.ensures;
      };
      each = shapes-exact p c.in_ok-shapes.shapes.items c.in_default-first_too_big.ensures capped;
    }
