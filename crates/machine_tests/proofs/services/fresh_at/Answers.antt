use Rattle.std.proofs.Common.{◌<◌, arith, subst, sym}
use Rattle.std.specs.Prelude.{All}
use Rattle.bm_objects.specs.Table.{end_of}
use Rattle.machine_tests.proofs.services.fresh_at.Goals as goal

pub returns : goal.returns
returns g c = λ types.
    let s = c.fresh-space.ensures.space types in
    record { mapped = s.mapped; known = s.known; above = subst (λ rows. All (λ r. end_of r < c.args.next) rows) (sym c.fresh-space.ensures.objects) (λ k d lt. absurd (omega arith)); used_is = s.used_is; used_low = s.used_low; next_low = c.requires }
