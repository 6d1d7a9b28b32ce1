use Rattle.std.proofs.Common.{arith, [], ◌∷◌, ◌∙◌, sym, ap, subst, ◌+◌, List, Option, IfSome, length, length-append, take}
use Rattle.lu_base.specs.Files.{Files}
use Rattle.cg_program.specs.Compiled.{Source}
use Rattle.lu_load.specs.Programs.{IsLoaded, AreLoaded}
use Rattle.lu_load.proofs.Loaded.{loaded-more}
use Rattle.lu_load.proofs.source.load_sources.Goals as goal

pub loop-source-preserved : goal.loop-source-preserved
loop-source-preserved g c =
    let held : Option Files = g.S.Shelf.holds c.args.shelf.now in
    let i = c.loop-source.source-index in
    let P : List Source → Type 0 = λ codes. IfSome held (λ files. AreLoaded files (take (i + 1) c.args.sources.now) codes) in
    let Q : Option Files → Type 0 = λ told. IfSome told (λ files. IsLoaded files c.source-item.result c.in_ok-load_source.field-0) in
    record {
      kept = c.in_ok-load_source.ensures.kept ∙ c.loop-source.invariant.kept;
      later = omega (arith, c.in_ok-load_source.ensures.cause.later, c.loop-source.invariant.later);
      count = omega (arith, ap length c.in_ok-push.ensures.ok, length-append c.loop-source.codes (c.in_ok-load_source.field-0 ∷ []), c.loop-source.invariant.count);
      loaded = subst P (sym c.in_ok-push.ensures.ok)
          (loaded-more held c.args.sources.now i c.loop-source.codes c.source-item.result c.in_ok-load_source.field-0
          c.loop-source-test.true c.source-item.is c.loop-source.invariant.loaded
          (subst Q c.loop-source.invariant.kept c.in_ok-load_source.ensures.answer));
    }
