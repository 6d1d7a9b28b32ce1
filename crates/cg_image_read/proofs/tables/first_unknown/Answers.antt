use Rattle.std.proofs.Common.{◌∙◌, ◌+◌, sym, ap, Some, drop}
use Rattle.c_types.specs.declared.parts.IntKind.TheVariants.{Char}
use Rattle.c_types.specs.declared.parts.Ty.TheVariants.{Int}
use Rattle.cg_image_read.specs.Types.{knows, first_refused}
use Rattle.cg_image_read.proofs.Loop.{refused_here, refused_later, none_refused}
use Rattle.cg_image_read.proofs.tables.first_unknown.Goals as goal

pub returns-then-not-knows : goal.returns-then-not-knows
returns-then-not-knows c =
    let test = knows c.args.list c.args.count in
    let total = first_refused test c.args.end c.args.bytes.now c.args.types.now in
    ap Some c.place.ensures
    ∙ sym (refused_here test c.args.end c.loop-ty.rest.now c.args.types.now c.loop-ty.ty-index (Int Char) total c.loop-ty-test.true (sym c.knows.ensures ∙ c.if-not-knows.true) c.loop-ty.invariant)

pub loop-ty-preserved : goal.loop-ty-preserved
loop-ty-preserved c =
    let test = knows c.args.list c.args.count in
    let total = first_refused test c.args.end c.args.bytes.now c.args.types.now in
    ap (λ l. first_refused test c.args.end l (drop (c.loop-ty.ty-index + 1) c.args.types.now)) (c.skip-rest.ensures ∙ ap (λ k. drop k c.loop-ty.rest.now) c.spelled_size.ensures)
    ∙ refused_later test c.args.end c.loop-ty.rest.now c.args.types.now c.loop-ty.ty-index (Int Char) total c.loop-ty-test.true (sym c.knows.ensures ∙ c.if-not-knows.false) c.loop-ty.invariant

pub returns : goal.returns
returns c =
    let test = knows c.args.list c.args.count in
    let total = first_refused test c.args.end c.args.bytes.now c.args.types.now in
    sym (none_refused test c.args.end c.loop-ty.rest.now c.args.types.now c.loop-ty.ty-index (Int Char) total c.loop-ty-test.false c.loop-ty.invariant)
