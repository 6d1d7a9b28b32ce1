use Rattle.std.proofs.Common.{rules, ◌≡◌, ◌∙◌, sym, ap}
use Rattle.src_meaning.specs.ValidDepth as spec
use Rattle.src_meaning.proofs.ValidBounds.{bounds-Unary, bounds-Binary, bounds-Logical, bounds-Conditional, bounds-Item, bounds-Element, bounds-Field, bounds-Member}
use Rattle.src_model.proofs.valid_depth.+keeps_bounds.Goals as goal

pub keeps_bounds-returns-in-Unary : goal.keeps_bounds-returns-in-Unary
keeps_bounds-returns-in-Unary t c = let e = ap (λ k. spec.keeps_bounds c.args.spot k) c.in-Unary.is ∙ bounds-Unary c.args.spot c.in-Unary.field-0 c.in-Unary.inner in search rules

pub keeps_bounds-returns-then-keeps_bounds : goal.keeps_bounds-returns-then-keeps_bounds
keeps_bounds-returns-then-keeps_bounds t c = let e = ap (λ k. spec.keeps_bounds c.args.spot k) c.in-Binary.is ∙ bounds-Binary c.args.spot c.in-Binary.operator c.in-Binary.a c.in-Binary.b in search rules

pub keeps_bounds-returns-else-keeps_bounds : goal.keeps_bounds-returns-else-keeps_bounds
keeps_bounds-returns-else-keeps_bounds t c = let e = ap (λ k. spec.keeps_bounds c.args.spot k) c.in-Binary.is ∙ bounds-Binary c.args.spot c.in-Binary.operator c.in-Binary.a c.in-Binary.b in search rules

pub keeps_bounds-returns-then-keeps_bounds-2 : goal.keeps_bounds-returns-then-keeps_bounds-2
keeps_bounds-returns-then-keeps_bounds-2 t c = let e = ap (λ k. spec.keeps_bounds c.args.spot k) c.in-Logical.is ∙ bounds-Logical c.args.spot c.in-Logical.operator c.in-Logical.a c.in-Logical.b in search rules

pub keeps_bounds-returns-else-keeps_bounds-2 : goal.keeps_bounds-returns-else-keeps_bounds-2
keeps_bounds-returns-else-keeps_bounds-2 t c = let e = ap (λ k. spec.keeps_bounds c.args.spot k) c.in-Logical.is ∙ bounds-Logical c.args.spot c.in-Logical.operator c.in-Logical.a c.in-Logical.b in search rules

pub keeps_bounds-returns-then-keeps_bounds-4 : goal.keeps_bounds-returns-then-keeps_bounds-4
keeps_bounds-returns-then-keeps_bounds-4 t c = let e = ap (λ k. spec.keeps_bounds c.args.spot k) c.in-Conditional.is ∙ bounds-Conditional c.args.spot c.in-Conditional.c c.in-Conditional.a c.in-Conditional.b in search rules

pub keeps_bounds-returns-else-keeps_bounds-4 : goal.keeps_bounds-returns-else-keeps_bounds-4
keeps_bounds-returns-else-keeps_bounds-4 t c = let e = ap (λ k. spec.keeps_bounds c.args.spot k) c.in-Conditional.is ∙ bounds-Conditional c.args.spot c.in-Conditional.c c.in-Conditional.a c.in-Conditional.b in search rules

pub place_keeps_bounds-returns-then-keeps_bounds : goal.place_keeps_bounds-returns-then-keeps_bounds
place_keeps_bounds-returns-then-keeps_bounds t c = let e = ap (λ k. spec.place_keeps_bounds c.args.spot k) c.in-Item.is ∙ bounds-Item c.args.spot c.in-Item.pointer c.in-Item.index in search rules

pub place_keeps_bounds-returns-then-place_keeps_bounds : goal.place_keeps_bounds-returns-then-place_keeps_bounds
place_keeps_bounds-returns-then-place_keeps_bounds t c = let e = ap (λ k. spec.place_keeps_bounds c.args.spot k) c.in-Element.is ∙ bounds-Element c.args.spot c.in-Element.array c.in-Element.index in search rules

pub place_keeps_bounds-returns-in-Field : goal.place_keeps_bounds-returns-in-Field
place_keeps_bounds-returns-in-Field t c = let e = ap (λ k. spec.place_keeps_bounds c.args.spot k) c.in-Field.is ∙ bounds-Field c.args.spot c.in-Field.whole c.in-Field.field-1 in search rules

pub place_keeps_bounds-returns-in-Member : goal.place_keeps_bounds-returns-in-Member
place_keeps_bounds-returns-in-Member t c = let e = ap (λ k. spec.place_keeps_bounds c.args.spot k) c.in-Member.is ∙ bounds-Member c.args.spot c.in-Member.whole c.in-Member.field-1 in search rules
