use Rattle.std.proofs.Common.{◌∙◌, ap, sym}
use Rattle.bm_code.specs.Pointers.{read}
use Rattle.bm_frame.proofs.memory.read.Goals as goal

pub returns-in-Load : goal.returns-in-Load
returns-in-Load g c =
    c.load.ensures c.args.types.now ∙ ap (λ o. read o c.args.types.now (g.B.Bytes.content c.args.memory.now) c.args.objects.now c.args.address) (sym c.in-Load.is)

pub returns-in-Union : goal.returns-in-Union
returns-in-Union g c =
    c.read_union.ensures c.args.types.now ∙ ap (λ o. read o c.args.types.now (g.B.Bytes.content c.args.memory.now) c.args.objects.now c.args.address) (sym c.in-Union.is)
