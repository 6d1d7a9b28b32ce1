use Rattle.std.proofs.Common.{◌∙◌, ap, ◌++◌, take}
use Rattle.cg_program.proofs.ByteLemmas.{little_endian-front}
use Rattle.cg_program.proofs.bytes.put_number.Goals as goal

pub returns : goal.returns
returns c =
    let front = little_endian-front c.args.count c.args.number c.requires in
    c.in_ok-extend_from_slice.ensures.items ∙ ap (λ l. c.args.bytes.now.items ++ l) (ap (take c.args.count) c.to_le_bytes-all.ensures ∙ front)
