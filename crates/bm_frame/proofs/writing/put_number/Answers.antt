use Rattle.std.proofs.Common.{◌≡◌, ◌∙◌, ap, subst, take, List, ℕ}
use Rattle.lu_spec.specs.LittleEndian.{little_endian}
use Rattle.bm_code.specs.Access.{written_at}
use Rattle.bm_code.specs.Mapped.{or_bad}
use Rattle.bm_frame.specs.View.{Leaves}
use Rattle.bm_frame.proofs.Written.{word_front}
use Rattle.bm_frame.proofs.writing.put_number.Goals as goal

pub returns-clause-is : goal.returns-clause-is
returns-clause-is g c =
    let bytes : take c.args.size c.to_le_bytes.result ≡ little_endian c.args.size c.args.word = ap (take c.args.size) c.to_le_bytes.ensures ∙ word_front c.args.size c.args.word c.requires.size in
    subst (λ (piece : List ℕ). Leaves c.put_piece.result (or_bad (written_at (g.B.Bytes.content c.args.memory.now) c.args.objects.now c.args.address piece)) (g.B.Bytes.content c.put_piece.new.memory)) bytes c.put_piece.ensures.is
