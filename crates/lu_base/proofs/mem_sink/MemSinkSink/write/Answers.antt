use Rattle.std.proofs.Common.{take, drop, sym, rules}
use Rattle.std.proofs.lemmas.List.{take-append-drop}
use Rattle.lu_base.proofs.mem_sink.MemSinkSink.write.Goals as goal

-- What went out is the front of the piece that the entry names.
pub returns-in_ok-extend_from_slice-in-Some-clause-answer :
    goal.returns-in_ok-extend_from_slice-in-Some-clause-answer
returns-in_ok-extend_from_slice-in-Some-clause-answer c =
    let front = c.min.result in
    (take front c.args.piece.now, (drop front c.args.piece.now, sym (take-append-drop front c.args.piece.now)), search rules)
