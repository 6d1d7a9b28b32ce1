use Rattle.std.proofs.Common.{◌∙◌, ap}
use Rattle.bm_code.specs.Calls.{with_content}
use Rattle.bm_code.specs.Services.{with_object}
use Rattle.bm_cpu.specs.State.{with_process}
use Rattle.cg_server.proofs.Bytes.{new_inside, new_with}
use Rattle.cg_server.proofs.temporary.put_temporary.Goals as goal

pub put-requires-clause-inside : goal.put-requires-clause-inside
put-requires-clause-inside g c =
    new_inside c.args.machine.now.process.content c.add.new.self.process.content c.args.row.addr c.args.row.size c.args.bytes.now (ap (λ s. s.process.content) c.in_ok-add.ensures.ok) c.requires.long

pub returns-clause-ok : goal.returns-clause-ok
returns-clause-ok g c =
    let m = c.args.machine.now in
    let x = c.put.new.self.process.content in
    let made = c.in_ok-add.ensures.ok in
    c.put.ensures.kept
    ∙ (ap (λ s. with_process s (with_content s.process x)) made
    ∙ ap (λ x. with_process m (with_content (with_object m.process c.args.row) x)) (new_with m.process.content c.add.new.self.process.content c.args.row.addr c.args.row.size c.args.bytes.now (ap (λ s. s.process.content) made) c.requires.long x c.put.ensures.written))
