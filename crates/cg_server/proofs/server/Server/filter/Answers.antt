use Rattle.std.proofs.Common.{◌∙◌, ◌+◌, [], ap, sym, subst, length, arith}
use Rattle.bm_code.specs.Accepted.{HasParameters}
use Rattle.bm_code.specs.Calls.{started}
use Rattle.bm_code.specs.Ran.{IsRun}
use Rattle.cg_program.specs.Compiled.{machine_code}
use Rattle.cg_server.specs.Deliveries.{begun_filter}
use Rattle.cg_server.specs.Messages.{has_messages}
use Rattle.cg_server.proofs.Kept.{run_from, code_from, rows_from}
use Rattle.cg_server.proofs.Parameters.{few, filter_parameters}
use Rattle.cg_server.proofs.server.Server.filter.Goals as goal

pub overflow_cast-functions : goal.overflow_cast-functions
overflow_cast-functions g c =
    let long = ap length c.as_slice-functions.ensures ∙ ap (λ p. length p.functions) c.program.ensures.value in
    let low = few c.self.inside.code.now c.self.invariant.1 in
    omega (arith, long, low)

pub overflow_add-functions : goal.overflow_add-functions
overflow_add-functions g c =
    let long = ap length c.as_slice-functions.ensures ∙ ap (λ p. length p.functions) c.program.ensures.value in
    let low = few c.self.inside.code.now c.self.invariant.1 in
    let filters = c.self.invariant.1.few in
    let same = ap (λ s. length s.source.filters) c.self.view_is in
    let known = c.requires.known in
    omega (arith, long, low, filters, same, known)

pub start-requires-clause-parameters : goal.start-requires-clause-parameters
start-requires-clause-parameters g c =
    let s = c.self.inside.code.now in
    let long = ap length c.as_slice-functions.ensures ∙ ap (λ p. length p.functions) c.program.ensures.value in
    let same = ap (λ s. length s.source.filters) c.self.view_is in
    let known = c.requires.known in
    subst (λ code. HasParameters code (length c.as_slice-functions.result.now + c.args.k) 0) (sym c.self.invariant.0) (subst (λ n. HasParameters (machine_code s) (n + c.args.k) 0) (sym long) (filter_parameters s c.self.invariant.1 c.args.k (omega (arith, same, known))))

pub invariant_of-self : goal.invariant_of-self
invariant_of-self g c =
    let m = c.self.inside.machine in
    let p = started m.process (length c.as_slice-functions.result.now + c.args.k) [] in
    let start = c.start.new.self in
    let end = c.run-stop.new.self in
    let code = code_from m start end p 1000000 c.run-stop.result c.start.ensures c.run-stop.ensures.kept c.run-stop.ensures.run in
    let rows = rows_from m start end p 1000000 c.run-stop.result c.start.ensures c.run-stop.ensures.kept c.run-stop.ensures.run c.self.invariant.2 in
    (ap (λ s. s.code) c.settle.ensures ∙ (code ∙ c.self.invariant.0), c.self.invariant.1, ap (λ s. has_messages s.process.rows) c.settle.ensures ∙ rows, c.self.invariant.3)

pub returns-clause-run : goal.returns-clause-run
returns-clause-run g c =
    let m = c.self.inside.machine in
    let n = length c.as_slice-functions.result.now in
    let long = ap length c.as_slice-functions.ensures ∙ ap (λ p. length p.functions) c.program.ensures.value in
    let p = started m.process (n + c.args.k) [] in
    let end = c.run-stop.new.self in
    let run = run_from m c.start.new.self end p 1000000 c.run-stop.result c.start.ensures c.run-stop.ensures.kept c.run-stop.ensures.run in
    let numbered = subst (λ n. IsRun m.code m.world 1000000 (started m.process (n + c.args.k) []) c.run-stop.result end.process) long run in
    let coded = subst (λ code. IsRun code m.world 1000000 (begun_filter c.self.inside.code.now m.process c.args.k) c.run-stop.result end.process) c.self.invariant.0 numbered in
    record {
      stop = c.run-stop.result;
      ran = end.process;
      run = subst (λ s. IsRun (machine_code s.source) s.world 1000000 (begun_filter s.source s.process c.args.k) c.run-stop.result end.process) c.self.view_is coded;
      answer_is = c.filter_answer.ensures;
      is = ap (λ s. s.process) c.settle.ensures;
    }
