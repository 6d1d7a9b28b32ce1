use Rattle.std.proofs.Common.{◌≡◌, ap, sym, subst, length}
use Rattle.bm_code.specs.Accepted.{HasParameters}
use Rattle.bm_cpu.proofs.AcceptedLemmas.{few_parameters}
use Rattle.bm_cpu.proofs.machine.Machine.start.Goals as goal

pub fill-requires-clause-words : goal.fill-requires-clause-words
fill-requires-clause-words g c =
    let code = c.self.inside.code.now in
    let count = length c.args.args.now in
    let same : code ≡ c.args.self.now.code = ap (λ s. s.code) c.self.view_is in
    few_parameters code c.self.invariant.0 c.args.function count (subst (λ k. HasParameters k c.args.function count) (sym same) c.requires.parameters)
