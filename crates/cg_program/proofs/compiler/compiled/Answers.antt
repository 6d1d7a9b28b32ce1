use Rattle.std.proofs.Common.{◌∙◌, ap, sym}
use Rattle.cg_program.specs.Compiled.{source, machine_code}
use Rattle.cg_program.proofs.compiler.compiled.Goals as goal

pub of-requires-clause-machine : goal.of-requires-clause-machine
of-requires-clause-machine c =
    c.in_ok-machine.ensures ∙ ap (λ l. machine_code (source c.args.p.now l)) c.as_slice.ensures ∙ ap (λ p. machine_code (source p c.args.filters)) (sym c.in_ok-program.ensures)
