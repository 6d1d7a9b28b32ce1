use Rattle.c_parse.proofs.Programs.{answers_only, answers_kind}
use Rattle.c_parse.proofs.program.parse.Goals as goal

pub returns-clause-only : goal.returns-clause-only
returns-clause-only c = answers_only c.args.tokens.now c.read.result c.read.ensures.found c.read.ensures.refused

pub returns-clause-kind : goal.returns-clause-kind
returns-clause-kind c = answers_kind c.args.tokens.now c.read.result c.read.ensures.found c.read.ensures.refused
