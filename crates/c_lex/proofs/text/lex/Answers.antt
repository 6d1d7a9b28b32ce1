use Rattle.c_lex.proofs.Exact.{only, first}
use Rattle.c_lex.proofs.text.lex.Goals as goal

pub returns-clause-only : goal.returns-clause-only
returns-clause-only c = only (λ v. v.items) c.args.text.now c.read.result c.read.ensures.tokens c.read.ensures.refused

pub returns-clause-first : goal.returns-clause-first
returns-clause-first c = first (λ v. v.items) c.args.text.now c.read.result c.read.ensures.tokens c.read.ensures.refused
