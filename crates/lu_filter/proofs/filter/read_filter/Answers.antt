use Rattle.std.proofs.Common.{◌∙◌, sym, subst}
use Rattle.lu_filter.specs.Filters.{Denotes}
use Rattle.lu_filter.proofs.filter.read_filter.Goals as goal

pub returns-else-is_integer-clause-refused : goal.returns-else-is_integer-clause-refused
returns-else-is_integer-clause-refused c = record {
  filter = c.in_ok-filter.filter;
  denoted = subst (λ text. Denotes c.args.program.now text c.in_ok-filter.filter) c.as_bytes.ensures.value c.in_ok-filter.ensures.read;
  other = sym c.is_integer.ensures ∙ c.if-is_integer.false;
}
