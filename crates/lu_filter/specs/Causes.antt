-- The causes of a filter's refusal by those of the crates below.
use Rattle.c_lex.specs.declared.error.LexError.{LexError}
use Rattle.c_lex.specs.declared.error.LexError.TheVariants as lex
use Rattle.c_parse_expr.specs.declared.error.ParseError.{ParseError}
use Rattle.c_parse_expr.specs.declared.error.ParseError.TheVariants as parse
use Rattle.c_check_scope.specs.declared.error.CheckError.{CheckError}
use Rattle.c_check_scope.specs.declared.error.CheckError.TheVariants as check
use Rattle.lu_filter.specs.declared.error.FilterError.{FilterError}
use Rattle.lu_filter.specs.declared.error.FilterError.TheVariants.{BadByte, BadNumber, Syntax, TooDeep, Rule, Memory}

abbrev pub of_tokens : LexError → FilterError
of_tokens (lex.BadByte line column) = BadByte column
of_tokens (lex.BadNumber line column) = BadNumber column
of_tokens lex.Memory = Memory

abbrev pub of_grammar : ParseError → FilterError
of_grammar (parse.Syntax k) = Syntax
of_grammar (parse.TooDeep k) = TooDeep
of_grammar parse.Memory = Memory

abbrev pub of_rules : CheckError → FilterError
of_rules (check.Rule k code) = Rule code
of_rules check.Memory = Memory
