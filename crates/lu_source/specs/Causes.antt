-- The causes for which no source is read, by those of the crates below.
use Rattle.lu_base.specs.declared.shelf.ShelfFault.{ShelfFault}
use Rattle.lu_base.specs.declared.shelf.ShelfFault.TheVariants as file
use Rattle.c_lex.specs.declared.error.LexError.{LexError}
use Rattle.c_lex.specs.declared.error.LexError.TheVariants as lex
use Rattle.c_parse_expr.specs.declared.error.ParseError.{ParseError}
use Rattle.c_parse_expr.specs.declared.error.ParseError.TheVariants as parse
use Rattle.c_check_scope.specs.declared.error.CheckError.{CheckError}
use Rattle.c_check_scope.specs.declared.error.CheckError.TheVariants as check
use Rattle.lu_load_lines.specs.declared.refusal.SourceRefusal.TheVariants.{Absent, TooLarge, BadByte, BadNumber, Syntax, TooDeep, Rule}
use Rattle.lu_source.specs.declared.error.SourceError.{SourceError}
use Rattle.lu_source.specs.declared.error.SourceError.TheVariants.{Refused, ReadFault, Memory}

abbrev pub of_file : ShelfFault → SourceError
of_file file.Failed = ReadFault
of_file file.Absent = Refused Absent
of_file file.TooLarge = Refused TooLarge
of_file file.Memory = Memory

abbrev pub of_tokens : LexError → SourceError
of_tokens (lex.BadByte line col) = Refused (BadByte line col)
of_tokens (lex.BadNumber line col) = Refused (BadNumber line col)
of_tokens lex.Memory = Memory

abbrev pub of_grammar : ParseError → SourceError
of_grammar (parse.Syntax k) = Refused (Syntax k)
of_grammar (parse.TooDeep k) = Refused (TooDeep k)
of_grammar parse.Memory = Memory

abbrev pub of_rules : CheckError → SourceError
of_rules (check.Rule k code) = Refused (Rule k code)
of_rules check.Memory = Memory
