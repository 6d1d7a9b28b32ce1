-- What is declared before a text.
use Rattle.std.specs.Prelude.{ℕ, List, [], length, replicate, Option, None}
use Rattle.c_types.specs.declared.parts.Ty.TheVariants as T
use Rattle.c_types.specs.declared.parts.Parts.{Parts}
use Rattle.c_check_scope.specs.declared.scope.Scope.{Scope}
use Rattle.c_check_scope.specs.declared.scope.Tag.{Tag}
use Rattle.c_check_scope.specs.declared.scope.Meaning.{Meaning}
use Rattle.c_check_scope.specs.declared.scope.Meaning.TheVariants.{Global, BuiltIn}
use Rattle.c_check_scope.specs.declared.scope.BuiltIn.TheVariants.{Send, Malloc, Calloc, Free, Panic}
use Rattle.c_check_scope.specs.Names.{Text, with_meaning}
use Rattle.c_check_expr.specs.Denoted.{number}

-- `struct message` is struct 0
abbrev pub message_type : Parts → ℕ
message_type p = number p (T.Struct 0)

abbrev pub nothing_yet : List (Option Tag) → List (Option Meaning)
nothing_yet tags = replicate (length tags) None

abbrev pub with_messages : List (Option Meaning) → ℕ → List (Option Meaning)
with_messages meanings ty = with_meaning (with_meaning meanings 4 (Global 0 ty)) 5 (Global 1 ty)

abbrev pub with_built_ins : List (Option Meaning) → List (Option Meaning)
with_built_ins meanings =
    with_meaning (with_meaning (with_meaning (with_meaning (with_meaning meanings 6 (BuiltIn Send)) 7 (BuiltIn Malloc)) 8 (BuiltIn Calloc)) 9 (BuiltIn Free)) 10 (BuiltIn Panic)

-- Names 4 to 10 are `m_in`, `m_out`, `send`, `malloc`, `calloc`, `free` and `panic`
unfoldable pub start_meanings : ℕ → List (Option Tag) → List (Option Meaning)
start_meanings ty tags = with_built_ins (with_messages (nothing_yet tags) ty)

-- the scope before the first declaration of a text
unfoldable pub start_scope : Parts → List Text → List (Option Tag) → Scope
start_scope p names tags =
    record {
      types = p;
      names = names;
      meanings = start_meanings (message_type p) tags;
      tags = tags;
      locals = [];
      variables = [];
    }
