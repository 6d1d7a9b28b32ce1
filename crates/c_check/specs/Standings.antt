-- What stands after the declarations of a text so far.
use Rattle.std.specs.Prelude.{ℕ, ◌+◌, true, false, List, [], ◌∷◌, ◌++◌, length, slice_set}
use Rattle.c_types.specs.declared.parts.Signature.{Signature}
use Rattle.c_types.specs.Layout.{size_of}
use Rattle.src_tree.specs.declared.program.Init.{Zero}
use Rattle.src_tree.specs.declared.program.Global as Variable
use Rattle.src_tree.specs.declared.program.Function as Code
use Rattle.src_tree.specs.declared.program.Site.{Site}
use Rattle.src_tree.specs.declared.stmt.TypedStmt.{TypedStmt}
use Rattle.c_check_scope.specs.declared.scope.Scope.{Scope}
use Rattle.c_check_scope.specs.declared.scope.Meaning.{Meaning}
use Rattle.c_check_scope.specs.declared.scope.Meaning.TheVariants.{Global}
use Rattle.c_check_decl.specs.declared.globals.DeclaredGlobal.{DeclaredGlobal}
use Rattle.c_check_stmt.specs.declared.bodies.Body.{Body}
use Rattle.c_check_table.specs.Predeclared.{message_type}
use Rattle.c_check_scope.specs.Names.{with_meaning}
use Rattle.c_check.specs.declared.standing.Standing.{Standing}

-- ---- before the text

abbrev pub message_global : ℕ → ℕ → Variable.Global
message_global name ty = record { name = name; ty = ty; init = Zero }

-- `m_in` and `m_out`, names 4 and 5, are the first two globals
abbrev pub start_globals : ℕ → List Variable.Global
start_globals ty = message_global 4 ty ∷ (message_global 5 ty ∷ [])

unfoldable pub start : Scope → Standing
start scope =
    record {
      scope = scope;
      globals = start_globals (message_type scope.types);
      bytes = size_of scope.types (message_type scope.types) + size_of scope.types (message_type scope.types);
      functions = [];
      defined = [];
      sites = [];
    }

-- ---- names

abbrev pub meaning_in : Scope → ℕ → Meaning → Scope
meaning_in scope k meaning = record scope { meanings = with_meaning scope.meanings k meaning }

-- ---- globals

-- one more global of that name
unfoldable pub with_global : Standing → ℕ → ℕ → DeclaredGlobal → Standing
with_global s name bytes made =
    record s {
      scope = meaning_in s.scope name (Global (length s.globals) made.ty);
      globals = s.globals ++ (record { name = name; ty = made.ty; init = made.init } ∷ []);
      bytes = bytes;
    }

-- ---- functions

abbrev pub with_text : ℕ → Signature → List ℕ → List TypedStmt → Code.Function
with_text name g locals body =
    record { name = name; params = g.params; ret = g.result; locals = locals; body = body }

abbrev pub heading_only : ℕ → Signature → Code.Function
heading_only name g = with_text name g [] []

-- one more function, without a body so far
unfoldable pub with_prototype : Standing → ℕ → Signature → Standing
with_prototype s name g =
    record s {
      functions = s.functions ++ (heading_only name g ∷ []);
      defined = s.defined ++ (false ∷ []);
    }

abbrev pub and_site : List Site → ℕ → ℕ → ℕ → List Site
and_site sites f k t = sites ++ (record { function = f; ordinal = k; elem = t } ∷ [])

-- the sites of a function from number k on, behind those before
abbrev pub with_sites : List Site → ℕ → ℕ → List ℕ → List Site
with_sites sites f k [] = sites
with_sites sites f k (t ∷ ts) = with_sites (and_site sites f k t) f (k + 1) ts

-- function f has this body
unfoldable pub with_body : Standing → ℕ → ℕ → Signature → Body → Standing
with_body s f name g b =
    record s {
      functions = slice_set s.functions f (with_text name g b.locals b.statements);
      defined = slice_set s.defined f true;
      sites = with_sites s.sites f 0 b.sites;
    }
