-- The scope of all that a program declares.
use Rattle.std.specs.Prelude.{ℕ, ◌+◌, true, List, [], ◌∷◌, length, replicate, codes, Option, Some, None, slice_set}
use Rattle.c_types.specs.declared.parts.Parts.{Parts}
use Rattle.c_types.specs.declared.parts.TagDef.{TagDef}
use Rattle.c_ast.specs.declared.types.TagKind.{TagKind}
use Rattle.c_ast.specs.declared.types.TagKind.TheVariants.{Struct, Union}
use Rattle.src_tree.specs.declared.program.Program.{Program}
use Rattle.src_tree.specs.declared.program.Global.{Global as Variable}
use Rattle.src_tree.specs.declared.program.Function.{Function as Procedure}
use Rattle.c_check_scope.specs.declared.scope.Scope.{Scope}
use Rattle.c_check_scope.specs.declared.scope.Tag.{Tag}
use Rattle.c_check_scope.specs.declared.scope.Meaning.{Meaning}
use Rattle.c_check_scope.specs.declared.scope.Meaning.TheVariants.{Global, Function, BuiltIn}
use Rattle.c_check_scope.specs.declared.scope.BuiltIn.{BuiltIn as Which}
use Rattle.c_check_scope.specs.declared.scope.BuiltIn.TheVariants.{Send, Malloc, Calloc, Free, Panic}
use Rattle.c_check_scope.specs.Names.{Text, with_name, number_named, with_meaning}
use Rattle.c_check_expr.specs.Declarators.{signature_number}

-- ---- names

-- names and then others, each once
abbrev pub all_named : List Text → List Text → List Text
all_named names [] = names
all_named names (x ∷ xs) = all_named (with_name names x) xs

abbrev pub built_in_names : List Text
built_in_names = codes "send" ∷ codes "malloc" ∷ codes "calloc" ∷ codes "free" ∷ codes "panic" ∷ []

-- those of the program, and then those of the built-in functions
unfoldable pub names_of : Program → List Text
names_of program = all_named (all_named [] program.names) built_in_names

-- ---- meanings, by the numbers of names

-- globals, numbered from here on
abbrev pub with_globals : List (Option Meaning) → ℕ → List Variable → List (Option Meaning)
with_globals meanings n [] = meanings
with_globals meanings n (g ∷ gs) = with_globals (with_meaning meanings g.name (Global n g.ty)) (n + 1) gs

-- the function of a number
abbrev pub function_meaning : Parts → ℕ → Procedure → Meaning
function_meaning p n f = Function n (signature_number p (record { result = f.ret; params = f.params }))

-- functions, numbered from here on
abbrev pub with_functions : Parts → List (Option Meaning) → ℕ → List Procedure → List (Option Meaning)
with_functions p meanings n [] = meanings
with_functions p meanings n (f ∷ fs) =
    with_functions p (with_meaning meanings f.name (function_meaning p n f)) (n + 1) fs

abbrev pub with_built_in_at : List (Option Meaning) → Option ℕ → Which → List (Option Meaning)
with_built_in_at meanings None which = meanings
with_built_in_at meanings (Some k) which = with_meaning meanings k (BuiltIn which)

-- a built-in function by its name
unfoldable pub with_built_in : List Text → List (Option Meaning) → Text → Which → List (Option Meaning)
with_built_in names meanings x which = with_built_in_at meanings (number_named names x) which

abbrev pub with_allocations : List Text → List (Option Meaning) → List (Option Meaning)
with_allocations names meanings =
    with_built_in names (with_built_in names (with_built_in names meanings (codes "malloc") Malloc) (codes "calloc") Calloc) (codes "free") Free

abbrev pub with_built_ins : List Text → List (Option Meaning) → List (Option Meaning)
with_built_ins names meanings =
    with_built_in names (with_built_in names (with_allocations names meanings) (codes "send") Send) (codes "panic") Panic

-- no name means anything at first
unfoldable pub meanings_of : Program → List Text → List (Option Meaning)
meanings_of program names =
    with_built_ins names (with_functions program.types (with_globals (replicate (length names) None) 0 program.globals) 0 program.functions)

-- ---- tags, by the numbers of names

abbrev pub tag : TagKind → ℕ → Tag
tag kind n = record { kind = kind; number = n; is_declared = true }

-- structs or unions, numbered from here on
abbrev pub with_tags : List (Option Tag) → TagKind → ℕ → List TagDef → List (Option Tag)
with_tags tags kind n [] = tags
with_tags tags kind n (t ∷ ts) = with_tags (slice_set tags t.tag (Some (tag kind n))) kind (n + 1) ts

-- no name is a tag at first
unfoldable pub tags_of : Parts → List Text → List (Option Tag)
tags_of p names = with_tags (with_tags (replicate (length names) None) Struct 0 p.structs) Union 0 p.unions

-- ---- the scope

unfoldable pub scope_named : Program → List Text → Scope
scope_named program names =
    record {
      types = program.types;
      names = names;
      meanings = meanings_of program names;
      tags = tags_of program.types names;
      locals = [];
      variables = [];
    }

unfoldable pub scope_of : Program → Scope
scope_of program = scope_named program (names_of program)
