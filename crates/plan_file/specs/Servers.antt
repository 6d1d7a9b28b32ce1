-- The servers of a plan.
use Rattle.std.specs.Prelude.{ℕ, List, [], ◌∷◌, Bool, not, nat_eq, Result, Ok, codes}
use Rattle.std.specs.List.{list_any}
use Rattle.std.specs.Str.{bytes_eq}
use Rattle.lu_spec.specs.Then.{then_do}
use Rattle.toml.specs.Data.{Data, Members, as_table}
use Rattle.plan_file.specs.declared.key.Key.TheVariants as key
use Rattle.plan_file.specs.declared.error.PlanError.{PlanError}
use Rattle.plan_file.specs.declared.plan.Server.{Server}
use Rattle.plan_file.specs.declared.plan.Pointers.TheVariants as pointers
use Rattle.plan_file.specs.Forms.{is_name, is_file_name, text_where, number_between, pointers_of}
use Rattle.plan_file.specs.Lookup.{needed, defaulted, or_field, if_passed, has_only}

abbrev pub has_server_name : List Server → List ℕ → Bool
has_server_name servers name = list_any (λ (s : Server). bytes_eq s.name name) servers

abbrev pub has_server_number : List Server → ℕ → Bool
has_server_number servers number = list_any (λ (s : Server). nat_eq s.number number) servers

abbrev pub server_words : List (List ℕ)
server_words = codes "name" ∷ codes "number" ∷ codes "source" ∷ codes "version" ∷ codes "pointers" ∷ []

-- the server that a table stands for behind the earlier ones, or its first refusal
unfoldable pub server_of : List Server → Members → Result Server PlanError
server_of earlier ms =
    then_do (needed ms (codes "name") key.ServerName (text_where is_name)) (λ name.
    if_passed (not (has_server_name earlier name)) key.ServerName (
    then_do (needed ms (codes "number") key.ServerNumber (number_between 1 16)) (λ number.
    if_passed (not (has_server_number earlier number)) key.ServerNumber (
    then_do (needed ms (codes "source") key.ServerSource (text_where is_file_name)) (λ source.
    then_do (defaulted ms (codes "version") key.ServerVersion (number_between 1 1000000) 1) (λ version.
    then_do (defaulted ms (codes "pointers") key.ServerPointers pointers_of pointers.Narrow) (λ size.
    if_passed (has_only server_words ms) key.ServerUnknown (
    Ok (record { name = name; number = number; source = source; version = version; pointers = size })))))))))

-- the server that an item of the list stands for
abbrev pub server_at : List Server → Data → Result Server PlanError
server_at earlier d = then_do (or_field key.Server (as_table d)) (server_of earlier)
