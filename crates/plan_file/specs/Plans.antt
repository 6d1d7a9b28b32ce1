-- The plan that a text stands for.
use Rattle.std.specs.Prelude.{ℕ, List, [], ◌∷◌, Option, Some, None, Result, Ok, Err, if◌then◌else◌, codes}
use Rattle.std.specs.Str.{is_utf8}
use Rattle.lu_spec.specs.Then.{then_do}
use Rattle.toml.specs.Data.{Data, Members, get_member}
use Rattle.toml.specs.Parse.{parse_document}
use Rattle.plan_file.specs.declared.key.Key.TheVariants as key
use Rattle.plan_file.specs.declared.key.LimitedList.TheVariants as limited
use Rattle.plan_file.specs.declared.error.PlanError.{PlanError}
use Rattle.plan_file.specs.declared.error.PlanError.TheVariants as error
use Rattle.plan_file.specs.declared.plan.Plan.{Plan}
use Rattle.plan_file.specs.declared.plan.Server.{Server}
use Rattle.plan_file.specs.declared.plan.Update.{Update}
use Rattle.plan_file.specs.Forms.{is_file_name, text_where}
use Rattle.plan_file.specs.Lookup.{needed, if_passed, has_only, table_list, each_onto, IsRefusal}
use Rattle.plan_file.specs.Servers.{server_at}
use Rattle.plan_file.specs.Updates.{update_at}

-- 1..16 servers
abbrev pub servers_of : Option Data → Result (List Server) PlanError
servers_of None = Err (error.Field key.Server)
servers_of (Some d) = then_do (table_list key.Server limited.Servers 1 16 d) (each_onto server_at [])

-- at most 64 updates, where there is a list of them
abbrev pub updates_of : List Server → Option Data → Result (List Update) PlanError
updates_of servers None = Ok []
updates_of servers (Some d) = then_do (table_list key.Update limited.Updates 0 64 d) (each_onto (update_at servers) [])

abbrev pub plan_words : List (List ℕ)
plan_words = codes "schedule" ∷ codes "server" ∷ codes "update" ∷ []

-- the plan that a document stands for, or its first refusal in the order of the keys
unfoldable pub plan_in : Members → Result Plan PlanError
plan_in ms =
    then_do (needed ms (codes "schedule") key.Schedule (text_where is_file_name)) (λ schedule.
    then_do (servers_of (get_member (codes "server") ms)) (λ servers.
    then_do (updates_of servers (get_member (codes "update") ms)) (λ updates.
    if_passed (has_only plan_words ms) key.Unknown (
    Ok (record { schedule = schedule; server = servers; update = updates })))))

-- the document that some bytes are: UTF-8 that is TOML
unfoldable pub document_of : List ℕ → Option Members
document_of bytes = if is_utf8 bytes then parse_document bytes else None

abbrev pub or_not_toml : Option Members → Result Members PlanError
or_not_toml None = Err error.NotToml
or_not_toml (Some ms) = Ok ms

-- the plan that a file's bytes stand for, or why there is none
unfoldable pub plan_of : List ℕ → Result Plan PlanError
plan_of bytes = then_do (or_not_toml (document_of bytes)) plan_in

-- why no document was read: there is none, or no memory
abbrev pub IsUnread : List ℕ → PlanError → Type 0
IsUnread bytes e = IsRefusal (or_not_toml (document_of bytes)) e
