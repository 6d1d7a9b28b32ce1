-- What each accepted plan keeps.
use Rattle.std.specs.Prelude.{◌≡◌, ℕ, ◌≤◌, List, length, take, slice_get, Bool, true, false, ◌&&◌, IsTrue, Some}
use Rattle.std.specs.List.{list_all, list_any}
use Rattle.std.specs.Option.{option_map_or}
use Rattle.std.specs.Str.{bytes_eq}
use Rattle.plan_file.specs.declared.plan.Plan.{Plan}
use Rattle.plan_file.specs.declared.plan.Server.{Server}
use Rattle.plan_file.specs.declared.plan.Update.{Update}
use Rattle.plan_file.specs.declared.plan.Rename.{Rename}
use Rattle.plan_file.specs.declared.plan.Handler.{Handler}
use Rattle.plan_file.specs.Forms.{is_name, is_file_name, is_filter}
use Rattle.plan_file.specs.Renames.{all_tables, rename_word, is_old, is_new, are_in_order}
use Rattle.plan_file.specs.Servers.{has_server_name, has_server_number}
use Rattle.plan_file.specs.Updates.{has_update_name, is_version}

-- each item keeps the fact, with the items before it in sight
abbrev pub EachBehind : {T : Type 0} → (List T → T → Type 0) → List T → Type 0
EachBehind {T} P items = (i : ℕ) (t : T) → slice_get items i ≡ Some t → P (take i items) t

-- a number from one to another
pub record IsBetween (low high n : ℕ) : Type 0 where
  pub least : low ≤ n
  pub most : n ≤ high

-- a server behind the earlier ones: its name and its number are its own
pub record KeepsServer (earlier : List Server) (s : Server) : Type 0 where
  pub name : IsTrue (is_name s.name)
  pub other_name : has_server_name earlier s.name ≡ false
  pub number : IsBetween 1 16 s.number
  pub other_number : has_server_number earlier s.number ≡ false
  pub source : IsTrue (is_file_name s.source)
  pub version : IsBetween 1 1000000 s.version

-- the names of a rename have the form of its table
abbrev pub keeps_rename : Rename → Bool
keeps_rename r = list_any (λ t. bytes_eq r.table (rename_word t) && is_old t r.old && is_new t r.new) all_tables

abbrev pub keeps_handler : Handler → Bool
keeps_handler h = is_name h.old && is_name h.old_form && is_name h.function

-- An update behind the earlier ones: its name is its own, it is of a server of the plan, whose version `from` is already,
-- and `to` isn't yet; its renames are in order, so no table has one old name twice.
pub record KeepsUpdate (servers : List Server) (earlier : List Update) (u : Update) : Type 0 where
  pub name : IsTrue (is_name u.name)
  pub other_name : has_update_name earlier u.name ≡ false
  pub own : Server
  pub server : slice_get servers u.server ≡ Some own
  pub from : IsBetween 1 1000000 u.from
  pub reached : is_version (record { server = u.server; version = own.version }) earlier u.from ≡ true
  pub to : IsBetween 1 1000000 u.to
  pub other_version : is_version (record { server = u.server; version = own.version }) earlier u.to ≡ false
  pub source : IsTrue (is_file_name u.source)
  pub filter : IsTrue (is_filter u.filter)
  pub hold : length u.hold ≤ 64
  pub tries : IsBetween 1 1000 u.tries
  pub after : IsTrue (option_map_or is_name u.after true)
  pub renames : IsTrue (list_all keeps_rename u.rename)
  pub ordered : IsTrue (are_in_order u.rename)
  pub few_handlers : length u.handler ≤ 16
  pub handlers : IsTrue (list_all keeps_handler u.handler)

-- the forms and the limits of all keys
pub record KeepsForms (plan : Plan) : Type 0 where
  pub schedule : IsTrue (is_file_name plan.schedule)
  pub some : 1 ≤ length plan.server
  pub few_servers : length plan.server ≤ 16
  pub servers : EachBehind KeepsServer plan.server
  pub few_updates : length plan.update ≤ 64
  pub updates : EachBehind (KeepsUpdate plan.server) plan.update
