-- The texts of keys.
use Rattle.std.specs.Prelude.{ℕ, List, codes}
use Rattle.plan_file.specs.declared.key.Key.{Key}
use Rattle.plan_file.specs.declared.key.Key.TheVariants as key
use Rattle.plan_file.specs.declared.key.LimitedList.{LimitedList}
use Rattle.plan_file.specs.declared.key.LimitedList.TheVariants as limited

-- a key with the names of the tables that it stands in, and `?` in place of an unknown key
abbrev pub key_text : Key → List ℕ
key_text key.Schedule = codes "schedule"
key_text key.Server = codes "server"
key_text key.ServerName = codes "server.name"
key_text key.ServerNumber = codes "server.number"
key_text key.ServerSource = codes "server.source"
key_text key.ServerVersion = codes "server.version"
key_text key.ServerPointers = codes "server.pointers"
key_text key.ServerUnknown = codes "server.?"
key_text key.Update = codes "update"
key_text key.UpdateName = codes "update.name"
key_text key.UpdateServer = codes "update.server"
key_text key.UpdateFrom = codes "update.from"
key_text key.UpdateTo = codes "update.to"
key_text key.UpdateSource = codes "update.source"
key_text key.UpdatePointers = codes "update.pointers"
key_text key.UpdateFilter = codes "update.filter"
key_text key.UpdateHold = codes "update.hold"
key_text key.UpdateTries = codes "update.tries"
key_text key.UpdateDangling = codes "update.dangling"
key_text key.UpdateGated = codes "update.gated"
key_text key.UpdateAfter = codes "update.after"
key_text key.UpdateRename = codes "update.rename"
key_text key.RenameGlobal = codes "update.rename.global"
key_text key.RenameStruct = codes "update.rename.struct"
key_text key.RenameField = codes "update.rename.field"
key_text key.RenameUnion = codes "update.rename.union"
key_text key.RenameMember = codes "update.rename.member"
key_text key.RenameFunction = codes "update.rename.function"
key_text key.RenameSite = codes "update.rename.site"
key_text key.RenameUnknown = codes "update.rename.?"
key_text key.UpdateHandler = codes "update.handler"
key_text key.HandlerStruct = codes "update.handler.struct"
key_text key.HandlerOldForm = codes "update.handler.old_form"
key_text key.HandlerFunction = codes "update.handler.function"
key_text key.HandlerUnknown = codes "update.handler.?"
key_text key.UpdateUnknown = codes "update.?"
key_text key.Unknown = codes "?"

-- the key of the tables of a list
abbrev pub list_text : LimitedList → List ℕ
list_text limited.Servers = codes "server"
list_text limited.Updates = codes "update"
list_text limited.Handlers = codes "handler"
