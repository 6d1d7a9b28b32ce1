-- What `send` does: its answer, and the sends after it.
use Rattle.std.specs.Prelude.{Bool, ◌||◌, ◌&&◌, nat_lt, if◌then◌else◌, ℤ, pos, negsuc, int_le, List, [], ◌∷◌, ◌++◌, length}
use Rattle.std.specs.List.{list_any}
use Rattle.lu_base.specs.declared.message.Message.{Message}
use Rattle.lu_base.specs.declared.world.World.{World}
use Rattle.lu_base.specs.declared.limits.TheConstants.{SENDS, FIRST_CLIENT, LAST_CLIENT}

-- a message with its destination
abbrev pub Sent : Type 0
Sent = ℤ × Message

abbrev pub is_client : ℤ → Bool
is_client to = int_le FIRST_CLIENT to && int_le to LAST_CLIENT

abbrev pub is_server : World → ℤ → Bool
is_server world to = list_any (λ server. int_le server to && int_le to server) world.servers

-- the number of a server or of a client
abbrev pub is_recipient : World → ℤ → Bool
is_recipient world to = is_server world to || is_client to

-- the message as its recipient gets it
abbrev pub from_server : World → Message → Message
from_server world m = record m { source = world.own }

-- what `send` answers, and the sends after it: -2 where there is no such recipient, -1 where there were as many sends
-- as there may be, else 0
abbrev pub sent : World → List Sent → ℤ → Message → ℤ × List Sent
sent world sends to m =
    if is_recipient world to then (if nat_lt (length sends) SENDS then (pos 0, sends ++ (to, from_server world m) ∷ []) else (negsuc 0, sends)) else (negsuc 1, sends)
