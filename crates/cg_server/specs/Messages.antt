-- The messages that a process holds: `m_in` and `m_out`, its first two objects.
use Rattle.std.specs.Prelude.{ℕ, Bool, false, ◌&&◌, not, nat_eq, List, ◌∷◌, replicate, is_some, slice_get}
use Rattle.std.specs.Option.{option_map_or}
use Rattle.std.specs.FinMap as map
use Rattle.lu_base.specs.declared.limits.TheConstants.{MESSAGE_BYTES}
use Rattle.lu_base.specs.declared.message.Message.{Message}
use Rattle.bm_mem.specs.Content.{Content}
use Rattle.bm_objects.specs.declared.row.Row.{Row}
use Rattle.bm_cpu.specs.Words.{words_bytes}

-- 32 bytes: the source, the type and six arguments, each int with its lowest byte first
abbrev pub message_bytes : Message → List ℕ
message_bytes m = words_bytes (m.source ∷ m.kind ∷ m.arg)

-- the bytes of the message in which all is 0
abbrev pub no_message : List ℕ
no_message = replicate MESSAGE_BYTES 0

-- the object of row k has these bytes
abbrev pub with_bytes : List Row → ℕ → List ℕ → Content → Content
with_bytes rows k bytes m = option_map_or (λ (r : Row). map.insert m r.addr bytes) (slice_get rows k) m

-- `m_in` holds the message
abbrev pub with_message : List Row → Message → Content → Content
with_message rows message m = with_bytes rows 0 (message_bytes message) m

-- `m_in` and `m_out` are zero
abbrev pub without_messages : List Row → Content → Content
without_messages rows m = with_bytes rows 1 no_message (with_bytes rows 0 no_message m)

-- a global of a message's size
abbrev pub is_message_row : Row → Bool
is_message_row r = r.live && (not (is_some r.site) && nat_eq r.size MESSAGE_BYTES)

-- the first two objects are such
abbrev pub has_messages : List Row → Bool
has_messages (a ∷ b ∷ rest) = is_message_row a && is_message_row b
has_messages _ = false
