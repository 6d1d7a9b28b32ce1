-- The first message of each source of an inbox, and which message is next by these alone.
use Rattle.std.specs.Prelude.{◌≡◌, ⊤, ℕ, suc, ◌+◌, ◌-◌, ℤ, Bool, false, ◌==◌, nat_lt, if◌then◌else◌, min, List, [], ◌∷◌, ◌++◌, drop, Option, Some, None, option_map, slice_get}
use Rattle.std.specs.List.{list_any}
use Rattle.std.specs.Ordering.{int_eq}
use Rattle.lu_base.specs.declared.message.Message.{Message}
use Rattle.mk_queue.specs.declared.hold.Hold.{Hold}
use Rattle.mk_queue.specs.declared.front.Front.{Front}
use Rattle.mk_queue.specs.Held.{is_held_kind}

-- the place of the first message of a source
abbrev pub first_of : List Message → ℤ → Option ℕ
first_of [] source = None
first_of (m ∷ ms) source = if int_eq m.source source then Some 0 else option_map (λ i. suc i) (first_of ms source)

-- the same among the messages from a place on
abbrev pub first_behind : List Message → ℕ → ℤ → Option ℕ
first_behind messages place source = option_map (λ i. place + i) (first_of (drop place messages) source)

abbrev pub has_front : List Front → ℤ → Bool
has_front fronts source = list_any (λ f. int_eq f.source source) fronts

-- each says where the first message of its source is
abbrev pub AreRight : List Message → List Front → Type 0
AreRight messages [] = ⊤
AreRight messages (f ∷ fs) = (f.first ≡ first_of messages f.source) × AreRight messages fs

-- each says where the first message of its source is, and no other source has messages
pub record AreFronts (messages : List Message) (fronts : List Front) : Type 0 where
  pub right : AreRight messages fronts
  pub whole : (source : ℤ) → has_front fronts source ≡ false → first_of messages source ≡ None

-- those with one of the source, which at first has no message
abbrev pub with_front : List Front → ℤ → List Front
with_front fronts source =
    if has_front fronts source then fronts else fronts ++ record { source = source; first = None } ∷ []

-- after a message of a source has come to a place behind all others
abbrev pub or_first : Option ℕ → ℕ → Option ℕ
or_first None place = Some place
or_first (Some i) place = Some i

abbrev pub arrived : ℤ → ℕ → Front → Front
arrived source place f =
    if int_eq f.source source then record { source = f.source; first = or_first f.first place } else f

-- after a message was taken from a place, where these messages are left
abbrev pub first_left : List Message → ℕ → ℤ → Option ℕ → Option ℕ
first_left messages place source None = None
first_left messages place source (Some i) =
    if nat_lt i place then Some i else (if i == place then first_behind messages place source else Some (i - 1))

abbrev pub left : List Message → ℕ → Front → Front
left messages place f = record { source = f.source; first = first_left messages place f.source f.first }

-- the place, if the message there is of no held kind
abbrev pub free_at : Hold → Option Message → ℕ → Option ℕ
free_at hold None place = None
free_at hold (Some m) place = if is_held_kind hold m then None else Some place

abbrev pub free_first : Hold → List Message → Option ℕ → Option ℕ
free_first hold messages None = None
free_first hold messages (Some i) = free_at hold (slice_get messages i) i

abbrev pub free_place : Hold → List Message → Front → Option ℕ
free_place hold messages f = free_first hold messages f.first

abbrev pub lesser : Option ℕ → Option ℕ → Option ℕ
lesser None b = b
lesser (Some i) None = Some i
lesser (Some i) (Some j) = Some (min i j)

-- the least of a place and those of first messages of no held kind
abbrev pub least_free : Hold → List Message → Option ℕ → List Front → Option ℕ
least_free hold messages least [] = least
least_free hold messages least (f ∷ fs) = least_free hold messages (lesser least (free_place hold messages f)) fs
