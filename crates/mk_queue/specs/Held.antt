-- Which messages of an inbox are held back, and which one is the next.
use Rattle.std.specs.Prelude.{◌≡◌, ◌<◌, ℕ, ◌+◌, ℤ, Bool, true, ◌&&◌, ◌||◌, if◌then◌else◌, List, [], ◌∷◌, length, Option, Some, None, slice_get}
use Rattle.std.specs.List.{list_any}
use Rattle.std.specs.Ordering.{int_eq}
use Rattle.lu_base.specs.declared.message.Message.{Message}
use Rattle.mk_queue.specs.declared.hold.Hold.{Hold}

-- the hold is active, and the message's kind is among its kinds
abbrev pub is_held_kind : Hold → Message → Bool
is_held_kind hold m = hold.active && list_any (λ kind. int_eq kind m.kind) hold.kinds

-- behind messages of these sources that are held back, a message is held back by its kind or its source
abbrev pub is_held_behind : Hold → List ℤ → Message → Bool
is_held_behind hold sources m = is_held_kind hold m || list_any (λ source. int_eq source m.source) sources

-- the place of the first message that isn't held back behind messages of these sources, where the list begins at that place
abbrev pub next_from : Hold → List ℤ → ℕ → List Message → Option ℕ
next_from hold sources place [] = None
next_from hold sources place (m ∷ ms) =
    if is_held_behind hold sources m then next_from hold (m.source ∷ sources) (place + 1) ms else Some place

-- the place of the next message: the first that isn't held back
abbrev pub next_message : Hold → List Message → Option ℕ
next_message hold messages = next_from hold [] 0 messages

-- The message at a place is held back: its kind is held, or an earlier message of the same source is held back.
pub data IsHeldBack (hold : Hold) (messages : List Message) : ℕ → Type 0 where
  by_kind : (i : ℕ) (m : Message) → slice_get messages i ≡ Some m → is_held_kind hold m ≡ true → IsHeldBack hold messages i
  by_source : (i j : ℕ) (m earlier : Message) → slice_get messages i ≡ Some m → j < i → slice_get messages j ≡ Some earlier → earlier.source ≡ m.source
      → IsHeldBack hold messages j → IsHeldBack hold messages i

-- the messages before a place are held back
abbrev pub AreHeldBack : Hold → List Message → ℕ → Type 0
AreHeldBack hold messages place = (i : ℕ) → i < place → IsHeldBack hold messages i

-- the least place whose message isn't held back
pub record IsNext (hold : Hold) (messages : List Message) (place : ℕ) : Type 0 where
  pub within : place < length messages
  pub free : IsHeldBack hold messages place → ⊥
  pub before : AreHeldBack hold messages place
