-- Messages as values.
use Rattle.std.specs.Prelude.{ℤ, pos, List, [], ◌∷◌, map, Option, Some, None}
use Rattle.lu_spec.specs.Then.{then_option}
use Rattle.lu_base.specs.declared.message.Message.{Message}
use Rattle.lu_base.specs.declared.trap.Trap.TheVariants.{BadCode}
use Rattle.c_types.specs.declared.path.Step.TheVariants.{Index}
use Rattle.src_tree.specs.declared.value.Value.{Value, Int, Struct, Array, out-Value}
use Rattle.src_tree.specs.declared.value.Value.TheOpen as V
use Rattle.src_meaning.specs.Paths.{Layer}
use Rattle.src_meaning.specs.Objects.{Gives, or_trap, Place, place}

abbrev pub zero_message : Message
zero_message = record { source = pos 0; kind = pos 0; arg = pos 0 ∷ pos 0 ∷ pos 0 ∷ pos 0 ∷ pos 0 ∷ pos 0 ∷ [] }

-- the value of a `struct message`: source, type and arguments
abbrev pub message_value : Message → Value
message_value m = Struct (Int m.source ∷ Int m.kind ∷ Array (map Int m.arg) ∷ [])

abbrev pub ints_in : List Value → Option (List ℤ)
ints_in [] = Some []
ints_in (Int z ∷ vs) = then_option (ints_in vs) (λ zs. Some (z ∷ zs))
ints_in _ = None

abbrev pub args_in : Layer → Option (List ℤ)
args_in (V.Array items) = ints_in items
args_in _ = None

abbrev pub message_in : Layer → Option Message
message_in (V.Struct (Int source ∷ Int kind ∷ arg ∷ [])) =
    then_option (args_in (out-Value arg)) (λ zs. Some (record { source = source; kind = kind; arg = zs }))
message_in _ = None

-- the message that such a value is
abbrev pub message_of : Value → Gives Message
message_of v = or_trap BadCode (message_in (out-Value v))

-- `m_in` and `m_out`, the first two globals
abbrev pub m_in : Place
m_in = place 0 (Index 0 ∷ [])

abbrev pub m_out : Place
m_out = place 1 (Index 0 ∷ [])
