-- What a delivery of a message and the boot of a server do.
use Rattle.std.specs.Prelude.{ℕ, suc, ◌-◌, Bool, true, false, ◌&&◌, nat_eq, if◌then◌else◌, List, [], ◌∷◌, Option, Some, None, Ok, Err, slice_get, codes}
use Rattle.std.specs.Option.{option_map}
use Rattle.lu_spec.specs.Then.{then_do}
use Rattle.lu_base.specs.declared.message.Message.{Message}
use Rattle.lu_base.specs.declared.world.World.{World}
use Rattle.lu_base.specs.declared.limits.TheConstants.{CALL_TICKS}
use Rattle.lu_base.specs.Sending.{Sent}
use Rattle.lu_base.specs.declared.trap.Trap.{Trap}
use Rattle.lu_base.specs.declared.trap.Trap.TheVariants.{BadCode}
use Rattle.src_tree.specs.declared.value.Store.{Store}
use Rattle.src_tree.specs.declared.program.Function.{Function}
use Rattle.src_tree.specs.declared.program.Program.{Program}
use Rattle.src_meaning.specs.Objects.{Gives, store_with}
use Rattle.src_meaning.specs.Sending.{m_in, m_out, zero_message, message_value}
use Rattle.src_meaning.specs.Call.{Ending, Returned, Trapped, Starved, call}
use Rattle.src_meaning.specs.Initial.{initial_store}

abbrev pub same_bytes : List ℕ → List ℕ → Bool
same_bytes [] [] = true
same_bytes (x ∷ xs) (y ∷ ys) = nat_eq x y && same_bytes xs ys
same_bytes _ _ = false

abbrev pub is_named : List (List ℕ) → List ℕ → Function → Bool
is_named names name f = elim (slice_get names f.name) as (λ _. Bool) [ None ↦ false | Some text ↦ same_bytes text name ]

abbrev pub find_named : List (List ℕ) → List ℕ → List Function → Option ℕ
find_named names name [] = None
find_named names name (f ∷ fs) =
    if is_named names name f then Some 0 else option_map suc (find_named names name fs)

-- the number of the function of that name
abbrev pub function_named : Program → List ℕ → Option ℕ
function_named p name = find_named p.names name p.functions

-- how a delivery ends, with the ticks that it used
pub data Delivered : Type 0 where
  Ends : (store : Store) (sends : List Sent) (used : ℕ) → Delivered
  Dies : (trap : Trap) (used : ℕ) → Delivered

abbrev pub with_message : Store → Message → Gives Store
with_message store m = store_with store m_in (message_value m)

-- the store with `m_in` and `m_out` zero
abbrev pub with_no_messages : Store → Gives Store
with_no_messages store =
    then_do (with_message store zero_message) (λ next. store_with next m_out (message_value zero_message))

abbrev pub ended : ℕ → List Sent → Gives Store → Delivered
ended used sends (Ok store) = Ends store sends used
ended used sends (Err t) = Dies t used

-- Starved never comes, since the fuel is above the ticks
abbrev pub delivered : Ending → Delivered
delivered (Returned result store sends left) = ended (CALL_TICKS - left) sends (with_no_messages store)
delivered (Trapped trap left) = Dies trap (CALL_TICKS - left)
delivered Starved = Dies BadCode 0

abbrev pub run_named : Program → World → List ℕ → Gives Store → Option ℕ → Delivered
run_named p world name (Ok store) (Some f) = delivered (call p world store f [] CALL_TICKS)
run_named p world name _ _ = Dies BadCode 0

-- a message arrives: `on_message` runs with it in `m_in`
abbrev pub deliver : Program → World → Store → Message → Delivered
deliver p world store m =
    let name = codes "on_message" in run_named p world name (with_message store m) (function_named p name)

-- a server starts: `init` runs on the initial store, with `m_in` zero
abbrev pub boot : Program → World → Delivered
boot p world =
    let name = codes "init" in run_named p world name (with_message (initial_store p) zero_message) (function_named p name)
