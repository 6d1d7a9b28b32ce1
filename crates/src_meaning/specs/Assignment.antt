-- The place of an assignment. A step into a member of a union that isn't active makes it active with a zero body,
-- at that step.
use Rattle.std.specs.Prelude.{ℕ, if◌then◌else◌, Option, Some, None, Ok, Err, slice_get}
use Rattle.std.specs.Option.{option_map}
use Rattle.lu_spec.specs.Then.{then_do}
use Rattle.lu_base.specs.declared.trap.Trap.TheVariants.{BadCode}
use Rattle.c_types.specs.declared.parts.Parts.{Parts}
use Rattle.c_types.specs.declared.parts.Ty.{Ty}
use Rattle.c_types.specs.declared.parts.Ty.TheVariants as T
use Rattle.c_types.specs.declared.path.Step.TheVariants.{Index, Field, Member}
use Rattle.c_types.specs.Tables.{members_of}
use Rattle.src_tree.specs.declared.value.Value.{Value, Union, out-Value}
use Rattle.src_tree.specs.declared.value.Store.{Store}
use Rattle.src_tree.specs.declared.expr.TypedPlace.{TypedPlace}
use Rattle.src_tree.specs.declared.expr.PlaceKind.{PlaceKind, Global, Deref', Arrow', Item', Element', Field', Member', Row_of-TypedPlace, end_of-TypedPlace, more_of-TypedPlace}
use Rattle.src_meaning.specs.Paths.{zero_of}
use Rattle.src_meaning.specs.Objects.{Gives, or_trap, Place, inside, value_at, store_with, target}
use Rattle.src_meaning.specs.Expression.{Scope, with_store, global_place, length_of, index_below, is_active, expr_type, place_type, pointer_plus, value_at_row}

-- a place, and the store with the members on its way active
pub record Assignee : Type 0 where
  pub store : Store
  pub at : Place

abbrev pub assignee : Store → Place → Assignee
assignee store at = record { store = store; at = at }

abbrev pub further : Assignee → Place → Assignee
further a at = assignee a.store at

abbrev pub member_type_in : Parts → ℕ → Option Ty → Option ℕ
member_type_in p k (Some (T.Union u)) = option_map (λ f. f.ty) (slice_get (members_of p u) k)
member_type_in p k _ = None

-- the type of member k of a union type
abbrev pub member_type : Parts → ℕ → ℕ → Gives ℕ
member_type p t k = or_trap BadCode (member_type_in p k (slice_get p.types t))

-- the member k of the union of type t at a place, made active
abbrev pub entered : Parts → ℕ → ℕ → Assignee → Gives Assignee
entered p t k a =
    then_do (value_at a.store a.at) (λ v. if is_active k (out-Value v) then Ok (further a (inside a.at (Member k))) else then_do (member_type p t k) (λ u. then_do (store_with a.store a.at (Union k (zero_of p u))) (λ store. Ok (assignee store (inside a.at (Member k))))))

-- a place to which a pointer goes; the store stays
abbrev pub pointed : Scope → ℕ → Gives Value → Gives Assignee
pointed at t e = then_do e (λ v. then_do (target at.types at.store t v) (λ q. Ok (assignee at.store q)))

abbrev mutual
  -- a place of type t that is assigned
  pub assigned_place : Scope → ℕ → PlaceKind → Gives Assignee
  assigned_place at t (Global g) = Ok (assignee at.store (global_place at.types t g))
  assigned_place at t (Deref' m e) = pointed at t (value_at_row at e)
  assigned_place at t (Arrow' m e) = pointed at t (value_at_row at e)
  assigned_place at t (Item' m p n i) =
      pointed at t (pointer_plus at (expr_type p) (value_at_row at p) (value_at_row at i))
  assigned_place at t (Element' m a n i) =
      then_do (assigned_row at a) (λ q. then_do (value_at_row (with_store at q.store) i) (λ v. then_do (index_below (length_of at.types (place_type a)) v) (λ k. Ok (further q (inside q.at (Index k))))))
  assigned_place at t (Field' m e k) = then_do (assigned_row at e) (λ q. Ok (further q (inside q.at (Field k))))
  assigned_place at t (Member' m e k) = then_do (assigned_row at e) (entered at.types (place_type e) k)

  pub assigned_row : {m : _} → Scope → Row_of-TypedPlace m → Gives Assignee
  assigned_row at end_of-TypedPlace = Err BadCode
  assigned_row at (more_of-TypedPlace ty kind rest) = assigned_place at ty kind

-- the store after an assignment of a value to a place
abbrev pub assigned : Scope → TypedPlace → Value → Gives Store
assigned at to v = then_do (assigned_place at to.ty to.kind) (λ a. store_with a.store a.at v)
