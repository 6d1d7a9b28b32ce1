-- What filters answer, in the terms of the text.
use Rattle.std.specs.Prelude.{◌≡◌, ◌≢◌, ℕ, ℤ, Bool, Result, Err, Some, [], slice_get}
use Rattle.lu_spec.specs.Then.{then_do}
use Rattle.lu_base.specs.declared.trap.Trap.{Trap}
use Rattle.lu_base.specs.declared.trap.Trap.TheVariants.{Panic}
use Rattle.src_tree.specs.declared.expr.TypedExpr.{TypedExpr}
use Rattle.src_tree.specs.declared.value.Store.{Store}
use Rattle.src_tree.specs.declared.program.Program.{Program}
use Rattle.src_meaning.specs.Expression.{value_of}
use Rattle.src_meaning.specs.Objects.{Gives}
use Rattle.src_meaning.specs.Operators.{is_true}
use Rattle.bm_code.specs.Process.{Process}
use Rattle.cg_server.specs.Deliveries.{IsFiltered}
use Rattle.cg_server.specs.State.{ServerState, with_process}
use Rattle.cg_meaning.specs.Servers.{IsServerOf}

-- whether an expression without locals is other than zero in a store, or its trap
abbrev pub holds_in : Program → Store → TypedExpr → Gives Bool
holds_in p store e = then_do (value_of (record { types = p.types; store = store; locals = [] }) e.ty e.kind) is_true

-- the answer is what the filter gives in the store, never a panic, and the server stands for the store as before
pub record AnswersFilter (s : ServerState) (store : Store) (e : TypedExpr) (answer : Result Bool Trap) (q : Process) : Type 0 where
  pub answer_is : answer ≡ holds_in s.source.program store e
  pub no_panic : (n : ℤ) → answer ≢ Err (Panic n)
  pub server : IsServerOf (with_process s q) store

-- What a filter answers in a server that stands for a store.
abbrev pub FiltersAnswer : Type 0
FiltersAnswer = (s : ServerState) (store : Store) → IsServerOf s store
    → (k : ℕ) (e : TypedExpr) → slice_get s.source.filters k ≡ Some e
    → (answer : Result Bool Trap) (q : Process) → IsFiltered s.source s.world s.process k answer q
    → AnswersFilter s store e answer q
