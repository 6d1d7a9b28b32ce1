-- A store with another value at a place, or with a dead object, is a store of the program.
use Rattle.std.proofs.Common.{◌≡◌, ◌∙◌, ap, true, cond, ℕ, zero, Some, None, Ok, Err}
use Rattle.std.specs.Prelude.{slice_get}
use Rattle.lu_spec.specs.Then.{then_do}
use Rattle.lu_base.specs.declared.trap.Trap.TheVariants.{BadFree}
use Rattle.c_types.specs.Refusal.{IsBuilt}
use Rattle.c_types.specs.Place.{place}
use Rattle.src_tree.specs.declared.value.Value.{Value, Pointer}
use Rattle.src_tree.specs.declared.value.Object.{Object}
use Rattle.src_tree.specs.declared.value.Store.{Store}
use Rattle.src_tree.specs.declared.program.Program.{Program}
use Rattle.src_meaning.specs.Objects.{Place, or_trap, is_live_heap, with_elements, with_object, freed_object}
use Rattle.src_meaning.specs.Store.{IsStore}
use Rattle.src_laws.proofs.StoreLaws.{assigned_keeps, freed_keeps}
use Rattle.cg_state.proofs.Typed.{Typed}
use Rattle.cg_state.proofs.Places.{IsPart}
use Rattle.cg_state.proofs.Stores.{store_after, store_is}

module _ (p : Program) (built : IsBuilt p.types) (s : Store) (ok : IsStore p s) where
  pub stores_keep : (u : ℕ) (q : Place) (h : IsPart p built s ok u q) (v : Value) (hv : Typed p built s u v) → IsStore p (store_after p built s ok u q h v hv)
  stores_keep u q h v hv =
      assigned_keeps p built s ok q h.object (place u h.offset) v (store_after p built s ok u q h v hv) h.at h.leads hv (store_is p built s ok u q h v hv)

  pub frees_keep : (o : ℕ) (x : Object) → slice_get s.objects o ≡ Some x → is_live_heap x ≡ true → IsStore p (with_object s o (with_elements x None))
  frees_keep o x e h =
      let after = with_object s o (with_elements x None) in
      freed_keeps p built s ok (Pointer o zero) after (ap (λ q. then_do (or_trap BadFree q) (freed_object s o)) e ∙ ap (λ b. cond b (Ok after) (Err BadFree)) h)
