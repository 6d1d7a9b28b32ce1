-- A server whose process is that of another store stands for that one.
use Rattle.std.proofs.Common.{◌≡◌, refl, sym, subst}
use Rattle.src_tree.specs.declared.value.Store.{Store}
use Rattle.src_meaning.specs.Store.{IsStore}
use Rattle.bm_code.specs.Process.{Process}
use Rattle.cg_server.specs.State.{ServerState, with_process}
use Rattle.cg_state.specs.Represents.{IsIdle, process_of}
use Rattle.cg_meaning.specs.Servers.{IsServerOf}

pub stands_after : (s : ServerState) (store : Store) → IsServerOf s store → (after : Store) → IsStore s.source.program after → (q : Process) → q ≡ process_of s.source.program after s.process.outbox s.process.activity s.process.spare → IsServerOf (with_process s q) after
stands_after s store is after ok q same = record {
  source = is.source;
  is_store = ok;
  process = record {
    idle = subst (λ (q : Process). IsIdle q.activity) (sym same) is.process.idle;
    is = subst (λ (q : Process). q ≡ process_of s.source.program after q.outbox q.activity q.spare) (sym same) refl;
  };
}
