-- A new server stands for the initial store of its program, and one that adopts a store's bytes and rows for that store.
use Rattle.std.proofs.Common.{◌≡◌, refl, ap, ℕ, List, [], ◌∷◌, length, map, None}
use Rattle.lu_base.specs.Addresses as by_size
use Rattle.lu_base.specs.declared.limits.TheConstants.{FIRST_ADDRESS}
use Rattle.c_types.specs.declared.parts.Parts.{Parts}
use Rattle.src_tree.specs.declared.value.Object.{Object}
use Rattle.src_meaning.specs.Objects.{object_size}
use Rattle.bm_objects.specs.Table as rows
use Rattle.bm_code.specs.Process.{Idle}
use Rattle.cg_state.specs.Represents.{address_past, rows_from, content_of, rows_of}
use Rattle.cg_sim_program.proofs.SourceStarts.{source_starts}
use Rattle.cg_sim_store.proofs.Initials.{initial_is_store}
use Rattle.cg_meaning.specs.Servers.{NewServers, AdoptedServers}

pub new_servers : NewServers
new_servers source is own servers = record {
  source = is;
  is_store = initial_is_store source.program is.valid;
  process = record { idle = tt; is = source_starts source is };
}

next_same : (sites : ℕ) (p : Parts) (a : ℕ) (os : List Object) → rows.next_from a (rows_from sites p a os) ≡ by_size.next_from a (map (object_size p) os)
next_same sites p a [] = refl
next_same sites p a (x ∷ os) = next_same sites p (address_past p a x) os

pub adopted_servers : AdoptedServers
adopted_servers source is own servers store ok =
    let p = source.program in
    record {
      source = is;
      is_store = ok;
      process = record { idle = tt; is = ap (λ n. record { content = content_of p.types store; rows = rows_of p store; next = n; outbox = []; activity = Idle None; spare = 0 }) (next_same (length p.sites) p.types FIRST_ADDRESS store.objects) };
    }
