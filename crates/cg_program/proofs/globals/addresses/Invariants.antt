use Rattle.std.proofs.Common.{◌≡◌, ◌++◌, drop}
use Rattle.std.specs.Prelude.{map}
use Rattle.lu_base.specs.Addresses.{addresses_from}
use Rattle.src_meaning.specs.Objects.{object_size, addresses}
use Rattle.cg_program.proofs.globals.addresses.Given as goal

abbrev pub invariant-loop-object : goal.invariant-loop-object
invariant-loop-object l =
    addresses l.types l.store ≡ l.starts.items ++ addresses_from l.next (map (object_size l.types) (drop l.object-index l.store.objects))
