use Rattle.src_laws.proofs.StoreLaws.{assigned_keeps, freed_keeps, allocated_keeps}
use Rattle.src_laws.proofs.laws.stores.Goals as goal

pub returns-clause-assignments : goal.returns-clause-assignments
returns-clause-assignments c = λ p s built ok. assigned_keeps p built s ok

pub returns-clause-frees : goal.returns-clause-frees
returns-clause-frees c = λ p s built ok. freed_keeps p built s ok

pub returns-clause-allocations : goal.returns-clause-allocations
returns-clause-allocations c = λ p s built ok site elem d at is_elem known. allocated_keeps p built s ok site elem d at is_elem known
