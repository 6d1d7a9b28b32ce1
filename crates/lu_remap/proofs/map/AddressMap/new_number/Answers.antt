use Rattle.std.proofs.Common.{arith, ap, length}
use Rattle.lu_remap.proofs.map.AddressMap.new_number.Goals as goal

pub overflow_add-result : goal.overflow_add-result
overflow_add-result c =
    let inside = c.in_ok-place-in-Some.ensures.inside in
    let items = ap length c.deref.ensures.value in
    let ok = c.self.inside.moved.ok in
    let small = c.self.inside.moved.small in
    let few = c.self.invariant.1 in
    let globals = ap length c.as_slice-in-Some.ensures in
    omega (arith, inside, items, ok, small, few, globals)
