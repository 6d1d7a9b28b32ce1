use Rattle.std.proofs.Common.{◌≡◌, ap, suc, ◌+◌, ◌-◌, length, arith}
use Rattle.c_types.specs.Recursion.{by_fuel}
use Rattle.lu_image.specs.Correspondence.{correspond_step, nothing_corresponds}
use Rattle.lu_image.proofs.Descending.{fuel-leads, fuel-leaf}
use Rattle.lu_image.proofs.correspond.corresponds.Goals as goal

pub returns-in-None : goal.returns-in-None
returns-in-None c =
    let p = c.args.old.now in
    let q = c.args.new.now in
    let s = c.args.structs.now in
    let u = c.args.unions.now in
    let m = length p.types - (c.loop.counter + 1) in
    let one : suc m ≡ length p.types - c.loop.counter = omega (arith, ap length c.as_slice-end.ensures) in
    let leaf = fuel-leaf p q s u m c.loop.from c.loop.to (grind (arith)) in
    grind (arith, leaf, ap (λ k. by_fuel p (correspond_step q s u) nothing_corresponds k c.loop.from c.loop.to) one)

pub loop-preserved : goal.loop-preserved
loop-preserved c =
    let p = c.args.old.now in
    let q = c.args.new.now in
    let s = c.args.structs.now in
    let u = c.args.unions.now in
    let m = length p.types - (c.loop.counter + 1) in
    let one : suc m ≡ length p.types - c.loop.counter = omega (arith, ap length c.as_slice-end.ensures) in
    let leads = fuel-leads p q s u m c.loop.from c.loop.to (c.in-Some.old, c.in-Some.new) (grind (arith)) in
    grind (arith, leads, ap (λ k. by_fuel p (correspond_step q s u) nothing_corresponds k c.loop.from c.loop.to) one)
