use Rattle.std.proofs.Common.{◌≡◌, List, Some, subst, length, refl}
use Rattle.std.specs.Prelude.{slice_get}
use Rattle.std.proofs.lemmas.Option.{slice_get_read}
use Rattle.plan_file.specs.declared.plan.Server.{Server}
use Rattle.lu_load.proofs.setup.numbers_of.Goals as goal

pub number_of-requires : goal.number_of-requires
number_of-requires c =
    let list = c.as_slice-server-items.result.now in
    let i = c.loop-server.server-index in
    let P : List Server → Type 0 = λ servers. slice_get servers i ≡ Some c.server-item.result in
    (c.requires.servers i c.server-item.result
    (subst P c.as_slice-server-items.ensures (slice_get_read list (length list) i c.server-item.result refl c.loop-server-test.true c.server-item.is))).number.most
