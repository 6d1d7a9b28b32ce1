use Rattle.sys_laws.specs.Servers.{IsNamedBy}
use Rattle.sys_laws.proofs.Runs.{at-place}
use Rattle.sys_laws.proofs.Names.{named-kept, named-booted, starts-named}
use Rattle.sys_laws.proofs.laws.servers.Goals as goal

pub returns : goal.returns
returns c = λ setup ks events place s at.
    let (h, cell, is, p) = at-place setup IsNamedBy (named-kept setup) named-booted starts-named ks events place s at in
    record { server_host = h; server_cell = cell; is_server = is; named = p }
