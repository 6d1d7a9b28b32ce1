use Rattle.std.proofs.Common.{◌≡◌, ◌<◌, ◌+◌, ◌∷◌, [], length, Some, slice_get, sym, ap, ◌∙◌, arith}
use Rattle.std.proofs.lemmas.List.{length-append}
use Rattle.plan_file.specs.declared.plan.Server.{Server}
use Rattle.lu_cli.proofs.ServerLemmas.{EachIs, read-at, next-is}
use Rattle.lu_cli.proofs.servers.servers_of.Goals as goal

pub server_of-requires : goal.server_of-requires
server_of-requires c =
    let within : c.loop-n.n < length c.args.setup.now.plan.server = let t = c.loop-n-test.true in omega (arith, t, ap length c.as_slice-plan.ensures) in
    (c.requires.plan.servers c.loop-n.n c.index-plan-n.result
    (read-at c.as_slice-plan.result.now c.args.setup.now.plan.server c.loop-n.n c.index-plan-n.result c.as_slice-plan.ensures within c.index-plan-n.is)).number.most

pub loop-n-preserved : goal.loop-n-preserved
loop-n-preserved c =
    let servers = c.args.setup.now.plan.server in
    let codes = c.args.setup.now.codes in
    let n = c.loop-n.n in
    let within : n < length servers = let t = c.loop-n-test.true in omega (arith, t, ap length c.as_slice-plan.ensures) in
    let within_codes : n < length codes = let e = c.requires.codes in omega (arith, within, e) in
    let at_x = read-at c.as_slice-plan.result.now servers n c.index-plan-n.result c.as_slice-plan.ensures within c.index-plan-n.is in
    let at_c = read-at c.as_slice-codes.result.now codes n c.index-codes-n.result c.as_slice-codes.ensures within_codes c.index-codes-n.is in
    record {
      count = ap length c.in_ok-push.ensures.items ∙ (length-append c.loop-n.servers.items (c.server_of.result ∷ []) ∙ ap (λ k. k + 1) c.loop-n.invariant.count);
      each = next-is servers codes c.loop-n.servers.items c.push.new.self.items n c.index-plan-n.result c.index-codes-n.result c.server_of.result
          c.loop-n.invariant.each c.loop-n.invariant.count c.in_ok-push.ensures.items at_x at_c c.server_of.ensures;
    }
