-- Systems before their boot.
use Rattle.std.proofs.Common.{◌≡◌, refl, sym, ap, subst, zero, suc, List, [], ◌∷◌, map, length}
use Rattle.cg_meaning.proofs.Starts.{new_servers}
use Rattle.sys_world.specs.Setup.{ServerSetup}
use Rattle.sys_world.specs.World.{SystemWorld, start_host, CellValue}
use Rattle.sys_world.specs.World as world
use Rattle.sys_run.specs.declared.system.ServerCode.{ServerCode}
use Rattle.sys_run.specs.Start.{start_runner, start_cell}
use Rattle.sys_exact.specs.StandsFor.{nobody, somebody, StandsFor}
use Rattle.sys_exact.specs.Start.{machines_at_start, server_setup, HaveSources, StartsAreExact}
use Rattle.sys_exact.proofs.Each.{Each}

module _ (all : List ServerCode) where
  each-start : (xs : List ServerCode) → HaveSources xs → Each (map (start_runner all) xs) (map start_host (map (server_setup all) xs)) (map world.start_cell (map (server_setup all) xs))
  each-start [] sources j = nobody
  each-start (x ∷ xs) sources zero =
      somebody (start_runner all x) (start_host (server_setup all x)) (world.start_cell (server_setup all x)) (record {
        program = refl;
        world = refl;
        life = refl;
        is_at = record { alive = refl; server = new_servers x.code.now (sources 0 x refl) x.number (map (λ (y : ServerCode). y.number) all) };
      })
  each-start (x ∷ xs) sources (suc j) = each-start xs (λ place s at. sources (suc place) s at) j

  same-cells : (xs : List ServerCode) → map start_cell xs ≡ map world.start_cell (map (server_setup all) xs)
  same-cells [] = refl
  same-cells (x ∷ xs) = ap (λ cs. start_cell x ∷ cs) (same-cells xs)

  same-count : (xs : List ServerCode) → length (map (server_setup all) xs) ≡ length (map (start_runner all) xs)
  same-count [] = refl
  same-count (x ∷ xs) = ap suc (same-count xs)

pub starts_exact : StartsAreExact
starts_exact servers setup is sources =
    let Stand : List ServerSetup → Type 0 = λ ss. StandsFor (record setup { servers = ss }) (machines_at_start servers) (record { hosts = map start_host ss; cells = map world.start_cell ss; told = [] }) in
    subst Stand (sym is) (record {
      count = same-count servers servers;
      servers = each-start servers servers sources;
      mail = ap (λ cs. record { cells = cs; told = [] }) (same-cells servers servers);
    })
