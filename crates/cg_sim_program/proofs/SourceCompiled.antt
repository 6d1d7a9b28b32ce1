-- The machine's program of a source is code of its program.
use Rattle.std.proofs.Common.{◌≡◌, refl, ap, ℕ, zero, suc, List, [], ◌∷◌, ◌++◌, length, map, Some, slice_get}
use Rattle.cg_stmt.specs.Functions.{machine_function, filter_function}
use Rattle.cg_program.specs.Compiled.{Source, IsSource, target_of, machine_global, machine_site, machine_code}
use Rattle.cg_program.proofs.Accepts.{accepted}
use Rattle.cg_sim.specs.Compiled.{IsCompiled}

get_front : {A B : Type 0} (f : A → B) (xs : List A) (ys : List B) (k : ℕ) (x : A) → slice_get xs k ≡ Some x → slice_get (map f xs ++ ys) k ≡ Some (f x)
get_front f [] ys k x e = absurd (cc)
get_front f (z ∷ xs) ys zero x e = let same : z ≡ x = cc in ap (λ x. Some (f x)) same
get_front f (z ∷ xs) ys (suc k) x e = get_front f xs ys k x e

get_mapped : {A B : Type 0} (f : A → B) (xs : List A) (k : ℕ) (x : A) → slice_get xs k ≡ Some x → slice_get (map f xs) k ≡ Some (f x)
get_mapped f [] k x e = absurd (cc)
get_mapped f (z ∷ xs) zero x e = let same : z ≡ x = cc in ap (λ x. Some (f x)) same
get_mapped f (z ∷ xs) (suc k) x e = get_mapped f xs k x e

pub source_compiled : (s : Source) → IsSource s → IsCompiled s.program (machine_code s)
source_compiled s is =
    let p = s.program in
    let filters = map (filter_function (target_of p) (length p.names)) s.filters in
    record {
      types = refl;
      functions = λ f d e. get_front (machine_function (target_of p)) p.functions filters f d e;
      sites = λ k d e. get_mapped machine_site p.sites k d e;
      globals = λ g d e.
          let there = get_mapped (machine_global p) p.globals g d e in
          record { global = machine_global p d; is = there; long = ((accepted s is).globals g (machine_global p d) there).whole };
    }
