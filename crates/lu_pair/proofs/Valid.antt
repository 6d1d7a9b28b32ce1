-- A valid program has few entries.
use Rattle.std.proofs.Common.{◌≡◌, ◌<◌, ◌^◌, true, List, length, arith}
use Rattle.std.proofs.lemmas.Bool.Decides.{nat_tests}
use Rattle.c_types.proofs.Lists.{and_left, and_right}
use Rattle.src_tree.specs.declared.program.Program.{Program}
use Rattle.src_meaning.specs.Valid.{IsValid, is_few, has_few_entries, has_valid_types, has_valid_globals}
use Rattle.src_meaning.specs.ValidNames.{are_names, names_differ}
use Rattle.lu_pair.specs.Tags.{HasFewEntries}

few : {A : Type 0} (xs : List A) → is_few xs ≡ true → length xs < 2 ^ 32
few xs h = grind (arith, nat_tests)

pub few_entries-valid : (p : Program) → IsValid p → HasFewEntries p
few_entries-valid p valid =
    let entries = and_right (are_names p.names) _ valid.rules in
    let sites = and_right (is_few p.types.unions) _ (and_right (is_few p.types.structs) _ (and_left (has_few_entries p) _ entries)) in
    let rest = and_right (has_valid_types p) _ (and_right (names_differ p.globals p.functions) _ (and_right (has_few_entries p) _ entries)) in
    record {
      globals = few p.globals (and_left (is_few p.globals) _ (and_left (has_valid_globals p) _ rest));
      functions = few p.functions (and_left (is_few p.functions) _ (and_right (has_valid_globals p) _ rest));
      sites = few p.sites sites;
    }
