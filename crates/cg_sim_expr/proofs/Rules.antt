-- What is known of a valid program.
use Rattle.std.proofs.Common.{◌≡◌, true, ℕ, ◌^◌, ◌<◌, ◌≤◌, length, arith, nat_le}
use Rattle.std.proofs.lemmas.Bool.Decides.{nat_tests}
use Rattle.src_tree.specs.declared.program.Program.{Program}
use Rattle.src_meaning.specs.Valid.{IsValid, has_few_entries, has_valid_types, has_valid_globals, has_valid_functions}
use Rattle.src_meaning.specs.ValidNames.{are_names, names_differ}
use Rattle.src_meaning.specs.Valid.{is_few}
use Rattle.src_meaning.proofs.LayoutLengths.{and_left, and_right}

pub at_most : (a b : ℕ) → nat_le a b ≡ true → a ≤ b
at_most a b h = grind (arith, nat_tests, h)

module _ (p : Program) (valid : IsValid p) where
  pub functions_valid : has_valid_functions p ≡ true
  functions_valid =
      let two = and_right (are_names p.names) _ valid.rules in
      let four = and_right (names_differ p.globals p.functions) _ (and_right (has_few_entries p) _ two) in
      and_right (has_valid_globals p) (has_valid_functions p) (and_right (has_valid_types p) _ four)

  pub few_functions : length p.functions < 2 ^ 31
  few_functions = let few = and_left (is_few p.functions) _ functions_valid in let n = at_most (length p.functions) _ few in omega (arith, n)
