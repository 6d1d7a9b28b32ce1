-- The rules that a valid program keeps, one by one.
use Rattle.std.proofs.Common.{◌≡◌, ◌≤◌, ℕ, true, ◌&&◌, nat_le, length, arith}
use Rattle.std.proofs.lemmas.Bool.Decides.{nat_tests}
use Rattle.src_tree.specs.declared.program.Program.{Program}
use Rattle.src_meaning.specs.Valid.{IsValid, is_few, has_few_entries, has_valid_types, has_valid_globals, has_valid_functions}
use Rattle.src_meaning.specs.ValidNames.{are_names, names_differ}
use Rattle.src_meaning.proofs.LayoutLengths.{and_left, and_right}

pub at_most : (a b : ℕ) → nat_le a b ≡ true → a ≤ b
at_most a b h = grind (arith, nat_tests, h)

module _ (p : Program) (valid : IsValid p) where
  named_on : has_few_entries p && (names_differ p.globals p.functions && (has_valid_types p && (has_valid_globals p && has_valid_functions p))) ≡ true
  named_on = and_right (are_names p.names) _ valid.rules

  pub few_entries : has_few_entries p ≡ true
  few_entries = and_left (has_few_entries p) _ named_on

  typed_on : has_valid_types p && (has_valid_globals p && has_valid_functions p) ≡ true
  typed_on = and_right (names_differ p.globals p.functions) _ (and_right (has_few_entries p) _ named_on)

  pub types_valid : has_valid_types p ≡ true
  types_valid = and_left (has_valid_types p) _ typed_on

  pub globals_valid : has_valid_globals p ≡ true
  globals_valid = and_left (has_valid_globals p) (has_valid_functions p) (and_right (has_valid_types p) _ typed_on)

  pub functions_valid : has_valid_functions p ≡ true
  functions_valid = and_right (has_valid_globals p) (has_valid_functions p) (and_right (has_valid_types p) _ typed_on)

  pub few_functions : length p.functions ≤ 4096
  few_functions = at_most (length p.functions) 4096 (and_left (is_few p.functions) _ functions_valid)
