use Rattle.std.proofs.Common.{◌∙◌}
use Rattle.lu_image.specs.RenameRefusal.{refusal_of}
use Rattle.lu_pair.proofs.Exits.{error-refuses}
use Rattle.lu_pair.proofs.Tables.{at-globals, at-structs, at-unions, at-functions, at-sites, at-none}
use Rattle.lu_pair.proofs.paired.pair_tables.Goals as goal

pub returns-in_err-globals-clause-refused : goal.returns-in_err-globals-clause-refused
returns-in_err-globals-clause-refused c =
    let old = c.args.old.now in
    let new = c.args.new.now in
    let rs = c.args.renames.now in
    let e = c.in_err-globals.field-0.0 in
    error-refuses (refusal_of old new rs) e _ c.from_residual.ensures.1 (at-globals old new rs e c.in_err-globals.ensures.refused)

pub returns-in_err-structs-clause-refused : goal.returns-in_err-structs-clause-refused
returns-in_err-structs-clause-refused c =
    let old = c.args.old.now in
    let new = c.args.new.now in
    let rs = c.args.renames.now in
    let e = c.in_err-structs.field-0.0 in
    error-refuses (refusal_of old new rs) e _ c.from_residual-in_err-structs.ensures.1 (at-structs old new rs c.in_ok-globals.ensures.refused e c.in_err-structs.ensures.refused)

pub returns-in_err-unions-clause-refused : goal.returns-in_err-unions-clause-refused
returns-in_err-unions-clause-refused c =
    let old = c.args.old.now in
    let new = c.args.new.now in
    let rs = c.args.renames.now in
    let e = c.in_err-unions.field-0.0 in
    error-refuses (refusal_of old new rs) e _ c.from_residual-in_err-unions.ensures.1 (at-unions old new rs c.in_ok-globals.ensures.refused c.in_ok-structs.ensures.refused e c.in_err-unions.ensures.refused)

pub returns-in_err-functions-clause-refused : goal.returns-in_err-functions-clause-refused
returns-in_err-functions-clause-refused c =
    let old = c.args.old.now in
    let new = c.args.new.now in
    let rs = c.args.renames.now in
    let e = c.in_err-functions.field-0.0 in
    error-refuses (refusal_of old new rs) e _ c.from_residual-in_err-functions.ensures.1 (at-functions old new rs c.in_ok-globals.ensures.refused c.in_ok-structs.ensures.refused c.in_ok-unions.ensures.refused e c.in_err-functions.ensures.refused)

pub returns-in_err-sites-clause-refused : goal.returns-in_err-sites-clause-refused
returns-in_err-sites-clause-refused c =
    let old = c.args.old.now in
    let new = c.args.new.now in
    let rs = c.args.renames.now in
    let e = c.in_err-sites.field-0.0 in
    error-refuses (refusal_of old new rs) e _ c.from_residual-in_err-sites.ensures.1 (at-sites old new rs c.in_ok-globals.ensures.refused c.in_ok-structs.ensures.refused c.in_ok-unions.ensures.refused c.in_ok-functions.ensures.refused e c.in_err-sites.ensures.refused)

pub pair_globals-requires : goal.pair_globals-requires
pair_globals-requires c = c.requires.new_few.globals

pub pair_functions-requires : goal.pair_functions-requires
pair_functions-requires c = c.requires.new_few.functions

pub pair_all_sites-requires : goal.pair_all_sites-requires
pair_all_sites-requires c = record {
  few_functions = c.requires.old_few.functions;
  few_sites = c.requires.new_few.sites;
  structs = c.deref.ensures.value ∙ c.in_ok-structs.ensures.tags;
  unions = c.deref-2.ensures.value ∙ c.in_ok-unions.ensures.tags;
  functions = c.deref-3.ensures.value ∙ c.in_ok-functions.ensures.pairs;
}

pub returns-clause-refused : goal.returns-clause-refused
returns-clause-refused c =
    at-none c.args.old.now c.args.new.now c.args.renames.now c.in_ok-globals.ensures.refused c.in_ok-structs.ensures.refused c.in_ok-unions.ensures.refused c.in_ok-functions.ensures.refused c.in_ok-sites.ensures.refused

pub returns-clause-pairs : goal.returns-clause-pairs
returns-clause-pairs c = record {
  globals = c.in_ok-globals.ensures.pairs;
  structs = c.in_ok-structs.ensures.tags;
  fields = c.in_ok-structs.ensures.parts;
  unions = c.in_ok-unions.ensures.tags;
  members = c.in_ok-unions.ensures.parts;
  functions = c.in_ok-functions.ensures.pairs;
  sites = c.in_ok-sites.ensures.pairs;
}
