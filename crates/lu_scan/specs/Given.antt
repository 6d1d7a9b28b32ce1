-- What the scan is given, in the terms of the definitions.
use Rattle.std.specs.Prelude.{ℕ, List, [], Option, find, slice_get}
use Rattle.c_types.specs.declared.parts.FieldDef.{FieldDef}
use Rattle.lu_spec.specs.Then.{then_option}
use Rattle.lu_image.specs.Names.{is_named}
use Rattle.lu_image.specs.Pairing.{pair_names}
use Rattle.lu_image_store.specs.Versions.{Versions}
use Rattle.lu_image_store.specs.Forms.{names_of}
use Rattle.lu_scan.specs.declared.versions.PairedPrograms.{PairedPrograms}
use Rattle.lu_scan.specs.declared.versions.FieldPairs.{FieldPairs}
use Rattle.lu_scan.specs.declared.versions.FieldPairs.TheVariants.{Numbers, ByName}

abbrev pub versions : PairedPrograms → Versions
versions p = record { pairing = p.pairing.now; old_names = p.old_names.now; new_names = p.new_names.now }

-- the number of the new field of each old one
abbrev pub pairs_between : Versions → List FieldDef → List FieldDef → FieldPairs → List (Option ℕ)
pairs_between m old new (Numbers pairs) = pairs.now
pairs_between m old new ByName = pair_names [] (names_of m.old_names old) (names_of m.new_names new)

-- the first new field of an old field's name
abbrev pub same_named : Versions → List FieldDef → FieldDef → Option FieldDef
same_named m new f =
    then_option (slice_get m.old_names f.name) (λ name. find (λ g. is_named name (slice_get m.new_names g.name)) new)
