-- Versions of two programs, whatever pairs in them.
use Rattle.src_tree.specs.declared.program.Program.{Program}
use Rattle.lu_image.specs.declared.pairing.Pairing.{Pairing}
use Rattle.lu_image.specs.Pairing.{outline_of}
use Rattle.lu_image_store.specs.Versions.{Versions, versions_of}

-- the pairing with the tables of two programs
abbrev pub outlined : Program → Program → Pairing → Pairing
outlined old new q = record q { old = outline_of old; new = outline_of new }

abbrev pub between : Program → Program → Pairing → Versions
between old new q = versions_of old new (outlined old new q)
