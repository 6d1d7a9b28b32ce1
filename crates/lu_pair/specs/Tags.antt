-- Words of contracts on structs with their fields and unions with their members.
use Rattle.std.specs.Prelude.{◌≡◌, ℕ, ◌<◌, ◌^◌, List, [], length, map, Option, slice_get}
use Rattle.c_types.specs.declared.parts.TagDef.{TagDef}
use Rattle.c_types.specs.Tables.{fields_in}
use Rattle.src_tree.specs.declared.program.Program.{Program}
use Rattle.lu_image.specs.declared.rename.Table.{Table}
use Rattle.lu_image.specs.declared.rename.Table.TheVariants as T
use Rattle.lu_image.specs.declared.rename.Rename.{Rename}
use Rattle.lu_image.specs.declared.error.PairError.{PairError}
use Rattle.lu_image.specs.Names.{tag_names, joined, function_names, site_names}
use Rattle.lu_image.specs.Pairing.{of_table, tag_pair, part_pairs, global_pairs, struct_pairs, field_pairs, union_pairs, member_pairs, function_pairs, site_pairs}
use Rattle.lu_image.specs.RenameRefusal.{open_name, open_parts, new_parts, first_refusal, or_else, tag_refusal, part_refusal}
use Rattle.lu_pair.specs.declared.parts.TagPairer.{TagPairer}
use Rattle.lu_pair.specs.declared.paired.TagTask.{TagTask}
use Rattle.lu_pair.specs.declared.paired.TagPairs.{TagPairs}
use Rattle.lu_pair.specs.declared.paired.SiteNames.{SiteNames}
use Rattle.lu_pair.specs.declared.paired.TablePairs.{TablePairs}

-- no struct or union has more fields than there are numbers
abbrev pub HaveFewParts : List TagDef → Type 0
HaveFewParts tags = (k : ℕ) → length (fields_in (slice_get tags k)) < 2 ^ 32

-- each list of a program's globals, functions and sites is shorter than there are numbers of 32 bits
pub record HasFewEntries (p : Program) : Type 0 where
  pub globals : length p.globals < 2 ^ 32
  pub functions : length p.functions < 2 ^ 32
  pub sites : length p.sites < 2 ^ 32

-- the pair of a struct or a union
abbrev pub pair_of : TagPairer → TagDef → Option ℕ
pair_of p = tag_pair p.renaming p.old_texts.now p.new_names

-- the structs or the unions of two programs, and the renames of their table
pub record IsTagPairer (table : Table) (renames : List Rename) (old_texts new_texts : List (List ℕ)) (old_tags new_tags : List TagDef) (p : TagPairer) : Type 0 where
  pub renames_are : p.renaming ≡ of_table table renames
  pub names_are : p.new_names ≡ tag_names new_texts new_tags
  pub old_texts_are : p.old_texts.now ≡ old_texts
  pub new_texts_are : p.new_texts.now ≡ new_texts
  pub old_are : p.old.now ≡ old_tags
  pub new_are : p.new.now ≡ new_tags

-- the first refusal of the renames of structs or of unions
abbrev pub tags_refused : Table → TagPairer → Option PairError
tags_refused table p =
    first_refusal (map (open_name table) (tag_names p.old_texts.now p.old.now)) (map (open_name table) p.new_names) [] p.renaming

-- the first refusal of the renames of fields or of members
abbrev pub parts_refused : Table → List Rename → TagPairer → Option PairError
parts_refused tags renames p =
    first_refusal (joined (open_parts tags p.old_texts.now) p.old.now) (joined (new_parts p.old_texts.now p.new_texts.now p.new.now (pair_of p)) p.old.now) [] renames

-- how a task's structs or unions pair
abbrev pub task_pair : TagTask → TagDef → Option ℕ
task_pair t = tag_pair (of_table t.tags t.renames.now) t.old_texts.now (tag_names t.new_texts.now t.new.now)

-- the first refusal of its renames
abbrev pub task_refusal : TagTask → Option PairError
task_refusal t =
    or_else (tag_refusal t.tags t.renames.now t.old_texts.now t.new_texts.now t.old.now t.new.now) (part_refusal t.parts t.tags t.renames.now t.old_texts.now t.new_texts.now t.old.now t.new.now (task_pair t))

-- the pairs of its structs or unions, and those of their fields or members
pub record ArePaired (t : TagTask) (pairs : TagPairs) : Type 0 where
  pub tags : pairs.tags.items ≡ map (task_pair t) t.old.now
  pub parts : pairs.parts.items ≡ map (part_pairs (of_table t.parts t.renames.now) t.old_texts.now t.new_texts.now t.new.now (task_pair t)) t.old.now

-- the structs of two programs
pub record IsStructTask (old new : Program) (renames : List Rename) (t : TagTask) : Type 0 where
  pub tags : t.tags ≡ T.Struct
  pub parts : t.parts ≡ T.Field
  pub renames_are : t.renames.now ≡ renames
  pub old_texts : t.old_texts.now ≡ old.names
  pub new_texts : t.new_texts.now ≡ new.names
  pub old_are : t.old.now ≡ old.types.structs
  pub new_are : t.new.now ≡ new.types.structs

-- their unions
pub record IsUnionTask (old new : Program) (renames : List Rename) (t : TagTask) : Type 0 where
  pub tags : t.tags ≡ T.Union
  pub parts : t.parts ≡ T.Member
  pub renames_are : t.renames.now ≡ renames
  pub old_texts : t.old_texts.now ≡ old.names
  pub new_texts : t.new_texts.now ≡ new.names
  pub old_are : t.old.now ≡ old.types.unions
  pub new_are : t.new.now ≡ new.types.unions

-- the names of two programs by which sites pair
pub record HaveSiteNames (old new : Program) (names : SiteNames) : Type 0 where
  pub old_functions : names.old_functions ≡ function_names old
  pub new_functions : names.new_functions ≡ function_names new
  pub old_sites : names.old ≡ site_names old
  pub new_sites : names.new ≡ site_names new

-- the pairs of each table
pub record AreTablePairs (old new : Program) (renames : List Rename) (t : TablePairs) : Type 0 where
  pub globals : t.globals.items ≡ global_pairs old new renames
  pub structs : t.structs.tags.items ≡ struct_pairs old new renames
  pub fields : t.structs.parts.items ≡ field_pairs old new renames
  pub unions : t.unions.tags.items ≡ union_pairs old new renames
  pub members : t.unions.parts.items ≡ member_pairs old new renames
  pub functions : t.functions.items ≡ function_pairs old new renames
  pub sites : t.sites.items ≡ site_pairs old new renames
