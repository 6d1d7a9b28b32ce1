-- What holds of the names and texts of nothing, and of one more name, holds of every outline.
use Rattle.std.proofs.Common.{◌≡◌, refl, ℕ, ◌+◌, Bool, true, false, List, [], ◌∷◌, ◌++◌, Option, Some, None}
use Rattle.std.specs.Prelude.{slice_get, codes}
use Rattle.c_ast.specs.declared.types.TagKind.{TagKind}
use Rattle.c_ast.specs.declared.types.TagKind.TheVariants.{Struct, Union}
use Rattle.c_ast.specs.Trees.{Object, Declaration, Record, Global, Prototype, Definition}
use Rattle.c_check_scope.specs.declared.scope.Tag.{Tag}
use Rattle.c_check_scope.specs.Names.{Text, number_named, place_of, object_name}
use Rattle.c_check_table.specs.declared.outline.Outline.{Outline}
use Rattle.c_check_table.specs.Outlines.{named_at, named, all_named, tagged_at, tagged, headed, defined, fields_named, with_tag, with_heading, with_definition, declared, declared_after, predeclared, nothing, start, outline}

module _ (P : List Text → List Text → Type 0) (more : (names texts : List Text) (x : Text) → number_named names x ≡ None → P names texts → P (names ++ (x ∷ [])) (texts ++ (x ∷ []))) where
  abbrev Holds : Outline → Type 0
  Holds o = P o.names o.texts

  named_at-kept : (o : Outline) (x : Text) (n : Option ℕ) → number_named o.names x ≡ n → Holds o → Holds (named_at o x n)
  named_at-kept o x None e h = more o.names o.texts x e h
  named_at-kept o x (Some k) e h = h

  named-kept : (o : Outline) (x : Text) → Holds o → Holds (named o x)
  unfolding named
  named-kept o x h = named_at-kept o x (number_named o.names x) refl h

  all_named-kept : (o : Outline) (xs : List Text) → Holds o → Holds (all_named o xs)
  all_named-kept o [] h = h
  all_named-kept o (x ∷ xs) h = all_named-kept (named o x) xs (named-kept o x h)

  tagged_at-kept : (o : Outline) (kind : TagKind) (d : Bool) (k : ℕ) (t : Option (Option Tag)) → Holds o → Holds (tagged_at o kind d k t)
  tagged_at-kept o kind d k None h = h
  tagged_at-kept o kind d k (Some (Some t)) h = h
  tagged_at-kept o Struct d k (Some None) h = h
  tagged_at-kept o Union d k (Some None) h = h

  with_tag-kept : (o : Outline) (kind : TagKind) (d : Bool) (x : Text) → Holds o → Holds (with_tag o kind d x)
  unfolding with_tag tagged
  with_tag-kept o kind d x h =
      tagged_at-kept (named o x) kind d (place_of o.names x) (slice_get (named o x).tags (place_of o.names x)) (named-kept o x h)

  with_heading-kept : (o : Outline) (x : Text) (place : ℕ) → Holds o → Holds (with_heading o x place)
  unfolding with_heading headed
  with_heading-kept o x place h = named-kept o x h

  with_definition-kept : (o : Outline) (x : Text) (place : ℕ) → Holds o → Holds (with_definition o x place)
  unfolding with_definition defined
  with_definition-kept o x place h = with_heading-kept o x place h

  fields_named-kept : (o : Outline) (fs : List Object) → Holds o → Holds (fields_named o fs)
  fields_named-kept o [] h = h
  fields_named-kept o (f ∷ fs) h = fields_named-kept (named o (object_name f)) fs (named-kept o (object_name f) h)

  declared-kept : (o : Outline) (place : ℕ) (d : Declaration) → Holds o → Holds (declared o place d)
  unfolding declared
  declared-kept o place (Record kind x fs) h = fields_named-kept (with_tag o kind false x) fs (with_tag-kept o kind false x h)
  declared-kept o place (Global f i) h = named-kept o (object_name f) h
  declared-kept o place (Prototype t x ps) h = with_heading-kept o x place h
  declared-kept o place (Definition t x ps body) h = with_definition-kept o x place h

  declared_after-kept : (o : Outline) (place : ℕ) (ds : List Declaration) → Holds o → Holds (declared_after o place ds)
  declared_after-kept o place [] h = h
  declared_after-kept o place (d ∷ ds) h = declared_after-kept (declared o place d) (place + 1) ds (declared-kept o place d h)

  start-kept : P [] [] → Holds start
  unfolding start
  start-kept h = all_named-kept (with_tag nothing Struct true (codes "message")) predeclared (with_tag-kept nothing Struct true (codes "message") h)

  pub outline_keeps : P [] [] → (ds : List Declaration) → P (outline ds).names (outline ds).texts
  unfolding outline
  outline_keeps h ds = declared_after-kept start 0 ds (start-kept h)
