-- The first two objects of a program at its start are its messages.
use Rattle.std.proofs.Common.{◌≡◌, ◌∙◌, refl, ap, sym, true, ◌&&◌, ℕ, ◌+◌, ◌*◌, max, List, [], ◌∷◌, ◌++◌, map, Option, Some, None, arith, nat_eq, append_assoc}
use Rattle.std.specs.Prelude.{slice_get, codes}
use Rattle.std.proofs.lemmas.List.{append-nil}
use Rattle.std.proofs.lemmas.Bool.Decides.{nat_tests}
use Rattle.c_types.specs.declared.parts.FieldDef.{FieldDef}
use Rattle.c_types.specs.declared.parts.IntKind.TheVariants as K
use Rattle.c_types.specs.declared.parts.Parts.{Parts}
use Rattle.c_types.specs.declared.parts.TagDef.{TagDef}
use Rattle.c_types.specs.declared.parts.Ty.{Ty}
use Rattle.c_types.specs.declared.parts.Ty.TheVariants as T
use Rattle.c_types.specs.declared.shape.Shape.{Shape}
use Rattle.c_types.specs.Layout.{shape, shape_of, size_of, next_multiple, struct_shape}
use Rattle.c_types.specs.Refusal.{IsBuilt}
use Rattle.c_types.specs.Tables.{fields_in, fields_of}
use Rattle.c_types.proofs.ShapeLaws.{shape_of-is}
use Rattle.src_tree.specs.declared.program.Global as Text
use Rattle.src_tree.specs.declared.program.Program.{Program}
use Rattle.src_meaning.specs.Valid.{is_few, is_int_named, is_int_array, are_message_fields, is_message_tag, is_message, is_message_global, is_zero_start, has_messages as holds_messages}
use Rattle.src_meaning.specs.ValidNames.{is_called}
use Rattle.src_meaning.specs.ValidTypes.{is_int}
use Rattle.src_meaning.proofs.LayoutLengths.{and_left, and_right}
use Rattle.bm_objects.specs.declared.row.Row.{Row}
use Rattle.bm_code.specs.declared.code.MachineGlobal.{MachineGlobal}
use Rattle.bm_code.specs.Globals.{Placed, no_objects, global_row, with_global, with_globals, initial_process}
use Rattle.cg_program.specs.Compiled.{Source, IsSource, machine_global, machine_code}
use Rattle.cg_program.proofs.Rules.{globals_valid}
use Rattle.cg_server.specs.Messages.{is_message_row, has_messages}

int_is : (o : Option Ty) → is_int o ≡ true → o ≡ Some (T.Int K.Int)
int_is (Some (T.Int K.Int)) h = refl
int_is _ h = absurd (cc)

-- the size of a struct of two ints and six
abbrev three : Shape → Shape → Shape → ℕ
three x y z =
    next_multiple (next_multiple (next_multiple (next_multiple 0 x.align + x.size) y.align + y.size) z.align + z.size) (max x.align (max y.align (max z.align 1)))

module _ (p : Program) (built : IsBuilt p.types) where
  int_shape : (t : ℕ) → is_int (slice_get p.types.types t) ≡ true → shape_of p.types t ≡ shape 4 4
  int_shape t h = shape_of-is p.types built t (T.Int K.Int) (int_is (slice_get p.types.types t) h)

  array_shape : (t : ℕ) (o : Option Ty) → slice_get p.types.types t ≡ o → is_int_array p.types 6 o ≡ true → shape_of p.types t ≡ shape 24 4
  array_shape t (Some (T.Array u n)) e h =
      let six : n ≡ 6 = grind (arith, nat_tests, and_right (is_int (slice_get p.types.types u)) (nat_eq n 6) h) in
      let item = int_shape u (and_left (is_int (slice_get p.types.types u)) (nat_eq n 6) h) in
      shape_of-is p.types built t (T.Array u n) e
      ∙ (ap (λ (s : Shape). shape (s.size * n) s.align) item ∙ ap (λ n. shape (4 * n) 4) six)
  array_shape t _ e h = absurd (cc)

  fields_size : (n : ℕ) (fs : List FieldDef) → fields_of p.types n ≡ fs → are_message_fields p fs ≡ true → (struct_shape (shape_of p.types) (fields_of p.types n)).size ≡ 32
  fields_size n (a ∷ b ∷ c ∷ []) e h =
      let na = is_int_named p (codes "source") a in
      let nb = is_int_named p (codes "type") b in
      let array = is_int_array p.types 6 (slice_get p.types.types c.ty) in
      let nc = is_called p.names c.name (codes "arg") && array in
      let rest = and_right na (nb && nc) h in
      let sa = int_shape a.ty (and_right (is_called p.names a.name (codes "source")) (is_int (slice_get p.types.types a.ty)) (and_left na (nb && nc) h)) in
      let sb = int_shape b.ty (and_right (is_called p.names b.name (codes "type")) (is_int (slice_get p.types.types b.ty)) (and_left nb nc rest)) in
      let sc = array_shape c.ty (slice_get p.types.types c.ty) refl (and_right (is_called p.names c.name (codes "arg")) array (and_right nb nc rest)) in
      ap (λ fs. (struct_shape (shape_of p.types) fs).size) e
      ∙ (ap (λ x. three x (shape_of p.types b.ty) (shape_of p.types c.ty)) sa
      ∙ (ap (λ y. three (shape 4 4) y (shape_of p.types c.ty)) sb ∙ ap (λ z. three (shape 4 4) (shape 4 4) z) sc))
  fields_size n [] e h = absurd (cc)
  fields_size n (a ∷ []) e h = absurd (cc)
  fields_size n (a ∷ b ∷ []) e h = absurd (cc)
  fields_size n (a ∷ b ∷ c ∷ d ∷ fs) e h = absurd (cc)

  message_size : (t : ℕ) (o : Option Ty) → slice_get p.types.types t ≡ o → is_message p o ≡ true → size_of p.types t ≡ 32
  message_size t (Some (T.Struct n)) e h = in_tag (slice_get p.types.structs n) refl h
    where
      in_tag : (o : Option TagDef) → slice_get p.types.structs n ≡ o → is_message_tag p o ≡ true → size_of p.types t ≡ 32
      in_tag None q h = absurd (cc)
      in_tag (Some d) q h =
          ap (λ (s : Shape). s.size) (shape_of-is p.types built t (T.Struct n) e)
          ∙ fields_size n d.fields (ap fields_in q) (and_right (is_called p.names d.tag (codes "message")) (are_message_fields p d.fields) h)
  message_size t _ e h = absurd (cc)

  -- the row of a global for messages
  message_global : (next : ℕ) (word : List ℕ) (g : Text.Global) → is_message_global p word g ≡ true → is_message_row (global_row p.types next (machine_global p g)) ≡ true
  message_global next word g h =
      let is = and_left (is_message p (slice_get p.types.types g.ty)) (is_zero_start g.init) (and_right (is_called p.names g.name word) _ h) in
      ap (λ n. nat_eq n 32) (message_size g.ty (slice_get p.types.types g.ty) refl is)

-- the rows of globals come behind those that were there
rows_behind : (types : Parts) (x : Placed) (gs : List MachineGlobal) → (more : List Row) × ((with_globals types x gs).rows ≡ x.rows ++ more)
rows_behind types x [] = ([], sym (append-nil x.rows))
rows_behind types x (g ∷ gs) =
    let rest = rows_behind types (with_global types x g) gs in
    (global_row types x.next g ∷ rest.0, rest.1 ∙ append_assoc x.rows (global_row types x.next g ∷ []) rest.0)

-- the rows of these globals before others
begin : (p : Program) → IsBuilt p.types → (a b : Text.Global) (rest : List Text.Global) → holds_messages p (a ∷ b ∷ rest) ≡ true → has_messages (with_globals p.types no_objects (map (machine_global p) (a ∷ b ∷ rest))).rows ≡ true
begin p built a b rest h =
    let one : Placed = with_global p.types no_objects (machine_global p a) in
    let two : Placed = with_global p.types one (machine_global p b) in
    let more = rows_behind p.types two (map (machine_global p) rest) in
    let first = message_global p built no_objects.next (codes "m_in") a (and_left (is_message_global p (codes "m_in") a) (is_message_global p (codes "m_out") b) h) in
    let second = message_global p built one.next (codes "m_out") b (and_right (is_message_global p (codes "m_in") a) (is_message_global p (codes "m_out") b) h) in
    ap has_messages more.1
    ∙ (ap (λ x. x && is_message_row (global_row p.types one.next (machine_global p b))) first ∙ second)

pub has_at_start : (s : Source) → IsSource s → has_messages (initial_process (machine_code s)).rows ≡ true
has_at_start s is = by s.program.globals refl globals
  where
    globals : holds_messages s.program s.program.globals ≡ true
    globals = and_left (holds_messages s.program s.program.globals) _ (and_right (is_few s.program.globals) _ (globals_valid s.program is.valid))

    by : (gs : List Text.Global) → s.program.globals ≡ gs → holds_messages s.program gs ≡ true → has_messages (initial_process (machine_code s)).rows ≡ true
    by [] e h = absurd (cc)
    by (a ∷ []) e h = absurd (cc)
    by (a ∷ b ∷ rest) e h =
        ap (λ gs. has_messages (with_globals s.program.types no_objects (map (machine_global s.program) gs)).rows) e
        ∙ begin s.program is.valid.built a b rest h
