-- The notes of the rows of a store's process are those of its objects.
use Rattle.std.proofs.Common.{◌≡◌, ◌∙◌, refl, ap, sym, Bool, true, false, cond, ℕ, suc, ◌+◌, ◌-◌, List, [], ◌∷◌, ◌++◌, length, map, Option, Some, None, unwrap_or, codes, arith}
use Rattle.std.specs.Prelude.{slice_get}
use Rattle.std.specs.Fmt.{decimal}
use Rattle.std.specs.FinMap.{get}
use Rattle.std.specs.Option.{option_map_or}
use Rattle.lu_base.specs.declared.limits.TheConstants.{FIRST_ADDRESS}
use Rattle.lu_base.specs.Addresses.{addresses_from}
use Rattle.lu_lines.specs.declared.note.Note.{Note}
use Rattle.lu_lines.specs.declared.note.Note.TheVariants as note
use Rattle.src_tree.specs.declared.value.Value.{Value}
use Rattle.src_tree.specs.declared.value.Object.{Object}
use Rattle.src_tree.specs.declared.value.ObjectKind.{ObjectKind}
use Rattle.src_tree.specs.declared.value.ObjectKind.TheVariants.{Global, Heap, Temporary}
use Rattle.src_tree.specs.declared.value.Store.{Store}
use Rattle.src_tree.specs.declared.program.Program.{Program}
use Rattle.src_tree.specs.declared.program.Site.{Site}
use Rattle.src_meaning.specs.Objects.{is_live, object_size, addresses}
use Rattle.src_meaning.specs.ValueBytes.{elements_bytes, object_bytes}
use Rattle.bm_code.specs.Process.{Process}
use Rattle.cg_server.specs.Dump as machine
use Rattle.cg_state.specs.Represents.{address_past, site_of, row_of, rows_from, content_of}
use Rattle.cg_state.proofs.Memory.{stands, get_content}
use Rattle.sys_world.specs.Dump as world
use Rattle.sys_world.specs.Naming.{name_by_kind, object_name}
use Rattle.sys_dump.specs.Dumps.{DumpsTellStores}

no_site : (xs : List Site) → slice_get xs (length xs) ≡ None
no_site [] = refl
no_site (x ∷ xs) = no_site xs

name_is : (p : Program) (k : ℕ) (kind : ObjectKind) → machine.object_name p k (site_of (length p.sites) kind) ≡ name_by_kind p k kind
name_is p k Global = refl
name_is p k (Heap site) = refl
name_is p k Temporary =
    let tail = 58 ∷ decimal (k - length p.globals) in
    ap (λ o. option_map_or (λ (d : Site). machine.function_name p d.function ++ 35 ∷ decimal d.ordinal) o (codes "temp") ++ tail) (no_site p.sites)

module _ (p : Program) (s : Store) where
  abbrev sites : ℕ
  sites = length p.sites

  -- these objects stand in the store from number k on, at these addresses
  record StandFrom (k a : ℕ) (os : List Object) : Type 0 where
    objects : (j : ℕ) → slice_get os j ≡ slice_get s.objects (k + j)
    places : (j : ℕ) → slice_get (addresses_from a (map (object_size p.types) os)) j ≡ slice_get (addresses p.types s) (k + j)

  next_from : (k a : ℕ) (x : Object) (os : List Object) → StandFrom k a (x ∷ os) → StandFrom (k + 1) (address_past p.types a x) os
  next_from k a x os h = record {
    objects = λ j. let n : k + suc j ≡ k + 1 + j = omega arith in h.objects (suc j) ∙ ap (slice_get s.objects) n;
    places = λ j. let n : k + suc j ≡ k + 1 + j = omega arith in h.places (suc j) ∙ ap (slice_get (addresses p.types s)) n;
  }

  -- the note of a live object
  note_is : (k a : ℕ) (x : Object) (vs : List Value) → slice_get s.objects k ≡ Some x → slice_get (addresses p.types s) k ≡ Some a → x.elements ≡ Some vs → machine.object_note p (content_of p.types s) k (row_of sites p.types a x) ≡ world.object_note p s k a x
  note_is k a x vs at there live =
      let st = stands sites p.types FIRST_ADDRESS s.objects k x at in
      let same : st.address ≡ a = let e = st.is in cc in
      let bytes : get (content_of p.types s) a ≡ Some (elements_bytes p.types (addresses p.types s) x.elem vs) = ap (get (content_of p.types s)) (sym same) ∙ get_content sites p.types s k x vs at live in
      let whole : object_bytes p.types s x ≡ elements_bytes p.types (addresses p.types s) x.elem vs = ap (λ l. option_map_or (λ vs. elements_bytes p.types (addresses p.types s) x.elem vs) l []) live in
      let name : machine.object_name p k (site_of sites x.kind) ≡ object_name p s k = name_is p k x.kind ∙ sym (ap (λ o. option_map_or (λ (x : Object). name_by_kind p k x.kind) o []) at) in
      ap (λ n. note.Object a n (object_size p.types x) (unwrap_or (get (content_of p.types s) a) [])) name
      ∙ ap (λ b. note.Object a (object_name p s k) (object_size p.types x) b) (ap (λ o. unwrap_or o []) bytes ∙ sym whole)

  notes_are : (k a : ℕ) (os : List Object) → StandFrom k a os → machine.live_notes p (content_of p.types s) k (rows_from sites p.types a os) ≡ world.live_notes p s k (addresses_from a (map (object_size p.types) os)) os
  notes_are k a [] h = refl
  notes_are k a (x ∷ os) h =
      by x.elements refl (notes_are (k + 1) (address_past p.types a x) os (next_from k a x os h))
    where
      by : (l : Option (List Value)) → x.elements ≡ l → machine.live_notes p (content_of p.types s) (k + 1) (rows_from sites p.types (address_past p.types a x) os) ≡ world.live_notes p s (k + 1) (addresses_from (address_past p.types a x) (map (object_size p.types) os)) os → machine.live_notes p (content_of p.types s) k (rows_from sites p.types a (x ∷ os)) ≡ world.live_notes p s k (addresses_from a (map (object_size p.types) (x ∷ os))) (x ∷ os)
      by None e same =
          let dead : is_live x ≡ false = ap (λ l. elim l as (λ _. Bool) [ None ↦ false | Some elements ↦ true ]) e in
          ap (λ b. cond b (machine.object_note p (content_of p.types s) k (row_of sites p.types a x) ∷ []) [] ++ machine.live_notes p (content_of p.types s) (k + 1) (rows_from sites p.types (address_past p.types a x) os)) dead
          ∙ (same ∙ sym (ap (λ b. cond b (world.object_note p s k a x ∷ []) [] ++ world.live_notes p s (k + 1) (addresses_from (address_past p.types a x) (map (object_size p.types) os)) os) dead))
      by (Some vs) e same =
          let alive : is_live x ≡ true = ap (λ l. elim l as (λ _. Bool) [ None ↦ false | Some elements ↦ true ]) e in
          let here : k ≡ k + 0 = omega arith in
          let at : slice_get s.objects k ≡ Some x = ap (slice_get s.objects) here ∙ sym (h.objects 0) in
          let there : slice_get (addresses p.types s) k ≡ Some a = ap (slice_get (addresses p.types s)) here ∙ sym (h.places 0) in
          ap (λ b. cond b (machine.object_note p (content_of p.types s) k (row_of sites p.types a x) ∷ []) [] ++ machine.live_notes p (content_of p.types s) (k + 1) (rows_from sites p.types (address_past p.types a x) os)) alive
          ∙ (ap (λ n. n ∷ machine.live_notes p (content_of p.types s) (k + 1) (rows_from sites p.types (address_past p.types a x) os)) (note_is k a x vs at there e)
          ∙ (ap (λ l. world.object_note p s k a x ∷ l) same ∙ sym (ap (λ b. cond b (world.object_note p s k a x ∷ []) [] ++ world.live_notes p s (k + 1) (addresses_from (address_past p.types a x) (map (object_size p.types) os)) os) alive)))

  all_notes : machine.live_notes p (content_of p.types s) 0 (rows_from sites p.types FIRST_ADDRESS s.objects) ≡ world.live_notes p s 0 (addresses p.types s) s.objects
  all_notes = notes_are 0 FIRST_ADDRESS s.objects (record { objects = λ j. let n : j ≡ 0 + j = omega arith in ap (slice_get s.objects) n; places = λ j. let n : j ≡ 0 + j = omega arith in ap (slice_get (addresses p.types s)) n })

pub dumps_tell : DumpsTellStores
dumps_tell s store is name =
    let p = s.source.program in
    ap (λ (q : Process). machine.dump_notes name p q) is.process.is
    ∙ ap (λ (l : List Note). note.Dump name (length l) ∷ l) (all_notes p store)
