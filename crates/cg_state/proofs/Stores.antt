-- A write of a part's bytes is the process of the store with that part.
use Rattle.c_types.specs.Refusal.{IsBuilt}
use Rattle.std.proofs.Common.{map, ◌≡◌, ◌∙◌, refl, ap, sym, subst, Bool, true, false, ◌&&◌, cond, ℕ, zero, suc, ◌+◌, ◌-◌, ◌*◌, ◌<◌, List, [], ◌∷◌, ◌++◌, length, take, drop, Option, Some, None, Ok, arith, append_assoc, length-append, nat_le}
use Rattle.std.specs.Prelude.{slice_get, slice_set}
use Rattle.std.specs.List.{list_all}
use Rattle.std.specs.Option.{option_map, option_map_or}
use Rattle.std.specs.Ordering.{nat_cmp, eq_by_cmp}
use Rattle.std.specs.Cmp.{nat_cmp_total}
use Rattle.std.specs.FinMap as map
use Rattle.std.specs.FinMap.{find as look, insert, get-from_entries, get-insert, same_map, nat_cmp-IsAntisymmetric}
use Rattle.std.proofs.Math.Seq.{drop-append_seam, drop-append-add, take-append_seam}
use Rattle.std.proofs.lemmas.Bool.Decides.{nat_tests}
use Rattle.lu_spec.specs.Then.{then_option}
use Rattle.lu_spec.specs.Splice.{spliced}
use Rattle.lu_spec.proofs.ThenLemmas.{then_some}
use Rattle.lu_base.specs.declared.trap.Trap.TheVariants.{BadCode}
use Rattle.c_types.specs.declared.parts.Parts.{Parts}
use Rattle.c_types.specs.declared.path.Step.TheVariants.{Index}
use Rattle.c_types.specs.Layout.{size_of}
use Rattle.c_types.specs.Place.{place}
use Rattle.c_types.proofs.ObjectLaws.{element-of, object-within}
use Rattle.src_tree.specs.declared.value.Value.{Value}
use Rattle.src_tree.specs.declared.value.Object.{Object}
use Rattle.src_tree.specs.declared.value.Store.{Store}
use Rattle.src_tree.specs.declared.program.Program.{Program}
use Rattle.src_meaning.specs.Paths.{part_at, with_part, with_element_part}
use Rattle.lu_base.specs.declared.limits.TheConstants.{FIRST_ADDRESS}
use Rattle.cg_state.specs.Represents.{address_past, address_in, row_of, rows_from, rows_of, with_entry, entries_from, content_of}
use Rattle.lu_base.specs.Addresses.{addresses_from, next_from}
use Rattle.src_meaning.specs.Objects.{or_trap, Place, store_with, with_object, with_elements, object_size, addresses}
use Rattle.src_meaning.specs.Store.{IsStore, has_type}
use Rattle.src_meaning.specs.ValueBytes.{Addresses, items_bytes, bytes_of, elements_bytes}
use Rattle.src_meaning.proofs.LayoutLengths.{and_left, and_right, length-bytes_of}
use Rattle.src_meaning.proofs.PartBytes.{frame, with_same}
use Rattle.bm_objects.specs.Table.{reaches}
use Rattle.bm_objects.specs.Table as table
use Rattle.bm_code.specs.Access.{live_at, written_at}
use Rattle.cg_state.proofs.Tests.{le_true}
use Rattle.cg_state.proofs.Typed.{Typed}
use Rattle.cg_state.proofs.Memory.{stands, after_above, find_row, get_content}
use Rattle.cg_state.proofs.Places.{IsPart, place_word, place_word_is, elements_typed, live_true, all_get}

abbrev pub same_address : ℕ → ℕ → Bool
same_address a b = eq_by_cmp nat_cmp a b

pub equal_address : (a b : ℕ) → same_address a b ≡ true → a ≡ b
equal_address a b e = grind (arith, nat_tests)

pub cond_swap : {A : Type 0} (t u : Bool) (a b c : A) → (t ≡ true → u ≡ true → ⊥) → cond t a (cond u b c) ≡ cond u b (cond t a c)
cond_swap true true a b c h = absurd (h refl refl)
cond_swap true false a b c h = refl
cond_swap false true a b c h = refl
cond_swap false false a b c h = refl

pub cond_twice : {A : Type 0} (t : Bool) (a b c : A) → cond t a (cond t b c) ≡ cond t a c
cond_twice true a b c = refl
cond_twice false a b c = refl

-- an object with other elements stands where it stood, and so do all others
module _ (sites : ℕ) (p : Parts) (x : Object) (vs new : List Value) (live : x.elements ≡ Some vs) where
  abbrev x' : Object
  x' = with_elements x (Some new)

  pub addresses_same : (a : ℕ) (os : List Object) (o : ℕ) → slice_get os o ≡ Some x → addresses_from a (map (object_size p) (slice_set os o x')) ≡ addresses_from a (map (object_size p) os)
  addresses_same a [] o e = absurd (cc)
  addresses_same a (y ∷ os) zero e = let same : y ≡ x = cc in ap (λ (y : Object). a ∷ addresses_from (address_past p a y) (map (object_size p) os)) (sym same)
  addresses_same a (y ∷ os) (suc o) e = ap (λ l. a ∷ l) (addresses_same (address_past p a y) os o e)

  pub rows_same : (a : ℕ) (os : List Object) (o : ℕ) → slice_get os o ≡ Some x → rows_from sites p a (slice_set os o x') ≡ rows_from sites p a os
  rows_same a [] o e = absurd (cc)
  rows_same a (y ∷ os) zero e =
      let same : y ≡ x = cc in
      let alive = ap (λ l. elim l as (λ _. Bool) [ None ↦ false | Some elements ↦ true ]) live in
      ap (λ b. record { addr = a; elem = x.elem; count = x.count; size = object_size p x; site = Rattle.cg_state.specs.Represents.site_of sites x.kind; live = b } ∷ rows_from sites p (address_past p a x) os) (sym alive) ∙ ap (λ (y : Object). row_of sites p a y ∷ rows_from sites p (address_past p a y) os) (sym same)
  rows_same a (y ∷ os) (suc o) e = ap (λ l. row_of sites p a y ∷ l) (rows_same (address_past p a y) os o e)

  pub end_same : (a : ℕ) (os : List Object) (o : ℕ) → slice_get os o ≡ Some x → next_from a (map (object_size p) (slice_set os o x')) ≡ next_from a (map (object_size p) os)
  end_same a [] o e = absurd (cc)
  end_same a (y ∷ os) zero e = let same : y ≡ x = cc in ap (λ (y : Object). next_from (address_past p a y) (map (object_size p) os)) (sym same)
  end_same a (y ∷ os) (suc o) e = end_same (address_past p a y) os o e

  -- what is found among the entries then
  pub look_with : (av : Addresses) (q first elem : ℕ) (l : Option (List Value)) (rest : List (ℕ × List ℕ)) → look nat_cmp q (with_entry p av first elem l rest) ≡ option_map_or (λ us. cond (same_address q first) (Some (elements_bytes p av elem us)) (look nat_cmp q rest)) l (look nat_cmp q rest)
  look_with av q first elem None rest = refl
  look_with av q first elem (Some us) rest = refl

  look_set : (av : Addresses) (a : ℕ) (os : List Object) (o : ℕ) (e : slice_get os o ≡ Some x) (q : ℕ) → look nat_cmp q (entries_from p av a (slice_set os o x')) ≡ cond (same_address q (stands sites p a os o x e).address) (Some (elements_bytes p av x.elem new)) (look nat_cmp q (entries_from p av a os))
  unfolding stands
  look_set av a [] o e q = absurd (cc)
  look_set av a (y ∷ os) zero e q =
      let same : y ≡ x = cc in
      let rest = look nat_cmp q (entries_from p av (address_past p a x) os) in
      let mine = Some (elements_bytes p av x.elem new) in
      sym (cond_twice (same_address q a) mine (Some (elements_bytes p av x.elem vs)) rest)
      ∙ (ap (λ l. cond (same_address q a) mine (look nat_cmp q (with_entry p av a x.elem l (entries_from p av (address_past p a x) os)))) (sym live)
      ∙ ap (λ (y : Object). cond (same_address q a) mine (look nat_cmp q (with_entry p av a y.elem y.elements (entries_from p av (address_past p a y) os)))) (sym same))
  look_set av a (y ∷ os) (suc o) e q =
      let st = stands sites p (address_past p a y) os o x e in
      let up = st.above in
      let mine = Some (elements_bytes p av x.elem new) in
      look_with av q a y.elem y.elements (entries_from p av (address_past p a y) (slice_set os o x'))
      ∙ (ap (λ r. option_map_or (λ us. cond (same_address q a) (Some (elements_bytes p av y.elem us)) r) y.elements r) (look_set av (address_past p a y) os o e q)
      ∙ (through y.elements st.address (omega (arith, after_above p a y, up)) (look nat_cmp q (entries_from p av (address_past p a y) os))
      ∙ ap (cond (same_address q st.address) mine) (sym (look_with av q a y.elem y.elements (entries_from p av (address_past p a y) os)))))
    where
      through : (l : Option (List Value)) (b : ℕ) → a < b → (rest : Option (List ℕ)) → option_map_or (λ us. cond (same_address q a) (Some (elements_bytes p av y.elem us)) (cond (same_address q b) (Some (elements_bytes p av x.elem new)) rest)) l (cond (same_address q b) (Some (elements_bytes p av x.elem new)) rest) ≡ cond (same_address q b) (Some (elements_bytes p av x.elem new)) (option_map_or (λ us. cond (same_address q a) (Some (elements_bytes p av y.elem us)) rest) l rest)
      through None b lt rest = refl
      through (Some us) b lt rest =
          cond_swap (same_address q a) (same_address q b) (Some (elements_bytes p av y.elem us)) (Some (elements_bytes p av x.elem new)) rest (λ t u. let m = equal_address q a t in let n = equal_address q b u in omega (arith, m, n, lt))

  -- the content with the object's new bytes
  pub insert_content : (s : Store) (o : ℕ) (e : slice_get s.objects o ≡ Some x) → insert (content_of p s) (stands sites p FIRST_ADDRESS s.objects o x e).address (elements_bytes p (addresses p s) x.elem new) ≡ content_of p (with_object s o x')
  insert_content s o e =
      let a = (stands sites p FIRST_ADDRESS s.objects o x e).address in
      let av = addresses p s in
      let bytes = elements_bytes p av x.elem new in
      let old = entries_from p av FIRST_ADDRESS s.objects in
      let os' = slice_set s.objects o x' in
      let same_av : addresses_from FIRST_ADDRESS (map (object_size p) os') ≡ av = addresses_same FIRST_ADDRESS s.objects o e in
      same_map nat_cmp_total nat_cmp-IsAntisymmetric _ _ (λ q. get-insert nat_cmp_total (content_of p s) a bytes q
      ∙ (ap (cond (same_address q a) (Some bytes)) (get-from_entries nat_cmp_total old q)
      ∙ (sym (look_set av FIRST_ADDRESS s.objects o e q)
      ∙ (ap (λ av. look nat_cmp q (entries_from p av FIRST_ADDRESS os')) (sym same_av) ∙ sym (get-from_entries nat_cmp_total (entries_from p (addresses_from FIRST_ADDRESS (map (object_size p) os')) FIRST_ADDRESS os') q)))))

pub splice_is : (b m n c : List ℕ) (k : ℕ) → length b ≡ k → length m ≡ length n → spliced (b ++ (m ++ c)) k n ≡ b ++ (n ++ c)
splice_is b m n c k h g =
    let first : take k (b ++ (m ++ c)) ≡ b = subst (λ k. take k (b ++ (m ++ c)) ≡ b) h (take-append_seam b (m ++ c)) in
    let second : drop (k + length n) (b ++ (m ++ c)) ≡ c = subst (λ k. drop (k + length n) (b ++ (m ++ c)) ≡ c) h (drop-append-add b (m ++ c) (length n) ∙ subst (λ l. drop l (m ++ c) ≡ c) g (drop-append_seam m c)) in
    ap (λ l. l ++ (n ++ drop (k + length n) (b ++ (m ++ c)))) first ∙ ap (λ l. b ++ (n ++ l)) second

set_same : {A : Type 0} (xs : List A) (k : ℕ) (x : A) → slice_get xs k ≡ Some x → slice_set xs k x ≡ xs
set_same [] k x e = absurd (cc)
set_same (y ∷ xs) zero x e = let q : y ≡ x = cc in ap (λ z. z ∷ xs) (sym q)
set_same (y ∷ xs) (suc k) x e = ap (λ zs. y ∷ zs) (set_same xs k x e)

module _ (p : Program) (built : IsBuilt p.types) (s : Store) (ok : IsStore p s) where
  items_frame : (rec : Value → List ℕ) (u size : ℕ) → ((v : Value) → has_type p s u v ≡ true → length (rec v) ≡ size) → (vs : List Value) (k : ℕ) (v : Value) → list_all (has_type p s u) vs ≡ true → slice_get vs k ≡ Some v → (before after : List ℕ) × (length before ≡ k * size) × ((y : Value) → items_bytes rec (slice_set vs k y) ≡ before ++ (rec y ++ after))
  items_frame rec u size lengths [] k v h e = absurd (cc)
  items_frame rec u size lengths (x ∷ vs) zero v h e = ([], items_bytes rec vs, omega arith, λ y. refl)
  items_frame rec u size lengths (x ∷ vs) (suc k) v h e =
      let here = lengths x (and_left (has_type p s u x) (list_all (has_type p s u) vs) h) in
      let rest = items_frame rec u size lengths vs k v (and_right (has_type p s u x) (list_all (has_type p s u) vs) h) e in
      (rec x ++ rest.0, rest.1, omega (arith, length-append (rec x) rest.0, here, rest.2), λ y. ap (λ l. rec x ++ l) (rest.3 y) ∙ sym (append_assoc (rec x) rest.0 (rec y ++ rest.1)))

  -- an object whose part is replaced
  pub record Replaced (u : ℕ) (q : Place) (h : IsPart p built s ok u q) : Type 0 where
    pub put : Value → List Value
    pub puts : (v : Value) → with_element_part h.elements q.path v ≡ Some (put v)
    pub same : put h.value ≡ h.elements
    pub before : List ℕ
    pub after : List ℕ
    pub place_is : length before ≡ h.offset
    pub bytes : (v : Value) → elements_bytes p.types (addresses p.types s) h.object.elem (put v) ≡ before ++ (bytes_of p.types (addresses p.types s) u v ++ after)

  pub replaced : (u : ℕ) (q : Place) (h : IsPart p built s ok u q) → Replaced u q h
  replaced u q h =
      let a = addresses p.types s in
      let rec = bytes_of p.types a in
      let el = element-of p.types h.object.elem h.object.count q.path (place u h.offset) h.leads in
      let is : Rattle.src_meaning.specs.Paths.element_part h.elements (Index el.number ∷ el.steps) ≡ Some h.value = subst (λ path. Rattle.src_meaning.specs.Paths.element_part h.elements path ≡ Some h.value) el.path_is h.is in
      let first = then_some (slice_get h.elements el.number) (λ v. part_at v el.steps) h.value is in
      let all = elements_typed p built s ok q.object h.object h.elements h.at h.live in
      let lengths = λ (v : Value) (t : has_type p s h.object.elem v ≡ true). length-bytes_of p s built a h.object.elem v t in
      let item = items_frame (rec h.object.elem) h.object.elem (size_of p.types h.object.elem) lengths h.elements el.number first.0 all.1 first.1 in
      let inner = frame p s built a el.steps h.object.elem first.0 h.value el.last (all_get (has_type p s h.object.elem) h.elements el.number first.0 all.1 first.1) el.rest first.2 in
      let back : inner.put h.value ≡ first.0 = cc (inner.puts h.value, with_same el.steps first.0 h.value first.2) in
      record {
        put = λ v. slice_set h.elements el.number (inner.put v);
        puts = λ v. ap (λ path. with_element_part h.elements path v) el.path_is ∙ (ap (λ o. then_option o (λ w. then_option (with_part w el.steps v) (λ changed. Some (slice_set h.elements el.number changed)))) first.1 ∙ ap (λ o. then_option o (λ changed. Some (slice_set h.elements el.number changed))) (inner.puts v));
        same = ap (slice_set h.elements el.number) back ∙ set_same h.elements el.number first.0 first.1;
        before = item.0 ++ inner.before;
        after = inner.after ++ item.1;
        place_is = omega (arith, length-append item.0 inner.before, item.2, inner.place, el.sum);
        bytes = λ v. item.3 (inner.put v) ∙ (ap (λ m. item.0 ++ (m ++ item.1)) (inner.bytes v ∙ ap (λ t. inner.before ++ (rec t v ++ inner.after)) el.ty) ∙ around item.0 inner.before (rec u v) inner.after item.1);
      }
    where
      around : (a b m c d : List ℕ) → a ++ ((b ++ (m ++ c)) ++ d) ≡ (a ++ b) ++ (m ++ (c ++ d))
      around a b m c d = simp append_assoc

  module _ (u : ℕ) (q : Place) (h : IsPart p built s ok u q) (v : Value) (hv : Typed p built s u v) where
    -- the store with another value at the place
    abbrev pub store_after : Store
    store_after = with_object s q.object (with_elements h.object (Some ((replaced u q h).put v)))

    pub store_is : store_with s q v ≡ Ok store_after
    store_is =
        ap (λ o. or_trap BadCode (then_option o (λ x. then_option x.elements (λ elements. then_option (with_element_part elements q.path v) (λ changed. Some (with_object s q.object (with_elements x (Some changed)))))))) h.at
        ∙ (ap (λ o. or_trap BadCode (then_option o (λ elements. then_option (with_element_part elements q.path v) (λ changed. Some (with_object s q.object (with_elements h.object (Some changed))))))) h.live
        ∙ ap (λ o. or_trap BadCode (then_option o (λ changed. Some (with_object s q.object (with_elements h.object (Some changed)))))) ((replaced u q h).puts v))

    -- what the machine writes there
    pub written_is : written_at (content_of p.types s) (rows_of p s) (place_word p built s ok q) (bytes_of p.types (addresses p.types s) u v) ≡ Some (content_of p.types store_after)
    written_is =
        let a = addresses p.types s in
        let r = replaced u q h in
        let st = stands (length p.sites) p.types FIRST_ADDRESS s.objects q.object h.object h.at in
        let piece = bytes_of p.types a u v in
        let old = bytes_of p.types a u h.value in
        let n = length piece in
        let row = row_of (length p.sites) p.types st.address h.object in
        let m = content_of p.types s in
        let rows = rows_of p s in
        let long = length-bytes_of p s built a u v hv in
        let long_old = length-bytes_of p s built a u h.value h.is_typed in
        let within = object-within p.types built h.object.elem h.object.count q.path (place u h.offset) h.leads in
        let found = find_row (length p.sites) p.types FIRST_ADDRESS s.objects q.object h.offset h.object h.at (omega (arith, within)) in
        let below : nat_le (st.address + h.offset + n) (table.end_of row) ≡ true = le_true (st.address + h.offset + n) (table.end_of row) (omega (arith, within, long)) in
        let back : st.address + h.offset - st.address ≡ h.offset = omega arith in
        let all = elements_bytes p.types a h.object.elem h.elements in
        let all_is : all ≡ r.before ++ (old ++ r.after) = ap (elements_bytes p.types a h.object.elem) (sym r.same) ∙ r.bytes h.value in
        let spliced_is : spliced all h.offset piece ≡ elements_bytes p.types a h.object.elem (r.put v) = ap (λ l. spliced l h.offset piece) all_is ∙ (splice_is r.before old piece r.after h.offset r.place_is (omega (arith, long, long_old)) ∙ sym (r.bytes v)) in
        ap (λ w. written_at m rows w piece) (place_word_is p built s ok u q h)
        ∙ (ap (λ o. then_option (then_option o (λ r. cond (r.live && nat_le (st.address + h.offset + n) (table.end_of r)) (Some r) None)) (λ r. Rattle.bm_code.specs.Access.changed m r (λ bytes. spliced bytes (st.address + h.offset - r.addr) piece))) found
        ∙ (ap (λ b. then_option (cond (b && nat_le (st.address + h.offset + n) (table.end_of row)) (Some row) None) (λ r. Rattle.bm_code.specs.Access.changed m r (λ bytes. spliced bytes (st.address + h.offset - r.addr) piece))) (live_true p built s ok h.object h.elements h.live)
        ∙ (ap (λ b. then_option (cond b (Some row) None) (λ r. Rattle.bm_code.specs.Access.changed m r (λ bytes. spliced bytes (st.address + h.offset - r.addr) piece))) below
        ∙ (ap (option_map (λ bytes. map.insert m st.address (spliced bytes (st.address + h.offset - st.address) piece))) (get_content (length p.sites) p.types s q.object h.object h.elements h.at h.live)
        ∙ (ap (λ k. Some (map.insert m st.address (spliced all k piece))) back
        ∙ (ap (λ l. Some (map.insert m st.address l)) spliced_is
        ∙ ap Some (insert_content (length p.sites) p.types h.object h.elements (r.put v) h.live s q.object h.at)))))))
