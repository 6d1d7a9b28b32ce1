-- A walk by bytes and rows is one over the store for which they stand.
use Rattle.std.proofs.Common.{◌≡◌, ◌∙◌, refl, ap, sym, subst, Bool, true, false, ◌&&◌, ℕ, ◌<◌, List, [], length, Option, Some, None, unwrap_or, slice_get, if◌then◌else◌, arith}
use Rattle.std.specs.Prelude.{filter, is_some}
use Rattle.std.specs.FinMap.{get}
use Rattle.std.specs.List.{range_with_len}
use Rattle.std.specs.Option.{option_map_or}
use Rattle.std.proofs.lemmas.Option.{slice_get_within}
use Rattle.std.proofs.lemmas.List.Elements.{filter_agree}
use Rattle.lu_base.specs.declared.limits.TheConstants.{FIRST_ADDRESS}
use Rattle.src_tree.specs.declared.value.Object.{Object}
use Rattle.src_tree.specs.declared.value.Store.{Store}
use Rattle.src_tree.specs.declared.value.Value.{Value}
use Rattle.src_tree.specs.declared.program.Program.{Program}
use Rattle.src_meaning.specs.Objects.{addresses, is_live, is_global, is_live_heap}
use Rattle.src_meaning.specs.ValueBytes.{elements_bytes}
use Rattle.bm_mem.specs.Content.{Content}
use Rattle.bm_objects.specs.declared.row.Row.{Row}
use Rattle.cg_state.specs.Represents.{row_of, rows_of, content_of}
use Rattle.cg_state.proofs.Memory.{stands, get_content}
use Rattle.lu_image.specs.Pairs.{Pairs}
use Rattle.lu_image_store.specs.Versions.{Versions, paired_global}
use Rattle.lu_image_store.specs.Carried.{carried, carried_by}
use Rattle.lu_image_store.specs.Needed.{graph_of, is_object, is_in}
use Rattle.lu_mark.specs.Walks.{AreRoots, AreNext}
use Rattle.lu_mark.proofs.Members.{is_in-filter, in_range, from_range}
use Rattle.lu_walk.specs.Rows.{is_root_row, root_rows, targets_of}
use Rattle.lu_walk.specs.ObjectWords.{object_words, row_targets, targets_at}
use Rattle.lu_walk.specs.Stands.{StandFor}
use Rattle.lu_walk.proofs.StoreRows.{are_words, rows-length, no_row, roots_alike, targets_are}
use Rattle.lu_walk.proofs.StoreWords.{object_turn}

and_first : (a b : Bool) → a && b ≡ true → a ≡ true
and_first true b e = refl
and_first false b e = absurd (cc)

and_second : (a b : Bool) → a && b ≡ true → b ≡ true
and_second true b e = e
and_second false b e = absurd (cc)

object_within : (s : Store) (test : Object → Bool) (k : ℕ) → is_object s test k ≡ true → k < length s.objects
object_within s test k h = by (slice_get s.objects k) refl h
  where
    by : (o : Option Object) → slice_get s.objects k ≡ o → option_map_or test o false ≡ true → k < length s.objects
    by None e h = absurd (cc)
    by (Some x) e h = slice_get_within s.objects k x e

-- the carried objects that may follow are the next ones
pub next_are : (m : Versions) (s : Store) (k : ℕ) → AreNext (graph_of m s) k (filter (is_object s is_live_heap) (carried m s k))
next_are m s k = record {
  sound = λ x h.
      let both : is_object s is_live_heap x && is_in (carried m s k) x ≡ true = sym (is_in-filter (is_object s is_live_heap) (carried m s k) x) ∙ h in
      let may = and_first (is_object s is_live_heap x) (is_in (carried m s k) x) both in
      (and_second (is_object s is_live_heap x) (is_in (carried m s k) x) both, object_within s is_live_heap x may, may);
  whole = λ x f. is_in-filter (is_object s is_live_heap) (carried m s k) x ∙ all (is_object s is_live_heap x) (is_in (carried m s k) x) f.2 f.0;
}
  where
    all : (a b : Bool) → a ≡ true → b ≡ true → a && b ≡ true
    all a b e h = cc

module _ (m : Versions) (old new : Program) (s : Store) (pairs : Pairs old new m.pairing) where
  module _ (content : Content) (rows : List Row) (stand : StandFor content rows old s) where
    abbrev roots : ℕ → Bool
    roots = λ k. is_object s (λ x. is_global x.kind && is_some (paired_global m k)) k

    roots_are : root_rows m rows ≡ filter roots (range_with_len 0 (length s.objects))
    roots_are =
        ap (root_rows m) stand.table
        ∙ (filter_agree (is_root_row m (rows_of old s)) roots (roots_alike old s m) (range_with_len 0 (length (rows_of old s)))
        ∙ ap (λ n. filter roots (range_with_len 0 n)) (rows-length (length old.sites) old.types FIRST_ADDRESS s.objects))

    pub size_is : length rows ≡ length s.objects
    size_is = ap length stand.table ∙ rows-length (length old.sites) old.types FIRST_ADDRESS s.objects

    -- the rows of paired globals are the roots
    pub are_roots : AreRoots (graph_of m s) (root_rows m rows)
    are_roots = record {
      sound = λ x h.
          let both : roots x && is_in (range_with_len 0 (length s.objects)) x ≡ true = sym (is_in-filter roots (range_with_len 0 (length s.objects)) x) ∙ (sym (ap (λ xs. is_in xs x) roots_are) ∙ h) in
          let low = from_range (length s.objects) 0 x (and_second (roots x) (is_in (range_with_len 0 (length s.objects)) x) both) in
          (omega (arith, low), and_first (roots x) (is_in (range_with_len 0 (length s.objects)) x) both);
      whole = λ x r.
          let there = in_range (length s.objects) 0 x (omega arith) (omega (arith, r.0)) in
          ap (λ xs. is_in xs x) roots_are ∙ (is_in-filter roots (range_with_len 0 (length s.objects)) x ∙ all (roots x) (is_in (range_with_len 0 (length s.objects)) x) r.1 there);
    }
      where
        all : (a b : Bool) → a ≡ true → b ≡ true → a && b ≡ true
        all a b e h = cc

    abbrev targets : ℕ → Row → List ℕ
    targets k = row_targets m (content_of old.types s) (rows_of old s) k

    found_in : (k : ℕ) (x : Object) → slice_get s.objects k ≡ Some x → (vs : Option (List Value)) → x.elements ≡ vs → targets_at m (content_of old.types s) (rows_of old s) k ≡ filter (is_object s is_live_heap) (carried m s k)
    found_in k x e None dead =
        let st = stands (length old.sites) old.types FIRST_ADDRESS s.objects k x e in
        let row = row_of (length old.sites) old.types st.address x in
        let gone : is_live x ≡ false = ap (λ vs. is_live (record x { elements = vs })) dead in
        ap (λ o. option_map_or (targets k) o []) st.row
        ∙ (ap (λ b. if b then targets_of (rows_of old s) (object_words m k row (unwrap_or (get (content_of old.types s) st.address) [])) else []) gone
        ∙ sym (ap (λ o. filter (is_object s is_live_heap) (option_map_or (carried_by m k) o [])) e ∙ ap (λ vs. filter (is_object s is_live_heap) (carried_by m k (record x { elements = vs }))) dead))
    found_in k x e (Some vs) live =
        let st = stands (length old.sites) old.types FIRST_ADDRESS s.objects k x e in
        let row = row_of (length old.sites) old.types st.address x in
        let alive : is_live x ≡ true = ap (λ vs. is_live (record x { elements = vs })) live in
        let bytes : get (content_of old.types s) st.address ≡ Some (elements_bytes old.types (addresses old.types s) x.elem vs) = get_content (length old.sites) old.types s k x vs e live in
        let fit = are_words old pairs.old_valid.built s stand.store in
        ap (λ o. option_map_or (targets k) o []) st.row
        ∙ (ap (λ b. if b then targets_of (rows_of old s) (object_words m k row (unwrap_or (get (content_of old.types s) st.address) [])) else []) alive
        ∙ (ap (λ o. targets_of (rows_of old s) (object_words m k row (unwrap_or o []))) bytes
        ∙ targets_are old s pairs.old_valid.built (object_words m k row (elements_bytes old.types (addresses old.types s) x.elem vs)) (carried m s k) (object_turn m old new s pairs stand.store fit k st.address x vs e live)))

    -- what is found by bytes and rows
    found_at : (k : ℕ) (o : Option Object) → slice_get s.objects k ≡ o → targets_at m (content_of old.types s) (rows_of old s) k ≡ filter (is_object s is_live_heap) (carried m s k)
    found_at k None e =
        ap (λ o. option_map_or (row_targets m (content_of old.types s) (rows_of old s) k) o []) (no_row (length old.sites) old.types FIRST_ADDRESS s.objects k e)
        ∙ sym (ap (λ o. filter (is_object s is_live_heap) (option_map_or (carried_by m k) o [])) e)
    found_at k (Some x) e = found_in k x e x.elements refl

    pub targets_is : (k : ℕ) → targets_at m content rows k ≡ filter (is_object s is_live_heap) (carried m s k)
    targets_is k =
        ap (λ c. targets_at m c rows k) stand.bytes ∙ (ap (λ r. targets_at m (content_of old.types s) r k) stand.table ∙ found_at k (slice_get s.objects k) refl)

    pub are_next : (k : ℕ) → AreNext (graph_of m s) k (targets_at m content rows k)
    are_next k = subst (AreNext (graph_of m s) k) (sym (targets_is k)) (next_are m s k)
