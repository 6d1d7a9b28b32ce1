-- One step of the recursion that reads words.
use Rattle.std.proofs.Common.{◌≡◌, ◌≢◌, ◌∙◌, refl, ap, sym, ℕ, zero, suc, ◌+◌, ◌-◌, Bool, List, [], ◌∷◌, ◌++◌, drop, Option, Some, None, slice_get, append_assoc, ◌<◌, arith}
use Rattle.std.specs.Option.{option_map_or}
use Rattle.lu_spec.specs.Then.{then_option}
use Rattle.c_types.specs.declared.parts.FieldDef.{FieldDef}
use Rattle.c_types.specs.declared.parts.Ty.{Ty}
use Rattle.c_types.specs.declared.parts.Ty.TheVariants as T
use Rattle.c_types.specs.Layout.{shape_of, size_of, field_start, field_end}
use Rattle.c_types.specs.Recursion.{at_type}
use Rattle.lu_image.specs.Names.{entry_at}
use Rattle.lu_image_store.specs.Versions.{Versions, old_types}
use Rattle.lu_scan.specs.declared.types.ArrayType.{ArrayType}
use Rattle.lu_scan.specs.Scan.{words_in, scan_step, no_words, pair_words, fields_words, items_words, struct_pair_words, union_pair_words, array_words, struct_in, union_in, array_in}

-- with a type less of depth
pub words_in-is : (m : Versions) (depth t : ℕ) (ty : Ty) → depth ≢ 0 → slice_get (old_types m).types t ≡ Some ty → (handled : Bool) (new : Option Ty) (bytes : List ℕ) → words_in m depth t handled new bytes ≡ scan_step m (words_in m (depth - 1)) ty handled new bytes
words_in-is m zero t ty deep e handled new bytes = absurd (deep refl)
words_in-is m (suc d) t ty deep e handled new bytes =
    let less : d ≡ suc d - 1 = omega arith in
    ap (λ o. at_type (scan_step m (words_in m d)) no_words o handled new bytes) e ∙ ap (λ n. scan_step m (words_in m n) ty handled new bytes) less

module _ (m : Versions) (depth t : ℕ) (deep : depth ≢ 0) (handled : Bool) (new : Option Ty) (bytes : List ℕ) where
  pub struct_words-is : (old r : ℕ) → slice_get (old_types m).types t ≡ Some (T.Struct old) → Some r ≡ struct_in new → words_in m depth t handled new bytes ≡ struct_pair_words m (words_in m (depth - 1)) handled old bytes r
  struct_words-is old r e q =
      words_in-is m depth t (T.Struct old) deep e handled new bytes ∙ ap (λ o. option_map_or (struct_pair_words m (words_in m (depth - 1)) handled old bytes) o []) (sym q)

  pub struct_none-is : (old : ℕ) → slice_get (old_types m).types t ≡ Some (T.Struct old) → None ≡ struct_in new → words_in m depth t handled new bytes ≡ []
  struct_none-is old e q =
      words_in-is m depth t (T.Struct old) deep e handled new bytes ∙ ap (λ o. option_map_or (struct_pair_words m (words_in m (depth - 1)) handled old bytes) o []) (sym q)

  pub union_words-is : (old r : ℕ) → slice_get (old_types m).types t ≡ Some (T.Union old) → Some r ≡ union_in new → words_in m depth t handled new bytes ≡ union_pair_words m (λ u. words_in m (depth - 1) u handled) old bytes r
  union_words-is old r e q =
      words_in-is m depth t (T.Union old) deep e handled new bytes ∙ ap (λ o. option_map_or (union_pair_words m (λ u. words_in m (depth - 1) u handled) old bytes) o []) (sym q)

  pub union_none-is : (old : ℕ) → slice_get (old_types m).types t ≡ Some (T.Union old) → None ≡ union_in new → words_in m depth t handled new bytes ≡ []
  union_none-is old e q =
      words_in-is m depth t (T.Union old) deep e handled new bytes ∙ ap (λ o. option_map_or (union_pair_words m (λ u. words_in m (depth - 1) u handled) old bytes) o []) (sym q)

  pub array_words-is : (elem count : ℕ) (a : ArrayType) → slice_get (old_types m).types t ≡ Some (T.Array elem count) → Some a ≡ array_in new → words_in m depth t handled new bytes ≡ array_words m (words_in m (depth - 1) elem handled) elem count bytes a
  array_words-is elem count a e q =
      words_in-is m depth t (T.Array elem count) deep e handled new bytes ∙ ap (λ o. option_map_or (array_words m (words_in m (depth - 1) elem handled) elem count bytes) o []) (sym q)

  pub array_none-is : (elem count : ℕ) → slice_get (old_types m).types t ≡ Some (T.Array elem count) → None ≡ array_in new → words_in m depth t handled new bytes ≡ []
  array_none-is elem count e q =
      words_in-is m depth t (T.Array elem count) deep e handled new bytes ∙ ap (λ o. option_map_or (array_words m (words_in m (depth - 1) elem handled) elem count bytes) o []) (sym q)

-- one more field
module _ (m : Versions) (part : ℕ → Option Ty → List ℕ → List ℕ) (to : List FieldDef) (bytes : List ℕ) where
  abbrev words : List FieldDef → List (Option ℕ) → ℕ → List ℕ
  words = fields_words m part to bytes

  no_pairs : (fs : List FieldDef) (end : ℕ) → [] ≡ words fs [] end
  no_pairs [] end = refl
  no_pairs (f ∷ fs) end = refl

  dropped : (k : ℕ) (js : List (Option ℕ)) → js ≡ [] → drop k js ≡ []
  dropped zero js e = e
  dropped (suc k) js e = ap (drop (suc k)) e

  next_field : (fs : List FieldDef) (js : List (Option ℕ)) (k : ℕ) (f : FieldDef) (end : ℕ) → slice_get fs k ≡ Some f → words (drop k fs) (drop k js) end ≡ pair_words m (part f.ty) (drop (field_start (shape_of (old_types m)) end f) bytes) (then_option (entry_at js k) (slice_get to)) ++ words (drop (suc k) fs) (drop (suc k) js) (field_end (shape_of (old_types m)) end f)
  next_field [] js k f end e = absurd (cc)
  next_field (g ∷ fs) [] zero f end e = no_pairs fs (field_end (shape_of (old_types m)) end f)
  next_field (g ∷ fs) (j ∷ js) zero f end e =
      let same : g ≡ f = cc in
      ap (λ h. pair_words m (part h.ty) (drop (field_start (shape_of (old_types m)) end h) bytes) (then_option j (slice_get to)) ++ words fs js (field_end (shape_of (old_types m)) end h)) same
  next_field (g ∷ fs) [] (suc k) f end e =
      sym (no_pairs (drop k fs) end) ∙ no_pairs (drop (suc k) fs) (field_end (shape_of (old_types m)) end f)
  next_field (g ∷ fs) (j ∷ js) (suc k) f end e = next_field fs js k f end e

  pub fields_words-next : (fs : List FieldDef) (js : List (Option ℕ)) (k : ℕ) (f : FieldDef) (end : ℕ) → slice_get fs k ≡ Some f → words (drop k fs) (drop k js) end ≡ pair_words m (part f.ty) (drop (field_start (shape_of (old_types m)) end f) bytes) (then_option (entry_at js k) (slice_get to)) ++ words (drop (k + 1) fs) (drop (k + 1) js) (field_end (shape_of (old_types m)) end f)
  fields_words-next fs js k f end e =
      let more : suc k ≡ k + 1 = omega arith in
      next_field fs js k f end e ∙ ap (λ n. pair_words m (part f.ty) (drop (field_start (shape_of (old_types m)) end f) bytes) (then_option (entry_at js k) (slice_get to)) ++ words (drop n fs) (drop n js) (field_end (shape_of (old_types m)) end f)) more

  -- no field is left
  pub fields_words-end : (fs : List FieldDef) (js : List (Option ℕ)) (k end : ℕ) → slice_get fs k ≡ None → words (drop k fs) (drop k js) end ≡ []
  fields_words-end [] js zero end e = refl
  fields_words-end [] js (suc k) end e = refl
  fields_words-end (f ∷ fs) js zero end e = absurd (cc)
  fields_words-end (f ∷ fs) [] (suc k) end e = sym (no_pairs (drop k fs) end)
  fields_words-end (f ∷ fs) (j ∷ js) (suc k) end e = fields_words-end fs js k end e

  pub field_read : (all now next : List ℕ) (fs : List FieldDef) (js : List (Option ℕ)) (k : ℕ) (f : FieldDef) (end start end' : ℕ) (pair : Option FieldDef) (body : List ℕ) → slice_get fs k ≡ Some f → start ≡ field_start (shape_of (old_types m)) end f → end' ≡ start + size_of (old_types m) f.ty → pair ≡ then_option (entry_at js k) (slice_get to) → body ≡ drop start bytes → all ≡ now ++ words (drop k fs) (drop k js) end → next ≡ now ++ pair_words m (part f.ty) body pair → all ≡ next ++ words (drop (k + 1) fs) (drop (k + 1) js) end'
  field_read all now next fs js k f end start end' pair body at begin stop paired read kept put =
      let later : ℕ → List ℕ = λ n. words (drop (k + 1) fs) (drop (k + 1) js) n in
      let here : ℕ → Option FieldDef → List ℕ = λ n o. pair_words m (part f.ty) (drop n bytes) o in
      let begun = field_start (shape_of (old_types m)) end f in
      let value : pair_words m (part f.ty) body pair ≡ here begun (then_option (entry_at js k) (slice_get to)) = ap (λ b. pair_words m (part f.ty) b pair) read ∙ (ap (λ n. here n pair) begin ∙ ap (here begun) paired) in
      let ended : end' ≡ field_end (shape_of (old_types m)) end f = stop ∙ ap (λ n. n + size_of (old_types m) f.ty) begin in
      kept ∙ (ap (λ l. now ++ l) (fields_words-next fs js k f end at)
      ∙ (sym (append_assoc now (here begun (then_option (entry_at js k) (slice_get to))) (later (field_end (shape_of (old_types m)) end f)))
      ∙ (ap (λ l. (now ++ l) ++ later (field_end (shape_of (old_types m)) end f)) (sym value)
      ∙ (ap (λ l. l ++ later (field_end (shape_of (old_types m)) end f)) (sym put) ∙ ap (λ n. next ++ later n) (sym ended)))))

-- one more item
pub item_read : (item : List ℕ → List ℕ) (size count i : ℕ) (all now next rest after : List ℕ) → i < count → all ≡ now ++ items_words item size (count - i) rest → next ≡ now ++ item rest → after ≡ drop size rest → all ≡ next ++ items_words item size (count - (i + 1)) after
item_read item size count i all now next rest after inside kept put read =
    let left : count - i ≡ suc (count - (i + 1)) = omega (arith, inside) in
    let later : List ℕ → List ℕ = items_words item size (count - (i + 1)) in
    kept ∙ (ap (λ n. now ++ items_words item size n rest) left
    ∙ (sym (append_assoc now (item rest) (later (drop size rest)))
    ∙ (ap (λ l. l ++ later (drop size rest)) (sym put) ∙ ap (λ l. next ++ later l) (sym read))))
