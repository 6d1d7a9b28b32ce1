-- What is read stands at the front of the bytes.
use Rattle.std.proofs.Common.{◌≡◌, ◌∙◌, ap, sym, refl, subst, ℕ, zero, suc, ◌^◌, ◌<◌, ◌≤◌, Bool, true, false, cond, ltb, leb, List, [], ◌∷◌, ◌++◌, length, take, drop, Result, Ok, Err, append_assoc, append-nil, arith}
use Rattle.std.specs.List.{flat_map}
use Rattle.std.specs.Int.{w32, from_le_bytes}
use Rattle.std.proofs.lemmas.Bool.{ltb-true, ltb-false, leb-true}
use Rattle.std.proofs.lemmas.List.{take-append-drop, length-take-le}
use Rattle.cg_image.specs.Image.{number_bytes, list_bytes, text_bytes}
use Rattle.cg_image.specs.Short.{IsCounted}
use Rattle.cg_image_read.specs.declared.error.ImageError.{ImageError}
use Rattle.cg_image_read.specs.declared.error.ImageError.TheVariants.{Truncated, Table}
use Rattle.cg_image_read.specs.Answer.{◌>>=◌}
use Rattle.cg_image_read.specs.Fields.{Item, place, bytes_at, number_at, ranged_at, entry_at, text_at, items_at, limited_at}
use Rattle.cg_image_read.specs.HasImage.{EachBehind}
use Rattle.cg_image_read.proofs.Bytes.{IsBytes, IsBytes-drop, Takes, Takes-then, takes_4}

-- a part that was read, where what goes on from it gave something
pub part_ok : {A B : Type 0} (r : Result A ImageError) (f : A → Result B ImageError) (y : B) → (r >>= f) ≡ Ok y → (x : A) × (r ≡ Ok x) × (f x ≡ Ok y)
part_ok (Ok x) f y e = (x, refl, e)
part_ok (Err e) f y h = absurd cc

pub part_then : {A B C : Type 0} (r : Result A ImageError) (f : A → Result B ImageError) (y : B) → (r >>= f) ≡ Ok y → ((x : A) → r ≡ Ok x → f x ≡ Ok y → C) → C
part_then (Ok x) f y e k = k x refl e
part_then (Err e) f y h k = absurd cc

pub same_ok : {A : Type 0} (r : Result A ImageError) (x y : A) → r ≡ Ok x → r ≡ Ok y → x ≡ y
same_ok r x y e f = cc

pub tested : {A : Type 0} (b : Bool) (e : ImageError) (r : Result A ImageError) (y : A) → cond b r (Err e) ≡ Ok y → (b ≡ true) × (r ≡ Ok y)
tested true e r y h = (refl, h)
tested false e r y h = absurd cc

pub not_tested : {A : Type 0} (b : Bool) (e : ImageError) (r : Result A ImageError) (y : A) → cond b (Err e) r ≡ Ok y → (b ≡ false) × (r ≡ Ok y)
not_tested true e r y h = absurd cc
not_tested false e r y h = (refl, h)

pub number_stands : (bytes : List ℕ) (r : ℕ × List ℕ) → IsBytes bytes → number_at bytes ≡ Ok r → Takes bytes (number_bytes r.0) r.1 × (r.0 < 2 ^ 32)
number_stands bytes r fits e =
    let n : ℕ × List ℕ = (from_le_bytes w32 (take 4 bytes), drop 4 bytes) in
    let g = not_tested (ltb (length bytes) 4) Truncated (Ok n) r e in
    subst (λ (y : ℕ × List ℕ). Takes bytes (number_bytes y.0) y.1 × (y.0 < 2 ^ 32)) (same_ok (Ok n) n r refl g.1) (takes_4 bytes fits (ltb-false _ _ g.0))

-- a number that is read in its range
pub record InRange (low high : ℕ) (bytes : List ℕ) (r : ℕ × List ℕ) : Type 0 where
  pub takes : Takes bytes (number_bytes r.0) r.1
  pub small : r.0 < 2 ^ 32
  pub least : low ≤ r.0
  pub most : r.0 ≤ high

pub ranged_stands : (low high at : ℕ) (bytes : List ℕ) (r : ℕ × List ℕ) → IsBytes bytes → ranged_at low high at bytes ≡ Ok r → InRange low high bytes r
unfolding ranged_at
ranged_stands low high at bytes r fits e =
    let n = part_ok (number_at bytes) (λ n. cond (leb low n.0) (cond (leb n.0 high) (Ok n) (Err (Table at))) (Err (Table at))) r e in
    let g = tested (leb low n.0.0) (Table at) (cond (leb n.0.0 high) (Ok n.0) (Err (Table at))) r n.2 in
    let h = tested (leb n.0.0 high) (Table at) (Ok n.0) r g.1 in
    let s = number_stands bytes n.0 fits n.1 in
    subst (InRange low high bytes) (same_ok (Ok n.0) n.0 r refl h.1) (record { takes = s.0; small = s.1; least = leb-true _ _ g.0; most = leb-true _ _ h.0 })

pub entry_stands : (count at : ℕ) (bytes : List ℕ) (r : ℕ × List ℕ) → IsBytes bytes → entry_at count at bytes ≡ Ok r → Takes bytes (number_bytes r.0) r.1 × (r.0 < count)
unfolding entry_at
entry_stands count at bytes r fits e =
    let n = part_ok (number_at bytes) (λ n. cond (ltb n.0 count) (Ok n) (Err (Table at))) r e in
    let g = tested (ltb n.0.0 count) (Table at) (Ok n.0) r n.2 in
    let s = number_stands bytes n.0 fits n.1 in
    subst (λ (y : ℕ × List ℕ). Takes bytes (number_bytes y.0) y.1 × (y.0 < count)) (same_ok (Ok n.0) n.0 r refl g.1) (s.0, ltb-true _ _ g.0)

pub bytes_stand : (count : ℕ) (bytes : List ℕ) (r : List ℕ × List ℕ) → IsBytes bytes → bytes_at count bytes ≡ Ok r → Takes bytes r.0 r.1 × (length r.0 ≡ count)
bytes_stand count bytes r fits e =
    let n : List ℕ × List ℕ = (take count bytes, drop count bytes) in
    let g = not_tested (ltb (length bytes) count) Truncated (Ok n) r e in
    subst (λ (y : List ℕ × List ℕ). Takes bytes y.0 y.1 × (length y.0 ≡ count)) (same_ok (Ok n) n r refl g.1) (record { parts = sym (take-append-drop count bytes); fits = IsBytes-drop count bytes fits }, length-take-le count bytes (ltb-false _ _ g.0))

pub text_stands : (bytes : List ℕ) (r : List ℕ × List ℕ) → IsBytes bytes → text_at bytes ≡ Ok r → Takes bytes (text_bytes r.0) r.1 × IsCounted r.0
unfolding text_at
text_stands bytes r fits e =
    let n = part_ok (number_at bytes) (λ n. bytes_at n.0 n.1) r e in
    let s = number_stands bytes n.0 fits n.1 in
    let t = bytes_stand n.0.0 n.0.1 r s.0.fits n.2 in
    let takes = subst (λ k. Takes bytes (number_bytes k) n.0.1) (sym t.1) s.0 in (Takes-then bytes (number_bytes (length r.0)) n.0.1 r.0 r.1 takes t.0, omega (arith, s.1, t.1))

-- what an item's reader gives stands at the front, and is good behind the items before it
abbrev pub Stands : {A : Type 0} → (A → List ℕ) → (List A → A → Type 0) → Item A → Type 0
Stands spell Good item =
    (before : List _) (at : ℕ) (bytes : List ℕ) (r : _ × List ℕ) → IsBytes bytes → item before at bytes ≡ Ok r → Takes bytes (spell r.0) r.1 × Good before r.0

-- so many items that were read behind others
pub record Found {A : Type 0} (spell : A → List ℕ) (Good : List A → A → Type 0) (before : List A) (count : ℕ) (bytes : List ℕ) (r : List A × List ℕ) : Type 0 where
  pub more : List A
  pub is : r.0 ≡ before ++ more
  pub long : length more ≡ count
  pub takes : Takes bytes (flat_map spell more) r.1
  pub good : EachBehind Good before more

-- a list that was read
pub record Listed {A : Type 0} (spell : A → List ℕ) (Good : List A → A → Type 0) (count : ℕ) (bytes : List ℕ) (r : List A × List ℕ) : Type 0 where
  pub long : length r.0 ≡ count
  pub takes : Takes bytes (list_bytes spell r.0) r.1
  pub counted : IsCounted r.0
  pub good : EachBehind Good [] r.0

module _ {A : Type 0} (spell : A → List ℕ) (Good : List A → A → Type 0) (item : Item A) (stands : Stands spell Good item) (end : ℕ) where
  pub items_stand : (before : List A) (count : ℕ) (bytes : List ℕ) (r : List A × List ℕ) → IsBytes bytes → items_at item end before count bytes ≡ Ok r → Found spell Good before count bytes r
  unfolding items_at
  items_stand before zero bytes r fits e =
      subst (Found spell Good before zero bytes) (same_ok (Ok (before, bytes)) (before, bytes) r refl e) (record { more = []; is = sym (append-nil before); long = refl; takes = record { parts = refl; fits = fits }; good = tt })
  items_stand before (suc n) bytes r fits e =
      let next = part_ok (item before (place end bytes) bytes) (λ next. items_at item end (before ++ next.0 ∷ []) n next.1) r e in
      let s = stands before (place end bytes) bytes next.0 fits next.1 in
      let f = items_stand (before ++ next.0.0 ∷ []) n next.0.1 r s.0.fits next.2 in
      record {
        more = next.0.0 ∷ f.more;
        is = f.is ∙ append_assoc before (next.0.0 ∷ []) f.more;
        long = ap suc f.long;
        takes = Takes-then bytes (spell next.0.0) next.0.1 (flat_map spell f.more) r.1 s.0 f.takes;
        good = (s.1, f.good);
      }

  pub list_stands : (bytes : List ℕ) (n : ℕ × List ℕ) (r : List A × List ℕ) → IsBytes bytes → number_at bytes ≡ Ok n → items_at item end [] n.0 n.1 ≡ Ok r → Listed spell Good n.0 bytes r
  list_stands bytes n r fits e f =
      let s = number_stands bytes n fits e in
      let found = items_stand [] n.0 n.1 r s.0.fits f in
      let same : found.more ≡ r.0 = sym found.is in
      let long : length r.0 ≡ n.0 = ap length found.is ∙ found.long in
      let number = subst (λ k. Takes bytes (number_bytes k) n.1) (sym long) s.0 in
      let items = subst (λ (xs : List A). Takes n.1 (flat_map spell xs) r.1) same found.takes in
      record {
        long = long;
        takes = Takes-then bytes (number_bytes (length r.0)) n.1 (flat_map spell r.0) r.1 number items;
        counted = omega (arith, long, s.1);
        good = subst (EachBehind Good []) same found.good;
      }

  pub limit_kept : (limit count : ℕ) (bytes : List ℕ) (r : List A × List ℕ) → limited_at item limit end count bytes ≡ Ok r → (count ≤ limit) × (items_at item end [] count bytes ≡ Ok r)
  unfolding limited_at
  limit_kept limit count bytes r e = by (leb count limit) refl
    where
      by : (b : Bool) → leb count limit ≡ b → (count ≤ limit) × (items_at item end [] count bytes ≡ Ok r)
      by true h = (leb-true _ _ h, sym (ap (λ b. cond b (items_at item end [] count bytes) (items_at item end [] limit bytes >>= λ x. Err (Table (place end x.1)))) h) ∙ e)
      by false h =
          let past = sym (ap (λ b. cond b (items_at item end [] count bytes) (items_at item end [] limit bytes >>= λ x. Err (Table (place end x.1)))) h) ∙ e in
          let x = part_ok (items_at item end [] limit bytes) (λ x. Err (Table (place end x.1))) r past in
          let no = x.2 in
          absurd cc

  pub limited_stands : (limit : ℕ) (bytes : List ℕ) (n : ℕ × List ℕ) (r : List A × List ℕ) → IsBytes bytes → number_at bytes ≡ Ok n → limited_at item limit end n.0 n.1 ≡ Ok r → Listed spell Good n.0 bytes r × (length r.0 ≤ limit)
  limited_stands limit bytes n r fits e f =
      let k = limit_kept limit n.0 n.1 r f in
      let s = number_stands bytes n fits e in
      let found = items_stand [] n.0 n.1 r s.0.fits k.1 in
      let long : length r.0 ≡ n.0 = ap length found.is ∙ found.long in (list_stands bytes n r fits e k.1, omega (arith, long, k.0))

-- a list whose number of items is in a range
pub record Short {A : Type 0} (spell : A → List ℕ) (Good : List A → A → Type 0) (high : ℕ) (bytes : List ℕ) (r : List A × List ℕ) : Type 0 where
  pub takes : Takes bytes (list_bytes spell r.0) r.1
  pub most : length r.0 ≤ high
  pub good : EachBehind Good [] r.0

pub ranged_list : {A : Type 0} (spell : A → List ℕ) (Good : List A → A → Type 0) (item : Item A) → Stands spell Good item → (end high at : ℕ) (bytes : List ℕ) (n : ℕ × List ℕ) (r : List A × List ℕ)
    → IsBytes bytes → ranged_at 0 high at bytes ≡ Ok n → items_at item end [] n.0 n.1 ≡ Ok r → Short spell Good high bytes r
ranged_list spell Good item stands end high at bytes n r fits e f =
    let s = ranged_stands 0 high at bytes n fits e in
    let found = items_stand spell Good item stands end [] n.0 n.1 r s.takes.fits f in
    let same : found.more ≡ r.0 = sym found.is in
    let long : length r.0 ≡ n.0 = ap length found.is ∙ found.long in
    let number = subst (λ k. Takes bytes (number_bytes k) n.1) (sym long) s.takes in
    let items = subst (λ xs. Takes n.1 (flat_map spell xs) r.1) same found.takes in
    record {
      takes = Takes-then bytes (number_bytes (length r.0)) n.1 (flat_map spell r.0) r.1 number items;
      most = omega (arith, long, s.most);
      good = subst (EachBehind Good []) same found.good;
    }
