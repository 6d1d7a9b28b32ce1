-- Zero values by their types, and lists of values that begin with written ones.
use Rattle.std.proofs.Common.{◌≡◌, ◌∙◌, refl, sym, ap, subst, ℕ, zero, suc, ◌+◌, ◌-◌, ◌<◌, ◌≤◌, List, [], ◌∷◌, ◌++◌, length, take, drop, get_or, Option, Some, None, slice_get, append_assoc, length-append, length-drop, arith}
use Rattle.std.specs.Prelude.{map, replicate, Contains, IfSome}
use Rattle.std.proofs.lemmas.List.{append-nil}
use Rattle.std.proofs.lemmas.Option.{slice_get_within}
use Rattle.c_types.specs.declared.parts.Parts.{Parts}
use Rattle.c_types.specs.declared.parts.FieldDef.{FieldDef}
use Rattle.c_types.specs.declared.parts.Ty.{Ty}
use Rattle.c_types.specs.declared.parts.Ty.TheVariants as T
use Rattle.c_types.specs.Tables.{fields_of, members_of}
use Rattle.c_types.specs.Chain.{field_types, held_in}
use Rattle.c_types.specs.Recursion.{at_type, by_fuel, depth, IsLocal}
use Rattle.c_types.specs.Refusal.{IsBuilt}
use Rattle.c_types.proofs.Settled.{by_type-is, depth-falls}
use Rattle.c_types.proofs.ShapeLaws.{settled}
use Rattle.src_tree.specs.declared.value.Value.{Value, Null, Struct, Array, Union}
use Rattle.src_tree.specs.declared.program.Init.{Init, List as Init_list}
use Rattle.src_tree.specs.declared.program.Init.TheBlock as I
use Rattle.src_meaning.specs.Paths.{first_member, zero_step, zero_of}
use Rattle.src_meaning.specs.Expression.{Scope}
use Rattle.src_meaning.specs.Initial.{item_types_in, item_types, composed, spread, initial_value, initial_items}
use Rattle.src_meaning.proofs.LayoutLengths.{head_in, tail_in, field_in}

fields_same : (f g : ℕ → Value) (fs : List FieldDef) → ((u : ℕ) → Contains (field_types fs) u → f u ≡ g u) → map (λ (d : FieldDef). f d.ty) fs ≡ map (λ (d : FieldDef). g d.ty) fs
fields_same f g [] same = refl
fields_same f g (d ∷ fs) same =
    let head : f d.ty ≡ g d.ty = same d.ty (head_in d fs) in
    let tail = fields_same f g fs (λ u c. same u (tail_in d fs u c)) in cc

first_same : (f g : ℕ → Value) (fs : List FieldDef) → ((u : ℕ) → Contains (field_types fs) u → f u ≡ g u) → first_member f fs ≡ first_member g fs
first_same f g [] same = refl
first_same f g (d ∷ fs) same = ap (Union 0) (same d.ty (head_in d fs))

zero_step-local : (p : Parts) → IsLocal p (zero_step p)
zero_step-local p f g (T.Int k) same = refl
zero_step-local p f g (T.Pointer t) same = refl
zero_step-local p f g T.VoidPointer same = refl
zero_step-local p f g (T.Function h) same = refl
zero_step-local p f g (T.Struct s) same = ap Struct (fields_same f g (fields_of p s) same)
zero_step-local p f g (T.Union u) same = first_same f g (members_of p u) same
zero_step-local p f g (T.Array t n) same = ap (λ v. Array (replicate n v)) (same t (0, omega arith, refl))

map-types : (f : ℕ → Value) (fs : List FieldDef) → map (λ (d : FieldDef). f d.ty) fs ≡ map f (map (λ (d : FieldDef). d.ty) fs)
map-types f [] = refl
map-types f (d ∷ fs) = ap (λ vs. f d.ty ∷ vs) (map-types f fs)

map-replicate : (f : ℕ → Value) (n t : ℕ) → replicate n (f t) ≡ map f (replicate n t)
map-replicate f zero t = refl
map-replicate f (suc n) t = ap (λ vs. f t ∷ vs) (map-replicate f n t)

module _ (p : Parts) (built : IsBuilt p) (t : ℕ) where
  pub zero_of-is : (ty : Ty) → slice_get p.types t ≡ Some ty → zero_of p t ≡ zero_step p (zero_of p) ty
  zero_of-is ty e =
      by_type-is p (zero_step p) Null (zero_step-local p) t (settled p built t (slice_get_within p.types t ty e)) ∙ ap (at_type (zero_step p (zero_of p)) Null) e

  pub zero_of-none : slice_get p.types t ≡ None → Null ≡ zero_of p t
  zero_of-none e = by_length (length p.types)
    where
      by_length : (n : ℕ) → Null ≡ by_fuel p (zero_step p) Null n t
      by_length zero = refl
      by_length (suc n) = ap (at_type (zero_step p (by_fuel p (zero_step p) Null n)) Null) (sym e)

  pub zero_struct : (s : ℕ) (vs : List Value) → slice_get p.types t ≡ Some (T.Struct s) → vs ≡ [] ++ map (zero_of p) (drop 0 (item_types p t)) → Struct vs ≡ zero_of p t
  zero_struct s vs e h =
      ap Struct (h ∙ ap (λ o. map (zero_of p) (item_types_in p o)) e ∙ sym (map-types (zero_of p) (fields_of p s))) ∙ sym (zero_of-is (T.Struct s) e)

  pub zero_array : (u n : ℕ) (vs : List Value) → slice_get p.types t ≡ Some (T.Array u n) → vs ≡ [] ++ map (zero_of p) (drop 0 (item_types p t)) → Array vs ≡ zero_of p t
  zero_array u n vs e h =
      ap Array (h ∙ ap (λ o. map (zero_of p) (item_types_in p o)) e ∙ sym (map-replicate (zero_of p) n u)) ∙ sym (zero_of-is (T.Array u n) e)

take-more : {A : Type 0} (xs : List A) (j : ℕ) (x : A) → slice_get xs j ≡ Some x → take (suc j) xs ≡ take j xs ++ x ∷ []
take-more [] j x e = cc
take-more (y ∷ xs) zero x e = let q : y ≡ x = cc in ap (λ z. z ∷ []) q
take-more (y ∷ xs) (suc j) x e = ap (λ ys. y ∷ ys) (take-more xs j x e)

get-drop : {A : Type 0} (xs : List A) (k j : ℕ) → slice_get (drop k xs) j ≡ slice_get xs (k + j)
get-drop xs zero j = ap (slice_get xs) (omega arith)
get-drop [] (suc k) j = refl
get-drop (x ∷ xs) (suc k) j = let e : suc (k + j) ≡ suc k + j = omega arith in get-drop xs k j ∙ ap (slice_get (x ∷ xs)) e

map-append : {A B : Type 0} (f : A → B) (xs ys : List A) → map f (xs ++ ys) ≡ map f xs ++ map f ys
map-append f [] ys = refl
map-append f (x ∷ xs) ys = ap (λ zs. f x ∷ zs) (map-append f xs ys)

take-all : {A : Type 0} (xs : List A) (n : ℕ) → length xs ≤ n → take n xs ≡ xs
take-all [] zero h = refl
take-all [] (suc n) h = refl
take-all (x ∷ xs) zero h = absurd (omega arith)
take-all (x ∷ xs) (suc n) h = ap (λ ys. x ∷ ys) (take-all xs n (omega (arith, h)))

past_end : {A : Type 0} (xs : List A) (i : ℕ) → slice_get xs i ≡ None → length xs ≤ i
past_end [] i e = omega arith
past_end (x ∷ xs) zero e = cc
past_end (x ∷ xs) (suc i) e = omega (arith, past_end xs i e)

-- values that begin with the first ones and go on with the zeros of the next types
pub record IsFilled (f : ℕ → Value) (first : List Value) (ts : List ℕ) (items : List Value) : Type 0 where
  pub begin : length first ≤ length items
  pub are : items ≡ first ++ map f (take (length items - length first) (drop (length first) ts))

pub filled_at_first : (f : ℕ → Value) (first : List Value) (ts : List ℕ) → IsFilled f first ts first
filled_at_first f first ts =
    let none : length first - length first ≡ 0 = omega arith in
    record {
      begin = omega arith;
      are = sym (append-nil first) ∙ ap (λ n. first ++ map f (take n (drop (length first) ts))) (sym none);
    }

pub filled_more : (f : ℕ → Value) (first : List Value) (ts : List ℕ) (items next : List Value) (t : ℕ) → IsFilled f first ts items → slice_get ts (length items) ≡ Some t → next ≡ items ++ f t ∷ [] → IsFilled f first ts next
filled_more f first ts items next t h e n =
    let k = length first in
    let j = length items - k in
    let le : k ≤ length items = h.begin in
    let at : k + j ≡ length items = omega arith in
    let long : length next ≡ length items + 1 = ap length n ∙ length-append items (f t ∷ []) in
    let more : suc j ≡ length next - k = omega (arith, long) in
    let found : slice_get (drop k ts) j ≡ Some t = get-drop ts k j ∙ ap (slice_get ts) at ∙ e in
    record {
      begin = omega (arith, long);
      are = n ∙ ap (λ vs. vs ++ f t ∷ []) h.are
          ∙ append_assoc first (map f (take j (drop k ts))) (f t ∷ [])
          ∙ ap (λ vs. first ++ vs) (sym (map-append f (take j (drop k ts)) (t ∷ [])) ∙ ap (map f) (sym (take-more (drop k ts) j t found) ∙ ap (λ n. take n (drop k ts)) more));
    }

pub filled_full : (f : ℕ → Value) (first : List Value) (ts : List ℕ) (items : List Value) → IsFilled f first ts items → slice_get ts (length items) ≡ None → items ≡ first ++ map f (drop (length first) ts)
filled_full f first ts items h e =
    let long : length (drop (length first) ts) ≤ length items - length first = omega (arith, length-drop (length first) ts, past_end ts (length items) e) in
    h.are ∙ ap (λ us. first ++ map f us) (take-all (drop (length first) ts) (length items - length first) long)

-- the values of f at each type with its item
abbrev pub paired : {A : Type 0} → (ℕ → A → Value) → List ℕ → List A → List Value
paired f [] xs = []
paired f (t ∷ ts) [] = []
paired f (t ∷ ts) (x ∷ xs) = f t x ∷ paired f ts xs

paired-nil : {A : Type 0} (f : ℕ → A → Value) (ts : List ℕ) → paired f ts [] ≡ []
paired-nil f [] = refl
paired-nil f (t ∷ ts) = refl

pub paired_more : {A : Type 0} (f : ℕ → A → Value) (ts : List ℕ) (xs : List A) (i t : ℕ) (x : A) → slice_get xs i ≡ Some x → slice_get ts (length (paired f ts (take i xs))) ≡ Some t → paired f ts (take (suc i) xs) ≡ paired f ts (take i xs) ++ f t x ∷ []
paired_more f [] xs i t x e h = cc
paired_more f (u ∷ ts) [] i t x e h = cc
paired_more f (u ∷ ts) (y ∷ xs) zero t x e h =
    let q : y ≡ x = cc in
    let r : u ≡ t = cc in
    ap (λ vs. f u y ∷ vs) (paired-nil f ts) ∙ ap (λ z. f u z ∷ []) q ∙ ap (λ z. f z x ∷ []) r
paired_more f (u ∷ ts) (y ∷ xs) (suc i) t x e h = ap (λ vs. f u y ∷ vs) (paired_more f ts xs i t x e h)

take-nil : {A : Type 0} (i : ℕ) → take {A = A} i [] ≡ []
take-nil zero = refl
take-nil (suc i) = refl

pub paired_full : {A : Type 0} (f : ℕ → A → Value) (ts : List ℕ) (xs : List A) (i : ℕ) → slice_get ts (length (paired f ts (take i xs))) ≡ None → paired f ts (take (suc i) xs) ≡ paired f ts (take i xs)
paired_full f [] xs i h = refl
paired_full f (u ∷ ts) [] i h = ap (paired f (u ∷ ts)) (sym (take-nil i))
paired_full f (u ∷ ts) (y ∷ xs) zero h = cc
paired_full f (u ∷ ts) (y ∷ xs) (suc i) h = ap (λ vs. f u y ∷ vs) (paired_full f ts xs i h)

pub spread_is : {A : Type 0} (p : Parts) (f : ℕ → A → Value) (ts : List ℕ) (xs : List A) → paired f ts xs ++ map (zero_of p) (drop (length (paired f ts xs)) ts) ≡ spread p f ts xs
spread_is p f [] [] = refl
spread_is p f [] (x ∷ xs) = refl
spread_is p f (t ∷ ts) [] = refl
spread_is p f (t ∷ ts) (x ∷ xs) = ap (λ vs. f t x ∷ vs) (spread_is p f ts xs)

pub paired_start : {A : Type 0} (f : ℕ → A → Value) (ts : List ℕ) (xs : List A) (items : List Value) → items ≡ [] → items ≡ paired f ts (take 0 xs)
paired_start f ts xs items e = e ∙ sym (paired-nil f ts)

pub paired_next : {A : Type 0} (f : ℕ → A → Value) (ts : List ℕ) (xs : List A) (i t : ℕ) (x : A) (items next : List Value) → items ≡ paired f ts (take i xs) → slice_get xs i ≡ Some x → slice_get ts (length items) ≡ Some t → next ≡ items ++ f t x ∷ [] → next ≡ paired f ts (take (i + 1) xs)
paired_next f ts xs i t x items next h e g n =
    let one : suc i ≡ i + 1 = omega arith in
    n
    ∙ ap (λ vs. vs ++ f t x ∷ []) h
    ∙ sym (paired_more f ts xs i t x e (ap (λ (vs : List Value). slice_get ts (length vs)) (sym h) ∙ g))
    ∙ ap (λ n. paired f ts (take n xs)) one

pub paired_same : {A : Type 0} (f : ℕ → A → Value) (ts : List ℕ) (xs : List A) (i : ℕ) (items next : List Value) → items ≡ paired f ts (take i xs) → slice_get ts (length items) ≡ None → next ≡ items → next ≡ paired f ts (take (i + 1) xs)
paired_same f ts xs i items next h g n =
    let one : suc i ≡ i + 1 = omega arith in
    n
    ∙ h
    ∙ sym (paired_full f ts xs i (ap (λ (vs : List Value). slice_get ts (length vs)) (sym h) ∙ g))
    ∙ ap (λ n. paired f ts (take n xs)) one

pub paired_end : {A : Type 0} (p : Parts) (f : ℕ → A → Value) (ts : List ℕ) (xs : List A) (i : ℕ) (items : List Value) → items ≡ paired f ts (take i xs) → length xs ≤ i → items ++ map (zero_of p) (drop (length items) ts) ≡ spread p f ts xs
paired_end p f ts xs i items h le =
    let all : items ≡ paired f ts xs = h ∙ ap (paired f ts) (take-all xs i le) in
    ap (λ (vs : List Value). vs ++ map (zero_of p) (drop (length vs) ts)) all ∙ spread_is p f ts xs

pub found : {A : Type 0} (xs : List A) (i : ℕ) (d x : A) → i < length xs → x ≡ get_or xs i d → slice_get xs i ≡ Some x
found [] i d x h e = absurd (omega arith)
found (y ∷ xs) zero d x h e = ap Some (sym e)
found (y ∷ xs) (suc i) d x h e = found xs i d x (omega (arith, h)) e

-- the rows of the text are lists as code sees them
row_is_list : (at : Scope) (ts : List ℕ) (inits : List Init) → initial_items at ts (I.hidden-the_row-Init-0 inits) ≡ spread at.types (initial_value at) ts inits
unfolding I.shape-the_row-Init-0 I.hidden-the_row-Init-0 denote.Hole.Carrier.hidden
row_is_list at ts [] = refl
row_is_list at [] (x ∷ xs) = refl
row_is_list at (t ∷ ts) (x ∷ xs) = ap (λ vs. initial_value at t x ∷ vs) (row_is_list at ts xs)

pub initial_value-List : (at : Scope) (t : ℕ) (inits : List Init) → initial_value at t (Init_list inits) ≡ composed at.types t (spread at.types (initial_value at) (item_types at.types t) inits)
initial_value-List at t inits = ap (composed at.types t) (row_is_list at (item_types at.types t) inits)

get_in : (xs : List ℕ) (k u : ℕ) → slice_get xs k ≡ Some u → Contains xs u
get_in [] k u e = cc
get_in (x ∷ xs) zero u e = let q : x ≡ u = cc in (0, omega arith, q)
get_in (x ∷ xs) (suc k) u e = let i = get_in xs k u e in (suc i.0, omega (arith, i.1), i.2)

get-replicate : (n t k u : ℕ) → slice_get (replicate n t) k ≡ Some u → t ≡ u
get-replicate zero t k u e = cc
get-replicate (suc n) t zero u e = cc
get-replicate (suc n) t (suc k) u e = get-replicate n t k u e

module _ (p : Parts) (built : IsBuilt p) (t : ℕ) where
  falls : (ty : Ty) (u : ℕ) → slice_get p.types t ≡ Some ty → Contains (held_in p (Some ty)) u → depth p u < depth p t
  falls ty u e c =
      depth-falls p t u (settled p built t (slice_get_within p.types t ty e)) (subst (λ o. Contains (held_in p o) u) (sym e) c)

  -- the types of elements and fields, and of members, are less deep
  pub item-falls : (k u : ℕ) → slice_get (item_types p t) k ≡ Some u → depth p u < depth p t
  item-falls k u e = by_type (slice_get p.types t) refl e
    where
      by_type : (o : Option Ty) → slice_get p.types t ≡ o → slice_get (item_types_in p o) k ≡ Some u → depth p u < depth p t
      by_type None f h = cc
      by_type (Some (T.Int kind)) f h = cc
      by_type (Some (T.Pointer v)) f h = cc
      by_type (Some T.VoidPointer) f h = cc
      by_type (Some (T.Function g)) f h = cc
      by_type (Some (T.Struct s)) f h = falls (T.Struct s) u f (get_in (field_types (fields_of p s)) k u h)
      by_type (Some (T.Union v)) f h = cc
      by_type (Some (T.Array v n)) f h = falls (T.Array v n) u f (0, omega arith, get-replicate n v k u h)

  pub item_type-falls : (k : ℕ) (o : Option ℕ) → o ≡ slice_get (item_types p t) k → IfSome o (λ u. depth p u < depth p t)
  item_type-falls k None e = tt
  item_type-falls k (Some u) e = item-falls k u (sym e)

  pub member-falls : (u : ℕ) (m : FieldDef) → slice_get p.types t ≡ Some (T.Union u) → slice_get (members_of p u) 0 ≡ Some m → depth p m.ty < depth p t
  member-falls u m e h = falls (T.Union u) m.ty e (field_in (members_of p u) 0 m h)

  pub zero_union : (u : ℕ) (m : FieldDef) (v : Value) → slice_get p.types t ≡ Some (T.Union u) → slice_get (members_of p u) 0 ≡ Some m → v ≡ zero_of p m.ty → Union 0 v ≡ zero_of p t
  zero_union u m v e h k = by_members (members_of p u) h ∙ sym (zero_of-is p built t (T.Union u) e)
    where
      by_members : (ms : List FieldDef) → slice_get ms 0 ≡ Some m → Union 0 v ≡ first_member (zero_of p) ms
      by_members [] h = cc
      by_members (d ∷ ms) h = let q : m ≡ d = cc in ap (Union 0) (k ∙ ap (λ (d : FieldDef). zero_of p d.ty) q)
