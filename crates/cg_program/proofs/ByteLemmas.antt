-- How the bytes of a value are put, one part behind the other.
use Rattle.std.proofs.Common.{◌≡◌, ◌∙◌, refl, sym, ap, subst, ℕ, zero, suc, ◌+◌, ◌-◌, ◌<◌, ◌≤◌, List, [], ◌∷◌, ◌++◌, length, take, drop, get_or, Option, Some, None, slice_get, append_assoc, arith}
use Rattle.std.specs.Prelude.{Contains, IfSome}
use Rattle.std.proofs.lemmas.List.{drop_more}
use Rattle.std.proofs.lemmas.Option.{slice_get_within}
use Rattle.std.specs.Int.{w64, byte_at, bytes_low_first, to_le_bytes}
use Rattle.lu_spec.specs.LittleEndian.{little_endian}
use Rattle.c_types.specs.declared.parts.FieldDef.{FieldDef}
use Rattle.c_types.specs.declared.parts.Parts.{Parts}
use Rattle.c_types.specs.declared.shape.Shape.{Shape}
use Rattle.c_types.specs.declared.parts.Ty.{Ty}
use Rattle.c_types.specs.declared.parts.Ty.TheVariants as T
use Rattle.c_types.specs.Chain.{held_in}
use Rattle.c_types.specs.Tables.{fields_of, members_of}
use Rattle.c_types.specs.Recursion.{at_type, by_fuel, depth}
use Rattle.c_types.specs.Layout.{Shapes, shape_of, size_of, field_start, members_start, union_shape}
use Rattle.c_types.specs.Refusal.{IsBuilt}
use Rattle.c_types.proofs.Settled.{depth-falls}
use Rattle.c_types.proofs.ShapeLaws.{settled, shape_of-is}
use Rattle.src_tree.specs.declared.value.Value.{Value, out-Value}
use Rattle.src_tree.specs.declared.value.Value.TheOpen as V
use Rattle.src_tree.specs.declared.value.Store.{Store}
use Rattle.src_tree.specs.declared.program.Program.{Program}
use Rattle.src_meaning.specs.Paths.{Layer}
use Rattle.src_meaning.specs.ValueBytes as spec
use Rattle.src_meaning.proofs.LayoutLengths.{field_in, bytes_of-is}
use Rattle.cg_program.specs.Parts.{fields_in, struct_bytes, active_in, body_in}

take_low : (i k n x : ℕ) → n ≤ k → take n (bytes_low_first i k x) ≡ bytes_low_first i n x
take_low i zero zero x h = refl
take_low i zero (suc n) x h = absurd (omega arith)
take_low i (suc k) zero x h = refl
take_low i (suc k) (suc n) x h = ap (λ l. byte_at i x ∷ l) (take_low (suc i) k n x (omega (arith, h)))

-- the lowest bytes of a number are the first of all
pub little_endian-front : (count n : ℕ) → count ≤ 8 → take count (to_le_bytes w64 n) ≡ little_endian count n
unfolding little_endian
little_endian-front count n h = take_low 0 8 count n h

-- a part is put of what is still to be put
pub part_put : (old all now here left next : List ℕ) → old ++ all ≡ now ++ (here ++ left) → next ≡ now ++ here → old ++ all ≡ next ++ left
part_put old all now here left next e n = e ∙ sym (append_assoc now here left) ∙ ap (λ l. l ++ left) (sym n)

-- values of one type: the bytes of the next one, and those of the rest
pub items_next : (rec : Value → List ℕ) (vs : List Value) (i : ℕ) (v : Value) (old now next : List ℕ) → i < length vs → v ≡ get_or vs i v → old ++ spec.items_bytes rec vs ≡ now ++ spec.items_bytes rec (drop i vs) → next ≡ now ++ rec v → old ++ spec.items_bytes rec vs ≡ next ++ spec.items_bytes rec (drop (i + 1) vs)
items_next rec vs i v old now next h is e n =
    let list : drop i vs ≡ v ∷ drop (i + 1) vs = drop_more vs i v h ∙ ap (λ y. y ∷ drop (i + 1) vs) (sym is) in
    part_put old (spec.items_bytes rec vs) now (rec v) (spec.items_bytes rec (drop (i + 1) vs)) next (e ∙ ap (λ l. now ++ spec.items_bytes rec l) list) n

drop_past : {A : Type 0} (xs : List A) (i : ℕ) → slice_get xs i ≡ None → drop i xs ≡ []
drop_past [] zero e = refl
drop_past [] (suc i) e = refl
drop_past (x ∷ xs) zero e = cc
drop_past (x ∷ xs) (suc i) e = drop_past xs i e

drop_at : {A : Type 0} (xs : List A) (i : ℕ) (x : A) → slice_get xs i ≡ Some x → drop i xs ≡ x ∷ drop (suc i) xs
drop_at [] i x e = cc
drop_at (y ∷ xs) zero x e = let q : y ≡ x = cc in ap (λ z. z ∷ xs) q
drop_at (y ∷ xs) (suc i) x e = drop_at xs i x e

-- values as fields
module _ (known : Shapes) (rec : spec.Bytes) (size : ℕ) (fs : List FieldDef) (vs : List Value) (i : ℕ) (v : Value) (old now : List ℕ) (end : ℕ) (h : i < length vs) (is : v ≡ get_or vs i v) (e : old ++ spec.fields_bytes known rec size fs vs 0 ≡ now ++ spec.fields_bytes known rec size (drop i fs) (drop i vs) end) where
  list : drop i vs ≡ v ∷ drop (i + 1) vs
  list = drop_more vs i v h ∙ ap (λ y. y ∷ drop (i + 1) vs) (sym is)

  -- a field's bytes are put, behind zeros up to where it begins
  pub field_next : (f : FieldDef) (start stop : ℕ) (zeroed next : List ℕ) → slice_get fs i ≡ Some f → start ≡ field_start known end f → stop ≡ start + (known f.ty).size → zeroed ≡ now ++ spec.zeros (start - end) → next ≡ zeroed ++ rec f.ty v → old ++ spec.fields_bytes known rec size fs vs 0 ≡ next ++ spec.fields_bytes known rec size (drop (i + 1) fs) (drop (i + 1) vs) stop
  field_next f start stop zeroed next at s q z n =
      let more : suc i ≡ i + 1 = omega arith in
      let fields : drop i fs ≡ f ∷ drop (i + 1) fs = drop_at fs i f at ∙ ap (λ k. f ∷ drop k fs) more in
      let rest = spec.fields_bytes known rec size (drop (i + 1) fs) (drop (i + 1) vs) in
      let turned : now ++ spec.fields_bytes known rec size (drop i fs) (drop i vs) end ≡ now ++ (spec.zeros (start - end) ++ (rec f.ty v ++ rest (start + (known f.ty).size))) =
      ap (λ l. now ++ spec.fields_bytes known rec size l (drop i vs) end) fields
      ∙ ap (λ l. now ++ spec.fields_bytes known rec size (f ∷ drop (i + 1) fs) l end) list
      ∙ ap (λ b. now ++ (spec.zeros (b - end) ++ (rec f.ty v ++ rest (b + (known f.ty).size)))) (sym s) in
      part_put old (spec.fields_bytes known rec size fs vs 0) zeroed (rec f.ty v) (rest (start + (known f.ty).size)) next (part_put old (spec.fields_bytes known rec size fs vs 0) now (spec.zeros (start - end)) (rec f.ty v ++ rest (start + (known f.ty).size)) zeroed (e ∙ turned) z) n ∙ ap (λ k. next ++ rest k) (sym q)

  -- a value for which there is no field is left out
  pub field_none : (stop : ℕ) (next : List ℕ) → slice_get fs i ≡ None → stop ≡ end → next ≡ now → old ++ spec.fields_bytes known rec size fs vs 0 ≡ next ++ spec.fields_bytes known rec size (drop (i + 1) fs) (drop (i + 1) vs) stop
  field_none stop next at q n =
      let here : drop i fs ≡ [] = drop_past fs i at in
      let there : drop (i + 1) fs ≡ [] = drop_past fs (i + 1) (past fs i at) in
      e ∙ ap (λ l. now ++ spec.fields_bytes known rec size l (drop i vs) end) here
      ∙ ap (λ l. l ++ spec.zeros (size - end)) (sym n)
      ∙ ap (λ l. next ++ spec.fields_bytes known rec size l (drop (i + 1) vs) end) (sym there)
      ∙ ap (λ k. next ++ spec.fields_bytes known rec size (drop (i + 1) fs) (drop (i + 1) vs) k) (sym q)
    where
      past : (xs : List FieldDef) (k : ℕ) → slice_get xs k ≡ None → slice_get xs (k + 1) ≡ None
      past [] k e = refl
      past (x ∷ xs) zero e = cc
      past (x ∷ xs) (suc k) e = let more : suc k + 1 ≡ suc (k + 1) = omega arith in ap (slice_get (x ∷ xs)) more ∙ past xs k e

-- no value is left: the rest of the struct is zero
pub fields_end : (known : Shapes) (rec : spec.Bytes) (size : ℕ) (fs : List FieldDef) (vs : List Value) (i : ℕ) (old now last : List ℕ) (end : ℕ) → length vs ≤ i → old ++ spec.fields_bytes known rec size fs vs 0 ≡ now ++ spec.fields_bytes known rec size (drop i fs) (drop i vs) end → last ≡ now ++ spec.zeros (size - end) → last ≡ old ++ spec.fields_bytes known rec size fs vs 0
fields_end known rec size fs vs i old now last end h e l =
    l ∙ ap (λ b. now ++ b) (sym (none (drop i fs))) ∙ ap (λ ws. now ++ spec.fields_bytes known rec size (drop i fs) ws end) (sym (all vs i h)) ∙ sym e
  where
    none : (fs : List FieldDef) → spec.fields_bytes known rec size fs [] end ≡ spec.zeros (size - end)
    none [] = refl
    none (f ∷ fs) = refl

    all : (vs : List Value) (i : ℕ) → length vs ≤ i → drop i vs ≡ []
    all [] zero h = refl
    all [] (suc i) h = refl
    all (v ∷ vs) zero h = absurd (omega arith)
    all (v ∷ vs) (suc i) h = all vs i (omega (arith, h))

module _ (p : Parts) (built : IsBuilt p) (t : ℕ) where
  falls : (ty : Ty) (u : ℕ) → slice_get p.types t ≡ Some ty → Contains (held_in p (Some ty)) u → depth p u < depth p t
  falls ty u e c =
      depth-falls p t u (settled p built t (slice_get_within p.types t ty e)) (subst (λ o. Contains (held_in p o) u) (sym e) c)

  -- a field's type is less deep, and so is that of an array's elements
  pub field-falls : (k : ℕ) (o : Option FieldDef) → o ≡ slice_get (fields_in p (slice_get p.types t)) k → IfSome o (λ f. depth p f.ty < depth p t)
  field-falls k None e = tt
  field-falls k (Some f) e = by_type (slice_get p.types t) refl (sym e)
    where
      by_type : (o : Option Ty) → slice_get p.types t ≡ o → slice_get (fields_in p o) k ≡ Some f → depth p f.ty < depth p t
      by_type None q h = cc
      by_type (Some (T.Int kind)) q h = cc
      by_type (Some (T.Pointer v)) q h = cc
      by_type (Some T.VoidPointer) q h = cc
      by_type (Some (T.Function g)) q h = cc
      by_type (Some (T.Struct s)) q h = falls (T.Struct s) f.ty q (field_in (fields_of p s) k f h)
      by_type (Some (T.Union u)) q h = falls (T.Union u) f.ty q (field_in (members_of p u) k f h)
      by_type (Some (T.Array v n)) q h = cc

  pub element-falls : (u n : ℕ) → slice_get p.types t ≡ Some (T.Array u n) → depth p u < depth p t
  element-falls u n e = falls (T.Array u n) u e (0, omega arith, refl)

-- three parts, one behind the other
three : (c c1 c2 c3 x y z : List ℕ) → c1 ≡ c ++ x → c2 ≡ c1 ++ y → c3 ≡ c2 ++ z → c3 ≡ c ++ (x ++ (y ++ z))
three c c1 c2 c3 x y z h k l =
    l ∙ ap (λ b. b ++ z) k ∙ append_assoc c1 y z ∙ ap (λ b. b ++ (y ++ z)) h ∙ append_assoc c x (y ++ z)

module _ (known : Shapes) (rec : spec.Bytes) (ms : List FieldDef) (v : Value) where
  -- a value that is no union's gives zeros
  pub union_none : (l : Layer) → active_in l ≡ None → spec.union_bytes known rec ms l ≡ spec.zeros (union_shape known ms).size
  union_none (V.Union k b) e = cc
  union_none (V.Int z) e = refl
  union_none V.Null e = refl
  union_none (V.Pointer o k) e = refl
  union_none (V.Function f) e = refl
  union_none (V.Struct vs) e = refl
  union_none (V.Array vs) e = refl

  pub union_some : (l : Layer) (k : ℕ) → active_in l ≡ Some k → spec.union_bytes known rec ms l ≡ little_endian 4 k ++ (spec.zeros (members_start known ms - 4) ++ spec.body_bytes known rec ms (slice_get ms k) (body_in v l))
  union_some (V.Union j b) k e =
      let same : j ≡ k = cc in
      ap (λ k. little_endian 4 k ++ (spec.zeros (members_start known ms - 4) ++ spec.body_bytes known rec ms (slice_get ms k) b)) same
  union_some (V.Int z) k e = cc
  union_some V.Null k e = cc
  union_some (V.Pointer o j) k e = cc
  union_some (V.Function f) k e = cc
  union_some (V.Struct vs) k e = cc
  union_some (V.Array vs) k e = cc

module _ (p : Parts) (built : IsBuilt p) (a : spec.Addresses) (t : ℕ) where
  alone : Program
  alone = record { names = []; types = p; globals = []; functions = []; sites = [] }

  nothing : Store
  nothing = record { objects = [] }

  -- the bytes of a value by its type
  pub value_is : (ty : Ty) → slice_get p.types t ≡ Some ty → (v : Value) → spec.bytes_of p a t v ≡ spec.bytes_step p a (spec.bytes_of p a) ty v
  unfolding alone
  value_is ty e v = bytes_of-is alone nothing built a t ty e v

  pub value_none : slice_get p.types t ≡ None → (v : Value) → [] ≡ spec.bytes_of p a t v
  value_none e v = by_length (length p.types)
    where
      by_length : (n : ℕ) → [] ≡ by_fuel p (spec.bytes_step p a) (λ (v : Value). []) n t v
      by_length zero = refl
      by_length (suc n) = ap (λ o. at_type (spec.bytes_step p a (by_fuel p (spec.bytes_step p a) (λ (v : Value). []) n)) (λ (v : Value). []) o v) (sym e)

  -- the bytes of a struct
  pub struct_is : (s : ℕ) → slice_get p.types t ≡ Some (T.Struct s) → (v : Value) (vs : List Value) → vs ≡ spec.parts_in (out-Value v) → struct_bytes p a t vs ≡ spec.bytes_of p a t v
  struct_is s e v vs same =
      ap (λ o. spec.fields_bytes (shape_of p) (spec.bytes_of p a) (size_of p t) (fields_in p o) vs 0) e
      ∙ ap (λ n. spec.fields_bytes (shape_of p) (spec.bytes_of p a) n (fields_of p s) vs 0) (ap (λ s. s.size) (shape_of-is p built t (T.Struct s) e))
      ∙ ap (λ vs. spec.struct_bytes (shape_of p) (spec.bytes_of p a) (fields_of p s) vs) same
      ∙ sym (value_is (T.Struct s) e v)

  pub union_zero : (u : ℕ) → slice_get p.types t ≡ Some (T.Union u) → (v : Value) → None ≡ active_in (out-Value v) → spec.zeros (size_of p t) ≡ spec.union_bytes (shape_of p) (spec.bytes_of p a) (members_of p u) (out-Value v)
  union_zero u e v no_member =
      ap (λ (s : Shape). spec.zeros s.size) (shape_of-is p built t (T.Union u) e)
      ∙ sym (union_none (shape_of p) (spec.bytes_of p a) (members_of p u) v (out-Value v) (sym no_member))

  module _ (u : ℕ) (e : slice_get p.types t ≡ Some (T.Union u)) (v : Value) (start : ℕ) (s : start ≡ members_start (shape_of p) (fields_in p (slice_get p.types t))) (c c1 c2 : List ℕ) (k : ℕ) (active : Some k ≡ active_in (out-Value v)) (h : c1 ≡ c ++ little_endian 4 k) (z : c2 ≡ c1 ++ spec.zeros (start - 4)) where
    members : fields_in p (slice_get p.types t) ≡ members_of p u
    members = ap (fields_in p) e

    size_is : size_of p t ≡ (union_shape (shape_of p) (members_of p u)).size
    size_is = ap (λ s. s.size) (shape_of-is p built t (T.Union u) e)

    start_is : start ≡ members_start (shape_of p) (members_of p u)
    start_is = s ∙ ap (members_start (shape_of p)) members

    -- the parts of a union's bytes, the last of which is the body with what follows it
    parts_put : (c3 body : List ℕ) → c3 ≡ c2 ++ body → body ≡ spec.body_bytes (shape_of p) (spec.bytes_of p a) (members_of p u) (slice_get (members_of p u) k) (body_in v (out-Value v)) → c3 ≡ c ++ spec.union_bytes (shape_of p) (spec.bytes_of p a) (members_of p u) (out-Value v)
    parts_put c3 body l b =
        three c c1 c2 c3 (little_endian 4 k) (spec.zeros (start - 4)) body h z l
        ∙ ap (λ n. c ++ (little_endian 4 k ++ (spec.zeros (n - 4) ++ body))) start_is
        ∙ ap (λ b. c ++ (little_endian 4 k ++ (spec.zeros (members_start (shape_of p) (members_of p u) - 4) ++ b))) b
        ∙ ap (λ b. c ++ b) (sym (union_some (shape_of p) (spec.bytes_of p a) (members_of p u) v (out-Value v) k (sym active)))

    pub union_without : (c3 : List ℕ) → None ≡ slice_get (fields_in p (slice_get p.types t)) k → c3 ≡ c2 ++ spec.zeros (size_of p t - start) → c3 ≡ c ++ spec.union_bytes (shape_of p) (spec.bytes_of p a) (members_of p u) (out-Value v)
    union_without c3 lacks l =
        let found : slice_get (members_of p u) k ≡ None = ap (λ ms. slice_get ms k) (sym members) ∙ sym lacks in
        parts_put c3 (spec.zeros (size_of p t - start)) l
        (ap (λ n. spec.zeros (n - start)) size_is
        ∙ ap (λ n. spec.zeros ((union_shape (shape_of p) (members_of p u)).size - n)) start_is
        ∙ ap (λ o. spec.body_bytes (shape_of p) (spec.bytes_of p a) (members_of p u) o (body_in v (out-Value v))) (sym found))

    pub union_with : (c3 c4 : List ℕ) (f : FieldDef) (body : Value) → Some f ≡ slice_get (fields_in p (slice_get p.types t)) k → body ≡ body_in v (out-Value v) → c3 ≡ c2 ++ spec.bytes_of p a f.ty body → c4 ≡ c3 ++ spec.zeros (size_of p t - (start + size_of p f.ty)) → c4 ≡ c ++ spec.union_bytes (shape_of p) (spec.bytes_of p a) (members_of p u) (out-Value v)
    union_with c3 c4 f body has same l m =
        let found : slice_get (members_of p u) k ≡ Some f = ap (λ ms. slice_get ms k) (sym members) ∙ sym has in
        parts_put c4 (spec.bytes_of p a f.ty body ++ spec.zeros (size_of p t - (start + size_of p f.ty)))
        (m ∙ ap (λ b. b ++ spec.zeros (size_of p t - (start + size_of p f.ty))) l ∙ append_assoc c2 _ _)
        (ap (λ n. spec.bytes_of p a f.ty body ++ spec.zeros (n - (start + size_of p f.ty))) size_is
        ∙ ap (λ n. spec.bytes_of p a f.ty body ++ spec.zeros ((union_shape (shape_of p) (members_of p u)).size - (n + size_of p f.ty))) start_is
        ∙ ap (λ b. spec.bytes_of p a f.ty b ++ spec.zeros ((union_shape (shape_of p) (members_of p u)).size - (members_start (shape_of p) (members_of p u) + size_of p f.ty))) same
        ∙ ap (λ o. spec.body_bytes (shape_of p) (spec.bytes_of p a) (members_of p u) o (body_in v (out-Value v))) (sym found))
