-- What was read has the form of its key, and a list of so many items has so many.
use Rattle.std.proofs.Common.{◌≡◌, ◌⊎◌, inl, inr, ℕ, zero, suc, ◌+◌, ℤ, pos, negsuc, Bool, true, false, ◌&&◌, not, nat_le, if◌then◌else◌, IsTrue, List, [], ◌∷◌, ◌++◌, length, take, Option, Some, None, Result, Ok, Err, refl, sym, subst, ap, ◌∙◌, arith, length-append}
use Rattle.std.specs.Prelude.{slice_get}
use Rattle.std.specs.Option.{unwrap_or}
use Rattle.std.proofs.lemmas.Bool.Decides.{nat_tests}
use Rattle.lu_spec.specs.Then.{then_do}
use Rattle.lu_spec.proofs.ThenLemmas.{then_some, then_ok}
use Rattle.toml.specs.Data.{Data, Items, no_items, item, as_str, as_integer, as_array, Members, get_member}
use Rattle.plan_file.specs.declared.key.Key.{Key}
use Rattle.plan_file.specs.declared.key.LimitedList.{LimitedList}
use Rattle.plan_file.specs.declared.error.PlanError.{PlanError}
use Rattle.plan_file.specs.declared.error.PlanError.TheVariants as error
use Rattle.plan_file.specs.Forms.{count_of, passing, text_where, number_within, number_between}
use Rattle.plan_file.specs.Lookup.{or_field, if_passed, of_form, optional, needed, defaulted, are_tables, checked_items, table_list, each_onto}
use Rattle.plan_file.specs.Kept.{EachBehind, IsBetween}
use Rattle.plan_file.proofs.RenameOrder.{or_field-ok, passing-some}

-- what follows from a chain of steps, one step at a time
pub after_step : {A B : Type 0} {Q : Type 0} (r : Result A PlanError) (f : A → Result B PlanError) (b : B) → then_do r f ≡ Ok b
    → ((a : A) → r ≡ Ok a → f a ≡ Ok b → Q) → Q
after_step (Ok a) f b e next = next a refl e
after_step (Err x) f b e next = absurd (cc)

pub after_test : {B : Type 0} {Q : Type 0} (test : Bool) (name : Key) (r : Result B PlanError) (b : B) → if_passed test name r ≡ Ok b
    → (test ≡ true → r ≡ Ok b → Q) → Q
after_test true name r b e next = next refl e
after_test false name r b e next = absurd (cc)

abbrev pub IsAnswer : {B : Type 0} → B → B → Type 0
IsAnswer {B} a b = let r : Result B PlanError = Ok a in r ≡ Ok b

pub at-end : {B : Type 0} (Q : B → Type 0) (a b : B) → IsAnswer a b → Q a → Q b
at-end Q a b e kept = let same : a ≡ b = cc in subst Q same kept

pub if_passed-ok : {A : Type 0} (test : Bool) (name : Key) (next : Result A PlanError) (a : A) → if_passed test name next ≡ Ok a → (test ≡ true) × (next ≡ Ok a)
if_passed-ok true name next a e = (refl, e)
if_passed-ok false name next a e = absurd (cc)

pub not-true : (b : Bool) → not b ≡ true → b ≡ false
not-true true e = absurd (cc)
not-true false e = refl

module _ {A : Type 0} (P : A → Type 0) (name : Key) (form : Data → Option A) (keeps : (d : Data) (a : A) → form d ≡ Some a → P a) where
  form_step : (o : Option Data) (a : A) → of_form name form o ≡ Ok (Some a) → P a
  form_step None a e = absurd (cc)
  form_step (Some d) a e =
      let b = then_ok (or_field name (form d)) (λ b. Ok (Some b)) (Some a) e in
      let same : b.0 ≡ a = cc in
      subst P same (keeps d b.0 (or_field-ok name (form d) b.0 b.1))

  pub needed-keeps : (ms : Members) (word : List ℕ) (a : A) → needed ms word name form ≡ Ok a → P a
  needed-keeps ms word a e =
      let o = then_ok (optional ms word name form) (or_field name) a e in
      form_step (get_member word ms) a (o.1 ∙ ap Ok (or_field-ok name o.0 a o.2))

  default_step : (o : Option A) (value a : A) (d : Option Data) → P value → of_form name form d ≡ Ok o → unwrap_or o value ≡ a → P a
  default_step None value a d kept read e = subst P e kept
  default_step (Some b) value a d kept read e = subst P e (form_step d b read)

  pub defaulted-keeps : (ms : Members) (word : List ℕ) (value a : A) → P value → defaulted ms word name form value ≡ Ok a → P a
  defaulted-keeps ms word value a kept e =
      let o = then_ok (optional ms word name form) (λ o. Ok (unwrap_or o value)) a e in
      default_step o.0 value a (get_member word ms) kept o.1 (let same : unwrap_or o.0 value ≡ a = cc in same)

  pub optional-keeps : (ms : Members) (word : List ℕ) (a : A) → optional ms word name form ≡ Ok (Some a) → P a
  optional-keeps ms word a e = form_step (get_member word ms) a e

pub text-keeps : (test : List ℕ → Bool) (d : Data) (text : List ℕ) → text_where test d ≡ Some text → IsTrue (test text)
text-keeps test d text e =
    let a = then_some (as_str d) (passing test) text e in
    let b = passing-some test a.0 text a.2 in
    ap test b.1 ∙ b.0

within_step : (t : Bool) (low high n m : ℕ) → (nat_le low n && nat_le n high) ≡ t → (if t then Some n else None) ≡ Some m → IsBetween low high m
within_step true low high n m e out = let same : n ≡ m = cc in record { least = grind (arith, nat_tests); most = grind (arith, nat_tests) }
within_step false low high n m e out = absurd (cc)

within-keeps : (low high : ℕ) (z : ℤ) (n : ℕ) → number_within low high z ≡ Some n → IsBetween low high n
within-keeps low high (pos m) n e = within_step (nat_le low m && nat_le m high) low high m n refl e
within-keeps low high (negsuc m) n e = absurd (cc)

pub number-keeps : (low high : ℕ) (d : Data) (n : ℕ) → number_between low high d ≡ Some n → IsBetween low high n
number-keeps low high d n e = let a = then_some (as_integer d) (number_within low high) n e in within-keeps low high a.0 n a.2

-- a list of tables has as many as it may
list_step : (t : Bool) (limited : LimitedList) (ds out : Items) → (if t then Ok ds else Err (error.Limit limited)) ≡ Ok out → (t ≡ true) × (ds ≡ out)
list_step true limited ds out e = (refl, cc)
list_step false limited ds out e = absurd (cc)

pub table_list-count : (name : Key) (limited : LimitedList) (low high : ℕ) (d : Data) (ds : Items) → table_list name limited low high d ≡ Ok ds → IsBetween low high (count_of ds)
table_list-count name limited low high d ds e =
    let a = then_ok (or_field name (as_array d)) (checked_items name limited low high) ds e in
    let b = if_passed-ok (are_tables a.0) name (if nat_le low (count_of a.0) && nat_le (count_of a.0) high then Ok a.0 else Err (error.Limit limited)) ds a.2 in
    let c = list_step (nat_le low (count_of a.0) && nat_le (count_of a.0) high) limited a.0 ds b.1 in
    within_step true low high (count_of a.0) (count_of ds) c.0 (ap (λ ds. Some (count_of ds)) c.1)

-- what stands at a place of a list with one more item, and before it
abbrev AtAppend : {T : Type 0} → List T → T → ℕ → T → Type 0
AtAppend xs y i x = ((slice_get xs i ≡ Some x) × (take i (xs ++ y ∷ []) ≡ take i xs)) ⊎ ((take i (xs ++ y ∷ []) ≡ xs) × (y ≡ x))

later-at : {T : Type 0} (z : T) (zs : List T) (y : T) (i : ℕ) (x : T) → AtAppend zs y i x → AtAppend (z ∷ zs) y (suc i) x
later-at z zs y i x (inl h) = inl (h.0, ap (λ l. z ∷ l) h.1)
later-at z zs y i x (inr h) = inr (ap (λ l. z ∷ l) h.0, h.1)

at-append : {T : Type 0} (xs : List T) (y : T) (i : ℕ) (x : T) → slice_get (xs ++ y ∷ []) i ≡ Some x → AtAppend xs y i x
at-append [] y zero x e = inr (refl, (let same : y ≡ x = cc in same))
at-append [] y (suc i) x e = absurd (cc)
at-append (z ∷ zs) y zero x e = inl (e, refl)
at-append (z ∷ zs) y (suc i) x e = later-at z zs y i x (at-append zs y i x e)

module _ {T : Type 0} (read : List T → Data → Result T PlanError) where
  pub each_onto-length : (done : List T) (ds : Items) (out : List T) → each_onto read done ds ≡ Ok out → length out ≡ length done + count_of ds
  each_onto-length done no_items out e = let same : done ≡ out = cc in let l = ap length same in omega arith
  each_onto-length done (item d ds) out e =
      let a = then_ok (read done d) (λ t. each_onto read (done ++ t ∷ []) ds) out e in
      let l = each_onto-length (done ++ a.0 ∷ []) ds out a.2 in
      let m = length-append done (a.0 ∷ []) in omega arith

module _ {T : Type 0} (P : List T → T → Type 0) where
  behind_step : (done : List T) (t : T) → EachBehind P done → P done t → EachBehind P (done ++ t ∷ [])
  behind_step done t kept here i x at = choose (at-append done t i x at)
    where
      choose : AtAppend done t i x → P (take i (done ++ t ∷ [])) x
      choose (inl h) = subst (λ l. P l x) (sym h.1) (kept i x h.0)
      choose (inr h) = subst (λ l. P l x) (sym h.0) (subst (P done) h.1 here)

  module _ (read : List T → Data → Result T PlanError) (keeps : (done : List T) (d : Data) (t : T) → read done d ≡ Ok t → P done t) where
    pub each_onto-keeps : (done : List T) (ds : Items) (out : List T) → EachBehind P done → each_onto read done ds ≡ Ok out → EachBehind P out
    each_onto-keeps done no_items out kept e = let same : done ≡ out = cc in subst (EachBehind P) same kept
    each_onto-keeps done (item d ds) out kept e =
        let a = then_ok (read done d) (λ t. each_onto read (done ++ t ∷ []) ds) out e in
        each_onto-keeps (done ++ a.0 ∷ []) ds out (behind_step done a.0 kept (keeps done d a.0 a.1)) a.2
