-- Names as texts: places and tests through a map.
use Rattle.std.proofs.Common.{◌≡◌, ◌∙◌, sym, ap, refl, suc, ◌+◌, Bool, true, false, cond, List, [], ◌∷◌, ◌++◌, ◌||◌, map, length, Some, None, nat_lt}
use Rattle.std.specs.Prelude.{position, not, if◌then◌else◌}
use Rattle.std.specs.List.{list_any, position_or_len}
use Rattle.std.specs.Str.{bytes_eq}
use Rattle.std.proofs.lemmas.List.{map-append}
use Rattle.indexmap.specs.IndexSet.{insert_key}
use Rattle.c_check_scope.specs.Names.{Text, with_name}

pub position_or_len-map : {A B : Type 0} (f : A → B) (p : B → Bool) (xs : List A) → position_or_len p (map f xs) ≡ position_or_len (λ x. p (f x)) xs
position_or_len-map f p [] = refl
position_or_len-map f p (x ∷ xs) = ap (λ n. cond (not (p (f x))) (1 + n) 0) (position_or_len-map f p xs)

pub length-map : {A B : Type 0} (f : A → B) (xs : List A) → length (map f xs) ≡ length xs
length-map f [] = refl
length-map f (x ∷ xs) = ap suc (length-map f xs)

pub position-map : {A B : Type 0} (f : A → B) (p : B → Bool) (xs : List A) → position p (map f xs) ≡ position (λ x. p (f x)) xs
position-map f p xs =
    ap (λ n. cond (nat_lt n (length (map f xs))) (Some n) None) (position_or_len-map f p xs)
    ∙ ap (λ m. cond (nat_lt (position_or_len (λ x. p (f x)) xs) m) (Some (position_or_len (λ x. p (f x)) xs)) None) (length-map f xs)

pub list_any-map : {A B : Type 0} (f : A → B) (p : B → Bool) (xs : List A) → list_any p (map f xs) ≡ list_any (λ x. p (f x)) xs
list_any-map f p [] = refl
list_any-map f p (x ∷ xs) = ap (λ b. p (f x) || b) (list_any-map f p xs)

-- the names after one is inserted
pub inserted : {A : Type 0} (f : A → Text) (keys : List A) (t : A) → map f (insert_key (λ a b. bytes_eq (f a) (f b)) keys t) ≡ with_name (map f keys) (f t)
inserted f keys t = by (list_any (λ b. bytes_eq (f t) (f b)) keys) refl
  where
    by : (b : Bool) → list_any (λ b. bytes_eq (f t) (f b)) keys ≡ b → map f (insert_key (λ a b. bytes_eq (f a) (f b)) keys t) ≡ with_name (map f keys) (f t)
    by true e =
        ap (λ b. map f (if b then keys else keys ++ (t ∷ []))) e
        ∙ sym (ap (λ b. if b then map f keys else map f keys ++ (f t ∷ [])) (list_any-map f (bytes_eq (f t)) keys ∙ e))
    by false e =
        ap (λ b. map f (if b then keys else keys ++ (t ∷ []))) e
        ∙ map-append f keys (t ∷ [])
        ∙ sym (ap (λ b. if b then map f keys else map f keys ++ (f t ∷ [])) (list_any-map f (bytes_eq (f t)) keys ∙ e))
