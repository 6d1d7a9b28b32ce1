-- The names of an outline are distinct.
use Rattle.std.proofs.Common.{◌≡◌, ◌∙◌, ap, refl, ℕ, Bool, true, false, ◌&&◌, ◌||◌, List, [], ◌∷◌, ◌++◌, nat_eq, arith}
use Rattle.std.proofs.lemmas.Bool.Decides.{nat_tests}
use Rattle.std.proofs.lemmas.List.Folds.{list_any-append}
use Rattle.std.specs.Prelude.{not}
use Rattle.std.specs.List.{list_any}
use Rattle.std.specs.Str.{bytes_eq}
use Rattle.c_ast.specs.Trees.{Declaration}
use Rattle.src_meaning.specs.ValidNames.{are_distinct}
use Rattle.c_check_scope.specs.Names.{Text}
use Rattle.c_check_table.specs.Outlines.{outline}
use Rattle.c_types.proofs.Lists.{and_right}
use Rattle.c_check_table.proofs.Kept.{outline_keeps}
use Rattle.c_check_table.proofs.NamePlaces.{new_passes_none}
use Rattle.c_check_table.proofs.SameNames.{texts_are_names}

number-back : (x y : ℕ) → nat_eq x y ≡ false → nat_eq y x ≡ false
number-back x y h = grind (arith, nat_tests)

later-back : (a b c d : Bool) → (a ≡ false → c ≡ false) → (b ≡ false → d ≡ false) → (a && b) ≡ false → (c && d) ≡ false
later-back true true c d f g h = absurd (cc)
later-back true false true d f g h = g refl
later-back true false false d f g h = refl
later-back false b c d f g h = ap (λ x. x && d) (f refl)

text-back : (xs ys : Text) → bytes_eq xs ys ≡ false → bytes_eq ys xs ≡ false
text-back [] [] h = h
text-back [] (y ∷ ys) h = refl
text-back (x ∷ xs) [] h = refl
text-back (x ∷ xs) (y ∷ ys) h =
    later-back (nat_eq x y) (bytes_eq xs ys) (nat_eq y x) (bytes_eq ys xs) (number-back x y) (text-back xs ys) h

none_first : (a b : Bool) → (a || b) ≡ false → a ≡ false
none_first false b h = refl
none_first true b h = absurd (cc)

none_later : (a b : Bool) → (a || b) ≡ false → b ≡ false
none_later false b h = h
none_later true b h = absurd (cc)

all_apart : (found rest : Bool) → not found && rest ≡ true → found ≡ false
all_apart false rest h = refl
all_apart true rest h = absurd (cc)

both_apart : (a b : Bool) → a ≡ false → b ≡ true → not a && b ≡ true
both_apart false b f h = h
both_apart true b f h = absurd (cc)

neither : (a b : Bool) → a ≡ false → b ≡ false → (a || b) ≡ false
neither false b f g = g
neither true b f g = absurd (cc)

-- one more name that is none of them
distinct_more : (names : List Text) (x : Text) → are_distinct names ≡ true → list_any (bytes_eq x) names ≡ false → are_distinct (names ++ (x ∷ [])) ≡ true
distinct_more [] x h none = refl
distinct_more (y ∷ ys) x h none =
    let before : list_any (bytes_eq y) ys ≡ false = all_apart (list_any (bytes_eq y) ys) (are_distinct ys) h in
    let other : bytes_eq y x ≡ false = text-back x y (none_first (bytes_eq x y) (list_any (bytes_eq x) ys) none) in
    let after : list_any (bytes_eq y) (ys ++ (x ∷ [])) ≡ false =
    list_any-append (bytes_eq y) ys (x ∷ [])
    ∙ neither (list_any (bytes_eq y) ys) (list_any (bytes_eq y) (x ∷ [])) before (neither (bytes_eq y x) false other refl) in
    both_apart (list_any (bytes_eq y) (ys ++ (x ∷ []))) (are_distinct (ys ++ (x ∷ []))) after
    (distinct_more ys x (and_right (not (list_any (bytes_eq y) ys)) (are_distinct ys) h) (none_later (bytes_eq x y) (list_any (bytes_eq x) ys) none))

-- no two texts of an outline are equal
pub texts_are_distinct : (ds : List Declaration) → are_distinct (outline ds).texts ≡ true
texts_are_distinct ds =
    ap are_distinct (texts_are_names ds)
    ∙ outline_keeps (λ names texts. are_distinct names ≡ true) (λ names texts x e h. distinct_more names x h (new_passes_none names x e)) refl ds
