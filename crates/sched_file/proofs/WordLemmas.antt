-- The first word of a text.
use Rattle.std.proofs.Common.{◌≡◌, ℕ, zero, suc, ◌<◌, List, [], ◌∷◌, length, take, drop, Bool, true, false, not, if◌then◌else◌, refl, sym, ap, ◌∙◌, arith}
use Rattle.sched_file.specs.Words.{words_of, is_blank, run_length, begins, onto_first}

run_length-single : (b : ℕ) (bs : List ℕ) → is_blank b ≡ true → run_length (b ∷ bs) ≡ zero
run_length-single b bs j = ap (λ r. if r then zero else suc (run_length bs)) j

run_length-more : (b : ℕ) (bs : List ℕ) → is_blank b ≡ false → run_length (b ∷ bs) ≡ suc (run_length bs)
run_length-more b bs j = ap (λ r. if r then zero else suc (run_length bs)) j

-- a byte put before what is known of the rest
onto_step : (r : Bool) (b : ℕ) (text : List ℕ) (ps : List (List ℕ)) (m : ℕ) (rest : List (List ℕ))
    → (r ≡ false → ps ≡ take m text ∷ rest) → (r ≡ true → m ≡ zero) → (r ≡ true → rest ≡ ps)
    → (if not r then onto_first b ps else (b ∷ []) ∷ ps) ≡ (b ∷ take m text) ∷ rest
onto_step false b text ps m rest joined none same = ap (λ l. onto_first b l) (joined refl)
onto_step true b text ps m rest joined none same = ap (λ k. (b ∷ take k text) ∷ ps) (sym (none refl)) ∙ ap (λ l. (b ∷ take m text) ∷ l) (sym (same refl))

no_blank : (b : ℕ) (bs : List ℕ) → is_blank b ≡ false
    → words_of (b ∷ bs) ≡ (if begins (λ c. not (is_blank c)) bs then onto_first b (words_of bs) else (b ∷ []) ∷ words_of bs)
no_blank b bs j = ap (λ r. if r then words_of bs else (if begins (λ c. not (is_blank c)) bs then onto_first b (words_of bs) else (b ∷ []) ∷ words_of bs)) j

front : (b : ℕ) (bs : List ℕ) → is_blank b ≡ false
    → (b ∷ take (run_length bs) bs) ∷ words_of (drop (run_length bs) bs) ≡ take (run_length (b ∷ bs)) (b ∷ bs) ∷ words_of (drop (run_length (b ∷ bs)) (b ∷ bs))
front b bs j = ap (λ m. take m (b ∷ bs) ∷ words_of (drop m (b ∷ bs))) (sym (run_length-more b bs j))

-- the words of a text that begins with no space
pub words_of-run : (b : ℕ) (bs : List ℕ) → is_blank b ≡ false → words_of (b ∷ bs) ≡ take (run_length (b ∷ bs)) (b ∷ bs) ∷ words_of (drop (run_length (b ∷ bs)) (b ∷ bs))
words_of-run b [] j = no_blank b [] j ∙ front b [] j
words_of-run b (d ∷ ds) j =
    no_blank b (d ∷ ds) j
    ∙ onto_step (is_blank d) b (d ∷ ds) (words_of (d ∷ ds)) (run_length (d ∷ ds)) (words_of (drop (run_length (d ∷ ds)) (d ∷ ds)))
    (words_of-run d ds) (run_length-single d ds) (λ e. ap (λ m. words_of (drop m (d ∷ ds))) (run_length-single d ds e))
    ∙ front b (d ∷ ds) j

pub words_of-first : (text : List ℕ) → 0 < length text → begins is_blank text ≡ false
    → words_of text ≡ take (run_length text) text ∷ words_of (drop (run_length text) text)
words_of-first [] some a = absurd (omega arith)
words_of-first (b ∷ bs) some a = words_of-run b bs a

pub words_of-none : (text : List ℕ) → length text ≡ 0 → words_of text ≡ []
words_of-none [] e = refl
words_of-none (b ∷ bs) e = absurd (omega arith)

pub ruleset first_words = (words_of-first, words_of-none)
