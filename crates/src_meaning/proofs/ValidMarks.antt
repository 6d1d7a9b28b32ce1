-- Marks one after another.
use Rattle.std.proofs.Common.{◌≡◌, ◌∙◌, refl, sym, ap, ℕ, zero, suc, ◌+◌, ◌<◌, List, [], ◌∷◌, ◌++◌, take, length, Option, Some, None, get_or}
use native.Mathlib.Omega.{arith}
use Rattle.lu_spec.specs.Then.{then_option}
use Rattle.src_tree.specs.declared.stmt.TypedStmt.{TypedStmt}
use Rattle.src_tree.specs.declared.program.Site.{Site}
use Rattle.src_meaning.specs.declared.validity.Next.{Next}
use Rattle.src_meaning.specs.ValidNumbering.{Mark, marks, body_marks, after_mark, after_marks}

append-nothing : (ms : List Mark) → ms ++ [] ≡ ms
append-nothing [] = refl
append-nothing (m ∷ ms) = ap (λ l. m ∷ l) (append-nothing ms)

append-append : (a b c : List Mark) → (a ++ b) ++ c ≡ a ++ (b ++ c)
append-append [] b c = refl
append-append (m ∷ a) b c = ap (λ l. m ∷ l) (append-append a b c)

-- the marks of one statement more
pub marks-more : (xs : List TypedStmt) (i : ℕ) (d : TypedStmt) → i < length xs → body_marks (take (i + 1) xs) ≡ body_marks (take i xs) ++ marks (get_or xs i d)
marks-more [] i d h = absurd (omega arith)
marks-more (x ∷ xs) zero d h = append-nothing (marks x)
marks-more (x ∷ xs) (suc i) d h =
    let n : suc i + 1 ≡ suc (i + 1) = omega arith in
    ap (λ k. body_marks (take k (x ∷ xs))) n ∙ ap (λ l. marks x ++ l) (marks-more xs i d (omega arith)) ∙ sym (append-append (marks x) (body_marks (take i xs)) (marks (get_or xs i d)))

module _ (sites : List Site) (f : ℕ) where
  pub after-append : (a : List Mark) (n : Option Next) (b : List Mark) → after_marks sites f n (a ++ b) ≡ after_marks sites f (after_marks sites f n a) b
  after-append [] n b = refl
  after-append (m ∷ a) n b = after-append a (then_option n (λ next. after_mark sites f next m)) b

  pub after-more : (n : Option Next) (xs : List TypedStmt) (i : ℕ) (d : TypedStmt) → i < length xs → after_marks sites f n (body_marks (take (i + 1) xs)) ≡ after_marks sites f (after_marks sites f n (body_marks (take i xs))) (marks (get_or xs i d))
  after-more n xs i d h = ap (after_marks sites f n) (marks-more xs i d h) ∙ after-append (body_marks (take i xs)) n (marks (get_or xs i d))

pub ruleset mark_facts = after-more
