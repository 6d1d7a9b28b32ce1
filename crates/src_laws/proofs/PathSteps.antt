-- The part at a path and one more step.
use Rattle.std.proofs.Common.{◌≡◌, refl, ℕ, List, [], ◌∷◌, ◌++◌, Option, Some, None}
use Rattle.std.specs.Prelude.{slice_get}
use Rattle.lu_spec.specs.Then.{then_option}
use Rattle.c_types.specs.declared.path.Step.{Step}
use Rattle.c_types.specs.declared.path.Step.TheVariants.{Index}
use Rattle.src_tree.specs.declared.value.Value.{Value, out-Value}
use Rattle.src_meaning.specs.Paths.{part_in, part_at, element_part}

-- the part at one more step
pub part_more : (path : List Step) (s : Step) (v : Value) → part_at v (path ++ s ∷ []) ≡ then_option (part_at v path) (λ w. part_in (out-Value w) s)
part_more [] s v = same (part_in (out-Value v) s)
  where
    same : (o : Option Value) → then_option o (λ part. Some part) ≡ o
    same None = refl
    same (Some w) = refl
part_more (x ∷ path) s v = by (part_in (out-Value v) x) (λ w. part_more path s w)
  where
    by : (o : Option Value) → ((w : Value) → part_at w (path ++ s ∷ []) ≡ then_option (part_at w path) (λ w. part_in (out-Value w) s)) → then_option o (λ part. part_at part (path ++ s ∷ [])) ≡ then_option (then_option o (λ part. part_at part path)) (λ w. part_in (out-Value w) s)
    by None rest = refl
    by (Some w) rest = rest w

pub element_more : (vs : List Value) (k : ℕ) (path : List Step) (s : Step) → element_part vs ((Index k ∷ path) ++ s ∷ []) ≡ then_option (element_part vs (Index k ∷ path)) (λ w. part_in (out-Value w) s)
element_more vs k path s = by (slice_get vs k)
  where
    by : (o : Option Value) → then_option o (λ v. part_at v (path ++ s ∷ [])) ≡ then_option (then_option o (λ v. part_at v path)) (λ w. part_in (out-Value w) s)
    by None = refl
    by (Some w) = part_more path s w
