-- Walks over a graph.
use Rattle.std.specs.Prelude.{◌≡◌, ◌↔◌, ℕ, ◌<◌, IsTrue, List, length, take}
use Rattle.lu_image_store.specs.Needed.{Graph, is_in, IsNeeded, needed_in}
use Rattle.lu_mark.specs.declared.marks.WalkState.{WalkState}
use Rattle.lu_mark.specs.declared.marks.WalkState.TheVariants.{Done}
use Rattle.lu_mark.specs.Marking.{Marking}

abbrev pub IsRoot : Graph → ℕ → Type 0
IsRoot g x = (x < g.size) × IsTrue (g.is_root x)

-- in a chain, x may come next after y
abbrev pub Follows : Graph → ℕ → ℕ → Type 0
Follows g y x = IsTrue (is_in (g.next y) x) × (x < g.size) × IsTrue (g.may_follow x)

-- exactly the roots, in any order
pub record AreRoots (g : Graph) (roots : List ℕ) : Type 0 where
  pub sound : (x : ℕ) → IsTrue (is_in roots x) → IsRoot g x
  pub whole : (x : ℕ) → IsRoot g x → IsTrue (is_in roots x)

-- exactly those that may come next after y, in any order
pub record AreNext (g : Graph) (y : ℕ) (targets : List ℕ) : Type 0 where
  pub sound : (x : ℕ) → IsTrue (is_in targets x) → Follows g y x
  pub whole : (x : ℕ) → Follows g y x → IsTrue (is_in targets x)

-- Only needed objects are marked, each root is, and each that may come next after one that was walked.
pub record IsWalk (g : Graph) (m : Marking) : Type 0 where
  pub size : m.size ≡ g.size
  pub needed : (x : ℕ) → IsTrue (is_in m.marked x) → IsNeeded g x
  pub roots : (x : ℕ) → IsRoot g x → IsTrue (is_in m.marked x)
  pub followed : (y x : ℕ) → IsTrue (is_in (take m.walked m.marked) y) → Follows g y x → IsTrue (is_in m.marked x)

-- The walk goes on as one. It is done exactly where it has walked as many objects as are needed, and then these are
-- the marked ones, in order.
pub record GoesOn (g : Graph) (m : Marking) (state : WalkState) : Type 0 where
  pub walk : IsWalk g m
  pub done : (state ≡ Done) ↔ (m.walked ≡ length (needed_in g))
  pub needed : state ≡ Done → m.marked ≡ needed_in g
