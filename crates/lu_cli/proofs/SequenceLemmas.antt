-- Writing one piece after another.
use Rattle.std.proofs.Common.{◌≡◌, ℕ, List, [], ◌++◌, Option, Some, None, Result, Ok, Err, IfSome, refl, sym, ap, subst, ◌∙◌, append_assoc}
use Rattle.std.proofs.lemmas.List.{append-nil}
use Rattle.lu_cli.specs.Sequence.{WroteFront, Wrote}

-- a part of the whole was written, and the rest remains
abbrev pub SoFar : List ℕ → List ℕ → List ℕ → Option (List ℕ) → Type 0
SoFar before whole remaining now = (w : List ℕ) × (now ≡ Some (before ++ w)) × (whole ≡ w ++ remaining)

pub so_far-start : (held : Option (List ℕ)) (whole : List ℕ) → IfSome held (λ before. SoFar before whole whole held)
so_far-start None whole = tt
so_far-start (Some before) whole = ([], ap (λ l. Some l) (sym (append-nil before)), refl)

pub so_far-more : (held now next : Option (List ℕ)) (whole piece remaining : List ℕ) → IfSome held (λ before. SoFar before whole (piece ++ remaining) now)
    → IfSome now (λ b. next ≡ Some (b ++ piece)) → IfSome held (λ before. SoFar before whole remaining next)
so_far-more None now next whole piece remaining s wrote = tt
so_far-more (Some before) now next whole piece remaining s wrote =
    let added = subst (λ o. IfSome o (λ b. next ≡ Some (b ++ piece))) s.1 wrote in
    (s.0 ++ piece, added ∙ ap (λ l. Some l) (append_assoc before s.0 piece), s.2 ∙ sym (append_assoc s.0 piece remaining))

pub so_far-stop : (held now next : Option (List ℕ)) (whole piece remaining : List ℕ) → IfSome held (λ before. SoFar before whole (piece ++ remaining) now)
    → IfSome now (λ b. WroteFront b piece next) → IfSome held (λ before. WroteFront before whole next)
so_far-stop None now next whole piece remaining s wrote = tt
so_far-stop (Some before) now next whole piece remaining s wrote =
    let front = subst (λ o. IfSome o (λ b. WroteFront b piece next)) s.1 wrote in (
      s.0 ++ front.0,
      (
        front.1.0 ++ remaining,
        s.2 ∙ ap (λ l. s.0 ++ (l ++ remaining)) front.1.1 ∙ ap (λ l. s.0 ++ l) (append_assoc front.0 front.1.0 remaining) ∙ sym (append_assoc s.0 front.0 (front.1.0 ++ remaining)),
      ),
      front.2 ∙ ap (λ l. Some l) (append_assoc before s.0 front.0),
    )

pub so_far-end : (held now : Option (List ℕ)) (whole : List ℕ) → IfSome held (λ before. SoFar before whole [] now) → IfSome held (λ before. now ≡ Some (before ++ whole))
so_far-end None now whole s = tt
so_far-end (Some before) now whole s = s.1 ∙ ap (λ l. Some (before ++ l)) (sym (s.2 ∙ append-nil s.0))

-- nothing was written
pub nothing-wrote : (held : Option (List ℕ)) (whole : List ℕ) → IfSome held (λ before. WroteFront before whole held)
nothing-wrote None whole = tt
nothing-wrote (Some before) whole = ([], (whole, refl), ap (λ l. Some l) (sym (append-nil before)))

-- one text behind another
pub wrote-then : {A E : Type 0} (held now next : Option (List ℕ)) (first second : List ℕ) (r : Result A E)
    → IfSome held (λ before. now ≡ Some (before ++ first)) → IfSome now (λ b. Wrote b second next r) → IfSome held (λ before. Wrote before (first ++ second) next r)
wrote-then None now next first second r a b = tt
wrote-then (Some before) now next first second (Ok x) a b =
    let wrote = subst (λ o. IfSome o (λ b. next ≡ Some (b ++ second))) a b in wrote ∙ ap (λ l. Some l) (append_assoc before first second)
wrote-then (Some before) now next first second (Err x) a b =
    let front = subst (λ o. IfSome o (λ b. WroteFront b second next)) a b in (
      first ++ front.0,
      (front.1.0, ap (λ l. first ++ l) front.1.1 ∙ sym (append_assoc first front.0 front.1.0)),
      front.2 ∙ ap (λ l. Some l) (append_assoc before first front.0),
    )

pub wrote-stop : (held next : Option (List ℕ)) (first second : List ℕ) → IfSome held (λ before. WroteFront before first next)
    → IfSome held (λ before. WroteFront before (first ++ second) next)
wrote-stop None next first second a = tt
wrote-stop (Some before) next first second a =
    (a.0, (a.1.0 ++ second, ap (λ l. l ++ second) a.1.1 ∙ append_assoc a.0 a.1.0 second), a.2)
