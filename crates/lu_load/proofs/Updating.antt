-- Updates that are loaded.
use Rattle.std.proofs.Common.{◌≡◌, ◌∙◌, refl, sym, ap, subst, ℕ, zero, suc, ◌+◌, ◌<◌, ◌⊎◌, inl, inr, Bool, true, false, ◌||◌, not, cond, nat_eq, nat_lt, if◌then◌else◌, List, [], ◌∷◌, ◌++◌, length, length-append, take, get_or, Some, None, Result, Ok, Err, arith}
use Rattle.std.specs.Prelude.{slice_get, unwrap_or, IsErr, IsErrAnd}
use Rattle.std.specs.List.{list_any, position_or_len}
use Rattle.std.specs.Option.{option_map_or}
use Rattle.std.proofs.lemmas.Bool.Decides.{nat_tests}
use Rattle.std.proofs.lemmas.Option.{slice_get_within, slice_get_read}
use Rattle.src_tree.specs.declared.expr.TypedExpr.{TypedExpr}
use Rattle.src_tree.specs.declared.program.Program.{Program}
use Rattle.plan_file.specs.declared.plan.Plan.{Plan}
use Rattle.plan_file.specs.declared.plan.Server.{Server}
use Rattle.plan_file.specs.declared.plan.Update.{Update}
use Rattle.plan_file.specs.Kept.{KeepsForms}
use Rattle.cg_program.specs.Compiled.{Source}
use Rattle.lu_filter.specs.Filters.{IsFilter}
use Rattle.lu_load_lines.specs.declared.refusal.LoadRefusal.TheVariants as of
use Rattle.lu_load.specs.declared.error.LoadError.{LoadError}
use Rattle.lu_load.specs.declared.error.LoadError.TheVariants.{Refused, ReadFault, Memory}
use Rattle.lu_load.specs.declared.update.UpdateSetup.{UpdateSetup}
use Rattle.lu_load.specs.declared.update.Resolution.{Resolution}
use Rattle.lu_load.specs.Updates.{brings, begins_with, bringing, version_place, IsUpdate, AreUpdates, PairingAnswers, BetweenAnswers, UpdateAnswers, UpdatesAnswers}

-- ---- errors

between-err : (old new : Program) (u : Update) (filter : TypedExpr) (e : LoadError) → IsFilter old u.filter filter
    → PairingAnswers old new u (Err e) → BetweenAnswers old new u (Err e)
between-err old new u filter (Refused (of.Pairing name why)) is (same, refused) = (same, ((filter, is), refused))
between-err old new u filter (Refused (of.Plan why)) is never = absurd never
between-err old new u filter (Refused (of.Source file why)) is never = absurd never
between-err old new u filter (Refused (of.TooLong file function)) is never = absurd never
between-err old new u filter (Refused (of.Filter name why)) is never = absurd never
between-err old new u filter (Refused (of.Schedule why)) is never = absurd never
between-err old new u filter ReadFault is never = absurd never
between-err old new u filter Memory is told = tt

-- what a call hands on is what it was given
pub handed-on : {A : Type 0} (P : Result A LoadError → Type 0) (r : Result A LoadError) (e : LoadError) → IsErr r → IsErrAnd r (λ d. d ≡ e) → P (Err e) → P r
handed-on P (Ok a) e is same told = absurd (cc)
handed-on P (Err d) e is same told = let Q : LoadError → Type 0 = λ x. P (Err x) in subst Q (sym same) told

pub pairing-refused : (old new : Program) (u : Update) (filter : TypedExpr) (e : LoadError) (r : Result Resolution LoadError) → IsFilter old u.filter filter
    → PairingAnswers old new u (Err e) → IsErr r → IsErrAnd r (λ d. d ≡ e) → BetweenAnswers old new u r
pairing-refused old new u filter e r is told err same =
    let P : Result Resolution LoadError → Type 0 = λ x. BetweenAnswers old new u x in
    handed-on P r e err same (between-err old new u filter e is told)

-- what is refused between two programs is the refusal of the update
update-err : (plan : Plan) (codes : List Source) (number : ℕ) (u : Update) (old new : Source) (e : LoadError) → slice_get plan.update number ≡ Some u
    → slice_get codes (version_place plan u.server u.from) ≡ Some old → slice_get codes (length plan.server + number) ≡ Some new
    → BetweenAnswers old.program new.program u (Err e) → UpdateAnswers plan codes number (Err e)
update-err plan codes number u old new (Refused refusal) there old_is new_is told =
    record { refused = u; there = there; old = old; old_is = old_is; new = new; new_is = new_is; cause = told }
update-err plan codes number u old new ReadFault there old_is new_is never = absurd never
update-err plan codes number u old new Memory there old_is new_is told = tt

pub update-refused : (plan : Plan) (codes : List Source) (number : ℕ) (u : Update) (old new : Source) (e : LoadError) (r : Result UpdateSetup LoadError) → slice_get plan.update number ≡ Some u
    → slice_get codes (version_place plan u.server u.from) ≡ Some old → slice_get codes (length plan.server + number) ≡ Some new
    → BetweenAnswers old.program new.program u (Err e) → IsErr r → IsErrAnd r (λ d. d ≡ e) → UpdateAnswers plan codes number r
update-refused plan codes number u old new e r there old_is new_is told err same =
    let P : Result UpdateSetup LoadError → Type 0 = λ x. UpdateAnswers plan codes number x in
    handed-on P r e err same (update-err plan codes number u old new e there old_is new_is told)

updates-err : (plan : Plan) (codes : List Source) (number : ℕ) (us : List UpdateSetup) (e : LoadError) → AreUpdates plan codes number us
    → UpdateAnswers plan codes number (Err e) → UpdatesAnswers plan codes (Err e)
updates-err plan codes number us (Refused refusal) before told = record { number = number; updates = us; before = before; cause = told }
updates-err plan codes number us ReadFault before never = absurd never
updates-err plan codes number us Memory before told = tt

pub updates-refused : (plan : Plan) (codes : List Source) (number : ℕ) (us : List UpdateSetup) (e : LoadError) (r : Result (List UpdateSetup) LoadError) → AreUpdates plan codes number us
    → UpdateAnswers plan codes number (Err e) → IsErr r → IsErrAnd r (λ d. d ≡ e) → UpdatesAnswers plan codes r
updates-refused plan codes number us e r before told err same =
    let P : Result (List UpdateSetup) LoadError → Type 0 = λ x. UpdatesAnswers plan codes x in
    handed-on P r e err same (updates-err plan codes number us e before told)

-- ---- updates one after another

pub none-yet : (plan : Plan) (codes : List Source) → AreUpdates plan codes 0 []
none-yet plan codes = record { count_is = refl; each = λ k s e. absurd (cc) }

get-pushed : {A : Type 0} (xs : List A) (x : A) (k : ℕ) (y : A) → slice_get (xs ++ x ∷ []) k ≡ Some y → (slice_get xs k ≡ Some y) ⊎ ((k ≡ length xs) × (x ≡ y))
get-pushed [] x zero y e = inr (refl, cc)
get-pushed [] x (suc k) y e = absurd (cc)
get-pushed (z ∷ zs) x zero y e = inl e
get-pushed (z ∷ zs) x (suc k) y e = by (get-pushed zs x k y e)
  where
    by : (slice_get zs k ≡ Some y) ⊎ ((k ≡ length zs) × (x ≡ y)) → (slice_get (z ∷ zs) (suc k) ≡ Some y) ⊎ ((suc k ≡ length (z ∷ zs)) × (x ≡ y))
    by (inl there) = inl there
    by (inr (last, same)) = inr (ap suc last, same)

pub updates-more : (plan : Plan) (codes : List Source) (number : ℕ) (us : List UpdateSetup) (s : UpdateSetup) → AreUpdates plan codes number us
    → UpdateAnswers plan codes number (Ok s) → AreUpdates plan codes (number + 1) (us ++ s ∷ [])
updates-more plan codes number us s before told = record {
  count_is = omega (arith, length-append us (s ∷ []), before.count_is);
  each = λ k x e. by k x (get-pushed us s k x e);
}
  where
    by : (k : ℕ) (x : UpdateSetup) → (slice_get us k ≡ Some x) ⊎ ((k ≡ length us) × (s ≡ x))
        → (u : Update) × (slice_get plan.update k ≡ Some u) × IsUpdate plan codes k u x
    by k x (inl there) = before.each k x there
    by k x (inr (last, same)) =
        let P : ℕ → Type 0 = λ n. (u : Update) × (slice_get plan.update n ≡ Some u) × IsUpdate plan codes n u x in
        let Q : UpdateSetup → Type 0 = λ y. (u : Update) × (slice_get plan.update number ≡ Some u) × IsUpdate plan codes number u y in
        let at : number ≡ k = sym (last ∙ before.count_is) in
        subst P at (subst Q same told)

-- ---- places

any-before : {A : Type 0} (p : A → Bool) (xs : List A) (i : ℕ) → list_any p (take i xs) ≡ true → position_or_len p xs < length xs
any-before p [] zero some = absurd (cc)
any-before p [] (suc i) some = absurd (cc)
any-before p (x ∷ xs) zero some = absurd (cc)
any-before p (x ∷ xs) (suc i) some = by (p x) (position_or_len p xs) (λ later. any-before p xs i later) some
  where
    by : (b : Bool) (n : ℕ) → (list_any p (take i xs) ≡ true → n < length xs) → (b || list_any p (take i xs)) ≡ true → cond (not b) (1 + n) 0 < suc (length xs)
    by true n rest some = omega arith
    by false n rest some = let low = rest some in omega (arith, low)

or-len : (n m : ℕ) → n < m → unwrap_or (cond (nat_lt n m) (Some n) None) m < m
or-len n m low = let is : nat_lt n m ≡ true = grind (arith, nat_tests) in let P : Bool → Type 0 = λ b. unwrap_or (cond b (Some n) None) m < m in subst P (sym is) low

-- the place of a version that an update replaces is that of a source
pub place-within : (plan : Plan) (k : ℕ) (u : Update) → KeepsForms plan → slice_get plan.update k ≡ Some u
    → version_place plan u.server u.from < length plan.server + length plan.update
place-within plan k u keeps there =
    let kept = keeps.updates k u there in
    let low : u.server < length plan.server = slice_get_within plan.server u.server kept.own kept.server in
    let begins : begins_with plan.server u.server u.from ≡ nat_eq kept.own.version u.from =
    ap (λ o. option_map_or (λ (s : Server). nat_eq s.version u.from) o false) kept.server in
    by (begins_with plan.server u.server u.from) low
    (let R : Bool → Type 0 = λ b. (b || list_any (brings u.server u.from) (take k plan.update)) ≡ true in subst R (sym begins) kept.reached)
  where
    by : (b : Bool) → u.server < length plan.server → (b || list_any (brings u.server u.from) (take k plan.update)) ≡ true
        → (if b then u.server else length plan.server + bringing plan.update u.server u.from) < length plan.server + length plan.update
    by true low some = omega (arith, low)
    by false low some =
        let within = or-len (position_or_len (brings u.server u.from) plan.update) (length plan.update) (any-before (brings u.server u.from) plan.update k some) in
        omega (arith, within)

-- ---- an update's own parts

pub update-there : (updates list : List Update) (n : ℕ) (u : Update) → list ≡ updates → n < length updates → u ≡ get_or list n u → slice_get updates n ≡ Some u
update-there updates list n u same low here =
    let P : List Update → Type 0 = λ us. slice_get us n ≡ Some u in
    subst P same (slice_get_read list (length list) n u refl (omega (arith, ap length same, low)) here)

pub code-there : (codes : List Source) (n m : ℕ) (c : Source) → n ≡ m → n < length codes → c ≡ get_or codes n c → slice_get codes m ≡ Some c
code-there codes n m c same low here =
    let P : ℕ → Type 0 = λ k. slice_get codes k ≡ Some c in
    subst P same (slice_get_read codes (length codes) n c refl low here)

-- what is told of two programs is told of those of two codes
pub told-of-codes : (old new : Source) (p q : Program) (u : Update) (r : Result Resolution LoadError) → p ≡ old.program → q ≡ new.program
    → BetweenAnswers p q u r → BetweenAnswers old.program new.program u r
told-of-codes old new p q u r old_is new_is told =
    let P : Program → Type 0 = λ x. BetweenAnswers x q u r in
    let Q : Program → Type 0 = λ x. BetweenAnswers old.program x u r in
    subst Q new_is (subst P old_is told)
