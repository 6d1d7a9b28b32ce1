-- What is told of a call step by step.
use Rattle.std.proofs.Common.{◌≡◌, ◌∙◌, ap, sym, ℕ, suc, ◌+◌, ◌<◌, List, [], ◌∷◌, ◌++◌, length, drop, get_or, Option, Result, Ok, Err, add-one, subst}
use Rattle.std.proofs.Math.Seq.{drop-cons}
use Rattle.std.specs.Prelude.{IsErr, IsErrAnd}
use Rattle.lu_spec.specs.Then.{then_do}
use Rattle.src_tree.specs.declared.program.Program.{Program}
use Rattle.plan_file.specs.declared.plan.Handler as Planned
use Rattle.lu_image.specs.declared.handler.Handler.{Handler}
use Rattle.lu_image.specs.declared.pairing.Pairing.{Pairing}
use Rattle.lu_image.specs.declared.error.PairError.{PairError}
use Rattle.lu_image.specs.declared.error.PairError.TheVariants as pair_error
use Rattle.lu_pair.specs.Refusing.{IsPairedBy}
use Rattle.lu_resolve.specs.declared.error.ResolveError.{ResolveError}
use Rattle.lu_resolve.specs.declared.error.ResolveError.TheVariants.{Refused, Memory}
use Rattle.lu_resolve.specs.Causes.{Gives, pair_cause}
use Rattle.plan_file.specs.declared.plan.Update.{Update}
use Rattle.lu_image.specs.RenameRefusal.{pair}
use Rattle.lu_resolve.specs.Renames.{renames_of}
use Rattle.lu_resolve.specs.Handlers.{handler_of, handlers_onto, last_of}
use Rattle.lu_resolve.specs.Updates.{or_cause, dangling_of, with_calls, resolved}

-- a step that is refused is the refusal of the whole
pub gives-err : {A B : Type 0} (r : Result A ResolveError) (f : A → Result B ResolveError) (whole : Result B ResolveError) (e : ResolveError)
    → whole ≡ then_do r f → Gives r (Err e) → Gives whole (Err e)
gives-err r f whole (Refused why) is told = is ∙ ap (λ x. then_do x f) told
gives-err r f whole Memory is told = tt

pub gives-ok : {A : Type 0} (given r : Result A ResolveError) (a : A) → Gives given r → r ≡ Ok a → given ≡ Ok a
gives-ok given (Ok b) a told is = let same : b ≡ a = cc in told ∙ ap Ok same
gives-ok given (Err e) a told is = absurd (cc)

pub gives-at : {A : Type 0} (given r : Result A ResolveError) (e : ResolveError) → Gives given r → r ≡ Err e → Gives given (Err e)
gives-at given (Ok b) e told is = absurd (cc)
gives-at {A} given (Err d) e told is =
    let same : d ≡ e = cc in
    let P : ResolveError → Type 0 = λ x. Gives given (let r : Result A ResolveError = Err x in r) in
    subst P same told

pub paired-ok : (given r : Result Pairing PairError) (p : Pairing) → IsPairedBy given r → r ≡ Ok p → or_cause given ≡ Ok p
paired-ok given (Ok q) p told is = let same : q ≡ p = cc in ap or_cause told ∙ ap Ok same
paired-ok given (Err e) p told is = absurd (cc)

told-err : (given : Result Pairing PairError) (e : PairError) → IsPairedBy given (Err e) → Gives (or_cause given) (Err (pair_cause e))
told-err given pair_error.Memory told = tt
told-err given (pair_error.NoSuch table name) told = ap or_cause told
told-err given (pair_error.Twice table name) told = ap or_cause told

pub paired-err : (given r : Result Pairing PairError) (e : PairError) → IsPairedBy given r → r ≡ Err e → Gives (or_cause given) (Err (pair_cause e))
paired-err given (Ok q) e told is = absurd (cc)
paired-err given (Err d) e told is =
    let same : d ≡ e = cc in
    let P : PairError → Type 0 = λ x. IsPairedBy given (Err x) in
    told-err given e (subst P same told)

module _ (old new : Program) (pairs : List (Option ℕ)) where
  -- the handler at a place is the next one
  pub onto-next : (done : List Handler) (ps : List Planned.Handler) (i : ℕ) (p : Planned.Handler) → i < length ps → p ≡ get_or ps i p
      → handlers_onto old new pairs done (drop i ps) ≡ then_do (handler_of old new pairs done p) (λ h. handlers_onto old new pairs (done ++ h ∷ []) (drop (i + 1) ps))
  onto-next done ps i p low here =
      let front : drop i ps ≡ p ∷ drop (i + 1) ps =
      drop-cons ps i p low ∙ (ap (λ x. x ∷ drop (suc i) ps) (sym here) ∙ ap (λ k. p ∷ drop k ps) (sym (add-one i))) in
      ap (handlers_onto old new pairs done) front

pub gives-like : {A : Type 0} (given : Result A ResolveError) (e d : ResolveError) → e ≡ d → Gives given (Err d) → Gives given (Err e)
gives-like {A} given e d same told =
    let P : ResolveError → Type 0 = λ x. Gives given (let r : Result A ResolveError = Err x in r) in
    subst P (sym same) told

-- what is refused of the handlers, or of the last call, is the refusal of the whole
pub handlers-refused : (old new : Program) (u : Update) (p : Pairing) (e : ResolveError)
    → or_cause (pair old new (renames_of u.rename)) ≡ Ok p
    → Gives (handlers_onto old new p.structs [] u.handler) (Err e) → Gives (resolved old new u) (Err e)
handlers-refused old new u p e paired told =
    gives-err (handlers_onto old new p.structs [] u.handler) (λ hs. then_do (last_of new u.after) (λ f. Ok (with_calls p (dangling_of u.dangling) hs f)))
    (resolved old new u) e
    (ap (λ x. then_do x (λ q. then_do (handlers_onto old new q.structs [] u.handler) (λ hs. then_do (last_of new u.after) (λ f. Ok (with_calls q (dangling_of u.dangling) hs f))))) paired)
    told

pub last-refused : (old new : Program) (u : Update) (p : Pairing) (hs : List Handler) (e : ResolveError)
    → or_cause (pair old new (renames_of u.rename)) ≡ Ok p
    → handlers_onto old new p.structs [] u.handler ≡ Ok hs
    → Gives (last_of new u.after) (Err e) → Gives (resolved old new u) (Err e)
last-refused old new u p hs e paired handled told =
    gives-err (last_of new u.after) (λ f. Ok (with_calls p (dangling_of u.dangling) hs f))
    (resolved old new u) e
    (ap (λ x. then_do x (λ q. then_do (handlers_onto old new q.structs [] u.handler) (λ gs. then_do (last_of new u.after) (λ f. Ok (with_calls q (dangling_of u.dangling) gs f))))) paired
    ∙ ap (λ x. then_do x (λ gs. then_do (last_of new u.after) (λ f. Ok (with_calls p (dangling_of u.dangling) gs f)))) handled)
    told

pub resolved-ok : (old new : Program) (u : Update) (p : Pairing) (hs : List Handler) (f : Option ℕ)
    → or_cause (pair old new (renames_of u.rename)) ≡ Ok p
    → handlers_onto old new p.structs [] u.handler ≡ Ok hs → last_of new u.after ≡ Ok f
    → resolved old new u ≡ Ok (with_calls p (dangling_of u.dangling) hs f)
resolved-ok old new u p hs f paired handled last =
    ap (λ x. then_do x (λ q. then_do (handlers_onto old new q.structs [] u.handler) (λ gs. then_do (last_of new u.after) (λ f. Ok (with_calls q (dangling_of u.dangling) gs f))))) paired
    ∙ (ap (λ x. then_do x (λ gs. then_do (last_of new u.after) (λ f. Ok (with_calls p (dangling_of u.dangling) gs f)))) handled
    ∙ ap (λ x. then_do x (λ f. Ok (with_calls p (dangling_of u.dangling) hs f))) last)

pub residual-gives : {A : Type 0} (given r : Result A ResolveError) (e : ResolveError) → IsErr r → IsErrAnd r (λ d. d ≡ e)
    → Gives given (let x : Result A ResolveError = Err e in x) → Gives given r
residual-gives given (Ok a) e is and told = absurd (cc)
residual-gives given (Err d) e is and told = gives-like given d e and told
