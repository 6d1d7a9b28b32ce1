-- Exits of a call that pairs.
use Rattle.std.proofs.Common.{◌≡◌, ◌∙◌, sym, ap, subst, refl, Option, Some, None, Result, Ok, Err}
use Rattle.std.specs.Result.{IsErrAnd}
use Rattle.lu_image.specs.declared.error.PairError.{PairError}
use Rattle.lu_image.specs.declared.error.PairError.TheVariants.{NoSuch, Twice, Memory}
use Rattle.lu_image.specs.declared.pairing.Pairing.{Pairing}
use Rattle.lu_image.specs.RenameRefusal.{or_else, unless_refused}
use Rattle.lu_pair.specs.Refusing.{IsErrorOf, IsRefusedBy, IsPairedBy}

-- want of memory
pub memory-refuses : {A : Type 0} (o : Option PairError) (r : Result A PairError) → IsErrAnd r (λ e. e ≡ Memory) → IsRefusedBy o r
memory-refuses o (Ok a) h = absurd h
memory-refuses o (Err e) h = subst (IsErrorOf o) (sym h) tt

-- an error that is passed on
pub error-refuses : {A : Type 0} (o : Option PairError) (e : PairError) (r : Result A PairError) → IsErrAnd r (λ d. d ≡ e) → IsErrorOf o e → IsRefusedBy o r
error-refuses o e (Ok a) h k = absurd h
error-refuses o e (Err d) h k = subst (IsErrorOf o) (sym h) k

pub error-first : (a b : Option PairError) (e : PairError) → IsErrorOf a e → IsErrorOf (or_else a b) e
error-first a b Memory h = tt
error-first a b (NoSuch table name) h = ap (λ o. or_else o b) h
error-first a b (Twice table name) h = ap (λ o. or_else o b) h

pub error-then : (a b : Option PairError) (e : PairError) → a ≡ None → IsErrorOf b e → IsErrorOf (or_else a b) e
error-then a b e h k = subst (λ o. IsErrorOf (or_else o b) e) (sym h) k

pub none-both : (a b : Option PairError) → a ≡ None → b ≡ None → or_else a b ≡ None
none-both a b h k = ap (λ o. or_else o b) h ∙ k

pub none-left : (a b : Option PairError) → or_else a b ≡ None → a ≡ None
none-left None b h = refl
none-left (Some e) b h = h

pub none-right : (a b : Option PairError) → or_else a b ≡ None → b ≡ None
none-right None b h = h
none-right (Some e) b h = cc

-- two refusals of tags and parts before what follows
pub or-regroup : (a b c : Option PairError) → or_else (or_else a b) c ≡ or_else a (or_else b c)
or-regroup None b c = refl
or-regroup (Some e) b c = refl

pub memory-pairs : (given : Result Pairing PairError) (r : Result Pairing PairError) → IsErrAnd r (λ e. e ≡ Memory) → IsPairedBy given r
memory-pairs given (Ok p) h = absurd h
memory-pairs given (Err e) h = subst (λ e. IsPairedBy given (Err e)) (sym h) tt

-- the answer where the definition refuses
pub refused-is : (o : Option PairError) (p : Pairing) (e : PairError) → IsErrorOf o e → IsPairedBy (unless_refused o p) (Err e)
refused-is o p Memory h = tt
refused-is o p (NoSuch table name) h = ap (λ o. unless_refused o p) h
refused-is o p (Twice table name) h = ap (λ o. unless_refused o p) h

pub error-pairs : (o : Option PairError) (p : Pairing) (e : PairError) (r : Result Pairing PairError) → IsErrAnd r (λ d. d ≡ e) → IsErrorOf o e → IsPairedBy (unless_refused o p) r
error-pairs o p e (Ok a) h k = absurd h
error-pairs o p e (Err d) h k = subst (λ d. IsPairedBy (unless_refused o p) (Err d)) (sym h) (refused-is o p e k)
