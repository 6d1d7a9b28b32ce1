-- The servers of a plan, one after the other.
use Rattle.std.proofs.Common.{◌≡◌, ◌<◌, ◌≤◌, ℕ, zero, suc, List, [], ◌∷◌, ◌++◌, length, Some, refl, sym, ◌∙◌, ap, subst, arith, slice_get}
use Rattle.std.proofs.Math.ListN.{get_or}
use Rattle.std.proofs.lemmas.Option.{slice_get-get_or}
use Rattle.plan_file.specs.declared.plan.Server.{Server}
use Rattle.cg_program.specs.Compiled.{Source}
use Rattle.sys_run.specs.declared.system.ServerCode.{ServerCode}
use Rattle.lu_cli.specs.Told.{IsServerOf}

-- what holds of the servers so far, each against the plan's server and code at its place
abbrev pub EachIs : List Server → List Source → List ServerCode → Type 0
EachIs servers codes found = (k : ℕ) (x : Server) (c : Source) (s : ServerCode) → slice_get servers k ≡ Some x
    → slice_get codes k ≡ Some c → slice_get found k ≡ Some s → IsServerOf x c s

pub none-found : (servers : List Server) (codes : List Source) → EachIs servers codes []
none-found servers codes k x c s a b e = absurd (cc)

-- one more at the end
pub one-more : (servers : List Server) (codes : List Source) (found : List ServerCode) (x : Server) (c : Source) (s : ServerCode)
    → EachIs servers codes found → slice_get servers (length found) ≡ Some x → slice_get codes (length found) ≡ Some c → IsServerOf x c s
    → EachIs servers codes (found ++ s ∷ [])
one-more [] codes found x c s each a b is k x2 c2 s2 a2 b2 e2 = absurd (cc)
one-more (y ∷ ys) [] found x c s each a b is k x2 c2 s2 a2 b2 e2 = absurd (cc)
one-more (y ∷ ys) (d ∷ ds) [] x c s each a b is zero x2 c2 s2 a2 b2 e2 =
    let same_x : x ≡ x2 = cc in let same_c : c ≡ c2 = cc in let same_s : s ≡ s2 = cc in
    subst (λ x. IsServerOf x c2 s2) same_x (subst (λ c. IsServerOf x c s2) same_c (subst (λ s. IsServerOf x c s) same_s is))
one-more (y ∷ ys) (d ∷ ds) [] x c s each a b is (suc k) x2 c2 s2 a2 b2 e2 = absurd (cc)
one-more (y ∷ ys) (d ∷ ds) (f ∷ fs) x c s each a b is zero x2 c2 s2 a2 b2 e2 = each zero x2 c2 s2 a2 b2 e2
one-more (y ∷ ys) (d ∷ ds) (f ∷ fs) x c s each a b is (suc k) x2 c2 s2 a2 b2 e2 =
    one-more ys ds fs x c s (λ k x c s. each (suc k) x c s) a b is k x2 c2 s2 a2 b2 e2

-- what is read at a place of an equal list
pub read-at : {A : Type 0} (xs whole : List A) (n : ℕ) (x : A) → xs ≡ whole → n < length whole → x ≡ get_or xs n x → slice_get whole n ≡ Some x
read-at xs whole n x same within is =
    slice_get-get_or whole n x within ∙ ap (λ l. Some (get_or l n x)) (sym same) ∙ ap (λ x. Some x) (sym is)

pub next-is : (servers : List Server) (codes : List Source) (found more : List ServerCode) (n : ℕ) (x : Server) (c : Source) (s : ServerCode)
    → EachIs servers codes found → length found ≡ n → more ≡ found ++ s ∷ [] → slice_get servers n ≡ Some x → slice_get codes n ≡ Some c
    → IsServerOf x c s → EachIs servers codes more
next-is servers codes found more n x c s each count pushed at_x at_c is =
    subst (EachIs servers codes) (sym pushed)
    (one-more servers codes found x c s each (ap (slice_get servers) count ∙ at_x) (ap (slice_get codes) count ∙ at_c) is)
