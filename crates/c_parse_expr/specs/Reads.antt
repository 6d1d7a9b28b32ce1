-- What reading from the front of a text gives, and how readers are put together.
use Rattle.std.specs.Prelude.{◌≡◌, ℕ, zero, suc, Bool, cond, List, [], ◌∷◌, ◌++◌, length, Option, Some, None, Result, Ok, Err}
use Rattle.c_ast.specs.declared.token.Token.{Token}
use Rattle.c_ast.specs.declared.fault.Fault.{Fault}
use Rattle.c_ast.specs.declared.fault.Fault.TheVariants.{Syntax, TooDeep}
use Rattle.c_parse_expr.specs.declared.error.ReadError.{ReadError}
use Rattle.c_parse_expr.specs.declared.error.ReadError.TheVariants as error

-- a value and the rest of the text, or why there is none
abbrev pub Reads : Type 0 → Type 0
Reads A = Result (A × List Token) Fault

abbrev pub Reader : Type 0 → Type 0
Reader A = List Token → Reads A

infixl 10 ◌>>=◌
abbrev pub ◌>>=◌ : {A B : Type 0} → Reads A → (A × List Token → Reads B) → Reads B
(Ok p) >>= f = f p
(Err e) >>= f = Err e

abbrev pub made : {A B : Type 0} → (A → B) → Reads A → Reads B
made g r = r >>= (λ p. Ok (g p.0, p.1))

abbrev pub pair_of : {A B : Type 0} → Reads A → (A × List Token → Reads B) → Reads (A × B)
pair_of r f = r >>= (λ p. f p >>= (λ q. Ok ((p.0, q.0), q.1)))

-- the parts of a value
abbrev pub build : {A B : Type 0} → (A → B) → Reader A → Reader B
build g a ts = made g (a ts)

-- one, then another
infixr 20 ◌⊳◌
abbrev pub ◌⊳◌ : {A B : Type 0} → Reader A → Reader B → Reader (A × B)
(a ⊳ b) ts = pair_of (a ts) (λ p. b p.1)

-- one, then another that depends on it
abbrev pub then_by : {A B : Type 0} → Reader A → (A → Reader B) → Reader (A × B)
then_by a b ts = pair_of (a ts) (λ p. b p.0 p.1)

abbrev pub give : {A : Type 0} → A → Reader A
give a ts = Ok (a, ts)

-- one or the other, by what comes next
abbrev pub choose : {A : Type 0} → (List Token → Bool) → Reader A → Reader A → Reader A
choose test a b ts = cond (test ts) (a ts) (b ts)

abbrev pub optional : {A : Type 0} → (List Token → Bool) → Reader A → Reader (Option A)
optional test a = choose test (build Some a) (give None)

-- none where a test says so
abbrev pub unless : {A : Type 0} → (List Token → Bool) → Reader A → Reader (Option A)
unless test a = choose test (give None) (build Some a)

abbrev pub one_of : {A : Type 0} → Option A → List Token → Reads A
one_of None ts = Err Syntax
one_of (Some a) ts = Ok (a, ts)

-- one token, if it is picked
abbrev pub one : {A : Type 0} → (Token → Option A) → Reader A
one pick [] = Err Syntax
one pick (t ∷ ts) = one_of (pick t) ts

-- A chain: each step is begun where `more` says so, and joined to what was read; no more than room says.
unfoldable pub climb : {T S : Type 0} → (List Token → Bool) → Reader S → (T → S → T) → ℕ → T → Reader T
climb more step join zero base ts = cond (more ts) (Err TooDeep) (Ok (base, ts))
climb more step join (suc room) base ts = cond (more ts) (step ts >>= (λ p. climb more step join room (join base p.0) p.1)) (Ok (base, ts))

-- without room, a limit is passed where a tree begins
abbrev pub limit_fault : Bool → Fault
limit_fault b = cond b TooDeep Syntax

abbrev pub at_limit : {A : Type 0} → (List Token → Bool) → Reader A
at_limit begins ts = Err (limit_fault (begins ts))

abbrev pub snoc : {A : Type 0} → List A → A → List A
snoc xs x = xs ++ (x ∷ [])

-- one, and then more of them while a test says so
abbrev pub some_of : {A : Type 0} → Reader A → (List Token → Bool) → Reader A → Reader (List A)
some_of item more step ts = item ts >>= (λ a. climb more step snoc (length a.1) (a.0 ∷ []) a.1)

abbrev pub list_if_any : {A : Type 0} → Option (List A) → List A
list_if_any None = []
list_if_any (Some xs) = xs

-- ---- what a function of src/ gives, seen by view: what reading gives, unless memory was wanted

abbrev pub Fails : {B : Type 0} → ReadError → Reads B → Type 0
Fails error.Memory read = Unit {0}
Fails (error.Refused fault) read = read ≡ Err fault

abbrev pub Gives : {A B : Type 0} → (A → B × List Token) → Result A ReadError → Reads B → Type 0
Gives view (Ok a) read = read ≡ Ok (view a)
Gives view (Err e) read = Fails e read
