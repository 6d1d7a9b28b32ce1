-- How the machine's program is made up.
use Rattle.std.proofs.Common.{◌≡◌, ◌∙◌, refl, sym, ap, subst, ℕ, zero, suc, ◌+◌, ◌<◌, ◌≤◌, Bool, true, false, cond, List, [], ◌∷◌, ◌++◌, length, take, drop, get_or, Option, Some, None, arith}
use Rattle.std.specs.Prelude.{map, ◌↔◌, IsTrue}
use Rattle.std.specs.Option.{option_map}
use Rattle.std.proofs.lemmas.Bool.Decides.{nat_tests}
use Rattle.std.proofs.lemmas.List.{drop_more}
use Rattle.c_types.specs.declared.parts.Parts.{Parts}
use Rattle.src_tree.specs.declared.value.Object.{Object}
use Rattle.src_tree.specs.declared.value.Store.{Store}
use Rattle.src_tree.specs.declared.program.Function.{Function}
use Rattle.src_tree.specs.declared.program.Global as Text
use Rattle.src_tree.specs.declared.program.Program.{Program}
use Rattle.src_meaning.specs.Objects.{addresses}
use Rattle.src_meaning.specs.ValueBytes.{object_bytes}
use Rattle.src_meaning.specs.Initial.{initial_object, initial_store}
use Rattle.src_meaning.specs.Weight.{weight}
use Rattle.bm_code.specs.declared.code.MachineCode.{MachineCode}
use Rattle.bm_code.specs.declared.code.MachineFunction.{MachineFunction}
use Rattle.bm_code.specs.declared.code.MachineGlobal.{MachineGlobal}
use Rattle.bm_code.specs.declared.code.MachineSite.{MachineSite}
use Rattle.cg_expr.specs.Code.{Target}
use Rattle.cg_stmt.specs.declared.weight.TheConstants.{GREATEST_WEIGHT}
use Rattle.cg_stmt.specs.Functions.{machine_function, filter_function}
use Rattle.cg_program.specs.Compiled.{Source, is_long, first_long, machine_global, machine_site, machine_functions, machine_code}
use Rattle.cg_program.specs.Parts.{live_bytes}

-- no function before number i is long
abbrev pub NoneBefore : List Function → ℕ → Type 0
NoneBefore fs i = first_long fs ≡ option_map (λ n. i + n) (first_long (drop i fs))

same_numbers : (o : Option ℕ) → o ≡ option_map (λ n. 0 + n) o
same_numbers None = refl
same_numbers (Some n) = ap Some (omega arith)

pub none_at_first : (fs : List Function) → NoneBefore fs 0
none_at_first [] = refl
none_at_first (f ∷ fs) = same_numbers (first_long (f ∷ fs))

one_more : (i : ℕ) (o : Option ℕ) → option_map (λ n. i + n) (option_map suc o) ≡ option_map (λ n. (i + 1) + n) o
one_more i None = refl
one_more i (Some n) = ap Some (omega arith)

-- a function that isn't long is passed
pub none_next : (fs : List Function) (i : ℕ) (f : Function) → i < length fs → f ≡ get_or fs i f → is_long f ≡ false → NoneBefore fs i → NoneBefore fs (i + 1)
none_next fs i f h is short n =
    let list : drop i fs ≡ f ∷ drop (i + 1) fs = drop_more fs i f h ∙ ap (λ y. y ∷ drop (i + 1) fs) (sym is) in
    n ∙ ap (λ l. option_map (λ n. i + n) (first_long l)) list
    ∙ ap (λ b. option_map (λ n. i + n) (cond b (Some 0) (option_map suc (first_long (drop (i + 1) fs))))) short
    ∙ one_more i (first_long (drop (i + 1) fs))

-- the first that is long
pub long_here : (fs : List Function) (i : ℕ) (f : Function) → i < length fs → f ≡ get_or fs i f → is_long f ≡ true → NoneBefore fs i → Some i ≡ first_long fs
long_here fs i f h is long n =
    let list : drop i fs ≡ f ∷ drop (i + 1) fs = drop_more fs i f h ∙ ap (λ y. y ∷ drop (i + 1) fs) (sym is) in
    let same : i ≡ i + 0 = omega arith in
    ap Some same
    ∙ sym (ap (λ l. option_map (λ n. i + n) (first_long l)) list ∙ ap (λ b. option_map (λ n. i + n) (cond b (Some 0) (option_map suc (first_long (drop (i + 1) fs))))) long)
    ∙ sym n

-- none is long
pub none_long : (fs : List Function) (i : ℕ) → length fs ≤ i → NoneBefore fs i → None ≡ first_long fs
none_long fs i h n = sym (n ∙ ap (λ l. option_map (λ n. i + n) (first_long l)) (all fs i h))
  where
    all : (fs : List Function) (i : ℕ) → length fs ≤ i → drop i fs ≡ []
    all [] zero h = refl
    all [] (suc i) h = refl
    all (f ∷ fs) zero h = absurd (omega arith)
    all (f ∷ fs) (suc i) h = all fs i (omega (arith, h))

-- a test that tells whether the weight passes the greatest
pub tells_long : (b : Bool) (f : Function) → (IsTrue b ↔ (GREATEST_WEIGHT < weight f)) → b ≡ is_long f
tells_long true f h = let passes = h.0 refl in grind (arith, nat_tests, passes)
tells_long false f h = by (is_long f) refl
  where
    by : (b : Bool) → is_long f ≡ b → false ≡ b
    by true e = h.1 (grind (arith, nat_tests))
    by false e = refl

get_map : {A B : Type 0} (f : A → B) (xs : List A) (ys : List B) (i : ℕ) (x : A) (y : B) → ys ≡ map f xs → i < length xs → x ≡ get_or xs i x → y ≡ get_or ys i y → y ≡ f x
get_map f xs ys i x y e h is at = at ∙ ap (λ l. get_or l i y) e ∙ entry xs i h ∙ ap f (sym is)
  where
    entry : (xs : List _) (i : ℕ) → i < length xs → get_or (map f xs) i y ≡ f (get_or xs i x)
    entry [] i h = absurd (omega arith)
    entry (z ∷ xs) zero h = refl
    entry (z ∷ xs) (suc i) h = entry xs i (omega (arith, h))

-- the next global, whose bytes are those of its object in the initial store
pub global_is : (p : Program) (i : ℕ) (g : Text.Global) (x : Object) (store : Store) (starts bytes : List ℕ) → store ≡ initial_store p → starts ≡ addresses p.types store → i < length p.globals → g ≡ get_or p.globals i g → x ≡ get_or store.objects i x → bytes ≡ live_bytes p.types starts x → record { name = g.name; ty = g.ty; bytes = bytes } ≡ machine_global p g
global_is p i g x store starts bytes s a h is at b =
    let object : x ≡ initial_object p g = get_map (initial_object p) p.globals store.objects i g x (ap (λ s. s.objects) s) h is at in
    let all : bytes ≡ object_bytes p.types (initial_store p) (initial_object p g) = b ∙ ap (λ l. live_bytes p.types l x) (a ∙ ap (addresses p.types) s) ∙ ap (live_bytes p.types (addresses p.types (initial_store p))) object in
    ap (λ l. record { name = g.name; ty = g.ty; bytes = l }) all

take_next : {A : Type 0} (xs : List A) (i : ℕ) (x : A) → i < length xs → x ≡ get_or xs i x → take (suc i) xs ≡ take i xs ++ x ∷ []
take_next [] i x h is = absurd (omega arith)
take_next (y ∷ xs) zero x h is = ap (λ z. z ∷ []) (sym is)
take_next (y ∷ xs) (suc i) x h is = ap (λ ys. y ∷ ys) (take_next xs i x (omega (arith, h)) is)

map_append : {A B : Type 0} (f : A → B) (xs ys : List A) → map f (xs ++ ys) ≡ map f xs ++ map f ys
map_append f [] ys = refl
map_append f (x ∷ xs) ys = ap (λ zs. f x ∷ zs) (map_append f xs ys)

pub global_next : (p : Program) (i : ℕ) (g : Text.Global) (x : Object) (store : Store) (starts bytes : List ℕ) (items : List Text.Global) (objects : List Object) (done next : List MachineGlobal) → items ≡ p.globals → objects ≡ store.objects → store ≡ initial_store p → starts ≡ addresses p.types store → i < length items → g ≡ get_or items i g → x ≡ get_or objects i x → bytes ≡ live_bytes p.types starts x → done ≡ map (machine_global p) (take i p.globals) → next ≡ done ++ record { name = g.name; ty = g.ty; bytes = bytes } ∷ [] → next ≡ map (machine_global p) (take (i + 1) p.globals)
global_next p i g x store starts bytes items objects done next l o s a h is at b d n =
    let there : i < length p.globals = subst (λ (l : List Text.Global). i < length l) l h in
    let global : g ≡ get_or p.globals i g = is ∙ ap (λ l. get_or l i g) l in
    let object : x ≡ get_or store.objects i x = at ∙ ap (λ l. get_or l i x) o in
    let more : suc i ≡ i + 1 = omega arith in
    n ∙ ap (λ l. l ++ record { name = g.name; ty = g.ty; bytes = bytes } ∷ []) d
    ∙ ap (λ m. map (machine_global p) (take i p.globals) ++ m ∷ []) (global_is p i g x store starts bytes s a there global object b)
    ∙ sym (map_append (machine_global p) (take i p.globals) (g ∷ []))
    ∙ ap (map (machine_global p)) (sym (take_next p.globals i g there global) ∙ ap (λ k. take k p.globals) more)

-- the program of its parts
pub code_is : (s : Source) (starts : List ℕ) (names : List (List ℕ)) (types : Parts) (functions : List MachineFunction) (globals : List MachineGlobal) (sites : List MachineSite) (filters : ℕ) → starts ≡ addresses s.program.types (initial_store s.program) → names ≡ s.program.names → types ≡ s.program.types → functions ≡ map (machine_function (record { types = s.program.types; starts = starts; functions = s.program.functions })) s.program.functions ++ map (filter_function (record { types = s.program.types; starts = starts; functions = s.program.functions }) (length s.program.names)) s.filters → globals ≡ map (machine_global s.program) s.program.globals → sites ≡ map machine_site s.program.sites → filters ≡ length s.filters → record { names = names; types = types; functions = functions; globals = globals; sites = sites; filters = filters } ≡ machine_code s
code_is s starts names types functions globals sites filters a n t f g k m =
    let at : List ℕ → Target = λ l. record { types = s.program.types; starts = l; functions = s.program.functions } in
    let all : functions ≡ machine_functions s = f ∙ ap (λ l. map (machine_function (at l)) s.program.functions ++ map (filter_function (at l) (length s.program.names)) s.filters) a in
    let made : List (List ℕ) → Parts → List MachineFunction → List MachineGlobal → List MachineSite → ℕ → MachineCode = λ n t f g k m. record { names = n; types = t; functions = f; globals = g; sites = k; filters = m } in
    ap (λ n. made n types functions globals sites filters) n
    ∙ ap (λ t. made s.program.names t functions globals sites filters) t
    ∙ ap (λ f. made s.program.names s.program.types f globals sites filters) all
    ∙ ap (λ g. made s.program.names s.program.types (machine_functions s) g sites filters) g
    ∙ ap (λ k. made s.program.names s.program.types (machine_functions s) (map (machine_global s.program) s.program.globals) k filters) k
    ∙ ap (λ m. made s.program.names s.program.types (machine_functions s) (map (machine_global s.program) s.program.globals) (map machine_site s.program.sites) m) m
