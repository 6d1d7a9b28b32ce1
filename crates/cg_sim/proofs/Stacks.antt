-- Words on the operand stack, and the types of arguments and results.
use Rattle.std.proofs.Common.{◌≡◌, ◌∙◌, refl, ap, sym, subst, true, ℕ, zero, suc, ◌+◌, ◌%◌, ◌^◌, ◌<◌, List, [], ◌∷◌, ◌++◌, length, map, Option, Some, None, arith}
use Rattle.std.specs.Prelude.{slice_get, slice_set, nat_eq, ℤ, pos, negsuc}
use Rattle.std.proofs.lemmas.List.{append-nil}
use Rattle.std.proofs.lemmas.Bool.Decides.{nat_tests}
use Rattle.std.specs.Int.{w32, cast_signed}
use Rattle.std.proofs.lemmas.Int.{ints}
use Rattle.src_tree.specs.declared.value.Value.{Value}
use Rattle.src_tree.specs.declared.value.Store.{Store}
use Rattle.c_types.specs.declared.parts.Ty.{Ty}
use Rattle.c_types.specs.declared.parts.Ty.TheVariants as T
use Rattle.c_types.specs.declared.parts.IntKind.TheVariants as K
use Rattle.bm_alu.specs.Words.{of_signed}
use Rattle.src_meaning.specs.Integers.{is_held, residue}
use Rattle.src_tree.specs.declared.program.Program.{Program}
use Rattle.src_tree.specs.declared.expr.TypedExpr.{TypedExpr}
use Rattle.src_meaning.specs.ValidTypes.{is_scalar, is_int, is_long_long, is_void_pointer}
use Rattle.src_meaning.specs.ValidExpression.{Declarations}
use Rattle.src_meaning.specs.ValidStatement.{is_argument, are_arguments}
use Rattle.src_meaning.specs.Call.{Outcome, Goes_on, Breaks, Continues, Leaves, go_on}
use Rattle.src_meaning.proofs.LayoutLengths.{and_left, and_right}
use Rattle.bm_code.specs.Transfers.{pop_words}
use Rattle.c_types.specs.Refusal.{IsBuilt}
use Rattle.cg_state.proofs.Typed.{Typed}
use Rattle.cg_state.proofs.Words.{held_pos, held_neg, wrapped_of_held}
use Rattle.cg_sim.proofs.Kept.{AllTyped}
use Rattle.src_tree.specs.Signatures.{same_numbers, same_result}

pub length-all : (p : Program) (built : IsBuilt p.types) (s : Store) (us : List ℕ) (vs : List Value) → AllTyped p built s us vs → length vs ≡ length us
length-all p built s [] [] h = refl
length-all p built s [] (v ∷ vs) h = absurd h
length-all p built s (u ∷ us) [] h = absurd h
length-all p built s (u ∷ us) (v ∷ vs) h = omega (arith, length-all p built s us vs h.2)

pub length-map_ : {A B : Type 0} (g : A → B) (xs : List A) → length (map g xs) ≡ length xs
length-map_ g [] = refl
length-map_ g (x ∷ xs) = ap suc (length-map_ g xs)

pub all_set : (p : Program) (built : IsBuilt p.types) (s : Store) (us : List ℕ) (vs : List Value) (x u : ℕ) (v : Value) → AllTyped p built s us vs → slice_get us x ≡ Some u → Typed p built s u v → AllTyped p built s us (slice_set vs x v)
all_set p built s [] vs x u v h e g = absurd (cc)
all_set p built s (w ∷ us) [] x u v h e g = absurd h
all_set p built s (w ∷ us) (y ∷ vs) zero u v h e g = let same : w ≡ u = cc in (h.0, subst (λ t. Typed p built s t v) (sym same) g, h.2)
all_set p built s (w ∷ us) (y ∷ vs) (suc x) u v h e g = (h.0, h.1, all_set p built s us vs x u v h.2 e g)

pub within_all : (us : List ℕ) (x u : ℕ) → slice_get us x ≡ Some u → x < length us
within_all [] x u e = absurd (cc)
within_all (w ∷ us) zero u e = omega arith
within_all (w ∷ us) (suc x) u e = omega (arith, within_all us x u e)

-- words on the stack, in order
abbrev pub push_all : List ℕ → List ℕ → List ℕ
push_all [] stack = stack
push_all (w ∷ ws) stack = push_all ws (w ∷ stack)

pop_pushed : (ws stack words : List ℕ) (n k : ℕ) → n ≡ length ws + k → pop_words n (push_all ws stack) words ≡ pop_words k stack (ws ++ words)
pop_pushed [] stack words n k e = let same : n ≡ k = omega arith in ap (λ n. pop_words n stack words) same
pop_pushed (w ∷ ws) stack words n k e = pop_pushed ws (w ∷ stack) words n (suc k) (omega arith)

pub pop_all : (ws : List ℕ) (n : ℕ) → n ≡ length ws → pop_words n (push_all ws []) [] ≡ Some (ws, [])
pop_all ws n e = pop_pushed ws [] [] n 0 (omega arith) ∙ ap (λ l. Some (l, [])) (append-nil ws)

pub ints_scalar : (o : Option Ty) → is_int o ≡ true → is_scalar o ≡ true
ints_scalar (Some (T.Int K.Int)) h = refl
ints_scalar _ h = absurd (cc)

pub int_type : (o : Option Ty) → is_int o ≡ true → o ≡ Some (T.Int K.Int)
int_type (Some (T.Int K.Int)) h = refl
int_type _ h = absurd (cc)

pub voids_scalar : (o : Option Ty) → is_void_pointer o ≡ true → is_scalar o ≡ true
voids_scalar (Some T.VoidPointer) h = refl
voids_scalar _ h = absurd (cc)

pub void_type : (o : Option Ty) → is_void_pointer o ≡ true → o ≡ Some T.VoidPointer
void_type (Some T.VoidPointer) h = refl
void_type _ h = absurd (cc)

pub longs_scalar : (o : Option Ty) → is_long_long o ≡ true → is_scalar o ≡ true
longs_scalar (Some (T.Int K.LongLong)) h = refl
longs_scalar _ h = absurd (cc)

pub long_type : (o : Option Ty) → is_long_long o ≡ true → o ≡ Some (T.Int K.LongLong)
long_type (Some (T.Int K.LongLong)) h = refl
long_type _ h = absurd (cc)

pub int_back : (z : ℤ) → is_held K.Int z ≡ true → cast_signed w32 (of_signed z % 2 ^ 32) ≡ z
int_back z h = ap (cast_signed w32) (bits z h) ∙ wrapped_of_held K.Int z h
  where
    bits : (z : ℤ) → is_held K.Int z ≡ true → of_signed z % 2 ^ 32 ≡ residue K.Int z
    bits (pos n) h = let b = held_pos K.Int n h in omega (arith, ints, b)
    bits (negsuc n) h = let b = held_neg K.Int n h in omega (arith, ints, b)

pub pop_over : (ws stack : List ℕ) (n : ℕ) → n ≡ length ws → pop_words n (push_all ws stack) [] ≡ Some (ws, stack)
pop_over ws stack n e = pop_pushed ws stack [] n 0 (omega arith) ∙ ap (λ l. Some (l, stack)) (append-nil ws)

pub numbers_same : (xs ys : List ℕ) → same_numbers xs ys ≡ true → xs ≡ ys
numbers_same [] [] h = refl
numbers_same [] (y ∷ ys) h = absurd (cc)
numbers_same (x ∷ xs) [] h = absurd (cc)
numbers_same (x ∷ xs) (y ∷ ys) h =
    let one : x ≡ y = number_same x y (and_left (nat_eq x y) (same_numbers xs ys) h) in
    let rest = numbers_same xs ys (and_right (nat_eq x y) (same_numbers xs ys) h) in
    ap (λ x. x ∷ xs) one ∙ ap (λ xs. y ∷ xs) rest
  where
    number_same : (x y : ℕ) → nat_eq x y ≡ true → x ≡ y
    number_same x y h = grind (arith, nat_tests, h)

pub results_same : (a b : Option ℕ) → same_result a b ≡ true → a ≡ b
results_same None None h = refl
results_same (Some a) (Some b) h = let same : a ≡ b = grind (arith, nat_tests, h) in ap Some same
results_same None (Some b) h = absurd (cc)
results_same (Some a) None h = absurd (cc)

pub length-given : (d : Declarations) (n : ℕ) (ts : List ℕ) (es : List TypedExpr) → are_arguments d n ts es ≡ true → length es ≡ length ts
length-given d n [] [] h = refl
length-given d n [] (e ∷ es) h = absurd (cc)
length-given d n (t ∷ ts) [] h = absurd (cc)
length-given d n (t ∷ ts) (e ∷ es) h = ap suc (length-given d n ts es (and_right (is_argument d n t e) (are_arguments d n ts es) h))

pub goes_same : (o : Outcome) → go_on o Goes_on ≡ o
goes_same (Goes_on s) = refl
goes_same (Breaks s) = refl
goes_same (Continues s) = refl
goes_same (Leaves e) = refl
