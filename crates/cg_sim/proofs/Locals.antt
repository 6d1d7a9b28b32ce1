-- Each local of a valid function has a scalar type, since the body declares it, and each site's type some size.
use Rattle.std.proofs.Common.{◌≡◌, ◌∙◌, refl, ap, sym, subst, Bool, true, false, ◌&&◌, cond, ℕ, zero, suc, ◌+◌, ◌-◌, ◌<◌, ◌≤◌, List, [], ◌∷◌, ◌++◌, length, Option, Some, None, arith, nat_lt, nat_eq}
use Rattle.std.specs.Prelude.{slice_get}
use Rattle.std.specs.List.{list_all}
use Rattle.std.specs.Option.{option_map_or}
use Rattle.std.proofs.lemmas.List.Folds.{list_all-append}
use Rattle.std.proofs.lemmas.Option.{slice_get_within}
use Rattle.std.proofs.lemmas.Bool.Decides.{nat_tests}
use Rattle.c_types.specs.declared.parts.Ty.{Ty}
use Rattle.c_types.specs.Layout.{size_of}
use Rattle.c_types.proofs.PlaceLaws.{size-low}
use Rattle.src_tree.specs.declared.stmt.Callee.{Callee}
use Rattle.src_tree.specs.declared.stmt.Callee.TheVariants.{Function as Named, Pointer, Send, Malloc, Calloc, Free, Panic as Panics}
use Rattle.src_tree.specs.declared.stmt.Rhs.{Rhs}
use Rattle.src_tree.specs.declared.stmt.Rhs.TheVariants.{Value as Plain, Call as Result_of}
use Rattle.src_tree.specs.declared.stmt.TypedStmt.{TypedStmt, Block', Empty, Declare, SetLocal, Assign, Call, If', While', For', Break, Continue, Return, Row_of-TypedStmt, end_of-TypedStmt, more_of-TypedStmt}
use Rattle.src_meaning.specs.declared.validity.Next.{Next}
use Rattle.src_tree.specs.declared.program.Function.{Function}
use Rattle.src_tree.specs.declared.program.Site.{Site}
use Rattle.src_tree.specs.declared.program.Program.{Program}
use Rattle.src_meaning.specs.ValidTypes.{is_scalar, is_declared_scalar, is_named, is_starred}
use Rattle.src_meaning.specs.ValidExpression.{Declarations, local_type, local_behind}
use Rattle.src_meaning.specs.ValidNumbering.{Mark, local, site, callee_marks, right_marks, optional_marks, marks, row_marks, body_marks, is_site_of, after_marks, after_body, first_of, ends_at, is_function_numbered, are_functions_numbered}
use Rattle.src_meaning.specs.Valid.{declarations_of}
use Rattle.src_meaning.specs.ValidStatement.{is_statement, are_row, are_statements, is_declaration, is_local_start, is_test, is_loop_condition, is_optional, is_optional_simple}
use Rattle.src_meaning.proofs.LayoutLengths.{and_left, and_right}
use Rattle.c_types.specs.Refusal.{IsBuilt}

module _ (d : Declarations) where
  -- a local of a scalar type
  abbrev is_good : ℕ → Bool
  is_good x = option_map_or (λ t. is_scalar (slice_get d.program.types.types t)) (local_type d x) false

  abbrev good_mark : Mark → Bool
  good_mark (local x) = is_good x
  good_mark (site k) = true

  abbrev AreGood : List Mark → Type 0
  AreGood ms = list_all good_mark ms ≡ true

  good_callee : (c : Callee) → AreGood (callee_marks c)
  good_callee (Malloc k) = refl
  good_callee (Calloc k) = refl
  good_callee (Named f) = refl
  good_callee (Pointer e) = refl
  good_callee Send = refl
  good_callee Free = refl
  good_callee Panics = refl

  good_right : (r : Rhs) → AreGood (right_marks r)
  good_right (Plain e) = refl
  good_right (Result_of c t) = good_callee c.callee

  good_optional : (r : Option Rhs) → AreGood (optional_marks r)
  good_optional None = refl
  good_optional (Some r) = good_right r

  good_both : (xs ys : List Mark) → AreGood xs → AreGood ys → AreGood (xs ++ ys)
  good_both xs ys hx hy = list_all-append good_mark xs ys ∙ (ap (λ b. b && list_all good_mark ys) hx ∙ hy)

  declared_good : (x room : ℕ) (r : Option Rhs) → option_map_or (is_declaration d room r) (local_type d x) false ≡ true → is_good x ≡ true
  declared_good x room r h = by (local_type d x) h
    where
      by : (o : Option ℕ) → option_map_or (is_declaration d room r) o false ≡ true → option_map_or (λ t. is_scalar (slice_get d.program.types.types t)) o false ≡ true
      by None h = absurd (cc)
      by (Some t) h =
          and_left (is_scalar (slice_get d.program.types.types t)) _ (and_left (is_declared_scalar d.program.types room t) (is_local_start d room t r) h)

  mutual
    statement_good : (x : TypedStmt) (ret : Option ℕ) (in_loop : Bool) (room : ℕ) → is_statement d ret in_loop room x ≡ true → AreGood (marks x)
    statement_good (Block' m body) ret in_loop room h = row_good body ret in_loop (room - 2) (and_right (nat_lt 1 room) (are_row d ret in_loop (room - 2) body) h)
    statement_good Empty ret in_loop room h = refl
    statement_good (Declare x r) ret in_loop room h = ap (λ b. b && list_all good_mark (optional_marks r)) (declared_good x room r h) ∙ good_optional r
    statement_good (SetLocal x r) ret in_loop room h = good_right r
    statement_good (Assign to r) ret in_loop room h = good_right r
    statement_good (Call c) ret in_loop room h = good_callee c.callee
    statement_good (If' e m a n b) ret in_loop room h =
        let rest = and_right (is_test d room e) (are_row d ret in_loop (room - 1) a && (is_optional b && are_row d ret in_loop (room - 1) b)) h in
        let other = and_right (are_row d ret in_loop (room - 1) a) (is_optional b && are_row d ret in_loop (room - 1) b) rest in
        good_both (row_marks a) (row_marks b) (row_good a ret in_loop (room - 1) (and_left (are_row d ret in_loop (room - 1) a) (is_optional b && are_row d ret in_loop (room - 1) b) rest)) (row_good b ret in_loop (room - 1) (and_right (is_optional b) (are_row d ret in_loop (room - 1) b) other))
    statement_good (While' e m body) ret in_loop room h = row_good body ret true (room - 1) (and_right (is_test d room e) (are_row d ret true (room - 1) body) h)
    statement_good (For' m first e n step k body) ret in_loop room h =
        let h1 = and_right (is_optional_simple first) (are_row d ret in_loop room first && (is_loop_condition d room e && (is_optional_simple step && (are_row d ret in_loop room step && are_row d ret true (room - 1) body)))) h in
        let h2 = and_right (are_row d ret in_loop room first) (is_loop_condition d room e && (is_optional_simple step && (are_row d ret in_loop room step && are_row d ret true (room - 1) body))) h1 in
        let h3 = and_right (is_loop_condition d room e) (is_optional_simple step && (are_row d ret in_loop room step && are_row d ret true (room - 1) body)) h2 in
        let h4 = and_right (is_optional_simple step) (are_row d ret in_loop room step && are_row d ret true (room - 1) body) h3 in
        good_both (row_marks first) (row_marks step ++ row_marks body) (row_good first ret in_loop room (and_left (are_row d ret in_loop room first) _ h1)) (good_both (row_marks step) (row_marks body) (row_good step ret in_loop room (and_left (are_row d ret in_loop room step) (are_row d ret true (room - 1) body) h4)) (row_good body ret true (room - 1) (and_right (are_row d ret in_loop room step) (are_row d ret true (room - 1) body) h4)))
    statement_good Break ret in_loop room h = refl
    statement_good Continue ret in_loop room h = refl
    statement_good (Return r) ret in_loop room h = good_optional r

    row_good : {m : _} (r : Row_of-TypedStmt m) (ret : Option ℕ) (in_loop : Bool) (room : ℕ) → are_row d ret in_loop room r ≡ true → AreGood (row_marks r)
    row_good end_of-TypedStmt ret in_loop room h = refl
    row_good (more_of-TypedStmt x rest) ret in_loop room h =
        good_both (marks x) (row_marks rest) (statement_good x ret in_loop room (and_left (is_statement d ret in_loop room x) (are_row d ret in_loop room rest) h)) (row_good rest ret in_loop room (and_right (is_statement d ret in_loop room x) (are_row d ret in_loop room rest) h))

  body_good : (xs : List TypedStmt) (ret : Option ℕ) (in_loop : Bool) (room : ℕ) → are_statements d ret in_loop room xs ≡ true → AreGood (body_marks xs)
  body_good [] ret in_loop room h = refl
  body_good (x ∷ xs) ret in_loop room h =
      good_both (marks x) (body_marks xs) (statement_good x ret in_loop room (and_left (is_statement d ret in_loop room x) (list_all (is_statement d ret in_loop room) xs) h)) (body_good xs ret in_loop room (and_right (is_statement d ret in_loop room x) (list_all (is_statement d ret in_loop room) xs) h))

  -- no mark follows a failure
  none_after : (sites : List Site) (f : ℕ) (ms : List Mark) (n : Next) → after_marks sites f None ms ≡ Some n → ⊥
  none_after sites f [] n e = absurd (cc)
  none_after sites f (m ∷ ms) n e = none_after sites f ms n e

  -- what holds of the locals that later marks declare
  abbrev Later : List Site → ℕ → List Mark → Next → ℕ → Type 0
  Later sites f ms b x = (a : Next) → after_marks sites f (Some a) ms ≡ Some b → a.local ≤ x → is_good x ≡ true

  -- each local from one number up to the next was declared
  marked_good : (sites : List Site) (f : ℕ) (ms : List Mark) (a b : Next) (x : ℕ) → AreGood ms → after_marks sites f (Some a) ms ≡ Some b → a.local ≤ x → x < b.local → is_good x ≡ true
  marked_good sites f [] a b x h e low high = let same : a ≡ b = cc in let n = ap (λ (n : Next). n.local) same in absurd (omega (arith, n))
  marked_good sites f (local y ∷ ms) a b x h e low high =
      by (λ a e low. marked_good sites f ms a b x (and_right (is_good y) (list_all good_mark ms) h) e low high) (nat_eq y a.local) refl e
    where
      at : Later sites f ms b x → (c : Bool) → nat_eq x y ≡ c → y ≡ a.local → after_marks sites f (Some (record { local = y + 1; ordinal = a.ordinal })) ms ≡ Some b → is_good x ≡ true
      at later true q same e = let is_y : x ≡ y = grind (arith, nat_tests, q) in ap is_good is_y ∙ and_left (is_good y) (list_all good_mark ms) h
      at later false q same e =
          let other : y + 1 ≤ x = grind (arith, nat_tests, q, low, same) in
          later (record { local = y + 1; ordinal = a.ordinal }) e other

      by : Later sites f ms b x → (c : Bool) → nat_eq y a.local ≡ c → after_marks sites f (cond c (Some (record { local = y + 1; ordinal = a.ordinal })) None) ms ≡ Some b → is_good x ≡ true
      by later true q e = let same : y ≡ a.local = grind (arith, nat_tests, q) in at later (nat_eq x y) refl same e
      by later false q e = absurd (none_after sites f ms b e)
  marked_good sites f (site k ∷ ms) a b x h e low high =
      by (λ a e low. marked_good sites f ms a b x h e low high) (is_site_of sites f a.ordinal k) e
    where
      by : Later sites f ms b x → (c : Bool) → after_marks sites f (cond c (Some (record { local = a.local; ordinal = a.ordinal + 1 })) None) ms ≡ Some b → is_good x ≡ true
      by later true e = later (record { local = a.local; ordinal = a.ordinal + 1 }) e low
      by later false e = absurd (none_after sites f ms b e)

  -- each of the locals behind the parameters is good
  all_good : (ls : List ℕ) (n : ℕ) → ((k : ℕ) → n ≤ k → k < n + length ls → is_good k ≡ true) → ((k t : ℕ) → slice_get ls k ≡ Some t → local_type d (n + k) ≡ Some t) → list_all (λ t. is_scalar (slice_get d.program.types.types t)) ls ≡ true
  all_good [] n h g = refl
  all_good (t ∷ ls) n h g =
      let here : local_type d n ≡ Some t = subst (λ k. local_type d k ≡ Some t) (none_more n) (g 0 t refl) in
      let good : is_scalar (slice_get d.program.types.types t) ≡ true = ap (λ o. option_map_or (λ t. is_scalar (slice_get d.program.types.types t)) o false) (sym here) ∙ h n (omega arith) (omega arith) in
      ap (λ b. b && list_all (λ t. is_scalar (slice_get d.program.types.types t)) ls) good ∙ all_good ls (n + 1) (λ k le lt. h k (omega (arith, le)) (omega (arith, lt))) (λ k u e. subst (λ m. local_type d m ≡ Some u) (one_more n k) (g (suc k) u e))
    where
      none_more : (n : ℕ) → n + 0 ≡ n
      none_more n = omega arith

      one_more : (n k : ℕ) → n + suc k ≡ n + 1 + k
      one_more n k = omega arith

  past_none : (ps : List ℕ) (k : ℕ) → slice_get ps (length ps + k) ≡ None
  past_none [] k = refl
  past_none (t ∷ ps) k = let e : suc (length ps) + k ≡ suc (length ps + k) = omega arith in ap (slice_get (t ∷ ps)) e ∙ past_none ps k

  behind : (k t : ℕ) → slice_get d.locals k ≡ Some t → local_type d (length d.params + k) ≡ Some t
  behind k t e =
      let n : length d.params + k - length d.params ≡ k = omega arith in
      ap (local_behind d.locals (length d.params + k - length d.params)) (past_none d.params k) ∙ (ap (slice_get d.locals) n ∙ e)

-- each local of a function that is numbered, and whose statements are valid, is a scalar
pub locals_scalar : (p : Program) (fd : Function) (f room : ℕ) → is_function_numbered p.sites f fd ≡ true → are_statements (declarations_of p fd) fd.ret false room fd.body ≡ true → list_all (λ t. is_scalar (slice_get p.types.types t)) fd.locals ≡ true
locals_scalar p fd f room numbered body = by (after_body p.sites f fd) refl numbered
  where
    by : (o : Option Next) → after_body p.sites f fd ≡ o → option_map_or (ends_at p.sites f fd) o false ≡ true → list_all (λ t. is_scalar (slice_get p.types.types t)) fd.locals ≡ true
    by None e h = absurd (cc)
    by (Some n) e h =
        let ends : n.local ≡ length fd.params + length fd.locals = grind (arith, nat_tests, and_left (nat_eq n.local (length fd.params + length fd.locals)) _ h) in
        all_good (declarations_of p fd) fd.locals (length fd.params) (λ k le lt. marked_good (declarations_of p fd) p.sites f (body_marks fd.body) (first_of (length fd.params)) n k (body_good (declarations_of p fd) fd.body fd.ret false room body) e le (omega (arith, ends, lt))) (behind (declarations_of p fd))

-- the functions are numbered, from a number on
pub numbered_at : (sites : List Site) (n g : ℕ) (fs : List Function) (fd : Function) → are_functions_numbered sites n fs ≡ true → slice_get fs g ≡ Some fd → is_function_numbered sites (n + g) fd ≡ true
numbered_at sites n g [] fd h e = absurd (cc)
numbered_at sites n zero (d ∷ fs) fd h e =
    let same : d ≡ fd = cc in
    let k : n ≡ n + 0 = omega arith in
    subst (λ k. is_function_numbered sites k fd ≡ true) k (subst (λ d. is_function_numbered sites n d ≡ true) same (and_left (is_function_numbered sites n d) (are_functions_numbered sites (n + 1) fs) h))
numbered_at sites n (suc g) (d ∷ fs) fd h e =
    let k : n + 1 + g ≡ n + suc g = omega arith in
    subst (λ k. is_function_numbered sites k fd ≡ true) k (numbered_at sites (n + 1) g fs fd (and_right (is_function_numbered sites n d) (are_functions_numbered sites (n + 1) fs) h) e)

-- a type that words and stars name is in the table, and has a size
pub named_known : (p : Program) (t : ℕ) → is_named p.types t ≡ true → t < length p.types.types
named_known p t h = by (slice_get p.types.types t) refl h
  where
    by : (o : Option Ty) → slice_get p.types.types t ≡ o → is_starred p.types 8 o ≡ true → t < length p.types.types
    by None e h = absurd (cc)
    by (Some ty) e h = slice_get_within p.types.types t ty e

pub named_size : (p : Program) → IsBuilt p.types → (t : ℕ) → is_named p.types t ≡ true → 0 < size_of p.types t
named_size p built t h = size-low p.types built t (named_known p t h)
