-- The locals that statements declare and the sites at which they allocate, in the order of the text.
use Rattle.std.specs.Prelude.{ℕ, ◌+◌, Bool, true, false, ◌&&◌, ◌||◌, nat_eq, nat_lt, count_by, if◌then◌else◌, List, [], ◌∷◌, ◌++◌, length, Option, Some, None, slice_get}
use Rattle.std.specs.Option.{option_map_or}
use Rattle.std.specs.List.{list_all}
use Rattle.lu_spec.specs.Then.{then_option}
use Rattle.src_tree.specs.declared.stmt.Callee.{Callee}
use Rattle.src_tree.specs.declared.stmt.Callee.TheVariants.{Malloc, Calloc}
use Rattle.src_tree.specs.declared.stmt.Rhs.{Rhs}
use Rattle.src_tree.specs.declared.stmt.Rhs.TheVariants.{Value as Plain, Call as Result_of}
use Rattle.src_tree.specs.declared.stmt.TypedStmt.{TypedStmt, Block', Empty, Declare, SetLocal, Assign, Call, If', While', For', Break, Continue, Return, Row_of-TypedStmt, end_of-TypedStmt, more_of-TypedStmt}
use Rattle.src_meaning.specs.declared.validity.Next.{Next}
use Rattle.src_tree.specs.declared.program.Site.{Site}
use Rattle.src_tree.specs.declared.program.Function.{Function}

-- what the text numbers, with the number that it has
pub data Mark : Type 0 where
  local : ℕ → Mark
  site : ℕ → Mark

abbrev pub callee_marks : Callee → List Mark
callee_marks (Malloc k) = site k ∷ []
callee_marks (Calloc k) = site k ∷ []
callee_marks _ = []

abbrev pub right_marks : Rhs → List Mark
right_marks (Plain e) = []
right_marks (Result_of c t) = callee_marks c.callee

abbrev pub optional_marks : Option Rhs → List Mark
optional_marks None = []
optional_marks (Some r) = right_marks r

abbrev mutual
  pub marks : TypedStmt → List Mark
  marks (Block' m body) = row_marks body
  marks (Declare x r) = local x ∷ optional_marks r
  marks (SetLocal x r) = right_marks r
  marks (Assign to r) = right_marks r
  marks (Call c) = callee_marks c.callee
  marks (If' e m a n b) = row_marks a ++ row_marks b
  marks (While' e m body) = row_marks body
  marks (For' m first e n step k body) = row_marks first ++ (row_marks step ++ row_marks body)
  marks (Return r) = optional_marks r
  marks _ = []

  pub row_marks : {m : _} → Row_of-TypedStmt m → List Mark
  row_marks end_of-TypedStmt = []
  row_marks (more_of-TypedStmt x rest) = marks x ++ row_marks rest

abbrev pub body_marks : List TypedStmt → List Mark
body_marks [] = []
body_marks (x ∷ rest) = marks x ++ body_marks rest

-- the site has that function and that number in it
abbrev pub is_site : ℕ → ℕ → Site → Bool
is_site f ordinal d = nat_eq d.function f && nat_eq d.ordinal ordinal

abbrev pub is_site_of : List Site → ℕ → ℕ → ℕ → Bool
is_site_of sites f ordinal k = option_map_or (is_site f ordinal) (slice_get sites k) false

-- what comes next after this mark in function f, if the mark has the next number
abbrev pub after_mark : List Site → ℕ → Next → Mark → Option Next
after_mark sites f n (local x) = if nat_eq x n.local then Some (record { local = x + 1; ordinal = n.ordinal }) else None
after_mark sites f n (site k) =
    if is_site_of sites f n.ordinal k then Some (record { local = n.local; ordinal = n.ordinal + 1 }) else None

abbrev pub after_marks : List Site → ℕ → Option Next → List Mark → Option Next
after_marks sites f n [] = n
after_marks sites f n (m ∷ ms) = after_marks sites f (then_option n (λ next. after_mark sites f next m)) ms

-- what comes next at the start of a function with so many parameters
abbrev pub first_of : ℕ → Next
first_of params = record { local = params; ordinal = 0 }

-- what comes next after the body of function f
abbrev pub after_body : List Site → ℕ → Function → Option Next
after_body sites f d = after_marks sites f (Some (first_of (length d.params))) (body_marks d.body)

-- all locals were declared, and the function has no site but those that were met
abbrev pub ends_at : List Site → ℕ → Function → Next → Bool
ends_at sites f d n =
    nat_eq n.local (length d.params + length d.locals) && nat_eq (count_by (λ s. nat_eq s.function f) sites) n.ordinal

-- The body of function f declares each local once and has each of the function's sites once, both by their numbers and
-- in the order of the text
abbrev pub is_function_numbered : List Site → ℕ → Function → Bool
is_function_numbered sites f d = option_map_or (ends_at sites f d) (after_body sites f d) false

abbrev pub are_functions_numbered : List Site → ℕ → List Function → Bool
are_functions_numbered sites f [] = true
are_functions_numbered sites f (d ∷ ds) = is_function_numbered sites f d && are_functions_numbered sites (f + 1) ds

-- the sites of one function stand together, in the order of their numbers in it
abbrev pub follows : Option Site → Site → Bool
follows None d = nat_eq d.ordinal 0
follows (Some c) d = nat_eq d.ordinal 0 || (nat_eq d.function c.function && nat_eq d.ordinal (c.ordinal + 1))

abbrev pub are_in_order : Option Site → List Site → Bool
are_in_order before [] = true
are_in_order before (d ∷ ds) = follows before d && are_in_order (Some d) ds

-- each local is declared once, and each site stands in one place of the text
abbrev pub is_numbered : List Site → List Function → Bool
is_numbered sites functions =
    are_in_order None sites && (list_all (λ s. nat_lt s.function (length functions)) sites && are_functions_numbered sites 0 functions)
