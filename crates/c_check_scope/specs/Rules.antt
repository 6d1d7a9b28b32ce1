-- Rules, their codes, and sets of broken rules.
use Rattle.std.specs.Prelude.{ℕ, ◌^◌, ◌≤◌, nat_eq, bit_or, Bool, false, Option, Some, None, Result, Ok, Err}
use Rattle.std.specs.Int.{bit_at}
use Rattle.c_check_scope.specs.declared.rule.Rule.{Rule}
use Rattle.c_check_scope.specs.declared.rule.Rule.TheVariants.{NameTaken, Fields, UnknownTag, VoidValue, ArrayLength, Size, NotScalar, LocalTaken, Initialiser, Undefined, Undeclared, NotPlace, NoAddress, NoField, NoPointer, Operands, Conversion, Condition, Callee, BuiltIn, OutsideLoop, VoidResult, Returned, InsideUnion, Cast, EntryPoint, TooManyLocals, TooMany}

-- the number of a rule
unfoldable pub code : Rule → ℕ
code NameTaken = 1
code Fields = 2
code UnknownTag = 3
code VoidValue = 4
code ArrayLength = 5
code Size = 6
code NotScalar = 7
code LocalTaken = 8
code Initialiser = 9
code Undefined = 10
code Undeclared = 11
code NotPlace = 12
code NoAddress = 13
code NoField = 14
code NoPointer = 15
code Operands = 16
code Conversion = 17
code Condition = 18
code Callee = 19
code BuiltIn = 20
code OutsideLoop = 21
code VoidResult = 22
code Returned = 22
code InsideUnion = 23
code Cast = 24
code EntryPoint = 25
code TooManyLocals = 26
code TooMany = 27

-- a set of broken rules: its bit at each code tells whether the rule of that code is among them
abbrev pub Rules : Type 0
Rules = ℕ

-- one rule alone
unfoldable pub only : Rule → Rules
only r = 2 ^ code r

-- the rules of both sets
unfoldable pub union : Rules → Rules → Rules
union r s = bit_or r s

-- whether the rule of a code is in the set
unfoldable pub has : Rules → ℕ → Bool
has r c = nat_eq (bit_at r c) 1

-- the least number of which something is true
pub record IsLeast (P : ℕ → Type 0) (n : ℕ) : Type 0 where
  pub is : P n
  pub first : (m : ℕ) → P m → n ≤ m

-- what is typed, or the rules that it breaks
abbrev pub Checked : Type 0 → Type 0
Checked A = Result A Rules

-- both, or the rules that they break
unfoldable pub both : {A B : Type 0} → Checked A → Checked B → Checked (A × B)
both (Ok a) (Ok b) = Ok (a, b)
both (Ok a) (Err s) = Err s
both (Err r) (Ok b) = Err r
both (Err r) (Err s) = Err (union r s)

-- broken rules with those that one more part breaks
unfoldable pub broken : {A : Type 0} → Rules → Checked A → Rules
broken r (Ok a) = r
broken r (Err s) = union r s

-- the value, or the broken rule where there is none
abbrev pub or_rule : {A : Type 0} → Rule → Option A → Checked A
or_rule r None = Err (only r)
or_rule r (Some a) = Ok a

-- whether the rule of a code is broken
abbrev pub breaks : {A : Type 0} → Checked A → ℕ → Bool
breaks (Ok a) c = false
breaks (Err r) c = has r c
