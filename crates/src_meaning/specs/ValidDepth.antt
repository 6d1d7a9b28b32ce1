-- The bounds on depth and chains, counted as in a text with the fewest parentheses: where a chain has as many operators or
-- steps as it may have, what stands left of them is in parentheses, and has a chain of its own. Room is 65 less the number of constructs
-- that are open: statements, blocks, initialisers, expressions, unaries and lists of parameters. Each token needs room.
-- A rank says how loosely an expression binds: 0 a postfix, 1 a unary, 2 to 11 the levels of binary operators from `*` to
-- `||`, 12 a `?:`. Where an expression of a looser rank stands, it takes parentheses, which open a unary and an expression.
use Rattle.std.specs.Prelude.{ℕ, ◌-◌, Bool, true, false, ◌&&◌, ◌||◌, nat_eq, nat_lt, if◌then◌else◌, List, [], ◌∷◌}
use Rattle.std.specs.List.{list_all}
use Rattle.src_meaning.specs.declared.validity.Spot.{Spot}
use Rattle.src_tree.specs.declared.expr.BinaryOperator.{BinaryOperator}
use Rattle.src_tree.specs.declared.expr.BinaryOperator.TheVariants.{Add, Subtract, Multiply, Divide, Remainder, BitAnd, BitXor, BitOr, ShiftLeft, ShiftRight, Less, LessEqual, Greater, GreaterEqual, Equal, NotEqual, PointerAdd, AddPointer, PointerSubtract, PointerDifference}
use Rattle.src_tree.specs.declared.expr.LogicalOperator.{LogicalOperator}
use Rattle.src_tree.specs.declared.expr.LogicalOperator.TheVariants.{And, Or}
use Rattle.src_tree.specs.declared.expr.ExprKind.{ExprKind, Number, SizeOf, Local, Function as Function_name, Load', AddressOf', Decay', Cast', Convert', Unary', Binary', Logical', Conditional', Row_of-TypedExpr, end_of-TypedExpr, more_of-TypedExpr}
use Rattle.src_tree.specs.declared.expr.PlaceKind.{PlaceKind, Global, Deref', Arrow', Item', Element', Field', Member', Row_of-TypedPlace, end_of-TypedPlace, more_of-TypedPlace}

-- the operators of a chain of one level, and the steps of a postfix
abbrev pub greatest_chain : ℕ
greatest_chain = 64

abbrev pub postfix_rank : ℕ
postfix_rank = 0

abbrev pub unary_rank : ℕ
unary_rank = 1

abbrev pub whole_rank : ℕ
whole_rank = 12

abbrev pub binary_rank : BinaryOperator → ℕ
binary_rank Multiply = 2
binary_rank Divide = 2
binary_rank Remainder = 2
binary_rank ShiftLeft = 4
binary_rank ShiftRight = 4
binary_rank Less = 5
binary_rank LessEqual = 5
binary_rank Greater = 5
binary_rank GreaterEqual = 5
binary_rank Equal = 6
binary_rank NotEqual = 6
binary_rank BitAnd = 7
binary_rank BitXor = 8
binary_rank BitOr = 9
binary_rank _ = 3

abbrev pub logical_rank : LogicalOperator → ℕ
logical_rank And = 10
logical_rank Or = 11

abbrev pub spot : ℕ → ℕ → Spot
spot rank room = record { rank = rank; room = room; left = greatest_chain }

-- a primary has room for its token, which stands in a unary
abbrev pub has_room : Spot → Bool
has_room s = nat_lt 1 s.room

-- an expression of that rank needs parentheses: it binds more loosely than its place lets it, or the chain is full
abbrev pub needs_parentheses : ℕ → Spot → Bool
needs_parentheses rank s = nat_lt s.rank rank || (nat_eq s.rank rank && nat_eq s.left 0)

-- the room of an expression of that rank, in parentheses where it needs them
abbrev pub room_for : ℕ → Spot → ℕ
room_for rank s = if needs_parentheses rank s then s.room - 2 else s.room

-- the operators or steps that a chain of that rank may still have
abbrev pub left_for : ℕ → Spot → ℕ
left_for rank s = if nat_eq s.rank rank && nat_lt 0 s.left then s.left else greatest_chain

-- the operand of a unary operator
abbrev pub operand_spot : Spot → Spot
operand_spot s = spot unary_rank (room_for unary_rank s - 1)

-- the rest of a chain of that rank, left of its last operator or step
abbrev pub chain_spot : ℕ → Spot → Spot
chain_spot rank s = record { rank = rank; room = room_for rank s; left = left_for rank s - 1 }

-- right of an operator of that rank
abbrev pub right_spot : ℕ → Spot → Spot
right_spot rank s = spot (rank - 1) (room_for rank s)

-- an index between brackets
abbrev pub index_spot : Spot → Spot
index_spot s = spot whole_rank (room_for postfix_rank s - 2)

-- the condition of a `?:`
abbrev pub condition_spot : Spot → Spot
condition_spot s = spot 11 (room_for whole_rank s)

-- the other operands of a `?:`
abbrev pub branch_spot : Spot → Spot
branch_spot s = spot whole_rank (room_for whole_rank s - 1)

-- the left side of a `->`, whose step is counted where the field is named
abbrev pub arrow_spot : Spot → Spot
arrow_spot s = record { rank = postfix_rank; room = s.room; left = if nat_eq s.rank postfix_rank then s.left else greatest_chain }

abbrev mutual
  -- an expression keeps the bounds where it stands; conversions that the text doesn't write add nothing
  pub keeps_bounds : Spot → ExprKind → Bool
  keeps_bounds s (Load' m e) = place_row_keeps_bounds s e
  keeps_bounds s (Decay' m e) = place_row_keeps_bounds s e
  keeps_bounds s (Convert' m e) = row_keeps_bounds s e
  keeps_bounds s (AddressOf' m e) = place_row_keeps_bounds (operand_spot s) e
  keeps_bounds s (Cast' m e) = row_keeps_bounds (operand_spot s) e
  keeps_bounds s (Unary' op m e) = row_keeps_bounds (operand_spot s) e
  keeps_bounds s (Binary' op m a n b) =
      row_keeps_bounds (chain_spot (binary_rank op) s) a && row_keeps_bounds (right_spot (binary_rank op) s) b
  keeps_bounds s (Logical' op m a n b) =
      row_keeps_bounds (chain_spot (logical_rank op) s) a && row_keeps_bounds (right_spot (logical_rank op) s) b
  keeps_bounds s (Conditional' m c n a k b) =
      row_keeps_bounds (condition_spot s) c && (row_keeps_bounds (branch_spot s) a && row_keeps_bounds (branch_spot s) b)
  keeps_bounds s _ = has_room s

  pub row_keeps_bounds : {m : _} → Spot → Row_of-TypedExpr m → Bool
  row_keeps_bounds s end_of-TypedExpr = true
  row_keeps_bounds s (more_of-TypedExpr t kind rest) = keeps_bounds s kind

  pub place_keeps_bounds : Spot → PlaceKind → Bool
  place_keeps_bounds s (Global g) = has_room s
  place_keeps_bounds s (Deref' m e) = row_keeps_bounds (operand_spot s) e
  place_keeps_bounds s (Arrow' m e) = row_keeps_bounds (arrow_spot s) e
  place_keeps_bounds s (Item' m p n i) =
      row_keeps_bounds (chain_spot postfix_rank s) p && row_keeps_bounds (index_spot s) i
  place_keeps_bounds s (Element' m a n i) =
      place_row_keeps_bounds (chain_spot postfix_rank s) a && row_keeps_bounds (index_spot s) i
  place_keeps_bounds s (Field' m e k) = place_row_keeps_bounds (chain_spot postfix_rank s) e
  place_keeps_bounds s (Member' m e k) = place_row_keeps_bounds (chain_spot postfix_rank s) e

  pub place_row_keeps_bounds : {m : _} → Spot → Row_of-TypedPlace m → Bool
  place_row_keeps_bounds s end_of-TypedPlace = true
  place_row_keeps_bounds s (more_of-TypedPlace t kind rest) = place_keeps_bounds s kind
