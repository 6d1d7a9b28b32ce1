-- A valid expression wants few words of the operand stack, by its bounds on depth.
use Rattle.std.proofs.Common.{◌≡◌, ◌||◌, refl, ap, Bool, true, false, ◌⊎◌, inl, inr, cond, ℕ, ◌+◌, ◌-◌, ◌*◌, ◌<◌, ◌≤◌, max, arith, nat_lt}
use Rattle.std.proofs.lemmas.Bool.Decides.{nat_tests}
use Rattle.src_meaning.specs.declared.validity.Spot.{Spot}
use Rattle.src_tree.specs.declared.expr.BinaryOperator.{BinaryOperator}
use Rattle.src_tree.specs.declared.expr.BinaryOperator.TheVariants.{Add, Subtract, Multiply, Divide, Remainder, BitAnd, BitXor, BitOr, ShiftLeft, ShiftRight, Less, LessEqual, Greater, GreaterEqual, Equal, NotEqual, PointerAdd, AddPointer, PointerSubtract, PointerDifference}
use Rattle.src_tree.specs.declared.expr.LogicalOperator.{LogicalOperator}
use Rattle.src_tree.specs.declared.expr.LogicalOperator.TheVariants.{And, Or}
use Rattle.src_tree.specs.declared.expr.ExprKind.{ExprKind, Number, SizeOf, Local, Function as Function_name, Load', AddressOf', Decay', Cast', Convert', Unary', Binary', Logical', Conditional', Row_of-TypedExpr, end_of-TypedExpr, more_of-TypedExpr}
use Rattle.src_tree.specs.declared.expr.PlaceKind.{PlaceKind, Global, Deref', Arrow', Item', Element', Field', Member', Row_of-TypedPlace, end_of-TypedPlace, more_of-TypedPlace}
use Rattle.src_meaning.specs.ValidExpression.{Declarations, is_expr, is_expr_row, is_place, is_place_row}
use Rattle.src_meaning.specs.ValidDepth.{needs_parentheses, room_for, has_room, binary_rank, logical_rank, keeps_bounds, row_keeps_bounds, place_keeps_bounds, place_row_keeps_bounds, operand_spot, chain_spot, right_spot, index_spot, condition_spot, branch_spot, arrow_spot}
use Rattle.src_meaning.proofs.LayoutLengths.{and_left, and_right}
use Rattle.cg_sim_expr.proofs.Need.{need, row_need, place_need, row_place_need}

-- there is room, and no more words are wanted than it allows
pub record Bound (s : Spot) (n : ℕ) : Type 0 where
  pub room : 2 ≤ s.room
  pub words : n ≤ 14 * s.room + s.rank

leaf : (s : Spot) → has_room s ≡ true → Bound s 1
leaf s h = let n : 1 < s.room = grind (arith, nat_tests, h) in record { room = omega (arith, n); words = omega (arith, n) }

-- the room in parentheses, or without
record RoomFor (r : ℕ) (s : Spot) : Type 0 where
  less : room_for r s ≤ s.room
  fits : room_for r s + 2 ≤ s.room + 2
  either : (r ≤ s.rank) ⊎ (room_for r s ≡ s.room - 2)

room_is : (r : ℕ) (s : Spot) → RoomFor r s
room_is r s = by (needs_parentheses r s) refl
  where
    looser : (a b : Bool) → (a || b) ≡ false → a ≡ false
    looser false b h = refl
    looser true b h = absurd (cc)

    by : (b : Bool) → needs_parentheses r s ≡ b → RoomFor r s
    by true e =
        let same : room_for r s ≡ s.room - 2 = ap (λ b. cond b (s.room - 2) s.room) e in
        record { less = omega (arith, same); fits = omega (arith, same); either = inr same }
    by false e =
        let same : room_for r s ≡ s.room = ap (λ b. cond b (s.room - 2) s.room) e in
        let lower = looser (nat_lt s.rank r) _ e in let le : r ≤ s.rank = grind (arith, nat_tests, lower) in
        record { less = omega (arith, same); fits = omega (arith, same); either = inl le }

binary_ranks : (op : BinaryOperator) → (1 ≤ binary_rank op) × (binary_rank op ≤ 12)
binary_ranks Multiply = (omega arith, omega arith)
binary_ranks Divide = (omega arith, omega arith)
binary_ranks Remainder = (omega arith, omega arith)
binary_ranks ShiftLeft = (omega arith, omega arith)
binary_ranks ShiftRight = (omega arith, omega arith)
binary_ranks Less = (omega arith, omega arith)
binary_ranks LessEqual = (omega arith, omega arith)
binary_ranks Greater = (omega arith, omega arith)
binary_ranks GreaterEqual = (omega arith, omega arith)
binary_ranks Equal = (omega arith, omega arith)
binary_ranks NotEqual = (omega arith, omega arith)
binary_ranks BitAnd = (omega arith, omega arith)
binary_ranks BitXor = (omega arith, omega arith)
binary_ranks BitOr = (omega arith, omega arith)
binary_ranks Add = (omega arith, omega arith)
binary_ranks Subtract = (omega arith, omega arith)
binary_ranks PointerAdd = (omega arith, omega arith)
binary_ranks AddPointer = (omega arith, omega arith)
binary_ranks PointerSubtract = (omega arith, omega arith)
binary_ranks PointerDifference = (omega arith, omega arith)

logical_ranks : (op : LogicalOperator) → (1 ≤ logical_rank op) × (logical_rank op ≤ 12)
logical_ranks And = (omega arith, omega arith)
logical_ranks Or = (omega arith, omega arith)

-- an operand of a unary operator, with a word below it or not
under_unary : (s : Spot) (n k : ℕ) → Bound (operand_spot s) n → k ≤ 1 + n → Bound s k
under_unary s n k b le =
    let q = room_is 1 s in
    let less = q.less in
    let r = b.room in
    let w = b.words in
    record { room = omega (arith, less, r); words = omega (arith, less, r, w, le) }

-- two operands of a chain
in_chain : (r : ℕ) (s : Spot) (a b : ℕ) → 1 ≤ r → r ≤ 12 → Bound (chain_spot r s) a → Bound (right_spot r s) b → Bound s (max a (1 + b))
in_chain r s a b one twelve x y = by q.either
  where
    q : RoomFor r s
    q = room_is r s

    by : (r ≤ s.rank) ⊎ (room_for r s ≡ s.room - 2) → Bound s (max a (1 + b))
    by (inl le) = let less = q.less in let rx = x.room in let wx = x.words in let wy = y.words in record { room = omega (arith, less, rx); words = omega (arith, less, rx, wx, wy, le, one) }
    by (inr e) = let rx = x.room in let wx = x.words in let wy = y.words in record { room = omega (arith, e, rx); words = omega (arith, e, rx, wx, wy, one, twelve) }

-- three parts of a choice
in_choice : (s : Spot) (c a b : ℕ) → Bound (condition_spot s) c → Bound (branch_spot s) a → Bound (branch_spot s) b → Bound s (max c (max a b))
in_choice s c a b z x y = by q.either
  where
    q : RoomFor 12 s
    q = room_is 12 s

    by : (12 ≤ s.rank) ⊎ (room_for 12 s ≡ s.room - 2) → Bound s (max c (max a b))
    by (inl le) = let less = q.less in let rz = z.room in let rx = x.room in let wz = z.words in let wx = x.words in let wy = y.words in record { room = omega (arith, less, rz); words = omega (arith, less, rz, rx, wz, wx, wy, le) }
    by (inr e) = let rz = z.room in let rx = x.room in let wz = z.words in let wx = x.words in let wy = y.words in record { room = omega (arith, e, rz); words = omega (arith, e, rz, rx, wz, wx, wy) }

-- a step of a postfix
in_postfix : (s : Spot) (n : ℕ) → Bound (chain_spot 0 s) n → Bound s n
in_postfix s n b = let less = (room_is 0 s).less in let r = b.room in let w = b.words in record { room = omega (arith, less, r); words = omega (arith, less, r, w) }

in_arrow : (s : Spot) (n : ℕ) → Bound (arrow_spot s) n → Bound s n
in_arrow s n b = let r = b.room in let w = b.words in record { room = r; words = omega (arith, w) }

in_index : (s : Spot) (a i : ℕ) → Bound (chain_spot 0 s) a → Bound (index_spot s) i → Bound s (max a (1 + i))
in_index s a i x y =
    let b = in_postfix s a x in
    let less = (room_is 0 s).less in
    let wa = b.words in
    let r = y.room in
    let w = y.words in
    record { room = b.room; words = omega (arith, less, wa, r, w) }

both : (s : Spot) (a b : ℕ) → Bound s (max a (1 + b)) → Bound s (max a (max b 1))
both s a b x = let r = x.room in let w = x.words in record { room = r; words = omega (arith, r, w) }

mutual
  pub expr_bound : (d : Declarations) (u : ℕ) (kind : ExprKind) (s : Spot) → is_expr d u kind ≡ true → keeps_bounds s kind ≡ true → Bound s (need kind)
  expr_bound d u (Number z) s ty h = leaf s h
  expr_bound d u (SizeOf w) s ty h = leaf s h
  expr_bound d u (Local x) s ty h = leaf s h
  expr_bound d u (Function_name f) s ty h = leaf s h
  expr_bound d u (Load' m e) s ty h = place_row_bound d e s (and_left (is_place_row d e) _ ty) h
  expr_bound d u (AddressOf' m e) s ty h = under_unary s (row_place_need e) (row_place_need e) (place_row_bound d e (operand_spot s) (and_left (is_place_row d e) _ ty) h) (omega arith)
  expr_bound d u (Decay' m e) s ty h = place_row_bound d e s (and_left (is_place_row d e) _ ty) h
  expr_bound d u (Cast' m e) s ty h = under_unary s (row_need e) (row_need e) (row_bound d e (operand_spot s) (and_left (is_expr_row d e) _ ty) h) (omega arith)
  expr_bound d u (Convert' m e) s ty h = row_bound d e s (and_left (is_expr_row d e) _ ty) h
  expr_bound d u (Unary' op m e) s ty h = under_unary s (row_need e) (1 + row_need e) (row_bound d e (operand_spot s) (and_left (is_expr_row d e) _ ty) h) (omega arith)
  expr_bound d u (Binary' op m a n b) s ty h =
      let r = binary_rank op in
      let more = h in
      let limits = binary_ranks op in
      in_chain r s (row_need a) (row_need b) limits.0 limits.1 (row_bound d a (chain_spot r s) (and_left (is_expr_row d a) _ ty) (and_left (row_keeps_bounds (chain_spot r s) a) (row_keeps_bounds (right_spot r s) b) more)) (row_bound d b (right_spot r s) (and_left (is_expr_row d b) _ (and_right (is_expr_row d a) _ ty)) (and_right (row_keeps_bounds (chain_spot r s) a) (row_keeps_bounds (right_spot r s) b) more))
  expr_bound d u (Logical' op m a n b) s ty h =
      let r = logical_rank op in
      let more = h in
      let limits = logical_ranks op in
      both s (row_need a) (row_need b) (in_chain r s (row_need a) (row_need b) limits.0 limits.1 (row_bound d a (chain_spot r s) (and_left (is_expr_row d a) _ ty) (and_left (row_keeps_bounds (chain_spot r s) a) (row_keeps_bounds (right_spot r s) b) more)) (row_bound d b (right_spot r s) (and_left (is_expr_row d b) _ (and_right (is_expr_row d a) _ ty)) (and_right (row_keeps_bounds (chain_spot r s) a) (row_keeps_bounds (right_spot r s) b) more)))
  expr_bound d u (Conditional' m c n a k b) s ty h =
      let more = and_right (row_keeps_bounds (condition_spot s) c) _ h in
      let rest = and_right (is_expr_row d c) _ ty in
      in_choice s (row_need c) (row_need a) (row_need b) (row_bound d c (condition_spot s) (and_left (is_expr_row d c) _ ty) (and_left (row_keeps_bounds (condition_spot s) c) _ h)) (row_bound d a (branch_spot s) (and_left (is_expr_row d a) _ rest) (and_left (row_keeps_bounds (branch_spot s) a) (row_keeps_bounds (branch_spot s) b) more)) (row_bound d b (branch_spot s) (and_left (is_expr_row d b) _ (and_right (is_expr_row d a) _ rest)) (and_right (row_keeps_bounds (branch_spot s) a) (row_keeps_bounds (branch_spot s) b) more))

  row_bound : {m : _} (d : Declarations) (e : Row_of-TypedExpr m) (s : Spot) → is_expr_row d e ≡ true → row_keeps_bounds s e ≡ true → Bound s (row_need e)
  row_bound d end_of-TypedExpr s ty h = absurd (cc)
  row_bound d (more_of-TypedExpr u kind rest) s ty h = expr_bound d u kind s ty h

  pub place_bound : (d : Declarations) (u : ℕ) (kind : PlaceKind) (s : Spot) → is_place d u kind ≡ true → place_keeps_bounds s kind ≡ true → Bound s (place_need kind)
  place_bound d u (Global g) s ty h = leaf s h
  place_bound d u (Deref' m e) s ty h = under_unary s (row_need e) (row_need e) (row_bound d e (operand_spot s) (and_left (is_expr_row d e) _ ty) h) (omega arith)
  place_bound d u (Arrow' m e) s ty h = in_arrow s (row_need e) (row_bound d e (arrow_spot s) (and_left (is_expr_row d e) _ ty) h)
  place_bound d u (Item' m a n i) s ty h =
      let more = h in
      in_index s (row_need a) (row_need i) (row_bound d a (chain_spot 0 s) (and_left (is_expr_row d a) _ ty) (and_left (row_keeps_bounds (chain_spot 0 s) a) _ more)) (row_bound d i (index_spot s) (and_left (is_expr_row d i) _ (and_right (is_expr_row d a) _ ty)) (and_right (row_keeps_bounds (chain_spot 0 s) a) _ more))
  place_bound d u (Element' m a n i) s ty h =
      let more = h in
      in_index s (row_place_need a) (row_need i) (place_row_bound d a (chain_spot 0 s) (and_left (is_place_row d a) _ ty) (and_left (place_row_keeps_bounds (chain_spot 0 s) a) _ more)) (row_bound d i (index_spot s) (and_left (is_expr_row d i) _ (and_right (is_place_row d a) _ ty)) (and_right (place_row_keeps_bounds (chain_spot 0 s) a) _ more))
  place_bound d u (Field' m e k) s ty h = in_postfix s (row_place_need e) (place_row_bound d e (chain_spot 0 s) (and_left (is_place_row d e) _ ty) (h))
  place_bound d u (Member' m e k) s ty h = in_postfix s (row_place_need e) (place_row_bound d e (chain_spot 0 s) (and_left (is_place_row d e) _ ty) (h))

  place_row_bound : {m : _} (d : Declarations) (e : Row_of-TypedPlace m) (s : Spot) → is_place_row d e ≡ true → place_row_keeps_bounds s e ≡ true → Bound s (row_place_need e)
  place_row_bound d end_of-TypedPlace s ty h = absurd (cc)
  place_row_bound d (more_of-TypedPlace u kind rest) s ty h = place_bound d u kind s ty h
