-- The code of expressions and places, from the place in the function where it stands. A word more is on the stack
-- where it ends: a scalar's, or an address.
use Rattle.std.specs.Prelude.{ℕ, ◌+◌, Bool, false, if◌then◌else◌, List, [], ◌∷◌, ◌++◌, length, slice_get}
use Rattle.std.specs.Option.{option_map_or}
use Rattle.c_types.specs.declared.parts.Parts.{Parts}
use Rattle.bm_isa.specs.declared.instr.Instr.{Instr}
use Rattle.bm_isa.specs.declared.instr.Instr.TheVariants as I
use Rattle.src_tree.specs.declared.program.Function.{Function}
use Rattle.src_tree.specs.declared.expr.ExprKind.{ExprKind, Number, SizeOf, Local, Function as Function_name, Load', AddressOf', Decay', Cast', Convert', Unary', Binary', Logical', Conditional', Row_of-TypedExpr, end_of-TypedExpr, more_of-TypedExpr}
use Rattle.src_tree.specs.declared.expr.PlaceKind.{PlaceKind, Global, Deref', Arrow', Item', Element', Field', Member', Row_of-TypedPlace, end_of-TypedPlace, more_of-TypedPlace}
use Rattle.src_meaning.specs.Expression.{expr_type, place_type}
use Rattle.src_meaning.specs.ValidTypes.{ty}
use Rattle.cg_expr.specs.Pieces.{pointer_size, word_of, type_size, normal, unary_first, unary_last, binary_last, logical_first, decided_value, as_flag, field_last, member_last, enter_last, deref_last, item_last, element_last, element_end_last, element_size}
use Rattle.cg_expr.specs.Sizes.{load_last, row_size, row_place_size}

-- what code is made for: the types, the addresses of the globals, and the functions
pub record Target : Type 0 where
  pub types : Parts
  pub starts : List ℕ
  pub functions : List Function

-- the address of a global; 0 where there is no such one
abbrev pub address_in : List ℕ → ℕ → ℕ
address_in starts g = option_map_or (λ n. n) (slice_get starts g) 0

-- A choice from a place on: the sizes of the test, of what follows where its word isn't 0, and of the other
abbrev pub choice : ℕ → ℕ → ℕ → ℕ → List Instr → List Instr → List Instr → List Instr
choice pc size one_size other_size test one alt =
    let other = pc + size + 1 + one_size + 1 in
    test ++ (I.JumpIfZero other ∷ (one ++ (I.Jump (other + other_size) ∷ alt)))

-- from a union to its member, which is read or assigned
abbrev pub to_member : Bool → Parts → ℕ → ℕ → List Instr
to_member assigns p t k = if assigns then enter_last p t k else member_last p t k

abbrev mutual
  pub expression_code : Target → ℕ → ExprKind → ℕ → List Instr
  expression_code at t (Number z) pc = I.Const (word_of z) ∷ []
  expression_code at t (SizeOf u) pc = I.Const (type_size at.types u) ∷ []
  expression_code at t (Local x) pc = I.GetLocal x ∷ []
  expression_code at t (Function_name f) pc = I.Const (f + 1) ∷ []
  expression_code at t (Load' m e) pc = row_place_code at false e pc ++ load_last (pointer_size at.types) (ty at.types t)
  expression_code at t (AddressOf' m e) pc = row_address_code at e pc
  expression_code at t (Decay' m e) pc = row_place_code at false e pc
  expression_code at t (Cast' m e) pc = row_code at e pc ++ normal (ty at.types t)
  expression_code at t (Convert' m e) pc = row_code at e pc ++ normal (ty at.types t)
  expression_code at t (Unary' op m e) pc =
      unary_first op ++ (row_code at e (pc + length (unary_first op)) ++ unary_last (ty at.types t) op)
  expression_code at t (Binary' op m a n b) pc =
      row_code at a pc ++ (row_code at b (pc + row_size at.types a) ++ binary_last at.types t (expr_type a) op)
  expression_code at t (Logical' op m a n b) pc =
      let s = row_size at.types a + length (logical_first op) in
      choice pc s (row_size at.types b + 2) 1 (row_code at a pc ++ logical_first op) (row_code at b (pc + s + 1) ++ as_flag) (I.Const (decided_value op) ∷ [])
  expression_code at t (Conditional' m c n a k b) pc =
      let s = row_size at.types c in
      let yes = row_size at.types a in
      choice pc s yes (row_size at.types b) (row_code at c pc) (row_code at a (pc + s + 1)) (row_code at b (pc + s + 1 + yes + 1))

  pub row_code : {m : _} → Target → Row_of-TypedExpr m → ℕ → List Instr
  row_code at end_of-TypedExpr pc = []
  row_code at (more_of-TypedExpr t kind rest) pc = expression_code at t kind pc

  -- the address of a place of type t, which is read or assigned
  pub place_code : Target → Bool → ℕ → PlaceKind → ℕ → List Instr
  place_code at assigns t (Global g) pc = I.Const (address_in at.starts g) ∷ []
  place_code at assigns t (Deref' m e) pc = row_code at e pc ++ deref_last t
  place_code at assigns t (Arrow' m e) pc = row_code at e pc ++ deref_last t
  place_code at assigns t (Item' m a n i) pc =
      row_code at a pc ++ (row_code at i (pc + row_size at.types a) ++ item_last at.types (expr_type a) t)
  place_code at assigns t (Element' m a n i) pc =
      row_place_code at assigns a pc ++ (row_code at i (pc + row_place_size at.types a) ++ element_last at.types (place_type a) t)
  place_code at assigns t (Field' m e k) pc = row_place_code at assigns e pc ++ field_last at.types (place_type e) k
  place_code at assigns t (Member' m e k) pc = row_place_code at assigns e pc ++ to_member assigns at.types (place_type e) k

  pub row_place_code : {m : _} → Target → Bool → Row_of-TypedPlace m → ℕ → List Instr
  row_place_code at assigns end_of-TypedPlace pc = []
  row_place_code at assigns (more_of-TypedPlace t kind rest) pc = place_code at assigns t kind pc

  -- the code of `&` of a place of type t
  pub address_code : Target → ℕ → PlaceKind → ℕ → List Instr
  address_code at t (Deref' m e) pc = row_code at e pc
  address_code at t (Item' m a n i) pc =
      row_code at a pc ++ (row_code at i (pc + row_size at.types a) ++ I.AddPointer (element_size at.types (expr_type a)) ∷ [])
  address_code at t (Element' m a n i) pc =
      row_place_code at false a pc ++ (row_code at i (pc + row_place_size at.types a) ++ element_end_last at.types (place_type a) t)
  address_code at t (Global g) pc = I.Const (address_in at.starts g) ∷ []
  address_code at t (Arrow' m e) pc = row_code at e pc ++ deref_last t
  address_code at t (Field' m e k) pc = row_place_code at false e pc ++ field_last at.types (place_type e) k
  address_code at t (Member' m e k) pc = row_place_code at false e pc ++ member_last at.types (place_type e) k

  pub row_address_code : {m : _} → Target → Row_of-TypedPlace m → ℕ → List Instr
  row_address_code at end_of-TypedPlace pc = []
  row_address_code at (more_of-TypedPlace t kind rest) pc = address_code at t kind pc
