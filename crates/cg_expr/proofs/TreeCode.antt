-- Code at each constructor as the emitter sees it: what the parts' codes are, one behind the other.
use Rattle.std.proofs.Common.{◌≡◌, ◌∙◌, refl, sym, ap, ℕ, ◌+◌, Bool, false, List, [], ◌∷◌, ◌++◌, length, append_assoc, arith}
use Rattle.bm_isa.specs.declared.instr.Instr.{Instr}
use Rattle.bm_isa.specs.declared.instr.Instr.TheVariants as I
use Rattle.src_tree.specs.declared.expr.TypedExpr.{TypedExpr}
use Rattle.src_tree.specs.declared.expr.TypedPlace.{TypedPlace}
use Rattle.src_tree.specs.declared.expr.UnaryOperator.{UnaryOperator}
use Rattle.src_tree.specs.declared.expr.BinaryOperator.{BinaryOperator}
use Rattle.src_tree.specs.declared.expr.LogicalOperator.{LogicalOperator}
use Rattle.src_tree.specs.declared.expr.ExprKind.{ExprKind, Load, AddressOf, Decay, Cast, Convert, Unary, Binary, Logical, Conditional}
use Rattle.src_tree.specs.declared.expr.PlaceKind.{PlaceKind, Deref, Arrow, Item, Element, Field, Member}
use Rattle.src_tree.specs.declared.expr.ExprKind.TheBlock as E
use Rattle.src_meaning.specs.ValidTypes.{ty}
use Rattle.cg_expr.specs.Pieces.{pointer_size, normal, unary_first, unary_last, binary_last, logical_first, decided_value, as_flag, element_size, field_last, deref_last, item_last, element_last, element_end_last}
use Rattle.cg_expr.specs.Sizes.{load_last, expression_size, place_size}
use Rattle.cg_expr.specs.Code.{Target, choice, to_member, expression_code, place_code, address_code}
use Rattle.cg_expr.proofs.Lengths.{two, length-expression, length-place}
use Rattle.cg_expr.proofs.Puts.{puts, puts_two, puts_three, ends_at, puts_choice}

expression-Load : (at : Target) (t : ℕ) (e : TypedPlace) (pc : ℕ) → expression_code at t (Load e) pc ≡ place_code at false e.ty e.kind (pc) ++ load_last (pointer_size at.types) (ty at.types t)
unfolding E.shape-the_row-TypedExpr-1 E.hidden-the_row-TypedExpr-1 E.shape-the_row-TypedPlace-0 E.hidden-the_row-TypedPlace-0 denote.Hole.Carrier.hidden
expression-Load at t e pc = refl

pub expression_puts-Load : (at : Target) (t : ℕ) (kind : ExprKind) (e : TypedPlace) (got again : TypedPlace) (c c1 c2 : List Instr) → kind ≡ Load e → got ≡ e → again ≡ e → c1 ≡ c ++ place_code at false got.ty got.kind (length c) → c2 ≡ c1 ++ load_last (pointer_size at.types) (ty at.types t) → c2 ≡ c ++ expression_code at t kind (length c)
expression_puts-Load at t kind e got again c c1 c2 is same same2 h k =
    let base = expression-Load at t e (length c) in
    puts c c2 _ _ (puts_two c c1 c2 _ _ h k) (cc)

expression-Cast : (at : Target) (t : ℕ) (e : TypedExpr) (pc : ℕ) → expression_code at t (Cast e) pc ≡ expression_code at e.ty e.kind (pc) ++ normal (ty at.types t)
unfolding E.shape-the_row-TypedExpr-1 E.hidden-the_row-TypedExpr-1 E.shape-the_row-TypedPlace-0 E.hidden-the_row-TypedPlace-0 denote.Hole.Carrier.hidden
expression-Cast at t e pc = refl

pub expression_puts-Cast : (at : Target) (t : ℕ) (kind : ExprKind) (e : TypedExpr) (got again : TypedExpr) (c c1 c2 : List Instr) → kind ≡ Cast e → got ≡ e → again ≡ e → c1 ≡ c ++ expression_code at got.ty got.kind (length c) → c2 ≡ c1 ++ normal (ty at.types t) → c2 ≡ c ++ expression_code at t kind (length c)
expression_puts-Cast at t kind e got again c c1 c2 is same same2 h k =
    let base = expression-Cast at t e (length c) in
    puts c c2 _ _ (puts_two c c1 c2 _ _ h k) (cc)

expression-Convert : (at : Target) (t : ℕ) (e : TypedExpr) (pc : ℕ) → expression_code at t (Convert e) pc ≡ expression_code at e.ty e.kind (pc) ++ normal (ty at.types t)
unfolding E.shape-the_row-TypedExpr-1 E.hidden-the_row-TypedExpr-1 E.shape-the_row-TypedPlace-0 E.hidden-the_row-TypedPlace-0 denote.Hole.Carrier.hidden
expression-Convert at t e pc = refl

pub expression_puts-Convert : (at : Target) (t : ℕ) (kind : ExprKind) (e : TypedExpr) (got again : TypedExpr) (c c1 c2 : List Instr) → kind ≡ Convert e → got ≡ e → again ≡ e → c1 ≡ c ++ expression_code at got.ty got.kind (length c) → c2 ≡ c1 ++ normal (ty at.types t) → c2 ≡ c ++ expression_code at t kind (length c)
expression_puts-Convert at t kind e got again c c1 c2 is same same2 h k =
    let base = expression-Convert at t e (length c) in
    puts c c2 _ _ (puts_two c c1 c2 _ _ h k) (cc)

place-Deref : (at : Target) (assigns : Bool) (t : ℕ) (e : TypedExpr) (pc : ℕ) → place_code at assigns t (Deref e) pc ≡ expression_code at e.ty e.kind (pc) ++ deref_last t
unfolding E.shape-the_row-TypedExpr-1 E.hidden-the_row-TypedExpr-1 E.shape-the_row-TypedPlace-0 E.hidden-the_row-TypedPlace-0 denote.Hole.Carrier.hidden
place-Deref at assigns t e pc = refl

pub place_puts-Deref : (at : Target) (assigns : Bool) (t : ℕ) (kind : PlaceKind) (e : TypedExpr) (got again : TypedExpr) (c c1 c2 : List Instr) → kind ≡ Deref e → got ≡ e → again ≡ e → c1 ≡ c ++ expression_code at got.ty got.kind (length c) → c2 ≡ c1 ++ deref_last t → c2 ≡ c ++ place_code at assigns t kind (length c)
place_puts-Deref at assigns t kind e got again c c1 c2 is same same2 h k =
    let base = place-Deref at assigns t e (length c) in
    puts c c2 _ _ (puts_two c c1 c2 _ _ h k) (cc)

place-Arrow : (at : Target) (assigns : Bool) (t : ℕ) (e : TypedExpr) (pc : ℕ) → place_code at assigns t (Arrow e) pc ≡ expression_code at e.ty e.kind (pc) ++ deref_last t
unfolding E.shape-the_row-TypedExpr-1 E.hidden-the_row-TypedExpr-1 E.shape-the_row-TypedPlace-0 E.hidden-the_row-TypedPlace-0 denote.Hole.Carrier.hidden
place-Arrow at assigns t e pc = refl

pub place_puts-Arrow : (at : Target) (assigns : Bool) (t : ℕ) (kind : PlaceKind) (e : TypedExpr) (got again : TypedExpr) (c c1 c2 : List Instr) → kind ≡ Arrow e → got ≡ e → again ≡ e → c1 ≡ c ++ expression_code at got.ty got.kind (length c) → c2 ≡ c1 ++ deref_last t → c2 ≡ c ++ place_code at assigns t kind (length c)
place_puts-Arrow at assigns t kind e got again c c1 c2 is same same2 h k =
    let base = place-Arrow at assigns t e (length c) in
    puts c c2 _ _ (puts_two c c1 c2 _ _ h k) (cc)

place-Field : (at : Target) (assigns : Bool) (t : ℕ) (e : TypedPlace) (k : ℕ) (pc : ℕ) → place_code at assigns t (Field e k) pc ≡ place_code at assigns e.ty e.kind (pc) ++ field_last at.types e.ty k
unfolding E.shape-the_row-TypedExpr-1 E.hidden-the_row-TypedExpr-1 E.shape-the_row-TypedPlace-0 E.hidden-the_row-TypedPlace-0 denote.Hole.Carrier.hidden
place-Field at assigns t e k pc = refl

pub place_puts-Field : (at : Target) (assigns : Bool) (t : ℕ) (kind : PlaceKind) (e : TypedPlace) (k : ℕ) (got again : TypedPlace) (c c1 c2 : List Instr) → kind ≡ Field e k → got ≡ e → again ≡ e → c1 ≡ c ++ place_code at assigns got.ty got.kind (length c) → c2 ≡ c1 ++ field_last at.types again.ty k → c2 ≡ c ++ place_code at assigns t kind (length c)
place_puts-Field at assigns t kind e k got again c c1 c2 is same same2 h l =
    let base = place-Field at assigns t e k (length c) in
    puts c c2 _ _ (puts_two c c1 c2 _ _ h l) (cc)

place-Member : (at : Target) (assigns : Bool) (t : ℕ) (e : TypedPlace) (k : ℕ) (pc : ℕ) → place_code at assigns t (Member e k) pc ≡ place_code at assigns e.ty e.kind (pc) ++ to_member assigns at.types e.ty k
unfolding E.shape-the_row-TypedExpr-1 E.hidden-the_row-TypedExpr-1 E.shape-the_row-TypedPlace-0 E.hidden-the_row-TypedPlace-0 denote.Hole.Carrier.hidden
place-Member at assigns t e k pc = refl

pub place_puts-Member : (at : Target) (assigns : Bool) (t : ℕ) (kind : PlaceKind) (e : TypedPlace) (k : ℕ) (got again : TypedPlace) (c c1 c2 : List Instr) → kind ≡ Member e k → got ≡ e → again ≡ e → c1 ≡ c ++ place_code at assigns got.ty got.kind (length c) → c2 ≡ c1 ++ to_member assigns at.types again.ty k → c2 ≡ c ++ place_code at assigns t kind (length c)
place_puts-Member at assigns t kind e k got again c c1 c2 is same same2 h l =
    let base = place-Member at assigns t e k (length c) in
    puts c c2 _ _ (puts_two c c1 c2 _ _ h l) (cc)

expression-AddressOf : (at : Target) (t : ℕ) (e : TypedPlace) (pc : ℕ) → expression_code at t (AddressOf e) pc ≡ address_code at e.ty e.kind (pc)
unfolding E.shape-the_row-TypedExpr-1 E.hidden-the_row-TypedExpr-1 E.shape-the_row-TypedPlace-0 E.hidden-the_row-TypedPlace-0 denote.Hole.Carrier.hidden
expression-AddressOf at t e pc = refl

pub expression_puts-AddressOf : (at : Target) (t : ℕ) (kind : ExprKind) (e got : TypedPlace) (c c1 : List Instr) → kind ≡ AddressOf e → got ≡ e → c1 ≡ c ++ address_code at got.ty got.kind (length c) → c1 ≡ c ++ expression_code at t kind (length c)
expression_puts-AddressOf at t kind e got c c1 is same h =
    let base = expression-AddressOf at t e (length c) in
    puts c c1 _ _ h (cc)

expression-Decay : (at : Target) (t : ℕ) (e : TypedPlace) (pc : ℕ) → expression_code at t (Decay e) pc ≡ place_code at false e.ty e.kind (pc)
unfolding E.shape-the_row-TypedExpr-1 E.hidden-the_row-TypedExpr-1 E.shape-the_row-TypedPlace-0 E.hidden-the_row-TypedPlace-0 denote.Hole.Carrier.hidden
expression-Decay at t e pc = refl

pub expression_puts-Decay : (at : Target) (t : ℕ) (kind : ExprKind) (e got : TypedPlace) (c c1 : List Instr) → kind ≡ Decay e → got ≡ e → c1 ≡ c ++ place_code at false got.ty got.kind (length c) → c1 ≡ c ++ expression_code at t kind (length c)
expression_puts-Decay at t kind e got c c1 is same h =
    let base = expression-Decay at t e (length c) in
    puts c c1 _ _ h (cc)

address-Deref : (at : Target) (t : ℕ) (e : TypedExpr) (pc : ℕ) → address_code at t (Deref e) pc ≡ expression_code at e.ty e.kind (pc)
unfolding E.shape-the_row-TypedExpr-1 E.hidden-the_row-TypedExpr-1 E.shape-the_row-TypedPlace-0 E.hidden-the_row-TypedPlace-0 denote.Hole.Carrier.hidden
address-Deref at t e pc = refl

pub address_puts-Deref : (at : Target) (t : ℕ) (kind : PlaceKind) (e got : TypedExpr) (c c1 : List Instr) → kind ≡ Deref e → got ≡ e → c1 ≡ c ++ expression_code at got.ty got.kind (length c) → c1 ≡ c ++ address_code at t kind (length c)
address_puts-Deref at t kind e got c c1 is same h =
    let base = address-Deref at t e (length c) in
    puts c c1 _ _ h (cc)

expression-Binary : (at : Target) (t : ℕ) (op : BinaryOperator) (a : TypedExpr) (b : TypedExpr) (pc : ℕ) → expression_code at t (Binary op a b) pc ≡ expression_code at a.ty a.kind (pc) ++ (expression_code at b.ty b.kind (pc + expression_size at.types a.ty a.kind) ++ binary_last at.types t a.ty op)
unfolding E.shape-the_row-TypedExpr-1 E.hidden-the_row-TypedExpr-1 E.shape-the_row-TypedPlace-0 E.hidden-the_row-TypedPlace-0 denote.Hole.Carrier.hidden
expression-Binary at t op a b pc = refl

pub expression_puts-Binary : (at : Target) (t : ℕ) (kind : ExprKind) (op : BinaryOperator) (a : TypedExpr) (b : TypedExpr) (got_a : TypedExpr) (got_b : TypedExpr) (again : TypedExpr) (c c1 c2 c3 : List Instr) → kind ≡ Binary op a b → got_a ≡ a → got_b ≡ b → again ≡ a → c1 ≡ c ++ expression_code at got_a.ty got_a.kind (length c) → c2 ≡ c1 ++ expression_code at got_b.ty got_b.kind (length c1) → c3 ≡ c2 ++ binary_last at.types t again.ty op → c3 ≡ c ++ expression_code at t kind (length c)
expression_puts-Binary at t kind op a b got_a got_b again c c1 c2 c3 is same_a same_b same h k l =
    let base = expression-Binary at t op a b (length c) in
    let there = ends_at c c1 _ _ h (length-expression at got_a.ty got_a.kind (length c)) in
    puts c c3 _ _ (puts_three c c1 c2 c3 _ _ _ h k l) (cc)

place-Item : (at : Target) (assigns : Bool) (t : ℕ) (a : TypedExpr) (i : TypedExpr) (pc : ℕ) → place_code at assigns t (Item a i) pc ≡ expression_code at a.ty a.kind (pc) ++ (expression_code at i.ty i.kind (pc + expression_size at.types a.ty a.kind) ++ item_last at.types a.ty t)
unfolding E.shape-the_row-TypedExpr-1 E.hidden-the_row-TypedExpr-1 E.shape-the_row-TypedPlace-0 E.hidden-the_row-TypedPlace-0 denote.Hole.Carrier.hidden
place-Item at assigns t a i pc = refl

pub place_puts-Item : (at : Target) (assigns : Bool) (t : ℕ) (kind : PlaceKind) (a : TypedExpr) (i : TypedExpr) (got_a : TypedExpr) (got_i : TypedExpr) (again : TypedExpr) (c c1 c2 c3 : List Instr) → kind ≡ Item a i → got_a ≡ a → got_i ≡ i → again ≡ a → c1 ≡ c ++ expression_code at got_a.ty got_a.kind (length c) → c2 ≡ c1 ++ expression_code at got_i.ty got_i.kind (length c1) → c3 ≡ c2 ++ item_last at.types again.ty t → c3 ≡ c ++ place_code at assigns t kind (length c)
place_puts-Item at assigns t kind a i got_a got_i again c c1 c2 c3 is same_a same_i same h k l =
    let base = place-Item at assigns t a i (length c) in
    let there = ends_at c c1 _ _ h (length-expression at got_a.ty got_a.kind (length c)) in
    puts c c3 _ _ (puts_three c c1 c2 c3 _ _ _ h k l) (cc)

place-Element : (at : Target) (assigns : Bool) (t : ℕ) (a : TypedPlace) (i : TypedExpr) (pc : ℕ) → place_code at assigns t (Element a i) pc ≡ place_code at assigns a.ty a.kind (pc) ++ (expression_code at i.ty i.kind (pc + place_size at.types a.kind) ++ element_last at.types a.ty t)
unfolding E.shape-the_row-TypedExpr-1 E.hidden-the_row-TypedExpr-1 E.shape-the_row-TypedPlace-0 E.hidden-the_row-TypedPlace-0 denote.Hole.Carrier.hidden
place-Element at assigns t a i pc = refl

pub place_puts-Element : (at : Target) (assigns : Bool) (t : ℕ) (kind : PlaceKind) (a : TypedPlace) (i : TypedExpr) (got_a : TypedPlace) (got_i : TypedExpr) (again : TypedPlace) (c c1 c2 c3 : List Instr) → kind ≡ Element a i → got_a ≡ a → got_i ≡ i → again ≡ a → c1 ≡ c ++ place_code at assigns got_a.ty got_a.kind (length c) → c2 ≡ c1 ++ expression_code at got_i.ty got_i.kind (length c1) → c3 ≡ c2 ++ element_last at.types again.ty t → c3 ≡ c ++ place_code at assigns t kind (length c)
place_puts-Element at assigns t kind a i got_a got_i again c c1 c2 c3 is same_a same_i same h k l =
    let base = place-Element at assigns t a i (length c) in
    let there = ends_at c c1 _ _ h (length-place at assigns got_a.ty got_a.kind (length c)) in
    puts c c3 _ _ (puts_three c c1 c2 c3 _ _ _ h k l) (cc)

address-Item : (at : Target) (t : ℕ) (a : TypedExpr) (i : TypedExpr) (pc : ℕ) → address_code at t (Item a i) pc ≡ expression_code at a.ty a.kind (pc) ++ (expression_code at i.ty i.kind (pc + expression_size at.types a.ty a.kind) ++ I.AddPointer (element_size at.types a.ty) ∷ [])
unfolding E.shape-the_row-TypedExpr-1 E.hidden-the_row-TypedExpr-1 E.shape-the_row-TypedPlace-0 E.hidden-the_row-TypedPlace-0 denote.Hole.Carrier.hidden
address-Item at t a i pc = refl

pub address_puts-Item : (at : Target) (t : ℕ) (kind : PlaceKind) (a : TypedExpr) (i : TypedExpr) (got_a : TypedExpr) (got_i : TypedExpr) (again : TypedExpr) (c c1 c2 c3 : List Instr) → kind ≡ Item a i → got_a ≡ a → got_i ≡ i → again ≡ a → c1 ≡ c ++ expression_code at got_a.ty got_a.kind (length c) → c2 ≡ c1 ++ expression_code at got_i.ty got_i.kind (length c1) → c3 ≡ c2 ++ I.AddPointer (element_size at.types again.ty) ∷ [] → c3 ≡ c ++ address_code at t kind (length c)
address_puts-Item at t kind a i got_a got_i again c c1 c2 c3 is same_a same_i same h k l =
    let base = address-Item at t a i (length c) in
    let there = ends_at c c1 _ _ h (length-expression at got_a.ty got_a.kind (length c)) in
    puts c c3 _ _ (puts_three c c1 c2 c3 _ _ _ h k l) (cc)

address-Element : (at : Target) (t : ℕ) (a : TypedPlace) (i : TypedExpr) (pc : ℕ) → address_code at t (Element a i) pc ≡ place_code at false a.ty a.kind (pc) ++ (expression_code at i.ty i.kind (pc + place_size at.types a.kind) ++ element_end_last at.types a.ty t)
unfolding E.shape-the_row-TypedExpr-1 E.hidden-the_row-TypedExpr-1 E.shape-the_row-TypedPlace-0 E.hidden-the_row-TypedPlace-0 denote.Hole.Carrier.hidden
address-Element at t a i pc = refl

pub address_puts-Element : (at : Target) (t : ℕ) (kind : PlaceKind) (a : TypedPlace) (i : TypedExpr) (got_a : TypedPlace) (got_i : TypedExpr) (again : TypedPlace) (c c1 c2 c3 : List Instr) → kind ≡ Element a i → got_a ≡ a → got_i ≡ i → again ≡ a → c1 ≡ c ++ place_code at false got_a.ty got_a.kind (length c) → c2 ≡ c1 ++ expression_code at got_i.ty got_i.kind (length c1) → c3 ≡ c2 ++ element_end_last at.types again.ty t → c3 ≡ c ++ address_code at t kind (length c)
address_puts-Element at t kind a i got_a got_i again c c1 c2 c3 is same_a same_i same h k l =
    let base = address-Element at t a i (length c) in
    let there = ends_at c c1 _ _ h (length-place at false got_a.ty got_a.kind (length c)) in
    puts c c3 _ _ (puts_three c c1 c2 c3 _ _ _ h k l) (cc)

expression-Unary : (at : Target) (t : ℕ) (op : UnaryOperator) (e : TypedExpr) (pc : ℕ) → expression_code at t (Unary op e) pc ≡ unary_first op ++ (expression_code at e.ty e.kind (pc + length (unary_first op)) ++ unary_last (ty at.types t) op)
unfolding E.shape-the_row-TypedExpr-1 E.hidden-the_row-TypedExpr-1 E.shape-the_row-TypedPlace-0 E.hidden-the_row-TypedPlace-0 denote.Hole.Carrier.hidden
expression-Unary at t op e pc = refl

pub expression_puts-Unary : (at : Target) (t : ℕ) (kind : ExprKind) (op : UnaryOperator) (e got : TypedExpr) (c c1 c2 c3 : List Instr) → kind ≡ Unary op e → got ≡ e → c1 ≡ c ++ unary_first op → c2 ≡ c1 ++ expression_code at got.ty got.kind (length c1) → c3 ≡ c2 ++ unary_last (ty at.types t) op → c3 ≡ c ++ expression_code at t kind (length c)
expression_puts-Unary at t kind op e got c c1 c2 c3 is same h k l =
    let base = expression-Unary at t op e (length c) in
    let there = ends_at c c1 _ _ h refl in
    puts c c3 _ _ (puts_three c c1 c2 c3 _ _ _ h k l) (cc)

expression-Logical : (at : Target) (t : ℕ) (op : LogicalOperator) (a b : TypedExpr) (pc : ℕ) → expression_code at t (Logical op a b) pc ≡ choice pc (expression_size at.types a.ty a.kind + length (logical_first op)) (expression_size at.types b.ty b.kind + 2) 1 (expression_code at a.ty a.kind pc ++ logical_first op) (expression_code at b.ty b.kind (pc + (expression_size at.types a.ty a.kind + length (logical_first op)) + 1) ++ as_flag) (I.Const (decided_value op) ∷ [])
unfolding E.shape-the_row-TypedExpr-1 E.hidden-the_row-TypedExpr-1 E.shape-the_row-TypedPlace-0 E.hidden-the_row-TypedPlace-0 denote.Hole.Carrier.hidden
expression-Logical at t op a b pc = refl

regrouped : (c x y z w : List Instr) → (c ++ x) ++ (y ++ (z ++ w)) ≡ ((c ++ (x ++ y)) ++ z) ++ w
regrouped c x y z w = simp append_assoc

logical_is : (at : Target) (t : ℕ) (op : LogicalOperator) (a b : TypedExpr) (c c1 c2 c3 c4 c5 : List Instr) (other end : ℕ) → c1 ≡ c ++ expression_code at a.ty a.kind (length c) → c2 ≡ c1 ++ logical_first op → c3 ≡ c2 ++ I.JumpIfZero other ∷ [] → c4 ≡ c3 ++ expression_code at b.ty b.kind (length c3) → c5 ≡ c4 ++ (as_flag ++ (I.Jump end ∷ I.Const (decided_value op) ∷ [])) → other ≡ length c + (expression_size at.types a.ty a.kind + length (logical_first op)) + 1 + (expression_size at.types b.ty b.kind + 2) + 1 → end ≡ other + 1 → c5 ≡ c ++ expression_code at t (Logical op a b) (length c)
logical_is at t op a b c c1 c2 c3 c4 c5 other end h1 h2 h3 h4 h5 o e =
    let s = expression_size at.types a.ty a.kind + length (logical_first op) in
    let test = puts_two c c1 c2 _ _ h1 h2 in
    let tested : length c2 ≡ length c + s =
    ends_at c c2 _ _ test (two (expression_code at a.ty a.kind (length c)) (logical_first op) _ _ (length-expression at a.ty a.kind (length c)) refl) in
    let there : length c3 ≡ length c + s + 1 = ends_at c2 c3 _ _ h3 refl ∙ ap (λ n. n + 1) tested in
    let one = expression_code at b.ty b.kind (length c3) ++ as_flag in
    let last : c5 ≡ ((c3 ++ one) ++ I.Jump end ∷ []) ++ I.Const (decided_value op) ∷ [] =
    h5 ∙ ap (λ x. x ++ (as_flag ++ (I.Jump end ∷ I.Const (decided_value op) ∷ []))) h4 ∙ regrouped c3 (expression_code at b.ty b.kind (length c3)) as_flag (I.Jump end ∷ []) (I.Const (decided_value op) ∷ []) in
    let all = puts_choice c c2 c3 (c3 ++ one) ((c3 ++ one) ++ I.Jump end ∷ []) c5 _ one _ s (expression_size at.types b.ty b.kind + 2) 1 other end test h3 refl refl last o e in
    let base = expression-Logical at t op a b (length c) in
    puts c c5 _ _ all (ap (λ pc. choice (length c) s (expression_size at.types b.ty b.kind + 2) 1 (expression_code at a.ty a.kind (length c) ++ logical_first op) (expression_code at b.ty b.kind pc ++ as_flag) (I.Const (decided_value op) ∷ [])) there ∙ sym base)

expression-Conditional : (at : Target) (t : ℕ) (e a b : TypedExpr) (pc : ℕ) → expression_code at t (Conditional e a b) pc ≡ choice pc (expression_size at.types e.ty e.kind) (expression_size at.types a.ty a.kind) (expression_size at.types b.ty b.kind) (expression_code at e.ty e.kind pc) (expression_code at a.ty a.kind (pc + expression_size at.types e.ty e.kind + 1)) (expression_code at b.ty b.kind (pc + expression_size at.types e.ty e.kind + 1 + expression_size at.types a.ty a.kind + 1))
unfolding E.shape-the_row-TypedExpr-1 E.hidden-the_row-TypedExpr-1 E.shape-the_row-TypedPlace-0 E.hidden-the_row-TypedPlace-0 denote.Hole.Carrier.hidden
expression-Conditional at t e a b pc = refl

conditional_is : (at : Target) (t : ℕ) (e a b : TypedExpr) (c c1 c2 c3 c4 c5 : List Instr) (other end : ℕ) → c1 ≡ c ++ expression_code at e.ty e.kind (length c) → c2 ≡ c1 ++ I.JumpIfZero other ∷ [] → c3 ≡ c2 ++ expression_code at a.ty a.kind (length c2) → c4 ≡ c3 ++ I.Jump end ∷ [] → c5 ≡ c4 ++ expression_code at b.ty b.kind (length c4) → other ≡ length c + expression_size at.types e.ty e.kind + 1 + expression_size at.types a.ty a.kind + 1 → end ≡ other + expression_size at.types b.ty b.kind → c5 ≡ c ++ expression_code at t (Conditional e a b) (length c)
conditional_is at t e a b c c1 c2 c3 c4 c5 other end h1 h2 h3 h4 h5 o k =
    let s = expression_size at.types e.ty e.kind in
    let n = expression_size at.types a.ty a.kind in
    let m = expression_size at.types b.ty b.kind in
    let tested : length c1 ≡ length c + s = ends_at c c1 _ _ h1 (length-expression at e.ty e.kind (length c)) in
    let there : length c2 ≡ length c + s + 1 = ends_at c1 c2 _ _ h2 refl ∙ ap (λ x. x + 1) tested in
    let chosen : length c3 ≡ length c2 + n = ends_at c2 c3 _ _ h3 (length-expression at a.ty a.kind (length c2)) in
    let behind : length c4 ≡ length c + s + 1 + n + 1 = ends_at c3 c4 _ _ h4 refl ∙ ap (λ x. x + 1) (chosen ∙ ap (λ x. x + n) there) in
    let all = puts_choice c c1 c2 c3 c4 c5 _ _ _ s n m other end h1 h2 h3 h4 h5 o k in
    let base = expression-Conditional at t e a b (length c) in
    puts c c5 _ _ all (ap (λ x. choice (length c) s n m (expression_code at e.ty e.kind (length c)) (expression_code at a.ty a.kind x) (expression_code at b.ty b.kind (length c4))) there ∙ ap (λ x. choice (length c) s n m (expression_code at e.ty e.kind (length c)) (expression_code at a.ty a.kind (length c + s + 1)) (expression_code at b.ty b.kind x)) behind ∙ sym base)

pub expression_puts-Logical : (at : Target) (t : ℕ) (kind : ExprKind) (op : LogicalOperator) (a b seen_a seen_b got_a got_b : TypedExpr) (here c c1 c2 c3 c4 c5 : List Instr) (other end : ℕ) → kind ≡ Logical op a b → here ≡ c → seen_a ≡ a → seen_b ≡ b → got_a ≡ a → got_b ≡ b → other ≡ length here + (expression_size at.types seen_a.ty seen_a.kind + length (logical_first op)) + 1 + (expression_size at.types seen_b.ty seen_b.kind + 2) + 1 → end ≡ other + 1 → c1 ≡ c ++ expression_code at got_a.ty got_a.kind (length c) → c2 ≡ c1 ++ logical_first op → c3 ≡ c2 ++ I.JumpIfZero other ∷ [] → c4 ≡ c3 ++ expression_code at got_b.ty got_b.kind (length c3) → c5 ≡ c4 ++ (as_flag ++ (I.Jump end ∷ I.Const (decided_value op) ∷ [])) → c5 ≡ c ++ expression_code at t kind (length c)
expression_puts-Logical at t kind op a b seen_a seen_b got_a got_b here c c1 c2 c3 c4 c5 other end is same s1 s2 s3 s4 o e h1 h2 h3 h4 h5 =
    let first : c1 ≡ c ++ expression_code at a.ty a.kind (length c) =
    h1 ∙ ap (λ (x : TypedExpr). c ++ expression_code at x.ty x.kind (length c)) s3 in
    let fourth : c4 ≡ c3 ++ expression_code at b.ty b.kind (length c3) =
    h4 ∙ ap (λ (x : TypedExpr). c3 ++ expression_code at x.ty x.kind (length c3)) s4 in
    let there : other ≡ length c + (expression_size at.types a.ty a.kind + length (logical_first op)) + 1 + (expression_size at.types b.ty b.kind + 2) + 1 = cc in
    puts c c5 _ _ (logical_is at t op a b c c1 c2 c3 c4 c5 other end first h2 h3 fourth h5 there e) (ap (λ x. expression_code at t x (length c)) (sym is))

pub expression_puts-Conditional : (at : Target) (t : ℕ) (kind : ExprKind) (e a b seen_e seen_a seen_b got_e got_a got_b : TypedExpr) (here c c1 c2 c3 c4 c5 : List Instr) (other end : ℕ) → kind ≡ Conditional e a b → here ≡ c → seen_e ≡ e → seen_a ≡ a → seen_b ≡ b → got_e ≡ e → got_a ≡ a → got_b ≡ b → other ≡ length here + expression_size at.types seen_e.ty seen_e.kind + 1 + expression_size at.types seen_a.ty seen_a.kind + 1 → end ≡ other + expression_size at.types seen_b.ty seen_b.kind → c1 ≡ c ++ expression_code at got_e.ty got_e.kind (length c) → c2 ≡ c1 ++ I.JumpIfZero other ∷ [] → c3 ≡ c2 ++ expression_code at got_a.ty got_a.kind (length c2) → c4 ≡ c3 ++ I.Jump end ∷ [] → c5 ≡ c4 ++ expression_code at got_b.ty got_b.kind (length c4) → c5 ≡ c ++ expression_code at t kind (length c)
expression_puts-Conditional at t kind e a b seen_e seen_a seen_b got_e got_a got_b here c c1 c2 c3 c4 c5 other end is same s0 s1 s2 s3 s4 s5 o k h1 h2 h3 h4 h5 =
    let first : c1 ≡ c ++ expression_code at e.ty e.kind (length c) =
    h1 ∙ ap (λ (x : TypedExpr). c ++ expression_code at x.ty x.kind (length c)) s3 in
    let third : c3 ≡ c2 ++ expression_code at a.ty a.kind (length c2) =
    h3 ∙ ap (λ (x : TypedExpr). c2 ++ expression_code at x.ty x.kind (length c2)) s4 in
    let fifth : c5 ≡ c4 ++ expression_code at b.ty b.kind (length c4) =
    h5 ∙ ap (λ (x : TypedExpr). c4 ++ expression_code at x.ty x.kind (length c4)) s5 in
    let there : other ≡ length c + expression_size at.types e.ty e.kind + 1 + expression_size at.types a.ty a.kind + 1 = cc in
    let last : end ≡ other + expression_size at.types b.ty b.kind = cc in
    puts c c5 _ _ (conditional_is at t e a b c c1 c2 c3 c4 c5 other end first h2 third h4 fifth there last) (ap (λ x. expression_code at t x (length c)) (sym is))
