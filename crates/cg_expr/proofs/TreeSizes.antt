-- Sizes at each constructor as code sees it: what the parts' sizes add up to.
use Rattle.std.proofs.Common.{◌≡◌, refl, ℕ, ◌+◌, length, arith}
use Rattle.c_types.specs.declared.parts.Parts.{Parts}
use Rattle.src_tree.specs.declared.expr.TypedExpr.{TypedExpr}
use Rattle.src_tree.specs.declared.expr.TypedPlace.{TypedPlace}
use Rattle.src_tree.specs.declared.expr.UnaryOperator.{UnaryOperator}
use Rattle.src_tree.specs.declared.expr.BinaryOperator.{BinaryOperator}
use Rattle.src_tree.specs.declared.expr.LogicalOperator.{LogicalOperator}
use Rattle.src_tree.specs.declared.expr.ExprKind.{ExprKind, Load, AddressOf, Decay, Cast, Convert, Unary, Binary, Logical, Conditional}
use Rattle.src_tree.specs.declared.expr.PlaceKind.{PlaceKind, Deref, Arrow, Item, Element, Field, Member}
use Rattle.src_tree.specs.declared.expr.ExprKind.TheBlock as E
use Rattle.src_meaning.specs.ValidTypes.{ty}
use Rattle.cg_expr.specs.Pieces.{pointer_size, normal, unary_first, unary_last, binary_last, logical_first}
use Rattle.cg_expr.specs.Sizes.{load_last, choice_size, expression_size, place_size, address_size}

expression-AddressOf : (p : Parts) (t : ℕ) (e : TypedPlace) → expression_size p t (AddressOf e) ≡ address_size p e.kind
unfolding E.shape-the_row-TypedExpr-1 E.hidden-the_row-TypedExpr-1 E.shape-the_row-TypedPlace-0 E.hidden-the_row-TypedPlace-0 denote.Hole.Carrier.hidden
expression-AddressOf p t e = refl

pub expression_is-AddressOf : (p : Parts) (t : ℕ) (kind : ExprKind) (e got : TypedPlace) → kind ≡ AddressOf e → got ≡ e → address_size p got.kind ≡ expression_size p t kind
expression_is-AddressOf p t kind e got is same = let h = expression-AddressOf p t e in cc

expression-Decay : (p : Parts) (t : ℕ) (e : TypedPlace) → expression_size p t (Decay e) ≡ place_size p e.kind
unfolding E.shape-the_row-TypedExpr-1 E.hidden-the_row-TypedExpr-1 E.shape-the_row-TypedPlace-0 E.hidden-the_row-TypedPlace-0 denote.Hole.Carrier.hidden
expression-Decay p t e = refl

pub expression_is-Decay : (p : Parts) (t : ℕ) (kind : ExprKind) (e got : TypedPlace) → kind ≡ Decay e → got ≡ e → place_size p got.kind ≡ expression_size p t kind
expression_is-Decay p t kind e got is same = let h = expression-Decay p t e in cc

expression-Load : (p : Parts) (t : ℕ) (e : TypedPlace) → expression_size p t (Load e) ≡ place_size p e.kind + length (load_last (pointer_size p) (ty p t))
unfolding E.shape-the_row-TypedExpr-1 E.hidden-the_row-TypedExpr-1 E.shape-the_row-TypedPlace-0 E.hidden-the_row-TypedPlace-0 denote.Hole.Carrier.hidden
expression-Load p t e = refl

pub expression_is-Load : (p : Parts) (t : ℕ) (kind : ExprKind) (e : TypedPlace) (got_e : TypedPlace) (n m : ℕ) → kind ≡ Load e → got_e ≡ e → n ≡ place_size p got_e.kind → m ≡ length (load_last (pointer_size p) (ty p t)) → n + m ≡ expression_size p t kind
expression_is-Load p t kind e got_e n m is same_e h0 h1 = let base = expression-Load p t e in cc

expression-Cast : (p : Parts) (t : ℕ) (e : TypedExpr) → expression_size p t (Cast e) ≡ expression_size p e.ty e.kind + length (normal (ty p t))
unfolding E.shape-the_row-TypedExpr-1 E.hidden-the_row-TypedExpr-1 E.shape-the_row-TypedPlace-0 E.hidden-the_row-TypedPlace-0 denote.Hole.Carrier.hidden
expression-Cast p t e = refl

pub expression_is-Cast : (p : Parts) (t : ℕ) (kind : ExprKind) (e : TypedExpr) (got_e : TypedExpr) (n m : ℕ) → kind ≡ Cast e → got_e ≡ e → n ≡ expression_size p got_e.ty got_e.kind → m ≡ length (normal (ty p t)) → n + m ≡ expression_size p t kind
expression_is-Cast p t kind e got_e n m is same_e h0 h1 = let base = expression-Cast p t e in cc

expression-Convert : (p : Parts) (t : ℕ) (e : TypedExpr) → expression_size p t (Convert e) ≡ expression_size p e.ty e.kind + length (normal (ty p t))
unfolding E.shape-the_row-TypedExpr-1 E.hidden-the_row-TypedExpr-1 E.shape-the_row-TypedPlace-0 E.hidden-the_row-TypedPlace-0 denote.Hole.Carrier.hidden
expression-Convert p t e = refl

pub expression_is-Convert : (p : Parts) (t : ℕ) (kind : ExprKind) (e : TypedExpr) (got_e : TypedExpr) (n m : ℕ) → kind ≡ Convert e → got_e ≡ e → n ≡ expression_size p got_e.ty got_e.kind → m ≡ length (normal (ty p t)) → n + m ≡ expression_size p t kind
expression_is-Convert p t kind e got_e n m is same_e h0 h1 = let base = expression-Convert p t e in cc

expression-Unary : (p : Parts) (t : ℕ) (op : UnaryOperator) (e : TypedExpr) → expression_size p t (Unary op e) ≡ length (unary_first op) + expression_size p e.ty e.kind + length (unary_last (ty p t) op)
unfolding E.shape-the_row-TypedExpr-1 E.hidden-the_row-TypedExpr-1 E.shape-the_row-TypedPlace-0 E.hidden-the_row-TypedPlace-0 denote.Hole.Carrier.hidden
expression-Unary p t op e = refl

pub expression_is-Unary : (p : Parts) (t : ℕ) (kind : ExprKind) (op : UnaryOperator) (e : TypedExpr) (got_e : TypedExpr) (n m : ℕ) → kind ≡ Unary op e → got_e ≡ e → n ≡ expression_size p got_e.ty got_e.kind → m ≡ length (unary_first op) + length (unary_last (ty p t) op) → n + m ≡ expression_size p t kind
expression_is-Unary p t kind op e got_e n m is same_e h0 h1 = let base = expression-Unary p t op e in
    let whole : expression_size p t kind ≡ length (unary_first op) + expression_size p e.ty e.kind + length (unary_last (ty p t) op) = cc in
    let part : n ≡ expression_size p e.ty e.kind = cc in
    omega arith

expression-Binary : (p : Parts) (t : ℕ) (op : BinaryOperator) (a : TypedExpr) (b : TypedExpr) → expression_size p t (Binary op a b) ≡ expression_size p a.ty a.kind + expression_size p b.ty b.kind + length (binary_last p t a.ty op)
unfolding E.shape-the_row-TypedExpr-1 E.hidden-the_row-TypedExpr-1 E.shape-the_row-TypedPlace-0 E.hidden-the_row-TypedPlace-0 denote.Hole.Carrier.hidden
expression-Binary p t op a b = refl

pub expression_is-Binary : (p : Parts) (t : ℕ) (kind : ExprKind) (op : BinaryOperator) (a : TypedExpr) (b : TypedExpr) (got_a : TypedExpr) (got_b : TypedExpr) (m n s k : ℕ) → kind ≡ Binary op a b → got_a ≡ a → got_b ≡ b → m ≡ expression_size p got_a.ty got_a.kind → n ≡ expression_size p got_b.ty got_b.kind → s ≡ m + n → k ≡ length (binary_last p t a.ty op) → s + k ≡ expression_size p t kind
expression_is-Binary p t kind op a b got_a got_b m n s k is same_a same_b h0 h1 h2 h3 = let base = expression-Binary p t op a b in cc

expression-Logical : (p : Parts) (t : ℕ) (op : LogicalOperator) (a : TypedExpr) (b : TypedExpr) → expression_size p t (Logical op a b) ≡ choice_size (expression_size p a.ty a.kind + length (logical_first op)) (expression_size p b.ty b.kind + 2) 1
unfolding E.shape-the_row-TypedExpr-1 E.hidden-the_row-TypedExpr-1 E.shape-the_row-TypedPlace-0 E.hidden-the_row-TypedPlace-0 denote.Hole.Carrier.hidden
expression-Logical p t op a b = refl

pub expression_is-Logical : (p : Parts) (t : ℕ) (kind : ExprKind) (op : LogicalOperator) (a : TypedExpr) (b : TypedExpr) (got_a : TypedExpr) (got_b : TypedExpr) (m f s n k : ℕ) → kind ≡ Logical op a b → got_a ≡ a → got_b ≡ b → m ≡ expression_size p got_a.ty got_a.kind → f ≡ length (logical_first op) → s ≡ m + f → n ≡ expression_size p got_b.ty got_b.kind → k ≡ n + 2 → choice_size s k 1 ≡ expression_size p t kind
expression_is-Logical p t kind op a b got_a got_b m f s n k is same_a same_b h0 h1 h2 h3 h4 = let base = expression-Logical p t op a b in cc

expression-Conditional : (p : Parts) (t : ℕ) (c : TypedExpr) (a : TypedExpr) (b : TypedExpr) → expression_size p t (Conditional c a b) ≡ choice_size (expression_size p c.ty c.kind) (expression_size p a.ty a.kind) (expression_size p b.ty b.kind)
unfolding E.shape-the_row-TypedExpr-1 E.hidden-the_row-TypedExpr-1 E.shape-the_row-TypedPlace-0 E.hidden-the_row-TypedPlace-0 denote.Hole.Carrier.hidden
expression-Conditional p t c a b = refl

pub expression_is-Conditional : (p : Parts) (t : ℕ) (kind : ExprKind) (c : TypedExpr) (a : TypedExpr) (b : TypedExpr) (got_c : TypedExpr) (got_a : TypedExpr) (got_b : TypedExpr) (s m n : ℕ) → kind ≡ Conditional c a b → got_c ≡ c → got_a ≡ a → got_b ≡ b → s ≡ expression_size p got_c.ty got_c.kind → m ≡ expression_size p got_a.ty got_a.kind → n ≡ expression_size p got_b.ty got_b.kind → choice_size s m n ≡ expression_size p t kind
expression_is-Conditional p t kind c a b got_c got_a got_b s m n is same_c same_a same_b h0 h1 h2 = let base = expression-Conditional p t c a b in cc

place-Deref : (p : Parts) (e : TypedExpr) → place_size p (Deref e) ≡ expression_size p e.ty e.kind + 1
unfolding E.shape-the_row-TypedExpr-1 E.hidden-the_row-TypedExpr-1 E.shape-the_row-TypedPlace-0 E.hidden-the_row-TypedPlace-0 denote.Hole.Carrier.hidden
place-Deref p e = refl

pub place_is-Deref : (p : Parts) (kind : PlaceKind) (e : TypedExpr) (got_e : TypedExpr) (n : ℕ) → kind ≡ Deref e → got_e ≡ e → n ≡ expression_size p got_e.ty got_e.kind → n + 1 ≡ place_size p kind
place_is-Deref p kind e got_e n is same_e h0 = let base = place-Deref p e in cc

place-Arrow : (p : Parts) (e : TypedExpr) → place_size p (Arrow e) ≡ expression_size p e.ty e.kind + 1
unfolding E.shape-the_row-TypedExpr-1 E.hidden-the_row-TypedExpr-1 E.shape-the_row-TypedPlace-0 E.hidden-the_row-TypedPlace-0 denote.Hole.Carrier.hidden
place-Arrow p e = refl

pub place_is-Arrow : (p : Parts) (kind : PlaceKind) (e : TypedExpr) (got_e : TypedExpr) (n : ℕ) → kind ≡ Arrow e → got_e ≡ e → n ≡ expression_size p got_e.ty got_e.kind → n + 1 ≡ place_size p kind
place_is-Arrow p kind e got_e n is same_e h0 = let base = place-Arrow p e in cc

place-Item : (p : Parts) (a : TypedExpr) (i : TypedExpr) → place_size p (Item a i) ≡ expression_size p a.ty a.kind + expression_size p i.ty i.kind + 2
unfolding E.shape-the_row-TypedExpr-1 E.hidden-the_row-TypedExpr-1 E.shape-the_row-TypedPlace-0 E.hidden-the_row-TypedPlace-0 denote.Hole.Carrier.hidden
place-Item p a i = refl

pub place_is-Item : (p : Parts) (kind : PlaceKind) (a : TypedExpr) (i : TypedExpr) (got_a : TypedExpr) (got_i : TypedExpr) (m n s : ℕ) → kind ≡ Item a i → got_a ≡ a → got_i ≡ i → m ≡ expression_size p got_a.ty got_a.kind → n ≡ expression_size p got_i.ty got_i.kind → s ≡ m + n → s + 2 ≡ place_size p kind
place_is-Item p kind a i got_a got_i m n s is same_a same_i h0 h1 h2 = let base = place-Item p a i in cc

place-Element : (p : Parts) (a : TypedPlace) (i : TypedExpr) → place_size p (Element a i) ≡ place_size p a.kind + expression_size p i.ty i.kind + 1
unfolding E.shape-the_row-TypedExpr-1 E.hidden-the_row-TypedExpr-1 E.shape-the_row-TypedPlace-0 E.hidden-the_row-TypedPlace-0 denote.Hole.Carrier.hidden
place-Element p a i = refl

pub place_is-Element : (p : Parts) (kind : PlaceKind) (a : TypedPlace) (i : TypedExpr) (got_a : TypedPlace) (got_i : TypedExpr) (m n s : ℕ) → kind ≡ Element a i → got_a ≡ a → got_i ≡ i → m ≡ place_size p got_a.kind → n ≡ expression_size p got_i.ty got_i.kind → s ≡ m + n → s + 1 ≡ place_size p kind
place_is-Element p kind a i got_a got_i m n s is same_a same_i h0 h1 h2 = let base = place-Element p a i in cc

place-Field : (p : Parts) (e : TypedPlace) (k : ℕ) → place_size p (Field e k) ≡ place_size p e.kind + 1
unfolding E.shape-the_row-TypedExpr-1 E.hidden-the_row-TypedExpr-1 E.shape-the_row-TypedPlace-0 E.hidden-the_row-TypedPlace-0 denote.Hole.Carrier.hidden
place-Field p e k = refl

pub place_is-Field : (p : Parts) (kind : PlaceKind) (e : TypedPlace) (k : ℕ) (got_e : TypedPlace) (n : ℕ) → kind ≡ Field e k → got_e ≡ e → n ≡ place_size p got_e.kind → n + 1 ≡ place_size p kind
place_is-Field p kind e k got_e n is same_e h0 = let base = place-Field p e k in cc

place-Member : (p : Parts) (e : TypedPlace) (k : ℕ) → place_size p (Member e k) ≡ place_size p e.kind + 2
unfolding E.shape-the_row-TypedExpr-1 E.hidden-the_row-TypedExpr-1 E.shape-the_row-TypedPlace-0 E.hidden-the_row-TypedPlace-0 denote.Hole.Carrier.hidden
place-Member p e k = refl

pub place_is-Member : (p : Parts) (kind : PlaceKind) (e : TypedPlace) (k : ℕ) (got_e : TypedPlace) (n : ℕ) → kind ≡ Member e k → got_e ≡ e → n ≡ place_size p got_e.kind → n + 2 ≡ place_size p kind
place_is-Member p kind e k got_e n is same_e h0 = let base = place-Member p e k in cc

address-Deref : (p : Parts) (e : TypedExpr) → address_size p (Deref e) ≡ expression_size p e.ty e.kind
unfolding E.shape-the_row-TypedExpr-1 E.hidden-the_row-TypedExpr-1 E.shape-the_row-TypedPlace-0 E.hidden-the_row-TypedPlace-0 denote.Hole.Carrier.hidden
address-Deref p e = refl

pub address_is-Deref : (p : Parts) (kind : PlaceKind) (e got : TypedExpr) → kind ≡ Deref e → got ≡ e → expression_size p got.ty got.kind ≡ address_size p kind
address_is-Deref p kind e got is same = let h = address-Deref p e in cc

address-Arrow : (p : Parts) (e : TypedExpr) → address_size p (Arrow e) ≡ expression_size p e.ty e.kind + 1
unfolding E.shape-the_row-TypedExpr-1 E.hidden-the_row-TypedExpr-1 E.shape-the_row-TypedPlace-0 E.hidden-the_row-TypedPlace-0 denote.Hole.Carrier.hidden
address-Arrow p e = refl

pub address_is-Arrow : (p : Parts) (kind : PlaceKind) (e : TypedExpr) (got_e : TypedExpr) (n : ℕ) → kind ≡ Arrow e → got_e ≡ e → n ≡ expression_size p got_e.ty got_e.kind → n + 1 ≡ address_size p kind
address_is-Arrow p kind e got_e n is same_e h0 = let base = address-Arrow p e in cc

address-Item : (p : Parts) (a : TypedExpr) (i : TypedExpr) → address_size p (Item a i) ≡ expression_size p a.ty a.kind + expression_size p i.ty i.kind + 1
unfolding E.shape-the_row-TypedExpr-1 E.hidden-the_row-TypedExpr-1 E.shape-the_row-TypedPlace-0 E.hidden-the_row-TypedPlace-0 denote.Hole.Carrier.hidden
address-Item p a i = refl

pub address_is-Item : (p : Parts) (kind : PlaceKind) (a : TypedExpr) (i : TypedExpr) (got_a : TypedExpr) (got_i : TypedExpr) (m n s : ℕ) → kind ≡ Item a i → got_a ≡ a → got_i ≡ i → m ≡ expression_size p got_a.ty got_a.kind → n ≡ expression_size p got_i.ty got_i.kind → s ≡ m + n → s + 1 ≡ address_size p kind
address_is-Item p kind a i got_a got_i m n s is same_a same_i h0 h1 h2 = let base = address-Item p a i in cc

address-Element : (p : Parts) (a : TypedPlace) (i : TypedExpr) → address_size p (Element a i) ≡ place_size p a.kind + expression_size p i.ty i.kind + 1
unfolding E.shape-the_row-TypedExpr-1 E.hidden-the_row-TypedExpr-1 E.shape-the_row-TypedPlace-0 E.hidden-the_row-TypedPlace-0 denote.Hole.Carrier.hidden
address-Element p a i = refl

pub address_is-Element : (p : Parts) (kind : PlaceKind) (a : TypedPlace) (i : TypedExpr) (got_a : TypedPlace) (got_i : TypedExpr) (m n s : ℕ) → kind ≡ Element a i → got_a ≡ a → got_i ≡ i → m ≡ place_size p got_a.kind → n ≡ expression_size p got_i.ty got_i.kind → s ≡ m + n → s + 1 ≡ address_size p kind
address_is-Element p kind a i got_a got_i m n s is same_a same_i h0 h1 h2 = let base = address-Element p a i in cc

address-Field : (p : Parts) (e : TypedPlace) (k : ℕ) → address_size p (Field e k) ≡ place_size p e.kind + 1
unfolding E.shape-the_row-TypedExpr-1 E.hidden-the_row-TypedExpr-1 E.shape-the_row-TypedPlace-0 E.hidden-the_row-TypedPlace-0 denote.Hole.Carrier.hidden
address-Field p e k = refl

pub address_is-Field : (p : Parts) (kind : PlaceKind) (e : TypedPlace) (k : ℕ) (got_e : TypedPlace) (n : ℕ) → kind ≡ Field e k → got_e ≡ e → n ≡ place_size p got_e.kind → n + 1 ≡ address_size p kind
address_is-Field p kind e k got_e n is same_e h0 = let base = address-Field p e k in cc

address-Member : (p : Parts) (e : TypedPlace) (k : ℕ) → address_size p (Member e k) ≡ place_size p e.kind + 2
unfolding E.shape-the_row-TypedExpr-1 E.hidden-the_row-TypedExpr-1 E.shape-the_row-TypedPlace-0 E.hidden-the_row-TypedPlace-0 denote.Hole.Carrier.hidden
address-Member p e k = refl

pub address_is-Member : (p : Parts) (kind : PlaceKind) (e : TypedPlace) (k : ℕ) (got_e : TypedPlace) (n : ℕ) → kind ≡ Member e k → got_e ≡ e → n ≡ place_size p got_e.kind → n + 2 ≡ address_size p kind
address_is-Member p kind e k got_e n is same_e h0 = let base = address-Member p e k in cc
