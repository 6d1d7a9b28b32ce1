-- The rules of constants at each constructor as code sees it.
use Rattle.std.proofs.Common.{◌≡◌, ◌∙◌, refl, sym, ap, subst, ℕ, ℤ, Bool, true, ◌&&◌, Some}
use Rattle.lu_spec.specs.Then.{then_do}
use Rattle.c_types.specs.declared.parts.Parts.{Parts}
use Rattle.c_types.specs.declared.parts.IntKind.{IntKind}
use Rattle.src_tree.specs.declared.value.Store.{Store}
use Rattle.src_tree.specs.declared.expr.TypedExpr.{TypedExpr}
use Rattle.src_tree.specs.declared.expr.UnaryOperator.{UnaryOperator}
use Rattle.src_tree.specs.declared.expr.BinaryOperator.{BinaryOperator}
use Rattle.src_tree.specs.declared.expr.LogicalOperator.{LogicalOperator}
use Rattle.src_tree.specs.declared.expr.ExprKind.{ExprKind, Cast, Convert, Unary, Binary, Logical, Conditional}
use Rattle.src_tree.specs.declared.expr.ExprKind.TheBlock as E
use Rattle.src_meaning.specs.Objects.{Gives}
use Rattle.src_meaning.specs.Operators.{converted, is_true, flagged, unary, binary}
use Rattle.src_meaning.specs.Expression.{Scope, value_of, logical, chosen}
use Rattle.src_meaning.specs.ValidTypes.{ty, is_integer}
use Rattle.src_meaning.specs.Constant.{kind_at, takes_integers, is_integer_constant, int_value}
use Rattle.src_meaning.proofs.LayoutLengths.{and_left, and_right}

abbrev is_constant_at : Parts → TypedExpr → Bool
is_constant_at p e = is_integer_constant p e.ty e.kind

module _ (p : Parts) (t : ℕ) where
  form-Cast : (e : TypedExpr) → is_integer_constant p t (Cast e) ≡ is_integer (ty p t) && is_constant_at p e
  unfolding E.shape-the_row-TypedExpr-1 E.hidden-the_row-TypedExpr-1 denote.Hole.Carrier.hidden
  form-Cast e = refl

  form-Convert : (e : TypedExpr) → is_integer_constant p t (Convert e) ≡ is_integer (ty p t) && is_constant_at p e
  unfolding E.shape-the_row-TypedExpr-1 E.hidden-the_row-TypedExpr-1 denote.Hole.Carrier.hidden
  form-Convert e = refl

  form-Unary : (op : UnaryOperator) (e : TypedExpr) → is_integer_constant p t (Unary op e) ≡ is_integer (ty p t) && is_constant_at p e
  unfolding E.shape-the_row-TypedExpr-1 E.hidden-the_row-TypedExpr-1 denote.Hole.Carrier.hidden
  form-Unary op e = refl

  form-Binary : (op : BinaryOperator) (a b : TypedExpr) → is_integer_constant p t (Binary op a b) ≡ is_integer (ty p t) && takes_integers op && is_constant_at p a && is_constant_at p b
  unfolding E.shape-the_row-TypedExpr-1 E.hidden-the_row-TypedExpr-1 denote.Hole.Carrier.hidden
  form-Binary op a b = refl

  form-Logical : (op : LogicalOperator) (a b : TypedExpr) → is_integer_constant p t (Logical op a b) ≡ is_integer (ty p t) && is_constant_at p a && is_constant_at p b
  unfolding E.shape-the_row-TypedExpr-1 E.hidden-the_row-TypedExpr-1 denote.Hole.Carrier.hidden
  form-Logical op a b = refl

  form-Conditional : (c a b : TypedExpr) → is_integer_constant p t (Conditional c a b) ≡ is_integer (ty p t) && is_constant_at p c && is_constant_at p a && is_constant_at p b
  unfolding E.shape-the_row-TypedExpr-1 E.hidden-the_row-TypedExpr-1 denote.Hole.Carrier.hidden
  form-Conditional c a b = refl

  -- the same, at a form that is known by an equation, and operands that are fetched from it
  pub cast_form : (form : ExprKind) (e e' : TypedExpr) (i x : Bool) → form ≡ Cast e → e' ≡ e → i ≡ is_integer (ty p t) → x ≡ is_constant_at p e' → i && x ≡ is_integer_constant p t form
  cast_form form e e' i x f g h k = rw (f, form-Cast e, h, k, g) refl

  pub convert_form : (form : ExprKind) (e e' : TypedExpr) (i x : Bool) → form ≡ Convert e → e' ≡ e → i ≡ is_integer (ty p t) → x ≡ is_constant_at p e' → i && x ≡ is_integer_constant p t form
  convert_form form e e' i x f g h k = rw (f, form-Convert e, h, k, g) refl

  pub unary_form : (form : ExprKind) (op : UnaryOperator) (e e' : TypedExpr) (i x : Bool) → form ≡ Unary op e → e' ≡ e → i ≡ is_integer (ty p t) → x ≡ is_constant_at p e' → i && x ≡ is_integer_constant p t form
  unary_form form op e e' i x f g h k = rw (f, form-Unary op e, h, k, g) refl

  pub binary_form : (form : ExprKind) (op : BinaryOperator) (a b a' b' : TypedExpr) (i j x y : Bool) → form ≡ Binary op a b → a' ≡ a → b' ≡ b → i ≡ is_integer (ty p t) → j ≡ takes_integers op → x ≡ is_constant_at p a' → y ≡ is_constant_at p b' → i && j && x && y ≡ is_integer_constant p t form
  binary_form form op a b a' b' i j x y f ga gb h l k m = rw (f, form-Binary op a b, h, l, k, m, ga, gb) refl

  pub logical_form : (form : ExprKind) (op : LogicalOperator) (a b a' b' : TypedExpr) (i x y : Bool) → form ≡ Logical op a b → a' ≡ a → b' ≡ b → i ≡ is_integer (ty p t) → x ≡ is_constant_at p a' → y ≡ is_constant_at p b' → i && x && y ≡ is_integer_constant p t form
  logical_form form op a b a' b' i x y f ga gb h k m = rw (f, form-Logical op a b, h, k, m, ga, gb) refl

  pub conditional_form : (form : ExprKind) (c a b c' a' b' : TypedExpr) (i z x y : Bool) → form ≡ Conditional c a b → c' ≡ c → a' ≡ a → b' ≡ b → i ≡ is_integer (ty p t) → z ≡ is_constant_at p c' → x ≡ is_constant_at p a' → y ≡ is_constant_at p b' → i && z && x && y ≡ is_integer_constant p t form
  conditional_form form c a b c' a' b' i z x y f gc ga gb h n k m = rw (f, form-Conditional c a b, h, n, k, m, gc, ga, gb) refl

-- an evaluation is right at an expression
abbrev pub IsRight : Scope → TypedExpr → Gives ℤ → Type 0
IsRight at e x = is_integer_constant at.types e.ty e.kind ≡ true → value_of at e.ty e.kind ≡ int_value x

module _ (at : Scope) (t : ℕ) (kind : IntKind) (known : kind_at at.types t ≡ Some kind) where
  right_of : (e e' : TypedExpr) (x : Gives ℤ) → e' ≡ e → IsRight at e' x → IsRight at e x
  right_of e e' x g h = subst (λ (e : TypedExpr). IsRight at e x) g h

  cast-core : (e : TypedExpr) (x y : Gives ℤ) → IsRight at e x → ((p : Parts) (t : ℕ) → kind_at p t ≡ Some kind → then_do (int_value x) (converted p t) ≡ int_value y) → is_integer_constant at.types t (Cast e) ≡ true → value_of at t (Cast e) ≡ int_value y
  unfolding E.shape-the_row-TypedExpr-1 E.hidden-the_row-TypedExpr-1 denote.Hole.Carrier.hidden
  cast-core e x y h step is =
      ap (λ r. then_do r (converted at.types t)) (h (and_right (is_integer (ty at.types t)) (is_constant_at at.types e) is)) ∙ step at.types t known

  convert-core : (e : TypedExpr) (x y : Gives ℤ) → IsRight at e x → ((p : Parts) (t : ℕ) → kind_at p t ≡ Some kind → then_do (int_value x) (converted p t) ≡ int_value y) → is_integer_constant at.types t (Convert e) ≡ true → value_of at t (Convert e) ≡ int_value y
  unfolding E.shape-the_row-TypedExpr-1 E.hidden-the_row-TypedExpr-1 denote.Hole.Carrier.hidden
  convert-core e x y h step is =
      ap (λ r. then_do r (converted at.types t)) (h (and_right (is_integer (ty at.types t)) (is_constant_at at.types e) is)) ∙ step at.types t known

  unary-core : (op : UnaryOperator) (e : TypedExpr) (x y : Gives ℤ) → IsRight at e x → ((p : Parts) (t : ℕ) → kind_at p t ≡ Some kind → then_do (int_value x) (unary p t op) ≡ int_value y) → is_integer_constant at.types t (Unary op e) ≡ true → value_of at t (Unary op e) ≡ int_value y
  unfolding E.shape-the_row-TypedExpr-1 E.hidden-the_row-TypedExpr-1 denote.Hole.Carrier.hidden
  unary-core op e x y h step is =
      ap (λ r. then_do r (unary at.types t op)) (h (and_right (is_integer (ty at.types t)) (is_constant_at at.types e) is)) ∙ step at.types t known

  binary-core : (op : BinaryOperator) (a b : TypedExpr) (x y z : Gives ℤ) → IsRight at a x → IsRight at b y → (takes_integers op ≡ true → (p : Parts) (store : Store) (t s : ℕ) → kind_at p t ≡ Some kind → then_do (int_value x) (λ v. then_do (int_value y) (λ w. binary p store t s op v w)) ≡ int_value z) → is_integer_constant at.types t (Binary op a b) ≡ true → value_of at t (Binary op a b) ≡ int_value z
  unfolding E.shape-the_row-TypedExpr-1 E.hidden-the_row-TypedExpr-1 denote.Hole.Carrier.hidden
  binary-core op a b x y z h k step is =
      let first : is_integer (ty at.types t) && takes_integers op && is_constant_at at.types a ≡ true = and_left _ (is_constant_at at.types b) is in
      let front : is_integer (ty at.types t) && takes_integers op ≡ true = and_left _ (is_constant_at at.types a) first in
      ap (λ r. then_do r (λ v. then_do (value_of at b.ty b.kind) (λ w. binary at.types at.store t a.ty op v w))) (h (and_right (is_integer (ty at.types t) && takes_integers op) (is_constant_at at.types a) first))
      ∙ ap (λ r. then_do (int_value x) (λ v. then_do r (λ w. binary at.types at.store t a.ty op v w))) (k (and_right (is_integer (ty at.types t) && takes_integers op && is_constant_at at.types a) (is_constant_at at.types b) is))
      ∙ step (and_right (is_integer (ty at.types t)) (takes_integers op) front) at.types at.store t a.ty known

  logical-core : (op : LogicalOperator) (a b : TypedExpr) (x y z : Gives ℤ) → IsRight at a x → IsRight at b y → flagged (logical op (then_do (int_value x) is_true) (then_do (int_value y) is_true)) ≡ int_value z → is_integer_constant at.types t (Logical op a b) ≡ true → value_of at t (Logical op a b) ≡ int_value z
  unfolding E.shape-the_row-TypedExpr-1 E.hidden-the_row-TypedExpr-1 denote.Hole.Carrier.hidden
  logical-core op a b x y z h k step is =
      let first : is_integer (ty at.types t) && is_constant_at at.types a ≡ true = and_left _ (is_constant_at at.types b) is in
      ap (λ r. flagged (logical op (then_do r is_true) (then_do (value_of at b.ty b.kind) is_true))) (h (and_right (is_integer (ty at.types t)) (is_constant_at at.types a) first))
      ∙ ap (λ r. flagged (logical op (then_do (int_value x) is_true) (then_do r is_true))) (k (and_right (is_integer (ty at.types t) && is_constant_at at.types a) (is_constant_at at.types b) is))
      ∙ step

  conditional-core : (c a b : TypedExpr) (w x y z : Gives ℤ) → IsRight at c w → IsRight at a x → IsRight at b y → chosen (then_do (int_value w) is_true) (int_value x) (int_value y) ≡ int_value z → is_integer_constant at.types t (Conditional c a b) ≡ true → value_of at t (Conditional c a b) ≡ int_value z
  unfolding E.shape-the_row-TypedExpr-1 E.hidden-the_row-TypedExpr-1 denote.Hole.Carrier.hidden
  conditional-core c a b w x y z g h k step is =
      let two : is_integer (ty at.types t) && is_constant_at at.types c && is_constant_at at.types a ≡ true = and_left _ (is_constant_at at.types b) is in
      let one : is_integer (ty at.types t) && is_constant_at at.types c ≡ true = and_left _ (is_constant_at at.types a) two in
      ap (λ r. chosen (then_do r is_true) (value_of at a.ty a.kind) (value_of at b.ty b.kind)) (g (and_right (is_integer (ty at.types t)) (is_constant_at at.types c) one))
      ∙ ap (λ r. chosen (then_do (int_value w) is_true) r (value_of at b.ty b.kind)) (h (and_right (is_integer (ty at.types t) && is_constant_at at.types c) (is_constant_at at.types a) two))
      ∙ ap (λ r. chosen (then_do (int_value w) is_true) (int_value x) r) (k (and_right (is_integer (ty at.types t) && is_constant_at at.types c && is_constant_at at.types a) (is_constant_at at.types b) is))
      ∙ step

  abbrev AtForm : ExprKind → Gives ℤ → Type 0
  AtForm form y = is_integer_constant at.types t form ≡ true → value_of at t form ≡ int_value y

  at_form : (form written : ExprKind) (y : Gives ℤ) → form ≡ written → AtForm written y → AtForm form y
  at_form form written y f h = subst (λ (k : ExprKind). AtForm k y) (sym f) h

  pub cast_is : (form : ExprKind) (e e' : TypedExpr) (x y : Gives ℤ) → form ≡ Cast e → e' ≡ e → IsRight at e' x → ((p : Parts) (t : ℕ) → kind_at p t ≡ Some kind → then_do (int_value x) (converted p t) ≡ int_value y) → AtForm form y
  cast_is form e e' x y f g h step = at_form form (Cast e) y f (cast-core e x y (right_of e e' x g h) step)

  pub convert_is : (form : ExprKind) (e e' : TypedExpr) (x y : Gives ℤ) → form ≡ Convert e → e' ≡ e → IsRight at e' x → ((p : Parts) (t : ℕ) → kind_at p t ≡ Some kind → then_do (int_value x) (converted p t) ≡ int_value y) → AtForm form y
  convert_is form e e' x y f g h step = at_form form (Convert e) y f (convert-core e x y (right_of e e' x g h) step)

  pub unary_is : (form : ExprKind) (op : UnaryOperator) (e e' : TypedExpr) (x y : Gives ℤ) → form ≡ Unary op e → e' ≡ e → IsRight at e' x → ((p : Parts) (t : ℕ) → kind_at p t ≡ Some kind → then_do (int_value x) (unary p t op) ≡ int_value y) → AtForm form y
  unary_is form op e e' x y f g h step = at_form form (Unary op e) y f (unary-core op e x y (right_of e e' x g h) step)

  pub binary_is : (form : ExprKind) (op : BinaryOperator) (a b a' b' : TypedExpr) (x y z : Gives ℤ) → form ≡ Binary op a b → a' ≡ a → b' ≡ b → IsRight at a' x → IsRight at b' y → (takes_integers op ≡ true → (p : Parts) (store : Store) (t s : ℕ) → kind_at p t ≡ Some kind → then_do (int_value x) (λ v. then_do (int_value y) (λ w. binary p store t s op v w)) ≡ int_value z) → AtForm form z
  binary_is form op a b a' b' x y z f ga gb h k step = at_form form (Binary op a b) z f (binary-core op a b x y z (right_of a a' x ga h) (right_of b b' y gb k) step)

  pub logical_is : (form : ExprKind) (op : LogicalOperator) (a b a' b' : TypedExpr) (x y z : Gives ℤ) → form ≡ Logical op a b → a' ≡ a → b' ≡ b → IsRight at a' x → IsRight at b' y → flagged (logical op (then_do (int_value x) is_true) (then_do (int_value y) is_true)) ≡ int_value z → AtForm form z
  logical_is form op a b a' b' x y z f ga gb h k step = at_form form (Logical op a b) z f (logical-core op a b x y z (right_of a a' x ga h) (right_of b b' y gb k) step)

  pub conditional_is : (form : ExprKind) (c a b c' a' b' : TypedExpr) (w x y z : Gives ℤ) → form ≡ Conditional c a b → c' ≡ c → a' ≡ a → b' ≡ b → IsRight at c' w → IsRight at a' x → IsRight at b' y → chosen (then_do (int_value w) is_true) (int_value x) (int_value y) ≡ int_value z → AtForm form z
  conditional_is form c a b c' a' b' w x y z f gc ga gb g h k step = at_form form (Conditional c a b) z f (conditional-core c a b w x y z (right_of c c' w gc g) (right_of a a' x ga h) (right_of b b' y gb k) step)
