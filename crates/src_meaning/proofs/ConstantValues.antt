-- The values of constants that aren't integers.
use Rattle.std.proofs.Common.{◌≡◌, ◌∙◌, refl, sym, ap, ℕ, zero, suc, ℤ, pos, negsuc, Bool, true, false, ◌&&◌, ◌||◌, if◌then◌else◌, Option, Some, None, Ok, Err}
use Rattle.lu_base.specs.declared.trap.Trap.TheVariants.{BadCode}
use Rattle.c_types.specs.declared.parts.Parts.{Parts}
use Rattle.c_types.specs.declared.parts.Ty.{Ty}
use Rattle.c_types.specs.declared.parts.Ty.TheVariants as T
use Rattle.src_tree.specs.declared.value.Value as V
use Rattle.src_tree.specs.declared.expr.TypedExpr.{TypedExpr}
use Rattle.src_tree.specs.declared.expr.TypedPlace.{TypedPlace}
use Rattle.src_tree.specs.declared.expr.ExprKind.{ExprKind, Number, SizeOf, Local, Function, Load', AddressOf', Decay', Cast', Convert', Unary', Binary', Logical', Conditional', more_of-TypedExpr, AddressOf, Decay, Convert}
use Rattle.src_tree.specs.declared.expr.ExprKind.TheBlock as E
use Rattle.src_tree.specs.declared.expr.PlaceKind.{PlaceKind, Global, Deref', Arrow', Item', Element', Field', Member'}
use Rattle.src_tree.specs.declared.program.Program.{Program}
use Rattle.src_meaning.specs.Integers.{is_zero}
use Rattle.src_meaning.specs.Operators.{converted_to}
use Rattle.src_meaning.specs.Expression.{Scope, value_of}
use Rattle.src_meaning.specs.ValidTypes.{ty, is_int, is_pointer}
use Rattle.src_meaning.specs.Constant.{is_integer_constant, is_zero_literal, is_null_constant, is_address_constant, constant_value, if_ok}
use Rattle.src_meaning.specs.Initial.{initial_scope, start_in, start_of}
use Rattle.src_meaning.proofs.LayoutLengths.{and_left, and_right}

zero_is : (z : ℤ) → is_zero z ≡ true → z ≡ pos 0
zero_is (pos zero) h = refl
zero_is (pos (suc n)) h = cc
zero_is (negsuc n) h = cc

null_in : (o : Option Ty) → is_pointer o ≡ true → converted_to o (V.Int (pos 0)) ≡ Ok V.Null
null_in None h = cc
null_in (Some (T.Int k)) h = cc
null_in (Some (T.Pointer t)) h = refl
null_in (Some T.VoidPointer) h = refl
null_in (Some (T.Function g)) h = refl
null_in (Some (T.Struct s)) h = cc
null_in (Some (T.Union u)) h = cc
null_in (Some (T.Array t n)) h = cc

literal_value : (at : Scope) (t : ℕ) (kind : ExprKind) → is_zero_literal at.types t kind ≡ true → value_of at t kind ≡ Ok (V.Int (pos 0))
literal_value at t (Number z) h = ap (λ z. Ok (V.Int z)) (zero_is z (and_right (is_int (ty at.types t)) (is_zero z) h))
literal_value at t (SizeOf u) h = cc
literal_value at t (Local x) h = cc
literal_value at t (Function f) h = cc
literal_value at t (Load' m e) h = cc
literal_value at t (AddressOf' m e) h = cc
literal_value at t (Decay' m e) h = cc
literal_value at t (Cast' m e) h = cc
literal_value at t (Convert' m e) h = cc
literal_value at t (Unary' op m e) h = cc
literal_value at t (Binary' op m a n b) h = cc
literal_value at t (Logical' op m a n b) h = cc
literal_value at t (Conditional' m c n a k b) h = cc

null_value : (at : Scope) (t : ℕ) (kind : ExprKind) → is_null_constant at.types t kind ≡ true → value_of at t kind ≡ Ok V.Null
null_value at t (Number z) h = cc
null_value at t (SizeOf u) h = cc
null_value at t (Local x) h = cc
null_value at t (Function f) h = cc
null_value at t (Load' m e) h = cc
null_value at t (AddressOf' m e) h = cc
null_value at t (Decay' m e) h = cc
null_value at t (Cast' m e) h = cc
null_value at t (Convert' m (more_of-TypedExpr u kind rest)) h =
    rw (literal_value at u kind (and_right (is_pointer (ty at.types t)) (is_zero_literal at.types u kind) h)) (null_in (ty at.types t) (and_left (is_pointer (ty at.types t)) (is_zero_literal at.types u kind) h))
null_value at t (Unary' op m e) h = cc
null_value at t (Binary' op m a n b) h = cc
null_value at t (Logical' op m a n b) h = cc
null_value at t (Conditional' m c n a k b) h = cc

-- the literal 0 as a pointer is evaluated to null
pub evaluate-null : (at : Scope) (e : TypedExpr) → is_integer_constant at.types e.ty e.kind ≡ false → is_null_constant at.types e.ty e.kind ≡ true → Some V.Null ≡ if_ok (constant_value at e)
evaluate-null at e h k =
    sym (ap if_ok (ap (λ b. if b || (is_null_constant at.types e.ty e.kind || is_address_constant e.kind) then value_of at e.ty e.kind else Err BadCode) h ∙ ap (λ b. if false || (b || is_address_constant e.kind) then value_of at e.ty e.kind else Err BadCode) k ∙ null_value at e.ty e.kind k))

-- what is no constant is evaluated to nothing
pub evaluate-none : (at : Scope) (e : TypedExpr) → is_integer_constant at.types e.ty e.kind ≡ false → is_null_constant at.types e.ty e.kind ≡ false → is_address_constant e.kind ≡ false → None ≡ if_ok (constant_value at e)
evaluate-none at e h k m =
    sym (ap if_ok (ap (λ b. if b || (is_null_constant at.types e.ty e.kind || is_address_constant e.kind) then value_of at e.ty e.kind else Err BadCode) h ∙ ap (λ b. if false || (b || is_address_constant e.kind) then value_of at e.ty e.kind else Err BadCode) k ∙ ap (λ b. if false || (false || b) then value_of at e.ty e.kind else Err BadCode) m))

address_value : (p : Program) (t u : ℕ) (q : PlaceKind) → constant_value (initial_scope p) (record { ty = t; kind = AddressOf (record { ty = u; kind = q }) }) ≡ start_in p u q
unfolding E.shape-the_row-TypedPlace-0 E.hidden-the_row-TypedPlace-0 denote.Hole.Carrier.hidden
address_value p t u (Global g) = refl
address_value p t u (Deref' m e) = refl
address_value p t u (Arrow' m e) = refl
address_value p t u (Item' m a n i) = refl
address_value p t u (Element' m a n i) = refl
address_value p t u (Field' m e k) = refl
address_value p t u (Member' m e k) = refl

decay_value : (p : Program) (t u : ℕ) (q : PlaceKind) → constant_value (initial_scope p) (record { ty = t; kind = Decay (record { ty = u; kind = q }) }) ≡ start_in p u q
unfolding E.shape-the_row-TypedPlace-0 E.hidden-the_row-TypedPlace-0 denote.Hole.Carrier.hidden
decay_value p t u (Global g) = refl
decay_value p t u (Deref' m e) = refl
decay_value p t u (Arrow' m e) = refl
decay_value p t u (Item' m a n i) = refl
decay_value p t u (Element' m a n i) = refl
decay_value p t u (Field' m e k) = refl
decay_value p t u (Member' m e k) = refl

pub evaluate-address : (p : Program) (e : TypedExpr) (q q' : TypedPlace) (r : Option V.Value) → e.kind ≡ AddressOf q → q' ≡ q → r ≡ if_ok (start_of p q') → r ≡ if_ok (constant_value (initial_scope p) e)
evaluate-address p e q q' r f g h =
    h ∙ ap if_ok (ap (start_of p) g ∙ sym (address_value p e.ty q.ty q.kind) ∙ ap (λ k. constant_value (initial_scope p) (record { ty = e.ty; kind = k })) (sym f))

pub evaluate-decay : (p : Program) (e : TypedExpr) (q q' : TypedPlace) (r : Option V.Value) → e.kind ≡ Decay q → q' ≡ q → r ≡ if_ok (start_of p q') → r ≡ if_ok (constant_value (initial_scope p) e)
evaluate-decay p e q q' r f g h =
    h ∙ ap if_ok (ap (start_of p) g ∙ sym (decay_value p e.ty q.ty q.kind) ∙ ap (λ k. constant_value (initial_scope p) (record { ty = e.ty; kind = k })) (sym f))

convert_form : (p : Parts) (t : ℕ) (e : TypedExpr) → is_null_constant p t (Convert e) ≡ is_pointer (ty p t) && is_zero_literal p e.ty e.kind
unfolding E.shape-the_row-TypedExpr-1 E.hidden-the_row-TypedExpr-1 denote.Hole.Carrier.hidden
convert_form p t e = refl

pub null_form : (p : Parts) (t : ℕ) (form : ExprKind) (e e' : TypedExpr) (i x : Bool) → form ≡ Convert e → e' ≡ e → i ≡ is_pointer (ty p t) → x ≡ is_zero_literal p e'.ty e'.kind → i && x ≡ is_null_constant p t form
null_form p t form e e' i x f g h k = rw (f, convert_form p t e, h, k, g) refl
