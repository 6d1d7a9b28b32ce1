-- No expression traps as a panic does.
use Rattle.std.proofs.Common.{Bool, true, false, cond, ℕ, zero, suc, ◌+◌, ◌*◌, Option, Some, None, Ok, Err, nat_eq, nat_le, nat_lt}
use Rattle.std.specs.Prelude.{slice_get, ℤ, pos, negsuc, ◌+ℤ◌, ◌-ℤ◌, ◌*ℤ◌, neg_ℤ, int_div, int_rem, int_lt, bit_and, bit_or, bit_xor}
use Rattle.std.specs.Int.{int_shr}
use Rattle.lu_spec.specs.Then.{then_do, then_option}
use Rattle.lu_base.specs.declared.trap.Trap.{Trap}
use Rattle.lu_base.specs.declared.trap.Trap.TheVariants.{DivZero, BadShift, BadIndex, BadPointer, PtrRange, PtrOrder, UnionMember, BadCode, Panic}
use Rattle.c_types.specs.declared.parts.IntKind.{IntKind}
use Rattle.c_types.specs.declared.parts.IntKind.TheVariants as K
use Rattle.c_types.specs.declared.parts.Parts.{Parts}
use Rattle.c_types.specs.declared.parts.Ty.{Ty}
use Rattle.c_types.specs.declared.parts.Ty.TheVariants as T
use Rattle.c_types.specs.declared.path.Step.TheVariants.{Index, Field, Member}
use Rattle.c_types.specs.Layout.{size_of}
use Rattle.src_tree.specs.declared.value.Value.{Value, Int, Null, Pointer, Function, Struct', Array', Union', out-Value}
use Rattle.src_tree.specs.declared.value.Store.{Store}
use Rattle.src_tree.specs.declared.expr.BinaryOperator.{BinaryOperator}
use Rattle.src_tree.specs.declared.expr.BinaryOperator.TheVariants as O
use Rattle.src_tree.specs.declared.expr.LogicalOperator.{LogicalOperator}
use Rattle.src_tree.specs.declared.expr.LogicalOperator.TheVariants.{And, Or}
use Rattle.src_tree.specs.declared.expr.UnaryOperator.{UnaryOperator}
use Rattle.src_tree.specs.declared.expr.UnaryOperator.TheVariants.{Minus, Complement, Not}
use Rattle.src_tree.specs.declared.expr.ExprKind.{ExprKind, Number, SizeOf, Local, Function as Function_name, Load', AddressOf', Decay', Cast', Convert', Unary', Binary', Logical', Conditional', Row_of-TypedExpr, end_of-TypedExpr, more_of-TypedExpr}
use Rattle.src_tree.specs.declared.expr.PlaceKind.{PlaceKind, Global, Deref', Arrow', Item', Element', Field', Member', Row_of-TypedPlace, end_of-TypedPlace, more_of-TypedPlace}
use Rattle.src_meaning.specs.Expression.{Scope, global_place, length_of, index_within, index_below, is_active, active_member, logical, chosen, expr_type, place_type, pointer_plus, value_of, value_at_row, place_of, place_at, address_of}
use Rattle.src_meaning.specs.Integers.{wrapped, is_zero, quotient, remainder, on_bits, bits_of, with_count, shifted_left, shifted_right}
use Rattle.src_meaning.specs.Objects.{Gives, Place, or_trap, object_size, inside, live_elements, value_at, target_in, target, address_at}
use Rattle.src_meaning.specs.Operators.{int_of, with_int, is_true, kind_in, with_kind, pointed_size, with_size, as_pointer, converted_to, converted, flagged, negated, unary, on_ints, binary}
use Rattle.src_meaning.specs.Paths.{element_part}
use Rattle.src_meaning.specs.Pointers.{offset_within, moved, are_equal, with_offsets, is_less, difference}

abbrev pub IsOther : Trap → Type 0
IsOther (Panic n) = ⊥
IsOther _ = Unit {0}

-- a value, or a trap other than a panic
abbrev pub NoPanic : {A : Type 0} → Gives A → Type 0
NoPanic (Ok a) = Unit {0}
NoPanic (Err t) = IsOther t

on : {A B : Type 0} (r : Gives A) (f : A → Gives B) → NoPanic r → ((a : A) → NoPanic (f a)) → NoPanic (then_do r f)
on (Ok a) f h g = g a
on (Err t) f h g = h

or : {A : Type 0} (t : Trap) (o : Option A) → IsOther t → NoPanic (or_trap t o)
or t (Some a) h = tt
or t None h = h

either : {A : Type 0} (b : Bool) (x y : Gives A) → NoPanic x → NoPanic y → NoPanic (cond b x y)
either true x y h g = h
either false x y h g = g

ints : (v : Value) → NoPanic (int_of v)
ints (Int z) = tt
ints Null = tt
ints (Pointer o k) = tt
ints (Function f) = tt
ints (Struct' m vs) = tt
ints (Array' m vs) = tt
ints (Union' k m body) = tt

of_int : {A : Type 0} (v : Value) (f : ℤ → Gives A) → ((z : ℤ) → NoPanic (f z)) → NoPanic (with_int v f)
of_int v f h = on (int_of v) f (ints v) h

of_kind : {A : Type 0} (p : Parts) (t : ℕ) (f : IntKind → Gives A) → ((k : IntKind) → NoPanic (f k)) → NoPanic (with_kind p t f)
of_kind p t f h = on (or_trap BadCode (kind_in (slice_get p.types t))) f (or BadCode (kind_in (slice_get p.types t)) tt) h

of_size : {A : Type 0} (p : Parts) (t : ℕ) (f : ℕ → Gives A) → ((n : ℕ) → NoPanic (f n)) → NoPanic (with_size p t f)
of_size p t f h = on (or_trap BadCode (pointed_size p (slice_get p.types t))) f (or BadCode (pointed_size p (slice_get p.types t)) tt) h

pub truths : (v : Value) → NoPanic (is_true v)
truths (Int (pos zero)) = tt
truths (Int (pos (suc n))) = tt
truths (Int (negsuc n)) = tt
truths Null = tt
truths (Pointer o k) = tt
truths (Function f) = tt
truths (Struct' m vs) = tt
truths (Array' m vs) = tt
truths (Union' k m body) = tt

pointers : (v : Value) → NoPanic (as_pointer v)
pointers (Int (pos zero)) = tt
pointers (Int (pos (suc n))) = tt
pointers (Int (negsuc n)) = tt
pointers Null = tt
pointers (Pointer o k) = tt
pointers (Function f) = tt
pointers (Struct' m vs) = tt
pointers (Array' m vs) = tt
pointers (Union' k m body) = tt

conversions : (o : Option Ty) (v : Value) → NoPanic (converted_to o v)
conversions (Some (T.Int kind)) v = of_int v (λ z. Ok (Int (wrapped kind z))) (λ z. tt)
conversions (Some (T.Pointer t)) v = pointers v
conversions (Some T.VoidPointer) v = pointers v
conversions (Some (T.Function g)) v = pointers v
conversions (Some (T.Struct s)) v = tt
conversions (Some (T.Union u)) v = tt
conversions (Some (T.Array t n)) v = tt
conversions None v = tt

flags : (r : Gives Bool) → NoPanic r → NoPanic (flagged r)
flags (Ok b) h = tt
flags (Err t) h = h

opposites : (r : Gives Bool) → NoPanic r → NoPanic (negated r)
opposites (Ok b) h = tt
opposites (Err t) h = h

unaries : (p : Parts) (t : ℕ) (op : UnaryOperator) (v : Value) → NoPanic (unary p t op v)
unaries p t Minus v = of_kind p t (λ kind. with_int v (λ z. Ok (Int (wrapped kind (neg_ℤ z))))) (λ kind. of_int v (λ z. Ok (Int (wrapped kind (neg_ℤ z)))) (λ z. tt))
unaries p t Complement v = of_kind p t (λ kind. with_int v (λ z. Ok (Int (wrapped kind (negsuc 0 -ℤ z))))) (λ kind. of_int v (λ z. Ok (Int (wrapped kind (negsuc 0 -ℤ z)))) (λ z. tt))
unaries p t Not v = flags (negated (is_true v)) (opposites (is_true v) (truths v))

two_ints : (p : Parts) (t : ℕ) (v w : Value) (f : IntKind → ℤ → ℤ → Gives ℤ) → ((kind : IntKind) (a b : ℤ) → NoPanic (f kind a b)) → NoPanic (on_ints p t v w f)
two_ints p t v w f h =
    of_kind p t (λ kind. with_int v (λ a. with_int w (λ b. then_do (f kind a b) (λ z. Ok (Int z))))) (λ kind. of_int v (λ a. with_int w (λ b. then_do (f kind a b) (λ z. Ok (Int z)))) (λ a. of_int w (λ b. then_do (f kind a b) (λ z. Ok (Int z))) (λ b. on (f kind a b) (λ z. Ok (Int z)) (h kind a b) (λ z. tt))))

quotients : (kind : IntKind) (a b : ℤ) → NoPanic (quotient kind a b)
quotients kind a b = either (is_zero b) (Err DivZero) (Ok (wrapped kind (int_div a b))) tt tt

remainders : (kind : IntKind) (a b : ℤ) → NoPanic (remainder kind a b)
remainders kind a b = either (is_zero b) (Err DivZero) (Ok (wrapped kind (int_rem a b))) tt tt

counts : (kind : IntKind) (b : ℤ) (f : ℕ → ℤ) → NoPanic (with_count kind b f)
counts kind (pos n) f = either (nat_lt n (bits_of kind)) (Ok (f n)) (Err BadShift) tt tt
counts kind (negsuc n) f = tt

offsets : {A : Type 0} (f : ℤ → ℤ → Gives A) → ((k j : ℤ) → NoPanic (f k j)) → (a b : Value) → NoPanic (with_offsets f a b)
offsets f h Null Null = h (pos 0) (pos 0)
offsets f h Null (Pointer q j) = tt
offsets f h Null (Int z) = tt
offsets f h Null (Function g) = tt
offsets f h Null (Struct' m vs) = tt
offsets f h Null (Array' m vs) = tt
offsets f h Null (Union' i m body) = tt
offsets f h (Pointer o k) Null = tt
offsets f h (Pointer o k) (Pointer q j) = either (nat_eq o q) (f (pos k) (pos j)) (Err PtrOrder) (h (pos k) (pos j)) tt
offsets f h (Pointer o k) (Int z) = tt
offsets f h (Pointer o k) (Function g) = tt
offsets f h (Pointer o k) (Struct' m vs) = tt
offsets f h (Pointer o k) (Array' m vs) = tt
offsets f h (Pointer o k) (Union' i m body) = tt
offsets f h (Int z) b = tt
offsets f h (Function g) b = tt
offsets f h (Struct' m vs) b = tt
offsets f h (Array' m vs) b = tt
offsets f h (Union' i m body) b = tt

orders : (a b : Value) → NoPanic (is_less a b)
orders (Int a) (Int b) = tt
orders (Int a) Null = tt
orders (Int a) (Pointer o k) = tt
orders (Int a) (Function g) = tt
orders (Int a) (Struct' m vs) = tt
orders (Int a) (Array' m vs) = tt
orders (Int a) (Union' i m body) = tt
orders Null b = offsets (λ k j. Ok (int_lt k j)) (λ k j. tt) Null b
orders (Pointer o k) b = offsets (λ k j. Ok (int_lt k j)) (λ k j. tt) (Pointer o k) b
orders (Function g) b = tt
orders (Struct' m vs) b = tt
orders (Array' m vs) b = tt
orders (Union' i m body) b = tt

equalities : (a b : Value) → NoPanic (are_equal a b)
equalities (Int (pos a)) (Int (pos b)) = tt
equalities (Int (pos a)) (Int (negsuc b)) = tt
equalities (Int (negsuc a)) (Int (pos b)) = tt
equalities (Int (negsuc a)) (Int (negsuc b)) = tt
equalities (Int (pos a)) Null = tt
equalities (Int (pos a)) (Pointer o k) = tt
equalities (Int (pos a)) (Function g) = tt
equalities (Int (pos a)) (Struct' m vs) = tt
equalities (Int (pos a)) (Array' m vs) = tt
equalities (Int (pos a)) (Union' i m body) = tt
equalities (Int (negsuc a)) Null = tt
equalities (Int (negsuc a)) (Pointer o k) = tt
equalities (Int (negsuc a)) (Function g) = tt
equalities (Int (negsuc a)) (Struct' m vs) = tt
equalities (Int (negsuc a)) (Array' m vs) = tt
equalities (Int (negsuc a)) (Union' i m body) = tt
equalities Null Null = tt
equalities Null (Int z) = tt
equalities Null (Pointer o k) = tt
equalities Null (Function g) = tt
equalities Null (Struct' m vs) = tt
equalities Null (Array' m vs) = tt
equalities Null (Union' i m body) = tt
equalities (Pointer o k) Null = tt
equalities (Pointer o k) (Int z) = tt
equalities (Pointer o k) (Pointer q j) = tt
equalities (Pointer o k) (Function g) = tt
equalities (Pointer o k) (Struct' m vs) = tt
equalities (Pointer o k) (Array' m vs) = tt
equalities (Pointer o k) (Union' i m body) = tt
equalities (Function f) Null = tt
equalities (Function f) (Int z) = tt
equalities (Function f) (Pointer q j) = tt
equalities (Function f) (Function g) = tt
equalities (Function f) (Struct' m vs) = tt
equalities (Function f) (Array' m vs) = tt
equalities (Function f) (Union' i m body) = tt
equalities (Struct' m vs) b = tt
equalities (Array' m vs) b = tt
equalities (Union' i m body) b = tt

within : (o size : ℕ) (z : ℤ) → NoPanic (offset_within o size z)
within o size (pos k) = either (nat_le k size) (Ok (Pointer o k)) (Err PtrRange) tt tt
within o size (negsuc k) = tt

moves : (p : Parts) (store : Store) (size : ℕ) (v : Value) (i : ℤ) → NoPanic (moved p store size v i)
moves p store size Null i = either (is_zero i) (Ok Null) (Err PtrRange) tt tt
moves p store size (Pointer o k) i =
    on (or_trap BadCode (slice_get store.objects o)) (λ x. offset_within o (object_size p x) (pos k +ℤ (i *ℤ pos size))) (or BadCode (slice_get store.objects o) tt) (λ x. within o (object_size p x) (pos k +ℤ (i *ℤ pos size)))
moves p store size (Int z) i = tt
moves p store size (Function g) i = tt
moves p store size (Struct' m vs) i = tt
moves p store size (Array' m vs) i = tt
moves p store size (Union' j m body) i = tt

binaries : (p : Parts) (store : Store) (t s : ℕ) (op : BinaryOperator) (v w : Value) → NoPanic (binary p store t s op v w)
binaries p store t s O.Add v w = two_ints p t v w (λ kind a b. Ok (wrapped kind (a +ℤ b))) (λ kind a b. tt)
binaries p store t s O.Subtract v w = two_ints p t v w (λ kind a b. Ok (wrapped kind (a -ℤ b))) (λ kind a b. tt)
binaries p store t s O.Multiply v w = two_ints p t v w (λ kind a b. Ok (wrapped kind (a *ℤ b))) (λ kind a b. tt)
binaries p store t s O.Divide v w = two_ints p t v w quotient quotients
binaries p store t s O.Remainder v w = two_ints p t v w remainder remainders
binaries p store t s O.BitAnd v w = two_ints p t v w (λ kind a b. Ok (on_bits bit_and kind a b)) (λ kind a b. tt)
binaries p store t s O.BitXor v w = two_ints p t v w (λ kind a b. Ok (on_bits bit_xor kind a b)) (λ kind a b. tt)
binaries p store t s O.BitOr v w = two_ints p t v w (λ kind a b. Ok (on_bits bit_or kind a b)) (λ kind a b. tt)
binaries p store t s O.ShiftLeft v w = two_ints p t v w shifted_left (λ kind a b. counts kind b _)
binaries p store t s O.ShiftRight v w = two_ints p t v w shifted_right (λ kind a b. counts kind b (λ n. int_shr a n))
binaries p store t s O.Less v w = flags (is_less v w) (orders v w)
binaries p store t s O.LessEqual v w = flags (negated (is_less w v)) (opposites (is_less w v) (orders w v))
binaries p store t s O.Greater v w = flags (is_less w v) (orders w v)
binaries p store t s O.GreaterEqual v w = flags (negated (is_less v w)) (opposites (is_less v w) (orders v w))
binaries p store t s O.Equal v w = flags (are_equal v w) (equalities v w)
binaries p store t s O.NotEqual v w = flags (negated (are_equal v w)) (opposites (are_equal v w) (equalities v w))
binaries p store t s O.PointerAdd v w = of_size p t (λ size. with_int w (moved p store size v)) (λ size. of_int w (moved p store size v) (moves p store size v))
binaries p store t s O.AddPointer v w = of_size p t (λ size. with_int v (moved p store size w)) (λ size. of_int v (moved p store size w) (moves p store size w))
binaries p store t s O.PointerSubtract v w = of_size p t (λ size. with_int w (λ i. moved p store size v (neg_ℤ i))) (λ size. of_int w (λ i. moved p store size v (neg_ℤ i)) (λ i. moves p store size v (neg_ℤ i)))
binaries p store t s O.PointerDifference v w = of_size p s (λ size. difference size v w) (λ size. offsets (λ k j. Ok (Int (wrapped K.Int (int_div (k -ℤ j) (pos size))))) (λ k j. tt) v w)

reads : (store : Store) (q : Place) → NoPanic (value_at store q)
reads store q = or BadCode (then_option (live_elements store q.object) (λ elements. element_part elements q.path)) tt

targets : (p : Parts) (store : Store) (t : ℕ) (v : Value) → NoPanic (target p store t v)
targets p store t (Pointer o k) = or BadPointer (then_option (slice_get store.objects o) (target_in p t o k)) tt
targets p store t Null = tt
targets p store t (Int z) = tt
targets p store t (Function g) = tt
targets p store t (Struct' m vs) = tt
targets p store t (Array' m vs) = tt
targets p store t (Union' i m body) = tt

addresses_plain : (p : Parts) (store : Store) (q : Place) (n : ℕ) → NoPanic (address_at p store q n)
addresses_plain p store q n = or BadCode _ tt

members : (store : Store) (q : Place) (k : ℕ) → NoPanic (active_member store q k)
members store q k =
    on (value_at store q) (λ v. cond (is_active k (out-Value v)) (Ok (inside q (Member k))) (Err UnionMember)) (reads store q) (λ v. either (is_active k (out-Value v)) (Ok (inside q (Member k))) (Err UnionMember) tt tt)

indices : (n : ℕ) (z : ℤ) → NoPanic (index_within n z)
indices n (pos i) = either (nat_lt i n) (Ok i) (Err BadIndex) tt tt
indices n (negsuc i) = tt

index_values : (n : ℕ) (v : Value) → NoPanic (index_below n v)
index_values n v = of_int v (index_within n) (indices n)

logicals : (op : LogicalOperator) (a b : Gives Bool) → NoPanic a → NoPanic b → NoPanic (logical op a b)
logicals And a b h g = on a (λ x. cond x b (Ok false)) h (λ x. either x b (Ok false) g tt)
logicals Or a b h g = on a (λ x. cond x (Ok true) b) h (λ x. either x (Ok true) b tt g)

choices : (c : Gives Bool) (a b : Gives Value) → NoPanic c → NoPanic a → NoPanic b → NoPanic (chosen c a b)
choices c a b h g k = on c (λ x. cond x a b) h (λ x. either x a b g k)

pub conditions : (r : Gives Value) → NoPanic r → NoPanic (then_do r is_true)
conditions r h = on r is_true h truths

sums : (at : Scope) (t : ℕ) (p i : Gives Value) → NoPanic p → NoPanic i → NoPanic (pointer_plus at t p i)
sums at t p i h g =
    on p (λ v. then_do i (λ w. binary at.types at.store t t O.PointerAdd v w)) h (λ v. on i (λ w. binary at.types at.store t t O.PointerAdd v w) g (λ w. binaries at.types at.store t t O.PointerAdd v w))

elements : {A : Type 0} (a : Gives Place) (i : Gives Value) (n : ℕ) (f : Place → ℕ → Gives A) → NoPanic a → NoPanic i → ((q : Place) (k : ℕ) → NoPanic (f q k)) → NoPanic (then_do a (λ q. then_do i (λ v. then_do (index_below n v) (f q))))
elements a i n f h g k =
    on a (λ q. then_do i (λ v. then_do (index_below n v) (f q))) h (λ q. on i (λ v. then_do (index_below n v) (f q)) g (λ v. on (index_below n v) (f q) (index_values n v) (k q)))

mutual
  pub values : (at : Scope) (t : ℕ) (kind : ExprKind) → NoPanic (value_of at t kind)
  values at t (Number z) = tt
  values at t (SizeOf u) = tt
  values at t (Local x) = or BadCode (slice_get at.locals x) tt
  values at t (Function_name f) = tt
  values at t (Load' m e) = on (place_at at e) (value_at at.store) (row_places at e) (reads at.store)
  values at t (AddressOf' m e) = row_addresses at e
  values at t (Decay' m e) = on (place_at at e) (λ q. address_at at.types at.store q 0) (row_places at e) (λ q. addresses_plain at.types at.store q 0)
  values at t (Cast' m e) = on (value_at_row at e) (converted at.types t) (row_values at e) (conversions (slice_get at.types.types t))
  values at t (Convert' m e) = on (value_at_row at e) (converted at.types t) (row_values at e) (conversions (slice_get at.types.types t))
  values at t (Unary' op m e) = on (value_at_row at e) (unary at.types t op) (row_values at e) (unaries at.types t op)
  values at t (Binary' op m a n b) =
      on (value_at_row at a) (λ v. then_do (value_at_row at b) (λ w. binary at.types at.store t (expr_type a) op v w)) (row_values at a) (λ v. on (value_at_row at b) (λ w. binary at.types at.store t (expr_type a) op v w) (row_values at b) (λ w. binaries at.types at.store t (expr_type a) op v w))
  values at t (Logical' op m a n b) =
      flags (logical op (then_do (value_at_row at a) is_true) (then_do (value_at_row at b) is_true)) (logicals op (then_do (value_at_row at a) is_true) (then_do (value_at_row at b) is_true) (conditions (value_at_row at a) (row_values at a)) (conditions (value_at_row at b) (row_values at b)))
  values at t (Conditional' m c n a k b) =
      choices (then_do (value_at_row at c) is_true) (value_at_row at a) (value_at_row at b) (conditions (value_at_row at c) (row_values at c)) (row_values at a) (row_values at b)

  row_values : {m : _} (at : Scope) (e : Row_of-TypedExpr m) → NoPanic (value_at_row at e)
  row_values at end_of-TypedExpr = tt
  row_values at (more_of-TypedExpr t kind rest) = values at t kind

  places : (at : Scope) (t : ℕ) (kind : PlaceKind) → NoPanic (place_of at t kind)
  places at t (Global g) = tt
  places at t (Deref' m e) = on (value_at_row at e) (target at.types at.store t) (row_values at e) (targets at.types at.store t)
  places at t (Arrow' m e) = on (value_at_row at e) (target at.types at.store t) (row_values at e) (targets at.types at.store t)
  places at t (Item' m a n i) =
      on (pointer_plus at (expr_type a) (value_at_row at a) (value_at_row at i)) (target at.types at.store t) (sums at (expr_type a) (value_at_row at a) (value_at_row at i) (row_values at a) (row_values at i)) (targets at.types at.store t)
  places at t (Element' m a n i) =
      elements (place_at at a) (value_at_row at i) (length_of at.types (place_type a)) (λ q k. Ok (inside q (Index k))) (row_places at a) (row_values at i) (λ q k. tt)
  places at t (Field' m e k) = on (place_at at e) (λ q. Ok (inside q (Field k))) (row_places at e) (λ q. tt)
  places at t (Member' m e k) = on (place_at at e) (λ q. active_member at.store q k) (row_places at e) (λ q. members at.store q k)

  row_places : {m : _} (at : Scope) (e : Row_of-TypedPlace m) → NoPanic (place_at at e)
  row_places at end_of-TypedPlace = tt
  row_places at (more_of-TypedPlace t kind rest) = places at t kind

  row_addresses : {m : _} (at : Scope) (e : Row_of-TypedPlace m) → NoPanic (address_of at e)
  row_addresses at end_of-TypedPlace = tt
  row_addresses at (more_of-TypedPlace t (Deref' m e) rest) = row_values at e
  row_addresses at (more_of-TypedPlace t (Item' m a n i) rest) =
      sums at (expr_type a) (value_at_row at a) (value_at_row at i) (row_values at a) (row_values at i)
  row_addresses at (more_of-TypedPlace t (Element' m a n i) rest) =
      elements (place_at at a) (value_at_row at i) (length_of at.types (place_type a) + 1) (λ q k. address_at at.types at.store q (k * size_of at.types t)) (row_places at a) (row_values at i) (λ q k. addresses_plain at.types at.store q (k * size_of at.types t))
  row_addresses at (more_of-TypedPlace t (Global g) rest) = addresses_plain at.types at.store (global_place at.types t g) 0
  row_addresses at (more_of-TypedPlace t (Arrow' m e) rest) =
      on (then_do (value_at_row at e) (target at.types at.store t)) (λ q. address_at at.types at.store q 0) (on (value_at_row at e) (target at.types at.store t) (row_values at e) (targets at.types at.store t)) (λ q. addresses_plain at.types at.store q 0)
  row_addresses at (more_of-TypedPlace t (Field' m e k) rest) =
      on (place_at at e) (λ q. address_at at.types at.store (inside q (Field k)) 0) (row_places at e) (λ q. addresses_plain at.types at.store (inside q (Field k)) 0)
  row_addresses at (more_of-TypedPlace t (Member' m e k) rest) =
      on (then_do (place_at at e) (λ q. active_member at.store q k)) (λ q. address_at at.types at.store q 0) (on (place_at at e) (λ q. active_member at.store q k) (row_places at e) (λ q. members at.store q k)) (λ q. addresses_plain at.types at.store q 0)
