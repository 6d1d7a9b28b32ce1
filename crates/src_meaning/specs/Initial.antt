-- The store at the start: each global as its initialiser says.
use Rattle.std.specs.Prelude.{ℕ, ℤ, pos, List, [], ◌∷◌, map, replicate, Option, Some, Ok, Err, slice_get}
use Rattle.c_types.specs.declared.parts.Parts.{Parts}
use Rattle.c_types.specs.declared.parts.Ty.{Ty}
use Rattle.c_types.specs.declared.parts.Ty.TheVariants as T
use Rattle.c_types.specs.Tables.{fields_of}
use Rattle.src_tree.specs.declared.value.Value.{Value, Int, Struct, Array, out-Value}
use Rattle.src_tree.specs.declared.value.Value.TheOpen as V
use Rattle.src_tree.specs.declared.value.ObjectKind.TheVariants as Kind
use Rattle.src_tree.specs.declared.value.Object.{Object}
use Rattle.src_tree.specs.declared.value.Store.{Store}
use Rattle.lu_base.specs.declared.trap.Trap.TheVariants.{BadCode}
use Rattle.src_tree.specs.declared.expr.TypedPlace.{TypedPlace}
use Rattle.src_tree.specs.declared.expr.PlaceKind.{PlaceKind, Global as Global_place}
use Rattle.src_tree.specs.declared.program.Init.{Init, Zero, One, Text, List', Row_of-Init, end_of-Init, more_of-Init}
use Rattle.src_tree.specs.declared.program.Global.{Global}
use Rattle.src_tree.specs.declared.program.Program.{Program}
use Rattle.src_meaning.specs.Integers.{wrapped}
use Rattle.src_meaning.specs.Paths.{Layer, zero_of}
use Rattle.src_meaning.specs.Objects.{Gives, address_at}
use Rattle.src_meaning.specs.Expression.{Scope, global_place}
use Rattle.src_meaning.specs.Constant.{constant_value}

abbrev pub elem_in : ℕ → Option Ty → ℕ
elem_in t (Some (T.Array u n)) = u
elem_in t _ = t

abbrev pub count_in : Option Ty → ℕ
count_in (Some (T.Array u n)) = n
count_in _ = 1

-- the element type and the count of a global of type t: an array has its elements, any other has itself
abbrev pub global_elem : Parts → ℕ → ℕ
global_elem p t = elem_in t (slice_get p.types t)

abbrev pub global_count : Parts → ℕ → ℕ
global_count p t = count_in (slice_get p.types t)

abbrev pub items_in : Layer → List Value
items_in (V.Array items) = items
items_in _ = []

abbrev pub elements_in : Option Ty → Value → List Value
elements_in (Some (T.Array u n)) v = items_in (out-Value v)
elements_in _ v = v ∷ []

-- the elements of a global of type t with that value
abbrev pub global_elements : Parts → ℕ → Value → List Value
global_elements p t v = elements_in (slice_get p.types t) v

abbrev pub item_types_in : Parts → Option Ty → List ℕ
item_types_in p (Some (T.Array u n)) = replicate n u
item_types_in p (Some (T.Struct s)) = map (λ f. f.ty) (fields_of p s)
item_types_in p _ = []

-- the types of the elements of an array or of the fields of a struct
abbrev pub item_types : Parts → ℕ → List ℕ
item_types p t = item_types_in p (slice_get p.types t)

abbrev pub composed_in : Value → Option Ty → List Value → Value
composed_in other (Some (T.Array u n)) vs = Array vs
composed_in other (Some (T.Struct s)) vs = Struct vs
composed_in other _ vs = other

-- an array or a struct of these
abbrev pub composed : Parts → ℕ → List Value → Value
composed p t vs = composed_in (zero_of p t) (slice_get p.types t) vs

abbrev pub byte_in : Option Ty → ℕ → ℤ
byte_in (Some (T.Int kind)) b = wrapped kind (pos b)
byte_in _ b = pos 0

-- what f gives of each type and its item; types for which there is no item give zero
abbrev pub spread : {A : Type 0} → Parts → (ℕ → A → Value) → List ℕ → List A → List Value
spread p f ts [] = map (zero_of p) ts
spread p f [] (x ∷ xs) = []
spread p f (t ∷ ts) (x ∷ xs) = f t x ∷ spread p f ts xs

-- bytes as chars of these types; those that are over are zero
abbrev pub text_items : Parts → List ℕ → List ℕ → List Value
text_items p ts bytes = spread p (λ t b. Int (byte_in (slice_get p.types t) b)) ts bytes

abbrev pub or_other : Value → Gives Value → Value
or_other other (Ok v) = v
or_other other (Err t) = other

abbrev mutual
  -- the value of type t that an initialiser gives; `at` has every global zero
  pub initial_value : Scope → ℕ → Init → Value
  initial_value at t Zero = zero_of at.types t
  initial_value at t (One e) = or_other (zero_of at.types t) (constant_value at e)
  initial_value at t (Text bytes) = composed at.types t (text_items at.types (item_types at.types t) bytes)
  initial_value at t (List' m inits) = composed at.types t (initial_items at (item_types at.types t) inits)

  -- the values of these types; those that are over are zero
  pub initial_items : {m : _} → Scope → List ℕ → Row_of-Init m → List Value
  initial_items at ts end_of-Init = map (zero_of at.types) ts
  initial_items at [] (more_of-Init x rest) = []
  initial_items at (t ∷ ts) (more_of-Init x rest) = initial_value at t x ∷ initial_items at ts rest

-- a global as an object with that value
abbrev pub global_object : Parts → ℕ → Value → Object
global_object p t v = record {
  kind = Kind.Global;
  elem = global_elem p t;
  count = global_count p t;
  elements = Some (global_elements p t v);
}

abbrev pub zero_globals : Program → Store
zero_globals p = record { objects = map (λ g. global_object p.types g.ty (zero_of p.types g.ty)) p.globals }

-- where initialisers are evaluated: they read no object
abbrev pub initial_scope : Program → Scope
initial_scope p = record { types = p.types; store = zero_globals p; locals = [] }

abbrev pub start_in : Program → ℕ → PlaceKind → Gives Value
start_in p t (Global_place g) = address_at p.types (zero_globals p) (global_place p.types t g) 0
start_in p t _ = Err BadCode

-- the address of a global that stands as a place; an array may be of no element
abbrev pub start_of : Program → TypedPlace → Gives Value
start_of p q = start_in p q.ty q.kind

abbrev pub initial_object : Program → Global → Object
initial_object p g = global_object p.types g.ty (initial_value (initial_scope p) g.ty g.init)

abbrev pub initial_store : Program → Store
initial_store p = record { objects = map (initial_object p) p.globals }
