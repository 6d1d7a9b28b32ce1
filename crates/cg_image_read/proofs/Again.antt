-- What was written of an item is read again.
use Rattle.std.proofs.Common.{◌≡◌, ◌∙◌, ap, sym, refl, ℕ, zero, suc, ◌+◌, ◌^◌, ◌<◌, ◌≤◌, cond, ltb, leb, List, [], ◌∷◌, ◌++◌, ◌&&◌, length, take, drop, Option, Some, None, Result, Ok, Err, append_assoc, append-nil, length-append, arith, All}
use Rattle.std.specs.Prelude.{slice_get, bytes_eq, not}
use Rattle.std.specs.List.{flat_map, list_any}
use Rattle.std.specs.Int.{w32, from_le_bytes}
use Rattle.std.proofs.lemmas.Bool.{le-leb, lt-ltb, le-ltb}
use Rattle.std.proofs.lemmas.List.{take_at, drop_at}
use Rattle.lu_base.specs.declared.limits.TheConstants.{ENTRIES, LOCALS, PARAMETERS, SIZE, STACK_HEIGHT}
use Rattle.c_types.specs.declared.parts.IntKind.{IntKind}
use Rattle.c_types.specs.declared.parts.IntKind.TheVariants.{Char, UChar, Short, UShort, Int as Int_kind, UInt, LongLong, ULongLong}
use Rattle.c_types.specs.declared.parts.Ty.TheVariants.{Int, Pointer, VoidPointer, Function, Struct, Union, Array}
use Rattle.c_types.specs.declared.parts.Signature.{Signature}
use Rattle.c_types.specs.declared.parts.Parts.{Parts}
use Rattle.c_types.specs.Layout.{size_of}
use Rattle.src_meaning.specs.ValidNames.{is_identifier}
use Rattle.bm_isa.specs.declared.instr.Instr.{Instr}
use Rattle.bm_isa.specs.Encoding.{code_bytes, FitsMachine}
use Rattle.bm_code.specs.Accepted as accepted
use Rattle.cg_image.specs.Image.{number_bytes, list_bytes, text_bytes, kind_number, type_bytes, field_bytes, tag_bytes, result_number, signature_bytes, global_bytes, function_bytes, site_bytes}
use Rattle.cg_image.specs.Short.{IsCounted}
use Rattle.cg_image_read.specs.declared.error.ImageError.{ImageError}
use Rattle.cg_image_read.specs.declared.error.ImageError.TheVariants.{Truncated, Table}
use Rattle.cg_image_read.specs.Answer.{◌>>=◌}
use Rattle.cg_image_read.specs.Fields.{Item, place, number_at, bytes_at, ranged_at, entry_at, text_at, items_at, limited_at}
use Rattle.cg_image_read.specs.Types.{kind_of, kind_in, kind_at, made, array_at, tagged_at, type_at, field_at, tag_at, result_in, signature_at}
use Rattle.cg_image_read.specs.Decoding.{decoded}
use Rattle.cg_image_read.specs.Items.{name_at, room_at, sized_global_at, global_at, code_in, code_at, parameters_in, function_at, site_at}
use Rattle.cg_image_read.specs.HasImage.{EachBehind, IsNewName, IsTypeOf, IsFieldOf, IsTagOf, IsSignatureOf, IsGlobalOf, IsFunctionOf, IsSiteOf}
use Rattle.bm_isa.proofs.CodeLemmas.{same_code}
use Rattle.cg_image_read.proofs.Bytes.{IsBytes, again_4, behind_4, enough}
use Rattle.cg_image_read.proofs.DecodingLemmas.{decoded_takes, decoded_somehow}
use Rattle.cg_image_read.proofs.CodeLow.{code_low}

pub goes : {A B : Type 0} (r : Result A ImageError) (f : A → Result B ImageError) (x : A) → r ≡ Ok x → (r >>= f) ≡ f x
goes r f x e = ap (λ r. r >>= f) e

pub number_again : (n : ℕ) (rest : List ℕ) → n < 2 ^ 32 → number_at (number_bytes n ++ rest) ≡ Ok (n, rest)
number_again n rest low =
    let bytes = number_bytes n ++ rest in
    ap (λ b. cond b (Err Truncated) (Ok (from_le_bytes w32 (take 4 bytes), drop 4 bytes))) (enough n 4 rest)
    ∙ ap (λ k. Ok (k, drop 4 bytes)) (again_4 n rest low)
    ∙ ap (λ l. Ok (n, l)) (behind_4 n rest)

pub ranged_again : (low high at n : ℕ) (rest : List ℕ) → n < 2 ^ 32 → low ≤ n → n ≤ high → ranged_at low high at (number_bytes n ++ rest) ≡ Ok (n, rest)
unfolding ranged_at
ranged_again low high at n rest small least most =
    goes (number_at (number_bytes n ++ rest)) (λ n. cond (leb low n.0) (cond (leb n.0 high) (Ok n) (Err (Table at))) (Err (Table at))) (n, rest) (number_again n rest small)
    ∙ ap (λ b. cond b (cond (leb n high) (Ok (n, rest)) (Err (Table at))) (Err (Table at))) (le-leb low n least)
    ∙ ap (λ b. cond b (Ok (n, rest)) (Err (Table at))) (le-leb n high most)

pub entry_again : (count at n : ℕ) (rest : List ℕ) → count ≤ 2 ^ 32 → n < count → entry_at count at (number_bytes n ++ rest) ≡ Ok (n, rest)
unfolding entry_at
entry_again count at n rest low within =
    goes (number_at (number_bytes n ++ rest)) (λ n. cond (ltb n.0 count) (Ok n) (Err (Table at))) (n, rest) (number_again n rest (omega (arith, low, within)))
    ∙ ap (λ b. cond b (Ok (n, rest)) (Err (Table at))) (lt-ltb n count within)

pub bytes_again : (text rest : List ℕ) → bytes_at (length text) (text ++ rest) ≡ Ok (text, rest)
bytes_again text rest =
    ap (λ b. cond b (Err Truncated) (Ok (take (length text) (text ++ rest), drop (length text) (text ++ rest)))) (le-ltb (length (text ++ rest)) (length text) (omega (arith, length-append text rest)))
    ∙ ap (λ l. Ok (l, drop (length text) (text ++ rest))) (take_at text rest (length text) refl)
    ∙ ap (λ l. Ok (text, l)) (drop_at text rest (length text) refl)

pub text_again : (text rest : List ℕ) → IsCounted text → text_at (text_bytes text ++ rest) ≡ Ok (text, rest)
unfolding text_at
text_again text rest low =
    ap text_at (append_assoc (number_bytes (length text)) text rest)
    ∙ goes (number_at (number_bytes (length text) ++ (text ++ rest))) (λ n. bytes_at n.0 n.1) (length text, text ++ rest) (number_again (length text) (text ++ rest) low)
    ∙ bytes_again text rest

-- what is spelled of a good item is read as the item
abbrev pub ReadsAgain : {A : Type 0} → (A → List ℕ) → (List A → A → Type 0) → Item A → Type 0
ReadsAgain spell Good item = (before : List _) (at : ℕ) (x : _) (rest : List ℕ) → Good before x → item before at (spell x ++ rest) ≡ Ok (x, rest)

module _ {A : Type 0} (spell : A → List ℕ) (Good : List A → A → Type 0) (item : Item A) (again : ReadsAgain spell Good item) (end : ℕ) where
  pub items_again : (before xs : List A) (rest : List ℕ) → EachBehind Good before xs → items_at item end before (length xs) (flat_map spell xs ++ rest) ≡ Ok (before ++ xs, rest)
  unfolding items_at
  items_again before [] rest good = ap (λ l. Ok (l, rest)) (sym (append-nil before))
  items_again before (x ∷ xs) rest good =
      let more = flat_map spell xs ++ rest in
      ap (items_at item end before (suc (length xs))) (append_assoc (spell x) (flat_map spell xs) rest)
      ∙ goes (item before (place end (spell x ++ more)) (spell x ++ more)) (λ next. items_at item end (before ++ next.0 ∷ []) (length xs) next.1) (x, more) (again before (place end (spell x ++ more)) x more good.0)
      ∙ items_again (before ++ x ∷ []) xs rest good.1
      ∙ ap (λ l. Ok (l, rest)) (append_assoc before (x ∷ []) xs)

  pub limited_again : (limit : ℕ) (xs : List A) (rest : List ℕ) → length xs ≤ limit → EachBehind Good [] xs → limited_at item limit end (length xs) (flat_map spell xs ++ rest) ≡ Ok (xs, rest)
  unfolding limited_at
  limited_again limit xs rest le good =
      let bytes = flat_map spell xs ++ rest in
      ap (λ b. cond b (items_at item end [] (length xs) bytes) (items_at item end [] limit bytes >>= λ x. Err (Table (place end x.1)))) (le-leb (length xs) limit le)
      ∙ items_again [] xs rest good

-- the number of items of a list is read
pub list_number : {A : Type 0} (spell : A → List ℕ) (xs : List A) (rest : List ℕ) → IsCounted xs → number_at (list_bytes spell xs ++ rest) ≡ Ok (length xs, flat_map spell xs ++ rest)
list_number spell xs rest low = ap number_at (append_assoc (number_bytes (length xs)) (flat_map spell xs) rest) ∙ number_again (length xs) (flat_map spell xs ++ rest) low

pub name_again : ReadsAgain text_bytes IsNewName name_at
unfolding name_at
name_again before at name rest good =
    goes (text_at (text_bytes name ++ rest)) (λ name. cond (is_identifier name.0 && not (list_any (bytes_eq name.0) before)) (Ok name) (Err (Table at))) (name, rest) (text_again name rest good.counted)
    ∙ ap (λ b. cond (b && not (list_any (bytes_eq name) before)) (Ok (name, rest)) (Err (Table at))) good.word
    ∙ ap (λ b. cond (not b) (Ok (name, rest)) (Err (Table at))) good.other

kind_again : (kind : IntKind) → kind_of (kind_number kind) ≡ Some kind
kind_again Char = refl
kind_again UChar = refl
kind_again Short = refl
kind_again UShort = refl
kind_again Int_kind = refl
kind_again UInt = refl
kind_again LongLong = refl
kind_again ULongLong = refl

pub type_again : (types : ℕ) → types ≤ 2 ^ 32 → ReadsAgain type_bytes (λ _. IsTypeOf types) (λ _. type_at types)
unfolding type_at tagged_at kind_at array_at
type_again types low before at (Int kind) rest good = ap (λ o. kind_in at o rest) (kind_again kind)
type_again types low before at (Pointer t) rest good = ap (made Pointer) (entry_again types at t rest low good)
type_again types low before at VoidPointer rest good = refl
type_again types low before at (Function g) rest good = ap (made Function) (number_again g rest good)
type_again types low before at (Struct s) rest good = ap (made Struct) (number_again s rest good)
type_again types low before at (Union u) rest good = ap (made Union) (number_again u rest good)
type_again types low before at (Array t n) rest good =
    ap (array_at types at) (append_assoc (number_bytes t) (number_bytes n) rest)
    ∙ goes (entry_at types at (number_bytes t ++ (number_bytes n ++ rest))) (λ element. number_at element.1 >>= λ count. Ok (Array element.0 count.0, count.1)) (t, number_bytes n ++ rest) (entry_again types at t (number_bytes n ++ rest) low good.0)
    ∙ goes (number_at (number_bytes n ++ rest)) (λ count. Ok (Array t count.0, count.1)) (n, rest) (number_again n rest good.1)

module _ (names types : ℕ) (few_names : names ≤ 2 ^ 32) (few_types : types ≤ 2 ^ 32) where
  field_again : (owner : ℕ) → ReadsAgain field_bytes (λ _. IsFieldOf names types) (λ _ _. field_at names types owner)
  unfolding field_at
  field_again owner before at f rest good =
      let behind = number_bytes f.ty ++ rest in
      ap (field_at names types owner) (append_assoc (number_bytes f.name) (number_bytes f.ty) rest)
      ∙ goes (entry_at names owner (number_bytes f.name ++ behind)) (λ name. entry_at types owner name.1 >>= λ ty. Ok (record { name = name.0; ty = ty.0 }, ty.1)) (f.name, behind) (entry_again names owner f.name behind few_names good.name)
      ∙ goes (entry_at types owner behind) (λ ty. Ok (record { name = f.name; ty = ty.0 }, ty.1)) (f.ty, rest) (entry_again types owner f.ty rest few_types good.ty)

  pub tag_again : ReadsAgain tag_bytes (λ _. IsTagOf names types) (λ _. tag_at names types)
  unfolding tag_at
  tag_again before at tag rest good =
      let fields = flat_map field_bytes tag.fields ++ rest in
      let behind = number_bytes (length tag.fields) ++ fields in
      let small : length tag.fields < 2 ^ 32 = omega (arith, good.count) in
      ap (tag_at names types at) (append_assoc (number_bytes tag.tag) (list_bytes field_bytes tag.fields) rest ∙ ap (λ l. number_bytes tag.tag ++ l) (append_assoc (number_bytes (length tag.fields)) (flat_map field_bytes tag.fields) rest))
      ∙ goes (entry_at names at (number_bytes tag.tag ++ behind)) _ (tag.tag, behind) (entry_again names at tag.tag behind few_names good.name)
      ∙ goes (ranged_at 0 ENTRIES at behind) _ (length tag.fields, fields) (ranged_again 0 ENTRIES at (length tag.fields) fields small (omega arith) good.count)
      ∙ goes (items_at (λ _ _. field_at names types at) 0 [] (length tag.fields) fields) _ (tag.fields, rest) (items_again field_bytes (λ _. IsFieldOf names types) (λ _ _. field_at names types at) (field_again at) 0 [] tag.fields rest good.fields)

result_again : (o : Option ℕ) → result_in (result_number o) ≡ o
result_again None = refl
result_again (Some t) = by (t + 1) (omega arith)
  where
    by : (n : ℕ) → n ≡ suc t → result_in n ≡ Some t
    by zero e = absurd (omega (arith, e))
    by (suc n) e = let same : n ≡ t = omega (arith, e) in ap Some same

pub signature_again : (types : ℕ) → types < 2 ^ 32 → ReadsAgain signature_bytes (λ _. IsSignatureOf types) (λ _. signature_at types)
unfolding signature_at
signature_again types few before at g rest good =
    let params = flat_map number_bytes g.params ++ rest in
    let behind = number_bytes (length g.params) ++ params in
    let small : length g.params < 2 ^ 32 = omega (arith, good.count) in
    let entry : ReadsAgain number_bytes (λ _ t. t < types) (λ _ _. entry_at types at) = λ _ _ t more h. entry_again types at t more (omega (arith, few)) h in
    ap (signature_at types at) (append_assoc (number_bytes (result_number g.result)) (list_bytes number_bytes g.params) rest ∙ ap (λ l. number_bytes (result_number g.result) ++ l) (append_assoc (number_bytes (length g.params)) (flat_map number_bytes g.params) rest))
    ∙ goes (ranged_at 0 types at (number_bytes (result_number g.result) ++ behind)) _ (result_number g.result, behind) (ranged_again 0 types at (result_number g.result) behind (omega (arith, few, good.answer)) (omega arith) good.answer)
    ∙ goes (ranged_at 0 PARAMETERS at behind) _ (length g.params, params) (ranged_again 0 PARAMETERS at (length g.params) params small (omega arith) good.count)
    ∙ goes (items_at (λ _ _. entry_at types at) 0 [] (length g.params) params) _ (g.params, rest) (items_again number_bytes (λ _ t. t < types) (λ _ _. entry_at types at) entry 0 [] g.params rest good.params)
    ∙ ap (λ o. Ok (record { result = o; params = g.params }, rest)) (result_again g.result)

room_again : (parts : Parts) (sum at t : ℕ) (rest : List ℕ) → length parts.types < 2 ^ 32 → t < length parts.types → sum + size_of parts t ≤ SIZE → room_at parts sum at (number_bytes t ++ rest) ≡ Ok (t, rest)
unfolding room_at
room_again parts sum at t rest few known room =
    goes (entry_at (length parts.types) at (number_bytes t ++ rest)) (λ ty. cond (leb (sum + size_of parts ty.0) SIZE) (Ok ty) (Err (Table at))) (t, rest) (entry_again (length parts.types) at t rest (omega (arith, few)) known)
    ∙ ap (λ b. cond b (Ok (t, rest)) (Err (Table at))) (le-leb (sum + size_of parts t) SIZE room)

pub global_again : (names : ℕ) (parts : Parts) → names ≤ 2 ^ 32 → length parts.types < 2 ^ 32 → ReadsAgain global_bytes (IsGlobalOf names parts) (global_at names parts)
unfolding sized_global_at
global_again names parts few_names few_types before at g rest good =
    let sum = accepted.global_bytes before in
    let size = size_of parts g.ty in
    let initial = g.bytes ++ rest in
    let counted = number_bytes (length g.bytes) ++ initial in
    let typed = number_bytes g.ty ++ counted in
    let least : size ≤ length g.bytes = omega (arith, good.whole) in
    let most : length g.bytes ≤ size = omega (arith, good.whole) in
    let small : length g.bytes < 2 ^ 32 = omega (arith, most, good.room) in
    let split : global_bytes g ++ rest ≡ number_bytes g.name ++ typed =
    append_assoc (number_bytes g.name) (number_bytes g.ty ++ text_bytes g.bytes) rest
    ∙ ap (λ l. number_bytes g.name ++ l) (append_assoc (number_bytes g.ty) (text_bytes g.bytes) rest ∙ ap (λ l. number_bytes g.ty ++ l) (append_assoc (number_bytes (length g.bytes)) g.bytes rest)) in
    ap (global_at names parts before at) split
    ∙ goes (entry_at names at (number_bytes g.name ++ typed)) _ (g.name, typed) (entry_again names at g.name typed few_names good.name)
    ∙ goes (room_at parts sum at typed) _ (g.ty, counted) (room_again parts sum at g.ty counted few_types good.ty good.room)
    ∙ goes (ranged_at size size at counted) _ (length g.bytes, initial) (ranged_again size size at (length g.bytes) initial small least most)
    ∙ goes (bytes_at (length g.bytes) initial) _ (g.bytes, rest) (bytes_again g.bytes rest)

code_again : (at : ℕ) (code : List Instr) (rest : List ℕ) → All FitsMachine code → IsCounted (code_bytes code) → IsBytes (code_bytes code) → code_at at (text_bytes (code_bytes code) ++ rest) ≡ Ok (code, rest)
unfolding code_at
code_again at code rest fits counted low =
    let h = decoded_somehow code in
    let t = decoded_takes (code_bytes code) h.0 low h.1 in
    let same : h.0 ≡ code = same_code h.0 code t.1 fits (sym t.0) in
    goes (text_at (text_bytes (code_bytes code) ++ rest)) (λ text. code_in at (decoded text.0) >>= λ code. Ok (code, text.1)) (code_bytes code, rest) (text_again (code_bytes code) rest counted)
    ∙ ap (λ o. code_in at o >>= λ code. Ok (code, rest)) (h.1 ∙ ap Some same)

pub function_again : (names : ℕ) (signatures : List Signature) → names < 2 ^ 32 → length signatures < 2 ^ 32 → ReadsAgain function_bytes (λ _. IsFunctionOf names signatures) (λ _. function_at names signatures)
unfolding function_at
function_again names signatures few_names few before at f rest good =
    let code = text_bytes (code_bytes f.code) ++ rest in
    let height = number_bytes f.height ++ code in
    let locals = number_bytes f.locals ++ height in
    let signature = number_bytes f.signature ++ locals in
    let text = text_bytes (code_bytes f.code) in
    let least = parameters_in (slice_get signatures f.signature) in
    let from_height : (number_bytes f.height ++ text) ++ rest ≡ height = append_assoc (number_bytes f.height) text rest in
    let from_locals : (number_bytes f.locals ++ (number_bytes f.height ++ text)) ++ rest ≡ locals = append_assoc (number_bytes f.locals) (number_bytes f.height ++ text) rest ∙ ap (λ l. number_bytes f.locals ++ l) from_height in
    let from_signature : (number_bytes f.signature ++ (number_bytes f.locals ++ (number_bytes f.height ++ text))) ++ rest ≡ signature =
    append_assoc (number_bytes f.signature) (number_bytes f.locals ++ (number_bytes f.height ++ text)) rest ∙ ap (λ l. number_bytes f.signature ++ l) from_locals in
    ap (function_at names signatures at) (append_assoc (number_bytes f.name) (number_bytes f.signature ++ (number_bytes f.locals ++ (number_bytes f.height ++ text))) rest ∙ ap (λ l. number_bytes f.name ++ l) from_signature)
    ∙ goes (ranged_at 0 names at (number_bytes f.name ++ signature)) _ (f.name, signature) (ranged_again 0 names at f.name signature (omega (arith, few_names, good.name)) (omega arith) good.name)
    ∙ goes (entry_at (length signatures) at signature) _ (f.signature, locals) (entry_again (length signatures) at f.signature locals (omega (arith, few)) good.signature)
    ∙ goes (ranged_at least LOCALS at locals) _ (f.locals, height) (ranged_again least LOCALS at f.locals height (omega (arith, good.locals)) good.parameters good.locals)
    ∙ goes (ranged_at 0 STACK_HEIGHT at height) _ (f.height, code) (ranged_again 0 STACK_HEIGHT at f.height code (omega (arith, good.height)) (omega arith) good.height)
    ∙ goes (code_at at code) _ (f.code, rest) (code_again at f.code rest good.code good.counted (code_low f.code))

pub site_again : (functions types : ℕ) → functions ≤ 2 ^ 32 → types ≤ 2 ^ 32 → ReadsAgain site_bytes (λ _. IsSiteOf functions types) (λ _. site_at functions types)
unfolding site_at
site_again functions types few_functions few_types before at s rest good =
    let elem = number_bytes s.elem ++ rest in
    let ordinal = number_bytes s.ordinal ++ elem in
    ap (site_at functions types at) (append_assoc (number_bytes s.function) (number_bytes s.ordinal ++ number_bytes s.elem) rest ∙ ap (λ l. number_bytes s.function ++ l) (append_assoc (number_bytes s.ordinal) (number_bytes s.elem) rest))
    ∙ goes (entry_at functions at (number_bytes s.function ++ ordinal)) _ (s.function, ordinal) (entry_again functions at s.function ordinal few_functions good.function)
    ∙ goes (number_at ordinal) _ (s.ordinal, elem) (number_again s.ordinal elem good.ordinal)
    ∙ goes (entry_at types at elem) _ (s.elem, rest) (entry_again types at s.elem rest few_types good.elem)
