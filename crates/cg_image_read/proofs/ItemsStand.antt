-- What is read of an item stands at the front, and is an item that a program may have.
use Rattle.std.proofs.Common.{◌≡◌, ◌∙◌, ap, sym, refl, subst, ℕ, zero, suc, ◌+◌, ◌^◌, ◌<◌, ◌≤◌, Bool, true, false, cond, ltb, leb, List, [], ◌∷◌, ◌++◌, ◌&&◌, length, take, drop, Option, Some, None, Result, Ok, Err, arith, All}
use Rattle.std.specs.Prelude.{slice_get, bytes_eq, not}
use Rattle.std.specs.List.{list_any}
use Rattle.std.proofs.lemmas.Bool.{leb-true, ne_eqb}
use Rattle.lu_base.specs.declared.limits.TheConstants.{ENTRIES, LOCALS, PARAMETERS, SIZE, STACK_HEIGHT}
use Rattle.c_types.specs.declared.parts.IntKind.{IntKind}
use Rattle.c_types.specs.declared.parts.IntKind.TheVariants.{Char, UChar, Short, UShort, Int as Int_kind, UInt, LongLong, ULongLong}
use Rattle.c_types.specs.declared.parts.Ty.{Ty}
use Rattle.c_types.specs.declared.parts.Ty.TheVariants.{Int, Pointer, VoidPointer, Function, Struct, Union, Array}
use Rattle.c_types.specs.declared.parts.FieldDef.{FieldDef}
use Rattle.c_types.specs.declared.parts.TagDef.{TagDef}
use Rattle.c_types.specs.declared.parts.Signature.{Signature}
use Rattle.c_types.specs.declared.parts.Parts.{Parts}
use Rattle.c_types.specs.Layout.{size_of}
use Rattle.src_meaning.specs.ValidNames.{is_identifier}
use Rattle.bm_isa.specs.declared.instr.Instr.{Instr}
use Rattle.bm_isa.specs.Encoding.{code_bytes, FitsMachine}
use Rattle.bm_code.specs.declared.code.MachineFunction.{MachineFunction}
use Rattle.bm_code.specs.declared.code.MachineGlobal.{MachineGlobal}
use Rattle.bm_code.specs.declared.code.MachineSite.{MachineSite}
use Rattle.bm_code.specs.Accepted as accepted
use Rattle.cg_image.specs.Image.{number_bytes, list_bytes, text_bytes, kind_number, type_bytes, field_bytes, tag_bytes, result_number, signature_bytes, global_bytes, function_bytes, site_bytes}
use Rattle.cg_image.specs.Short.{IsCounted}
use Rattle.cg_image_read.specs.declared.error.ImageError.{ImageError}
use Rattle.cg_image_read.specs.declared.error.ImageError.TheVariants.{Truncated, Table}
use Rattle.cg_image_read.specs.Answer.{◌>>=◌}
use Rattle.cg_image_read.specs.Fields.{Part, number_at, bytes_at, ranged_at, entry_at, text_at, items_at}
use Rattle.cg_image_read.specs.Types.{kind_of, kind_in, kind_at, made, array_at, tagged_at, type_at, field_at, tag_at, result_in, signature_at}
use Rattle.cg_image_read.specs.Decoding.{decoded}
use Rattle.cg_image_read.specs.Items.{name_at, room_at, sized_global_at, global_at, code_in, code_at, parameters_in, function_at, site_at}
use Rattle.cg_image_read.specs.HasImage.{IsNewName, IsTypeOf, IsFieldOf, IsTagOf, IsSignatureOf, IsGlobalOf, IsFunctionOf, IsSiteOf}
use Rattle.cg_image_read.proofs.Bytes.{IsBytes, IsBytes-rest, IsBytes-take, Takes, Takes-then}
use Rattle.cg_image_read.proofs.DecodingLemmas.{decoded_takes}
use Rattle.cg_image_read.proofs.Stands.{part_ok, same_ok, tested, not_tested, number_stands, ranged_stands, entry_stands, bytes_stand, text_stands, ranged_list, Stands}

pub both : (a b : Bool) → (a && b) ≡ true → (a ≡ true) × (b ≡ true)
both true b h = (refl, h)
both false b h = absurd cc

is_not : (b : Bool) → not b ≡ true → b ≡ false
is_not true h = absurd cc
is_not false h = refl

pub name_stands : Stands text_bytes IsNewName name_at
unfolding name_at
name_stands before at bytes r fits e =
    let name = part_ok (text_at bytes) (λ name. cond (is_identifier name.0 && not (list_any (bytes_eq name.0) before)) (Ok name) (Err (Table at))) r e in
    let g = tested (is_identifier name.0.0 && not (list_any (bytes_eq name.0.0) before)) (Table at) (Ok name.0) r name.2 in
    let s = text_stands bytes name.0 fits name.1 in
    let b = both (is_identifier name.0.0) (not (list_any (bytes_eq name.0.0) before)) g.0 in
    subst (λ (y : List ℕ × List ℕ). Takes bytes (text_bytes y.0) y.1 × IsNewName before y.0) (same_ok (Ok name.0) name.0 r refl g.1)
    (s.0, record { word = b.0; other = is_not (list_any (bytes_eq name.0.0) before) b.1; counted = s.1 })

-- a byte in front
begins : (b : ℕ) (bytes text rest : List ℕ) → Takes bytes text rest → Takes (b ∷ bytes) (b ∷ text) rest
begins b bytes text rest t = record { parts = ap (λ l. b ∷ l) t.parts; fits = t.fits }

none_some : {A : Type 0} (x : A) → None ≡ Some x → ⊥
none_some x e = cc

err_ok : {A : Type 0} (e : ImageError) (x : A) (r : Result A ImageError) → r ≡ Err e → r ≡ Ok x → ⊥
err_ok e x r h k = cc

no_kind : (n : ℕ) → kind_of (suc (suc (suc (suc (suc (suc (suc (suc n)))))))) ≡ None
no_kind n = rw (ne_eqb (suc (suc (suc (suc (suc (suc (suc (suc n)))))))) 0 (λ h. omega (arith, h)), ne_eqb (suc (suc (suc (suc (suc (suc (suc (suc n)))))))) 1 (λ h. omega (arith, h)), ne_eqb (suc (suc (suc (suc (suc (suc (suc (suc n)))))))) 2 (λ h. omega (arith, h)), ne_eqb (suc (suc (suc (suc (suc (suc (suc (suc n)))))))) 3 (λ h. omega (arith, h)), ne_eqb (suc (suc (suc (suc (suc (suc (suc (suc n)))))))) 4 (λ h. omega (arith, h)), ne_eqb (suc (suc (suc (suc (suc (suc (suc (suc n)))))))) 5 (λ h. omega (arith, h)), ne_eqb (suc (suc (suc (suc (suc (suc (suc (suc n)))))))) 6 (λ h. omega (arith, h)), ne_eqb (suc (suc (suc (suc (suc (suc (suc (suc n)))))))) 7 (λ h. omega (arith, h))) refl

kind_is : (n : ℕ) (kind : IntKind) → kind_of n ≡ Some kind → kind_number kind ≡ n
kind_is zero kind e = let k : Char ≡ kind = cc in subst (λ k. kind_number k ≡ 0) k refl
kind_is (suc zero) kind e = let k : UChar ≡ kind = cc in subst (λ k. kind_number k ≡ 1) k refl
kind_is (suc (suc zero)) kind e = let k : Short ≡ kind = cc in subst (λ k. kind_number k ≡ 2) k refl
kind_is (suc (suc (suc zero))) kind e = let k : UShort ≡ kind = cc in subst (λ k. kind_number k ≡ 3) k refl
kind_is (suc (suc (suc (suc zero)))) kind e = let k : Int_kind ≡ kind = cc in subst (λ k. kind_number k ≡ 4) k refl
kind_is (suc (suc (suc (suc (suc zero))))) kind e = let k : UInt ≡ kind = cc in subst (λ k. kind_number k ≡ 5) k refl
kind_is (suc (suc (suc (suc (suc (suc zero)))))) kind e = let k : LongLong ≡ kind = cc in subst (λ k. kind_number k ≡ 6) k refl
kind_is (suc (suc (suc (suc (suc (suc (suc zero))))))) kind e = let k : ULongLong ≡ kind = cc in subst (λ k. kind_number k ≡ 7) k refl
kind_is (suc (suc (suc (suc (suc (suc (suc (suc n)))))))) kind e = absurd (none_some kind (sym (no_kind n) ∙ e))

-- a type whose tag was read
abbrev TypeStands : ℕ → ℕ → List ℕ → Ty × List ℕ → Type 0
TypeStands types tag bytes r = Takes (tag ∷ bytes) (type_bytes r.0) r.1 × IsTypeOf types r.0

kind_stands : (types at : ℕ) (bytes : List ℕ) (r : Ty × List ℕ) → IsBytes bytes → kind_at at bytes ≡ Ok r → TypeStands types 0 bytes r
unfolding kind_at
kind_stands types at [] r fits e = absurd cc
kind_stands types at (n ∷ rest) r fits e = by (kind_of n) refl
  where
    by : (o : Option IntKind) → kind_of n ≡ o → TypeStands types 0 (n ∷ rest) r
    by None h = let no = sym (ap (λ o. kind_in at o rest) h) ∙ e in absurd cc
    by (Some kind) h =
        let one = sym (ap (λ o. kind_in at o rest) h) ∙ e in
        let takes : Takes (0 ∷ n ∷ rest) (0 ∷ kind_number kind ∷ []) rest = record { parts = ap (λ k. 0 ∷ k ∷ rest) (sym (kind_is n kind h)); fits = IsBytes-rest n rest fits } in
        subst (TypeStands types 0 (n ∷ rest)) (same_ok (Ok (Int kind, rest)) (Int kind, rest) r refl one) (takes, tt)

made_stands : (types tag : ℕ) (type : ℕ → Ty) (P : ℕ → Type 0) (n : Part ℕ) (bytes : List ℕ) (r : Ty × List ℕ)
    → ((x : ℕ × List ℕ) → n ≡ Ok x → Takes bytes (number_bytes x.0) x.1 × P x.0)
    → ((k : ℕ) → type_bytes (type k) ≡ tag ∷ number_bytes k) → ((k : ℕ) → P k → IsTypeOf types (type k))
    → made type n ≡ Ok r → TypeStands types tag bytes r
made_stands types tag type P n bytes r stands spelled good e =
    let x = part_ok n (λ x. Ok (type x.0, x.1)) r e in
    let s = stands x.0 x.1 in
    let takes = subst (λ t. Takes (tag ∷ bytes) t x.0.1) (sym (spelled x.0.0)) (begins tag bytes (number_bytes x.0.0) x.0.1 s.0) in
    subst (TypeStands types tag bytes) (same_ok (Ok (type x.0.0, x.0.1)) (type x.0.0, x.0.1) r refl x.2) (takes, good x.0.0 s.1)

array_stands : (types at : ℕ) (bytes : List ℕ) (r : Ty × List ℕ) → IsBytes bytes → array_at types at bytes ≡ Ok r → TypeStands types 6 bytes r
unfolding array_at
array_stands types at bytes r fits e =
    let t = part_ok (entry_at types at bytes) (λ element. number_at element.1 >>= λ count. Ok (Array element.0 count.0, count.1)) r e in
    let n = part_ok (number_at t.0.1) (λ count. Ok (Array t.0.0 count.0, count.1)) r t.2 in
    let s = entry_stands types at bytes t.0 fits t.1 in
    let u = number_stands t.0.1 n.0 s.0.fits n.1 in
    let takes = begins 6 bytes (number_bytes t.0.0 ++ number_bytes n.0.0) n.0.1 (Takes-then bytes (number_bytes t.0.0) t.0.1 (number_bytes n.0.0) n.0.1 s.0 u.0) in
    subst (TypeStands types 6 bytes) (same_ok (Ok (Array t.0.0 n.0.0, n.0.1)) (Array t.0.0 n.0.0, n.0.1) r refl n.2) (takes, (s.1, u.1))

no_tag : (types at n : ℕ) (bytes : List ℕ) → tagged_at types at (suc (suc (suc (suc (suc (suc (suc n))))))) bytes ≡ Err (Table at)
unfolding tagged_at
no_tag types at n bytes = rw (ne_eqb (suc (suc (suc (suc (suc (suc (suc n))))))) 0 (λ h. omega (arith, h)), ne_eqb (suc (suc (suc (suc (suc (suc (suc n))))))) 1 (λ h. omega (arith, h)), ne_eqb (suc (suc (suc (suc (suc (suc (suc n))))))) 2 (λ h. omega (arith, h)), ne_eqb (suc (suc (suc (suc (suc (suc (suc n))))))) 3 (λ h. omega (arith, h)), ne_eqb (suc (suc (suc (suc (suc (suc (suc n))))))) 4 (λ h. omega (arith, h)), ne_eqb (suc (suc (suc (suc (suc (suc (suc n))))))) 5 (λ h. omega (arith, h)), ne_eqb (suc (suc (suc (suc (suc (suc (suc n))))))) 6 (λ h. omega (arith, h))) refl

tagged_stands : (types at tag : ℕ) (bytes : List ℕ) (r : Ty × List ℕ) → IsBytes bytes → tagged_at types at tag bytes ≡ Ok r → TypeStands types tag bytes r
unfolding tagged_at
tagged_stands types at zero bytes r fits e = kind_stands types at bytes r fits e
tagged_stands types at (suc zero) bytes r fits e =
    made_stands types 1 Pointer (λ k. k < types) (entry_at types at bytes) bytes r (λ x h. entry_stands types at bytes x fits h) (λ k. refl) (λ k h. h) e
tagged_stands types at (suc (suc zero)) bytes r fits e =
    subst (TypeStands types 2 bytes) (same_ok (Ok (VoidPointer, bytes)) (VoidPointer, bytes) r refl e) (record { parts = refl; fits = fits }, tt)
tagged_stands types at (suc (suc (suc zero))) bytes r fits e =
    made_stands types 3 Function (λ k. k < 2 ^ 32) (number_at bytes) bytes r (λ x h. number_stands bytes x fits h) (λ k. refl) (λ k h. h) e
tagged_stands types at (suc (suc (suc (suc zero)))) bytes r fits e =
    made_stands types 4 Struct (λ k. k < 2 ^ 32) (number_at bytes) bytes r (λ x h. number_stands bytes x fits h) (λ k. refl) (λ k h. h) e
tagged_stands types at (suc (suc (suc (suc (suc zero))))) bytes r fits e =
    made_stands types 5 Union (λ k. k < 2 ^ 32) (number_at bytes) bytes r (λ x h. number_stands bytes x fits h) (λ k. refl) (λ k h. h) e
tagged_stands types at (suc (suc (suc (suc (suc (suc zero)))))) bytes r fits e = array_stands types at bytes r fits e
tagged_stands types at (suc (suc (suc (suc (suc (suc (suc n))))))) bytes r fits e = absurd (err_ok (Table at) r (Err (Table at)) refl (sym (no_tag types at n bytes) ∙ e))

pub type_stands : (types : ℕ) → Stands type_bytes (λ _. IsTypeOf types) (λ _. type_at types)
unfolding type_at
type_stands types before at [] r fits e = absurd cc
type_stands types before at (tag ∷ rest) r fits e = tagged_stands types at tag rest r (IsBytes-rest tag rest fits) e

field_stands : (names types owner : ℕ) → Stands field_bytes (λ _. IsFieldOf names types) (λ _ _. field_at names types owner)
unfolding field_at
field_stands names types owner before at bytes r fits e =
    let name = part_ok (entry_at names owner bytes) (λ name. entry_at types owner name.1 >>= λ ty. Ok (record { name = name.0; ty = ty.0 }, ty.1)) r e in
    let ty = part_ok (entry_at types owner name.0.1) (λ ty. Ok (record { name = name.0.0; ty = ty.0 }, ty.1)) r name.2 in
    let s = entry_stands names owner bytes name.0 fits name.1 in
    let t = entry_stands types owner name.0.1 ty.0 s.0.fits ty.1 in
    let is : FieldDef × List ℕ = (record { name = name.0.0; ty = ty.0.0 }, ty.0.1) in
    subst (λ (y : FieldDef × List ℕ). Takes bytes (field_bytes y.0) y.1 × IsFieldOf names types y.0) (same_ok (Ok is) is r refl ty.2)
    (Takes-then bytes (number_bytes name.0.0) name.0.1 (number_bytes ty.0.0) ty.0.1 s.0 t.0, record { name = s.1; ty = t.1 })

pub tag_stands : (names types : ℕ) → Stands tag_bytes (λ _. IsTagOf names types) (λ _. tag_at names types)
unfolding tag_at
tag_stands names types before at bytes r fits e =
    let name = part_ok (entry_at names at bytes) (λ name. ranged_at 0 ENTRIES at name.1 >>= λ count. (items_at (λ _ _. field_at names types at) 0 [] count.0 count.1 >>= λ fields. Ok (record { tag = name.0; fields = fields.0 }, fields.1))) r e in
    let count = part_ok (ranged_at 0 ENTRIES at name.0.1) (λ count. (items_at (λ _ _. field_at names types at) 0 [] count.0 count.1 >>= λ fields. Ok (record { tag = name.0.0; fields = fields.0 }, fields.1))) r name.2 in
    let fields = part_ok (items_at (λ _ _. field_at names types at) 0 [] count.0.0 count.0.1) (λ fields. Ok (record { tag = name.0.0; fields = fields.0 }, fields.1)) r count.2 in
    let s = entry_stands names at bytes name.0 fits name.1 in
    let n = ranged_stands 0 ENTRIES at name.0.1 count.0 s.0.fits count.1 in
    let l = ranged_list field_bytes (λ _. IsFieldOf names types) (λ _ _. field_at names types at) (field_stands names types at) 0 ENTRIES at name.0.1 count.0 fields.0 s.0.fits count.1 fields.1 in
    let is : TagDef × List ℕ = (record { tag = name.0.0; fields = fields.0.0 }, fields.0.1) in
    subst (λ (y : TagDef × List ℕ). Takes bytes (tag_bytes y.0) y.1 × IsTagOf names types y.0) (same_ok (Ok is) is r refl fields.2)
    (Takes-then bytes (number_bytes name.0.0) name.0.1 (list_bytes field_bytes fields.0.0) fields.0.1 s.0 l.takes, record { name = s.1; count = l.most; fields = l.good })

result_is : (n : ℕ) → result_number (result_in n) ≡ n
result_is zero = refl
result_is (suc n) = omega arith

pub signature_stands : (types : ℕ) → Stands signature_bytes (λ _. IsSignatureOf types) (λ _. signature_at types)
unfolding signature_at
signature_stands types before at bytes r fits e =
    let answer = part_ok (ranged_at 0 types at bytes) (λ answer. ranged_at 0 PARAMETERS at answer.1 >>= λ count. (items_at (λ _ _. entry_at types at) 0 [] count.0 count.1 >>= λ params. Ok (record { result = result_in answer.0; params = params.0 }, params.1))) r e in
    let count = part_ok (ranged_at 0 PARAMETERS at answer.0.1) (λ count. (items_at (λ _ _. entry_at types at) 0 [] count.0 count.1 >>= λ params. Ok (record { result = result_in answer.0.0; params = params.0 }, params.1))) r answer.2 in
    let params = part_ok (items_at (λ _ _. entry_at types at) 0 [] count.0.0 count.0.1) (λ params. Ok (record { result = result_in answer.0.0; params = params.0 }, params.1)) r count.2 in
    let s = ranged_stands 0 types at bytes answer.0 fits answer.1 in
    let entry : Stands number_bytes (λ _ t. t < types) (λ _ _. entry_at types at) = λ _ _ b x f h. entry_stands types at b x f h in
    let l = ranged_list number_bytes (λ _ t. t < types) (λ _ _. entry_at types at) entry 0 PARAMETERS at answer.0.1 count.0 params.0 s.takes.fits count.1 params.1 in
    let is : Signature × List ℕ = (record { result = result_in answer.0.0; params = params.0.0 }, params.0.1) in
    let number : Takes bytes (number_bytes (result_number (result_in answer.0.0))) answer.0.1 = subst (λ k. Takes bytes (number_bytes k) answer.0.1) (sym (result_is answer.0.0)) s.takes in
    subst (λ (y : Signature × List ℕ). Takes bytes (signature_bytes y.0) y.1 × IsSignatureOf types y.0) (same_ok (Ok is) is r refl params.2) (
      Takes-then bytes (number_bytes (result_number (result_in answer.0.0))) answer.0.1 (list_bytes number_bytes params.0.0) params.0.1 number l.takes,
      record { answer = omega (arith, s.most, result_is answer.0.0); count = l.most; params = l.good },
    )

room_stands : (parts : Parts) (sum at : ℕ) (bytes : List ℕ) (r : ℕ × List ℕ) → IsBytes bytes → room_at parts sum at bytes ≡ Ok r → Takes bytes (number_bytes r.0) r.1 × ((r.0 < length parts.types) × (sum + size_of parts r.0 ≤ SIZE))
unfolding room_at
room_stands parts sum at bytes r fits e =
    let ty = part_ok (entry_at (length parts.types) at bytes) (λ ty. cond (leb (sum + size_of parts ty.0) SIZE) (Ok ty) (Err (Table at))) r e in
    let g = tested (leb (sum + size_of parts ty.0.0) SIZE) (Table at) (Ok ty.0) r ty.2 in
    let s = entry_stands (length parts.types) at bytes ty.0 fits ty.1 in
    subst (λ (y : ℕ × List ℕ). Takes bytes (number_bytes y.0) y.1 × ((y.0 < length parts.types) × (sum + size_of parts y.0 ≤ SIZE))) (same_ok (Ok ty.0) ty.0 r refl g.1) (s.0, (s.1, leb-true _ _ g.0))

pub global_stands : (names : ℕ) (parts : Parts) → Stands global_bytes (IsGlobalOf names parts) (global_at names parts)
unfolding sized_global_at
global_stands names parts before at bytes r fits e =
    let sum = accepted.global_bytes before in
    let name = part_ok (entry_at names at bytes) (λ name. room_at parts sum at name.1 >>= λ ty. (ranged_at (size_of parts ty.0) (size_of parts ty.0) at ty.1 >>= λ count. (bytes_at count.0 count.1 >>= λ initial. Ok (record { name = name.0; ty = ty.0; bytes = initial.0 }, initial.1)))) r e in
    let ty = part_ok (room_at parts sum at name.0.1) (λ ty. (ranged_at (size_of parts ty.0) (size_of parts ty.0) at ty.1 >>= λ count. (bytes_at count.0 count.1 >>= λ initial. Ok (record { name = name.0.0; ty = ty.0; bytes = initial.0 }, initial.1)))) r name.2 in
    let size = size_of parts ty.0.0 in
    let count = part_ok (ranged_at size size at ty.0.1) (λ count. (bytes_at count.0 count.1 >>= λ initial. Ok (record { name = name.0.0; ty = ty.0.0; bytes = initial.0 }, initial.1))) r ty.2 in
    let initial = part_ok (bytes_at count.0.0 count.0.1) (λ initial. Ok (record { name = name.0.0; ty = ty.0.0; bytes = initial.0 }, initial.1)) r count.2 in
    let s = entry_stands names at bytes name.0 fits name.1 in
    let t = room_stands parts sum at name.0.1 ty.0 s.0.fits ty.1 in
    let n = ranged_stands size size at ty.0.1 count.0 t.0.fits count.1 in
    let b = bytes_stand count.0.0 count.0.1 initial.0 n.takes.fits initial.1 in
    let whole : length initial.0.0 ≡ size = omega (arith, b.1, n.least, n.most) in
    let number : Takes ty.0.1 (number_bytes (length initial.0.0)) count.0.1 = subst (λ k. Takes ty.0.1 (number_bytes k) count.0.1) (sym b.1) n.takes in
    let text : Takes ty.0.1 (text_bytes initial.0.0) initial.0.1 = Takes-then ty.0.1 (number_bytes (length initial.0.0)) count.0.1 initial.0.0 initial.0.1 number b.0 in
    let behind = Takes-then name.0.1 (number_bytes ty.0.0) ty.0.1 (text_bytes initial.0.0) initial.0.1 t.0 text in
    let is : MachineGlobal × List ℕ = (record { name = name.0.0; ty = ty.0.0; bytes = initial.0.0 }, initial.0.1) in
    subst (λ (y : MachineGlobal × List ℕ). Takes bytes (global_bytes y.0) y.1 × IsGlobalOf names parts before y.0) (same_ok (Ok is) is r refl initial.2)
    (Takes-then bytes (number_bytes name.0.0) name.0.1 (number_bytes ty.0.0 ++ text_bytes initial.0.0) initial.0.1 s.0 behind, record { name = s.1; ty = t.1.0; room = t.1.1; whole = whole })

code_is : (at : ℕ) (o : Option (List Instr)) (code : List Instr) → code_in at o ≡ Ok code → o ≡ Some code
code_is at None code e = absurd cc
code_is at (Some found) code e = ap Some (same_ok (Ok found) found code refl e)

text_low : (bytes : List ℕ) (r : List ℕ × List ℕ) → IsBytes bytes → text_at bytes ≡ Ok r → IsBytes r.0
unfolding text_at
text_low bytes r fits e =
    let n = part_ok (number_at bytes) (λ n. bytes_at n.0 n.1) r e in
    let s = number_stands bytes n.0 fits n.1 in
    let text : List ℕ × List ℕ = (take n.0.0 n.0.1, drop n.0.0 n.0.1) in
    let g = not_tested (ltb (length n.0.1) n.0.0) Truncated (Ok text) r n.2 in
    subst (λ (y : List ℕ × List ℕ). IsBytes y.0) (same_ok (Ok text) text r refl g.1) (IsBytes-take n.0.0 n.0.1 s.0.fits)

code_stands : (at : ℕ) (bytes : List ℕ) (r : List Instr × List ℕ) → IsBytes bytes → code_at at bytes ≡ Ok r → Takes bytes (text_bytes (code_bytes r.0)) r.1 × (All FitsMachine r.0 × IsCounted (code_bytes r.0))
unfolding code_at
code_stands at bytes r fits e =
    let text = part_ok (text_at bytes) (λ text. code_in at (decoded text.0) >>= λ code. Ok (code, text.1)) r e in
    let code = part_ok (code_in at (decoded text.0.0)) (λ code. Ok (code, text.0.1)) r text.2 in
    let s = text_stands bytes text.0 fits text.1 in
    let low = text_low bytes text.0 fits text.1 in
    let d = code_is at (decoded text.0.0) code.0 code.1 in
    let t = decoded_takes text.0.0 code.0 low d in
    let is : List Instr × List ℕ = (code.0, text.0.1) in
    subst (λ (y : List Instr × List ℕ). Takes bytes (text_bytes (code_bytes y.0)) y.1 × (All FitsMachine y.0 × IsCounted (code_bytes y.0))) (same_ok (Ok is) is r refl code.2)
    (subst (λ l. Takes bytes (text_bytes l) text.0.1) t.0 s.0, (t.1, subst IsCounted t.0 s.1))

pub function_stands : (names : ℕ) (signatures : List Signature) → Stands function_bytes (λ _. IsFunctionOf names signatures) (λ _. function_at names signatures)
unfolding function_at
function_stands names signatures before at bytes r fits e =
    let name = part_ok (ranged_at 0 names at bytes) (λ name. entry_at (length signatures) at name.1 >>= λ signature. (ranged_at (parameters_in (slice_get signatures signature.0)) LOCALS at signature.1 >>= λ locals. (ranged_at 0 STACK_HEIGHT at locals.1 >>= λ height. (code_at at height.1 >>= λ code. Ok (record { name = name.0; signature = signature.0; locals = locals.0; height = height.0; code = code.0 }, code.1))))) r e in
    let signature = part_ok (entry_at (length signatures) at name.0.1) (λ signature. (ranged_at (parameters_in (slice_get signatures signature.0)) LOCALS at signature.1 >>= λ locals. (ranged_at 0 STACK_HEIGHT at locals.1 >>= λ height. (code_at at height.1 >>= λ code. Ok (record { name = name.0.0; signature = signature.0; locals = locals.0; height = height.0; code = code.0 }, code.1))))) r name.2 in
    let least = parameters_in (slice_get signatures signature.0.0) in
    let locals = part_ok (ranged_at least LOCALS at signature.0.1) (λ locals. (ranged_at 0 STACK_HEIGHT at locals.1 >>= λ height. (code_at at height.1 >>= λ code. Ok (record { name = name.0.0; signature = signature.0.0; locals = locals.0; height = height.0; code = code.0 }, code.1)))) r signature.2 in
    let height = part_ok (ranged_at 0 STACK_HEIGHT at locals.0.1) (λ height. (code_at at height.1 >>= λ code. Ok (record { name = name.0.0; signature = signature.0.0; locals = locals.0.0; height = height.0; code = code.0 }, code.1))) r locals.2 in
    let code = part_ok (code_at at height.0.1) (λ code. Ok (record { name = name.0.0; signature = signature.0.0; locals = locals.0.0; height = height.0.0; code = code.0 }, code.1)) r height.2 in
    let n = ranged_stands 0 names at bytes name.0 fits name.1 in
    let s = entry_stands (length signatures) at name.0.1 signature.0 n.takes.fits signature.1 in
    let l = ranged_stands least LOCALS at signature.0.1 locals.0 s.0.fits locals.1 in
    let h = ranged_stands 0 STACK_HEIGHT at locals.0.1 height.0 l.takes.fits height.1 in
    let c = code_stands at height.0.1 code.0 h.takes.fits code.1 in
    let text = text_bytes (code_bytes code.0.0) in
    let from_height = Takes-then locals.0.1 (number_bytes height.0.0) height.0.1 text code.0.1 h.takes c.0 in
    let from_locals = Takes-then signature.0.1 (number_bytes locals.0.0) locals.0.1 (number_bytes height.0.0 ++ text) code.0.1 l.takes from_height in
    let from_signature = Takes-then name.0.1 (number_bytes signature.0.0) signature.0.1 (number_bytes locals.0.0 ++ (number_bytes height.0.0 ++ text)) code.0.1 s.0 from_locals in
    let is : MachineFunction × List ℕ = (record { name = name.0.0; signature = signature.0.0; locals = locals.0.0; height = height.0.0; code = code.0.0 }, code.0.1) in
    subst (λ (y : MachineFunction × List ℕ). Takes bytes (function_bytes y.0) y.1 × IsFunctionOf names signatures y.0) (same_ok (Ok is) is r refl code.2) (
      Takes-then bytes (number_bytes name.0.0) name.0.1 (number_bytes signature.0.0 ++ (number_bytes locals.0.0 ++ (number_bytes height.0.0 ++ text))) code.0.1 n.takes from_signature,
      record { name = n.most; signature = s.1; parameters = l.least; locals = l.most; height = h.most; code = c.1.0; counted = c.1.1 },
    )

pub site_stands : (functions types : ℕ) → Stands site_bytes (λ _. IsSiteOf functions types) (λ _. site_at functions types)
unfolding site_at
site_stands functions types before at bytes r fits e =
    let function = part_ok (entry_at functions at bytes) (λ function. number_at function.1 >>= λ ordinal. (entry_at types at ordinal.1 >>= λ elem. Ok (record { function = function.0; ordinal = ordinal.0; elem = elem.0 }, elem.1))) r e in
    let ordinal = part_ok (number_at function.0.1) (λ ordinal. (entry_at types at ordinal.1 >>= λ elem. Ok (record { function = function.0.0; ordinal = ordinal.0; elem = elem.0 }, elem.1))) r function.2 in
    let elem = part_ok (entry_at types at ordinal.0.1) (λ elem. Ok (record { function = function.0.0; ordinal = ordinal.0.0; elem = elem.0 }, elem.1)) r ordinal.2 in
    let f = entry_stands functions at bytes function.0 fits function.1 in
    let o = number_stands function.0.1 ordinal.0 f.0.fits ordinal.1 in
    let t = entry_stands types at ordinal.0.1 elem.0 o.0.fits elem.1 in
    let behind = Takes-then function.0.1 (number_bytes ordinal.0.0) ordinal.0.1 (number_bytes elem.0.0) elem.0.1 o.0 t.0 in
    let is : MachineSite × List ℕ = (record { function = function.0.0; ordinal = ordinal.0.0; elem = elem.0.0 }, elem.0.1) in
    subst (λ (y : MachineSite × List ℕ). Takes bytes (site_bytes y.0) y.1 × IsSiteOf functions types y.0) (same_ok (Ok is) is r refl elem.2)
    (Takes-then bytes (number_bytes function.0.0) function.0.1 (number_bytes ordinal.0.0 ++ number_bytes elem.0.0) elem.0.1 f.0 behind, record { function = f.1; ordinal = o.1; elem = t.1 })
