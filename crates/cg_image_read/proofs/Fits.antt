-- The machine accepts a program that has an image, and each list of it is counted.
use Rattle.std.proofs.Common.{◌≡◌, sym, refl, subst, ℕ, zero, suc, ◌<◌, ◌≤◌, List, [], ◌∷◌, ◌++◌, length, Some, Result, Ok, Err, append_assoc, append-nil, arith, All}
use Rattle.std.specs.Prelude.{slice_get, IfOk}
use Rattle.std.specs.List.{AllByRecursion}
use Rattle.std.proofs.lemmas.List.Elements.{All-from_recursion}
use Rattle.lu_base.specs.declared.limits.TheConstants.{SIZE}
use Rattle.c_types.specs.declared.parts.TagDef.{TagDef}
use Rattle.c_types.specs.declared.parts.Parts.{Parts}
use Rattle.bm_code.specs.declared.code.MachineCode.{MachineCode}
use Rattle.bm_code.specs.declared.code.MachineFunction.{MachineFunction}
use Rattle.bm_code.specs.declared.code.MachineGlobal.{MachineGlobal}
use Rattle.bm_code.specs.Accepted.{global_bytes, AreNamed, IsAcceptedFunction, IsAcceptedGlobal, IsAcceptedSite, IsAccepted}
use Rattle.cg_image.specs.Short.{IsCounted, IsTagCounted, IsSignatureCounted, IsGlobalCounted, IsFunctionCounted, AreCounted}
use Rattle.cg_image_read.specs.declared.error.ImageError.{ImageError}
use Rattle.cg_image_read.specs.Items.{parameters_in}
use Rattle.cg_image_read.specs.Reading.{Answers}
use Rattle.cg_image_read.specs.HasImage.{EachBehind, IsNewName, IsFieldOf, IsTagOf, IsSignatureOf, IsGlobalOf, IsFunctionOf, IsSiteOf, HasImage}
use Rattle.cg_image_read.proofs.Bytes.{IsBytes}
use Rattle.cg_image_read.proofs.Loop.{global_bytes-more}
use Rattle.cg_image_read.proofs.TablesStand.{read_stands}
use Rattle.cg_image_read.proofs.WholeAgain.{few}

module _ {A : Type 0} (Good : List A → A → Type 0) (P : A → Type 0) (gives : (before : List A) (x : A) → Good before x → P x) where
  each_is : (before xs : List A) (k : ℕ) (x : A) → EachBehind Good before xs → slice_get xs k ≡ Some x → P x
  each_is before [] k x h e = absurd cc
  each_is before (y ∷ ys) zero x h e = let same : y ≡ x = cc in subst P same (gives before y h.0)
  each_is before (y ∷ ys) (suc k) x h e = each_is (before ++ y ∷ []) ys k x h.1 e

  each_all : (before xs : List A) → EachBehind Good before xs → AllByRecursion P xs
  each_all before [] h = tt
  each_all before (x ∷ xs) h = (gives before x h.0, each_all (before ++ x ∷ []) xs h.1)

  all_of : (xs : List A) → EachBehind Good [] xs → All P xs
  all_of xs h = All-from_recursion P xs (each_all [] xs h)

has_entry : {A : Type 0} (xs : List A) (k : ℕ) → k < length xs → (x : A) × (slice_get xs k ≡ Some x)
has_entry [] k lt = absurd (omega (arith, lt))
has_entry (x ∷ xs) zero lt = (x, refl)
has_entry (x ∷ xs) (suc k) lt = has_entry xs k (omega (arith, lt))

named : (names types : ℕ) (tag : TagDef) → IsTagOf names types tag → AreNamed names tag
named names types tag h = record {
  tag_named = h.name;
  fields = λ k f e. each_is (λ _. IsFieldOf names types) (λ f. f.name < names) (λ _ f g. g.name) [] tag.fields k f h.fields e;
}

sum_kept : (names : ℕ) (types : Parts) (before gs : List MachineGlobal) → EachBehind (IsGlobalOf names types) before gs → global_bytes before ≤ SIZE → global_bytes (before ++ gs) ≤ SIZE
sum_kept names types before [] h le = subst (λ l. global_bytes l ≤ SIZE) (sym (append-nil before)) le
sum_kept names types before (g ∷ gs) h le =
    let next : global_bytes (before ++ g ∷ []) ≤ SIZE = omega (arith, global_bytes-more before g, h.0.room, h.0.whole) in
    subst (λ l. global_bytes l ≤ SIZE) (append_assoc before (g ∷ []) gs) (sum_kept names types (before ++ g ∷ []) gs h.1 next)

accepted_function : (code : MachineCode) (f : MachineFunction) → IsFunctionOf (length code.names) code.types.signatures f → IsAcceptedFunction code f
accepted_function code f h =
    let s = has_entry code.types.signatures f.signature h.signature in
    record { name = h.name; signature = s.0; has = s.1; parameters = subst (λ o. parameters_in o ≤ f.locals) s.1 h.parameters; locals = h.locals; height = h.height }

pub accepted : (code : MachineCode) → HasImage 4 code → IsAccepted code
accepted code has =
    let names = length code.names in
    let types = length code.types.types in
    record {
      structs = λ k t e. each_is (λ _. IsTagOf names types) (AreNamed names) (λ _. named names types) [] code.types.structs k t has.tables.structs e;
      unions = λ k t e. each_is (λ _. IsTagOf names types) (AreNamed names) (λ _. named names types) [] code.types.unions k t has.tables.unions e;
      functions = λ k f e. each_is (λ _. IsFunctionOf names code.types.signatures) (IsAcceptedFunction code) (λ _. accepted_function code) [] code.functions k f has.functions e;
      function_count = has.function_count;
      globals = λ k g e. each_is (IsGlobalOf names code.types) (IsAcceptedGlobal code) (λ _ g h. record { name = h.name; known = h.ty; whole = h.whole }) [] code.globals k g has.globals e;
      global_count = has.global_count;
      global_size = sum_kept names code.types [] code.globals has.globals (omega arith);
      sites = λ k s e. each_is (λ _. IsSiteOf (length code.functions) types) (IsAcceptedSite code) (λ _ s h. record { function = h.function; known = h.elem }) [] code.sites k s has.sites e;
      site_count = has.site_count;
      filter_count = has.filters;
      filters_last = has.filters_last;
    }

pub counted : (code : MachineCode) → HasImage 4 code → AreCounted code
counted code has =
    let names = length code.names in
    let types = length code.types.types in
    let f = few code.types has.tables.built.numbered in
    record {
      names = has.tables.name_count;
      each_name = all_of IsNewName IsCounted (λ _ n h. h.counted) code.names has.tables.names;
      types = f.types;
      structs = f.structs;
      each_struct = all_of (λ _. IsTagOf names types) IsTagCounted (λ _ t h. omega (arith, h.count)) code.types.structs has.tables.structs;
      unions = f.unions;
      each_union = all_of (λ _. IsTagOf names types) IsTagCounted (λ _ t h. omega (arith, h.count)) code.types.unions has.tables.unions;
      signatures = f.signatures;
      each_signature = all_of (λ _. IsSignatureOf types) IsSignatureCounted (λ _ g h. record { result = omega (arith, h.answer, f.types); params = omega (arith, h.count) }) code.types.signatures has.tables.signatures;
      globals = omega (arith, has.global_count);
      each_global = all_of (IsGlobalOf names code.types) IsGlobalCounted (λ _ g h. omega (arith, h.room, h.whole)) code.globals has.globals;
      functions = omega (arith, has.function_count);
      each_function = all_of (λ _. IsFunctionOf names code.types.signatures) IsFunctionCounted (λ _ f h. h.counted) code.functions has.functions;
      sites = omega (arith, has.site_count);
    }

pub accepted_found : (bytes : List ℕ) (result : Result MachineCode ImageError) → IsBytes bytes → Answers bytes result → IfOk result IsAccepted
accepted_found bytes (Ok code) fits h = accepted code (read_stands bytes code fits h).1
accepted_found bytes (Err e) fits h = tt

pub counted_found : (bytes : List ℕ) (result : Result MachineCode ImageError) → IsBytes bytes → Answers bytes result → IfOk result AreCounted
counted_found bytes (Ok code) fits h = counted code (read_stands bytes code fits h).1
counted_found bytes (Err e) fits h = tt
