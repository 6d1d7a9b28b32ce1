-- What is read of an image is its program.
use Rattle.std.proofs.Common.{◌≡◌, ◌∙◌, ap, sym, refl, subst, ℕ, ◌+◌, ◌≤◌, Bool, true, false, cond, eqb, List, [], ◌∷◌, ◌++◌, length, min, drop, Option, Some, None, Result, Ok, Err, append_assoc, append-nil, arith, inl, inr}
use Rattle.std.specs.Prelude.{IfOk}
use Rattle.std.specs.List.{starts_with}
use Rattle.std.proofs.lemmas.Bool.{eqb-true}
use Rattle.std.proofs.lemmas.Bool.Decides.{Decides-eqb}
use Rattle.std.proofs.lemmas.Slice.Eq.{starts_is}
use Rattle.lu_base.specs.declared.limits.TheConstants.{ENTRIES, FILTERS}
use Rattle.c_types.specs.declared.parts.Ty.{Ty}
use Rattle.c_types.specs.declared.parts.TagDef.{TagDef}
use Rattle.c_types.specs.declared.parts.Signature.{Signature}
use Rattle.c_types.specs.declared.parts.Parts.{Parts}
use Rattle.c_types.specs.Refusal.{IsBuilt}
use Rattle.bm_code.specs.declared.code.MachineCode.{MachineCode}
use Rattle.cg_image.specs.Image.{magic, number_bytes, list_bytes, text_bytes, type_bytes, tag_bytes, signature_bytes, global_bytes, function_bytes, site_bytes, version_of, tables_bytes, program_bytes, image_bytes}
use Rattle.cg_image.specs.Short.{IsCounted}
use Rattle.cg_image_read.specs.declared.error.ImageError.{ImageError}
use Rattle.cg_image_read.specs.declared.error.ImageError.TheVariants.{Magic, Version, Truncated, Extra}
use Rattle.cg_image_read.specs.declared.later.Later.{Later}
use Rattle.cg_image_read.specs.declared.later.Later.TheVariants.{Structs, Unions, Signatures}
use Rattle.cg_image_read.specs.declared.tables.Tables.{Tables}
use Rattle.cg_image_read.specs.Answer.{◌>>=◌}
use Rattle.cg_image_read.specs.Fields.{Part, place, number_at, ranged_at, items_at, limited_at}
use Rattle.cg_image_read.specs.Types.{type_at, tag_at, signature_at, knows, first_refused, unless_refused}
use Rattle.cg_image_read.specs.Items.{name_at, global_at, function_at, site_at}
use Rattle.cg_image_read.specs.Reading.{magic_at, pointer_at, names_at, known_at, parts_at, tables_at, globals_at, functions_at, sites_at, ended, filters_at, program_at, IsReadBehind, IsRead, Answers}
use Rattle.cg_image_read.specs.HasImage.{EachBehind, IsNewName, IsTypeOf, IsTagOf, IsSignatureOf, IsGlobalOf, IsFunctionOf, IsSiteOf, HasImage}
use Rattle.cg_image_read.proofs.Bytes.{IsBytes, IsBytes-drop, Takes, Takes-then}
use Rattle.cg_image_read.proofs.Stands.{part_ok, part_then, same_ok, tested, number_stands, ranged_stands, list_stands, limited_stands}
use Rattle.cg_image_read.proofs.ItemsStand.{name_stands, type_stands, tag_stands, signature_stands, global_stands, function_stands, site_stands}

magic_stands : (bytes rest : List ℕ) → IsBytes bytes → magic_at bytes ≡ Ok rest → Takes bytes magic rest
magic_stands bytes rest fits e = by (starts_with eqb bytes magic) refl
  where
    by : (b : Bool) → starts_with eqb bytes magic ≡ b → Takes bytes magic rest
    by true h =
        let one = sym (ap (λ b. cond b (Ok (drop 4 bytes)) (cond (starts_with eqb magic bytes) (Err Truncated) (Err Magic))) h) ∙ e in
        let front = (starts_is Decides-eqb bytes magic (starts_with eqb bytes magic) refl).0 h in
        subst (Takes bytes magic) (same_ok (Ok (drop 4 bytes)) (drop 4 bytes) rest refl one) (record { parts = front; fits = IsBytes-drop 4 bytes fits })
    by false h = no (starts_with eqb magic bytes) (sym (ap (λ b. cond b (Ok (drop 4 bytes)) (cond (starts_with eqb magic bytes) (Err Truncated) (Err Magic))) h) ∙ e)
      where
        no : (b : Bool) → cond b (Err Truncated) (Err Magic) ≡ Ok rest → Takes bytes magic rest
        no true k = absurd cc
        no false k = absurd cc

pub pointer_stands : (bytes : List ℕ) (r : ℕ × List ℕ) → IsBytes bytes → pointer_at bytes ≡ Ok r → Takes bytes (magic ++ number_bytes 1) r.1 × (r.0 ≡ 4)
unfolding pointer_at
pointer_stands bytes r fits e =
    let rest = part_ok (magic_at bytes) (λ rest. number_at rest >>= λ version. cond (eqb version.0 1) (Ok (4, version.1)) (Err Version)) r e in
    let version = part_ok (number_at rest.0) (λ version. cond (eqb version.0 1) (Ok (4, version.1)) (Err Version)) r rest.2 in
    let is : ℕ × List ℕ = (4, version.0.1) in
    let g = tested (eqb version.0.0 1) Version (Ok is) r version.2 in
    let m = magic_stands bytes rest.0 fits rest.1 in
    let n = number_stands rest.0 version.0 m.fits version.1 in
    let one = subst (λ k. Takes rest.0 (number_bytes k) version.0.1) (eqb-true _ _ g.0) n.0 in
    subst (λ (y : ℕ × List ℕ). Takes bytes (magic ++ number_bytes 1) y.1 × (y.0 ≡ 4)) (same_ok (Ok is) is r refl g.1) (Takes-then bytes magic rest.0 (number_bytes 1) version.0.1 m one, refl)

known_is : (later : Later) (end : ℕ) (first : List ℕ) (types : List Ty) (bytes : List ℕ) (r : ℕ × List ℕ) → known_at later end first types bytes ≡ Ok r → number_at bytes ≡ Ok r
unfolding known_at
known_is later end first types bytes r e =
    let count = part_ok (number_at bytes) (λ count. unless_refused (first_refused (knows later count.0) end first types) (Ok count)) r e in
    by count.0 (first_refused (knows later count.0.0) end first types) count.1 count.2
  where
    by : (count : ℕ × List ℕ) (o : Option ℕ) → number_at bytes ≡ Ok count → unless_refused o (Ok count) ≡ Ok r → number_at bytes ≡ Ok r
    by count None h k = h ∙ k
    by count (Some at) h k = absurd cc

-- the bytes of types, structs, unions and signatures
abbrev pub parts_bytes : Parts → List ℕ
parts_bytes p = list_bytes type_bytes p.types ++ (list_bytes tag_bytes p.structs ++ (list_bytes tag_bytes p.unions ++ list_bytes signature_bytes p.signatures))

-- tables that were read
record AreParts (names pointer : ℕ) (bytes : List ℕ) (r : Parts × List ℕ) : Type 0 where
  narrow : r.0.pointer ≡ pointer
  takes : Takes bytes (parts_bytes r.0) r.1
  types : EachBehind (λ _. IsTypeOf (length r.0.types)) [] r.0.types
  struct_count : length r.0.structs ≤ ENTRIES
  structs : EachBehind (λ _. IsTagOf names (length r.0.types)) [] r.0.structs
  union_count : length r.0.unions ≤ ENTRIES
  unions : EachBehind (λ _. IsTagOf names (length r.0.types)) [] r.0.unions
  signatures : EachBehind (λ _. IsSignatureOf (length r.0.types)) [] r.0.signatures

parts_found : (end names pointer : ℕ) (bytes : List ℕ) (count : ℕ × List ℕ) (types : List Ty × List ℕ) (s : ℕ × List ℕ) (structs : List TagDef × List ℕ) (u : ℕ × List ℕ) (unions : List TagDef × List ℕ) (g : ℕ × List ℕ) (signatures : List Signature × List ℕ)
    → IsBytes bytes → number_at bytes ≡ Ok count → items_at (λ _. type_at count.0) end [] count.0 count.1 ≡ Ok types
    → number_at types.1 ≡ Ok s → limited_at (λ _. tag_at names count.0) ENTRIES end s.0 s.1 ≡ Ok structs
    → number_at structs.1 ≡ Ok u → limited_at (λ _. tag_at names count.0) ENTRIES end u.0 u.1 ≡ Ok unions
    → number_at unions.1 ≡ Ok g → items_at (λ _. signature_at count.0) end [] g.0 g.1 ≡ Ok signatures
    → AreParts names pointer bytes (record { pointer = pointer; types = types.0; structs = structs.0; unions = unions.0; signatures = signatures.0 }, signatures.1)
parts_found end names pointer bytes count types s structs u unions g signatures fits e0 e1 e2 e3 e4 e5 e6 e7 =
    let n = count.0 in
    let l = list_stands type_bytes (λ _. IsTypeOf n) (λ _. type_at n) (type_stands n) end bytes count types fits e0 e1 in
    let a = limited_stands tag_bytes (λ _. IsTagOf names n) (λ _. tag_at names n) (tag_stands names n) end ENTRIES types.1 s structs l.takes.fits e2 e3 in
    let b = limited_stands tag_bytes (λ _. IsTagOf names n) (λ _. tag_at names n) (tag_stands names n) end ENTRIES structs.1 u unions a.0.takes.fits e4 e5 in
    let c = list_stands signature_bytes (λ _. IsSignatureOf n) (λ _. signature_at n) (signature_stands n) end unions.1 g signatures b.0.takes.fits e6 e7 in
    let last = Takes-then structs.1 (list_bytes tag_bytes unions.0) unions.1 (list_bytes signature_bytes signatures.0) signatures.1 b.0.takes c.takes in
    let behind = Takes-then types.1 (list_bytes tag_bytes structs.0) structs.1 (list_bytes tag_bytes unions.0 ++ list_bytes signature_bytes signatures.0) signatures.1 a.0.takes last in
    let long = sym l.long in
    record {
      narrow = refl;
      takes = Takes-then bytes (list_bytes type_bytes types.0) types.1 (list_bytes tag_bytes structs.0 ++ (list_bytes tag_bytes unions.0 ++ list_bytes signature_bytes signatures.0)) signatures.1 l.takes behind;
      types = subst (λ k. EachBehind (λ _. IsTypeOf k) [] types.0) long l.good;
      struct_count = a.1;
      structs = subst (λ k. EachBehind (λ _. IsTagOf names k) [] structs.0) long a.0.good;
      union_count = b.1;
      unions = subst (λ k. EachBehind (λ _. IsTagOf names k) [] unions.0) long b.0.good;
      signatures = subst (λ k. EachBehind (λ _. IsSignatureOf k) [] signatures.0) long c.good;
    }

parts_stand : (end names pointer : ℕ) (bytes : List ℕ) (r : Parts × List ℕ) → IsBytes bytes → parts_at end names pointer bytes ≡ Ok r → AreParts names pointer bytes r
unfolding parts_at
parts_stand end names pointer bytes r fits e =
    part_then (number_at bytes) _ r e (λ count e0 f0.
    part_then (items_at (λ _. type_at count.0) end [] count.0 count.1) _ r f0 (λ types e1 f1.
    part_then (known_at Structs end count.1 types.0 types.1) _ r f1 (λ s e2 f2.
    part_then (limited_at (λ _. tag_at names count.0) ENTRIES end s.0 s.1) _ r f2 (λ structs e3 f3.
    part_then (known_at Unions end count.1 types.0 structs.1) _ r f3 (λ u e4 f4.
    part_then (limited_at (λ _. tag_at names count.0) ENTRIES end u.0 u.1) _ r f4 (λ unions e5 f5.
    part_then (known_at Signatures end count.1 types.0 unions.1) _ r f5 (λ g e6 f6.
    part_then (items_at (λ _. signature_at count.0) end [] g.0 g.1) _ r f6 (λ signatures e7 f7.
    let is : Parts × List ℕ = (record { pointer = pointer; types = types.0; structs = structs.0; unions = unions.0; signatures = signatures.0 }, signatures.1) in
    subst (AreParts names pointer bytes) (same_ok (Ok is) is r refl f7)
    (parts_found end names pointer bytes count types s structs u unions g signatures fits e0 e1
    (known_is Structs end count.1 types.0 types.1 s e2) e3 (known_is Unions end count.1 types.0 structs.1 u e4) e5 (known_is Signatures end count.1 types.0 unions.1 g e6) e7)))))))))

-- the front that was read
record IsFront (bytes : List ℕ) (r : Tables × List ℕ) : Type 0 where
  takes : Takes bytes ((magic ++ number_bytes 1) ++ (list_bytes text_bytes r.0.names ++ parts_bytes r.0.types)) r.1
  counted : IsCounted r.0.names
  names : EachBehind IsNewName [] r.0.names
  parts : (before : List ℕ) × AreParts (length r.0.names) 4 before (r.0.types, r.1)

front_stands : (bytes : List ℕ) (r : Tables × List ℕ) → IsBytes bytes → tables_at bytes ≡ Ok r → IsFront bytes r
unfolding tables_at names_at
front_stands bytes r fits e =
    let end = length bytes in
    let pointer = part_ok (pointer_at bytes) _ r e in
    let names = part_ok (names_at end pointer.0.1) _ r pointer.2 in
    let types = part_ok (parts_at end (length names.0.0) pointer.0.0 names.0.1) _ r names.2 in
    let count = part_ok (number_at pointer.0.1) (λ count. items_at name_at end [] count.0 count.1) names.0 names.1 in
    let p = pointer_stands bytes pointer.0 fits pointer.1 in
    let n = list_stands text_bytes IsNewName name_at name_stands end pointer.0.1 count.0 names.0 p.0.fits count.1 count.2 in
    let t = parts_stand end (length names.0.0) pointer.0.0 names.0.1 types.0 n.takes.fits types.1 in
    let is : Tables × List ℕ = (record { names = names.0.0; types = types.0.0; at = place end names.0.1 }, types.0.1) in
    let behind = Takes-then pointer.0.1 (list_bytes text_bytes names.0.0) names.0.1 (parts_bytes types.0.0) types.0.1 n.takes t.takes in
    subst (IsFront bytes) (same_ok (Ok is) is r refl types.2) (record {
      takes = Takes-then bytes (magic ++ number_bytes 1) pointer.0.1 (list_bytes text_bytes names.0.0 ++ parts_bytes types.0.0) types.0.1 p.0 behind;
      counted = n.counted;
      names = n.good;
      parts = (names.0.1, subst (λ k. AreParts (length names.0.0) k names.0.1 types.0) p.1 t);
    })

-- the program behind the tables
record IsBehind (names : List (List ℕ)) (types : Parts) (bytes : List ℕ) (code : MachineCode) : Type 0 where
  same_names : code.names ≡ names
  same_types : code.types ≡ types
  text : bytes ≡ program_bytes code
  global_count : length code.globals ≤ ENTRIES
  globals : EachBehind (IsGlobalOf (length names) types) [] code.globals
  function_count : length code.functions ≤ ENTRIES + FILTERS
  functions : EachBehind (λ _. IsFunctionOf (length names) types.signatures) [] code.functions
  site_count : length code.sites ≤ ENTRIES
  sites : EachBehind (λ _. IsSiteOf (length code.functions) (length types.types)) [] code.sites
  filters : code.filters ≤ min FILTERS (length code.functions)

filters_stand : (end functions : ℕ) (bytes : List ℕ) (filters : ℕ) → IsBytes bytes → filters_at end functions bytes ≡ Ok filters → (bytes ≡ number_bytes filters) × (filters ≤ min FILTERS functions)
unfolding filters_at
filters_stand end functions bytes filters fits e =
    let n = part_ok (ranged_at 0 (min FILTERS functions) (place end bytes) bytes) (λ n. ended n.0 n.1) filters e in
    let g = tested (eqb (length n.0.1) 0) Extra (Ok n.0.0) filters n.2 in
    let same = same_ok (Ok n.0.0) n.0.0 filters refl g.1 in
    let s = ranged_stands 0 (min FILTERS functions) (place end bytes) bytes n.0 fits n.1 in
    let nothing = empty n.0.1 (eqb-true _ _ g.0) in (
      s.takes.parts ∙ ap (λ l. number_bytes n.0.0 ++ l) nothing ∙ append-nil (number_bytes n.0.0) ∙ ap number_bytes same,
      subst (λ k. k ≤ min FILTERS functions) same s.most,
    )
  where
    empty : (l : List ℕ) → length l ≡ 0 → l ≡ []
    empty [] h = refl
    empty (x ∷ l) h = absurd (omega arith)

program_stands : (end : ℕ) (names : List (List ℕ)) (types : Parts) (bytes : List ℕ) (code : MachineCode) → IsBytes bytes → program_at end names types bytes ≡ Ok code → IsBehind names types bytes code
unfolding program_at globals_at functions_at sites_at
program_stands end names types bytes code fits e =
    let globals = part_ok (globals_at end (length names) types bytes) _ code e in
    let functions = part_ok (functions_at end (length names) types globals.0.1) _ code globals.2 in
    let sites = part_ok (sites_at end (length functions.0.0) (length types.types) functions.0.1) _ code functions.2 in
    let filters = part_ok (filters_at end (length functions.0.0) sites.0.1) _ code sites.2 in
    let g = part_ok (number_at bytes) (λ count. limited_at (global_at (length names) types) ENTRIES end count.0 count.1) globals.0 globals.1 in
    let f = part_ok (number_at globals.0.1) (λ count. limited_at (λ _. function_at (length names) types.signatures) (ENTRIES + FILTERS) end count.0 count.1) functions.0 functions.1 in
    let s = part_ok (number_at functions.0.1) (λ count. limited_at (λ _. site_at (length functions.0.0) (length types.types)) ENTRIES end count.0 count.1) sites.0 sites.1 in
    let a = limited_stands global_bytes (IsGlobalOf (length names) types) (global_at (length names) types) (global_stands (length names) types) end ENTRIES bytes g.0 globals.0 fits g.1 g.2 in
    let b = limited_stands function_bytes (λ _. IsFunctionOf (length names) types.signatures) (λ _. function_at (length names) types.signatures) (function_stands (length names) types.signatures) end (ENTRIES + FILTERS) globals.0.1 f.0 functions.0 a.0.takes.fits f.1 f.2 in
    let c = limited_stands site_bytes (λ _. IsSiteOf (length functions.0.0) (length types.types)) (λ _. site_at (length functions.0.0) (length types.types)) (site_stands (length functions.0.0) (length types.types)) end ENTRIES functions.0.1 s.0 sites.0 b.0.takes.fits s.1 s.2 in
    let d = filters_stand end (length functions.0.0) sites.0.1 filters.0 c.0.takes.fits filters.1 in
    let is : MachineCode = record { names = names; types = types; functions = functions.0.0; globals = globals.0.0; sites = sites.0.0; filters = filters.0 } in
    let last : functions.0.1 ≡ list_bytes site_bytes sites.0.0 ++ number_bytes filters.0 = c.0.takes.parts ∙ ap (λ l. list_bytes site_bytes sites.0.0 ++ l) d.0 in
    let behind : globals.0.1 ≡ list_bytes function_bytes functions.0.0 ++ (list_bytes site_bytes sites.0.0 ++ number_bytes filters.0) = b.0.takes.parts ∙ ap (λ l. list_bytes function_bytes functions.0.0 ++ l) last in
    subst (IsBehind names types bytes) (same_ok (Ok is) is code refl filters.2) (record {
      same_names = refl;
      same_types = refl;
      text = a.0.takes.parts ∙ ap (λ l. list_bytes global_bytes globals.0.0 ++ l) behind;
      global_count = a.1;
      globals = a.0.good;
      function_count = b.1;
      functions = b.0.good;
      site_count = c.1;
      sites = c.0.good;
      filters = d.1;
    })

image_is : (bytes : List ℕ) (r : Tables × List ℕ) (code : MachineCode) → IsFront bytes r → IsBehind r.0.names r.0.types r.1 code → image_bytes code ≡ bytes
unfolding image_bytes
image_is bytes r code front behind =
    let head = magic ++ number_bytes 1 in
    let tables = list_bytes text_bytes r.0.names ++ parts_bytes r.0.types in
    let same_tables : tables_bytes code ≡ tables = ap (λ (l : List (List ℕ)). list_bytes text_bytes l ++ parts_bytes code.types) behind.same_names ∙ ap (λ p. list_bytes text_bytes r.0.names ++ parts_bytes p) behind.same_types in
    let narrow : code.types.pointer ≡ 4 = ap (λ (p : Parts). p.pointer) behind.same_types ∙ front.parts.1.narrow in
    ap (λ k. magic ++ (number_bytes (version_of k) ++ (tables_bytes code ++ program_bytes code))) narrow
    ∙ ap (λ l. magic ++ (number_bytes 1 ++ (l ++ program_bytes code))) same_tables
    ∙ sym (append_assoc magic (number_bytes 1) (tables ++ program_bytes code))
    ∙ sym (append_assoc head tables (program_bytes code))
    ∙ ap (λ l. (head ++ tables) ++ l) (sym behind.text)
    ∙ sym front.takes.parts

has_image : (bytes : List ℕ) (r : Tables × List ℕ) (code : MachineCode) → IsFront bytes r → IsBehind r.0.names r.0.types r.1 code → IsBuilt r.0.types → HasImage 4 code
has_image bytes r code front behind built =
    let parts = front.parts.1 in
    let P : List (List ℕ) → Parts → Type 0 = λ names types. HasImage 4 (record { names = names; types = types; functions = code.functions; globals = code.globals; sites = code.sites; filters = code.filters }) in
    subst (λ names. P names code.types) (sym behind.same_names) (subst (P r.0.names) (sym behind.same_types) (record {
      tables = record {
        narrow = parts.narrow;
        name_count = front.counted;
        names = front.names;
        built = built;
        types = parts.types;
        struct_count = parts.struct_count;
        structs = parts.structs;
        union_count = parts.union_count;
        unions = parts.unions;
        signatures = parts.signatures;
      };
      global_count = behind.global_count;
      globals = behind.globals;
      function_count = behind.function_count;
      functions = behind.functions;
      site_count = behind.site_count;
      sites = behind.sites;
      filters = omega (arith, behind.filters);
      filters_last = omega (arith, behind.filters);
    }))

-- a program that was read has an image, which the bytes are
pub read_stands : (bytes : List ℕ) (code : MachineCode) → IsBytes bytes → IsRead bytes (Ok code) → (image_bytes code ≡ bytes) × HasImage 4 code
read_stands bytes code fits is = by (tables_at bytes) refl is
  where
    by : (t : Part Tables) → tables_at bytes ≡ t → IsReadBehind (length bytes) t (Ok code) → (image_bytes code ≡ bytes) × HasImage 4 code
    by (Err e) h k = absurd cc
    by (Ok t) h (inl k) =
        let front = front_stands bytes t fits h in
        let behind = program_stands (length bytes) t.0.names t.0.types t.1 code front.takes.fits (sym k.1) in (image_is bytes t code front behind, has_image bytes t code front behind k.0)
    by (Ok t) h (inr k) = let no = k.1 in absurd cc

pub image_found : (bytes : List ℕ) (result : Result MachineCode ImageError) → IsBytes bytes → Answers bytes result → IfOk result (λ code. image_bytes code ≡ bytes)
image_found bytes (Ok code) fits h = (read_stands bytes code fits h).0
image_found bytes (Err e) fits h = tt

pub whole_found : (bytes : List ℕ) (result : Result MachineCode ImageError) → IsBytes bytes → Answers bytes result → IfOk result (HasImage 4)
whole_found bytes (Ok code) fits h = (read_stands bytes code fits h).1
whole_found bytes (Err e) fits h = tt
