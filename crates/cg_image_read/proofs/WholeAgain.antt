-- A program that has an image is read from it.
use Rattle.std.proofs.Common.{◌≡◌, ◌∙◌, ap, sym, refl, subst, ℕ, ◌+◌, ◌-◌, ◌^◌, ◌<◌, ◌≤◌, Bool, true, cond, eqb, List, [], ◌∷◌, ◌++◌, ◌&&◌, length, min, drop, Some, None, Result, Ok, Err, append_assoc, append-nil, arith, inl, inr}
use Rattle.std.specs.Prelude.{MatchResult}
use Rattle.std.specs.List.{flat_map, list_all}
use Rattle.std.proofs.lemmas.Bool.{ltb-true}
use Rattle.lu_base.specs.declared.limits.TheConstants.{ENTRIES, FILTERS}
use Rattle.c_types.specs.declared.parts.Ty.{Ty}
use Rattle.c_types.specs.declared.parts.Ty.TheVariants.{Int, Pointer, VoidPointer, Function, Struct, Union, Array}
use Rattle.c_types.specs.declared.parts.Parts.{Parts}
use Rattle.c_types.specs.Numbering.{is_well_numbered, is_countable, are_countable, is_pointer_size, type_is_numbered, tag_is_numbered, signature_is_numbered}
use Rattle.bm_code.specs.declared.code.MachineCode.{MachineCode}
use Rattle.cg_image.specs.Image.{magic, number_bytes, list_bytes, text_bytes, type_bytes, tag_bytes, signature_bytes, global_bytes, function_bytes, site_bytes, version_of, tables_bytes, program_bytes, image_bytes}
use Rattle.cg_image_read.specs.declared.error.ImageError.{ImageError}
use Rattle.cg_image_read.specs.declared.error.ImageError.TheVariants.{Magic, Version, Truncated, Table, Extra, Memory}
use Rattle.cg_image_read.specs.declared.later.Later.{Later}
use Rattle.cg_image_read.specs.declared.later.Later.TheVariants.{Structs, Unions, Signatures}
use Rattle.cg_image_read.specs.declared.tables.Tables.{Tables}
use Rattle.cg_image_read.specs.Answer.{◌>>=◌}
use Rattle.cg_image_read.specs.Fields.{place, number_at, ranged_at, items_at, limited_at}
use Rattle.cg_image_read.specs.Types.{type_at, tag_at, signature_at, knows, first_refused, unless_refused}
use Rattle.cg_image_read.specs.Items.{name_at, global_at, function_at, site_at}
use Rattle.cg_image_read.specs.Reading.{magic_at, pointer_at, names_at, known_at, parts_at, tables_at, globals_at, functions_at, sites_at, ended, filters_at, program_at, IsReadBehind, IsRead, Answers}
use Rattle.cg_image_read.specs.HasImage.{IsNewName, IsTypeOf, IsTagOf, IsSignatureOf, IsGlobalOf, IsFunctionOf, IsSiteOf, HasTables, HasImage}
use Rattle.cg_image_read.proofs.Stands.{same_ok}
use Rattle.cg_image_read.proofs.ItemsStand.{both}
use Rattle.cg_image_read.proofs.TablesStand.{parts_bytes}
use Rattle.cg_image_read.proofs.Again.{goes, number_again, ranged_again, items_again, limited_again, list_number, name_again, type_again, tag_again, signature_again, global_again, function_again, site_again}

all_known : (test : Ty → Bool) (end : ℕ) (bytes : List ℕ) (types : List Ty) → list_all test types ≡ true → first_refused test end bytes types ≡ None
unfolding first_refused
all_known test end bytes [] h = refl
all_known test end bytes (t ∷ ts) h =
    let b = both (test t) (list_all test ts) h in
    let behind = drop (length (type_bytes t)) bytes in
    ap (λ c. cond c (first_refused test end behind ts) (Some (place end bytes))) b.0 ∙ all_known test end behind ts b.1

weaker : (p q : Ty → Bool) → ((t : Ty) → p t ≡ true → q t ≡ true) → (ts : List Ty) → list_all p ts ≡ true → list_all q ts ≡ true
weaker p q f [] h = refl
weaker p q f (t ∷ ts) h = let b = both (p t) (list_all p ts) h in ap (λ c. c && list_all q ts) (f t b.0) ∙ weaker p q f ts b.1

knows_struct : (p : Parts) (t : Ty) → type_is_numbered p t ≡ true → knows Structs (length p.structs) t ≡ true
knows_struct p (Int k) h = refl
knows_struct p (Pointer t) h = refl
knows_struct p VoidPointer h = refl
knows_struct p (Function g) h = refl
knows_struct p (Struct s) h = h
knows_struct p (Union u) h = refl
knows_struct p (Array t n) h = refl

knows_union : (p : Parts) (t : Ty) → type_is_numbered p t ≡ true → knows Unions (length p.unions) t ≡ true
knows_union p (Int k) h = refl
knows_union p (Pointer t) h = refl
knows_union p VoidPointer h = refl
knows_union p (Function g) h = refl
knows_union p (Struct s) h = refl
knows_union p (Union u) h = h
knows_union p (Array t n) h = refl

knows_signature : (p : Parts) (t : Ty) → type_is_numbered p t ≡ true → knows Signatures (length p.signatures) t ≡ true
knows_signature p (Int k) h = refl
knows_signature p (Pointer t) h = refl
knows_signature p VoidPointer h = refl
knows_signature p (Function g) h = h
knows_signature p (Struct s) h = refl
knows_signature p (Union u) h = refl
knows_signature p (Array t n) h = refl

known_again : (later : Later) (end : ℕ) (first : List ℕ) (types : List Ty) (bytes : List ℕ) (n : ℕ) (rest : List ℕ) → number_at bytes ≡ Ok (n, rest) → list_all (knows later n) types ≡ true → known_at later end first types bytes ≡ Ok (n, rest)
unfolding known_at
known_again later end first types bytes n rest h k =
    goes (number_at bytes) (λ count. unless_refused (first_refused (knows later count.0) end first types) (Ok count)) (n, rest) h
    ∙ ap (λ o. unless_refused o (Ok (n, rest))) (all_known (knows later n) end first types k)

-- how many entries tables may have
pub record Few (p : Parts) : Type 0 where
  pub types : length p.types < 2 ^ 32
  pub structs : length p.structs < 2 ^ 32
  pub unions : length p.unions < 2 ^ 32
  pub signatures : length p.signatures < 2 ^ 32
  pub numbered : list_all (type_is_numbered p) p.types ≡ true

pub few : (p : Parts) → is_well_numbered p ≡ true → Few p
few p h =
    let signed = list_all (signature_is_numbered p) p.signatures && is_pointer_size p.pointer in
    let tagged = list_all (tag_is_numbered p) p.structs && (list_all (tag_is_numbered p) p.unions && signed) in
    let a = both (are_countable p) (list_all (type_is_numbered p) p.types && tagged) h in
    let b = both (list_all (type_is_numbered p) p.types) tagged a.1 in
    let c = both (is_countable p.types) (is_countable p.structs && (is_countable p.unions && is_countable p.signatures)) a.0 in
    let d = both (is_countable p.structs) (is_countable p.unions && is_countable p.signatures) c.1 in
    let e = both (is_countable p.unions) (is_countable p.signatures) d.1 in
    record {
      types = omega (arith, ltb-true (length p.types) (2 ^ 32 - 1) c.0);
      structs = omega (arith, ltb-true (length p.structs) (2 ^ 32 - 1) d.0);
      unions = omega (arith, ltb-true (length p.unions) (2 ^ 32 - 1) e.0);
      signatures = omega (arith, ltb-true (length p.signatures) (2 ^ 32 - 1) e.1);
      numbered = b.0;
    }

parts_again : (end : ℕ) (code : MachineCode) (rest : List ℕ) → HasTables 4 code → parts_at end (length code.names) 4 (parts_bytes code.types ++ rest) ≡ Ok (code.types, rest)
unfolding parts_at
parts_again end code rest has =
    let p = code.types in
    let names = length code.names in
    let types = length p.types in
    let f = few p has.built.numbered in
    let low_names : names ≤ 2 ^ 32 = omega (arith, has.name_count) in
    let low : types ≤ 2 ^ 32 = omega (arith, f.types) in
    let tag = tag_again names types low_names low in
    let b4 = list_bytes signature_bytes p.signatures ++ rest in
    let b3 = list_bytes tag_bytes p.unions ++ b4 in
    let b2 = list_bytes tag_bytes p.structs ++ b3 in
    let b1 = list_bytes type_bytes p.types ++ b2 in
    let first = flat_map type_bytes p.types ++ b2 in
    let from_unions : (list_bytes tag_bytes p.unions ++ list_bytes signature_bytes p.signatures) ++ rest ≡ b3 = append_assoc (list_bytes tag_bytes p.unions) (list_bytes signature_bytes p.signatures) rest in
    let from_structs : (list_bytes tag_bytes p.structs ++ (list_bytes tag_bytes p.unions ++ list_bytes signature_bytes p.signatures)) ++ rest ≡ b2 =
    append_assoc (list_bytes tag_bytes p.structs) (list_bytes tag_bytes p.unions ++ list_bytes signature_bytes p.signatures) rest ∙ ap (λ l. list_bytes tag_bytes p.structs ++ l) from_unions in
    let split : parts_bytes p ++ rest ≡ b1 =
    append_assoc (list_bytes type_bytes p.types) (list_bytes tag_bytes p.structs ++ (list_bytes tag_bytes p.unions ++ list_bytes signature_bytes p.signatures)) rest ∙ ap (λ l. list_bytes type_bytes p.types ++ l) from_structs in
    ap (parts_at end names 4) split
    ∙ goes (number_at b1) _ (types, first) (list_number type_bytes p.types b2 f.types)
    ∙ goes (items_at (λ _. type_at types) end [] types first) _ (p.types, b2) (items_again type_bytes (λ _. IsTypeOf types) (λ _. type_at types) (type_again types low) end [] p.types b2 has.types)
    ∙ goes (known_at Structs end first p.types b2) _ (length p.structs, flat_map tag_bytes p.structs ++ b3)
    (known_again Structs end first p.types b2 (length p.structs) (flat_map tag_bytes p.structs ++ b3) (list_number tag_bytes p.structs b3 f.structs) (weaker (type_is_numbered p) (knows Structs (length p.structs)) (knows_struct p) p.types f.numbered))
    ∙ goes (limited_at (λ _. tag_at names types) ENTRIES end (length p.structs) (flat_map tag_bytes p.structs ++ b3)) _ (p.structs, b3) (limited_again tag_bytes (λ _. IsTagOf names types) (λ _. tag_at names types) tag end ENTRIES p.structs b3 has.struct_count has.structs)
    ∙ goes (known_at Unions end first p.types b3) _ (length p.unions, flat_map tag_bytes p.unions ++ b4)
    (known_again Unions end first p.types b3 (length p.unions) (flat_map tag_bytes p.unions ++ b4) (list_number tag_bytes p.unions b4 f.unions) (weaker (type_is_numbered p) (knows Unions (length p.unions)) (knows_union p) p.types f.numbered))
    ∙ goes (limited_at (λ _. tag_at names types) ENTRIES end (length p.unions) (flat_map tag_bytes p.unions ++ b4)) _ (p.unions, b4) (limited_again tag_bytes (λ _. IsTagOf names types) (λ _. tag_at names types) tag end ENTRIES p.unions b4 has.union_count has.unions)
    ∙ goes (known_at Signatures end first p.types b4) _ (length p.signatures, flat_map signature_bytes p.signatures ++ rest)
    (known_again Signatures end first p.types b4 (length p.signatures) (flat_map signature_bytes p.signatures ++ rest) (list_number signature_bytes p.signatures rest f.signatures) (weaker (type_is_numbered p) (knows Signatures (length p.signatures)) (knows_signature p) p.types f.numbered))
    ∙ goes (items_at (λ _. signature_at types) end [] (length p.signatures) (flat_map signature_bytes p.signatures ++ rest)) _ (p.signatures, rest) (items_again signature_bytes (λ _. IsSignatureOf types) (λ _. signature_at types) (signature_again types f.types) end [] p.signatures rest has.signatures)
    ∙ ap (λ k. Ok (record { pointer = k; types = p.types; structs = p.structs; unions = p.unions; signatures = p.signatures }, rest)) (sym has.narrow)

magic_again : (rest : List ℕ) → magic_at (magic ++ rest) ≡ Ok rest
magic_again rest = refl

pointer_again : (rest : List ℕ) → pointer_at (magic ++ (number_bytes 1 ++ rest)) ≡ Ok (4, rest)
unfolding pointer_at
pointer_again rest =
    goes (magic_at (magic ++ (number_bytes 1 ++ rest))) (λ rest. number_at rest >>= λ version. cond (eqb version.0 1) (Ok (4, version.1)) (Err Version)) (number_bytes 1 ++ rest) (magic_again (number_bytes 1 ++ rest))
    ∙ goes (number_at (number_bytes 1 ++ rest)) (λ version. cond (eqb version.0 1) (Ok (4, version.1)) (Err Version)) (1, rest) (number_again 1 rest (omega arith))

-- the front of an image is read
record Fronts (code : MachineCode) (bytes : List ℕ) : Type 0 where
  at : ℕ
  is : tables_at bytes ≡ Ok (record { names = code.names; types = code.types; at = at }, program_bytes code)

front_again : (code : MachineCode) (bytes : List ℕ) → HasTables 4 code → image_bytes code ≡ bytes → Fronts code bytes
unfolding tables_at names_at image_bytes
front_again code bytes has e =
    let program = program_bytes code in
    let end = length bytes in
    let parts = parts_bytes code.types ++ program in
    let names = list_bytes text_bytes code.names ++ parts in
    let split : bytes ≡ magic ++ (number_bytes 1 ++ names) =
    sym e ∙ ap (λ k. magic ++ (number_bytes (version_of k) ++ (tables_bytes code ++ program))) has.narrow ∙ ap (λ l. magic ++ (number_bytes 1 ++ l)) (append_assoc (list_bytes text_bytes code.names) (parts_bytes code.types) program) in
    let named : names_at end names ≡ Ok (code.names, parts) =
    goes (number_at names) (λ count. items_at name_at end [] count.0 count.1) (length code.names, flat_map text_bytes code.names ++ parts) (list_number text_bytes code.names parts has.name_count)
    ∙ items_again text_bytes IsNewName name_at name_again end [] code.names parts has.names in
    record {
      at = place end parts;
      is = goes (pointer_at bytes) _ (4, names) (ap pointer_at split ∙ pointer_again names)
          ∙ goes (names_at end names) _ (code.names, parts) named
          ∙ goes (parts_at end (length code.names) 4 parts) _ (code.types, program) (parts_again end code program has);
    }

filters_again : (end functions filters : ℕ) → filters ≤ FILTERS → filters ≤ functions → filters_at end functions (number_bytes filters) ≡ Ok filters
unfolding filters_at
filters_again end functions filters few last =
    let bytes = number_bytes filters ++ [] in
    let most : filters ≤ min FILTERS functions = omega (arith, few, last) in
    ap (filters_at end functions) (sym (append-nil (number_bytes filters)))
    ∙ goes (ranged_at 0 (min FILTERS functions) (place end bytes) bytes) (λ n. ended n.0 n.1) (filters, []) (ranged_again 0 (min FILTERS functions) (place end bytes) filters [] (omega (arith, few)) (omega arith) most)

program_again : (end : ℕ) (code : MachineCode) → HasImage 4 code → program_at end code.names code.types (program_bytes code) ≡ Ok code
unfolding program_at globals_at functions_at sites_at
program_again end code has =
    let names = length code.names in
    let types = code.types in
    let functions = length code.functions in
    let f = few types has.tables.built.numbered in
    let low_names : names < 2 ^ 32 = has.tables.name_count in
    let few_globals : length code.globals < 2 ^ 32 = omega (arith, has.global_count) in
    let few_functions : functions < 2 ^ 32 = omega (arith, has.function_count) in
    let few_sites : length code.sites < 2 ^ 32 = omega (arith, has.site_count) in
    let b3 = number_bytes code.filters in
    let b2 = list_bytes site_bytes code.sites ++ b3 in
    let b1 = list_bytes function_bytes code.functions ++ b2 in
    let b0 = list_bytes global_bytes code.globals ++ b1 in
    let g : globals_at end names types b0 ≡ Ok (code.globals, b1) =
    goes (number_at b0) (λ count. limited_at (global_at names types) ENTRIES end count.0 count.1) (length code.globals, flat_map global_bytes code.globals ++ b1) (list_number global_bytes code.globals b1 few_globals)
    ∙ limited_again global_bytes (IsGlobalOf names types) (global_at names types) (global_again names types (omega (arith, low_names)) f.types) end ENTRIES code.globals b1 has.global_count has.globals in
    let h : functions_at end names types b1 ≡ Ok (code.functions, b2) =
    goes (number_at b1) (λ count. limited_at (λ _. function_at names types.signatures) (ENTRIES + FILTERS) end count.0 count.1) (functions, flat_map function_bytes code.functions ++ b2) (list_number function_bytes code.functions b2 few_functions)
    ∙ limited_again function_bytes (λ _. IsFunctionOf names types.signatures) (λ _. function_at names types.signatures) (function_again names types.signatures low_names f.signatures) end (ENTRIES + FILTERS) code.functions b2 has.function_count has.functions in
    let s : sites_at end functions (length types.types) b2 ≡ Ok (code.sites, b3) =
    goes (number_at b2) (λ count. limited_at (λ _. site_at functions (length types.types)) ENTRIES end count.0 count.1) (length code.sites, flat_map site_bytes code.sites ++ b3) (list_number site_bytes code.sites b3 few_sites)
    ∙ limited_again site_bytes (λ _. IsSiteOf functions (length types.types)) (λ _. site_at functions (length types.types)) (site_again functions (length types.types) (omega (arith, few_functions)) (omega (arith, f.types))) end ENTRIES code.sites b3 has.site_count has.sites in
    goes (globals_at end names types b0) _ (code.globals, b1) g
    ∙ goes (functions_at end names types b1) _ (code.functions, b2) h
    ∙ goes (sites_at end functions (length types.types) b2) _ (code.sites, b3) s
    ∙ goes (filters_at end functions b3) _ code.filters (filters_again end functions code.filters has.filters has.filters_last)

-- nothing else is read of a program's image
read_only : (bytes : List ℕ) (answer : Result MachineCode ImageError) (code : MachineCode) → HasImage 4 code → image_bytes code ≡ bytes → IsRead bytes answer → answer ≡ Ok code
read_only bytes answer code has e is =
    let front = front_again code bytes has.tables e in
    let t : Tables × List ℕ = (record { names = code.names; types = code.types; at = front.at }, program_bytes code) in
    by t.0.at (subst (λ t. IsReadBehind (length bytes) t answer) front.is is)
  where
    by : (at : ℕ) → IsReadBehind (length bytes) (Ok (record { names = code.names; types = code.types; at = at }, program_bytes code)) answer → answer ≡ Ok code
    by at (inl k) = k.1 ∙ program_again (length bytes) code has
    by at (inr k) = absurd (k.0 has.tables.built)

pub whole_again : (bytes : List ℕ) (result : Result MachineCode ImageError) → Answers bytes result → (code : MachineCode) → HasImage 4 code → image_bytes code ≡ bytes → MatchResult result (λ found. found ≡ code) (λ e. e ≡ Memory)
whole_again bytes (Ok found) h code has e = same_ok (Ok found) found code refl (read_only bytes (Ok found) code has e h)
whole_again bytes (Err Memory) h code has e = refl
whole_again bytes (Err Magic) h code has e = let no = read_only bytes (Err Magic) code has e (h (λ k. absurd cc)) in absurd cc
whole_again bytes (Err Version) h code has e = let no = read_only bytes (Err Version) code has e (h (λ k. absurd cc)) in absurd cc
whole_again bytes (Err Truncated) h code has e = let no = read_only bytes (Err Truncated) code has e (h (λ k. absurd cc)) in absurd cc
whole_again bytes (Err (Table at)) h code has e = let no = read_only bytes (Err (Table at)) code has e (h (λ k. absurd cc)) in absurd cc
whole_again bytes (Err Extra) h code has e = let no = read_only bytes (Err Extra) code has e (h (λ k. absurd cc)) in absurd cc
