-- A text has one program at most, and one refusal.
use Rattle.std.proofs.Common.{◌≡◌, ◌≢◌, ◌∙◌, ◌↔◌, refl, sym, ap, subst, ℕ, suc, ◌+◌, ◌<◌, ◌≤◌, false, inl, inr, List, [], ◌∷◌, ◌++◌, length, append_assoc, Result, Ok, Err, arith}
use Rattle.std.specs.Prelude.{IfOk}
use Rattle.std.proofs.lemmas.List.{append-nil}
use Rattle.c_ast.specs.declared.token.Token.{Token}
use Rattle.c_ast.specs.declared.token.Token.TheVariants as token
use Rattle.c_ast.specs.declared.fault.Fault.{Fault}
use Rattle.c_ast.specs.declared.fault.Fault.TheVariants.{Syntax, TooDeep}
use Rattle.c_ast.specs.declared.decl.Decl.{Decl}
use Rattle.c_ast.specs.Trees.{Data, Pointer, Declaration, Record, Global, Prototype, Definition, declaration, declarations}
use Rattle.c_ast.specs.Cells.{tokens, PassesLimit, KeepsLimits, none}
use Rattle.c_ast.specs.Grammar.{top, tag_keyword, type_cells, declaration_cells}
use Rattle.c_ast.specs.Program.{declaration_spelling, IsDeclarationWithinBounds, AreWithinBounds, spelling, IsProgram, IsDeep, IsRefusedAt}
use Rattle.c_parse_expr.specs.declared.error.ReadError.{ReadError}
use Rattle.c_parse_expr.specs.declared.error.ReadError.TheVariants as read
use Rattle.c_parse_expr.specs.declared.error.ParseError.{ParseError}
use Rattle.c_parse_expr.specs.declared.error.ParseError.TheVariants as error
use Rattle.c_parse_expr.specs.Answers.{located_error}
use Rattle.c_parse_expr.specs.Reads.{Fails}
use Rattle.c_parse_expr.proofs.Exact.{Exact, Sound, Leads, cold_or_hot, leads_left}
use Rattle.c_parse_expr.proofs.Chains.{shorter}
use Rattle.c_parse_expr.proofs.TypeNames.{base_lead}
use Rattle.c_parse.specs.Answers.{Refuses, Only, OnlyRefused}
use Rattle.c_parse.specs.Declarations.{decl}
use Rattle.c_parse.proofs.Params.{type_leads}
use Rattle.c_parse.proofs.Decls.{declaration_kind, decl_exact}

-- ---- what a declaration that is read, or isn't, says

pub decl_is : (ts : List Token) (d : Declaration) (rest : List Token) → decl ts ≡ Ok (d, rest) → IsDeclarationWithinBounds d × (ts ≡ declaration_spelling d ++ rest)
decl_is ts d rest e =
    let known : Sound declaration_kind ts (Ok (d, rest)) = subst (Sound declaration_kind ts) e (decl_exact ts).sound in
    elim (cold_or_hot (declaration_cells d top) rest) [
      | inl c ↦ ((known.0, c), known.1)
      | inr h ↦ absurd (known.3 (d, known.0, subst (PassesLimit (declaration_cells d top)) (sym known.1) h))
    ]

pub decl_only : (ts : List Token) (d : Declaration) (rest : List Token) → IsDeclarationWithinBounds d → ts ≡ declaration_spelling d ++ rest → decl ts ≡ Ok (d, rest)
decl_only ts d rest w e = (decl_exact ts).only d rest w.0 e tt w.1

pub decl_none : (ts : List Token) (f : Fault) → decl ts ≡ Err f → (d : Declaration) (more : List Token) → IsDeclarationWithinBounds d → ts ≡ declaration_spelling d ++ more → ⊥
decl_none ts f e d more w s = let is = decl_only ts d more w s in cc

pub decl_deep : (ts : List Token) (f : Fault) → decl ts ≡ Err f → (f ≡ TooDeep) ↔ IsDeep ts
decl_deep ts TooDeep e = let known : Sound declaration_kind ts (Err TooDeep) = subst (Sound declaration_kind ts) e (decl_exact ts).sound in (λ h. known, λ h. refl)
decl_deep ts Syntax e = let known : Sound declaration_kind ts (Err Syntax) = subst (Sound declaration_kind ts) e (decl_exact ts).sound in (λ h. absurd (let f = h in cc), λ h. absurd (known h))

-- no declaration's spelling begins another's
pub one_declaration : (a b : Declaration) (x y : List Token) → IsDeclarationWithinBounds a → IsDeclarationWithinBounds b → declaration_spelling a ++ x ≡ declaration_spelling b ++ y → (a ≡ b) × (x ≡ y)
one_declaration a b x y w v e =
    let first = decl_only (declaration_spelling a ++ x) a x w refl in
    let second = decl_only (declaration_spelling a ++ x) b y v e in
    let whole : ◌≡◌ {A = Declaration × List Token} (a, x) (b, y) = cc in
    (ap (λ p. p.0) whole, ap (λ p. p.1) whole)

-- ---- each declaration has a token

lead : Declaration → Token
lead (Record t x fs) = token.Keyword (tag_keyword t)
lead (Global (Data t x n) i) = base_lead t.base
lead (Global (Pointer t x n ps) i) = base_lead t.base
lead (Prototype t x ps) = base_lead t.base
lead (Definition t x ps body) = base_lead t.base

leads : (d : Declaration) → Leads (lead d) false (declaration_cells d top)
unfolding lead
leads (Record t x fs) = (refl, refl)
leads (Global (Data t x n) i) = leads_left (base_lead t.base) false (type_cells t top ++ _) _ (leads_left (base_lead t.base) false (type_cells t top) _ (type_leads t top))
leads (Global (Pointer t x n ps) i) = leads_left (base_lead t.base) false (type_cells t top ++ _) _ (leads_left (base_lead t.base) false (type_cells t top) _ (type_leads t top))
leads (Prototype t x ps) = leads_left (base_lead t.base) false (type_cells t top ++ _) _ (leads_left (base_lead t.base) false (type_cells t top) _ (type_leads t top))
leads (Definition t x ps body) = leads_left (base_lead t.base) false (type_cells t top ++ _) _ (leads_left (base_lead t.base) false (type_cells t top) _ (type_leads t top))

pub some_tokens : (d : Declaration) (x : List Token) → declaration_spelling d ++ x ≢ []
some_tokens d x e = go (declaration_cells d top) (leads d) e
  where
    go : (cs : List Rattle.c_ast.specs.Cells.Cell) → Leads (lead d) false cs → tokens cs ++ x ≡ [] → ⊥
    go [] l e = l
    go (c ∷ cs) l e = cc

pub decl_falls : (ts : List Token) (d : Declaration) (rest : List Token) → decl ts ≡ Ok (d, rest) → length rest < length ts
decl_falls ts d rest e = shorter (declaration_cells d top) ts rest (λ h. Rattle.c_parse_expr.proofs.Exact.leads_some (lead d) false (declaration_cells d top) (leads d) h) (decl_is ts d rest e).1

-- ---- programs

pub one_program : (text : List Token) (xs ys : List Declaration) → IsProgram text xs → IsProgram text ys → xs ≡ ys
one_program text xs ys p q = go xs ys p.bounds q.bounds (sym p.spelled ∙ q.spelled)
  where
    go : (xs ys : List Declaration) → AreWithinBounds xs → AreWithinBounds ys → spelling xs ≡ spelling ys → xs ≡ ys
    go [] [] w v e = refl
    go [] (y ∷ ys) w v e = absurd (some_tokens y (spelling ys) (sym e))
    go (x ∷ xs) [] w v e = absurd (some_tokens x (spelling xs) e)
    go (x ∷ xs) (y ∷ ys) w v e = let same = one_declaration x y (spelling xs) (spelling ys) w.0 v.0 e in let more = go xs ys w.1 v.1 same.1 in λ i. same.0 i ∷ more i

pub refused_none : (text : List Token) (f : Fault) (k : ℕ) (ds : List Declaration) → IsRefusedAt text f k → IsProgram text ds → ⊥
refused_none text f k ds r p = go r.before ds r.bounds p.bounds (sym r.spelled ∙ p.spelled)
  where
    go : (xs ys : List Declaration) → AreWithinBounds xs → AreWithinBounds ys → spelling xs ++ r.rest ≡ spelling ys → ⊥
    go [] [] w v e = r.remain e
    go [] (y ∷ ys) w v e = r.none y (spelling ys) v.0 e
    go (x ∷ xs) [] w v e = some_tokens x (spelling xs ++ r.rest) (sym (append_assoc (declaration_spelling x) (spelling xs) r.rest) ∙ e)
    go (x ∷ xs) (y ∷ ys) w v e = go xs ys w.1 v.1 (one_declaration x y (spelling xs ++ r.rest) (spelling ys) w.0 v.0 (sym (append_assoc (declaration_spelling x) (spelling xs) r.rest) ∙ e)).1

pub refused_same : (text : List Token) (f g : Fault) (j k : ℕ) → IsRefusedAt text f j → IsRefusedAt text g k → (f ≡ g) × (j ≡ k)
refused_same text f g j k r q =
    let p = go r.before q.before r.bounds q.bounds (sym r.spelled ∙ q.spelled) in
    (fault f g r.deep (subst (λ x. (g ≡ TooDeep) ↔ IsDeep x) (sym p.1) q.deep), r.count ∙ ap suc p.0 ∙ sym q.count)
  where
    split : (x : Declaration) (xs : List Declaration) (rest : List Token) → declaration_spelling x ++ (spelling xs ++ rest) ≡ spelling (x ∷ xs) ++ rest
    split x xs rest = sym (append_assoc (declaration_spelling x) (spelling xs) rest)

    go : (xs ys : List Declaration) → AreWithinBounds xs → AreWithinBounds ys → spelling xs ++ r.rest ≡ spelling ys ++ q.rest → (length xs ≡ length ys) × (r.rest ≡ q.rest)
    go [] [] w v e = (refl, e)
    go [] (y ∷ ys) w v e = absurd (r.none y (spelling ys ++ q.rest) v.0 (e ∙ sym (split y ys q.rest)))
    go (x ∷ xs) [] w v e = absurd (q.none x (spelling xs ++ r.rest) w.0 (sym e ∙ sym (split x xs r.rest)))
    go (x ∷ xs) (y ∷ ys) w v e =
        let same = one_declaration x y (spelling xs ++ r.rest) (spelling ys ++ q.rest) w.0 v.0 (split x xs r.rest ∙ e ∙ sym (split y ys q.rest)) in
        let more = go xs ys w.1 v.1 same.1 in
        (ap suc more.0, more.1)

    fault : (f g : Fault) → (f ≡ TooDeep) ↔ IsDeep r.rest → (g ≡ TooDeep) ↔ IsDeep r.rest → f ≡ g
    fault TooDeep g h k = sym (k.1 (h.0 refl))
    fault Syntax TooDeep h k = h.1 (k.0 refl)
    fault Syntax Syntax h k = refl

-- ---- a list that grows at its end

spelling_last : (ds : List Declaration) (d : Declaration) → spelling (ds ++ (d ∷ [])) ≡ spelling ds ++ declaration_spelling d
spelling_last [] d = append-nil (declaration_spelling d)
spelling_last (x ∷ ds) d = ap (λ l. declaration_spelling x ++ l) (spelling_last ds d) ∙ sym (append_assoc (declaration_spelling x) (spelling ds) (declaration_spelling d))

bounds_last : (ds : List Declaration) (d : Declaration) → AreWithinBounds ds → IsDeclarationWithinBounds d → AreWithinBounds (ds ++ (d ∷ []))
bounds_last [] d w v = (v, tt)
bounds_last (x ∷ ds) d w v = (w.0, bounds_last ds d w.1 v)

declarations_last : (ds : List Decl) (d : Decl) → declarations (ds ++ (d ∷ [])) ≡ declarations ds ++ (declaration d ∷ [])
declarations_last [] d = refl
declarations_last (x ∷ ds) d = ap (λ l. declaration x ∷ l) (declarations_last ds d)

declarations_length : (ds : List Decl) → length (declarations ds) ≡ length ds
declarations_length [] = refl
declarations_length (d ∷ ds) = ap suc (declarations_length ds)

length_last : (ds : List Decl) (d : Decl) → length (ds ++ (d ∷ [])) ≡ suc (length ds)
length_last [] d = refl
length_last (x ∷ ds) d = ap suc (length_last ds d)

-- what is read of the text so far, and what is left of it
pub record SoFar (text : List Token) (list : List Decl) (rest : List Token) : Type 0 where
  pub bounds : AreWithinBounds (declarations list)
  pub spelled : text ≡ spelling (declarations list) ++ rest
  pub fewer : length list + length rest ≤ length text

pub so_far_none : (text : List Token) → SoFar text [] text
so_far_none text = record { bounds = tt; spelled = refl; fewer = omega arith }

pub so_far_more : (text : List Token) (list : List Decl) (rest : List Token) (d : Decl) (after : List Token) → SoFar text list rest → decl rest ≡ Ok (declaration d, after) → SoFar text (list ++ (d ∷ [])) after
so_far_more text list rest d after s e =
    let is = decl_is rest (declaration d) after e in
    let falls = decl_falls rest (declaration d) after e in
    let longer = length_last list d in
    let fewer = s.fewer in
    record {
      bounds = subst AreWithinBounds (sym (declarations_last list d)) (bounds_last (declarations list) (declaration d) s.bounds is.0);
      spelled = s.spelled ∙ ap (λ x. spelling (declarations list) ++ x) is.1 ∙ sym (append_assoc (spelling (declarations list)) (declaration_spelling (declaration d)) after)
          ∙ ap (λ x. x ++ after) (sym (spelling_last (declarations list) (declaration d)) ∙ ap spelling (sym (declarations_last list d)));
      fewer = omega arith;
    }

pub so_far_done : (text : List Token) (list : List Decl) (rest : List Token) → SoFar text list rest → rest ≡ [] → IsProgram text (declarations list)
so_far_done text list rest s e = record { bounds = s.bounds; spelled = s.spelled ∙ ap (λ x. spelling (declarations list) ++ x) e ∙ append-nil (spelling (declarations list)) }

so_far_refused : (text : List Token) (list : List Decl) (rest : List Token) (f : Fault) (n : ℕ) → SoFar text list rest → rest ≢ [] → n ≡ suc (length list) → decl rest ≡ Err f → IsRefusedAt text f n
so_far_refused text list rest f n s some e r = record {
  before = declarations list;
  rest = rest;
  bounds = s.bounds;
  spelled = s.spelled;
  count = e ∙ ap suc (sym (declarations_length list));
  remain = some;
  none = decl_none rest f r;
  deep = decl_deep rest f r;
}

pub refuses : (text : List Token) (list : List Decl) (rest : List Token) (e : ReadError) (n : ℕ) → SoFar text list rest → rest ≢ [] → n ≡ suc (length list) → Fails e (decl rest) → Refuses text (Err (located_error n e))
refuses text list rest read.Memory n s some h f = tt
refuses text list rest (read.Refused Syntax) n s some h f = so_far_refused text list rest Syntax n s some h f
refuses text list rest (read.Refused TooDeep) n s some h f = so_far_refused text list rest TooDeep n s some h f

pub room_for_one : (text : List Token) (list : List Decl) (rest : List Token) → SoFar text list rest → rest ≢ [] → length list < length text
room_for_one text list [] s some = absurd (some refl)
room_for_one text list (t ∷ rest) s some = let fewer = s.fewer in omega arith

-- ---- what follows for each answer

pub answers_only : (text : List Token) (r : Result (List Decl) ParseError) → IfOk r (λ p. IsProgram text (declarations p)) → Refuses text r → (ds : List Declaration) → IsProgram text ds → Only ds r
answers_only text (Ok p) h k ds w = one_program text (declarations p) ds h w
answers_only text (Err error.Memory) h k ds w = tt
answers_only text (Err (error.Syntax n)) h k ds w = refused_none text Syntax n ds k w
answers_only text (Err (error.TooDeep n)) h k ds w = refused_none text TooDeep n ds k w

pub answers_kind : (text : List Token) (r : Result (List Decl) ParseError) → IfOk r (λ p. IsProgram text (declarations p)) → Refuses text r → (f : Fault) (n : ℕ) → IsRefusedAt text f n → OnlyRefused f n r
answers_kind text (Ok p) h k f n w = refused_none text f n (declarations p) w h
answers_kind text (Err error.Memory) h k f n w = tt
answers_kind text (Err (error.Syntax m)) h k f n w = refused_same text Syntax f m n k w
answers_kind text (Err (error.TooDeep m)) h k f n w = refused_same text TooDeep f m n k w
