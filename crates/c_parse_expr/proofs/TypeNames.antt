-- Reading a type is exact.
use Rattle.std.proofs.Common.{◌≡◌, ◌∙◌, refl, sym, ap, subst, ℕ, zero, suc, Bool, true, false, inl, List, [], ◌∷◌, ◌++◌, Option, Some, None, cond, arith}
use Rattle.c_ast.specs.declared.token.Token.{Token}
use Rattle.c_ast.specs.declared.token.Token.TheVariants as token
use Rattle.c_ast.specs.declared.token.Mark.TheVariants as m
use Rattle.c_ast.specs.declared.token.Keyword.{Keyword}
use Rattle.c_ast.specs.declared.token.Keyword.TheVariants as k
use Rattle.c_ast.specs.declared.types.UnsignedType.{UnsignedType}
use Rattle.c_ast.specs.declared.types.UnsignedType.TheVariants as u
use Rattle.c_ast.specs.declared.types.TagKind.{TagKind}
use Rattle.c_ast.specs.declared.types.TagKind.TheVariants as tag
use Rattle.c_ast.specs.declared.types.BaseType.{BaseType}
use Rattle.c_ast.specs.declared.types.BaseType.TheVariants as base
use Rattle.c_ast.specs.declared.types.TypeName.{TypeName}
use Rattle.c_ast.specs.Trees.{Text}
use Rattle.c_ast.specs.Cells.{Cell, none, less, link}
use Rattle.c_ast.specs.Grammar.{star_limit, unsigned_cells, tag_keyword, base_cells, star_cells, type_cells}
use Rattle.c_parse_expr.specs.Reads.{made, one, build}
use Rattle.c_parse_expr.specs.Reading.{same_mark, same_keyword, sees, sees_keyword, sees_one, expect, pick_unsigned, pick_tag, pick_base, long_long, unsigned_word, more_unsigned, plain_if_none, unsigned_rest, unsigned_type, tagged, base_type, one_more, stars, type_of, type_name, begins_type}
use Rattle.c_parse_expr.proofs.Exact.{Kind, Exact, IsHot, Opens, Heads, Leads, both, both_keep, seq, seq_keep, narrow, widen, choose_exact, option_kind, option_exact, option_well, option_cells, option_stops, one_kind, one_exact, leads_left, leads_opens}
use Rattle.c_parse_expr.proofs.Chains.{row, all_well, many_kind, many, many_exact, folded, climb_is_many}
use Rattle.c_parse_expr.proofs.Sorts.{keyword_kind, expect_exact, expect_keyword_exact, name_kind, name_exact, at_head, opened, sees_heads}

-- ---- unsigned types

abbrev IsNarrow : UnsignedType → Type 0
IsNarrow u.Char = Unit {0}
IsNarrow u.Short = Unit {0}
IsNarrow u.Int = Unit {0}
IsNarrow u.Plain = ⊥
IsNarrow u.LongLong = ⊥

abbrev narrow_token : UnsignedType → Token
narrow_token u.Char = token.Keyword k.Char
narrow_token u.Short = token.Keyword k.Short
narrow_token u.Int = token.Keyword k.Int
narrow_token u.Plain = token.Keyword k.Int
narrow_token u.LongLong = token.Keyword k.Long

abbrev narrow_kind : Kind UnsignedType
narrow_kind = one_kind IsNarrow narrow_token

narrow_exact : (ts : List Token) → Exact narrow_kind ts (one pick_unsigned ts)
narrow_exact ts = one_exact IsNarrow narrow_token pick_unsigned picked from ts
  where
    picked : (a : UnsignedType) → IsNarrow a → pick_unsigned (narrow_token a) ≡ Some a
    picked u.Char w = refl
    picked u.Short w = refl
    picked u.Int w = refl
    picked u.Plain w = absurd w
    picked u.LongLong w = absurd w

    at : (x : Keyword) (a : UnsignedType) → pick_unsigned (token.Keyword x) ≡ Some a → IsNarrow a × (token.Keyword x ≡ narrow_token a)
    at k.Char a e = let is : u.Char ≡ a = cc in subst (λ a. IsNarrow a × (token.Keyword k.Char ≡ narrow_token a)) is (tt, refl)
    at k.Short a e = let is : u.Short ≡ a = cc in subst (λ a. IsNarrow a × (token.Keyword k.Short ≡ narrow_token a)) is (tt, refl)
    at k.Int a e = let is : u.Int ≡ a = cc in subst (λ a. IsNarrow a × (token.Keyword k.Int ≡ narrow_token a)) is (tt, refl)
    at _ a e = cc

    from : (t : Token) (a : UnsignedType) → pick_unsigned t ≡ Some a → IsNarrow a × (t ≡ narrow_token a)
    from (token.Keyword x) a e = at x a e
    from (token.Identifier x) a e = cc
    from (token.Mark x) a e = cc
    from (token.Reserved x) a e = cc
    from (token.Number x) a e = cc
    from (token.Character x) a e = cc
    from (token.Text x) a e = cc

abbrev long_kind : Kind (Unit {0} × Unit {0})
long_kind = both (keyword_kind k.Long) (keyword_kind k.Long)

long_exact : (ts : List Token) → Exact long_kind ts (long_long ts)
unfolding long_long
long_exact ts = seq (keyword_kind k.Long) (keyword_kind k.Long) (λ t u ts w v o. tt) (tt, tt) ts _ _ (expect_keyword_exact k.Long ts) (λ t rest r s. expect_keyword_exact k.Long rest)

module _ (n : ℕ) where
  abbrev word_well : UnsignedType → Type 0
  word_well u.Plain = ⊥
  word_well _ = Unit {0}

  abbrev word_kind : Kind UnsignedType
  word_kind = record { well = word_well; cells = λ w. unsigned_cells w (suc n); stops = λ w rest. Unit {0} }

  word_long : (w : UnsignedType) (ts : List Token) → word_well w → Opens (unsigned_cells w (suc n)) ts → sees_keyword k.Long ts ≡ true → u.LongLong ≡ w
  unfolding same_keyword
  word_long u.LongLong ts w o e = refl
  word_long u.Plain ts w o e = absurd w
  word_long u.Char ts w o e = absurd (let f = opened (sees_keyword k.Long) (token.Keyword k.Char, false) [] ts o false (λ rest. refl) in cc)
  word_long u.Short ts w o e = absurd (let f = opened (sees_keyword k.Long) (token.Keyword k.Short, false) [] ts o false (λ rest. refl) in cc)
  word_long u.Int ts w o e = absurd (let f = opened (sees_keyword k.Long) (token.Keyword k.Int, false) [] ts o false (λ rest. refl) in cc)

  word_narrow : (w : UnsignedType) (ts : List Token) → word_well w → Opens (unsigned_cells w (suc n)) ts → sees_keyword k.Long ts ≡ false → IsNarrow w
  unfolding same_keyword
  word_narrow u.LongLong ts w o e = absurd (let f = opened (sees_keyword k.Long) (token.Keyword k.Long, false) ((token.Keyword k.Long, false) ∷ []) ts o true (λ rest. refl) in cc)
  word_narrow u.Plain ts w o e = absurd w
  word_narrow u.Char ts w o e = tt
  word_narrow u.Short ts w o e = tt
  word_narrow u.Int ts w o e = tt

  narrow_cells : (w : UnsignedType) → IsNarrow w → unsigned_cells w (suc n) ≡ (narrow_token w, false) ∷ []
  narrow_cells u.Char w = refl
  narrow_cells u.Short w = refl
  narrow_cells u.Int w = refl
  narrow_cells u.Plain w = absurd w
  narrow_cells u.LongLong w = absurd w

  narrow_word : (w : UnsignedType) → IsNarrow w → word_well w
  narrow_word u.Plain w = absurd w
  narrow_word _ w = tt

  word_exact : (ts : List Token) → Exact word_kind ts (unsigned_word ts)
  unfolding unsigned_word
  word_exact ts =
      choose_exact word_kind ts (sees_keyword k.Long) (build (λ p. u.LongLong) long_long) (one pick_unsigned)
      (λ e. narrow long_kind word_kind (λ p. u.LongLong) ts (λ p w. tt) (λ p w. refl) (λ p rest w s. tt) (λ p rest w s. tt) (λ w v o. ((tt, tt), word_long w ts v o e, (tt, tt))) _ (long_exact ts))
      (λ e. widen narrow_kind word_kind ts narrow_word narrow_cells (λ w rest v s. tt) (λ w rest v s. tt) (λ w v o. word_narrow w ts v o e) _ (narrow_exact ts))

  word_more : (w : UnsignedType) (ts : List Token) → word_well w → Opens (unsigned_cells w (suc n)) ts → more_unsigned ts ≡ true
  unfolding same_keyword
  word_more u.Plain ts w o = absurd w
  word_more u.LongLong ts w o = opened more_unsigned (token.Keyword k.Long, false) ((token.Keyword k.Long, false) ∷ []) ts o true (λ rest. refl)
  word_more u.Char ts w o = opened more_unsigned (token.Keyword k.Char, false) [] ts o true (λ rest. refl)
  word_more u.Short ts w o = opened more_unsigned (token.Keyword k.Short, false) [] ts o true (λ rest. refl)
  word_more u.Int ts w o = opened more_unsigned (token.Keyword k.Int, false) [] ts o true (λ rest. refl)

  abbrev unsigned_stops : UnsignedType → List Token → Type 0
  unsigned_stops u.Plain rest = more_unsigned rest ≡ false
  unsigned_stops _ rest = Unit {0}

  abbrev unsigned_kind : Kind UnsignedType
  unsigned_kind = record { well = λ w. Unit {0}; cells = λ w. unsigned_cells w (suc n); stops = unsigned_stops }

  unsigned_exact : (ts : List Token) → Exact unsigned_kind ts (unsigned_rest ts)
  unfolding unsigned_rest
  unsigned_exact ts = narrow (option_kind more_unsigned word_kind) unsigned_kind plain_if_none ts (λ o w. tt) spelled ends ended (λ w v o. back w) _ (option_exact more_unsigned word_kind word_more ts unsigned_word (λ e. word_exact ts))
    where
      spelled : (o : Option UnsignedType) → option_well word_kind o → unsigned_cells (plain_if_none o) (suc n) ≡ option_cells word_kind o
      spelled None w = refl
      spelled (Some a) w = refl

      ends : (o : Option UnsignedType) (rest : List Token) → option_well word_kind o → option_stops more_unsigned word_kind o rest → unsigned_stops (plain_if_none o) rest
      ends None rest w h = h
      ends (Some u.Plain) rest w h = absurd w
      ends (Some u.Char) rest w h = tt
      ends (Some u.Short) rest w h = tt
      ends (Some u.Int) rest w h = tt
      ends (Some u.LongLong) rest w h = tt

      ended : (o : Option UnsignedType) (rest : List Token) → option_well word_kind o → unsigned_stops (plain_if_none o) rest → option_stops more_unsigned word_kind o rest
      ended None rest w h = h
      ended (Some a) rest w h = tt

      back : (w : UnsignedType) → (o : Option UnsignedType) × (plain_if_none o ≡ w) × option_well word_kind o
      back u.Plain = (None, refl, tt)
      back u.Char = (Some u.Char, refl, tt)
      back u.Short = (Some u.Short, refl, tt)
      back u.Int = (Some u.Int, refl, tt)
      back u.LongLong = (Some u.LongLong, refl, tt)

-- ---- types without stars

abbrev pub base_lead : BaseType → Token
base_lead base.Void = token.Keyword k.Void
base_lead base.Char = token.Keyword k.Char
base_lead base.Short = token.Keyword k.Short
base_lead base.Int = token.Keyword k.Int
base_lead base.LongLong = token.Keyword k.Long
base_lead (base.Unsigned w) = token.Keyword k.Unsigned
base_lead (base.Tagged t x) = token.Keyword (tag_keyword t)

pub base_leads : (b : BaseType) (room : ℕ) → Leads (base_lead b) (none room) (base_cells b room)
base_leads base.Void room = (refl, refl)
base_leads base.Char room = (refl, refl)
base_leads base.Short room = (refl, refl)
base_leads base.Int room = (refl, refl)
base_leads base.LongLong room = (refl, refl)
base_leads (base.Unsigned w) room = (refl, refl)
base_leads (base.Tagged t x) room = (refl, refl)

abbrev sort_by : Bool → Bool → Bool → ℕ
sort_by a b c = cond a 0 (cond b 1 (cond c 2 3))

abbrev first_sort : List Token → ℕ
first_sort ts = sort_by (sees_keyword k.Long ts) (sees_keyword k.Unsigned ts) (sees_one pick_tag ts)

abbrev base_sort : BaseType → ℕ
base_sort base.LongLong = 0
base_sort (base.Unsigned w) = 1
base_sort (base.Tagged t x) = 2
base_sort _ = 3

base_sorted : (b : BaseType) (rest : List Token) → first_sort (base_lead b ∷ rest) ≡ base_sort b
unfolding same_keyword
base_sorted base.Void rest = refl
base_sorted base.Char rest = refl
base_sorted base.Short rest = refl
base_sorted base.Int rest = refl
base_sorted base.LongLong rest = refl
base_sorted (base.Unsigned w) rest = refl
base_sorted (base.Tagged tag.Struct x) rest = refl
base_sorted (base.Tagged tag.Union x) rest = refl

abbrev pub IsSingle : BaseType → Type 0
IsSingle base.Void = Unit {0}
IsSingle base.Char = Unit {0}
IsSingle base.Short = Unit {0}
IsSingle base.Int = Unit {0}
IsSingle _ = ⊥

pub tag_from : (t : Token) (a : TagKind) → pick_tag t ≡ Some a → Unit {0} × (t ≡ token.Keyword (tag_keyword a))
tag_from (token.Keyword x) a e = at x a e
  where
    at : (x : Keyword) (a : TagKind) → pick_tag (token.Keyword x) ≡ Some a → Unit {0} × (token.Keyword x ≡ token.Keyword (tag_keyword a))
    at k.Struct a e = let is : tag.Struct ≡ a = cc in subst (λ a. Unit {0} × (token.Keyword k.Struct ≡ token.Keyword (tag_keyword a))) is (tt, refl)
    at k.Union a e = let is : tag.Union ≡ a = cc in subst (λ a. Unit {0} × (token.Keyword k.Union ≡ token.Keyword (tag_keyword a))) is (tt, refl)
    at _ a e = cc
tag_from (token.Identifier x) a e = cc
tag_from (token.Mark x) a e = cc
tag_from (token.Reserved x) a e = cc
tag_from (token.Number x) a e = cc
tag_from (token.Character x) a e = cc
tag_from (token.Text x) a e = cc

tag_picked : (a : TagKind) → pick_tag (token.Keyword (tag_keyword a)) ≡ Some a
tag_picked tag.Struct = refl
tag_picked tag.Union = refl

abbrev pub tag_kind : Kind TagKind
tag_kind = one_kind (λ a. Unit {0}) (λ a. token.Keyword (tag_keyword a))

pub tag_exact : (ts : List Token) → Exact tag_kind ts (one pick_tag ts)
tag_exact ts = one_exact (λ a. Unit {0}) (λ a. token.Keyword (tag_keyword a)) pick_tag (λ a w. tag_picked a) tag_from ts

base_at : (x : Keyword) (a : BaseType) → pick_base (token.Keyword x) ≡ Some a → IsSingle a × (token.Keyword x ≡ base_lead a)
base_at k.Void a e = let is : base.Void ≡ a = cc in subst (λ a. IsSingle a × (token.Keyword k.Void ≡ base_lead a)) is (tt, refl)
base_at k.Char a e = let is : base.Char ≡ a = cc in subst (λ a. IsSingle a × (token.Keyword k.Char ≡ base_lead a)) is (tt, refl)
base_at k.Short a e = let is : base.Short ≡ a = cc in subst (λ a. IsSingle a × (token.Keyword k.Short ≡ base_lead a)) is (tt, refl)
base_at k.Int a e = let is : base.Int ≡ a = cc in subst (λ a. IsSingle a × (token.Keyword k.Int ≡ base_lead a)) is (tt, refl)
base_at _ a e = cc

pub base_from : (t : Token) (a : BaseType) → pick_base t ≡ Some a → IsSingle a × (t ≡ base_lead a)
base_from (token.Keyword x) a e = base_at x a e
base_from (token.Identifier x) a e = cc
base_from (token.Mark x) a e = cc
base_from (token.Reserved x) a e = cc
base_from (token.Number x) a e = cc
base_from (token.Character x) a e = cc
base_from (token.Text x) a e = cc

single_exact : (ts : List Token) → Exact (one_kind IsSingle base_lead) ts (one pick_base ts)
single_exact ts = one_exact IsSingle base_lead pick_base picked base_from ts
  where
    picked : (b : BaseType) → IsSingle b → pick_base (base_lead b) ≡ Some b
    picked base.Void w = refl
    picked base.Char w = refl
    picked base.Short w = refl
    picked base.Int w = refl
    picked base.LongLong w = absurd w
    picked (base.Unsigned a) w = absurd w
    picked (base.Tagged t x) w = absurd w

-- a plain `unsigned` goes on as far as it can
abbrev pub base_stops : BaseType → List Token → Type 0
base_stops (base.Unsigned u.Plain) rest = more_unsigned rest ≡ false
base_stops _ rest = Unit {0}

module _ (n : ℕ) where
  abbrev pub base_kind : Kind BaseType
  base_kind = record { well = λ b. Unit {0}; cells = λ b. base_cells b (suc n); stops = base_stops }

  pub base_opens : {A : Type 0} (f : List Token → A) (v : A) (b : BaseType) (ts : List Token) → Opens (base_cells b (suc n)) ts → ((rest : List Token) → f (base_lead b ∷ rest) ≡ v) → f ts ≡ v
  base_opens f v b ts o h = at_head f (base_lead b) ts (leads_opens (base_lead b) false (base_cells b (suc n)) ts (base_leads b (suc n)) o) v h

  pub base_exact : (ts : List Token) → Exact base_kind ts (base_type ts)
  unfolding base_type unsigned_type tagged
  base_exact ts = go (sees_keyword k.Long ts) (sees_keyword k.Unsigned ts) (sees_one pick_tag ts) refl
    where
      sort : (b : BaseType) (i : ℕ) → first_sort ts ≡ i → Opens (base_cells b (suc n)) ts → base_sort b ≡ i
      sort b i e o = sym (base_opens first_sort (base_sort b) b ts o (base_sorted b)) ∙ e

      longs : (b : BaseType) → base_sort b ≡ 0 → base.LongLong ≡ b
      longs base.LongLong e = refl
      longs _ e = absurd (omega arith)

      unsigneds : (b : BaseType) → base_sort b ≡ 1 → (p : Unit {0} × UnsignedType) × (base.Unsigned p.1 ≡ b) × (Unit {0} × Unit {0})
      unsigneds (base.Unsigned w) e = ((tt, w), refl, (tt, tt))
      unsigneds _ e = absurd (omega arith)

      tags : (b : BaseType) → base_sort b ≡ 2 → (p : TagKind × Text) × (base.Tagged p.0 p.1 ≡ b) × (Unit {0} × Unit {0})
      tags (base.Tagged t x) e = ((t, x), refl, (tt, tt))
      tags _ e = absurd (omega arith)

      singles : (b : BaseType) → base_sort b ≡ 3 → IsSingle b
      singles base.Void e = tt
      singles base.Char e = tt
      singles base.Short e = tt
      singles base.Int e = tt
      singles base.LongLong e = absurd (omega arith)
      singles (base.Unsigned w) e = absurd (omega arith)
      singles (base.Tagged t x) e = absurd (omega arith)

      single_cells : (b : BaseType) → IsSingle b → base_cells b (suc n) ≡ (base_lead b, false) ∷ []
      single_cells base.Void w = refl
      single_cells base.Char w = refl
      single_cells base.Short w = refl
      single_cells base.Int w = refl
      single_cells base.LongLong w = absurd w
      single_cells (base.Unsigned a) w = absurd w
      single_cells (base.Tagged t x) w = absurd w

      single_ends : (b : BaseType) (rest : List Token) → IsSingle b → base_stops b rest
      single_ends base.Void rest w = tt
      single_ends base.Char rest w = tt
      single_ends base.Short rest w = tt
      single_ends base.Int rest w = tt
      single_ends base.LongLong rest w = absurd w
      single_ends (base.Unsigned a) rest w = absurd w
      single_ends (base.Tagged t x) rest w = absurd w

      unsigned_ends : (w : UnsignedType) (rest : List Token) → unsigned_stops n w rest → base_stops (base.Unsigned w) rest
      unsigned_ends u.Plain rest h = h
      unsigned_ends u.Char rest h = tt
      unsigned_ends u.Short rest h = tt
      unsigned_ends u.Int rest h = tt
      unsigned_ends u.LongLong rest h = tt

      unsigned_ended : (w : UnsignedType) (rest : List Token) → base_stops (base.Unsigned w) rest → unsigned_stops n w rest
      unsigned_ended u.Plain rest h = h
      unsigned_ended u.Char rest h = tt
      unsigned_ended u.Short rest h = tt
      unsigned_ended u.Int rest h = tt
      unsigned_ended u.LongLong rest h = tt

      is_long : first_sort ts ≡ 0 → Exact base_kind ts (made (λ p. base.LongLong) (long_long ts))
      is_long e = narrow long_kind base_kind (λ p. base.LongLong) ts (λ p w. tt) (λ p w. refl) (λ p rest w s. tt) (λ p rest w s. tt) (λ b v o. ((tt, tt), longs b (sort b 0 e o), (tt, tt))) _ (long_exact ts)

      is_unsigned : first_sort ts ≡ 1 → Exact base_kind ts (unsigned_type ts)
      is_unsigned e =
          narrow (both (keyword_kind k.Unsigned) (unsigned_kind n)) base_kind (λ p. base.Unsigned p.1) ts (λ p w. tt) (λ p w. refl) (λ p rest w s. unsigned_ends p.1 rest s) (λ p rest w s. unsigned_ended p.1 rest s) (λ b v o. unsigneds b (sort b 1 e o)) _
          (seq (keyword_kind k.Unsigned) (unsigned_kind n) (λ t u ts w v o. tt) (u.Plain, tt) ts _ _ (expect_keyword_exact k.Unsigned ts) (λ t rest r s. unsigned_exact n rest))

      is_tagged : first_sort ts ≡ 2 → Exact base_kind ts (tagged ts)
      is_tagged e =
          narrow (both tag_kind name_kind) base_kind (λ p. base.Tagged p.0 p.1) ts (λ p w. tt) (λ p w. refl) (λ p rest w s. tt) (λ p rest w s. tt) (λ b v o. tags b (sort b 2 e o)) _
          (seq tag_kind name_kind (λ t u ts w v o. tt) ([], tt) ts _ _ (tag_exact ts) (λ t rest r s. name_exact rest))

      is_single : first_sort ts ≡ 3 → Exact base_kind ts (one pick_base ts)
      is_single e = widen (one_kind IsSingle base_lead) base_kind ts (λ b w. tt) single_cells (λ b rest w s. single_ends b rest w) (λ b rest w s. tt) (λ b v o. singles b (sort b 3 e o)) _ (single_exact ts)

      go : (a b c : Bool) → first_sort ts ≡ sort_by a b c → Exact base_kind ts (cond a (made (λ p. base.LongLong) (long_long ts)) (cond b (unsigned_type ts) (cond c (tagged ts) (one pick_base ts))))
      go true b c e = is_long e
      go false true c e = is_unsigned e
      go false false true e = is_tagged e
      go false false false e = is_single e

-- ---- stars

abbrev no_star : List Token → Type 0
no_star rest = sees m.Star rest ≡ false

abbrev star_kind : Bool → Kind (Unit {0})
star_kind hot = record { well = λ s. Unit {0}; cells = λ s. (token.Mark m.Star, hot) ∷ []; stops = λ s rest. Unit {0} }

star_opens : (s : Unit {0}) (hot : Bool) (ts : List Token) → Unit {0} → Opens ((token.Mark m.Star, hot) ∷ []) ts → sees m.Star ts ≡ true
unfolding same_mark
star_opens s hot ts w o = opened (sees m.Star) (token.Mark m.Star, hot) [] ts o true (λ rest. refl)

star_over : (ts : List Token) → sees m.Star ts ≡ true → IsHot (star_kind true) ts
star_over ts e = (tt, tt, go ts (sees_heads m.Star ts e))
  where
    go : (ts : List Token) → Heads (token.Mark m.Star) ts → Rattle.c_ast.specs.Cells.PassesLimit ((token.Mark m.Star, true) ∷ []) ts
    go [] h = h
    go (t ∷ ts) h = (h, inl refl)

many_stars_exact : (limit : ℕ) (ts : List Token) → Exact (many_kind star_kind no_star limit) ts (many (sees m.Star) (expect m.Star) limit ts)
many_stars_exact limit ts =
    many_exact star_kind (sees m.Star) (expect m.Star) no_star (λ ts. Unit {0}) (λ n ts. Unit {0})
    (λ s w. w) star_opens (λ s v hot ts w y o. tt) (λ s ts w h. tt) (λ s ts h. tt) (λ ts b e. e) (λ ts h. h)
    (λ ts b e. star_over ts e) (λ s ts b e w c. let h = c.0 in cc) (λ n s ts rest b w e. tt) (λ n ts b e. expect_exact m.Star ts) limit ts tt tt

more_stars : (b : ℕ) (ss : List (Unit {0})) → folded one_more (suc b) ss ≡ suc (folded one_more b ss)
more_stars b [] = refl
more_stars b (s ∷ ss) = more_stars (suc b) ss

so_many : ℕ → List (Unit {0})
so_many zero = []
so_many (suc n) = tt ∷ so_many n

module _ (n : ℕ) where
  abbrev pub stars_kind : Kind ℕ
  stars_kind = record { well = λ c. Unit {0}; cells = λ c. star_cells c star_limit (suc n); stops = λ c rest. sees m.Star rest ≡ false }

  stars_row : (left : ℕ) (ss : List (Unit {0})) → star_cells (folded one_more 0 ss) left (suc n) ≡ row star_kind no_star left ss
  stars_row left [] = refl
  stars_row left (s ∷ ss) = ap (λ c. star_cells c left (suc n)) (more_stars 0 ss) ∙ linked left ∙ ap (λ c. (token.Mark m.Star, none left) ∷ c) (stars_row (less left) ss)
    where
      linked : (left : ℕ) → (link m.Star left (suc n) ∷ star_cells (folded one_more 0 ss) (less left) (suc n)) ≡ (token.Mark m.Star, none left) ∷ star_cells (folded one_more 0 ss) (less left) (suc n)
      linked zero = refl
      linked (suc left) = refl

  counted : (c : ℕ) → folded one_more 0 (so_many c) ≡ c
  unfolding so_many
  counted zero = refl
  counted (suc c) = more_stars 0 (so_many c) ∙ ap suc (counted c)

  all_stars : (c : ℕ) → all_well star_kind no_star (so_many c)
  unfolding so_many
  all_stars zero = tt
  all_stars (suc c) = (tt, all_stars c)

  pub stars_exact : (ts : List Token) → Exact stars_kind ts (stars ts)
  unfolding stars
  stars_exact ts =
      subst (Exact stars_kind ts) (sym (climb_is_many one_more (sees m.Star) (expect m.Star) star_limit 0 ts))
      (narrow (many_kind star_kind no_star star_limit) stars_kind (folded one_more 0) ts (λ ss w. tt) (λ ss w. stars_row star_limit ss) (λ ss rest w h. h) (λ ss rest w h. h) (λ c w o. (so_many c, counted c, all_stars c)) _
      (many_stars_exact star_limit ts))

  -- ---- types

  abbrev pub type_stops : TypeName → List Token → Type 0
  type_stops t rest = (star_cells t.stars star_limit (suc n) ≡ [] → base_stops t.base rest) × (sees m.Star rest ≡ false)

  abbrev pub type_kind : Kind TypeName
  type_kind = record { well = λ t. Unit {0}; cells = λ t. type_cells t (suc n); stops = type_stops }

  star_ends : (b : BaseType) (ts : List Token) → sees m.Star ts ≡ true → base_stops b ts
  unfolding same_mark same_keyword
  star_ends (base.Unsigned u.Plain) ts e = at_head more_unsigned (token.Mark m.Star) ts (sees_heads m.Star ts e) false (λ rest. refl)
  star_ends (base.Unsigned u.Char) ts e = tt
  star_ends (base.Unsigned u.Short) ts e = tt
  star_ends (base.Unsigned u.Int) ts e = tt
  star_ends (base.Unsigned u.LongLong) ts e = tt
  star_ends base.Void ts e = tt
  star_ends base.Char ts e = tt
  star_ends base.Short ts e = tt
  star_ends base.Int ts e = tt
  star_ends base.LongLong ts e = tt
  star_ends (base.Tagged t x) ts e = tt

  pub type_exact : (ts : List Token) → Exact type_kind ts (type_name ts)
  unfolding type_name same_mark
  type_exact ts =
      narrow (both_keep (base_kind n) (λ b. stars_kind)) type_kind type_of ts (λ p w. tt) (λ p w. refl) (λ p rest w h. h) (λ p rest w h. h) (λ t w o. ((t.base, t.stars), refl, (tt, tt))) _
      (seq_keep (base_kind n) (λ b. stars_kind) glue (λ b w. (0, tt)) ts _ _ (base_exact n ts) (λ b rest r s. stars_exact rest))
    where
      starred : (c : ℕ) (x : Cell) (cs : List Cell) → star_cells c star_limit (suc n) ≡ x ∷ cs → x.0 ≡ token.Mark m.Star
      starred zero x cs e = cc
      starred (suc c) x cs e = let h : link m.Star star_limit (suc n) ≡ x = cc in sym (ap (λ c. c.0) h)

      glue : (b : BaseType) (c : ℕ) (x : Cell) (cs : List Cell) (ts : List Token) → Unit {0} → Unit {0} → star_cells c star_limit (suc n) ≡ x ∷ cs → Heads x.0 ts → base_stops b ts
      glue b c x cs ts w v e h = star_ends b ts (at_head (sees m.Star) (token.Mark m.Star) ts (subst (λ t. Heads t ts) (starred c x cs e) h) true (λ rest. refl))

  -- a token that ends each type before it
  pub type_ends : (t : TypeName) (ts : List Token) → sees m.Star ts ≡ false → more_unsigned ts ≡ false → type_stops t ts
  type_ends t ts e f = (λ h. go t.base, e)
    where
      go : (b : BaseType) → base_stops b ts
      go (base.Unsigned u.Plain) = f
      go (base.Unsigned u.Char) = tt
      go (base.Unsigned u.Short) = tt
      go (base.Unsigned u.Int) = tt
      go (base.Unsigned u.LongLong) = tt
      go base.Void = tt
      go base.Char = tt
      go base.Short = tt
      go base.Int = tt
      go base.LongLong = tt
      go (base.Tagged t x) = tt

  pub type_opens : {A : Type 0} (f : List Token → A) (v : A) (t : TypeName) (more : List Cell) (ts : List Token) → Opens (type_cells t (suc n) ++ more) ts → ((rest : List Token) → f (base_lead t.base ∷ rest) ≡ v) → f ts ≡ v
  type_opens f v t more ts o h =
      at_head f (base_lead t.base) ts
      (leads_opens (base_lead t.base) false (type_cells t (suc n) ++ more) ts (leads_left (base_lead t.base) false (type_cells t (suc n)) more (leads_left (base_lead t.base) false (base_cells t.base (suc n)) (star_cells t.stars star_limit (suc n)) (base_leads t.base (suc n)))) o) v h

pub base_begins : (b : BaseType) (rest : List Token) → begins_type (base_lead b ∷ rest) ≡ true
unfolding same_keyword
base_begins base.Void rest = refl
base_begins base.Char rest = refl
base_begins base.Short rest = refl
base_begins base.Int rest = refl
base_begins base.LongLong rest = refl
base_begins (base.Unsigned w) rest = refl
base_begins (base.Tagged tag.Struct x) rest = refl
base_begins (base.Tagged tag.Union x) rest = refl
