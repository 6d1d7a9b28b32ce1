-- When reading is exact for a kind of trees, and that it is so for what readers are put together of.
use Rattle.std.proofs.Common.{◌≡◌, ◌∙◌, refl, sym, ap, subst, Bool, true, false, ◌⊎◌, inl, inr, List, [], ◌∷◌, ◌++◌, append_assoc, Option, Some, None, Ok, Err, cond}
use Rattle.c_ast.specs.declared.token.Token.{Token}
use Rattle.c_ast.specs.declared.fault.Fault.TheVariants.{Syntax, TooDeep}
use Rattle.c_ast.specs.Cells.{Cell, tokens, PassesLimit, KeepsLimits}
use Rattle.c_parse_expr.specs.Reads.{Reads, Reader, ◌>>=◌, made, pair_of, one, one_of, at_limit, limit_fault, optional, unless, choose, build, give}

-- a kind of trees: which there are, how each is spelled, and before what a reader of it stops
pub record Kind (T : Type 0) : Type 1 where
  pub well : T → Type 0
  pub cells : T → List Cell
  pub stops : T → List Token → Type 0

module _ {T : Type 0} (X : Kind T) (ts : List Token) where
  -- a tree passes a limit within what the text has of it
  abbrev pub IsHot : Type 0
  IsHot = (t : T) × X.well t × PassesLimit (X.cells t) ts

  abbrev pub Sound : Reads T → Type 0
  Sound (Ok p) = X.well p.0 × (ts ≡ tokens (X.cells p.0) ++ p.1) × X.stops p.0 p.1 × (IsHot → ⊥)
  Sound (Err Syntax) = IsHot → ⊥
  Sound (Err TooDeep) = IsHot

  pub record Exact (r : Reads T) : Type 0 where
    pub only : (t : T) (rest : List Token) → X.well t → ts ≡ tokens (X.cells t) ++ rest → X.stops t rest → KeepsLimits (X.cells t) → r ≡ Ok (t, rest)
    pub sound : Sound r

-- the text begins as the spelling does, up to a limit or to the spelling's end
abbrev pub Opens : List Cell → List Token → Type 0
Opens [] ts = Unit {0}
Opens (c ∷ cs) [] = ⊥
Opens (c ∷ cs) (t ∷ ts) = (c.0 ≡ t) × ((c.1 ≡ true) ⊎ Opens cs ts)

-- the first token
abbrev pub Heads : Token → List Token → Type 0
Heads x [] = ⊥
Heads x (t ∷ ts) = x ≡ t

-- a spelling's first token, and whether a limit is passed at it
abbrev pub Leads : Token → Bool → List Cell → Type 0
Leads x b [] = ⊥
Leads x b (c ∷ cs) = (c.0 ≡ x) × (c.1 ≡ b)

-- ---- spellings

pub tokens_append : (a b : List Cell) → tokens (a ++ b) ≡ tokens a ++ tokens b
tokens_append [] b = refl
tokens_append (c ∷ a) b = ap (λ ts. c.0 ∷ ts) (tokens_append a b)

pub hot_left : (a b : List Cell) (ts : List Token) → PassesLimit a ts → PassesLimit (a ++ b) ts
hot_left [] b ts h = absurd h
hot_left (c ∷ a) b [] h = absurd h
hot_left (c ∷ a) b (t ∷ ts) h = (h.0, elim h.1 [ inl e ↦ inl e | inr k ↦ inr (hot_left a b ts k) ])

pub hot_right : (a b : List Cell) (ts : List Token) → PassesLimit b ts → PassesLimit (a ++ b) (tokens a ++ ts)
hot_right [] b ts h = h
hot_right (c ∷ a) b ts h = (refl, inr (hot_right a b ts h))

abbrev pub After : List Cell → List Cell → List Token → Type 0
After a b ts = (rest : List Token) × (ts ≡ tokens a ++ rest) × PassesLimit b rest

pub hot_append : (a b : List Cell) (ts : List Token) → PassesLimit (a ++ b) ts → PassesLimit a ts ⊎ After a b ts
hot_append [] b ts h = inr (ts, refl, h)
hot_append (c ∷ a) b [] h = absurd h
hot_append (c ∷ a) b (t ∷ ts) h = go (hot_append a b ts) h.1
  where
    go : (PassesLimit (a ++ b) ts → PassesLimit a ts ⊎ After a b ts) → (c.1 ≡ true) ⊎ PassesLimit (a ++ b) ts → PassesLimit (c ∷ a) (t ∷ ts) ⊎ After (c ∷ a) b (t ∷ ts)
    go ih (inl e) = inl (h.0, inl e)
    go ih (inr k) = elim (ih k) [ inl x ↦ inl (h.0, inr x) | inr y ↦ inr (y.0, (λ i. (sym h.0 i) ∷ (y.1 i)), y.2) ]

pub cold_append : (a b : List Cell) → KeepsLimits (a ++ b) → KeepsLimits a × KeepsLimits b
cold_append [] b h = (tt, h)
cold_append (c ∷ a) b h = ((h.0, (cold_append a b h.1).0), (cold_append a b h.1).1)

pub cold_or_hot : (a : List Cell) (rest : List Token) → KeepsLimits a ⊎ PassesLimit a (tokens a ++ rest)
cold_or_hot [] rest = inl tt
cold_or_hot (c ∷ a) rest = go (cold_or_hot a rest) c.1 refl
  where
    go : KeepsLimits a ⊎ PassesLimit a (tokens a ++ rest) → (b : Bool) → c.1 ≡ b → KeepsLimits (c ∷ a) ⊎ PassesLimit (c ∷ a) (tokens (c ∷ a) ++ rest)
    go ih true e = inr (refl, inl e)
    go ih false e = elim ih [ inl x ↦ inl (e, x) | inr y ↦ inr (refl, inr y) ]

pub cold_not_hot : (cs : List Cell) (ts : List Token) → KeepsLimits cs → PassesLimit cs ts → ⊥
cold_not_hot [] ts c h = h
cold_not_hot (x ∷ cs) [] c h = h
cold_not_hot (x ∷ cs) (t ∷ ts) c h = elim h.1 [ inl e ↦ (let d = c.0 in cc) | inr g ↦ cold_not_hot cs ts c.1 g ]

pub opens_left : (a b : List Cell) (ts : List Token) → Opens (a ++ b) ts → Opens a ts
opens_left [] b ts h = tt
opens_left (c ∷ a) b [] h = h
opens_left (c ∷ a) b (t ∷ ts) h = (h.0, elim h.1 [ inl e ↦ inl e | inr k ↦ inr (opens_left a b ts k) ])

pub opens_all : (a : List Cell) (rest : List Token) → Opens a (tokens a ++ rest)
opens_all [] rest = tt
opens_all (c ∷ a) rest = (refl, inr (opens_all a rest))

pub opens_hot : (a : List Cell) (ts : List Token) → PassesLimit a ts → Opens a ts
opens_hot [] ts h = tt
opens_hot (c ∷ a) [] h = h
opens_hot (c ∷ a) (t ∷ ts) h = (h.0, elim h.1 [ inl e ↦ inl e | inr k ↦ inr (opens_hot a ts k) ])

pub opens_spelled : (a : List Cell) (ts rest : List Token) → ts ≡ tokens a ++ rest → Opens a ts
opens_spelled a ts rest e = subst (Opens a) (sym e) (opens_all a rest)

pub leads_left : (x : Token) (b : Bool) (a more : List Cell) → Leads x b a → Leads x b (a ++ more)
leads_left x b [] more h = absurd h
leads_left x b (c ∷ a) more h = h

pub leads_opens : (x : Token) (b : Bool) (a : List Cell) (ts : List Token) → Leads x b a → Opens a ts → Heads x ts
leads_opens x b [] ts l h = absurd l
leads_opens x b (c ∷ a) [] l h = h
leads_opens x b (c ∷ a) (t ∷ ts) l h = sym l.0 ∙ h.0

pub leads_hot : (x : Token) (a : List Cell) (ts : List Token) → Leads x true a → Heads x ts → PassesLimit a ts
leads_hot x [] ts l h = absurd l
leads_hot x (c ∷ a) [] l h = h
leads_hot x (c ∷ a) (t ∷ ts) l h = (l.0 ∙ h, inl l.1)

pub leads_some : (x : Token) (b : Bool) (a : List Cell) → Leads x b a → Opens a [] → ⊥
leads_some x b [] l h = l
leads_some x b (c ∷ a) l h = h

pub opens_heads : (c : Cell) (cs : List Cell) (ts : List Token) → Opens (c ∷ cs) ts → Heads c.0 ts
opens_heads c cs [] h = h
opens_heads c cs (t ∷ ts) h = h.0

pub split_at : (a b : List Cell) (ts rest : List Token) → ts ≡ tokens (a ++ b) ++ rest → ts ≡ tokens a ++ (tokens b ++ rest)
split_at a b ts rest e = e ∙ ap (λ x. x ++ rest) (tokens_append a b) ∙ append_assoc (tokens a) (tokens b) rest

pub join_at : (a b : List Cell) (ts mid rest : List Token) → ts ≡ tokens a ++ mid → mid ≡ tokens b ++ rest → ts ≡ tokens (a ++ b) ++ rest
join_at a b ts mid rest e f = e ∙ ap (λ x. tokens a ++ x) f ∙ sym (append_assoc (tokens a) (tokens b) rest) ∙ ap (λ x. x ++ rest) (sym (tokens_append a b))

-- ---- two in a row, of which the second may depend on the first

abbrev pub both_with : {T U : Type 0} → Kind T → (T → Kind U) → (T × U → List Token → Type 0) → Kind (T × U)
both_with X Y P = record {
  well = λ p. X.well p.0 × (Y p.0).well p.1;
  cells = λ p. X.cells p.0 ++ (Y p.0).cells p.1;
  stops = P;
}

module _ {T U : Type 0} (X : Kind T) (Y : T → Kind U) (P : T × U → List Token → Type 0)
    (met : (t : T) (u : U) (rest : List Token) → X.well t → (Y t).well u → P (t, u) rest → X.stops t (tokens ((Y t).cells u) ++ rest))
    (met_hot : (t : T) (u : U) (ts : List Token) → X.well t → (Y t).well u → PassesLimit ((Y t).cells u) ts → X.stops t ts)
    (ended : (t : T) (u : U) (rest : List Token) → P (t, u) rest → (Y t).stops u rest)
    (ends : (t : T) (u : U) (rest : List Token) → X.stops t (tokens ((Y t).cells u) ++ rest) → (Y t).stops u rest → P (t, u) rest)
    (filler : (t : T) → X.well t → (u : U) × (Y t).well u) (ts : List Token) where
  abbrev Z : Kind (T × U)
  Z = both_with X Y P

  pub two_exact : (r : Reads T) (f : T × List Token → Reads U) → Exact X ts r → ((t : T) (rest : List Token) → r ≡ Ok (t, rest) → X.stops t rest → Exact (Y t) rest (f (t, rest))) → Exact Z ts (pair_of r f)
  two_exact (Err Syntax) f x y = record {
    only = λ p rest w e s c. absurd (
        let first : Err Syntax ≡ Ok (p.0, tokens ((Y p.0).cells p.1) ++ rest) =
        x.only p.0 _ w.0 (split_at (X.cells p.0) ((Y p.0).cells p.1) ts rest e) (met p.0 p.1 rest w.0 w.1 s) (cold_append (X.cells p.0) ((Y p.0).cells p.1) c).0 in
        cc);
    sound = λ h. elim (hot_append (X.cells h.0.0) ((Y h.0.0).cells h.0.1) ts h.2) [
      | inl k ↦ x.sound (h.0.0, h.1.0, k)
      | inr k ↦ elim (cold_or_hot (X.cells h.0.0) k.0) [
        | inl c ↦ absurd (
            let first : Err Syntax ≡ Ok (h.0.0, k.0) = x.only h.0.0 k.0 h.1.0 k.1 (met_hot h.0.0 h.0.1 k.0 h.1.0 h.1.1 k.2) c in
            cc)
        | inr m ↦ x.sound (h.0.0, h.1.0, subst (PassesLimit (X.cells h.0.0)) (sym k.1) m)
      ]
    ];
  }
  two_exact (Err TooDeep) f x y = record {
    only = λ p rest w e s c. absurd (
        let first : Err TooDeep ≡ Ok (p.0, tokens ((Y p.0).cells p.1) ++ rest) =
        x.only p.0 _ w.0 (split_at (X.cells p.0) ((Y p.0).cells p.1) ts rest e) (met p.0 p.1 rest w.0 w.1 s) (cold_append (X.cells p.0) ((Y p.0).cells p.1) c).0 in
        cc);
    sound =
        let u = filler x.sound.0 x.sound.1 in
        ((x.sound.0, u.0), (x.sound.1, u.1), hot_left (X.cells x.sound.0) ((Y x.sound.0).cells u.0) ts x.sound.2);
  }
  two_exact (Ok v) f x y = second (f v) (y v.0 v.1 refl x.sound.2)
    where
      -- a first tree before a second one is the one that was read
      same : (t : T) (rest : List Token) → X.well t → ts ≡ tokens (X.cells t) ++ rest → X.stops t rest → (v.0 ≡ t) × (v.1 ≡ rest)
      same t rest w e s =
          elim (cold_or_hot (X.cells t) rest) [
            | inl c ↦ (let first : Ok v ≡ Ok (t, rest) = x.only t rest w e s c in let whole : v ≡ (t, rest) = cc in (ap (λ p. p.0) whole, ap (λ p. p.1) whole))
            | inr h ↦ absurd (x.sound.3 (t, w, subst (PassesLimit (X.cells t)) (sym e) h))
          ]

      second : (q : Reads U) → Exact (Y v.0) v.1 q → Exact Z ts (q >>= (λ q. Ok ((v.0, q.0), q.1)))
      second q z = record {
        only = λ p rest w e s c.
            let apart = split_at (X.cells p.0) ((Y p.0).cells p.1) ts rest e in
            let both_same = same p.0 _ w.0 apart (met p.0 p.1 rest w.0 w.1 s) in
            let at = sym both_same.0 in
            let next : q ≡ Ok (p.1, rest) =
            z.only p.1 rest (subst (λ t. (Y t).well p.1) at w.1) (both_same.1 ∙ ap (λ t. tokens ((Y t).cells p.1) ++ rest) at) (subst (λ t. (Y t).stops p.1 rest) at (ended p.0 p.1 rest s)) (subst (λ t. KeepsLimits ((Y t).cells p.1)) at (cold_append (X.cells p.0) ((Y p.0).cells p.1) c).1) in
            ap (λ r. r >>= (λ q. Ok ((v.0, q.0), q.1))) next ∙ ap (λ t. Ok ((t, p.1), rest)) both_same.0;
        sound = sounds q z;
      }
        where
          cool : ((IsHot (Y v.0) v.1) → ⊥) → IsHot Z ts → ⊥
          cool n h =
              elim (hot_append (X.cells h.0.0) ((Y h.0.0).cells h.0.1) ts h.2) [
                | inl k ↦ x.sound.3 (h.0.0, h.1.0, k)
                | inr k ↦ (let s = same h.0.0 k.0 h.1.0 k.1 (met_hot h.0.0 h.0.1 k.0 h.1.0 h.1.1 k.2) in n (h.0.1, subst (λ t. (Y t).well h.0.1) (sym s.0) h.1.1, subst (λ t. PassesLimit ((Y t).cells h.0.1) v.1) (sym s.0) (subst (PassesLimit ((Y h.0.0).cells h.0.1)) (sym s.1) k.2)))
              ]

          sounds : (q : Reads U) → Exact (Y v.0) v.1 q → Sound Z ts (q >>= (λ q. Ok ((v.0, q.0), q.1)))
          sounds (Ok u) z = ((x.sound.0, z.sound.0), join_at (X.cells v.0) ((Y v.0).cells u.0) ts v.1 u.1 x.sound.1 z.sound.1, ends v.0 u.0 u.1 (subst (X.stops v.0) z.sound.1 x.sound.2) z.sound.2, cool z.sound.3)
          sounds (Err Syntax) z = cool z.sound
          sounds (Err TooDeep) z =
              ((v.0, z.sound.0), (x.sound.0, z.sound.1), subst (PassesLimit (X.cells v.0 ++ (Y v.0).cells z.sound.0)) (sym x.sound.1) (hot_right (X.cells v.0) ((Y v.0).cells z.sound.0) v.1 z.sound.2))

-- the second's first token, if it has one, ends the first
abbrev pub Glue_on : {T U : Type 0} → Kind T → (T → Kind U) → Type 0
Glue_on {T = T} {U = U} X Y = (t : T) (u : U) (ts : List Token) → X.well t → (Y t).well u → Opens ((Y t).cells u) ts → X.stops t ts

abbrev pub Glue : {T U : Type 0} → Kind T → Kind U → Type 0
Glue X Y = Glue_on X (λ t. Y)

abbrev pub both_on : {T U : Type 0} → Kind T → (T → Kind U) → Kind (T × U)
both_on X Y = both_with X Y (λ p rest. (Y p.0).stops p.1 rest)

abbrev pub both : {T U : Type 0} → Kind T → Kind U → Kind (T × U)
both X Y = both_on X (λ t. Y)

module _ {T U : Type 0} (X : Kind T) (Y : T → Kind U) (glue : Glue_on X Y) (filler : (t : T) → X.well t → (u : U) × (Y t).well u) (ts : List Token) where
  pub seq_on : (r : Reads T) (f : T × List Token → Reads U) → Exact X ts r → ((t : T) (rest : List Token) → r ≡ Ok (t, rest) → X.stops t rest → Exact (Y t) rest (f (t, rest))) → Exact (both_on X Y) ts (pair_of r f)
  seq_on =
      two_exact X Y (λ p rest. (Y p.0).stops p.1 rest) (λ t u rest w v s. glue t u _ w v (opens_all ((Y t).cells u) rest)) (λ t u ts w v h. glue t u ts w v (opens_hot ((Y t).cells u) ts h))
      (λ t u rest s. s) (λ t u rest s r. r) filler ts

module _ {T U : Type 0} (X : Kind T) (Y : Kind U) (glue : Glue X Y) (filler : (u : U) × Y.well u) (ts : List Token) where
  pub seq : (r : Reads T) (f : T × List Token → Reads U) → Exact X ts r → ((t : T) (rest : List Token) → r ≡ Ok (t, rest) → X.stops t rest → Exact Y rest (f (t, rest))) → Exact (both X Y) ts (pair_of r f)
  seq = seq_on X (λ t. Y) glue (λ t w. filler) ts

-- ---- the second may have no tokens: then what ends the first ends both

abbrev pub keep_stops : {T U : Type 0} → Kind T → (T → Kind U) → T × U → List Token → Type 0
keep_stops X Y p rest = ((Y p.0).cells p.1 ≡ [] → X.stops p.0 rest) × (Y p.0).stops p.1 rest

abbrev pub both_keep : {T U : Type 0} → Kind T → (T → Kind U) → Kind (T × U)
both_keep X Y = both_with X Y (keep_stops X Y)

-- as above, where the second has tokens
abbrev pub Glue_some : {T U : Type 0} → Kind T → (T → Kind U) → Type 0
Glue_some {T = T} {U = U} X Y = (t : T) (u : U) (c : Cell) (cs : List Cell) (ts : List Token) → X.well t → (Y t).well u → (Y t).cells u ≡ c ∷ cs → Heads c.0 ts → X.stops t ts

module _ {T U : Type 0} (X : Kind T) (Y : T → Kind U) (glue : Glue_some X Y) (filler : (t : T) → X.well t → (u : U) × (Y t).well u) (ts : List Token) where
  pub seq_keep : (r : Reads T) (f : T × List Token → Reads U) → Exact X ts r → ((t : T) (rest : List Token) → r ≡ Ok (t, rest) → X.stops t rest → Exact (Y t) rest (f (t, rest))) → Exact (both_keep X Y) ts (pair_of r f)
  seq_keep = two_exact X Y (keep_stops X Y) met met_hot (λ t u rest s. s.1) ends filler ts
    where
      met : (t : T) (u : U) (rest : List Token) → X.well t → (Y t).well u → keep_stops X Y (t, u) rest → X.stops t (tokens ((Y t).cells u) ++ rest)
      met t u rest w v s = go ((Y t).cells u) refl
        where
          go : (cs : List Cell) → (Y t).cells u ≡ cs → X.stops t (tokens cs ++ rest)
          go [] e = s.0 e
          go (c ∷ cs) e = glue t u c cs _ w v e refl

      met_hot : (t : T) (u : U) (ts : List Token) → X.well t → (Y t).well u → PassesLimit ((Y t).cells u) ts → X.stops t ts
      met_hot t u ts w v h = go ((Y t).cells u) ts refl h
        where
          go : (cs : List Cell) (ts : List Token) → (Y t).cells u ≡ cs → PassesLimit cs ts → X.stops t ts
          go [] ts e h = absurd h
          go (c ∷ cs) [] e h = absurd h
          go (c ∷ cs) (x ∷ ts) e h = glue t u c cs (x ∷ ts) w v e h.0

      ends : (t : T) (u : U) (rest : List Token) → X.stops t (tokens ((Y t).cells u) ++ rest) → (Y t).stops u rest → keep_stops X Y (t, u) rest
      ends t u rest s r = ((λ e. subst (λ cs. X.stops t (tokens cs ++ rest)) e s), r)

-- ---- the trees of one kind as those of another, where the text allows no others

module _ {S T : Type 0} (X : Kind S) (Z : Kind T) (g : S → T) (ts : List Token)
    (fits : (s : S) → X.well s → Z.well (g s))
    (same : (s : S) → X.well s → Z.cells (g s) ≡ X.cells s)
    (ends : (s : S) (rest : List Token) → X.well s → X.stops s rest → Z.stops (g s) rest)
    (ended : (s : S) (rest : List Token) → X.well s → Z.stops (g s) rest → X.stops s rest)
    (back : (t : T) → Z.well t → Opens (Z.cells t) ts → (s : S) × (g s ≡ t) × X.well s) where
  pub narrow : (r : Reads S) → Exact X ts r → Exact Z ts (made g r)
  narrow r x = record { only = onlies; sound = sounds r x.sound }
    where
      onlies : (t : T) (rest : List Token) → Z.well t → ts ≡ tokens (Z.cells t) ++ rest → Z.stops t rest → KeepsLimits (Z.cells t) → made g r ≡ Ok (t, rest)
      onlies t rest w e s c =
          let b = back t w (opens_spelled (Z.cells t) ts rest e) in
          let spelled : Z.cells t ≡ X.cells b.0 = ap Z.cells (sym b.1) ∙ same b.0 b.2 in
          let stop : Z.stops (g b.0) rest = subst (λ t. Z.stops t rest) (sym b.1) s in
          let read = x.only b.0 rest b.2 (e ∙ ap (λ a. tokens a ++ rest) spelled) (ended b.0 rest b.2 stop) (subst KeepsLimits spelled c) in
          ap (made g) read ∙ ap (λ t. Ok (t, rest)) b.1

      cool : (IsHot X ts → ⊥) → IsHot Z ts → ⊥
      cool n h =
          let b = back h.0 h.1 (opens_hot (Z.cells h.0) ts h.2) in
          let spelled : Z.cells h.0 ≡ X.cells b.0 = ap Z.cells (sym b.1) ∙ same b.0 b.2 in
          n (b.0, b.2, subst (λ a. PassesLimit a ts) spelled h.2)

      sounds : (r : Reads S) → Sound X ts r → Sound Z ts (made g r)
      sounds (Ok p) h = (fits p.0 h.0, h.1 ∙ ap (λ a. tokens a ++ p.1) (sym (same p.0 h.0)), ends p.0 p.1 h.0 h.2, cool h.3)
      sounds (Err Syntax) h = cool h
      sounds (Err TooDeep) h = (g h.0, fits h.0 h.1, subst (λ a. PassesLimit a ts) (sym (same h.0 h.1)) h.2)

-- a part of a kind, where the text allows no other trees of it
module _ {T : Type 0} (X Z : Kind T) (ts : List Token)
    (fits : (t : T) → X.well t → Z.well t)
    (same : (t : T) → X.well t → Z.cells t ≡ X.cells t)
    (ends : (t : T) (rest : List Token) → X.well t → X.stops t rest → Z.stops t rest)
    (ended : (t : T) (rest : List Token) → X.well t → Z.stops t rest → X.stops t rest)
    (back : (t : T) → Z.well t → Opens (Z.cells t) ts → X.well t) where
  pub widen : (r : Reads T) → Exact X ts r → Exact Z ts r
  widen r x = subst (Exact Z ts) (same_read r) (narrow X Z (λ t. t) ts fits same ends ended (λ t w o. (t, refl, back t w o)) r x)
    where
      same_read : (r : Reads T) → made (λ (t : T). t) r ≡ r
      same_read (Ok p) = refl
      same_read (Err f) = refl

-- ---- a choice by what comes next

module _ {T : Type 0} (Z : Kind T) (ts : List Token) where
  pub choose_exact : (test : List Token → Bool) (a b : Reader T) → (test ts ≡ true → Exact Z ts (a ts)) → (test ts ≡ false → Exact Z ts (b ts)) → Exact Z ts (choose test a b ts)
  choose_exact test a b x y = go (test ts) refl
    where
      go : (c : Bool) → test ts ≡ c → Exact Z ts (cond c (a ts) (b ts))
      go true e = x e
      go false e = y e

-- a tree that may be absent
abbrev pub option_well : {T : Type 0} → Kind T → Option T → Type 0
option_well X None = Unit {0}
option_well X (Some t) = X.well t

abbrev pub option_cells : {T : Type 0} → Kind T → Option T → List Cell
option_cells X None = []
option_cells X (Some t) = X.cells t

abbrev pub option_stops : {T : Type 0} → (List Token → Bool) → Kind T → Option T → List Token → Type 0
option_stops test X None rest = test rest ≡ false
option_stops test X (Some t) rest = X.stops t rest

abbrev pub option_kind : {T : Type 0} → (List Token → Bool) → Kind T → Kind (Option T)
option_kind test X = record { well = option_well X; cells = option_cells X; stops = option_stops test X }

module _ {T : Type 0} (test : List Token → Bool) (X : Kind T) (begins : (t : T) (ts : List Token) → X.well t → Opens (X.cells t) ts → test ts ≡ true) (ts : List Token) where
  pub option_exact : (a : Reader T) → (test ts ≡ true → Exact X ts (a ts)) → Exact (option_kind test X) ts (optional test a ts)
  option_exact a x = choose_exact (option_kind test X) ts test (build Some a) (give None) there absent
    where
      absent : test ts ≡ false → Exact (option_kind test X) ts (Ok (None, ts))
      absent e = record { only = onlies; sound = (tt, refl, e, λ h. cool h.0 h.1 h.2) }
        where
          onlies : (o : Option T) (rest : List Token) → option_well X o → ts ≡ tokens (option_cells X o) ++ rest → option_stops test X o rest → KeepsLimits (option_cells X o) → ◌≡◌ {A = Reads (Option T)} (Ok (None, ts)) (Ok (o, rest))
          onlies None rest w f s c = ap (λ x. Ok (None, x)) f
          onlies (Some t) rest w f s c = absurd (let h = begins t ts w (opens_spelled (X.cells t) ts rest f) in cc)

          cool : (o : Option T) → option_well X o → PassesLimit (option_cells X o) ts → ⊥
          cool None w h = h
          cool (Some t) w h = let k = begins t ts w (opens_hot (X.cells t) ts h) in cc

      there : test ts ≡ true → Exact (option_kind test X) ts (made Some (a ts))
      there e = record { only = onlies; sound = sounds (a ts) (x e).sound }
        where
          onlies : (o : Option T) (rest : List Token) → option_well X o → ts ≡ tokens (option_cells X o) ++ rest → option_stops test X o rest → KeepsLimits (option_cells X o) → made Some (a ts) ≡ Ok (o, rest)
          onlies None rest w f s c = absurd (let h : test ts ≡ false = ap test f ∙ s in cc)
          onlies (Some t) rest w f s c = ap (made Some) ((x e).only t rest w f s c)

          cool : (IsHot X ts → ⊥) → (o : Option T) → option_well X o → PassesLimit (option_cells X o) ts → ⊥
          cool n None w h = h
          cool n (Some t) w h = n (t, w, h)

          sounds : (r : Reads T) → Sound X ts r → Sound (option_kind test X) ts (made Some r)
          sounds (Ok p) h = (h.0, h.1, h.2, λ k. cool h.3 k.0 k.1 k.2)
          sounds (Err Syntax) h = λ k. cool h k.0 k.1 k.2
          sounds (Err TooDeep) h = (Some h.0, h.1, h.2)

-- a tree that is absent where a test says so
abbrev pub unless_stops : {T : Type 0} → (List Token → Bool) → Kind T → Option T → List Token → Type 0
unless_stops test X None rest = test rest ≡ true
unless_stops test X (Some t) rest = X.stops t rest

abbrev pub unless_kind : {T : Type 0} → (List Token → Bool) → Kind T → Kind (Option T)
unless_kind test X = record { well = option_well X; cells = option_cells X; stops = unless_stops test X }

module _ {T : Type 0} (test : List Token → Bool) (X : Kind T) (begins : (t : T) (ts : List Token) → X.well t → Opens (X.cells t) ts → test ts ≡ false) (ts : List Token) where
  pub unless_exact : (a : Reader T) → (test ts ≡ false → Exact X ts (a ts)) → Exact (unless_kind test X) ts (unless test a ts)
  unless_exact a x = choose_exact (unless_kind test X) ts test (give None) (build Some a) absent there
    where
      absent : test ts ≡ true → Exact (unless_kind test X) ts (Ok (None, ts))
      absent e = record { only = onlies; sound = (tt, refl, e, λ h. cool h.0 h.1 h.2) }
        where
          onlies : (o : Option T) (rest : List Token) → option_well X o → ts ≡ tokens (option_cells X o) ++ rest → unless_stops test X o rest → KeepsLimits (option_cells X o) → ◌≡◌ {A = Reads (Option T)} (Ok (None, ts)) (Ok (o, rest))
          onlies None rest w f s c = ap (λ x. Ok (None, x)) f
          onlies (Some t) rest w f s c = absurd (let h = begins t ts w (opens_spelled (X.cells t) ts rest f) in cc)

          cool : (o : Option T) → option_well X o → PassesLimit (option_cells X o) ts → ⊥
          cool None w h = h
          cool (Some t) w h = let k = begins t ts w (opens_hot (X.cells t) ts h) in cc

      there : test ts ≡ false → Exact (unless_kind test X) ts (made Some (a ts))
      there e = record { only = onlies; sound = sounds (a ts) (x e).sound }
        where
          onlies : (o : Option T) (rest : List Token) → option_well X o → ts ≡ tokens (option_cells X o) ++ rest → unless_stops test X o rest → KeepsLimits (option_cells X o) → made Some (a ts) ≡ Ok (o, rest)
          onlies None rest w f s c = absurd (let h : test ts ≡ true = ap test f ∙ s in cc)
          onlies (Some t) rest w f s c = ap (made Some) ((x e).only t rest w f s c)

          cool : (IsHot X ts → ⊥) → (o : Option T) → option_well X o → PassesLimit (option_cells X o) ts → ⊥
          cool n None w h = h
          cool n (Some t) w h = n (t, w, h)

          sounds : (r : Reads T) → Sound X ts r → Sound (unless_kind test X) ts (made Some r)
          sounds (Ok p) h = (h.0, h.1, h.2, λ k. cool h.3 k.0 k.1 k.2)
          sounds (Err Syntax) h = λ k. cool h k.0 k.1 k.2
          sounds (Err TooDeep) h = (Some h.0, h.1, h.2)

-- ---- one token

module _ {A : Type 0} (well : A → Type 0) (token_of : A → Token) where
  abbrev pub one_kind : Kind A
  one_kind = record { well = well; cells = λ a. (token_of a, false) ∷ []; stops = λ a rest. Unit {0} }

  pub one_exact : (pick : Token → Option A) → ((a : A) → well a → pick (token_of a) ≡ Some a) → ((t : Token) (a : A) → pick t ≡ Some a → well a × (t ≡ token_of a)) → (ts : List Token) → Exact one_kind ts (one pick ts)
  one_exact pick picked from [] = record { only = λ t rest w e s c. cc; sound = λ h. h.2 }
  one_exact pick picked from (t ∷ ts) = go (pick t) refl
    where
      cool : IsHot one_kind (t ∷ ts) → ⊥
      cool h = elim h.2.1 [ inl e ↦ cc | inr k ↦ k ]

      go : (o : Option A) → pick t ≡ o → Exact one_kind (t ∷ ts) (one_of o ts)
      go None e = record {
        only = λ a rest w f s c. absurd (let heads : t ≡ token_of a = cc in let said = picked a w in cc);
        sound = cool;
      }
      go (Some b) e = record {
        only = λ a rest w f s c. let heads : t ≡ token_of a = cc in let tails : ts ≡ rest = cc in let said = picked a w in cc;
        sound = ((from t b e).0, (let is = (from t b e).1 in cc), tt, cool);
      }

-- ---- where no room is left

module _ {T : Type 0} (Z : Kind T) (begins : List Token → Bool) (ts : List Token)
    (hot : (t : T) → Z.well t → Opens (Z.cells t) ts → PassesLimit (Z.cells t) ts)
    (opens : (t : T) → Z.well t → Opens (Z.cells t) ts → begins ts ≡ true)
    (begun : begins ts ≡ true → IsHot Z ts) where
  pub limit_exact : Exact Z ts (at_limit begins ts)
  limit_exact = go (begins ts) refl
    where
      go : (b : Bool) → begins ts ≡ b → Exact Z ts (Err (limit_fault b))
      go true h = record {
        only = λ t rest w f s c. absurd (cold_not_hot (Z.cells t) ts c (hot t w (opens_spelled (Z.cells t) ts rest f)));
        sound = begun h;
      }
      go false h = record {
        only = λ t rest w f s c. absurd (let is = opens t w (opens_spelled (Z.cells t) ts rest f) in cc);
        sound = λ x. absurd (let is = opens x.0 x.1 (opens_hot (Z.cells x.0) ts x.2) in cc);
      }
