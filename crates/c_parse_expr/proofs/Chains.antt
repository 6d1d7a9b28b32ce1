-- Reading a chain or a list is exact, where reading each of its parts is.
use Rattle.std.proofs.Common.{◌≡◌, ◌∙◌, refl, sym, ap, subst, ℕ, zero, suc, ◌<◌, ◌≤◌, Bool, true, false, List, [], ◌∷◌, ◌++◌, length, length-append, append_assoc, ◌-◌, arith, Option, Some, None, Ok, Err, cond}
use Rattle.std.proofs.lemmas.List.{append-nil}
use Rattle.std.proofs.Math.Nat.{sub-zero}
use Rattle.c_ast.specs.declared.token.Token.{Token}
use Rattle.c_ast.specs.declared.fault.Fault.TheVariants.{Syntax, TooDeep}
use Rattle.c_ast.specs.Cells.{Cell, tokens, PassesLimit, KeepsLimits, none, less}
use Rattle.c_parse_expr.specs.Reads.{Reads, Reader, ◌>>=◌, made, pair_of, climb, snoc, some_of, build, unless, list_if_any}
use Rattle.c_parse_expr.proofs.Exact.{Kind, Exact, Sound, IsHot, Opens, both_with, two_exact, narrow, unless_kind, unless_exact, option_well, option_cells, unless_stops, opens_left, opens_all, opens_hot, opens_spelled, hot_left, cold_append}

-- ---- none or more, each begun where a test says so; room bounds how many

module _ {S : Type 0} (X : Bool → Kind S) (stop : List Token → Type 0) where
  abbrev pub all_well : List S → Type 0
  all_well [] = Unit {0}
  all_well (s ∷ ss) = (X false).well s × all_well ss

  abbrev pub row : ℕ → List S → List Cell
  row room [] = []
  row room (s ∷ ss) = (X (none room)).cells s ++ row (less room) ss

  abbrev pub many_kind : ℕ → Kind (List S)
  many_kind room = record { well = all_well; cells = row room; stops = λ ss rest. stop rest }

abbrev pub many : {S : Type 0} → (List Token → Bool) → Reader S → ℕ → Reader (List S)
many more step zero ts = cond (more ts) (Err TooDeep) (Ok ([], ts))
many more step (suc room) ts = cond (more ts) (made (λ p. p.0 ∷ p.1) (pair_of (step ts) (λ p. many more step room p.1))) (Ok ([], ts))

module _ {S : Type 0} (X : Bool → Kind S) (more : List Token → Bool) (step : Reader S) (stop before : List Token → Type 0) (bound : ℕ → List Token → Type 0)
    (alike : (s : S) → (X true).well s → (X false).well s)
    (begins : (s : S) (hot : Bool) (ts : List Token) → (X false).well s → Opens ((X hot).cells s) ts → more ts ≡ true)
    (glued : (s u : S) (hot : Bool) (ts : List Token) → (X false).well s → (X false).well u → Opens ((X hot).cells u) ts → (X false).stops s ts)
    (glued_end : (s : S) (ts : List Token) → (X false).well s → stop ts → (X false).stops s ts)
    (leaves : (s : S) (ts : List Token) → (X false).stops s ts → before ts)
    (closes : (ts : List Token) → before ts → more ts ≡ false → stop ts)
    (closed : (ts : List Token) → stop ts → more ts ≡ false)
    (over : (ts : List Token) → bound zero ts → more ts ≡ true → IsHot (X true) ts)
    (marked : (s : S) (ts : List Token) → bound zero ts → more ts ≡ true → (X false).well s → KeepsLimits ((X true).cells s) → ⊥)
    (falls : (room : ℕ) (s : S) (ts rest : List Token) → bound (suc room) ts → (X false).well s → ts ≡ tokens ((X false).cells s) ++ rest → bound room rest)
    (each : (room : ℕ) (ts : List Token) → bound (suc room) ts → more ts ≡ true → Exact (X false) ts (step ts)) where
  first_opens : (s : S) (ss : List S) (room : ℕ) (ts : List Token) → (X false).well s → Opens (row X stop room (s ∷ ss)) ts → more ts ≡ true
  first_opens s ss room ts w h = begins s (none room) ts w (opens_left ((X (none room)).cells s) (row X stop (less room) ss) ts h)

  -- where no further step begins
  ended : (room : ℕ) (ts : List Token) → before ts → more ts ≡ false → Exact (many_kind X stop room) ts (Ok ([], ts))
  ended room ts b e = record { only = onlies; sound = (tt, refl, closes ts b e, cool) }
    where
      onlies : (ss : List S) (rest : List Token) → all_well X stop ss → ts ≡ tokens (row X stop room ss) ++ rest → stop rest → KeepsLimits (row X stop room ss) → ◌≡◌ {A = Reads (List S)} (Ok ([], ts)) (Ok (ss, rest))
      onlies [] rest w f s c = ap (λ x. Ok ([], x)) f
      onlies (s ∷ ss) rest w f st c = absurd (let h = first_opens s ss room ts w.0 (opens_spelled (row X stop room (s ∷ ss)) ts rest f) in cc)

      cool : IsHot (many_kind X stop room) ts → ⊥
      cool h = go h.0 h.1 h.2
        where
          go : (ss : List S) → all_well X stop ss → PassesLimit (row X stop room ss) ts → ⊥
          go [] w h = h
          go (s ∷ ss) w h = let k = first_opens s ss room ts w.0 (opens_hot (row X stop room (s ∷ ss)) ts h) in cc

  abbrev Two : ℕ → Kind (S × List S)
  Two room = both_with (X false) (λ s. many_kind X stop room) (λ p rest. stop rest)

  pub many_exact : (room : ℕ) (ts : List Token) → bound room ts → before ts → Exact (many_kind X stop room) ts (many more step room ts)
  many_exact zero ts bd b = go (more ts) refl
    where
      go : (m : Bool) → more ts ≡ m → Exact (many_kind X stop zero) ts (cond m (Err TooDeep) (Ok ([], ts)))
      go false e = ended zero ts b e
      go true e = record { only = onlies; sound = hot }
        where
          there : IsHot (X true) ts
          there = over ts bd e

          hot : IsHot (many_kind X stop zero) ts
          hot = (there.0 ∷ [], (alike there.0 there.1, tt), hot_left ((X true).cells there.0) [] ts there.2)

          onlies : (ss : List S) (rest : List Token) → all_well X stop ss → ts ≡ tokens (row X stop zero ss) ++ rest → stop rest → KeepsLimits (row X stop zero ss) → ◌≡◌ {A = Reads (List S)} (Err TooDeep) (Ok (ss, rest))
          onlies [] rest w f s c = absurd (let h = closed rest s in let g : more ts ≡ more rest = ap more f in cc)
          onlies (s ∷ ss) rest w f st c = absurd (marked s ts bd e w.0 (cold_append ((X true).cells s) (row X stop zero ss) c).0)
  many_exact (suc room) ts bd b = go (more ts) refl (λ rest. many_exact room rest)
    where
      go : (m : Bool) → more ts ≡ m → ((rest : List Token) → bound room rest → before rest → Exact (many_kind X stop room) rest (many more step room rest))
          → Exact (many_kind X stop (suc room)) ts (cond m (made (λ p. p.0 ∷ p.1) (pair_of (step ts) (λ p. many more step room p.1))) (Ok ([], ts)))
      go false e ih = ended (suc room) ts b e
      go true e ih = record { only = onlies; sound = sounds (pair_of (step ts) (λ p. many more step room p.1)) two.sound }
        where
          first : Exact (X false) ts (step ts)
          first = each room ts bd e

          later : (s : S) (rest : List Token) → step ts ≡ Ok (s, rest) → bound room rest
          later s rest r = let known : Sound (X false) ts (Ok (s, rest)) = subst (Sound (X false) ts) r first.sound in falls room s ts rest bd known.0 known.1

          met : (s : S) (ss : List S) (rest : List Token) → (X false).well s → all_well X stop ss → stop rest → (X false).stops s (tokens (row X stop room ss) ++ rest)
          met s [] rest w v st = glued_end s rest w st
          met s (u ∷ us) rest w v st =
              let all : List Token = tokens (row X stop room (u ∷ us)) ++ rest in
              glued s u (none room) all w v.0 (opens_left ((X (none room)).cells u) (row X stop (less room) us) all (opens_all (row X stop room (u ∷ us)) rest))

          met_hot : (s : S) (ss : List S) (ts : List Token) → (X false).well s → all_well X stop ss → PassesLimit (row X stop room ss) ts → (X false).stops s ts
          met_hot s [] ts w v h = absurd h
          met_hot s (u ∷ us) ts w v h = glued s u (none room) ts w v.0 (opens_left ((X (none room)).cells u) (row X stop (less room) us) ts (opens_hot (row X stop room (u ∷ us)) ts h))

          two : Exact (Two room) ts (pair_of (step ts) (λ p. many more step room p.1))
          two = two_exact (X false) (λ s. many_kind X stop room) (λ p rest. stop rest) met met_hot (λ s ss rest h. h) (λ s ss rest r h. h) (λ s w. ([], tt)) ts (step ts) (λ p. many more step room p.1) first
              (λ s rest r st. ih rest (later s rest r) (leaves s rest st))

          onlies : (ss : List S) (rest : List Token) → all_well X stop ss → ts ≡ tokens (row X stop (suc room) ss) ++ rest → stop rest → KeepsLimits (row X stop (suc room) ss) → made (λ p. p.0 ∷ p.1) (pair_of (step ts) (λ p. many more step room p.1)) ≡ Ok (ss, rest)
          onlies [] rest w f s c = absurd (let h = closed rest s in let g : more ts ≡ more rest = ap more f in cc)
          onlies (s ∷ ss) rest w f st c = ap (made (λ (p : S × List S). p.0 ∷ p.1)) (two.only (s, ss) rest w f st c)

          cool : (IsHot (Two room) ts → ⊥) → (ss : List S) → all_well X stop ss → PassesLimit (row X stop (suc room) ss) ts → ⊥
          cool n [] w h = h
          cool n (s ∷ ss) w h = n ((s, ss), w, h)

          sounds : (r : Reads (S × List S)) → Sound (Two room) ts r → Sound (many_kind X stop (suc room)) ts (made (λ p. p.0 ∷ p.1) r)
          sounds (Ok p) h = (h.0, h.1, h.2, λ k. cool h.3 k.0 k.1 k.2)
          sounds (Err Syntax) h = λ k. cool h k.0 k.1 k.2
          sounds (Err TooDeep) h = (h.0.0 ∷ h.0.1, h.1, h.2)

-- ---- a chain, read from left to right

module _ {T S : Type 0} (join : T → S → T) where
  abbrev pub folded : T → List S → T
  folded base [] = base
  folded base (s ∷ ss) = folded (join base s) ss

  pub folded_last : (base : T) (ss : List S) (s : S) → folded base (ss ++ (s ∷ [])) ≡ join (folded base ss) s
  folded_last base [] s = refl
  folded_last base (r ∷ ss) s = folded_last (join base r) ss s

  pub climb_is_many : (more : List Token → Bool) (step : List Token → Reads S) (room : ℕ) (base : T) (ts : List Token) → climb more step join room base ts ≡ made (folded base) (many more step room ts)
  unfolding climb
  climb_is_many more step zero base ts = elim (more ts) as (λ b. ◌≡◌ {A = Reads T} (cond b (Err TooDeep) (Ok (base, ts))) (made (folded base) (cond b (Err TooDeep) (Ok ([], ts))))) [ true ↦ refl | false ↦ refl ]
  climb_is_many more step (suc room) base ts = go (more ts) (step ts) (λ b rest. climb_is_many more step room b rest)
    where
      go : (b : Bool) (r : Reads S) → ((base : T) (rest : List Token) → climb more step join room base rest ≡ made (folded base) (many more step room rest))
          → cond b (r >>= (λ p. climb more step join room (join base p.0) p.1)) (Ok (base, ts)) ≡ made (folded base) (cond b (made (λ (p : S × List S). p.0 ∷ p.1) (pair_of r (λ p. many more step room p.1))) (Ok ([], ts)))
      go false r ih = refl
      go true (Err e) ih = refl
      go true (Ok p) ih = ih (join base p.0) p.1 ∙ after (many more step room p.1)
        where
          after : (q : Reads (List S)) → made (folded (join base p.0)) q ≡ made (folded base) (made (λ (p : S × List S). p.0 ∷ p.1) (q >>= (λ q. Ok ((p.0, q.0), q.1))))
          after (Ok q) = refl
          after (Err e) = refl

pub less_sub : (a b : ℕ) → less (a - b) ≡ a - suc b
less_sub a b = go (a - b) refl
  where
    go : (c : ℕ) → a - b ≡ c → less c ≡ a - suc b
    go zero e = omega arith
    go (suc c) e = omega arith

module _ {T S : Type 0} (join : T → S → T) (small : Kind T) (X : Bool → Kind S) (stop : List Token → Type 0) where
  abbrev pub Parts : T → Type 0
  Parts t = (p : T × List S) × (folded join p.0 p.1 ≡ t) × (small.well p.0 × all_well X stop p.1)

  all_last : (ss : List S) (s : S) → all_well X stop ss → (X false).well s → all_well X stop (ss ++ (s ∷ []))
  all_last [] s w v = (v, tt)
  all_last (r ∷ ss) s w v = (w.0, all_last ss s w.1 v)

  pub one_part : (t : T) → small.well t → Parts t
  one_part t w = ((t, []), refl, (w, tt))

  pub last_part : (t : T) (s : S) → Parts t → (X false).well s → Parts (join t s)
  last_part t s p v = ((p.0.0, p.0.1 ++ (s ∷ [])), folded_last join p.0.0 p.0.1 s ∙ ap (λ t. join t s) p.1, (p.2.0, all_last p.0.1 s p.2.1 v))

module _ {T S : Type 0} (join : T → S → T) (small big : Kind T) (X : Bool → Kind S) (stop : List Token → Type 0) (count : T → ℕ) (room : ℕ)
    (small_big : (t : T) → small.well t → big.well t)
    (small_cells : (t : T) → small.well t → big.cells t ≡ small.cells t)
    (small_count : (t : T) → small.well t → count t ≡ 0)
    (grows : (t : T) (s : S) → big.well t → (X false).well s → big.well (join t s))
    (counts : (t : T) (s : S) → big.well t → (X false).well s → count (join t s) ≡ suc (count t))
    (spelled : (t : T) (s : S) → big.well t → (X false).well s → big.cells (join t s) ≡ big.cells t ++ (X (none (room - count t))).cells s)
    (small_end : (t : T) (ts : List Token) → small.well t → stop ts → small.stops t ts)
    (small_glue : (t : T) (s : S) (hot : Bool) (ts : List Token) → small.well t → (X false).well s → Opens ((X hot).cells s) ts → small.stops t ts) where
  folded_well : (t : T) (ss : List S) → big.well t → all_well X stop ss → big.well (folded join t ss)
  folded_well t [] w v = w
  folded_well t (s ∷ ss) w v = folded_well (join t s) ss (grows t s w v.0) v.1

  folded_cells : (t : T) (ss : List S) → big.well t → all_well X stop ss → big.cells (folded join t ss) ≡ big.cells t ++ row X stop (room - count t) ss
  folded_cells t [] w v = sym (append-nil (big.cells t))
  folded_cells t (s ∷ ss) w v =
      let left : room - count (join t s) ≡ less (room - count t) = ap (λ n. room - n) (counts t s w v.0) ∙ sym (less_sub room (count t)) in
      folded_cells (join t s) ss (grows t s w v.0) v.1
      ∙ ap (λ n. big.cells (join t s) ++ row X stop n ss) left
      ∙ ap (λ c. c ++ row X stop (less (room - count t)) ss) (spelled t s w v.0)
      ∙ append_assoc (big.cells t) ((X (none (room - count t))).cells s) (row X stop (less (room - count t)) ss)

  met : (t : T) (ss : List S) (rest : List Token) → small.well t → all_well X stop ss → stop rest → small.stops t (tokens (row X stop room ss) ++ rest)
  met t [] rest w v st = small_end t rest w st
  met t (s ∷ ss) rest w v st =
      let all : List Token = tokens (row X stop room (s ∷ ss)) ++ rest in
      small_glue t s (none room) all w v.0 (opens_left ((X (none room)).cells s) (row X stop (less room) ss) all (opens_all (row X stop room (s ∷ ss)) rest))

  met_hot : (t : T) (ss : List S) (ts : List Token) → small.well t → all_well X stop ss → PassesLimit (row X stop room ss) ts → small.stops t ts
  met_hot t [] ts w v h = absurd h
  met_hot t (s ∷ ss) ts w v h = small_glue t s (none room) ts w v.0 (opens_left ((X (none room)).cells s) (row X stop (less room) ss) ts (opens_hot (row X stop room (s ∷ ss)) ts h))

  pub chain_exact : (parts : (t : T) → big.well t → Parts join small X stop t)
      → (ends : (t : T) (rest : List Token) → stop rest → big.stops t rest) → (stopped : (t : T) (rest : List Token) → big.stops t rest → stop rest)
      → (ts : List Token) (first : Reads T) (more : List Token → Bool) (step : List Token → Reads S)
      → Exact small ts first
      → ((t : T) (rest : List Token) → first ≡ Ok (t, rest) → small.stops t rest → Exact (many_kind X stop room) rest (many more step room rest))
      → Exact big ts (first >>= (λ b. climb more step join room b.0 b.1))
  chain_exact parts ends stopped ts first more step x y =
      subst (Exact big ts) (as_climb first)
      (narrow (both_with small (λ t. many_kind X stop room) (λ p rest. stop rest)) big (λ p. folded join p.0 p.1) ts
      (λ p w. folded_well p.0 p.1 (small_big p.0 w.0) w.1)
      (λ p w. folded_cells p.0 p.1 (small_big p.0 w.0) w.1 ∙ ap (λ n. big.cells p.0 ++ row X stop (room - n) p.1) (small_count p.0 w.0) ∙ ap (λ c. c ++ row X stop (room - 0) p.1) (small_cells p.0 w.0) ∙ ap (λ n. small.cells p.0 ++ row X stop n p.1) (sub-zero room))
      (λ p rest w h. ends (folded join p.0 p.1) rest h)
      (λ p rest w h. stopped (folded join p.0 p.1) rest h)
      (λ t w m. parts t w)
      _
      (two_exact small (λ t. many_kind X stop room) (λ p rest. stop rest) met met_hot (λ t ss rest h. h) (λ t ss rest r h. h) (λ t w. ([], tt)) ts first (λ p. many more step room p.1) x y))
    where
      as_climb : (r : Reads T) → made (λ (p : T × List S). folded join p.0 p.1) (pair_of r (λ p. many more step room p.1)) ≡ r >>= (λ b. climb more step join room b.0 b.1)
      as_climb (Err e) = refl
      as_climb (Ok b) = after (many more step room b.1) ∙ sym (climb_is_many join more step room b.0 b.1)
        where
          after : (q : Reads (List S)) → made (λ (p : T × List S). folded join p.0 p.1) (q >>= (λ q. Ok ((b.0, q.0), q.1))) ≡ made (folded join b.0) q
          after (Ok q) = refl
          after (Err e) = refl

-- ---- a list of any length, read by a loop that adds at its end

pub folded_snoc : {A : Type 0} (base more : List A) → folded snoc base more ≡ base ++ more
folded_snoc base [] = sym (append-nil base)
folded_snoc base (x ∷ more) = folded_snoc (snoc base x) more ∙ append_assoc base (x ∷ []) more

-- a tree takes a token at least
pub shorter : (cs : List Cell) (ts rest : List Token) → (Opens cs [] → ⊥) → ts ≡ tokens cs ++ rest → length rest < length ts
shorter [] ts rest n e = absurd (n tt)
shorter (c ∷ cs) ts rest n e = omega (arith, ap length e, length-append (tokens cs) rest)

abbrev pub list_well : {S : Type 0} → Kind S → List S → Type 0
list_well X [] = Unit {0}
list_well X (s ∷ ss) = X.well s × list_well X ss

abbrev pub list_cells : {S : Type 0} → Kind S → List S → List Cell
list_cells X [] = []
list_cells X (s ∷ ss) = X.cells s ++ list_cells X ss

abbrev pub list_kind : {S : Type 0} → Kind S → (List Token → Type 0) → Kind (List S)
list_kind X stop = record { well = list_well X; cells = list_cells X; stops = λ ss rest. stop rest }

-- one, and then those of a list
abbrev pub some_well : {S : Type 0} → Kind S → Kind S → List S → Type 0
some_well F X [] = ⊥
some_well F X (s ∷ ss) = F.well s × list_well X ss

abbrev pub some_cells : {S : Type 0} → Kind S → Kind S → List S → List Cell
some_cells F X [] = []
some_cells F X (s ∷ ss) = F.cells s ++ list_cells X ss

abbrev pub some_kind : {S : Type 0} → Kind S → Kind S → (List Token → Type 0) → Kind (List S)
some_kind F X stop = record { well = some_well F X; cells = some_cells F X; stops = λ ss rest. stop rest }

module _ {S : Type 0} (X : Kind S) (more : List Token → Bool) (step : Reader S) (stop before : List Token → Type 0)
    (begins : (s : S) (ts : List Token) → X.well s → Opens (X.cells s) ts → more ts ≡ true)
    (nothing : more [] ≡ false)
    (glued : (s u : S) (ts : List Token) → X.well s → X.well u → Opens (X.cells u) ts → X.stops s ts)
    (glued_end : (s : S) (ts : List Token) → X.well s → stop ts → X.stops s ts)
    (leaves : (s : S) (ts : List Token) → X.stops s ts → before ts)
    (closes : (ts : List Token) → before ts → more ts ≡ false → stop ts)
    (closed : (ts : List Token) → stop ts → more ts ≡ false)
    (each : (ts : List Token) → more ts ≡ true → Exact X ts (step ts)) where
  abbrev Same : Bool → Kind S
  Same hot = X

  rows_well : (ss : List S) → all_well Same stop ss → list_well X ss
  rows_well [] w = tt
  rows_well (s ∷ ss) w = (w.0, rows_well ss w.1)

  well_rows : (ss : List S) → list_well X ss → all_well Same stop ss
  well_rows [] w = tt
  well_rows (s ∷ ss) w = (w.0, well_rows ss w.1)

  rows_cells : (n : ℕ) (ss : List S) → list_cells X ss ≡ row Same stop n ss
  rows_cells n [] = refl
  rows_cells n (s ∷ ss) = ap (λ c. X.cells s ++ c) (rows_cells (less n) ss)

  none_left : (ts : List Token) → length ts ≤ 0 → more ts ≡ true → ⊥
  none_left [] h e = let f = nothing in cc
  none_left (t ∷ ts) h e = omega arith

  rows_exact : (n : ℕ) (ts : List Token) → length ts ≤ n → before ts → Exact (many_kind Same stop n) ts (many more step n ts)
  rows_exact n ts b =
      many_exact Same more step stop before (λ n ts. length ts ≤ n)
      (λ s w. w) (λ s hot ts w h. begins s ts w h) (λ s u hot ts w v h. glued s u ts w v h) glued_end leaves closes closed
      (λ ts b e. absurd (none_left ts b e)) (λ s ts b e w c. none_left ts b e)
      (λ n s ts rest b w e. let k = shorter (X.cells s) ts rest (λ h. let m = begins s [] w h in let f = nothing in cc) e in omega arith)
      (λ n ts b e. each ts e) n ts b

  pub listed_exact : (n : ℕ) (ts : List Token) → length ts ≤ n → before ts → Exact (list_kind X stop) ts (climb more step snoc n [] ts)
  listed_exact n ts b bf =
      subst (Exact (list_kind X stop) ts) (same (many more step n ts) ∙ sym (climb_is_many snoc more step n [] ts))
      (narrow (many_kind Same stop n) (list_kind X stop) (λ ss. ss) ts rows_well (λ ss w. rows_cells n ss) (λ ss rest w h. h) (λ ss rest w h. h) (λ ss w m. (ss, refl, well_rows ss w)) _
      (rows_exact n ts b bf))
    where
      same : (q : Reads (List S)) → made (λ (ss : List S). ss) q ≡ made (folded snoc []) q
      same (Ok q) = ap (λ l. Ok (l, q.1)) (sym (folded_snoc [] q.0))
      same (Err f) = refl

  module _ (F : Kind S)
      (f_end : (s : S) (ts : List Token) → F.well s → stop ts → F.stops s ts)
      (f_glue : (s u : S) (ts : List Token) → F.well s → X.well u → Opens (X.cells u) ts → F.stops s ts)
      (f_leaves : (s : S) (ts : List Token) → F.stops s ts → before ts) where
    pub some_exact : (item : Reader S) (ts : List Token) → Exact F ts (item ts) → Exact (some_kind F X stop) ts (some_of item more step ts)
    some_exact item ts x = go (item ts) x
      where
        met : (s : S) (ss : List S) (rest : List Token) → F.well s → list_well X ss → stop rest → F.stops s (tokens (list_cells X ss) ++ rest)
        met s [] rest w v st = f_end s rest w st
        met s (u ∷ us) rest w v st =
            let all : List Token = tokens (list_cells X (u ∷ us)) ++ rest in
            f_glue s u all w v.0 (opens_left (X.cells u) (list_cells X us) all (opens_all (list_cells X (u ∷ us)) rest))

        met_hot : (s : S) (ss : List S) (ts : List Token) → F.well s → list_well X ss → PassesLimit (list_cells X ss) ts → F.stops s ts
        met_hot s [] ts w v h = absurd h
        met_hot s (u ∷ us) ts w v h = f_glue s u ts w v.0 (opens_left (X.cells u) (list_cells X us) ts (opens_hot (list_cells X (u ∷ us)) ts h))

        -- the loop may turn as often as tokens are left behind the first
        bound : Reads S → ℕ
        bound (Ok p) = length p.1
        bound (Err f) = 0

        back : (ss : List S) → some_well F X ss → (p : S × List S) × ((p.0 ∷ p.1) ≡ ss) × (F.well p.0 × list_well X p.1)
        back [] w = absurd w
        back (s ∷ ss) w = ((s, ss), refl, w)

        go : (r : Reads S) → Exact F ts r → Exact (some_kind F X stop) ts (r >>= (λ a. climb more step snoc (length a.1) (a.0 ∷ []) a.1))
        go r x =
            subst (Exact (some_kind F X stop) ts) (same r)
            (narrow (both_with F (λ s. list_kind X stop) (λ p rest. stop rest)) (some_kind F X stop) (λ p. p.0 ∷ p.1) ts
            (λ p w. w) (λ p w. refl) (λ p rest w h. h) (λ p rest w h. h) (λ ss w m. back ss w) _
            (two_exact F (λ s. list_kind X stop) (λ p rest. stop rest) met met_hot (λ s ss rest h. h) (λ s ss rest r h. h) (λ s w. ([], tt)) ts r (λ a. climb more step snoc (bound r) [] a.1) x
            (λ s rest e st. listed_exact (bound r) rest (subst (λ q. length rest ≤ bound q) (sym e) (omega arith)) (f_leaves s rest st))))
          where
            same : (r : Reads S) → made (λ (p : S × List S). p.0 ∷ p.1) (pair_of r (λ a. climb more step snoc (bound r) [] a.1)) ≡ r >>= (λ a. climb more step snoc (length a.1) (a.0 ∷ []) a.1)
            same (Err f) = refl
            same (Ok a) =
                ap (λ q. made (λ (p : S × List S). p.0 ∷ p.1) (q >>= (λ q. Ok ((a.0, q.0), q.1)))) (climb_is_many snoc more step (length a.1) [] a.1)
                ∙ one (many more step (length a.1) a.1) ∙ sym (climb_is_many snoc more step (length a.1) (a.0 ∷ []) a.1)
              where
                one : (q : Reads (List S)) → made (λ (p : S × List S). p.0 ∷ p.1) (made (folded snoc []) q >>= (λ q. Ok ((a.0, q.0), q.1))) ≡ made (folded snoc (a.0 ∷ [])) q
                one (Ok q) = ap (λ l. Ok (a.0 ∷ l, q.1)) (folded_snoc [] q.0) ∙ ap (λ l. Ok (l, q.1)) (sym (folded_snoc (a.0 ∷ []) q.0))
                one (Err f) = refl

-- ---- a list that may be empty, where a test says whether there is one

abbrev pub if_any_well : {S : Type 0} → Kind (List S) → List S → Type 0
if_any_well X [] = Unit {0}
if_any_well X (s ∷ ss) = X.well (s ∷ ss)

abbrev pub if_any_stops : {S : Type 0} → (List Token → Bool) → Kind (List S) → List S → List Token → Type 0
if_any_stops test X [] rest = test rest ≡ true
if_any_stops test X (s ∷ ss) rest = X.stops (s ∷ ss) rest

abbrev pub if_any_kind : {S : Type 0} → (List Token → Bool) → Kind (List S) → Kind (List S)
if_any_kind test X = record { well = if_any_well X; cells = X.cells; stops = if_any_stops test X }

module _ {S : Type 0} (test : List Token → Bool) (X : Kind (List S)) (empty : X.cells [] ≡ []) (never : X.well [] → ⊥) (begins : (t : List S) (ts : List Token) → X.well t → Opens (X.cells t) ts → test ts ≡ false) (ts : List Token) where
  pub if_any_exact : (a : Reader (List S)) → (test ts ≡ false → Exact X ts (a ts)) → Exact (if_any_kind test X) ts (build list_if_any (unless test a) ts)
  if_any_exact a x = narrow (unless_kind test X) (if_any_kind test X) list_if_any ts fits spelled ends ended (λ l w m. back l w) _ (unless_exact test X begins ts a x)
    where
      fits : (o : Option (List S)) → option_well X o → if_any_well X (list_if_any o)
      fits None w = tt
      fits (Some []) w = tt
      fits (Some (s ∷ ss)) w = w

      spelled : (o : Option (List S)) → option_well X o → X.cells (list_if_any o) ≡ option_cells X o
      spelled None w = empty
      spelled (Some l) w = refl

      ends : (o : Option (List S)) (rest : List Token) → option_well X o → unless_stops test X o rest → if_any_stops test X (list_if_any o) rest
      ends None rest w h = h
      ends (Some []) rest w h = absurd (never w)
      ends (Some (s ∷ ss)) rest w h = h

      ended : (o : Option (List S)) (rest : List Token) → option_well X o → if_any_stops test X (list_if_any o) rest → unless_stops test X o rest
      ended None rest w h = h
      ended (Some []) rest w h = absurd (never w)
      ended (Some (s ∷ ss)) rest w h = h

      back : (l : List S) → if_any_well X l → (o : Option (List S)) × (list_if_any o ≡ l) × option_well X o
      back [] w = (None, refl, tt)
      back (s ∷ ss) w = (Some (s ∷ ss), refl, w)
