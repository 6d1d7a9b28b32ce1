-- Reading a list is exact, where what ends it depends on its last tree.
use Rattle.std.proofs.Common.{◌≡◌, ◌∙◌, refl, sym, ap, subst, ℕ, zero, suc, ◌≤◌, Bool, true, false, List, [], ◌∷◌, ◌++◌, length, arith, Ok, Err, cond}
use Rattle.c_ast.specs.declared.token.Token.{Token}
use Rattle.c_ast.specs.declared.fault.Fault.TheVariants.{Syntax, TooDeep}
use Rattle.c_ast.specs.Cells.{tokens, PassesLimit, KeepsLimits}
use Rattle.c_parse_expr.specs.Reads.{Reads, Reader, ◌>>=◌, made, pair_of, climb, snoc, some_of}
use Rattle.c_parse_expr.proofs.Exact.{Kind, Exact, Sound, IsHot, Opens, both_with, two_exact, narrow, opens_left, opens_all, opens_hot, opens_spelled}
use Rattle.c_parse_expr.proofs.Chains.{many, folded, climb_is_many, folded_snoc, shorter, list_well, list_cells, some_well, some_cells}

module _ {S : Type 0} (X : Kind S) where
  abbrev pub last_stops : List S → List Token → Type 0
  last_stops [] rest = Unit {0}
  last_stops (s ∷ []) rest = X.stops s rest
  last_stops (s ∷ (u ∷ us)) rest = last_stops (u ∷ us) rest

module _ {S : Type 0} (X : Kind S) (more : List Token → Bool) where
  abbrev pub kept_kind : Kind (List S)
  kept_kind = record { well = list_well X; cells = list_cells X; stops = λ ss rest. (more rest ≡ false) × last_stops X ss rest }

  abbrev both_stops : S × List S → List Token → Type 0
  both_stops p rest = (more rest ≡ false) × last_stops X (p.0 ∷ p.1) rest

  abbrev Two : Kind (S × List S)
  Two = both_with X (λ s. kept_kind) both_stops

module _ {S : Type 0} (X : Kind S) (more : List Token → Bool) (step : Reader S)
    (begins : (s : S) (ts : List Token) → X.well s → Opens (X.cells s) ts → more ts ≡ true)
    (nothing : more [] ≡ false)
    (glued : (s u : S) (ts : List Token) → X.well s → X.well u → Opens (X.cells u) ts → X.stops s ts)
    (each : (ts : List Token) → more ts ≡ true → Exact X ts (step ts)) where
  first_opens : (s : S) (ss : List S) (ts : List Token) → X.well s → Opens (list_cells X (s ∷ ss)) ts → more ts ≡ true
  first_opens s ss ts w h = begins s ts w (opens_left (X.cells s) (list_cells X ss) ts h)

  ended : (ts : List Token) → more ts ≡ false → Exact (kept_kind X more) ts (Ok ([], ts))
  ended ts e = record { only = onlies; sound = (tt, refl, (e, tt), λ h. cool h.0 h.1 h.2) }
    where
      onlies : (ss : List S) (rest : List Token) → list_well X ss → ts ≡ tokens (list_cells X ss) ++ rest → (more rest ≡ false) × last_stops X ss rest → KeepsLimits (list_cells X ss) → ◌≡◌ {A = Reads (List S)} (Ok ([], ts)) (Ok (ss, rest))
      onlies [] rest w f s c = ap (λ x. Ok ([], x)) f
      onlies (s ∷ ss) rest w f st c = absurd (let h = first_opens s ss ts w.0 (opens_spelled (list_cells X (s ∷ ss)) ts rest f) in cc)

      cool : (ss : List S) → list_well X ss → PassesLimit (list_cells X ss) ts → ⊥
      cool [] w h = h
      cool (s ∷ ss) w h = let k = first_opens s ss ts w.0 (opens_hot (list_cells X (s ∷ ss)) ts h) in cc

  none_left : (ts : List Token) → length ts ≤ 0 → more ts ≡ true → ⊥
  none_left [] h e = let f = nothing in cc
  none_left (t ∷ ts) h e = omega arith

  pub kept_many : (n : ℕ) (ts : List Token) → length ts ≤ n → Exact (kept_kind X more) ts (many more step n ts)
  kept_many zero ts b = go (more ts) refl
    where
      go : (c : Bool) → more ts ≡ c → Exact (kept_kind X more) ts (cond c (Err TooDeep) (Ok ([], ts)))
      go false e = ended ts e
      go true e = absurd (none_left ts b e)
  kept_many (suc n) ts b = go (more ts) refl (λ rest. kept_many n rest)
    where
      go : (c : Bool) → more ts ≡ c → ((rest : List Token) → length rest ≤ n → Exact (kept_kind X more) rest (many more step n rest))
          → Exact (kept_kind X more) ts (cond c (made (λ p. p.0 ∷ p.1) (pair_of (step ts) (λ p. many more step n p.1))) (Ok ([], ts)))
      go false e ih = ended ts e
      go true e ih = record { only = onlies; sound = sounds (pair_of (step ts) (λ p. many more step n p.1)) two.sound }
        where
          first : Exact X ts (step ts)
          first = each ts e

          later : (s : S) (rest : List Token) → step ts ≡ Ok (s, rest) → length rest ≤ n
          later s rest r =
              let known : Sound X ts (Ok (s, rest)) = subst (Sound X ts) r first.sound in
              let k = shorter (X.cells s) ts rest (λ h. let a = begins s [] known.0 h in let f = nothing in cc) known.1 in
              omega arith

          met : (s : S) (ss : List S) (rest : List Token) → X.well s → list_well X ss → both_stops X more (s, ss) rest → X.stops s (tokens (list_cells X ss) ++ rest)
          met s [] rest w v st = st.1
          met s (u ∷ us) rest w v st = glued s u _ w v.0 (opens_left (X.cells u) (list_cells X us) _ (opens_all (list_cells X (u ∷ us)) rest))

          met_hot : (s : S) (ss : List S) (ts : List Token) → X.well s → list_well X ss → PassesLimit (list_cells X ss) ts → X.stops s ts
          met_hot s [] ts w v h = absurd h
          met_hot s (u ∷ us) ts w v h = glued s u ts w v.0 (opens_left (X.cells u) (list_cells X us) ts (opens_hot (list_cells X (u ∷ us)) ts h))

          down : (s : S) (ss : List S) (rest : List Token) → both_stops X more (s, ss) rest → (more rest ≡ false) × last_stops X ss rest
          down s [] rest h = (h.0, tt)
          down s (u ∷ us) rest h = h

          up : (s : S) (ss : List S) (rest : List Token) → X.stops s (tokens (list_cells X ss) ++ rest) → (more rest ≡ false) × last_stops X ss rest → both_stops X more (s, ss) rest
          up s [] rest h k = (k.0, h)
          up s (u ∷ us) rest h k = k

          two : Exact (Two X more) ts (pair_of (step ts) (λ p. many more step n p.1))
          two = two_exact X (λ s. kept_kind X more) (both_stops X more) met met_hot down up (λ s w. ([], tt)) ts (step ts) (λ p. many more step n p.1) first (λ s rest r st. ih rest (later s rest r))

          onlies : (ss : List S) (rest : List Token) → list_well X ss → ts ≡ tokens (list_cells X ss) ++ rest → (more rest ≡ false) × last_stops X ss rest → KeepsLimits (list_cells X ss) → made (λ p. p.0 ∷ p.1) (pair_of (step ts) (λ p. many more step n p.1)) ≡ Ok (ss, rest)
          onlies [] rest w f s c = absurd (let h = s.0 in let g : more ts ≡ more rest = ap more f in cc)
          onlies (s ∷ ss) rest w f st c = ap (made (λ (p : S × List S). p.0 ∷ p.1)) (two.only (s, ss) rest w f st c)

          cool : (IsHot (Two X more) ts → ⊥) → (ss : List S) → list_well X ss → PassesLimit (list_cells X ss) ts → ⊥
          cool n [] w h = h
          cool n (s ∷ ss) w h = n ((s, ss), w, h)

          sounds : (r : Reads (S × List S)) → Sound (Two X more) ts r → Sound (kept_kind X more) ts (made (λ p. p.0 ∷ p.1) r)
          sounds (Ok p) h = (h.0, h.1, h.2, λ k. cool h.3 k.0 k.1 k.2)
          sounds (Err Syntax) h = λ k. cool h k.0 k.1 k.2
          sounds (Err TooDeep) h = (h.0.0 ∷ h.0.1, h.1, h.2)

  -- one, and then those of a list
  module _ (F : Kind S) (f_glue : (s u : S) (ts : List Token) → F.well s → X.well u → Opens (X.cells u) ts → F.stops s ts) where
    abbrev pub kept_stops : List S → List Token → Type 0
    kept_stops [] rest = more rest ≡ false
    kept_stops (s ∷ []) rest = (more rest ≡ false) × F.stops s rest
    kept_stops (s ∷ (u ∷ us)) rest = (more rest ≡ false) × last_stops X (u ∷ us) rest

    abbrev pub some_kept : Kind (List S)
    some_kept = record { well = some_well F X; cells = some_cells F X; stops = kept_stops }

    abbrev pair_stops : S × List S → List Token → Type 0
    pair_stops p rest = kept_stops (p.0 ∷ p.1) rest

    pub some_kept_exact : (item : Reader S) (ts : List Token) → Exact F ts (item ts) → Exact some_kept ts (some_of item more step ts)
    some_kept_exact item ts x = go (item ts) x
      where
        met : (s : S) (ss : List S) (rest : List Token) → F.well s → list_well X ss → pair_stops (s, ss) rest → F.stops s (tokens (list_cells X ss) ++ rest)
        met s [] rest w v st = st.1
        met s (u ∷ us) rest w v st = f_glue s u _ w v.0 (opens_left (X.cells u) (list_cells X us) _ (opens_all (list_cells X (u ∷ us)) rest))

        met_hot : (s : S) (ss : List S) (ts : List Token) → F.well s → list_well X ss → PassesLimit (list_cells X ss) ts → F.stops s ts
        met_hot s [] ts w v h = absurd h
        met_hot s (u ∷ us) ts w v h = f_glue s u ts w v.0 (opens_left (X.cells u) (list_cells X us) ts (opens_hot (list_cells X (u ∷ us)) ts h))

        down : (s : S) (ss : List S) (rest : List Token) → pair_stops (s, ss) rest → (more rest ≡ false) × last_stops X ss rest
        down s [] rest h = (h.0, tt)
        down s (u ∷ us) rest h = h

        up : (s : S) (ss : List S) (rest : List Token) → F.stops s (tokens (list_cells X ss) ++ rest) → (more rest ≡ false) × last_stops X ss rest → pair_stops (s, ss) rest
        up s [] rest h k = (k.0, h)
        up s (u ∷ us) rest h k = k

        bound : Reads S → ℕ
        bound (Ok p) = length p.1
        bound (Err f) = 0

        back : (ss : List S) → some_well F X ss → (p : S × List S) × ((p.0 ∷ p.1) ≡ ss) × (F.well p.0 × list_well X p.1)
        back [] w = absurd w
        back (s ∷ ss) w = ((s, ss), refl, w)

        go : (r : Reads S) → Exact F ts r → Exact some_kept ts (r >>= (λ a. climb more step snoc (length a.1) (a.0 ∷ []) a.1))
        go r x =
            subst (Exact some_kept ts) (same r)
            (narrow (both_with F (λ s. kept_kind X more) pair_stops) some_kept (λ p. p.0 ∷ p.1) ts (λ p w. w) (λ p w. refl) (λ p rest w h. h) (λ p rest w h. h) (λ ss w m. back ss w) _
            (two_exact F (λ s. kept_kind X more) pair_stops met met_hot down up (λ s w. ([], tt)) ts r (λ a. many more step (bound r) a.1) x
            (λ s rest e st. kept_many (bound r) rest (subst (λ q. length rest ≤ bound q) (sym e) (omega arith)))))
          where
            same : (r : Reads S) → made (λ (p : S × List S). p.0 ∷ p.1) (pair_of r (λ a. many more step (bound r) a.1)) ≡ r >>= (λ a. climb more step snoc (length a.1) (a.0 ∷ []) a.1)
            same (Err f) = refl
            same (Ok a) = one (many more step (length a.1) a.1) ∙ sym (climb_is_many snoc more step (length a.1) (a.0 ∷ []) a.1)
              where
                one : (q : Reads (List S)) → made (λ (p : S × List S). p.0 ∷ p.1) (q >>= (λ q. Ok ((a.0, q.0), q.1))) ≡ made (folded snoc (a.0 ∷ [])) q
                one (Ok q) = ap (λ l. Ok (l, q.1)) (sym (folded_snoc (a.0 ∷ []) q.0))
                one (Err f) = refl
