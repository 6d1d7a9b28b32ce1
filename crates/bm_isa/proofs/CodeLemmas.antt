-- The bytes of instructions: what they are the bytes of.
use Rattle.std.proofs.lemmas.Bool.Decides.{nat_tests}
use Rattle.std.proofs.Common.{◌≡◌, ◌≢◌, ◌==◌, true, false, ◌∙◌, sym, ap, refl, ℕ, suc, ◌+◌, ◌<◌, List, [], ◌∷◌, ◌++◌, length, All, arith, append_assoc}
use Rattle.std.proofs.lemmas.List.{length-append}
use Rattle.lu_spec.specs.LittleEndian.{little_endian}
use Rattle.lu_spec.proofs.LittleEndianLemmas.{same_front_4, same_front_8}
use Rattle.bm_isa.specs.declared.instr.Instr.{Instr}
use Rattle.bm_isa.specs.declared.instr.Operands.{Operands}
use Rattle.bm_isa.specs.declared.instr.Operands.TheVariants.{Nothing, One, Two, Three, Word}
use Rattle.bm_isa.specs.Encoding.{parts_of, operand_bytes, instruction_bytes, code_bytes, OperandsFit, FitsMachine, BeginsWithNone, IsFirstBad}
use Rattle.bm_isa.proofs.Inverse.{same_from_parts, same_kind, kind_of}
use Rattle.bm_isa.proofs.ReadingLemmas.{split_two, split_three}

-- operands of one kind at the front
same_operands : (o p : Operands) (rest more : List ℕ) → kind_of o ≡ kind_of p → OperandsFit o → OperandsFit p → operand_bytes o ++ rest ≡ operand_bytes p ++ more → (o ≡ p) × (rest ≡ more)
same_operands Nothing Nothing rest more k f g e = (refl, e)
same_operands Nothing (One x) rest more k f g e = absurd (cc)
same_operands Nothing (Two x y) rest more k f g e = absurd (cc)
same_operands Nothing (Three x y z) rest more k f g e = absurd (cc)
same_operands Nothing (Word w) rest more k f g e = absurd (cc)
same_operands (One a) Nothing rest more k f g e = absurd (cc)
same_operands (One a) (One x) rest more k f g e = let s = same_front_4 a x rest more f g e in (ap One s.0, s.1)
same_operands (One a) (Two x y) rest more k f g e = absurd (cc)
same_operands (One a) (Three x y z) rest more k f g e = absurd (cc)
same_operands (One a) (Word w) rest more k f g e = absurd (cc)
same_operands (Two a b) Nothing rest more k f g e = absurd (cc)
same_operands (Two a b) (One x) rest more k f g e = absurd (cc)
same_operands (Two a b) (Two x y) rest more k f g e =
    let s = same_front_4 a x (little_endian 4 b ++ rest) (little_endian 4 y ++ more) f.0 g.0 (sym (split_two a b rest _ refl) ∙ (e ∙ split_two x y more _ refl)) in
    let t = same_front_4 b y rest more f.1 g.1 s.1 in
    let is : Two a b ≡ Two x y = cc (s.0, t.0) in (is, t.1)
same_operands (Two a b) (Three x y z) rest more k f g e = absurd (cc)
same_operands (Two a b) (Word w) rest more k f g e = absurd (cc)
same_operands (Three a b c) Nothing rest more k f g e = absurd (cc)
same_operands (Three a b c) (One x) rest more k f g e = absurd (cc)
same_operands (Three a b c) (Two x y) rest more k f g e = absurd (cc)
same_operands (Three a b c) (Three x y z) rest more k f g e =
    let s = same_front_4 a x (little_endian 4 b ++ (little_endian 4 c ++ rest)) (little_endian 4 y ++ (little_endian 4 z ++ more)) f.0 g.0 (sym (split_three a b c rest _ refl) ∙ (e ∙ split_three x y z more _ refl)) in
    let t = same_front_4 b y (little_endian 4 c ++ rest) (little_endian 4 z ++ more) f.1 g.1 s.1 in
    let u = same_front_4 c z rest more f.2 g.2 t.1 in
    let is : Three a b c ≡ Three x y z = cc (s.0, t.0, u.0) in (is, u.1)
same_operands (Three a b c) (Word w) rest more k f g e = absurd (cc)
same_operands (Word v) Nothing rest more k f g e = absurd (cc)
same_operands (Word v) (One x) rest more k f g e = absurd (cc)
same_operands (Word v) (Two x y) rest more k f g e = absurd (cc)
same_operands (Word v) (Three x y z) rest more k f g e = absurd (cc)
same_operands (Word v) (Word w) rest more k f g e = let s = same_front_8 v w rest more f g e in (ap Word s.0, s.1)

-- one instruction at the front
pub same_front : (i j : Instr) (rest more : List ℕ) → FitsMachine i → FitsMachine j → instruction_bytes i ++ rest ≡ instruction_bytes j ++ more → (i ≡ j) × (rest ≡ more)
unfolding instruction_bytes FitsMachine
same_front i j rest more f g e =
    let number : (parts_of i).0 ≡ (parts_of j).0 = cc in
    let tail : operand_bytes (parts_of i).1 ++ rest ≡ operand_bytes (parts_of j).1 ++ more = cc in
    let s = same_operands (parts_of i).1 (parts_of j).1 rest more (same_kind i j number) f g tail in
    let parts : ◌≡◌ {A = ℕ × Operands} ((parts_of i).0, (parts_of i).1) ((parts_of j).0, (parts_of j).1) = cc (number, s.0) in
    (same_from_parts i j parts, s.1)

-- an instruction has a byte
pub some_byte : (i : Instr) (rest bytes : List ℕ) → bytes ≡ instruction_bytes i ++ rest → length rest < length bytes
unfolding instruction_bytes
some_byte i rest bytes e =
    let long : length bytes ≡ 1 + (length (operand_bytes (parts_of i).1) + length rest) = ap length e ∙ simp length-append (omega arith) in omega (arith, long)

not_empty : (i : Instr) (rest : List ℕ) → [] ≡ instruction_bytes i ++ rest → ⊥
not_empty i rest e = omega (arith, some_byte i rest [] e)

fits_first : (i : Instr) (c : List Instr) → All FitsMachine (i ∷ c) → FitsMachine i
fits_first i c f = f 0 i (omega arith)

fits_rest : (i : Instr) (c : List Instr) → All FitsMachine (i ∷ c) → All FitsMachine c
fits_rest i c f = λ k d below. f (suc k) d (omega arith)

-- no two lists of instructions have the same bytes
pub same_code : (c d : List Instr) → All FitsMachine c → All FitsMachine d → code_bytes c ≡ code_bytes d → c ≡ d
same_code [] [] f g e = refl
same_code [] (j ∷ d) f g e = absurd (not_empty j (code_bytes d) e)
same_code (i ∷ c) [] f g e = absurd (not_empty i (code_bytes c) (sym e))
same_code (i ∷ c) (j ∷ d) f g e =
    let s = same_front i j (code_bytes c) (code_bytes d) (fits_first i c f) (fits_first j d g) e in
    let below = same_code c d (fits_rest i c f) (fits_rest j d g) s.1 in cc

-- bytes with a place at whose front no instruction stands are those of no instructions
pub no_code : (c d : List Instr) (rest : List ℕ) → All FitsMachine c → All FitsMachine d → code_bytes d ≡ code_bytes c ++ rest → rest ≢ [] → BeginsWithNone rest → ⊥
no_code [] [] rest f g e more none = more (sym e)
no_code [] (j ∷ d) rest f g e more none = none j (code_bytes d) (fits_first j d g) (sym e)
no_code (i ∷ c) [] rest f g e more none =
    not_empty i (code_bytes c ++ rest) (e ∙ append_assoc (instruction_bytes i) (code_bytes c) rest)
no_code (i ∷ c) (j ∷ d) rest f g e more none =
    let s = same_front j i (code_bytes d) (code_bytes c ++ rest) (fits_first j d g) (fits_first i c f) (e ∙ append_assoc (instruction_bytes i) (code_bytes c) rest) in
    no_code c d rest (fits_rest i c f) (fits_rest j d g) s.1 more none

pub not_encoded : (bytes : List ℕ) (at : ℕ) (code : List Instr) → IsFirstBad bytes at → All FitsMachine code → code_bytes code ≡ bytes → ⊥
not_encoded bytes at code bad fits e = no_code bad.code code bad.rest bad.fits fits (e ∙ bad.split) bad.more bad.none

-- there is one first bad place
same_place : (c d : List Instr) (rest more : List ℕ) → All FitsMachine c → All FitsMachine d → code_bytes c ++ rest ≡ code_bytes d ++ more → BeginsWithNone rest → BeginsWithNone more → length (code_bytes c) ≡ length (code_bytes d)
same_place [] [] rest more f g e p q = refl
same_place [] (j ∷ d) rest more f g e p q =
    absurd (p j (code_bytes d ++ more) (fits_first j d g) (e ∙ append_assoc (instruction_bytes j) (code_bytes d) more))
same_place (i ∷ c) [] rest more f g e p q =
    absurd (q i (code_bytes c ++ rest) (fits_first i c f) (sym e ∙ append_assoc (instruction_bytes i) (code_bytes c) rest))
same_place (i ∷ c) (j ∷ d) rest more f g e p q =
    let s = same_front i j (code_bytes c ++ rest) (code_bytes d ++ more) (fits_first i c f) (fits_first j d g) (sym (append_assoc (instruction_bytes i) (code_bytes c) rest) ∙ (e ∙ append_assoc (instruction_bytes j) (code_bytes d) more)) in
    let below = same_place c d rest more (fits_rest i c f) (fits_rest j d g) s.1 p q in
    simp length-append (cc (below, ap (λ k. length (instruction_bytes k)) s.0))

pub same_first_bad : (bytes : List ℕ) (m n : ℕ) → IsFirstBad bytes m → IsFirstBad bytes n → m ≡ n
same_first_bad bytes m n a b =
    sym a.offset ∙ (same_place a.code b.code a.rest b.rest a.fits b.fits (sym a.split ∙ b.split) a.none b.none ∙ b.offset)

-- what `is_empty` says
pub empty_if : (bytes : List ℕ) → true ≡ (length bytes == 0) → bytes ≡ []
empty_if [] e = refl
empty_if (b ∷ bytes) e = absurd (grind (arith, nat_tests))

pub not_empty_if : (bytes : List ℕ) → false ≡ (length bytes == 0) → bytes ≢ []
not_empty_if [] e = λ q. absurd (grind (arith, nat_tests))
not_empty_if (b ∷ bytes) e = λ q. cc
