-- What stands at the front of the bytes behind an instruction's number.
use Rattle.std.proofs.Common.{◌≡◌, ◌≢◌, ◌∙◌, sym, ap, refl, subst, ℕ, ◌<◌, ◌≤◌, ◌^◌, List, [], ◌∷◌, ◌++◌, length, Option, Some, None, MatchOption, arith, append_assoc}
use Rattle.std.proofs.lemmas.List.{length-append}
use Rattle.lu_spec.specs.LittleEndian.{little_endian}
use Rattle.lu_spec.proofs.LittleEndianLemmas.{length-little_endian, same_front_4, same_front_8}
use Rattle.bm_isa.specs.declared.instr.Instr.{Instr}
use Rattle.bm_isa.specs.declared.instr.Operands.{Operands}
use Rattle.bm_isa.specs.declared.instr.Operands.TheVariants.{Nothing, One, Two, Three, Word}
use Rattle.bm_isa.specs.Encoding.{parts_of, operand_bytes, instruction_bytes, OperandsFit, FitsMachine, BeginsWithNone}
use Rattle.bm_isa.specs.Reading.{IsWord, HasNumbers, NoneReads, IsRead}

pub MatchOption-weaker : {A : Type 0} (o : Option A) {P R : Type 0} {Q S : A → Type 0} → MatchOption o P Q → (P → R) → ((x : A) → Q x → S x) → MatchOption o R S
MatchOption-weaker None h f g = f h
MatchOption-weaker (Some x) h f g = g x h

pub read_from_parts : (number : ℕ) (o : Operands) (i : Instr) (bytes rest : List ℕ) → parts_of i ≡ (number, o) → OperandsFit o → bytes ≡ operand_bytes o ++ rest → IsRead number bytes i rest
unfolding FitsMachine
read_from_parts number o i bytes rest e fits split = record {
  same = ap (λ p. p.0) e;
  split = split ∙ ap (λ p. operand_bytes p.1 ++ rest) (sym e);
  fits = subst (λ p. OperandsFit p.1) (sym e) fits;
}

too_long_4 : (bytes rest : List ℕ) (a : ℕ) → bytes ≡ little_endian 4 a ++ rest → 4 ≤ length bytes
too_long_4 bytes rest a e = omega (arith, ap length e, length-append (little_endian 4 a) rest, length-little_endian 4 a)

too_long_8 : (bytes rest : List ℕ) (a : ℕ) → bytes ≡ little_endian 8 a ++ rest → 8 ≤ length bytes
too_long_8 bytes rest a e = omega (arith, ap length e, length-append (little_endian 8 a) rest, length-little_endian 8 a)

-- a word
pub no_word_in_short : (number : ℕ) (bytes : List ℕ) → length bytes < 8 → NoneReads IsWord number bytes
no_word_in_short number bytes short Nothing rest kind fits e i = absurd kind
no_word_in_short number bytes short (One a) rest kind fits e i = absurd kind
no_word_in_short number bytes short (Two a b) rest kind fits e i = absurd kind
no_word_in_short number bytes short (Three a b c) rest kind fits e i = absurd kind
no_word_in_short number bytes short (Word word) rest kind fits e i = absurd (omega (arith, too_long_8 bytes rest word e))

pub no_word : (number : ℕ) (bytes rest : List ℕ) (word : ℕ) → bytes ≡ little_endian 8 word ++ rest → word < 2 ^ 64 → ((i : Instr) → parts_of i ≢ (number, Word word)) → NoneReads IsWord number bytes
no_word number bytes rest word e low none Nothing more kind fits f i = absurd kind
no_word number bytes rest word e low none (One a) more kind fits f i = absurd kind
no_word number bytes rest word e low none (Two a b) more kind fits f i = absurd kind
no_word number bytes rest word e low none (Three a b c) more kind fits f i = absurd kind
no_word number bytes rest word e low none (Word other) more kind fits f i =
    let same = same_front_8 other word more rest fits low (sym f ∙ e) in λ p. none i (p ∙ ap (λ w. (number, Word w)) same.0)

-- one to three numbers of four bytes
pub split_two : (a b : ℕ) (rest bytes : List ℕ) → bytes ≡ operand_bytes (Two a b) ++ rest → bytes ≡ little_endian 4 a ++ (little_endian 4 b ++ rest)
split_two a b rest bytes e = e ∙ append_assoc (little_endian 4 a) (little_endian 4 b) rest

pub split_three : (a b c : ℕ) (rest bytes : List ℕ) → bytes ≡ operand_bytes (Three a b c) ++ rest → bytes ≡ little_endian 4 a ++ (little_endian 4 b ++ (little_endian 4 c ++ rest))
split_three a b c rest bytes e =
    e ∙ (append_assoc (little_endian 4 a ++ little_endian 4 b) (little_endian 4 c) rest ∙ append_assoc (little_endian 4 a) (little_endian 4 b) (little_endian 4 c ++ rest))

pub join_two : (a b : ℕ) (rest more bytes : List ℕ) → bytes ≡ little_endian 4 a ++ rest → rest ≡ little_endian 4 b ++ more → bytes ≡ operand_bytes (Two a b) ++ more
join_two a b rest more bytes e f =
    e ∙ (ap (λ l. little_endian 4 a ++ l) f ∙ sym (append_assoc (little_endian 4 a) (little_endian 4 b) more))

pub join_three : (a b c : ℕ) (rest more last bytes : List ℕ) → bytes ≡ little_endian 4 a ++ rest → rest ≡ little_endian 4 b ++ more → more ≡ little_endian 4 c ++ last → bytes ≡ operand_bytes (Three a b c) ++ last
join_three a b c rest more last bytes e f g =
    join_two a b rest more bytes e f
    ∙ (ap (λ l. operand_bytes (Two a b) ++ l) g ∙ sym (append_assoc (little_endian 4 a ++ little_endian 4 b) (little_endian 4 c) last))

module _ (number : ℕ) (bytes : List ℕ) where
  pub no_numbers_in_short : length bytes < 4 → NoneReads HasNumbers number bytes
  no_numbers_in_short short Nothing more kind fits f i = absurd kind
  no_numbers_in_short short (Word word) more kind fits f i = absurd kind
  no_numbers_in_short short (One a) more kind fits f i = absurd (omega (arith, too_long_4 bytes more a f))
  no_numbers_in_short short (Two a b) more kind fits f i =
      absurd (omega (arith, too_long_4 bytes (little_endian 4 b ++ more) a (split_two a b more bytes f)))
  no_numbers_in_short short (Three a b c) more kind fits f i =
      absurd (omega (arith, too_long_4 bytes (little_endian 4 b ++ (little_endian 4 c ++ more)) a (split_three a b c more bytes f)))

  module _ (a : ℕ) (rest : List ℕ) (e : bytes ≡ little_endian 4 a ++ rest) (low : a < 2 ^ 32) (no_one : (i : Instr) → parts_of i ≢ (number, One a)) where
    first : (other : ℕ) (tail : List ℕ) → other < 2 ^ 32 → bytes ≡ little_endian 4 other ++ tail → (other ≡ a) × (rest ≡ tail)
    first other tail fits f = let same = same_front_4 a other rest tail low fits (sym e ∙ f) in (sym same.0, same.1)

    not_one : (other : ℕ) (tail : List ℕ) → other < 2 ^ 32 → bytes ≡ little_endian 4 other ++ tail → (i : Instr) → parts_of i ≢ (number, One other)
    not_one other tail fits f i = λ p. no_one i (p ∙ ap (λ n. (number, One n)) (first other tail fits f).0)

    pub no_second : length rest < 4 → NoneReads HasNumbers number bytes
    no_second short Nothing more kind fits f i = absurd kind
    no_second short (Word word) more kind fits f i = absurd kind
    no_second short (One other) more kind fits f i = not_one other more fits f i
    no_second short (Two other b) more kind fits f i =
        let same = first other (little_endian 4 b ++ more) fits.0 (split_two other b more bytes f) in
        absurd (omega (arith, too_long_4 rest more b same.1))
    no_second short (Three other b c) more kind fits f i =
        let same = first other (little_endian 4 b ++ (little_endian 4 c ++ more)) fits.0 (split_three other b c more bytes f) in
        absurd (omega (arith, too_long_4 rest (little_endian 4 c ++ more) b same.1))

    module _ (b : ℕ) (last : List ℕ) (g : rest ≡ little_endian 4 b ++ last) (low_b : b < 2 ^ 32) (no_two : (i : Instr) → parts_of i ≢ (number, Two a b)) where
      second : (other : ℕ) (tail : List ℕ) → other < 2 ^ 32 → rest ≡ little_endian 4 other ++ tail → (other ≡ b) × (last ≡ tail)
      second other tail fits f = let same = same_front_4 b other last tail low_b fits (sym g ∙ f) in (sym same.0, same.1)

      not_two : (other_a other_b : ℕ) (tail : List ℕ) → (other_a < 2 ^ 32) × (other_b < 2 ^ 32) → bytes ≡ operand_bytes (Two other_a other_b) ++ tail → (i : Instr) → parts_of i ≢ (number, Two other_a other_b)
      not_two other_a other_b tail fits f i =
          let one = first other_a (little_endian 4 other_b ++ tail) fits.0 (split_two other_a other_b tail bytes f) in
          let two = second other_b tail fits.1 one.1 in
          let same : ◌≡◌ {A = ℕ × Operands} (number, Two other_a other_b) (number, Two a b) = cc (one.0, two.0) in λ p. no_two i (p ∙ same)

      pub no_third : length last < 4 → NoneReads HasNumbers number bytes
      no_third short Nothing more kind fits f i = absurd kind
      no_third short (Word word) more kind fits f i = absurd kind
      no_third short (One other) more kind fits f i = not_one other more fits f i
      no_third short (Two other_a other_b) more kind fits f i = not_two other_a other_b more fits f i
      no_third short (Three other_a other_b c) more kind fits f i =
          let one = first other_a (little_endian 4 other_b ++ (little_endian 4 c ++ more)) fits.0 (split_three other_a other_b c more bytes f) in
          let two = second other_b (little_endian 4 c ++ more) fits.1 one.1 in absurd (omega (arith, too_long_4 last more c two.1))

      module _ (c : ℕ) (end : List ℕ) (h : last ≡ little_endian 4 c ++ end) (low_c : c < 2 ^ 32) (no_three : (i : Instr) → parts_of i ≢ (number, Three a b c)) where
        pub no_numbers : NoneReads HasNumbers number bytes
        no_numbers Nothing more kind fits f i = absurd kind
        no_numbers (Word word) more kind fits f i = absurd kind
        no_numbers (One other) more kind fits f i = not_one other more fits f i
        no_numbers (Two other_a other_b) more kind fits f i = not_two other_a other_b more fits f i
        no_numbers (Three other_a other_b other_c) more kind fits f i =
            let one = first other_a (little_endian 4 other_b ++ (little_endian 4 other_c ++ more)) fits.0 (split_three other_a other_b other_c more bytes f) in
            let two = second other_b (little_endian 4 other_c ++ more) fits.1 one.1 in
            let three = same_front_4 c other_c end more low_c fits.2 (sym h ∙ two.1) in
            let same : ◌≡◌ {A = ℕ × Operands} (number, Three other_a other_b other_c) (number, Three a b c) = cc (one.0, two.0, three.0) in
            λ p. no_three i (p ∙ same)

-- the whole of an instruction
pub none_begins : (number : ℕ) (bytes : List ℕ) → ((i : Instr) → parts_of i ≢ (number, Nothing)) → NoneReads IsWord number bytes → NoneReads HasNumbers number bytes → BeginsWithNone (number ∷ bytes)
unfolding instruction_bytes FitsMachine
none_begins number bytes plain word numbers i rest fits e = by_kind (parts_of i).1 refl
  where
    head : (parts_of i).0 ≡ number
    head = cc

    tail : bytes ≡ operand_bytes (parts_of i).1 ++ rest
    tail = cc

    is : (o : Operands) → (parts_of i).1 ≡ o → parts_of i ≡ (number, o)
    is o f = let e : ◌≡◌ {A = ℕ × Operands} ((parts_of i).0, (parts_of i).1) (number, o) = cc (head, f) in e

    by_kind : (o : Operands) → (parts_of i).1 ≡ o → ⊥
    by_kind Nothing f = plain i (is Nothing f)
    by_kind (Word w) f = word (Word w) rest tt (subst OperandsFit f fits) (tail ∙ ap (λ o. operand_bytes o ++ rest) f) i (is (Word w) f)
    by_kind (One a) f = numbers (One a) rest tt (subst OperandsFit f fits) (tail ∙ ap (λ o. operand_bytes o ++ rest) f) i (is (One a) f)
    by_kind (Two a b) f = numbers (Two a b) rest tt (subst OperandsFit f fits) (tail ∙ ap (λ o. operand_bytes o ++ rest) f) i (is (Two a b) f)
    by_kind (Three a b c) f = numbers (Three a b c) rest tt (subst OperandsFit f fits) (tail ∙ ap (λ o. operand_bytes o ++ rest) f) i (is (Three a b c) f)

pub none_in_empty : (bytes : List ℕ) → length bytes ≡ 0 → BeginsWithNone bytes
unfolding instruction_bytes
none_in_empty [] long i rest fits e = absurd (cc)
none_in_empty (b ∷ bytes) long i rest fits e = absurd (omega arith)

pub front_from_read : (number : ℕ) (bytes : List ℕ) (i : Instr) (rest : List ℕ) → IsRead number bytes i rest → number ∷ bytes ≡ instruction_bytes i ++ rest
unfolding instruction_bytes
front_from_read number bytes i rest r = ap (λ n. n ∷ bytes) (sym r.same) ∙ ap (λ l. (parts_of i).0 ∷ l) r.split

-- an instruction without operands
pub plain_read : (number : ℕ) (i : Instr) (bytes : List ℕ) → parts_of i ≡ (number, Nothing) → IsRead number bytes i bytes
plain_read number i bytes e = read_from_parts number Nothing i bytes bytes e tt refl
