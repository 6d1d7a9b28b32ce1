-- The instructions that are read are those whose encoding the bytes are.
use Rattle.std.proofs.Common.{◌≡◌, ◌∙◌, ap, sym, refl, subst, ℕ, zero, suc, ◌+◌, ◌^◌, ◌<◌, ◌≤◌, Bool, true, false, cond, ltb, List, [], ◌∷◌, ◌++◌, length, take, drop, Option, Some, None, All, Err, append_assoc, length-append, arith}
use Rattle.std.specs.Prelude.{slice_get}
use Rattle.std.specs.List.{AllByRecursion}
use Rattle.std.proofs.lemmas.List.Elements.{All-from_recursion}
use Rattle.std.specs.Int.{w32, w64, from_le_bytes}
use Rattle.std.proofs.lemmas.Bool.{ltb-false}
use Rattle.lu_spec.specs.Then.{then_option}
use Rattle.lu_spec.specs.LittleEndian.{little_endian}
use Rattle.bm_isa.specs.declared.instr.Instr.{Instr}
use Rattle.bm_isa.specs.declared.instr.Instr.TheVariants.{Const, GetLocal, SetLocal, Pop, Duplicate, Add, Subtract, Multiply, DivideSigned, DivideUnsigned, RemainderSigned, RemainderUnsigned, And, Or, Xor, ShiftLeft, ShiftRightSigned, ShiftRightUnsigned, Normalize, Equal, LessSigned, LessUnsigned, Not, Jump, JumpIfZero, AddPointer, SubtractPointer, PointerDifference, PointerLess, CheckPointer, Field, Index, IndexEnd, Load, Store, CopyBytes, ReadUnion, WriteUnion, Call, CallIndirect, Return, ReturnValue, Swap, Allocate, Free, SendMessage, Panic}
use Rattle.bm_isa.specs.declared.instr.Operands.{Operands}
use Rattle.bm_isa.specs.declared.instr.Operands.TheVariants.{Nothing, One, Two, Three, Word}
use Rattle.bm_isa.specs.Encoding.{parts_of, operand_bytes, instruction_bytes, code_bytes, OperandsFit, FitsMachine}
use Rattle.cg_image_read.specs.Decoding.{Form, plain, with_word, with_one, with_two, with_three, forms, operand_at, formed_at, instruction_at, code_of, decoded}
use Rattle.cg_image_read.specs.declared.error.ImageError.TheVariants.{Table}
use Rattle.cg_image_read.specs.Items.{code_in}
use Rattle.cg_image_read.proofs.Bytes.{IsBytes, IsBytes-rest, Takes, Takes-then, takes_4, takes_8, behind_4, behind_8, enough}

-- the instructions of a form have that number
abbrev IsForm : ℕ → Form → Type 0
IsForm n (plain i) = parts_of i ≡ (n, Nothing)
IsForm n (with_word f) = (a : ℕ) → parts_of (f a) ≡ (n, Word a)
IsForm n (with_one f) = (a : ℕ) → parts_of (f a) ≡ (n, One a)
IsForm n (with_two f) = (a b : ℕ) → parts_of (f a b) ≡ (n, Two a b)
IsForm n (with_three f) = (a b c : ℕ) → parts_of (f a b c) ≡ (n, Three a b c)

abbrev AreForms : ℕ → List Form → Type 0
AreForms n [] = Unit {0}
AreForms n (form ∷ more) = IsForm n form × AreForms (suc n) more

forms_are : AreForms 1 forms
unfolding parts_of
forms_are =
    ((λ a. refl), ((λ a. refl), ((λ a. refl), (refl, (refl, (refl, (refl, (refl, (refl, (refl, (refl, (refl, (refl, (refl, (refl, ((λ a. refl), ((λ a. refl), ((λ a. refl), ((λ a. refl), (refl, (refl, (refl, (refl, ((λ a. refl), ((λ a. refl), ((λ a. refl), ((λ a. refl), ((λ a. refl), (refl, ((λ a. refl), ((λ a. refl), ((λ a b. refl), ((λ a b. refl), ((λ a. refl), ((λ a. refl), ((λ a. refl), ((λ a. refl), ((λ a b c. refl), ((λ a. refl), ((λ a. refl), (refl, (refl, (refl, ((λ a. refl), (refl, (refl, (refl, tt)))))))))))))))))))))))))))))))))))))))))))))))

form_at : (n k m : ℕ) (all : List Form) (form : Form) → m ≡ k + n → AreForms n all → slice_get all k ≡ Some form → IsForm m form
form_at n k m [] form e are h = absurd cc
form_at n zero m (first ∷ more) form e are h =
    let same : first ≡ form = cc in
    let number : n ≡ m = omega arith in
    subst (λ x. IsForm x form) number (subst (IsForm n) same are.0)
form_at n (suc k) m (first ∷ more) form e are h = form_at (suc n) k m more form (omega arith) are.1 h

-- an instruction with its operands at the front
record Reads (number : ℕ) (bytes : List ℕ) (i : Instr) (rest : List ℕ) : Type 0 where
  number_is : (parts_of i).0 ≡ number
  takes : Takes bytes (operand_bytes (parts_of i).1) rest
  fits : OperandsFit (parts_of i).1

option_ok : {A B : Type 0} (o : Option A) (f : A → Option B) (y : B) → then_option o f ≡ Some y → (x : A) × (o ≡ Some x) × (f x ≡ Some y)
option_ok (Some x) f y e = (x, refl, e)
option_ok None f y e = absurd cc

guarded : {A : Type 0} (b : Bool) (x y : A) → cond b None (Some x) ≡ Some y → (b ≡ false) × (x ≡ y)
guarded true x y e = absurd cc
guarded false x y e = (refl, cc)

operand_4 : (bytes : List ℕ) (x : ℕ × List ℕ) → IsBytes bytes → operand_at w32 bytes ≡ Some x → Takes bytes (little_endian 4 x.0) x.1 × (x.0 < 2 ^ 32)
operand_4 bytes x fits e =
    let g = guarded (ltb (length bytes) 4) (from_le_bytes w32 (take 4 bytes), drop 4 bytes) x e in
    subst (λ (y : ℕ × List ℕ). Takes bytes (little_endian 4 y.0) y.1 × (y.0 < 2 ^ 32)) g.1 (takes_4 bytes fits (ltb-false _ _ g.0))

operand_8 : (bytes : List ℕ) (x : ℕ × List ℕ) → IsBytes bytes → operand_at w64 bytes ≡ Some x → Takes bytes (little_endian 8 x.0) x.1 × (x.0 < 2 ^ 64)
operand_8 bytes x fits e =
    let g = guarded (ltb (length bytes) 8) (from_le_bytes w64 (take 8 bytes), drop 8 bytes) x e in
    subst (λ (y : ℕ × List ℕ). Takes bytes (little_endian 8 y.0) y.1 × (y.0 < 2 ^ 64)) g.1 (takes_8 bytes fits (ltb-false _ _ g.0))

reads : (number : ℕ) (bytes : List ℕ) (i : Instr) (o : Operands) (rest : List ℕ) → parts_of i ≡ (number, o) → Takes bytes (operand_bytes o) rest → OperandsFit o → Reads number bytes i rest
reads number bytes i o rest e takes fits = record {
  number_is = ap (λ (p : ℕ × Operands). p.0) e;
  takes = subst (λ p. Takes bytes (operand_bytes p) rest) (sym (ap (λ (p : ℕ × Operands). p.1) e)) takes;
  fits = subst OperandsFit (sym (ap (λ (p : ℕ × Operands). p.1) e)) fits;
}

some_is : {A : Type 0} (x y : A) → Some x ≡ Some y → x ≡ y
some_is x y e = cc

formed : (number : ℕ) (form : Form) (bytes : List ℕ) (x : Instr × List ℕ) → IsForm number form → IsBytes bytes → formed_at form bytes ≡ Some x → Reads number bytes x.0 x.1
formed number (plain i) bytes x is fits e =
    subst (λ (y : Instr × List ℕ). Reads number bytes y.0 y.1) (some_is (i, bytes) x e) (reads number bytes i Nothing bytes is (record { parts = refl; fits = fits }) tt)
formed number (with_word f) bytes x is fits e =
    let a = option_ok (operand_at w64 bytes) (λ a. Some (f a.0, a.1)) x e in
    let s = operand_8 bytes a.0 fits a.1 in
    subst (λ (y : Instr × List ℕ). Reads number bytes y.0 y.1) (some_is (f a.0.0, a.0.1) x a.2) (reads number bytes (f a.0.0) (Word a.0.0) a.0.1 (is a.0.0) s.0 s.1)
formed number (with_one f) bytes x is fits e =
    let a = option_ok (operand_at w32 bytes) (λ a. Some (f a.0, a.1)) x e in
    let s = operand_4 bytes a.0 fits a.1 in
    subst (λ (y : Instr × List ℕ). Reads number bytes y.0 y.1) (some_is (f a.0.0, a.0.1) x a.2) (reads number bytes (f a.0.0) (One a.0.0) a.0.1 (is a.0.0) s.0 s.1)
formed number (with_two f) bytes x is fits e =
    let a = option_ok (operand_at w32 bytes) (λ a. then_option (operand_at w32 a.1) (λ b. Some (f a.0 b.0, b.1))) x e in
    let b = option_ok (operand_at w32 a.0.1) (λ b. Some (f a.0.0 b.0, b.1)) x a.2 in
    let s = operand_4 bytes a.0 fits a.1 in
    let t = operand_4 a.0.1 b.0 s.0.fits b.1 in
    let both = Takes-then bytes (little_endian 4 a.0.0) a.0.1 (little_endian 4 b.0.0) b.0.1 s.0 t.0 in
    subst (λ (y : Instr × List ℕ). Reads number bytes y.0 y.1) (some_is (f a.0.0 b.0.0, b.0.1) x b.2) (reads number bytes (f a.0.0 b.0.0) (Two a.0.0 b.0.0) b.0.1 (is a.0.0 b.0.0) both (s.1, t.1))
formed number (with_three f) bytes x is fits e =
    let a = option_ok (operand_at w32 bytes) (λ a. then_option (operand_at w32 a.1) (λ b. then_option (operand_at w32 b.1) (λ c. Some (f a.0 b.0 c.0, c.1)))) x e in
    let b = option_ok (operand_at w32 a.0.1) (λ b. then_option (operand_at w32 b.1) (λ c. Some (f a.0.0 b.0 c.0, c.1))) x a.2 in
    let d = option_ok (operand_at w32 b.0.1) (λ c. Some (f a.0.0 b.0.0 c.0, c.1)) x b.2 in
    let s = operand_4 bytes a.0 fits a.1 in
    let t = operand_4 a.0.1 b.0 s.0.fits b.1 in
    let u = operand_4 b.0.1 d.0 t.0.fits d.1 in
    let two = Takes-then bytes (little_endian 4 a.0.0) a.0.1 (little_endian 4 b.0.0) b.0.1 s.0 t.0 in
    let all = Takes-then bytes (little_endian 4 a.0.0 ++ little_endian 4 b.0.0) b.0.1 (little_endian 4 d.0.0) d.0.1 two u.0 in
    subst (λ (y : Instr × List ℕ). Reads number bytes y.0 y.1) (some_is (f a.0.0 b.0.0 d.0.0, d.0.1) x d.2) (reads number bytes (f a.0.0 b.0.0 d.0.0) (Three a.0.0 b.0.0 d.0.0) d.0.1 (is a.0.0 b.0.0 d.0.0) all (s.1, t.1, u.1))

-- the instruction that is read has its encoding at the front
instruction_takes : (bytes : List ℕ) (x : Instr × List ℕ) → IsBytes bytes → instruction_at bytes ≡ Some x → Takes bytes (instruction_bytes x.0) x.1 × FitsMachine x.0
unfolding instruction_at instruction_bytes FitsMachine
instruction_takes [] x fits e = absurd cc
instruction_takes (zero ∷ bytes) x fits e = absurd cc
instruction_takes (suc n ∷ bytes) x fits e =
    let a = option_ok (slice_get forms n) (λ form. formed_at form bytes) x e in
    let is : IsForm (suc n) a.0 = form_at 1 n (suc n) forms a.0 (omega arith) forms_are a.1 in
    let r = formed (suc n) a.0 bytes x is (IsBytes-rest (suc n) bytes fits) a.2 in
    (record { parts = ap (λ t. suc n ∷ t) r.takes.parts ∙ ap (λ k. k ∷ (operand_bytes (parts_of x.0).1 ++ x.1)) (sym r.number_is); fits = r.takes.fits }, r.fits)

-- What is decoded is the code whose encoding the bytes are.
code_takes : (most : ℕ) (bytes : List ℕ) (code : List Instr) → IsBytes bytes → code_of most bytes ≡ Some code → (bytes ≡ code_bytes code) × AllByRecursion FitsMachine code
unfolding code_of
code_takes most [] code fits e = let nil : [] ≡ code = some_is [] code e in subst (λ c. ([] ≡ code_bytes c) × AllByRecursion FitsMachine c) nil (refl, tt)
code_takes zero (b ∷ bytes) code fits e = absurd cc
code_takes (suc most) (b ∷ bytes) code fits e =
    let a = option_ok (instruction_at (b ∷ bytes)) (λ i. then_option (code_of most i.1) (λ code. Some (i.0 ∷ code))) code e in
    let c = option_ok (code_of most a.0.1) (λ code. Some (a.0.0 ∷ code)) code a.2 in
    let s = instruction_takes (b ∷ bytes) a.0 fits a.1 in
    let t = code_takes most a.0.1 c.0 s.0.fits c.1 in
    subst (λ d. ((b ∷ bytes) ≡ code_bytes d) × AllByRecursion FitsMachine d) (some_is (a.0.0 ∷ c.0) code c.2) (s.0.parts ∙ ap (λ r. instruction_bytes a.0.0 ++ r) t.0, (s.1, t.1))

-- the operands of a form
abbrev IsShaped : Form → Operands → Type 0
IsShaped (plain i) Nothing = Unit {0}
IsShaped (with_word f) (Word a) = Unit {0}
IsShaped (with_one f) (One a) = Unit {0}
IsShaped (with_two f) (Two a b) = Unit {0}
IsShaped (with_three f) (Three a b c) = Unit {0}
IsShaped _ _ = ⊥

-- where an instruction's form stands
pub record Finds (i : Instr) : Type 0 where
  pub form : Form
  pub place : ℕ
  pub number : (parts_of i).0 ≡ suc place
  pub is : slice_get forms place ≡ Some form
  pub shaped : IsShaped form (parts_of i).1

pub finds : (i : Instr) → Finds i
unfolding parts_of
finds (Const a) = record { form = with_word Const; place = 0; number = refl; is = refl; shaped = tt }
finds (GetLocal a) = record { form = with_one GetLocal; place = 1; number = refl; is = refl; shaped = tt }
finds (SetLocal a) = record { form = with_one SetLocal; place = 2; number = refl; is = refl; shaped = tt }
finds Pop = record { form = plain Pop; place = 3; number = refl; is = refl; shaped = tt }
finds Duplicate = record { form = plain Duplicate; place = 4; number = refl; is = refl; shaped = tt }
finds Add = record { form = plain Add; place = 5; number = refl; is = refl; shaped = tt }
finds Subtract = record { form = plain Subtract; place = 6; number = refl; is = refl; shaped = tt }
finds Multiply = record { form = plain Multiply; place = 7; number = refl; is = refl; shaped = tt }
finds DivideSigned = record { form = plain DivideSigned; place = 8; number = refl; is = refl; shaped = tt }
finds DivideUnsigned = record { form = plain DivideUnsigned; place = 9; number = refl; is = refl; shaped = tt }
finds RemainderSigned = record { form = plain RemainderSigned; place = 10; number = refl; is = refl; shaped = tt }
finds RemainderUnsigned = record { form = plain RemainderUnsigned; place = 11; number = refl; is = refl; shaped = tt }
finds And = record { form = plain And; place = 12; number = refl; is = refl; shaped = tt }
finds Or = record { form = plain Or; place = 13; number = refl; is = refl; shaped = tt }
finds Xor = record { form = plain Xor; place = 14; number = refl; is = refl; shaped = tt }
finds (ShiftLeft a) = record { form = with_one ShiftLeft; place = 15; number = refl; is = refl; shaped = tt }
finds (ShiftRightSigned a) = record { form = with_one ShiftRightSigned; place = 16; number = refl; is = refl; shaped = tt }
finds (ShiftRightUnsigned a) = record { form = with_one ShiftRightUnsigned; place = 17; number = refl; is = refl; shaped = tt }
finds (Normalize a) = record { form = with_one Normalize; place = 18; number = refl; is = refl; shaped = tt }
finds Equal = record { form = plain Equal; place = 19; number = refl; is = refl; shaped = tt }
finds LessSigned = record { form = plain LessSigned; place = 20; number = refl; is = refl; shaped = tt }
finds LessUnsigned = record { form = plain LessUnsigned; place = 21; number = refl; is = refl; shaped = tt }
finds Not = record { form = plain Not; place = 22; number = refl; is = refl; shaped = tt }
finds (Jump a) = record { form = with_one Jump; place = 23; number = refl; is = refl; shaped = tt }
finds (JumpIfZero a) = record { form = with_one JumpIfZero; place = 24; number = refl; is = refl; shaped = tt }
finds (AddPointer a) = record { form = with_one AddPointer; place = 25; number = refl; is = refl; shaped = tt }
finds (SubtractPointer a) = record { form = with_one SubtractPointer; place = 26; number = refl; is = refl; shaped = tt }
finds (PointerDifference a) = record { form = with_one PointerDifference; place = 27; number = refl; is = refl; shaped = tt }
finds PointerLess = record { form = plain PointerLess; place = 28; number = refl; is = refl; shaped = tt }
finds (CheckPointer a) = record { form = with_one CheckPointer; place = 29; number = refl; is = refl; shaped = tt }
finds (Field a) = record { form = with_one Field; place = 30; number = refl; is = refl; shaped = tt }
finds (Index a b) = record { form = with_two Index; place = 31; number = refl; is = refl; shaped = tt }
finds (IndexEnd a b) = record { form = with_two IndexEnd; place = 32; number = refl; is = refl; shaped = tt }
finds (Load a) = record { form = with_one Load; place = 33; number = refl; is = refl; shaped = tt }
finds (Store a) = record { form = with_one Store; place = 34; number = refl; is = refl; shaped = tt }
finds (CopyBytes a) = record { form = with_one CopyBytes; place = 35; number = refl; is = refl; shaped = tt }
finds (ReadUnion a) = record { form = with_one ReadUnion; place = 36; number = refl; is = refl; shaped = tt }
finds (WriteUnion a b c) = record { form = with_three WriteUnion; place = 37; number = refl; is = refl; shaped = tt }
finds (Call a) = record { form = with_one Call; place = 38; number = refl; is = refl; shaped = tt }
finds (CallIndirect a) = record { form = with_one CallIndirect; place = 39; number = refl; is = refl; shaped = tt }
finds Return = record { form = plain Return; place = 40; number = refl; is = refl; shaped = tt }
finds ReturnValue = record { form = plain ReturnValue; place = 41; number = refl; is = refl; shaped = tt }
finds Swap = record { form = plain Swap; place = 42; number = refl; is = refl; shaped = tt }
finds (Allocate a) = record { form = with_one Allocate; place = 43; number = refl; is = refl; shaped = tt }
finds Free = record { form = plain Free; place = 44; number = refl; is = refl; shaped = tt }
finds SendMessage = record { form = plain SendMessage; place = 45; number = refl; is = refl; shaped = tt }
finds Panic = record { form = plain Panic; place = 46; number = refl; is = refl; shaped = tt }

-- an instruction is read where such operands stand
formed_somehow : (form : Form) (o : Operands) (rest : List ℕ) → IsShaped form o → (i : Instr) × (formed_at form (operand_bytes o ++ rest) ≡ Some (i, rest))
formed_somehow (plain i) Nothing rest h = (i, refl)
formed_somehow (plain i) (One a) rest h = absurd h
formed_somehow (plain i) (Two a b) rest h = absurd h
formed_somehow (plain i) (Three a b c) rest h = absurd h
formed_somehow (plain i) (Word a) rest h = absurd h
formed_somehow (with_word f) Nothing rest h = absurd h
formed_somehow (with_word f) (One a) rest h = absurd h
formed_somehow (with_word f) (Two a b) rest h = absurd h
formed_somehow (with_word f) (Three a b c) rest h = absurd h
formed_somehow (with_word f) (Word a) rest h = (f (from_le_bytes w64 (take 8 (little_endian 8 a ++ rest))), rw (enough a 8 rest, behind_8 a rest) refl)
formed_somehow (with_one f) Nothing rest h = absurd h
formed_somehow (with_one f) (One a) rest h = (f (from_le_bytes w32 (take 4 (little_endian 4 a ++ rest))), rw (enough a 4 rest, behind_4 a rest) refl)
formed_somehow (with_one f) (Two a b) rest h = absurd h
formed_somehow (with_one f) (Three a b c) rest h = absurd h
formed_somehow (with_one f) (Word a) rest h = absurd h
formed_somehow (with_two f) Nothing rest h = absurd h
formed_somehow (with_two f) (One a) rest h = absurd h
formed_somehow (with_two f) (Two a b) rest h =
    let first = from_le_bytes w32 (take 4 (little_endian 4 a ++ (little_endian 4 b ++ rest))) in (
      f first (from_le_bytes w32 (take 4 (little_endian 4 b ++ rest))),
      ap (formed_at (with_two f)) (append_assoc (little_endian 4 a) (little_endian 4 b) rest)
          ∙ rw (enough a 4 (little_endian 4 b ++ rest), behind_4 a (little_endian 4 b ++ rest), enough b 4 rest, behind_4 b rest) refl,
    )
formed_somehow (with_two f) (Three a b c) rest h = absurd h
formed_somehow (with_two f) (Word a) rest h = absurd h
formed_somehow (with_three f) Nothing rest h = absurd h
formed_somehow (with_three f) (One a) rest h = absurd h
formed_somehow (with_three f) (Two a b) rest h = absurd h
formed_somehow (with_three f) (Three a b c) rest h =
    let third = little_endian 4 c ++ rest in
    let second = little_endian 4 b ++ third in (
      f (from_le_bytes w32 (take 4 (little_endian 4 a ++ second))) (from_le_bytes w32 (take 4 second)) (from_le_bytes w32 (take 4 third)),
      ap (formed_at (with_three f)) (append_assoc (little_endian 4 a ++ little_endian 4 b) (little_endian 4 c) rest ∙ append_assoc (little_endian 4 a) (little_endian 4 b) third)
          ∙ rw (enough a 4 second, behind_4 a second, enough b 4 third, behind_4 b third, enough c 4 rest, behind_4 c rest) refl,
    )
formed_somehow (with_three f) (Word a) rest h = absurd h

instruction_somehow : (i : Instr) (rest : List ℕ) → (j : Instr) × (instruction_at (instruction_bytes i ++ rest) ≡ Some (j, rest))
unfolding instruction_at instruction_bytes
instruction_somehow i rest =
    let h = finds i in
    let r = formed_somehow h.form (parts_of i).1 rest h.shaped in
    (r.0, ap (λ n. instruction_at (n ∷ (operand_bytes (parts_of i).1 ++ rest))) h.number ∙ ap (λ o. then_option o (λ form. formed_at form (operand_bytes (parts_of i).1 ++ rest))) h.is ∙ r.1)

-- there is a first byte
some_front : (i : Instr) (rest : List ℕ) → (b : ℕ) × (more : List ℕ) × (instruction_bytes i ++ rest ≡ b ∷ more) × (length rest ≤ length more)
unfolding instruction_bytes
some_front i rest = ((parts_of i).0, operand_bytes (parts_of i).1 ++ rest, refl, omega (arith, length-append (operand_bytes (parts_of i).1) rest))

front_again : (most : ℕ) (i : Instr) (rest : List ℕ) (code : List Instr) → code_of most rest ≡ Some code → (found : List Instr) × (code_of (suc most) (instruction_bytes i ++ rest) ≡ Some found)
unfolding code_of
front_again most i rest code h =
    let f = some_front i rest in
    let j = instruction_somehow i rest in (
      j.0 ∷ code,
      ap (code_of (suc most)) f.2
          ∙ ap (λ o. then_option o (λ x. then_option (code_of most x.1) (λ code. Some (x.0 ∷ code)))) (ap instruction_at (sym f.2) ∙ j.1)
          ∙ ap (λ o. then_option o (λ code. Some (j.0 ∷ code))) h,
    )

code_somehow : (most : ℕ) (code : List Instr) → length code ≤ most → (found : List Instr) × (code_of most (code_bytes code) ≡ Some found)
unfolding code_of
code_somehow most [] le = ([], by most)
  where
    by : (most : ℕ) → code_of most [] ≡ Some []
    by zero = refl
    by (suc n) = refl
code_somehow zero (i ∷ code) le = absurd (omega arith)
code_somehow (suc most) (i ∷ code) le =
    let below = code_somehow most code (omega arith) in
    front_again most i (code_bytes code) below.0 below.1

short_code : (code : List Instr) → length code ≤ length (code_bytes code)
unfolding instruction_bytes
short_code [] = omega arith
short_code (i ∷ code) = omega (arith, short_code code, length-append (instruction_bytes i) (code_bytes code))

-- what is decoded fits, and the bytes are its encoding
pub decoded_takes : (bytes : List ℕ) (code : List Instr) → IsBytes bytes → decoded bytes ≡ Some code → (bytes ≡ code_bytes code) × All FitsMachine code
decoded_takes bytes code fits e =
    let t = code_takes (length bytes) bytes code fits e in (t.0, All-from_recursion FitsMachine code t.1)

-- an encoding is decoded
pub decoded_somehow : (code : List Instr) → (found : List Instr) × (decoded (code_bytes code) ≡ Some found)
decoded_somehow code = code_somehow (length (code_bytes code)) code (short_code code)

-- bytes that no code has are refused
pub code_refused : (at : ℕ) (bytes : List ℕ) → IsBytes bytes → ((code : List Instr) → All FitsMachine code → code_bytes code ≡ bytes → ⊥) → code_in at (decoded bytes) ≡ Err (Table at)
code_refused at bytes fits none = by (decoded bytes) refl
  where
    by : (o : Option (List Instr)) → decoded bytes ≡ o → code_in at o ≡ Err (Table at)
    by None e = refl
    by (Some code) e = let t = decoded_takes bytes code fits e in absurd (none code t.1 (sym t.0))
