-- SEND does what `send` does with the message.
use Rattle.std.proofs.Common.{◌≡◌, ◌∙◌, refl, ap, Bool, true, false, cond, List, [], ◌∷◌, ◌++◌, length, arith, nat_lt}
use Rattle.std.specs.Prelude.{ℤ, pos, negsuc}
use Rattle.std.specs.Int.{w64, cast_signed}
use Rattle.std.proofs.lemmas.Int.{ints}
use Rattle.std.proofs.lemmas.Bool.Decides.{nat_tests}
use Rattle.lu_base.specs.declared.message.Message.{Message}
use Rattle.lu_base.specs.declared.world.World.{World}
use Rattle.lu_base.specs.Sending.{Sent, from_server, sent, is_recipient}
use Rattle.c_types.specs.declared.parts.IntKind.TheVariants as K
use Rattle.src_meaning.specs.Integers.{is_held, residue}
use Rattle.bm_alu.specs.Words.{signed, of_signed}
use Rattle.cg_state.proofs.Words.{held_pos, held_neg, wrapped_of_held}

-- an int's word as a number
pub signed_back : (z : ℤ) → is_held K.Int z ≡ true → signed (of_signed z) ≡ z
signed_back z h = ap (cast_signed w64) (bits z h) ∙ wrapped_of_held K.LongLong z (wider z h)
  where
    wider : (z : ℤ) → is_held K.Int z ≡ true → is_held K.LongLong z ≡ true
    wider (pos n) h = grind (arith, nat_tests, h)
    wider (negsuc n) h = grind (arith, nat_tests, h)

    bits : (z : ℤ) → is_held K.Int z ≡ true → of_signed z ≡ residue K.LongLong z
    bits (pos n) h = let b = held_pos K.Int n h in omega (arith, ints, b)
    bits (negsuc n) h = let b = held_neg K.Int n h in omega (arith, ints, b)

pub answer_held : (world : World) (sends : List Sent) (z : ℤ) (m : Message) → is_held K.Int (sent world sends z m).0 ≡ true
answer_held world sends z m = by (is_recipient world z) (nat_lt (length sends) 16)
  where
    answers : Bool → Bool → ℤ × List Sent
    answers a b = cond a (cond b (pos 0, sends ++ (z, from_server world m) ∷ []) (negsuc 0, sends)) (negsuc 1, sends)

    by : (a b : Bool) → is_held K.Int (answers a b).0 ≡ true
    by true true = refl
    by true false = refl
    by false b = refl
