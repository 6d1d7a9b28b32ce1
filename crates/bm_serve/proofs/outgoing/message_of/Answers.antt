use Rattle.std.proofs.Common.{◌≡◌, ◌∙◌, ap, length, drop}
use Rattle.std.specs.Int.{w32}
use Rattle.std.proofs.lemmas.Int.{to_z-of_z}
use Rattle.bm_serve.proofs.Messages.{message_is}
use Rattle.bm_serve.proofs.outgoing.message_of.Goals as goal

pub returns : goal.returns
returns c =
    let s = to_z-of_z w32 c.int_at.result (record { sfits = c.int_at.type_inv }) ∙ c.int_at.ensures in
    let r0 = to_z-of_z w32 c.int_at-2.result (record { sfits = c.int_at-2.type_inv }) ∙ c.int_at-2.ensures in
    let r1 = to_z-of_z w32 c.int_at-3.result (record { sfits = c.int_at-3.type_inv }) ∙ c.int_at-3.ensures in
    let r2 = to_z-of_z w32 c.int_at-4.result (record { sfits = c.int_at-4.type_inv }) ∙ c.int_at-4.ensures in
    let r3 = to_z-of_z w32 c.int_at-5.result (record { sfits = c.int_at-5.type_inv }) ∙ c.int_at-5.ensures in
    let r4 = to_z-of_z w32 c.int_at-6.result (record { sfits = c.int_at-6.type_inv }) ∙ c.int_at-6.ensures in
    let r5 = to_z-of_z w32 c.int_at-7.result (record { sfits = c.int_at-7.type_inv }) ∙ c.int_at-7.ensures in
    let r6 = to_z-of_z w32 c.int_at-8.result (record { sfits = c.int_at-8.type_inv }) ∙ c.int_at-8.ensures in
    message_is _ _ _ _ _ _ _ _ c.args.bytes.now s r0 r1 r2 r3 r4 r5 r6
