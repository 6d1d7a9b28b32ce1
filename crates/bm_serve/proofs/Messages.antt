-- The outgoing message.
use Rattle.std.proofs.Common.{◌≡◌, ◌∙◌, refl, ap, sym, Bool, true, false, cond, ℕ, ℤ, List, [], ◌∷◌, length, drop, Option, Some, None, nat_lt}
use Rattle.std.specs.Prelude.{slice_get}
use Rattle.std.proofs.lemmas.List.{drop-drop}
use Rattle.lu_spec.specs.Then.{then_option}
use Rattle.lu_base.specs.declared.limits.TheConstants.{MESSAGE_BYTES}
use Rattle.lu_base.specs.Sending.{Sent}
use Rattle.bm_mem.specs.Content.{Content}
use Rattle.bm_objects.specs.declared.row.Row.{Row}
use Rattle.bm_code.specs.declared.code.MachineCode.{MachineCode}
use Rattle.bm_code.specs.declared.code.MachineGlobal.{MachineGlobal}
use Rattle.bm_code.specs.Process.{Activity}
use Rattle.bm_code.specs.Access.{read_at}
use Rattle.bm_code.specs.Services.{int_of, message_of, message_bytes}
use Rattle.bm_serve.specs.Held.{held, process_of}
use Rattle.bm_serve.specs.Sent.{outgoing_row}

pub message_is : (source kind a b c d e f : ℤ) (bytes : List ℕ) → source ≡ int_of bytes → kind ≡ int_of (drop 4 bytes) → a ≡ int_of (drop 8 bytes) → b ≡ int_of (drop 12 bytes) → c ≡ int_of (drop 16 bytes) → d ≡ int_of (drop 20 bytes) → e ≡ int_of (drop 24 bytes) → f ≡ int_of (drop 28 bytes) → record { source = source; kind = kind; arg = a ∷ b ∷ c ∷ d ∷ e ∷ f ∷ [] } ≡ message_of bytes
message_is source kind a b c d e f bytes s k a_is b_is c_is d_is e_is f_is =
    let p1 : drop 4 (drop 8 bytes) ≡ drop 12 bytes = drop-drop 4 8 bytes in
    let p2 : drop 4 (drop 4 (drop 8 bytes)) ≡ drop 16 bytes = ap (drop 4) p1 ∙ drop-drop 4 12 bytes in
    let p3 : drop 4 (drop 4 (drop 4 (drop 8 bytes))) ≡ drop 20 bytes = ap (drop 4) p2 ∙ drop-drop 4 16 bytes in
    let p4 : drop 4 (drop 4 (drop 4 (drop 4 (drop 8 bytes)))) ≡ drop 24 bytes = ap (drop 4) p3 ∙ drop-drop 4 20 bytes in
    let p5 : drop 4 (drop 4 (drop 4 (drop 4 (drop 4 (drop 8 bytes))))) ≡ drop 28 bytes = ap (drop 4) p4 ∙ drop-drop 4 24 bytes in
    let b2 : b ≡ int_of (drop 4 (drop 8 bytes)) = b_is ∙ ap int_of (sym p1) in
    let c2 : c ≡ int_of (drop 4 (drop 4 (drop 8 bytes))) = c_is ∙ ap int_of (sym p2) in
    let d2 : d ≡ int_of (drop 4 (drop 4 (drop 4 (drop 8 bytes)))) = d_is ∙ ap int_of (sym p3) in
    let e2 : e ≡ int_of (drop 4 (drop 4 (drop 4 (drop 4 (drop 8 bytes))))) = e_is ∙ ap int_of (sym p4) in
    let f2 : f ≡ int_of (drop 4 (drop 4 (drop 4 (drop 4 (drop 4 (drop 8 bytes)))))) = f_is ∙ ap int_of (sym p5) in
    rw s (rw k (rw a_is (rw b2 (rw c2 (rw d2 (rw e2 (rw f2 refl)))))))

module _ (code : MachineCode) (m : Content) (rows : List Row) where
  abbrev from_row : Option Row → Option (List ℕ)
  from_row o = then_option o (λ r. read_at m rows r.addr MESSAGE_BYTES)

  module _ (next : ℕ) (outbox : List Sent) (activity : Activity) (spare : ℕ) where
    abbrev bytes : Option (List ℕ)
    bytes = message_bytes code (process_of (held m rows next outbox) activity spare)

    by_global : (o : Option MachineGlobal) → then_option o (λ g. cond (nat_lt (length g.bytes) MESSAGE_BYTES) None (from_row (slice_get rows 1))) ≡ from_row (then_option o (λ g. cond (nat_lt (length g.bytes) MESSAGE_BYTES) None (slice_get rows 1)))
    by_global None = refl
    by_global (Some g) = by_test (nat_lt (length g.bytes) MESSAGE_BYTES)
      where
        by_test : (b : Bool) → cond b None (from_row (slice_get rows 1)) ≡ from_row (cond b None (slice_get rows 1))
        by_test true = refl
        by_test false = refl

    through_row : bytes ≡ from_row (outgoing_row code rows)
    through_row = by_global (slice_get code.globals 1)

    pub read_through : (r : Row) → Some r ≡ outgoing_row code rows → bytes ≡ read_at m rows r.addr MESSAGE_BYTES
    read_through r e = through_row ∙ ap from_row (sym e)

    pub no_row : None ≡ outgoing_row code rows → bytes ≡ None
    no_row e = through_row ∙ ap from_row (sym e)
