use Rattle.std.proofs.Common.{◌≡◌, ◌≢◌, ◌∙◌, ◌-◌, refl, sym, ℕ, zero, suc, length, arith}
use Rattle.bm_cpu.proofs.Rows.{next_after}
use Rattle.bm_cpu.proofs.objects.next_address.Goals as goal

one_less : (n : ℕ) → n ≢ 0 → n ≡ suc (n - 1)
one_less zero h = absurd (h refl)
one_less (suc n) h = omega arith

pub returns-else-count-eq0-clause-is : goal.returns-else-count-eq0-clause-is
returns-else-count-eq0-clause-is c =
    let rows = c.args.objects.now in
    let n = c.len-count.result in
    let long : length rows ≡ suc (n - 1) = sym c.len-count.ensures.count ∙ one_less n c.if-count-eq0.false in
    c.address_after.ensures ∙ sym (next_after rows (n - 1) c.row-last.result c.row-last.ensures long)
