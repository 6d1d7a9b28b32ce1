use Rattle.std.proofs.Common.{◌∙◌, ◌++◌, sym, ap, rules, arith, get_or, ◌<◌, ℕ}
use Rattle.std.specs.Int.{from_le_bytes, w64}
use Rattle.lu_spec.specs.LittleEndian.{little_endian}
use Rattle.lu_spec.proofs.LittleEndianLemmas.{front_8}
use Rattle.bm_isa.proofs.decoder.split_word.Goals as goal

pub returns : goal.returns
returns c =
    let h = c.in_ok-front.ensures.cases in
    let low : (i : ℕ) → get_or c.args.bytes.now i 0 < 256 = λ i. omega (arith, c.type_inv.bytes i) in
    (front_8 c.args.bytes.now c.from_le_bytes.result (omega (arith, h.2)) low (c.from_le_bytes.ensures ∙ ap (from_le_bytes w64) h.0) ∙ ap (λ l. little_endian 8 c.from_le_bytes.result ++ l) (sym h.1), search rules)
