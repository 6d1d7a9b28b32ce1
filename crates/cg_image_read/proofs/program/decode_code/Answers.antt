use Rattle.std.proofs.Common.{◌∙◌, ap, sym, arith, Ok, ◌<◌, get_or, ℕ}
use Rattle.cg_image_read.specs.Decoding.{decoded}
use Rattle.cg_image_read.specs.Items.{code_in}
use Rattle.cg_image_read.proofs.DecodingLemmas.{decoded_takes, decoded_somehow, code_refused}
use Rattle.cg_image_read.proofs.program.decode_code.Goals as goal

pub returns-in-Ok : goal.returns-in-Ok
returns-in-Ok c =
    let text = c.args.text.now in
    let h = decoded_somehow c.in-Ok.code.items in
    let d = ap decoded (sym c.in-Ok.ensures.encoded) ∙ h.1 in
    let low : (i : ℕ) → get_or text i 0 < 256 = λ i. omega (arith, c.type_inv.text i) in
    let t = decoded_takes text h.0 low d in
    ap (code_in c.args.at) d ∙ ap Ok (sym (c.in-Ok.ensures.decoded h.0 t.1 (sym t.0)) ∙ sym c.from_vec.ensures)

pub returns-in-Err-Bad : goal.returns-in-Err-Bad
returns-in-Err-Bad c =
    let text = c.args.text.now in
    let low : (i : ℕ) → get_or text i 0 < 256 = λ i. omega (arith, c.type_inv.text i) in
    λ plain. code_refused c.args.at text low (λ code fits e.
    let wrong = c.in-Err-Bad.ensures.decoded code fits e in
    let bad = c.in-Err-Bad.field-0-is in
    absurd cc)
