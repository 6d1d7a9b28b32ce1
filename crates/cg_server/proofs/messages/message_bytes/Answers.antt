use Rattle.std.proofs.Common.{◌∙◌, ap, ◌∷◌, get_or, pos, ℕ}
use Rattle.lu_spec.specs.Splice.{spliced}
use Rattle.bm_cpu.specs.Words.{word_bytes, words_bytes}
use Rattle.cg_server.proofs.Bytes.{ints_put, six_of}
use Rattle.cg_server.proofs.messages.message_bytes.Goals as goal

pub returns : goal.returns
returns c =
    let m = c.args.message.now in
    let xs = c.arguments-arg.result.now in
    let x = λ (i : ℕ). get_or xs i (pos 0) in
    c.put_int-8.ensures
    ∙ ap (λ l. spliced l 28 (word_bytes (x 5))) (c.put_int-7.ensures
    ∙ ap (λ l. spliced l 24 (word_bytes (x 4))) (c.put_int-6.ensures
    ∙ ap (λ l. spliced l 20 (word_bytes (x 3))) (c.put_int-5.ensures
    ∙ ap (λ l. spliced l 16 (word_bytes (x 2))) (c.put_int-4.ensures
    ∙ ap (λ l. spliced l 12 (word_bytes (x 1))) (c.put_int-3.ensures
    ∙ ap (λ l. spliced l 8 (word_bytes (x 0))) (c.put_int-2.ensures
    ∙ ap (λ l. spliced l 4 (word_bytes m.kind)) c.put_int.ensures))))))
    ∙ (ints_put m.source m.kind (x 0) (x 1) (x 2) (x 3) (x 4) (x 5)
    ∙ ap (λ l. words_bytes (m.source ∷ m.kind ∷ l)) (six_of xs (pos 0) c.arguments-arg.ensures.count ∙ c.arguments-arg.ensures.list))
