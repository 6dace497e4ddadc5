use Rattle.std.proofs.Common.{◌≡◌, ℕ, ◌%◌, List, length, sym, ◌∙◌, ap, rules}
use Rattle.byte_lists.proofs.Facts.{bytes_of}
use Rattle.frame.specs.Frame.{text_of, told}
use Rattle.envelope.proofs.Opening.{deciphered_is, found}
use Rattle.envelope.proofs.open_under.Goals as goal

pub returns-else-is_none : goal.returns-else-is_none
returns-else-is_none g c =
    let n : ℕ = g.C.BlockCipher.BLOCK in
    let size : ℕ = g.I.Integrity.LEN in
    let check : List ℕ → List ℕ = g.I.Integrity.check c.args.mechanism.now in
    let z : List ℕ = c.args.string.now in
    let p : List ℕ = c.cbc_decrypt.new.buf in
    let whole : length z % n ≡ 0 = ap (λ k. length z % k) (sym c.BLOCK.ensures) ∙ c.if-string-BLOCK-ne0.false in
    let is = deciphered_is n size (g.C.BlockCipher.dec c.args.cipher.now) check z p (bytes_of z (λ i. search rules)) whole c.cbc_decrypt.ensures.is in
    found n size check z p c.cbc_decrypt.auto.buf _ c.read_frame-opened.result is
    (c.read_frame-opened.ensures ∙ ap (λ k. told (text_of k size check p)) c.BLOCK-2.ensures ∙ ap told (sym is)) c.if-is_none.ensures
