use Rattle.std.proofs.Common.{rules}
use Rattle.byte_lists.specs.Bytes.{Bytes}
use Rattle.byte_lists.proofs.Facts.{bytes_of}
use Rattle.cipher.specs.Cbc.{forth}
use Rattle.cipher.proofs.Undo.{encrypted_undone}
use Rattle.cipher.proofs.cbc.cbc_encrypt.Goals as goal

pub returns-clause-undone : goal.returns-clause-undone
returns-clause-undone g c =
    let laws = g.met.C.BlockCipher.permutes c.args.cipher.now in
    let bytes : Bytes c.args.buf.now = bytes_of _ (λ i. search rules) in
    let text = c.chain.ensures (forth (g.C.BlockCipher.enc c.args.cipher.now)) (forth (g.C.BlockCipher.enc c.args.cipher.now)) (λ a b x y p. search rules) in
    encrypted_undone _ _ _ laws c.args.from c.args.buf.now c.chain.new.text c.requires.0 c.requires.1 bytes _ c.BLOCK.ensures text
