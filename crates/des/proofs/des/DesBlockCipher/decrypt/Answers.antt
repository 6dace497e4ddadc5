use Rattle.std.proofs.Common.{◌≡◌, map, reverse, ap, ◌∙◌, rules}
use Rattle.des_tables.specs.Bits.{bits}
use Rattle.des.specs.Des.{ciphered, decrypts}
use Rattle.des.proofs.Turning.{map_reversed}
use Rattle.des.proofs.des.DesBlockCipher.decrypt.Goals as goal

pub returns : goal.returns
returns c =
    let e : map (bits 48) c.reverse.new.self ≡ reverse (map (bits 48) c.args.self.now.keys) = ap (map (bits 48)) c.reverse.ensures.after ∙ map_reversed (bits 48) c.args.self.now.keys in
    c.apply.ensures ∙ ap (λ ks. ciphered ks c.unwrap-block.result.now) e ∙ ap (decrypts c.args.self.now.keys) (search rules)
