use Rattle.std.proofs.Common.{◌≡◌, ℕ, List, map, reverse, sym, ap, ◌∙◌}
use Rattle.byte_lists.specs.Bytes.{Block}
use Rattle.byte_lists.specs.Numbers.{number}
use Rattle.des_tables.specs.Bits.{bits}
use Rattle.des.specs.Schedule.{schedule}
use Rattle.des.specs.Des.{ciphered}
use Rattle.des.proofs.Parity.{schedule_parity}
use Rattle.des.proofs.des.Des.new.Goals as goal

pub returns : goal.returns
returns c =
    let key : List ℕ = c.args.key.now in
    let block : Block 8 key = (c.told-key, c.fits-key) in
    let made : map (bits 48) c.expand.result ≡ schedule (bits 64 (number key)) = c.expand.ensures ∙ ap (λ x. schedule (bits 64 x)) c.read.ensures in
    record {
      encrypts = λ b. ap (λ ks. ciphered ks b) made;
      decrypts = λ b. ap (λ ks. ciphered (reverse ks) b) made;
      parity = λ other h e b.
          let same : schedule (bits 64 (number other)) ≡ map (bits 48) c.expand.result = schedule_parity other key h block e ∙ sym made in
          (ap (λ ks. ciphered ks b) same, ap (λ ks. ciphered (reverse ks) b) same);
    }
