use Rattle.std.proofs.Common.{◌≡◌, ℕ, ◌*◌, ◌/◌, List, length, drop, ap, ◌∙◌, arith}
use Rattle.byte_lists.specs.Bytes.{xors}
use Rattle.cmac.specs.Cmac.{zeros, masked, absorbed, cmac}
use Rattle.cmac.proofs.Folds.{absorbed_front}
use Rattle.cmac.proofs.check.CmacIntegrity.write_check.Goals as goal

pub returns : goal.returns
unfolding cmac
returns g c =
    let E : List ℕ → List ℕ = g.C.BlockCipher.enc c.args.self.now.cipher in
    let message : List ℕ = c.args.message.now in
    let m : ℕ = c.blocks_before_last.result in
    let front : List ℕ = c.split_at.result.0.now in
    let last : List ℕ = c.masked_last.result in
    let count : length front / 16 ≡ m = omega (arith, c.split_at.ensures.front_len) in
    let state : c.absorb.new.state ≡ absorbed E m zeros message =
    c.absorb.ensures ∙ ap (λ k. absorbed E k zeros front) count ∙ ap (absorbed E m zeros) c.split_at.ensures.front ∙ absorbed_front E m zeros message in
    let mask : last ≡ masked E (drop (16 * m) message) = c.masked_last.ensures ∙ ap (masked E) c.split_at.ensures.back in
    c.copy_from_slice.ensures.after
    ∙ c.encrypt.ensures
    ∙ ap E (c.join.ensures ∙ ap (λ s. xors s last) state ∙ ap (xors (absorbed E m zeros message)) mask)
    ∙ ap (λ n. E (xors (absorbed E n zeros message) (masked E (drop (16 * n) message)))) c.blocks_before_last.ensures
