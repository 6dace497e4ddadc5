use Rattle.std.proofs.Common.{◌≡◌, ◌<◌, [], get_or, ap, ◌∙◌, arith}
use Rattle.byte_lists.specs.Bytes.{xors}
use Rattle.aes.specs.Cipher.{round}
use Rattle.aes.specs.Columns.{state_bytes}
use Rattle.aes.specs.Words.{bytes_of}
use Rattle.aes.proofs.Rounds.{rounds_none, rounds_more, middle_long, middle_key, encrypted_made}
use Rattle.aes.proofs.blocks.encrypt_block.Goals as goal

pub loop-key-init : goal.loop-key-init
loop-key-init c = rounds_none (bytes_of c.args.keys.now) (state_bytes c.add_round_key-s.result)

pub loop-key-preserved : goal.loop-key-preserved
loop-key-preserved c =
    let w = bytes_of c.args.keys.now in
    let ks = c.round_keys-round_keys in
    let i = c.loop-key.key-index in
    let s = state_bytes c.loop-key.s in
    let m = middle_long ks.result.now w ks.ensures.eleven ks.ensures.each in
    let h : i < 9 = omega (arith, c.loop-key-test.true) in
    rounds_more w (state_bytes c.add_round_key-s.result) s (state_bytes c.forward-s.result) i
    (c.forward-s.ensures ∙ ap (λ k. round k s) (middle_key ks.result.now w ks.ensures.eleven ks.ensures.each i h)) c.loop-key.invariant

pub returns : goal.returns
returns c =
    let w = bytes_of c.args.keys.now in
    let ks = c.round_keys-round_keys in
    let each = ks.ensures.each in
    let first = bytes_of (get_or ks.result.now 0 []) in
    let m = middle_long ks.result.now w ks.ensures.eleven each in
    let n : c.loop-key.key-index ≡ 9 = omega (arith, c.loop-key-test.false, c.loop-key.auto.key-index-end) in
    encrypted_made w c.args.block.now (state_bytes c.add_round_key-s.result) (state_bytes c.loop-key.s) c.write.new.block
    first _ c.loop-key.key-index n
    (c.add_round_key-s.ensures ∙ ap (λ y. xors y first) c.state_of.ensures) (each 0 (omega arith)) c.loop-key.invariant (c.write.ensures ∙ c.last_forward.ensures) (each 10 (omega arith))
