use Rattle.std.proofs.Common.{◌≡◌, ◌-◌, ◌<◌, length, take, drop, ap, ◌∙◌, arith}
use lib.ListN.{length-reverse}
use Rattle.std.proofs.lemmas.List.{length_push}
use Rattle.std.proofs.lemmas.Iterator.Adapters.{YieldsList-from_rev_slice}
use Rattle.std.proofs.lemmas.Iterator.Consumers.{YieldsList-turn, YieldsList-end}
use Rattle.aes.specs.Cipher.{inv_round, inv_rounds, inv_final_round}
use Rattle.aes.specs.Columns.{state_bytes}
use Rattle.aes.specs.Words.{bytes_of}
use Rattle.aes.proofs.Rounds.{inv_rounds_more, middle_long, middle_back, decrypted_made}
use Rattle.aes.proofs.blocks.decrypt_block.Goals as goal

pub loop-key-preserved : goal.loop-key-preserved
loop-key-preserved c =
    let w = bytes_of c.args.keys.now in
    let ks = c.round_keys-round_keys in
    let mid = take 9 (drop 1 ks.result.now) in
    let i = length c.loop-key.yielded in
    let s = state_bytes c.loop-key.s in
    let x = state_bytes c.back-s.result in
    let m = middle_long ks.result.now w ks.ensures.eleven ks.ensures.each in
    let t = YieldsList-turn (YieldsList-from_rev_slice mid cc) c.loop-key.yielded _ c.loop-key.yielded_by _ _ c.in-Some.key c.in-Some.is c.next.ensures.steps in
    let h : i < 9 = omega (arith, t.0, length-reverse mid, m) in
    let e = c.back-s.ensures ∙ ap (λ k. inv_round k s) (middle_back ks.result.now w ks.ensures.eleven ks.ensures.each i _ h t.1) in
    ap (λ n. inv_rounds w (9 - n) x) (length_push c.loop-key.yielded c.in-Some.key) ∙ inv_rounds_more w s _ x i h e c.loop-key.invariant

pub returns : goal.returns
returns c =
    let w = bytes_of c.args.keys.now in
    let ks = c.round_keys-round_keys in
    let mid = take 9 (drop 1 ks.result.now) in
    let each = ks.ensures.each in
    let m = middle_long ks.result.now w ks.ensures.eleven each in
    let t = YieldsList-end (YieldsList-from_rev_slice mid cc) c.loop-key.yielded _ c.loop-key.yielded_by _ _ c.in-None.is c.next.ensures.steps in
    let n : length c.loop-key.yielded ≡ 9 = omega (arith, t.1, length-reverse mid, m) in
    decrypted_made w c.args.block.now (state_bytes c.first_back-s.result) (state_bytes c.loop-key.s) c.write.new.block
    _ _ (length c.loop-key.yielded) n
    (c.first_back-s.ensures ∙ ap (inv_final_round _) c.state_of.ensures) (each 10 (omega arith)) c.loop-key.invariant (c.write.ensures ∙ c.add_round_key.ensures) (each 0 (omega arith))
