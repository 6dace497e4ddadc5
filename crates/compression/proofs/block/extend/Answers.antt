use Rattle.std.proofs.Common.{◌≡◌, ◌+◌, ◌-◌, take, sym, refl, ap, ◌∙◌, arith}
use Rattle.std.proofs.lemmas.List.{take_all, length-set}
use Rattle.compression.specs.Compression.{extended}
use Rattle.compression.proofs.Steps.{extended_none, extended_more}
use Rattle.compression.proofs.block.extend.Goals as goal

pub loop-t-init : goal.loop-t-init
loop-t-init c = record { long = c.told-w; so_far = extended_none _ _ refl }

pub loop-t-preserved : goal.loop-t-preserved
loop-t-preserved c =
    let t = c.loop-t.t in
    let ws = take 16 c.args.w.now in
    let e : t - 16 + 1 ≡ t + 1 - 16 = omega arith in
    let l = c.loop-t.invariant.long in
    record {
      long = length-set c.loop-t.w t c.next_word.result ∙ l;
      so_far = extended_more c.loop-t.w ws (t - 16) t c.next_word.result (omega arith) (omega arith) c.next_word.ensures c.loop-t.invariant.so_far ∙ ap (λ k. extended k ws) e;
    }

pub returns : goal.returns
returns c =
    let e : c.loop-t.t - 16 ≡ 48 = omega arith in
    let l = c.loop-t.invariant.long in
    sym (take_all c.loop-t.t c.loop-t.w (omega arith)) ∙ c.loop-t.invariant.so_far ∙ ap (λ n. extended n (take 16 c.args.w.now)) e
