use Rattle.std.proofs.Common.{◌≡◌, ◌+◌, ◌<◌, ◌≤◌, length, sym, ap, ◌∙◌, rules, arith, length-append, length-set}
use Rattle.std.proofs.lemmas.List.{take_all}
use Rattle.aes.specs.KeyExpansion.{extended}
use Rattle.aes.specs.Words.{bytes_of}
use Rattle.aes.proofs.Schedule.{key_words, extended_more}
use Rattle.aes.proofs.expansion.expand.Goals as goal

pub loop-n-init : goal.loop-n-init
loop-n-init c = (
  length-append c.copy_from_slice.new.self _ ∙ ap (λ n. n + 40) c.copy_from_slice.ensures.len,
  key_words c.args.key.now c.copy_from_slice.new.self _ c.state_of.result.0 c.copy_from_slice.ensures.after (search rules) c.state_of.ensures,
)

pub loop-n-preserved : goal.loop-n-preserved
loop-n-preserved c =
    let long = c.loop-n.invariant.0 in
    let room : c.loop-n.n + 4 < length c.loop-n.keys = omega arith in (
      length-set c.loop-n.keys (c.loop-n.n + 4) _ ∙ long,
      extended_more c.args.key.now c.loop-n.keys c.loop-n.n c.joining_word.result room c.joining_word.ensures c.loop-n.invariant.1,
    )

pub returns : goal.returns
returns c =
    let h = c.loop-n.invariant.0 in
    let n : c.loop-n.n ≡ 40 = omega arith in
    let long : length c.loop-n.keys ≤ c.loop-n.n + 4 = omega arith in
    ap bytes_of (sym (take_all (c.loop-n.n + 4) c.loop-n.keys long)) ∙ c.loop-n.invariant.1 ∙ ap (extended c.args.key.now) n
