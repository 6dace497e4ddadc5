use Rattle.std.proofs.Common.{◌≡◌, ◌<◌, ◌/◌, [], get_or, ap, ◌∙◌, arith}
use Rattle.std.specs.Int.{from_be_bytes, w32}
use Rattle.std.specs.Simd.{first_chunks}
use Rattle.std.proofs.lemmas.List.{length-set}
use Rattle.compression.proofs.Steps.{words_none, words_more, word_in}
use Rattle.compression.proofs.block.parse.Goals as goal

pub loop-t-init : goal.loop-t-init
loop-t-init c = record { long = c.told-w; so_far = words_none c.args.w.now c.args.block.now }

pub loop-t-preserved : goal.loop-t-preserved
loop-t-preserved c =
    let b = c.args.block.now in
    let t = c.loop-t.t in
    let x = c.from_be_bytes.result in
    let l = c.loop-t.invariant.long in
    let cut : c.as_chunks.result.0.now ≡ first_chunks 4 16 b = c.as_chunks.ensures.front ∙ ap (λ n. first_chunks 4 (n / 4) b) c.told-block in
    let inside : t < 16 = omega arith in
    let is = c.from_be_bytes.ensures ∙ ap (λ xs. from_be_bytes w32 (get_or xs t [])) cut ∙ word_in b t inside in
    record {
      long = length-set c.loop-t.w t x ∙ l;
      so_far = words_more c.loop-t.w b t x (omega arith) is c.loop-t.invariant.so_far;
    }
