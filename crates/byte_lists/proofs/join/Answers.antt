use Rattle.std.proofs.Common.{◌≡◌, ◌<◌, length, get_or, set, sym, ap, ◌∙◌, arith}
use lib.Bits.{bit_xor}
use Rattle.byte_lists.specs.Bytes.{xors}
use Rattle.byte_lists.proofs.Facts.{length_xors, get_or_xors}
use Rattle.byte_lists.proofs.Written.{over, over_more, over_read, over_all}
use Rattle.byte_lists.proofs.join.Goals as goal

pub loop-i-preserved : goal.loop-i-preserved
loop-i-preserved c =
    let b = c.args.block.now in
    let k = c.args.with.now in
    let i = c.loop-i.i in
    let e : length (xors b k) ≡ length b = length_xors b k in
    let ib : i < length b = omega arith in
    let ik : i < length k = omega arith in
    let ix : i < length (xors b k) = omega arith in
    let was : get_or c.loop-i.block i 0 ≡ get_or b i 0 = ap (λ zs. get_or zs i 0) c.loop-i.invariant ∙ over_read (xors b k) b i 0 e ix in
    let put : bit_xor (get_or c.loop-i.block i 0) (get_or k i 0) ≡ get_or (xors b k) i 0 = ap (λ x. bit_xor x (get_or k i 0)) was ∙ sym (get_or_xors b k i ib ik) in
    let more = over_more (xors b k) b i 0 e ix in
    ap (λ zs. set zs i (bit_xor (get_or c.loop-i.block i 0) (get_or k i 0))) c.loop-i.invariant ∙ ap (λ x. set (over (xors b k) b i) i x) put ∙ more

pub returns : goal.returns
returns c =
    let e = length_xors c.args.block.now c.args.with.now in
    c.loop-i.invariant ∙ over_all _ _ _ e (omega arith)
