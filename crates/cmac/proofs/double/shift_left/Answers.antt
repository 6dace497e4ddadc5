use Rattle.std.proofs.Common.{◌≡◌, ◌+◌, ◌*◌, ◌/◌, ◌%◌, slice_index, ap, ◌∙◌, rules, arith}
use Rattle.byte_lists.proofs.Written.{over_all}
use Rattle.cmac.specs.Cmac.{shifted}
use Rattle.cmac.specs.Shift.{shift_on, length_shifted}
use Rattle.cmac.proofs.double.shift_left.Goals as goal

pub loop-i-preserved : goal.loop-i-preserved
loop-i-preserved c =
    let xs = c.args.block.now in
    let i = c.loop-i.i in
    let behind : c.unwrap_or.result ≡ slice_index xs (i + 1) = search rules in
    shift_on xs c.loop-i.byte-items i c.shifted_byte.result (omega arith) c.loop-i.invariant
    (c.shifted_byte.ensures ∙ ap (λ n. slice_index c.loop-i.byte-items i * 2 % 256 + n / 128) behind)

pub returns : goal.returns
returns c =
    let xs = c.args.block.now in
    let long = length_shifted xs in
    c.loop-i.invariant ∙ over_all (shifted xs) xs c.loop-i.i long (omega arith)
